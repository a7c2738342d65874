-- The laws of a scan. Whoever proves a loop cites them and never opens the definition.
use Prim.Native.Nat.{ℕ, zero, suc, ◌+◌, ◌-◌, ◌≤◌, ◌<◌}
use mathlib.Core.Bool.{Bool, true, false, cond, ◌&&◌}
use mathlib.Core.List.{List, [], ◌∷◌, ◌++◌}
use mathlib.Core.Path.{◌≡◌, refl, sym, ◌∙◌}
use native.Mathlib.Numerals.{add-one}
use native.Mathlib.Omega.{arith}
use borrow.Author.Tests.{le-leb, lt-leb}
use lib.Dec.{leb}
use lib.ListN.{length, get_or, drop, length-drop, drop_of_length-le}
use lib.Seq.{drop-cons, drop-drop, drop-append-add, get_or-drop}
use Rattle.text_bytes.specs.Scan.{run, scan}
use Rattle.text_bytes.proofs.Ranges.{and_true, either}

-- One turn of a loop that looks at one byte: the three laws that prove every scan. A byte of the class: one further
pub scan_on : (p : ℕ → Bool) (s : List ℕ) (i : ℕ) → i < length s → p (get_or s i 0) ≡ true → scan p s i ≡ scan p s (i + 1)
unfolding scan run
scan_on p s i h f = simp (drop-cons s i 0 h, f, add-one) (omega arith)

-- any other: here
pub scan_off : (p : ℕ → Bool) (s : List ℕ) (i : ℕ) → i < length s → p (get_or s i 0) ≡ false → scan p s i ≡ i
unfolding scan run
scan_off p s i h f = simp (drop-cons s i 0 h, f) (omega arith)

-- the end: here
pub scan_past : (p : ℕ → Bool) (s : List ℕ) (i : ℕ) → length s ≤ i → scan p s i ≡ i
unfolding scan run
scan_past p s i h = simp (drop_of_length-le s h) (omega arith)

-- The same for a loop that scans and does more: from i on the scan comes to what it comes to from `at` on.
pub record Scanning (p : ℕ → Bool) (s : List ℕ) (at i : ℕ) : Type 0 where
  pub same : scan p s i ≡ scan p s at

pub scan_start : (p : ℕ → Bool) (s : List ℕ) (at : ℕ) → Scanning p s at at
scan_start p s at = record { same = refl }

-- r is what the test of byte i answered
module _ {p : ℕ → Bool} {s : List ℕ} {at i : ℕ} {r : Bool} (v : Scanning p s at i) (q : r ≡ p (get_or s i 0)) where
  pub scan_go : r ≡ true → i < length s → Scanning p s at (i + 1)
  scan_go e h = record { same = sym (scan_on p s i h (sym q ∙ e)) ∙ v.same }

  pub scan_stop : r ≡ false → i < length s → i ≡ scan p s at
  scan_stop e h = sym (scan_off p s i h (sym q ∙ e)) ∙ v.same

pub scan_end : {p : ℕ → Bool} {s : List ℕ} {at i : ℕ} → Scanning p s at i → length s ≤ i → i ≡ scan p s at
scan_end {p} {s} {at} {i} v h = sym (scan_past p s i h) ∙ v.same

pub ruleset scanned = (scan_start, scan_go, scan_stop, scan_end)

pub scan_ge : (p : ℕ → Bool) (s : List ℕ) (i : ℕ) → i ≤ scan p s i
unfolding scan
scan_ge p s i = omega arith

pub run_le : (p : ℕ → Bool) (l : List ℕ) → run p l ≤ length l
unfolding run
run_le p [] = omega arith
run_le p (x ∷ xs) = go (p x) (run_le p xs)
  where
    go : (b : Bool) → run p xs ≤ length xs → cond b (suc (run p xs)) 0 ≤ suc (length xs)
    go true h = omega arith
    go false h = omega arith

pub scan_le : (p : ℕ → Bool) (s : List ℕ) (i : ℕ) → i ≤ length s → scan p s i ≤ length s
unfolding scan
scan_le p s i h = omega (arith, run_le p (drop i s), length-drop i s)

-- The bounds of a scan's end, of the number that a call answered
pub from_scan : (p : ℕ → Bool) (s : List ℕ) (i e : ℕ) → e ≡ scan p s i → i ≤ e
from_scan p s i e q = omega (arith, scan_ge p s i)

pub scan_inside : (p : ℕ → Bool) (s : List ℕ) (i e : ℕ) → e ≡ scan p s i → i ≤ length s → e ≤ length s
scan_inside p s i e q h = omega (arith, scan_le p s i h)

pub run_inside : (p : ℕ → Bool) (s : List ℕ) (i : ℕ) → scan p s i - i ≤ length s
unfolding scan
run_inside p s i = omega (arith, run_le p (drop i s), length-drop i s)

-- shift: a text put in front moves a scan by its bytes
pub scan_shift : (p : ℕ → Bool) (a b : List ℕ) (i : ℕ) → scan p (a ++ b) (length a + i) ≡ length a + scan p b i
unfolding scan
scan_shift p a b i = simp drop-append-add (omega arith)

-- the byte at which a scan stops is of another class, or past the end
run_stops : (p : ℕ → Bool) (l : List ℕ) → p 0 ≡ false → p (get_or l (run p l) 0) ≡ false
unfolding run
run_stops p [] z = z
run_stops p (x ∷ xs) z = go (p x) refl (run_stops p xs z)
  where
    go : (t : Bool) → p x ≡ t → p (get_or xs (run p xs) 0) ≡ false → p (get_or (x ∷ xs) (cond t (suc (run p xs)) 0) 0) ≡ false
    go true e ih = ih
    go false e ih = e

-- a narrower class that stops at a byte outside the wider one: the wider one stops there too
run_narrow : (p q : ℕ → Bool) → ((b : ℕ) → p b ≡ true → q b ≡ true) → (l : List ℕ) → q (get_or l (run p l) 0) ≡ false → run q l ≡ run p l
unfolding run
run_narrow p q w [] e = refl
run_narrow p q w (x ∷ xs) e = go (p x) refl e (run_narrow p q w xs)
  where
    go : (t : Bool) → p x ≡ t → q (get_or (x ∷ xs) (cond t (suc (run p xs)) 0) 0) ≡ false → (q (get_or xs (run p xs) 0) ≡ false → run q xs ≡ run p xs)
        → cond (q x) (suc (run q xs)) 0 ≡ cond t (suc (run p xs)) 0
    go true f e ih = simp (w x f) (omega (arith, ih e))
    go false f e ih = simp e

pub scan_narrow : (p q : ℕ → Bool) (s : List ℕ) (i : ℕ) → ((b : ℕ) → p b ≡ true → q b ≡ true) → q (get_or s (scan p s i) 0) ≡ false → scan q s i ≡ scan p s i
unfolding scan
scan_narrow p q s i w e = rw (run_narrow p q w (drop i s) (rw get_or-drop e))

-- a scan whose first byte is of another class stays
pub scan_here : (p : ℕ → Bool) (s : List ℕ) (i : ℕ) → p (get_or s i 0) ≡ false → i < length s → scan p s i ≡ i
scan_here p s i e h = sym (scan_stop (scan_start p s i) (sym e) refl h)

-- a class that has all bytes of another has no shorter runs
pub run_wider : (p q : ℕ → Bool) → ((b : ℕ) → p b ≡ true → q b ≡ true) → (l : List ℕ) → run p l ≤ run q l
unfolding run
run_wider p q w [] = omega arith
run_wider p q w (x ∷ xs) = go (p x) refl (run_wider p q w xs)
  where
    go : (t : Bool) → p x ≡ t → run p xs ≤ run q xs → cond t (suc (run p xs)) 0 ≤ cond (q x) (suc (run q xs)) 0
    go true e h = simp (w x e) (omega arith)
    go false e h = omega arith

run_along : (p : ℕ → Bool) (l : List ℕ) (k : ℕ) → k ≤ run p l → k + run p (drop k l) ≡ run p l
unfolding run
run_along p l zero h = omega arith
run_along p [] (suc k) h = absurd (omega arith)
run_along p (x ∷ xs) (suc k) h = go (p x) h (run_along p xs k)
  where
    go : (t : Bool) → suc k ≤ cond t (suc (run p xs)) 0 → (k ≤ run p xs → k + run p (drop k xs) ≡ run p xs) → suc k + run p (drop k xs) ≡ cond t (suc (run p xs)) 0
    go true h ih = omega (arith, ih (omega arith))
    go false h ih = absurd (omega arith)

-- from a place inside a run, or from its end, a scan comes to the same
pub scan_along : (p : ℕ → Bool) (s : List ℕ) (i j : ℕ) → i ≤ j → j ≤ scan p s i → scan p s j ≡ scan p s i
unfolding scan
scan_along p s i j h l =
    let k : i + (j - i) ≡ j = omega arith in
    let d : drop (j - i) (drop i s) ≡ drop j s = drop-drop (j - i) i s ∙ rw k in
    let e : j - i + run p (drop j s) ≡ run p (drop i s) = rw (← d) (run_along p (drop i s) (j - i) (omega arith)) in
    omega arith

-- whether the run that starts at i reaches e, by the test of one byte after another
module _ (p : ℕ → Bool) (s : List ℕ) (e : ℕ) where
  pub reach_go : (i j : ℕ) (t u : Bool) → t ≡ p (get_or s i 0) → i < length s → i < e → j ≡ i + 1 → u ≡ leb e (scan p s j) → (t && u) ≡ leb e (scan p s i)
  reach_go i j t u q h l k w =
      either t
      (λ b.
      let g : scan p s (i + 1) ≡ scan p s i = (scan_go (scan_start p s i) q b h).same in
      simp (b, w, k, g))
      (λ b.
      let g : i ≡ scan p s i = scan_stop (scan_start p s i) q b h in
      let f : leb e (scan p s i) ≡ false = lt-leb e (scan p s i) (omega arith) in
      simp (b, f))

  pub reach_last : (i : ℕ) (t : Bool) → t ≡ p (get_or s i 0) → i < length s → e ≡ i + 1 → t ≡ leb e (scan p s i)
  reach_last i t q h k =
      sym (and_true t)
      ∙ reach_go i (i + 1) t true q h (omega arith) refl (sym (le-leb e (scan p s (i + 1)) (omega (arith, scan_ge p s (i + 1)))))
