-- What holds of a text a in which a closing bracket lies ahead: whatever is appended, a reader that does not pass the bracket reads the same.
use Prim.Native.Nat.{ℕ, zero, suc, ◌+◌, ◌-◌, ◌≤◌, ◌<◌}
use mathlib.Core.Bool.{Bool, true, false, cond, ◌&&◌}
use mathlib.Core.Logic.{⊎_elim}
use mathlib.Core.List.{List, [], ◌∷◌, ◌++◌}
use mathlib.Core.Path.{◌≡◌, refl, sym, ◌∙◌}
use native.Mathlib.Omega.{arith}
use borrow.Author.Tests.{eqb-true, eqb-false, ne_eqb, lt-leb}
use lib.Dec.{eqb, leb}
use lib.ListN.{length, get_or, drop, length-append, length-drop, get_or-append, get_or-eq_default}
use lib.Seq.{drop-append-le, take-append-le, drop-drop, get_or-drop}
use Rattle.text_bytes.specs.Scan.{run, scan}
use Rattle.text_bytes.proofs.Scans.{scan_le}
use Rattle.text_bytes.proofs.Ranges.{le_or_lt, either}
use Rattle.text_bytes.specs.Words.{starts_with, part}
use Rattle.text_bytes.specs.Bytes.{within, is_digit, is_hex_digit, is_ascii_ident, is_url_byte}

-- A closing bracket at place i of a, or after it
pub record Ahead (a : List ℕ) (i : ℕ) : Type 0 where
  pub place : ℕ
  pub far : i ≤ place
  pub byte : get_or a place 0 ≡ 41

-- From i to j a reader went forward and passed no closing bracket. This one law of a reader holds that its places grow, and that a bracket ahead stays ahead
pub record Passes (a : List ℕ) (i j : ℕ) : Type 0 where
  pub grows : i ≤ j
  pub bytes : (m : ℕ) → i ≤ m → m < j → get_or a m 0 ≡ 41 → ⊥

pub ahead_inside : {a : List ℕ} {i : ℕ} → Ahead a i → i < length a
ahead_inside {a} {i} h =
    ⊎_elim
    (λ (l : length a ≤ h.place). let z : ◌≡◌ {A = ℕ} 41 0 = sym h.byte ∙ get_or-eq_default a 0 l in absurd (omega arith))
    (λ (l : h.place < length a). omega (arith, h.far))
    (le_or_lt (length a) h.place)

pub ahead_back : {a : List ℕ} {i j : ℕ} → Ahead a j → i ≤ j → Ahead a i
ahead_back h l = record { place = h.place; far = omega arith; byte = h.byte }

pub ahead_pass : {a : List ℕ} {i j : ℕ} → Ahead a i → Passes a i j → Ahead a j
ahead_pass {a} {i} {j} h w =
    ⊎_elim
    (λ (l : j ≤ h.place). let r : Ahead a j = record { place = h.place; far = l; byte = h.byte } in r)
    (λ (l : h.place < j). absurd (w.bytes h.place h.far l h.byte))
    (le_or_lt j h.place)

pub pass_here : (a : List ℕ) (i : ℕ) → Passes a i i
pass_here a i = record { grows = omega arith; bytes = λ m p q e. absurd (omega arith) }

pub pass_trans : {a : List ℕ} {i j k : ℕ} → Passes a i j → Passes a j k → Passes a i k
pass_trans {a} {i} {j} {k} v w =
    record {
      grows = omega arith;
      bytes = λ m p q e. ⊎_elim (λ (l : j ≤ m). w.bytes m l q e) (λ (l : m < j). v.bytes m p l e) (le_or_lt j m);
    }

-- a byte by a test that the bracket does not pass
pub pass_one : (a : List ℕ) (i : ℕ) (t : ℕ → Bool) → t 41 ≡ false → t (get_or a i 0) ≡ true → Passes a i (i + 1)
pass_one a i t s e =
    record {
      grows = omega arith;
      bytes = λ m p q f.
          let k : m ≡ i = omega arith in
          let x : get_or a i 0 ≡ 41 = rw k at f in
          let w : false ≡ true = cc in
          let y : ◌≡◌ {A = ℕ} 0 1 = cc in
          omega arith;
    }

-- scans

pub run_bytes : (p : ℕ → Bool) (l : List ℕ) (k : ℕ) → k < run p l → p (get_or l k 0) ≡ true
unfolding run
run_bytes p [] k h = absurd (omega arith)
run_bytes p (x ∷ xs) k h = go (p x) refl k h (run_bytes p xs)
  where
    go : (t : Bool) → p x ≡ t → (k : ℕ) → k < cond t (suc (run p xs)) 0 → ((m : ℕ) → m < run p xs → p (get_or xs m 0) ≡ true) → p (get_or (x ∷ xs) k 0) ≡ true
    go true e zero h ih = e
    go true e (suc m) h ih = ih m (omega arith)
    go false e k h ih = absurd (omega arith)

pub scan_bytes : (p : ℕ → Bool) (s : List ℕ) (i j : ℕ) → i ≤ j → j < scan p s i → p (get_or s j 0) ≡ true
unfolding scan
scan_bytes p s i j h l =
    let f : p (get_or (drop i s) (j - i) 0) ≡ true = run_bytes p (drop i s) (j - i) (omega arith) in
    let k : i + (j - i) ≡ j = omega arith in
    rw (get_or-drop, k) at f

pub pass_scan : (a : List ℕ) (i : ℕ) (p : ℕ → Bool) → p 41 ≡ false → Passes a i (scan p a i)
unfolding scan
pass_scan a i p s =
    record {
      grows = omega arith;
      bytes = λ m l q e.
          let f : p (get_or (drop i a) (m - i) 0) ≡ true = run_bytes p (drop i a) (m - i) (omega arith) in
          let k : i + (m - i) ≡ m = omega arith in
          let g : p (get_or a m 0) ≡ true = rw (get_or-drop, k) at f in
          let w : false ≡ true = cc in let y : ◌≡◌ {A = ℕ} 0 1 = cc in omega arith;
    }

-- the more laws: with a bracket ahead of i, what is appended changes nothing

-- the list from i on holds a bracket
pub data Stop : List ℕ → Type 0 where
  here : {x : ℕ} {l : List ℕ} → x ≡ 41 → Stop (x ∷ l)
  there : {x : ℕ} {l : List ℕ} → Stop l → Stop (x ∷ l)

stop_at : (l : List ℕ) (k : ℕ) → get_or l k 0 ≡ 41 → Stop l
stop_at [] k e = let z : ◌≡◌ {A = ℕ} 0 1 = cc in absurd (omega arith)
stop_at (x ∷ xs) zero e = here e
stop_at (x ∷ xs) (suc k) e = there (stop_at xs k e)

pub ahead_stop : {a : List ℕ} {i : ℕ} → Ahead a i → Stop (drop i a)
ahead_stop {a} {i} h =
    let k : i + (h.place - i) ≡ h.place = omega (arith, h.far) in
    stop_at (drop i a) (h.place - i) (rw (get_or-drop, k) h.byte)

pub drop_more : {a : List ℕ} {i : ℕ} → Ahead a i → (b : List ℕ) → drop i (a ++ b) ≡ drop i a ++ b
drop_more {a} {i} h b = drop-append-le i a b (omega (arith, ahead_inside h))

run_more : (p : ℕ → Bool) {l : List ℕ} → Stop l → (b : List ℕ) → p 41 ≡ false → run p (l ++ b) ≡ run p l
unfolding run
run_more p (here e) b s = simp (e, s)
run_more p (there q) b s = rw (run_more p q b s)

-- no bracket in a word
abbrev pub free : List ℕ → Bool
free [] = true
free (x ∷ xs) = cond (eqb x 41) false (free xs)

starts_run : (w : List ℕ) {l : List ℕ} → Stop l → (b : List ℕ) → free w ≡ true → starts_with w (l ++ b) ≡ starts_with w l
unfolding starts_with
starts_run [] q b f = refl
starts_run (w ∷ ws) (here {x} {l} e) b f = go (eqb w 41) refl f
  where
    go : (t : Bool) → eqb w 41 ≡ t → cond t false (free ws) ≡ true → (eqb x w && starts_with ws (l ++ b)) ≡ (eqb x w && starts_with ws l)
    go true k g = let z : ◌≡◌ {A = ℕ} 0 1 = cc in absurd (omega arith)
    go false k g = let n : eqb x w ≡ false = ne_eqb x w (λ (y : x ≡ w). eqb-false w 41 k (omega arith)) in rw n
starts_run (w ∷ ws) (there {x} {l} q) b f = go (eqb w 41) f (starts_run ws q b)
  where
    go : (t : Bool) → cond t false (free ws) ≡ true → (free ws ≡ true → starts_with ws (l ++ b) ≡ starts_with ws l) → (eqb x w && starts_with ws (l ++ b)) ≡ (eqb x w && starts_with ws l)
    go true g ih = let z : ◌≡◌ {A = ℕ} 0 1 = cc in absurd (omega arith)
    go false g ih = rw (ih g)

starts_byte : (w l : List ℕ) → starts_with w l ≡ true → free w ≡ true → (k : ℕ) → k < length w → get_or l k 0 ≡ 41 → ⊥
unfolding starts_with
starts_byte [] l e f k h y = omega arith
starts_byte (w ∷ ws) [] e f k h y = let z : ◌≡◌ {A = ℕ} 0 1 = cc in omega arith
starts_byte (w ∷ ws) (x ∷ xs) e f k h y = go (eqb x w) refl (eqb w 41) refl k e f h y (starts_byte ws xs)
  where
    go : (t : Bool) → eqb x w ≡ t → (u : Bool) → eqb w 41 ≡ u → (k : ℕ) → (t && starts_with ws xs) ≡ true → cond u false (free ws) ≡ true → k < suc (length ws) → get_or (x ∷ xs) k 0 ≡ 41
        → (starts_with ws xs ≡ true → free ws ≡ true → (m : ℕ) → m < length ws → get_or xs m 0 ≡ 41 → ⊥) → ⊥
    go true p false q zero e f h y ih = eqb-false w 41 q (omega (arith, eqb-true x w p))
    go true p false q (suc m) e f h y ih = ih e f m (omega arith) y
    go true p true q k e f h y ih = let z : ◌≡◌ {A = ℕ} 0 1 = cc in omega arith
    go false p u q k e f h y ih = let z : ◌≡◌ {A = ℕ} 0 1 = cc in omega arith

-- the more laws, as equations for `simp`: the premise is looked for
pub get_or_more : (a b : List ℕ) (i : ℕ) → Ahead a i → get_or (a ++ b) i 0 ≡ get_or a i 0
get_or_more a b i h = get_or-append a b 0 i (ahead_inside h)

pub scan_more : (p : ℕ → Bool) (a b : List ℕ) (i : ℕ) → Ahead a i → p 41 ≡ false → scan p (a ++ b) i ≡ scan p a i
unfolding scan
scan_more p a b i h s = rw (drop_more h b, run_more p (ahead_stop h) b s)

pub starts_more : (w a b : List ℕ) (i : ℕ) → Ahead a i → free w ≡ true → starts_with w (drop i (a ++ b)) ≡ starts_with w (drop i a)
starts_more w a b i h f = rw (drop_more h b, starts_run w (ahead_stop h) b f)

-- the part from i to j, as a word that is looked up
pub part_more : (a b : List ℕ) (i j : ℕ) → i ≤ j → Ahead a j → part (a ++ b) i j ≡ part a i j
unfolding part
part_more a b i j l h =
    let k : j - i ≤ length (drop i a) = omega (arith, ahead_inside h, length-drop i a) in
    rw (drop_more (ahead_back h l) b) (take-append-le (j - i) (drop i a) b k)

pub end_more : (a b : List ℕ) (i : ℕ) → Ahead a i → leb (length (a ++ b)) i ≡ leb (length a) i
end_more a b i h =
    let l : i < length a = ahead_inside h in
    let m : i < length (a ++ b) = omega (arith, length-append a b) in
    lt-leb (length (a ++ b)) i m ∙ sym (lt-leb (length a) i l)

pub pass_word : (a : List ℕ) (i : ℕ) (w : List ℕ) → free w ≡ true → starts_with w (drop i a) ≡ true → Passes a i (i + length w)
pass_word a i w f e =
    record {
      grows = omega arith;
      bytes = λ m l q y.
          let k : i + (m - i) ≡ m = omega arith in
          starts_byte w (drop i a) e f (m - i) (omega arith) (rw (get_or-drop, k) y);
    }

-- the classes stop at the bracket; the spaces do so by computation
pub digit_stop : is_digit 41 ≡ false
unfolding within
digit_stop = refl

pub word_stop : is_ascii_ident 41 ≡ false
unfolding within
word_stop = refl

pub hex_stop : is_hex_digit 41 ≡ false
unfolding within
hex_stop = refl

pub url_stop : is_url_byte 41 ≡ false
url_stop = refl

-- a word that is tried, else y
pub pass_try : (a w : List ℕ) (i n y : ℕ) → free w ≡ true → length w ≡ n → Passes a i y → Passes a i (cond (starts_with w (drop i a)) (i + n) y)
pass_try a w i n y f l v = either (starts_with w (drop i a)) (λ e. simp (e, ← l) (pass_word a i w f e)) (λ e. simp e v)

pub ruleset passed = (pass_try, pass_here)

-- the two commonest ways on, for `let`s: past a scan, past a byte
pub ahead_scan : (p : ℕ → Bool) {a : List ℕ} (i : ℕ) → Ahead a i → p 41 ≡ false → Ahead a (scan p a i)
ahead_scan p {a} i h s = ahead_pass h (pass_scan a i p s)

pub ahead_byte : {a : List ℕ} {i : ℕ} (t : ℕ → Bool) → Ahead a i → t (get_or a i 0) ≡ true → t 41 ≡ false → Ahead a (i + 1)
ahead_byte {a} {i} t h e s = ahead_pass h (pass_one a i t s e)

-- the seam: a scan of the joined text goes through the end of the scan of the first

run_through : (p : ℕ → Bool) (l b : List ℕ) → run p (l ++ b) ≡ run p l + run p (drop (run p l) (l ++ b))
unfolding run
run_through p [] b = omega arith
run_through p (x ∷ xs) b = go (p x) refl (run_through p xs b)
  where
    go : (t : Bool) → p x ≡ t → run p (xs ++ b) ≡ run p xs + run p (drop (run p xs) (xs ++ b))
        → cond t (suc (run p (xs ++ b))) 0 ≡ cond t (suc (run p xs)) 0 + run p (drop (cond t (suc (run p xs)) 0) (x ∷ xs ++ b))
    go true e ih = omega arith
    go false e ih = simp e

pub scan_through : (p : ℕ → Bool) (a b : List ℕ) (i : ℕ) → i ≤ length a → scan p (a ++ b) (scan p a i) ≡ scan p (a ++ b) i
unfolding scan
scan_through p a b i h =
    let d : drop i (a ++ b) ≡ drop i a ++ b = drop-append-le i a b h in
    let e : drop (i + run p (drop i a)) (a ++ b) ≡ drop (run p (drop i a)) (drop i a ++ b) = rw (← d) (sym (drop-drop (run p (drop i a)) i (a ++ b))) in
    rw (d, e) (omega (arith, run_through p (drop i a) b))

pub scan_seam : (p : ℕ → Bool) (a b : List ℕ) (i : ℕ) → i ≤ length a → length a ≤ scan p a i → scan p (a ++ b) i ≡ scan p (a ++ b) (length a + 0)
scan_seam p a b i h l =
    let e : scan p a i ≡ length a + 0 = omega (arith, scan_le p a i h) in
    rw (← e) (sym (scan_through p a b i h))

run_again : (p : ℕ → Bool) (l : List ℕ) → run p (drop (run p l) l) ≡ 0
unfolding run
run_again p [] = refl
run_again p (x ∷ xs) = go (p x) refl (run_again p xs)
  where
    go : (t : Bool) → p x ≡ t → run p (drop (run p xs) xs) ≡ 0 → run p (drop (cond t (suc (run p xs)) 0) (x ∷ xs)) ≡ 0
    go true e ih = ih
    go false e ih = simp e

pub scan_again : (p : ℕ → Bool) (s : List ℕ) (i : ℕ) → scan p s (scan p s i) ≡ scan p s i
unfolding scan
scan_again p s i =
    let e : run p (drop (i + run p (drop i s)) s) ≡ 0 = rw (drop-drop (run p (drop i s)) i s) at (run_again p (drop i s)) in
    omega arith

-- a scan that stops inside stays
run_kept : (p : ℕ → Bool) (l b : List ℕ) → run p l < length l → run p (l ++ b) ≡ run p l
unfolding run
run_kept p [] b h = absurd (omega arith)
run_kept p (x ∷ xs) b h = go (p x) h (run_kept p xs b)
  where
    go : (t : Bool) → cond t (suc (run p xs)) 0 < suc (length xs) → (run p xs < length xs → run p (xs ++ b) ≡ run p xs) → cond t (suc (run p (xs ++ b))) 0 ≡ cond t (suc (run p xs)) 0
    go true h ih = omega (arith, ih (omega arith))
    go false h ih = refl

pub scan_kept : (p : ℕ → Bool) (a b : List ℕ) (i : ℕ) → scan p a i < length a → scan p (a ++ b) i ≡ scan p a i
unfolding scan
scan_kept p a b i h =
    let l : run p (drop i a) < length (drop i a) = omega (arith, length-drop i a) in
    rw (drop-append-le i a b (omega arith), run_kept p (drop i a) b l)
