-- The laws of trimming: the two loops, and the bounds of what is left.
use Prim.Native.Nat.{ℕ, zero, suc, ◌+◌, ◌-◌, ◌≤◌, ◌<◌}
use mathlib.Core.Bool.{Bool, true, false, cond}
use mathlib.Core.List.{List, [], ◌∷◌}
use mathlib.Core.Path.{◌≡◌, refl, sym}
use native.Mathlib.Omega.{arith}
use borrow.Author.Tests.{eq-eqb, ne_eqb, le-leb, lt-leb}
use lib.Dec.{eqb, lit≤, eqb-suc-zero}
use lib.ListN.{length, get_or, take, drop, drop_of_length-le, length-drop}
use lib.Seq.{drop-cons, drop-drop, get_or-drop, length-take-le}
use Rattle.text_bytes.specs.Bytes.{within}
use Rattle.utf8.specs.Blanks.{blank1, blank2, blank3, blank_len, blank_at, byte_before, blank_end, blank_before, front, trim_start, back, trim_end, trim_part, trim_of}
use Rattle.text_bytes.specs.Words.{part_bytes}
use Rattle.text_bytes.proofs.Parts.{part_inside}
use Rattle.text_bytes.proofs.Ranges.{and_false, within_ge, within_le}

either_le : (t : Bool) (a b m : ℕ) → a ≤ m → b ≤ m → cond t a b ≤ m
either_le true a b m p q = p
either_le false a b m p q = q

blank_end_le : (a b c : ℕ) → blank_end a b c ≤ 3
unfolding blank_end
blank_end_le a b c = search (either_le, lit≤, tt) depth 20

blank_len_le : (a b c : ℕ) → blank_len a b c ≤ 3
unfolding blank_len
blank_len_le a b c = search (either_le, lit≤, tt) depth 20

blank_before_3 : (s : List ℕ) (e : ℕ) → blank_before s e ≤ 3
unfolding blank_before
blank_before_3 s e = blank_end_le (byte_before s e 1) (byte_before s e 2) (byte_before s e 3)

-- it starts no sooner than the text
pub blank_before_le : (s : List ℕ) (e : ℕ) → blank_before s e ≤ e
unfolding blank_before blank_end byte_before blank1 blank2 blank3
blank_before_le s zero = lit≤ tt
blank_before_le s (suc zero) = search (either_le, lit≤, tt) depth 20
blank_before_le s (suc (suc zero)) = search (either_le, lit≤, tt) depth 20
blank_before_le s (suc (suc (suc e))) = three e (blank_before_3 s (suc (suc (suc e))))
  where
    three : {n : ℕ} (e : ℕ) → n ≤ 3 → n ≤ suc (suc (suc e))
    three e h = omega arith

-- a plain byte starts no white space and ends none
module _ (a b c : ℕ) (e : within 33 127 a ≡ true) where
  more : 33 ≤ a
  more = within_ge 33 127 a (sym e)

  less : a < 128
  less = omega (arith, within_le 33 127 a (sym e))

  low : eqb a 32 ≡ false
  low = ne_eqb a 32 (λ f. omega (arith, more))

  high : (n : ℕ) → 128 ≤ n → eqb a n ≡ false
  high n h = ne_eqb a n (λ f. omega (arith, less))

  pub plain_len : blank_len a b c ≡ 0
  unfolding blank_len blank1 blank2 blank3
  plain_len =
      simp (lt-leb a 13 (omega (arith, more)), and_false, low, high 0xc2 (lit≤ tt), high 0xe1 (lit≤ tt), high 0xe2 (lit≤ tt), high 0xe3 (lit≤ tt))

  pub plain_end : blank_end a b c ≡ 0
  unfolding blank_end blank1 blank2 blank3
  plain_end =
      simp (
        lt-leb a 13 (omega (arith, more)),
        lt-leb 0x80 a less,
        and_false,
        low,
        high 0x80 (lit≤ tt),
        high 0x85 (lit≤ tt),
        high 0x9f (lit≤ tt),
        high 0xa0 (lit≤ tt),
        high 0xa8 (lit≤ tt),
        high 0xa9 (lit≤ tt),
        high 0xaf (lit≤ tt),
      )

-- the white space at the front of the rest is the one at i
pub blank_drop : (s : List ℕ) (i : ℕ) → blank_at (drop i s) 0 ≡ blank_at s i
unfolding blank_at
blank_drop s i =
    let e : i + 0 ≡ i = omega arith in
    simp (get_or-drop, e)

front_skip : (i k : ℕ) (l : List ℕ) → front i k l ≡ front (i + k) 0 (drop k l)
unfolding front
front_skip i zero [] = omega arith
front_skip i (suc k) [] = omega arith
front_skip i zero (x ∷ xs) =
    let e : i + 0 ≡ i = omega arith in
    rw e refl
front_skip i (suc k) (x ∷ xs) =
    let e : i + suc k ≡ i + 1 + k = omega arith in
    rw e (front_skip (i + 1) k xs)

pub record Fronting (s : List ℕ) (i : ℕ) : Type 0 where
  pub same : front i 0 (drop i s) ≡ trim_start s

pub front_start : (s : List ℕ) → Fronting s 0
unfolding trim_start
front_start s = record { same = refl }

pub front_end : {s : List ℕ} {i : ℕ} → Fronting s i → length s ≤ i → i ≡ trim_start s
unfolding front
front_end {s} {i} v h =
    let a : i + 0 ≡ trim_start s = simp (drop_of_length-le s h) at v.same in
    omega arith

module _ {s : List ℕ} {i n : ℕ} (v : Fronting s i) (q : n ≡ blank_at s i) (h : i < length s) where
  step : cond (eqb n 0) i (front (i + 1) (n - 1) (drop (suc i) s)) ≡ trim_start s
  unfolding front
  step =
      let a : drop i s ≡ get_or s i 0 ∷ drop (suc i) s = drop-cons s i 0 h in
      let b : blank_at (get_or s i 0 ∷ drop (suc i) s) 0 ≡ n = simp (← a, blank_drop) (sym q) in
      simp (a, b) at v.same

  pub front_stop : n ≡ 0 → i ≡ trim_start s
  front_stop e = simp (eq-eqb n 0 e) at step

  pub front_go : (n ≡ 0 → ⊥) → Fronting s (i + n)
  front_go e =
      let a : front (i + 1) (n - 1) (drop (suc i) s) ≡ trim_start s = simp (ne_eqb n 0 e) at step in
      let b : i + 1 + (n - 1) ≡ i + n = omega arith in
      let d : suc i + (n - 1) ≡ i + n = omega arith in
      record { same = cc (front_skip (i + 1) (n - 1) (drop (suc i) s), drop-drop (n - 1) (suc i) s) }

pub ruleset fronted = (front_start, front_end, front_stop, front_go)

back_skip : (s : List ℕ) (e k : ℕ) → back s e k ≡ back s (e - k) 0
unfolding back
back_skip s zero zero = refl
back_skip s zero (suc k) =
    let f : 0 - suc k ≡ 0 = omega arith in
    rw f refl
back_skip s (suc e) zero =
    let f : suc e - 0 ≡ suc e = omega arith in
    rw f refl
back_skip s (suc e) (suc k) =
    let f : suc e - suc k ≡ e - k = omega arith in
    rw f (back_skip s e k)

pub record Backing (s : List ℕ) (e : ℕ) : Type 0 where
  pub same : back s e 0 ≡ trim_end s

pub back_start : (s : List ℕ) → Backing s (length s)
unfolding trim_end
back_start s = record { same = refl }

pub back_end : {s : List ℕ} {e : ℕ} → Backing s e → e ≤ 0 → e ≡ trim_end s
unfolding back
back_end {s} {e = zero} v h = v.same
back_end {s} {e = suc e} v h = absurd (omega arith)

module _ {s : List ℕ} {n : ℕ} where
  pub back_stop : {e : ℕ} → Backing s e → n ≡ blank_before s e → n ≡ 0 → e ≡ trim_end s
  unfolding back
  back_stop {e = zero} v q z = v.same
  back_stop {e = suc e} v q z = simp (← q, eq-eqb n 0 z) at v.same

  pub back_go : {e : ℕ} → Backing s e → n ≡ blank_before s e → (n ≡ 0 → ⊥) → 0 < e → Backing s (e - n)
  unfolding back
  back_go {e = zero} v q z h = absurd (omega arith)
  back_go {e = suc e} v q z h =
      let a : back s e (n - 1) ≡ trim_end s = simp (← q, ne_eqb n 0 z) at v.same in
      let b : e - (n - 1) ≡ suc e - n = omega arith in
      record { same = cc (back_skip s e (n - 1)) }

pub ruleset backed = (back_start, back_end, back_stop, back_go)

-- a text that ends with a plain byte is whole
pub trim_whole : (s : List ℕ) → 0 < length s → within 33 127 (get_or s (length s - 1) 0) ≡ true → trim_end s ≡ length s
unfolding blank_before byte_before
trim_whole s h e =
    let f : within 33 127 (byte_before s (length s) 1) ≡ true = simp (le-leb 1 (length s) (omega arith)) e in
    sym (back_stop (back_start s) (sym (plain_end (byte_before s (length s) 1) (byte_before s (length s) 2) (byte_before s (length s) 3) f)) refl)

back_le : (s : List ℕ) (e k : ℕ) → back s e k ≤ e
unfolding back
back_le s zero k = omega arith
back_le s (suc e) (suc k) = omega (arith, back_le s e k)
back_le s (suc e) zero = go (eqb (blank_before s (suc e)) 0) (back_le s e (blank_before s (suc e) - 1))
  where
    go : {x : ℕ} (t : Bool) → x ≤ e → cond t (suc e) x ≤ suc e
    go true h = omega arith
    go false h = omega arith

pub end_inside : (s : List ℕ) → trim_end s ≤ length s
unfolding trim_end
end_inside s = omega (arith, back_le s (length s) 0)

pub end_count : (s : List ℕ) → length (take (trim_end s) s) ≡ trim_end s
end_count s = length-take-le (trim_end s) s (end_inside s)

pub trim_end_le : (s : List ℕ) (e : ℕ) → e ≡ trim_end s → e ≤ length s
trim_end_le s e q = omega (arith, end_inside s)

pub trim_count : (s : List ℕ) (e : ℕ) → e ≡ trim_end s → e ≡ length (take e s)
trim_count s e q = sym (length-take-le e s (trim_end_le s e q))

-- white space lies inside: a byte past the end, read as 0, is in none
blank_le : (l : List ℕ) → blank_at l 0 ≤ length l
unfolding blank_at blank_len blank1 blank2 blank3
blank_le [] = lit≤ tt
blank_le (x ∷ []) = simp and_false (search (either_le, lit≤, tt) depth 20)
blank_le (x ∷ y ∷ []) = simp and_false (search (either_le, lit≤, tt) depth 20)
blank_le (x ∷ y ∷ z ∷ l) = more (length l) (blank_len_le x y z)
  where
    more : {n : ℕ} (m : ℕ) → n ≤ 3 → n ≤ suc (suc (suc m))
    more m h = omega arith

front_le : (i k : ℕ) (l : List ℕ) → k ≤ length l → front i k l ≤ i + length l
unfolding front
front_le i k [] h = omega arith
front_le i (suc k) (x ∷ xs) h = omega (arith, front_le (i + 1) k xs (omega arith))
front_le i zero (x ∷ xs) h = go (blank_at (x ∷ xs) 0) (blank_le (x ∷ xs)) (λ k. front_le (i + 1) k xs)
  where
    go : (n : ℕ) → n ≤ suc (length xs) → ((k : ℕ) → k ≤ length xs → front (i + 1) k xs ≤ i + 1 + length xs)
        → cond (eqb n 0) i (front (i + 1) (n - 1) xs) ≤ i + suc (length xs)
    go zero l ih = omega arith
    go (suc n) l ih =
        let m : suc n - 1 ≡ n = omega arith in
        simp (eqb-suc-zero n, m) (omega (arith, ih n (omega arith)))

pub start_inside : (s : List ℕ) → trim_start s ≤ length s
unfolding trim_start
start_inside s = omega (arith, front_le 0 0 s (omega arith))

pub trim_start_le : (s : List ℕ) (a : ℕ) → a ≡ trim_start s → a ≤ length s
trim_start_le s a q = omega (arith, start_inside s)

-- the part that trimming leaves lies inside: its bytes are those that it leaves
pub part_trimmed : (s : List ℕ) → part_bytes s (trim_part s) ≡ trim_of s
unfolding trim_part trim_of
part_trimmed s =
    let d = drop (trim_start s) s in
    part_inside s (record { start = record { 0 = trim_start s }; len = trim_end d }) (omega (arith, start_inside s, end_inside d, length-drop (trim_start s) s))
