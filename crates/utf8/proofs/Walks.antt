-- The walk of the UTF-8 test: its loop, the test of ASCII before it, and what it says of a text that is cut or joined.
use Prim.Native.Nat.{ℕ, zero, suc, ◌+◌, ◌-◌, ◌^◌, ◌≤◌, ◌<◌}
use mathlib.Core.Bool.{Bool, true, false, ◌&&◌, cond}
use mathlib.Core.List.{List, [], ◌∷◌, ◌++◌}
use mathlib.Core.Path.{◌≡◌, refl, sym, ap, ◌∙◌}
use native.Mathlib.Omega.{arith}
use borrow.Author.Tests.{eq-eqb, ne_eqb, lt-ltb, ltb-true}
use lib.Dec.{eqb, ltb, eqb-suc-zero}
use lib.ListN.{length, get_or, take, drop, drop_of_length-le, length-drop}
use lib.Seq.{drop-cons, drop-drop, take-length}
use mir.Syntax.{w64}
use mir.Val.{Fits}
use Rattle.std.specs.Prelude.{Ok, Err}
use Rattle.std.specs.Str.{IsAscii}
use Rattle.utf8.specs.Characters.{char_len, is_ascii, walk, utf8_of, skip_chars}
use Rattle.utf8.specs.Moves.{move_utf8}
use Rattle.text_bytes.proofs.Ranges.{and_first, and_second, and_true}
use Rattle.utf8.proofs.Octets.{char_le, char_inside, char_more, char_ascii}
use Rattle.text_bytes.specs.Moves.{place}

pub walk_skip : (i k : ℕ) (l : List ℕ) → walk i k l ≡ walk (i + k) 0 (drop k l)
unfolding walk
walk_skip i zero [] = refl
walk_skip i (suc k) [] = refl
walk_skip i zero (x ∷ xs) =
    let e : i + 0 ≡ i = omega arith in
    rw e refl
walk_skip i (suc k) (x ∷ xs) =
    let e : i + suc k ≡ i + 1 + k = omega arith in
    rw e (walk_skip (i + 1) k xs)

-- the loop: from i on the walk finds what it finds from the start
pub record Walking (s : List ℕ) (i : ℕ) : Type 0 where
  pub same : walk i 0 (drop i s) ≡ utf8_of s

pub walk_start : (s : List ℕ) → Walking s 0
unfolding utf8_of
walk_start s = record { same = refl }

pub walk_end : {s : List ℕ} {i : ℕ} → Walking s i → length s ≤ i → Ok tt ≡ utf8_of s
unfolding walk
walk_end {s} {i} v h = simp (drop_of_length-le s h) at v.same

module _ {s : List ℕ} {i : ℕ} (v : Walking s i) (h : i < length s) where
  step : {n : ℕ} → n ≡ char_len (drop i s) → cond (eqb n 0) (Err (place i)) (walk (i + 1) (n - 1) (drop (suc i) s)) ≡ utf8_of s
  unfolding walk
  step {n} q =
      let a : drop i s ≡ get_or s i 0 ∷ drop (suc i) s = drop-cons s i 0 h in
      let b : char_len (get_or s i 0 ∷ drop (suc i) s) ≡ n = simp (← a) (sym q) in
      simp (a, b) at v.same

  pub walk_bad : {n : ℕ} → n ≡ char_len (drop i s) → n ≡ 0 → Err (place i) ≡ utf8_of s
  walk_bad {n} q e = simp (eq-eqb n 0 e) at (step q)

  pub walk_go : {n : ℕ} → n ≡ char_len (drop i s) → (n ≡ 0 → ⊥) → Walking s (i + n)
  walk_go {n} q e =
      let a : walk (i + 1) (n - 1) (drop (suc i) s) ≡ utf8_of s = simp (ne_eqb n 0 e) at (step q) in
      let b : i + 1 + (n - 1) ≡ i + n = omega arith in
      let d : suc i + (n - 1) ≡ i + n = omega arith in
      record { same = cc (walk_skip (i + 1) (n - 1) (drop (suc i) s), drop-drop (n - 1) (suc i) s) }

-- the same for `grind`: one turn of the loop
module _ (s : List ℕ) (i : ℕ) where
  pub walk_past : length s ≤ i → walk i 0 (drop i s) ≡ Ok tt
  unfolding walk
  walk_past h = simp (drop_of_length-le s h)

  pub walk_ill : i < length s → char_len (drop i s) ≡ 0 → walk i 0 (drop i s) ≡ Err (place i)
  unfolding walk
  walk_ill h e =
      let a : drop i s ≡ get_or s i 0 ∷ drop (suc i) s = drop-cons s i 0 h in
      let b : char_len (get_or s i 0 ∷ drop (suc i) s) ≡ 0 = simp (← a) e in
      simp (a, b)

  turn : (n : ℕ) → n ≡ char_len (drop i s) → i < length s → 0 < n → walk i 0 (drop i s) ≡ walk (i + n) 0 (drop (i + n) s)
  unfolding walk
  turn n q h l =
      let a : drop i s ≡ get_or s i 0 ∷ drop (suc i) s = drop-cons s i 0 h in
      let b : char_len (get_or s i 0 ∷ drop (suc i) s) ≡ n = simp (← a) (sym q) in
      let w : walk i 0 (drop i s) ≡ walk (i + 1) (n - 1) (drop (suc i) s) = simp (a, b, ne_eqb n 0 (λ e. omega arith)) in
      let p : i + 1 + (n - 1) ≡ i + n = omega arith in
      let d : suc i + (n - 1) ≡ i + n = omega arith in
      w ∙ cc (walk_skip (i + 1) (n - 1) (drop (suc i) s), drop-drop (n - 1) (suc i) s)

  pub walk_on : i < length s → 0 < char_len (drop i s) → walk i 0 (drop i s) ≡ walk (i + char_len (drop i s)) 0 (drop (i + char_len (drop i s)) s)
  walk_on h l = turn (char_len (drop i s)) refl h l

  pub char_one : i < length s → get_or s i 0 < 128 → char_len (drop i s) ≡ 1
  char_one h l = simp (drop-cons s i 0 h, char_ascii (get_or s i 0) (drop (suc i) s) l)

  pub char_ends : i < length s → char_len (drop i s) ≤ length s - i
  char_ends h = omega (arith, char_le (drop i s), length-drop i s)

pub char_fits : (s : List ℕ) (i n : ℕ) → n ≡ char_len (drop i s) → i < length s → i + n ≤ length s
char_fits s i n q h = omega (arith, char_le (drop i s), length-drop i s)

pub char_add : (s : List ℕ) (i n : ℕ) → n ≡ char_len (drop i s) → i < length s → length s < 2 ^ 64 → Fits w64 (i + n)
char_add s i n q h l = omega (arith, char_fits s i n q h)

-- ASCII in front is gone over byte by byte
walk_front : (n : ℕ) (l : List ℕ) (i : ℕ) → is_ascii (take n l) ≡ true → walk i 0 l ≡ walk (i + n) 0 (drop n l)
unfolding walk is_ascii
walk_front zero l i e =
    let q : i + 0 ≡ i = omega arith in
    rw q refl
walk_front (suc n) [] i e = refl
walk_front (suc n) (x ∷ xs) i e =
    let h : x < 128 = ltb-true x 128 (and_first (ltb x 128) (is_ascii (take n xs)) e) in
    let q : i + suc n ≡ i + 1 + n = omega arith in
    simp (char_ascii x xs h, q) (walk_front n xs (i + 1) (and_second (ltb x 128) (is_ascii (take n xs)) e))

-- so the walk may start after it
pub walk_from : (s : List ℕ) (i : ℕ) → is_ascii (take i s) ≡ true → Walking s i
unfolding utf8_of
walk_from s i e =
    let q : 0 + i ≡ i = omega arith in
    record { same = sym (rw q at (walk_front i s 0 e)) }

-- a text of ASCII bytes
pub ascii_all : (s : List ℕ) → ((j : ℕ) → j < length s → get_or s j 0 < 128) → is_ascii s ≡ true
unfolding is_ascii
ascii_all [] f = refl
ascii_all (x ∷ xs) f = simp (lt-ltb x 128 (f 0 (omega arith)), ascii_all xs (λ j h. f (suc j) (omega arith)))

-- a text of ASCII is UTF-8: r is what the test answered
pub ascii_utf8 : (s : List ℕ) {r : Bool} → r ≡ is_ascii s → r ≡ true → Ok tt ≡ utf8_of s
ascii_utf8 s {r} q e = walk_end (walk_from s (length s) (rw (take-length s) (sym q ∙ e))) (omega arith)

-- what std's `is_ascii` says
pub std_ascii : (s : List ℕ) → IsAscii s → Ok tt ≡ utf8_of s
std_ascii s f = ascii_utf8 s refl (ascii_all s (λ j h. f j))

-- four bytes, each tested
pub four_ascii : (s : List ℕ) (i : ℕ) → i + 4 ≤ length s
    → (ltb (get_or s i 0) 128 && (ltb (get_or s (i + 1) 0) 128 && (ltb (get_or s (i + 2) 0) 128 && ltb (get_or s (i + 3) 0) 128))) ≡ is_ascii (take 4 (drop i s))
unfolding is_ascii
four_ascii s i h =
    let a : i + 1 ≡ suc i = omega arith in
    let b : i + 2 ≡ suc (suc i) = omega arith in
    let d : i + 3 ≡ suc (suc (suc i)) = omega arith in
    simp (
      drop-cons s i 0 (omega arith),
      drop-cons s (suc i) 0 (omega arith),
      drop-cons s (suc (suc i)) 0 (omega arith),
      drop-cons s (suc (suc (suc i))) 0 (omega arith),
      a,
      b,
      d,
      and_true,
    )

-- four bytes of ASCII are gone over at once
pub walk_four : (s : List ℕ) (i : ℕ) → is_ascii (take 4 (drop i s)) ≡ true → walk i 0 (drop i s) ≡ walk (i + 4) 0 (drop (i + 4) s)
walk_four s i e = walk_front 4 (drop i s) i e ∙ ap (λ l. walk (i + 4) 0 l) (drop-drop 4 i s)

-- eight, which std tests
pub walk_eight : (s : List ℕ) (i : ℕ) → i + 8 ≤ length s → IsAscii (take (i + 8 - i) (drop i s)) → walk i 0 (drop i s) ≡ walk (i + 8) 0 (drop (i + 8) s)
walk_eight s i h f =
    let q : i + 8 - i ≡ 8 = omega arith in
    let e : is_ascii (take 8 (drop i s)) ≡ true = rw q at (ascii_all (take (i + 8 - i) (drop i s)) (λ j h. f j)) in
    walk_front 8 (drop i s) i e ∙ ap (λ l. walk (i + 8) 0 l) (drop-drop 8 i s)

skip_past : (n : ℕ) (s : List ℕ) (i : ℕ) → length s ≤ i → skip_chars n s i ≡ i
unfolding skip_chars char_len
skip_past zero s i h = refl
skip_past (suc n) s i h =
    let e : i + 0 ≡ i = omega arith in
    simp (drop_of_length-le s h, e) (skip_past n s i h)

-- the loop that goes on by characters, after k of n turns: what it comes to is what it came to from the start
pub record Skipping (s : List ℕ) (n at k i : ℕ) : Type 0 where
  pub same : skip_chars (n - k) s i ≡ skip_chars n s at
  pub inside : i ≤ length s
  pub turns : k ≤ n

pub skip_start : (s : List ℕ) (n at : ℕ) → at ≤ length s → Skipping s n at 0 at
skip_start s n at h =
    let e : n - 0 ≡ n = omega arith in
    record { same = rw e refl; inside = h; turns = omega arith }

module _ {s : List ℕ} {n at k i : ℕ} (v : Skipping s n at k i) where
  pub skip_end : length s ≤ i → i ≡ skip_chars n s at
  skip_end h = sym (skip_past (n - k) s i h) ∙ v.same

  pub skip_done : n ≤ k → i ≡ skip_chars n s at
  unfolding skip_chars
  skip_done h =
      let e : n - k ≡ 0 = omega arith in
      rw e at v.same

  pub skip_go : k < n → i < length s → {m : ℕ} → m ≡ char_len (drop i s) → Skipping s n at (k + 1) (i + m)
  unfolding skip_chars
  skip_go l h {m} q =
      let e : n - k ≡ suc (n - (k + 1)) = omega arith in
      record { same = rw q (rw e at v.same); inside = char_fits s i m q h; turns = omega arith }

pub ruleset skipped = (skip_start, skip_end, skip_done, skip_go)

-- a UTF-8 text in front: the walk goes on with what follows
walk_join : (l : List ℕ) (i k : ℕ) (b : List ℕ) → k ≤ length l → walk i k l ≡ Ok tt → walk i k (l ++ b) ≡ walk (i + length l) 0 b
unfolding walk
walk_join [] i zero b h e =
    let q : i + 0 ≡ i = omega arith in
    rw q refl
walk_join [] i (suc k) b h e = absurd (omega arith)
walk_join (x ∷ xs) i (suc k) b h e =
    let q : i + suc (length xs) ≡ i + 1 + length xs = omega arith in
    rw q (walk_join xs (i + 1) k b (omega arith) e)
walk_join (x ∷ xs) i zero b h e = go (char_len (x ∷ xs)) refl e (walk_join xs (i + 1))
  where
    go : (n : ℕ) → char_len (x ∷ xs) ≡ n → cond (eqb n 0) (Err (place i)) (walk (i + 1) (n - 1) xs) ≡ Ok tt
        → ((k : ℕ) (b : List ℕ) → k ≤ length xs → walk (i + 1) k xs ≡ Ok tt → walk (i + 1) k (xs ++ b) ≡ walk (i + 1 + length xs) 0 b)
        → cond (eqb (char_len (x ∷ xs ++ b)) 0) (Err (place i)) (walk (i + 1) (char_len (x ∷ xs ++ b) - 1) (xs ++ b)) ≡ walk (i + suc (length xs)) 0 b
    go zero f e ih = let z : ◌≡◌ {A = ℕ} 0 1 = cc in absurd (omega arith)
    go (suc n) f e ih =
        let m : suc n - 1 ≡ n = omega arith in
        let t : eqb (suc n) 0 ≡ false = eqb-suc-zero n in
        let w : walk (i + 1) n xs ≡ Ok tt = simp (t, m) at e in
        let q : i + suc (length xs) ≡ i + 1 + length xs = omega arith in
        simp (char_more x xs n f b, q, m, t) (ih n b (char_inside x xs n f) w)

walk_move : (l : List ℕ) (m i k : ℕ) → walk (m + i) k l ≡ move_utf8 m (walk i k l)
unfolding walk
walk_move [] m i k = refl
walk_move (x ∷ xs) m i (suc k) =
    let q : m + i + 1 ≡ m + (i + 1) = omega arith in
    rw q (walk_move xs m (i + 1) k)
walk_move (x ∷ xs) m i zero = go (eqb (char_len (x ∷ xs)) 0) (walk_move xs m (i + 1) (char_len (x ∷ xs) - 1))
  where
    go : (t : Bool) → walk (m + (i + 1)) (char_len (x ∷ xs) - 1) xs ≡ move_utf8 m (walk (i + 1) (char_len (x ∷ xs) - 1) xs)
        → cond t (Err (place (m + i))) (walk (m + i + 1) (char_len (x ∷ xs) - 1) xs) ≡ move_utf8 m (cond t (Err (place i)) (walk (i + 1) (char_len (x ∷ xs) - 1) xs))
    go true ih = refl
    go false ih =
        let q : m + i + 1 ≡ m + (i + 1) = omega arith in
        rw q ih

-- shift: a UTF-8 text in front moves the place of the first ill-formed sequence, and no more
pub utf8_join : (a b : List ℕ) → utf8_of a ≡ Ok tt → utf8_of (a ++ b) ≡ move_utf8 (length a) (utf8_of b)
unfolding utf8_of
utf8_join a b e =
    let q : 0 + length a ≡ length a + 0 = omega arith in
    walk_join a 0 0 b (omega arith) e ∙ rw q (walk_move b (length a) 0 0)
