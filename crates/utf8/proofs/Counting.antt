-- Characters are counted by the bytes that continue none: on a UTF-8 text these are the bytes that start one.
use Prim.Native.Nat.{ℕ, zero, suc, ◌+◌, ◌-◌, ◌≤◌, ◌<◌}
use mathlib.Core.Bool.{Bool, true, false, cond, not}
use mathlib.Core.List.{List, [], ◌∷◌, ◌++◌}
use mathlib.Core.Logic.{⊎_elim}
use mathlib.Core.Path.{◌≡◌, refl, ap, ◌∙◌}
use native.Mathlib.Omega.{arith}
use Rattle.std.proofs.Math.Nat.{min-eq_left, min-eq_right}
use borrow.Author.Tests.{eq-eqb, ne_eqb}
use lib.Dec.{eqb, eqb-suc-zero}
use lib.ListN.{length, get_or, take, length-append}
use lib.Seq.{take_all, take-length, take-append-add, take-append-le, get_or-append-add}
use Rattle.std.specs.Prelude.{Ok, Err, min}
use Rattle.text_bytes.specs.Bytes.{within, is_tail}
use Rattle.utf8.specs.Characters.{keeps, row_of, len_at, char_len, walk, utf8_of, firsts, count, characters, calc_char_pos_at, heads, manual_at, on_character}
use Rattle.text_bytes.proofs.Shifts.{eqb_shift}
use Rattle.utf8.proofs.Octets.{tails, char_inside, char_more, char_tails, char_first}
use Rattle.text_bytes.proofs.Ranges.{and_first, and_second, le_or_lt}
use Rattle.text_bytes.specs.Moves.{place}

firsts_heads : (l : List ℕ) (i k : ℕ) → tails k l ≡ true → walk i k l ≡ Ok tt → firsts k l ≡ heads l
unfolding firsts heads walk tails
firsts_heads [] i k t e = refl
firsts_heads (x ∷ xs) i (suc k) t e =
    rw (and_first (is_tail x) (tails k xs) t, firsts_heads xs (i + 1) k (and_second (is_tail x) (tails k xs) t) e)
firsts_heads (x ∷ xs) i zero t e = go (char_len (x ∷ xs)) refl e (firsts_heads xs (i + 1))
  where
    go : (n : ℕ) → char_len (x ∷ xs) ≡ n → cond (eqb n 0) (Err (place i)) (walk (i + 1) (n - 1) xs) ≡ Ok tt
        → ((k : ℕ) → tails k xs ≡ true → walk (i + 1) k xs ≡ Ok tt → firsts k xs ≡ heads xs)
        → true ∷ firsts (char_len (x ∷ xs) - 1) xs ≡ not (is_tail x) ∷ heads xs
    go zero f e ih = let z : ◌≡◌ {A = ℕ} 0 1 = cc in absurd (omega arith)
    go (suc n) f e ih =
        let m : suc n - 1 ≡ n = omega arith in
        let w : walk (i + 1) n xs ≡ Ok tt = simp (eqb-suc-zero n, m) at e in
        simp (f, m, char_first x xs n f, ih n (char_tails x xs n f) w)

-- the law between the two ways to count
pub firsts_are : (s : List ℕ) → utf8_of s ≡ Ok tt → firsts 0 s ≡ heads s
unfolding utf8_of tails
firsts_are s e = firsts_heads s 0 0 refl e

-- the manual's way gives document 01's position on every UTF-8 text
pub manual_counts : (s : List ℕ) (i : ℕ) → utf8_of s ≡ Ok tt → manual_at s i ≡ calc_char_pos_at s i
unfolding manual_at calc_char_pos_at
manual_counts s i u = rw (firsts_are s u)

-- The smallest text on which the two would differ is the byte 0x80 alone, which continues a character that none has begun: it is no UTF-8
pub manual_apart : (manual_at (0x80 ∷ []) 1 ≡ 1) × ((calc_char_pos_at (0x80 ∷ []) 1 ≡ 2) × (utf8_of (0x80 ∷ []) ≡ Err (place 0)))
unfolding manual_at heads calc_char_pos_at firsts count utf8_of walk char_len len_at row_of keeps within
manual_apart = (refl, (refl, refl))

pub count_append : (a b : List Bool) → count (a ++ b) ≡ count a + count b
unfolding count
count_append [] b = omega arith
count_append (t ∷ ts) b = go t (count_append ts b)
  where
    go : (t : Bool) → count (ts ++ b) ≡ count ts + count b → cond t (suc (count (ts ++ b))) (count (ts ++ b)) ≡ cond t (suc (count ts)) (count ts) + count b
    go true h = omega arith
    go false h = h

pub heads_length : (s : List ℕ) → length (heads s) ≡ length s
unfolding heads
heads_length [] = refl
heads_length (x ∷ xs) = ap suc (heads_length xs)

heads_at : (s : List ℕ) (i : ℕ) → i < length s → get_or (heads s) i false ≡ not (is_tail (get_or s i 0))
unfolding heads
heads_at [] i h = absurd (omega arith)
heads_at (x ∷ xs) zero h = refl
heads_at (x ∷ xs) (suc i) h = heads_at xs i (omega arith)

-- one byte more, counted where it continues no character
count_more : (l : List Bool) (i : ℕ) → i < length l → count (take (suc i) l) ≡ cond (get_or l i false) (suc (count (take i l))) (count (take i l))
unfolding count
count_more [] i h = absurd (omega arith)
count_more (t ∷ ts) zero h = refl
count_more (true ∷ ts) (suc i) h = go (get_or ts i false) (count (take i ts)) (count_more ts i (omega arith))
  where
    go : {a : ℕ} (t : Bool) (b : ℕ) → a ≡ cond t (suc b) b → suc a ≡ cond t (suc (suc b)) (suc b)
    go true b e = ap suc e
    go false b e = ap suc e
count_more (false ∷ ts) (suc i) h = count_more ts i (omega arith)

-- the loop: how many are counted before its turn i
pub counted_none : (s : List ℕ) → manual_at s 0 ≡ 1
unfolding manual_at count
counted_none s = refl

module _ (s : List ℕ) (i : ℕ) where
  turn : i < length s → manual_at s (i + 1) ≡ cond (not (is_tail (get_or s i 0))) (suc (manual_at s i)) (manual_at s i)
  unfolding manual_at
  turn h =
      let e : i + 1 ≡ suc i = omega arith in
      rw (e, count_more (heads s) i (omega (arith, heads_length s)), heads_at s i h) (go (not (is_tail (get_or s i 0))) (count (take i (heads s))))
    where
      go : (t : Bool) (a : ℕ) → 1 + cond t (suc a) a ≡ cond t (suc (1 + a)) (1 + a)
      go true a = omega arith
      go false a = refl

  pub counted_head : i < length s → is_tail (get_or s i 0) ≡ false → manual_at s (i + 1) ≡ manual_at s i + 1
  counted_head h e = simp e at (turn h) ∙ omega arith

  pub counted_tail : i < length s → is_tail (get_or s i 0) ≡ true → manual_at s (i + 1) ≡ manual_at s i
  counted_tail h e = simp e at (turn h)

heads_take : (p : ℕ) (s : List ℕ) → heads (take p s) ≡ take p (heads s)
unfolding heads
heads_take zero s = refl
heads_take (suc p) [] = refl
heads_take (suc p) (x ∷ xs) = rw (heads_take p xs) refl

-- at its end: all of what stands before the place
pub counted_all : (s : List ℕ) (p n : ℕ) → n ≡ length (take p s) → manual_at (take p s) n ≡ manual_at s p
unfolding manual_at
counted_all s p n q = rw (q, ← heads_length (take p s), take-length, heads_take p s) refl

-- a place past the end counts as the end
pub before_end : (s : List ℕ) (p : ℕ) → manual_at s (min p (length s)) ≡ manual_at s p
unfolding manual_at
before_end s p =
    ⊎_elim (λ (h : p ≤ length s). rw (min-eq_left h) refl)
    (λ (h : length s < p).
    let e : length (heads s) ≤ length s = omega (arith, heads_length s) in
    let f : length (heads s) ≤ p = omega (arith, heads_length s) in
    let q : length s ≤ p = omega arith in
    rw (min-eq_right q, take_all (length s) (heads s) e, take_all p (heads s) f) refl)
    (le_or_lt p (length s))

-- on a UTF-8 text a place is on a character where its byte continues none
module _ (s : List ℕ) (i : ℕ) (u : utf8_of s ≡ Ok tt) where
  pub on_byte : i < length s → on_character s i ≡ not (is_tail (get_or s i 0))
  unfolding on_character
  on_byte h = simp (ne_eqb i (length s) (λ e. omega arith), firsts_are s u) (heads_at s i h)

pub on_end : (s : List ℕ) → on_character s (length s) ≡ true
unfolding on_character
on_end s = simp (eq-eqb (length s) (length s) refl)

firsts_length : (l : List ℕ) (k : ℕ) → length (firsts k l) ≡ length l
unfolding firsts
firsts_length [] k = refl
firsts_length (x ∷ xs) (suc k) = ap suc (firsts_length xs k)
firsts_length (x ∷ xs) zero = ap suc (firsts_length xs (char_len (x ∷ xs) - 1))

firsts_join : (l : List ℕ) (i k : ℕ) (b : List ℕ) → k ≤ length l → walk i k l ≡ Ok tt → firsts k (l ++ b) ≡ firsts k l ++ firsts 0 b
unfolding firsts walk
firsts_join [] i zero b h e = refl
firsts_join [] i (suc k) b h e = absurd (omega arith)
firsts_join (x ∷ xs) i (suc k) b h e = rw (firsts_join xs (i + 1) k b (omega arith) e)
firsts_join (x ∷ xs) i zero b h e = go (char_len (x ∷ xs)) refl e (λ k. firsts_join xs (i + 1) k b)
  where
    go : (n : ℕ) → char_len (x ∷ xs) ≡ n → cond (eqb n 0) (Err (place i)) (walk (i + 1) (n - 1) xs) ≡ Ok tt
        → ((k : ℕ) → k ≤ length xs → walk (i + 1) k xs ≡ Ok tt → firsts k (xs ++ b) ≡ firsts k xs ++ firsts 0 b)
        → true ∷ firsts (char_len (x ∷ xs ++ b) - 1) (xs ++ b) ≡ (true ∷ firsts (char_len (x ∷ xs) - 1) xs) ++ firsts 0 b
    go zero f e ih = let z : ◌≡◌ {A = ℕ} 0 1 = cc in absurd (omega arith)
    go (suc n) f e ih =
        let m : suc n - 1 ≡ n = omega arith in
        let w : walk (i + 1) n xs ≡ Ok tt = simp (eqb-suc-zero n, m) at e in
        simp (char_more x xs n f b, f, m, ih n (char_inside x xs n f) w)

module _ (a b : List ℕ) (u : utf8_of a ≡ Ok tt) where
  joined : firsts 0 (a ++ b) ≡ firsts 0 a ++ firsts 0 b
  unfolding utf8_of
  joined = firsts_join a 0 0 b (omega arith) u

  -- shift: a UTF-8 text in front moves a position by its characters
  pub position_shift : (i : ℕ) → calc_char_pos_at (a ++ b) (length a + i) ≡ characters a + calc_char_pos_at b i
  unfolding calc_char_pos_at characters
  position_shift i =
      let l : length (firsts 0 a) ≡ length a = firsts_length a 0 in
      rw (joined, ← l, take-append-add) (omega (arith, count_append (firsts 0 a) (take i (firsts 0 b))))

  -- and none of its own
  pub position_kept : (i : ℕ) → i ≤ length a → calc_char_pos_at (a ++ b) i ≡ calc_char_pos_at a i
  unfolding calc_char_pos_at
  position_kept i h = rw (joined, take-append-le i (firsts 0 a) (firsts 0 b) (omega (arith, firsts_length a 0)))

  pub on_shift : (i : ℕ) → on_character (a ++ b) (length a + i) ≡ on_character b i
  unfolding on_character
  on_shift i =
      let l : length (firsts 0 a) ≡ length a = firsts_length a 0 in
      let f : get_or (firsts 0 (a ++ b)) (length a + i) false ≡ get_or (firsts 0 b) i false = rw (joined, ← l) (get_or-append-add (firsts 0 a) (firsts 0 b) i false) in
      rw (f, length-append a b, eqb_shift (length a) i (length b))
