-- RFC 3629's table: what its rows have in common, computed once over the whole, and the laws of a character's octets that follow.
use Prim.Native.Nat.{ℕ, zero, suc, ◌+◌, ◌≤◌, ◌<◌}
use mathlib.Core.Bool.{Bool, true, false, ◌&&◌, cond}
use mathlib.Core.List.{List, [], ◌∷◌, ◌++◌}
use mathlib.Core.Path.{◌≡◌, refl, sym, ◌∙◌}
use native.Mathlib.Omega.{arith}
use borrow.Author.Tests.{leb-true}
use lib.Dec.{T, eqb, leb, eqb→eq}
use lib.ListN.{length, get_or, drop}
use lib.Seq.{drop-cons, get_or-drop}
use Rattle.text_bytes.specs.Bytes.{within, is_tail}
use Rattle.utf8.specs.Characters.{Range, Row, table, keeps, row_of, len_at, char_len}
use Rattle.text_bytes.proofs.Ranges.{and_first, and_second, all_from, across, within_low, within_ge, within_le, within_yes, either}

-- every later octet is a tail, and at most three follow a first one
tailed : List Range → Bool
tailed [] = true
tailed (r ∷ rs) = (leb 0x80 r.low && leb r.high 0xbf) && tailed rs

sound : List Row → Bool
sound [] = true
sound (r ∷ rs) = (leb (length r.later) 3 && tailed r.later) && sound rs

table_sound : sound table ≡ true
unfolding sound tailed
table_sound = refl

-- a byte past the end, read as 0, is no later octet
tail_zero : (r : Range) → leb 0x80 r.low ≡ true → within r.low r.high 0 ≡ false
tail_zero r e = sym (within_low r.low r.high 0 (omega (arith, leb-true 0x80 r.low e)))

abbrev three : List ℕ → List ℕ
three xs = get_or xs 0 0 ∷ get_or xs 1 0 ∷ get_or xs 2 0 ∷ []

low : (r : Range) (rs : List Range) → tailed (r ∷ rs) ≡ true → leb 0x80 r.low ≡ true
unfolding tailed
low r rs e = and_first (leb 0x80 r.low) (leb r.high 0xbf) (and_first (leb 0x80 r.low && leb r.high 0xbf) (tailed rs) e)

rest : (r : Range) (rs : List Range) → tailed (r ∷ rs) ≡ true → tailed rs ≡ true
unfolding tailed
rest r rs e = and_second (leb 0x80 r.low && leb r.high 0xbf) (tailed rs) e

keeps_three : (rs : List Range) (xs : List ℕ) → tailed rs ≡ true → leb (length rs) 3 ≡ true → keeps rs xs ≡ keeps rs (three xs)
unfolding keeps
keeps_three [] xs t h = refl
keeps_three (q ∷ []) [] t h = simp (tail_zero q (low q [] t))
keeps_three (q ∷ []) (x ∷ xs) t h = refl
keeps_three (q ∷ r ∷ []) [] t h = simp (tail_zero q (low q (r ∷ []) t))
keeps_three (q ∷ r ∷ []) (x ∷ []) t h = simp (tail_zero r (low r [] (rest q (r ∷ []) t)))
keeps_three (q ∷ r ∷ []) (x ∷ y ∷ xs) t h = refl
keeps_three (q ∷ r ∷ u ∷ []) [] t h = simp (tail_zero q (low q (r ∷ u ∷ []) t))
keeps_three (q ∷ r ∷ u ∷ []) (x ∷ []) t h = simp (tail_zero r (low r (u ∷ []) (rest q (r ∷ u ∷ []) t)))
keeps_three (q ∷ r ∷ u ∷ []) (x ∷ y ∷ []) t h = simp (tail_zero u (low u [] (rest r (u ∷ []) (rest q (r ∷ u ∷ []) t))))
keeps_three (q ∷ r ∷ u ∷ []) (x ∷ y ∷ z ∷ xs) t h = refl
keeps_three (q ∷ r ∷ u ∷ v ∷ rs) xs t h = absurd (omega (arith, leb-true (suc (suc (suc (suc (length rs))))) 3 h))

module _ (r : Row) (rs : List Row) (t : sound (r ∷ rs) ≡ true) where
  row_short : leb (length r.later) 3 ≡ true
  unfolding sound
  row_short = and_first (leb (length r.later) 3) (tailed r.later) (and_first (leb (length r.later) 3 && tailed r.later) (sound rs) t)

  row_tailed : tailed r.later ≡ true
  unfolding sound
  row_tailed = and_second (leb (length r.later) 3) (tailed r.later) (and_first (leb (length r.later) 3 && tailed r.later) (sound rs) t)

  rows_sound : sound rs ≡ true
  unfolding sound
  rows_sound = and_second (leb (length r.later) 3 && tailed r.later) (sound rs) t

len_three : (rs : List Row) (n : ℕ) (xs : List ℕ) → sound rs ≡ true → len_at rs n xs ≡ len_at rs n (three xs)
unfolding len_at sound
len_three [] n xs t = refl
len_three (r ∷ rs) zero xs t =
    rw (keeps_three r.later xs (row_tailed r rs t) (row_short r rs t))
len_three (r ∷ rs) (suc n) xs t = len_three rs n xs (rows_sound r rs t)

-- the character at place i, as the code looks at its bytes
pub char_at : (s : List ℕ) (i : ℕ) → i < length s
    → len_at table (row_of table (get_or s i 0)) (get_or s (i + 1) 0 ∷ get_or s (i + 2) 0 ∷ get_or s (i + 3) 0 ∷ []) ≡ char_len (drop i s)
unfolding char_len
char_at s i h =
    let a : suc i + 0 ≡ i + 1 = omega arith in
    let b : suc i + 1 ≡ i + 2 = omega arith in
    let d : suc i + 2 ≡ i + 3 = omega arith in
    let e : char_len (drop i s) ≡ len_at table (row_of table (get_or s i 0)) (drop (suc i) s) = simp (drop-cons s i 0 h) in
    sym (e ∙ len_three table (row_of table (get_or s i 0)) (drop (suc i) s) table_sound ∙ simp (get_or-drop, a, b, d))

-- the rows, by the tests that a `match` makes
row_at : (v lo n : ℕ) → T (unfold row_of within in all_from (λ k. eqb v (row_of table k)) lo n) → (b : ℕ) → lo ≤ b → b < lo + n → v ≡ row_of table b
unfolding row_of within
row_at v lo n t b h k = eqb→eq v (row_of table b) (across (λ j. eqb v (row_of table j)) lo n t b h k)

pub row_0 : (b : ℕ) → b < 128 → 0 ≡ row_of table b
unfolding row_of within
row_0 b h = row_at 0 0 128 tt b (omega arith) (omega arith)

pub row_tail : (b : ℕ) → 128 ≤ b → b < 194 → 9 ≡ row_of table b
unfolding row_of within
row_tail b = row_at 9 128 66 tt b

pub row_1 : (b : ℕ) → 194 ≤ b → b < 224 → 1 ≡ row_of table b
unfolding row_of within
row_1 b = row_at 1 194 30 tt b

pub row_3 : (b : ℕ) → 225 ≤ b → b < 237 → 3 ≡ row_of table b
unfolding row_of within
row_3 b = row_at 3 225 12 tt b

pub row_5 : (b : ℕ) → 238 ≤ b → b < 240 → 5 ≡ row_of table b
unfolding row_of within
row_5 b = row_at 5 238 2 tt b

pub row_7 : (b : ℕ) → 241 ≤ b → b < 244 → 7 ≡ row_of table b
unfolding row_of within
row_7 b = row_at 7 241 3 tt b

pub row_past : (b : ℕ) → 245 ≤ b → b < 256 → 9 ≡ row_of table b
unfolding row_of within
row_past b = row_at 9 245 11 tt b

keeps_le : (rs : List Range) (xs : List ℕ) → keeps rs xs ≡ true → length rs ≤ length xs
unfolding keeps
keeps_le [] xs e = omega arith
keeps_le (r ∷ rs) [] e = let z : ◌≡◌ {A = ℕ} 0 1 = cc in absurd (omega arith)
keeps_le (r ∷ rs) (x ∷ xs) e = omega (arith, keeps_le rs xs (and_second (within r.low r.high x) (keeps rs xs) e))

keeps_append : (rs : List Range) (xs b : List ℕ) → keeps rs xs ≡ true → keeps rs (xs ++ b) ≡ true
unfolding keeps
keeps_append [] xs b e = refl
keeps_append (r ∷ rs) [] b e = let z : ◌≡◌ {A = ℕ} 0 1 = cc in absurd (omega arith)
keeps_append (r ∷ rs) (x ∷ xs) b e =
    rw (and_first (within r.low r.high x) (keeps rs xs) e) (keeps_append rs xs b (and_second (within r.low r.high x) (keeps rs xs) e))

-- the next k bytes are there, and each continues a character
unfoldable pub tails : ℕ → List ℕ → Bool
tails zero l = true
tails (suc k) [] = false
tails (suc k) (x ∷ xs) = is_tail x && tails k xs

in_tail : (r : Range) (x : ℕ) → (leb 0x80 r.low && leb r.high 0xbf) ≡ true → within r.low r.high x ≡ true → is_tail x ≡ true
in_tail r x e h =
    let a = leb-true 0x80 r.low (and_first (leb 0x80 r.low) (leb r.high 0xbf) e) in
    let b = leb-true r.high 0xbf (and_second (leb 0x80 r.low) (leb r.high 0xbf) e) in
    sym (within_yes 0x80 0xbf x (omega (arith, within_ge r.low r.high x (sym h))) (omega (arith, within_le r.low r.high x (sym h))))

keeps_tails : (rs : List Range) (xs : List ℕ) → tailed rs ≡ true → keeps rs xs ≡ true → tails (length rs) xs ≡ true
unfolding keeps tails tailed
keeps_tails [] xs t e = refl
keeps_tails (r ∷ rs) [] t e = e
keeps_tails (r ∷ rs) (x ∷ xs) t e =
    rw (in_tail r x (and_first (leb 0x80 r.low && leb r.high 0xbf) (tailed rs) t) (and_first (within r.low r.high x) (keeps rs xs) e))
    (keeps_tails rs xs (and_second (leb 0x80 r.low && leb r.high 0xbf) (tailed rs) t) (and_second (within r.low r.high x) (keeps rs xs) e))

-- a length that was judged comes from a row whose later octets are kept
record Kept (r : Row) (xs : List ℕ) (n : ℕ) : Type 0 where
  kept : keeps r.later xs ≡ true
  size : length r.later ≡ n

kept_from : (r : Row) (xs : List ℕ) (n : ℕ) (t : Bool) → keeps r.later xs ≡ t → cond t (suc (length r.later)) 0 ≡ suc n → Kept r xs n
kept_from r xs n true e h = record { kept = e; size = omega arith }
kept_from r xs n false e h = absurd (omega arith)

module _ (xs : List ℕ) (n : ℕ) where
  len_le : (rs : List Row) (m : ℕ) → len_at rs m xs ≡ suc n → n ≤ length xs
  unfolding len_at
  len_le [] m e = absurd (omega arith)
  len_le (r ∷ rs) zero e = let w = kept_from r xs n (keeps r.later xs) refl e in omega (arith, keeps_le r.later xs w.kept, w.size)
  len_le (r ∷ rs) (suc m) e = len_le rs m e

  len_tails : (rs : List Row) (m : ℕ) → sound rs ≡ true → len_at rs m xs ≡ suc n → tails n xs ≡ true
  unfolding len_at
  len_tails [] m t e = absurd (omega arith)
  len_tails (r ∷ rs) zero t e =
      let w = kept_from r xs n (keeps r.later xs) refl e in
      rw w.size at (keeps_tails r.later xs (row_tailed r rs t) w.kept)
  len_tails (r ∷ rs) (suc m) t e = len_tails rs m (rows_sound r rs t) e

  len_append : (b : List ℕ) (rs : List Row) (m : ℕ) → len_at rs m xs ≡ suc n → len_at rs m (xs ++ b) ≡ suc n
  unfolding len_at
  len_append b [] m e = e
  len_append b (r ∷ rs) zero e =
      let w = kept_from r xs n (keeps r.later xs) refl e in
      rw (keeps_append r.later xs b w.kept, w.size)
  len_append b (r ∷ rs) (suc m) e = len_append b rs m e

module _ (x : ℕ) (xs : List ℕ) (n : ℕ) (e : char_len (x ∷ xs) ≡ suc n) where
  -- a character lies inside
  pub char_inside : n ≤ length xs
  unfolding char_len
  char_inside = len_le xs n table (row_of table x) e

  -- its later octets continue it
  pub char_tails : tails n xs ≡ true
  unfolding char_len
  char_tails = len_tails xs n table (row_of table x) table_sound e

  -- its first one continues none
  pub char_first : is_tail x ≡ false
  unfolding char_len len_at
  char_first = either (is_tail x) (λ t. absurd (no t)) (λ t. t)
    where
      no : is_tail x ≡ true → ⊥
      no t =
          let r : 9 ≡ row_of table x = row_tail x (within_ge 0x80 0xbf x (sym t)) (omega (arith, within_le 0x80 0xbf x (sym t))) in
          let z : 0 ≡ suc n = rw (← r) at e in
          omega arith

  -- what follows does not alter it
  pub char_more : (b : List ℕ) → char_len (x ∷ xs ++ b) ≡ suc n
  unfolding char_len
  char_more b = len_append xs n b table (row_of table x) e

pub char_ascii : (x : ℕ) (xs : List ℕ) → x < 128 → char_len (x ∷ xs) ≡ 1
unfolding char_len len_at keeps
char_ascii x xs h = rw (← row_0 x h)

pub char_le : (l : List ℕ) → char_len l ≤ length l
unfolding char_len
char_le [] = omega arith
char_le (x ∷ xs) = go (char_len (x ∷ xs)) refl
  where
    go : (n : ℕ) → char_len (x ∷ xs) ≡ n → n ≤ suc (length xs)
    go zero e = omega arith
    go (suc n) e = omega (arith, char_inside x xs n e)

pub row_none : (rs : List Row) (n : ℕ) (xs : List ℕ) → length rs ≤ n → 0 ≡ len_at rs n xs
unfolding len_at
row_none [] n xs h = refl
row_none (r ∷ rs) zero xs h = absurd (omega arith)
row_none (r ∷ rs) (suc n) xs h = row_none rs n xs (omega arith)

-- a number that is none of the rows'
pub row_other : (n : ℕ) (xs : List ℕ) → (n ≡ 0 → ⊥) → (n ≡ 1 → ⊥) → (n ≡ 2 → ⊥) → (n ≡ 3 → ⊥) → (n ≡ 4 → ⊥) → (n ≡ 5 → ⊥) → (n ≡ 6 → ⊥) → (n ≡ 7 → ⊥) → (n ≡ 8 → ⊥)
    → 0 ≡ len_at table n xs
row_other n xs a b c d e f g h k = row_none table n xs (high (middle (low_rows n a b c) d e f) g h k)
  where
    low_rows : (n : ℕ) → (n ≡ 0 → ⊥) → (n ≡ 1 → ⊥) → (n ≡ 2 → ⊥) → 3 ≤ n
    low_rows n a b c = omega arith

    middle : {n : ℕ} → 3 ≤ n → (n ≡ 3 → ⊥) → (n ≡ 4 → ⊥) → (n ≡ 5 → ⊥) → 6 ≤ n
    middle l a b c = omega arith

    high : {n : ℕ} → 6 ≤ n → (n ≡ 6 → ⊥) → (n ≡ 7 → ⊥) → (n ≡ 8 → ⊥) → 9 ≤ n
    high l a b c = omega arith
