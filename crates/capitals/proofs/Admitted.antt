-- Texts that are alike are admitted alike: a letter is ASCII in either case, and no octet that continues a character is a letter.
use Prim.Native.Nat.{ℕ, zero, suc, ◌+◌, ◌-◌, ◌<◌}
use mathlib.Core.Bool.{Bool, true, ◌&&◌}
use mathlib.Core.List.{List, [], ◌∷◌}
use mathlib.Core.Path.{◌≡◌, refl, sym, ap, ◌∙◌}
use native.Mathlib.Omega.{arith}
use borrow.Author.Tests.{leb-true}
use lib.Dec.{leb}
use Rattle.text_bytes.specs.Bytes.{within}
use Rattle.text_bytes.specs.Words.{lower_of, lowered}
use Rattle.text_bytes.proofs.Ranges.{and_first, and_second, within_le, within_low}
use Rattle.utf8.specs.Characters.{Range, Row, table, keeps, row_of, len_at, char_len, walk, utf8_of}
use Rattle.utf8.proofs.Octets.{char_ascii}
use Rattle.stream.specs.Refusals.{admit_text}
use Rattle.capitals.proofs.Cases.{Caseless, by_capitals, length_alike}

-- above ASCII
abbrev highs : List Range → Bool
highs [] = true
highs (r ∷ rs) = leb 128 r.low && highs rs

abbrev high_rows : List Row → Bool
high_rows [] = true
high_rows (r ∷ rs) = highs r.later && high_rows rs

high_case : (lo hi : ℕ) → leb 128 lo ≡ true → Caseless (within lo hi)
high_case lo hi e =
    by_capitals (within lo hi) (λ b u.
    let l : b < 91 = omega (arith, within_le 65 90 b (sym u)) in
    let m = leb-true 128 lo e in
    sym (within_low lo hi (b + 32) (omega arith)) ∙ within_low lo hi b (omega arith))

low_keeps : (rs : List Range) → highs rs ≡ true → (l : List ℕ) → keeps rs (lowered l) ≡ keeps rs l
unfolding keeps
low_keeps [] e l = refl
low_keeps (r ∷ rs) e [] = refl
low_keeps (r ∷ rs) e (x ∷ xs) =
    rw (high_case r.low r.high (and_first (leb 128 r.low) (highs rs) e) x, low_keeps rs (and_second (leb 128 r.low) (highs rs) e) xs) refl

low_len : (rs : List Row) → high_rows rs ≡ true → (n : ℕ) (l : List ℕ) → len_at rs n (lowered l) ≡ len_at rs n l
unfolding len_at
low_len [] e n l = refl
low_len (r ∷ rs) e zero l = rw (low_keeps r.later (and_first (highs r.later) (high_rows rs) e) l) refl
low_len (r ∷ rs) e (suc n) l = low_len rs (and_second (highs r.later) (high_rows rs) e) n l

low_char : (x : ℕ) (xs : List ℕ) → char_len (lower_of x ∷ lowered xs) ≡ char_len (x ∷ xs)
unfolding char_len
low_char x xs =
    by_capitals (λ b. char_len (b ∷ lowered xs))
    (λ b u. let l : b < 91 = omega (arith, within_le 65 90 b (sym u)) in char_ascii (b + 32) (lowered xs) (omega arith) ∙ sym (char_ascii b (lowered xs) (omega arith))) x
    ∙ low_len table refl (row_of table x) xs

low_walk : (i k : ℕ) (l : List ℕ) → walk i k (lowered l) ≡ walk i k l
unfolding walk
low_walk i k [] = refl
low_walk i (suc k) (x ∷ xs) = low_walk (i + 1) k xs
low_walk i zero (x ∷ xs) = rw (low_char x xs, low_walk (i + 1) (char_len (x ∷ xs) - 1) xs) refl

module _ (s t : List ℕ) (h : lowered s ≡ lowered t) where
  pub utf8_alike : utf8_of t ≡ utf8_of s
  unfolding utf8_of
  utf8_alike = sym (low_walk 0 0 t) ∙ ap (walk 0 0) (sym h) ∙ low_walk 0 0 s

  pub admitted_alike : admit_text t ≡ admit_text s
  unfolding admit_text
  admitted_alike = rw (length_alike s t h, utf8_alike) refl
