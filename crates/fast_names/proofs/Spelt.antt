-- A word of bytes and a name of small letters: where they have one length, their numbers are equal where the two are the same.
use Prim.Native.Nat.{ℕ, zero, suc, ◌+◌, ◌-◌, ◌*◌, ◌^◌, ◌≤◌, ◌<◌}
use mathlib.Core.Bool.{Bool, true, false, ◌&&◌}
use mathlib.Core.List.{List, [], ◌∷◌}
use mathlib.Core.Logic.{⊎_elim}
use mathlib.Core.Path.{◌≡◌, refl, sym, ap, ◌∙◌}
use native.Mathlib.Nat.{add-zero}
use native.Mathlib.Numerals.{unary_clauses}
use native.Mathlib.Omega.{arith}
use borrow.Author.Tests.{eqb-true, eq-eqb}
use lib.Dec.{T, eqb, lit<}
use lib.ListN.{length, get_or, get_or-eq_default}
use lib.Seq.{ext_get_or}
use Rattle.text_bytes.specs.Bytes.{is_lower}
use Rattle.text_bytes.specs.Words.{same}
use Rattle.text_bytes.proofs.Ranges.{and_first, and_second, le_or_lt, within_le}
use Rattle.text_bytes.proofs.Wording.{same_eq, same_refl}
use Rattle.fast_names.specs.Letters.{three, four, eight, short, head, tail}
use Rattle.names.proofs.Tables.{holds_true, all_lower}

letter_at : (a : List ℕ) → all_lower a ≡ true → (i : ℕ) → i < length a → true ≡ is_lower (get_or a i 0)
unfolding all_lower
letter_at [] t i h = absurd (omega arith)
letter_at (x ∷ xs) t zero h = sym (and_first (is_lower x) (all_lower xs) t)
letter_at (x ∷ xs) t (suc i) h = letter_at xs (and_second (is_lower x) (all_lower xs) t) i (omega arith)

-- the digits of a number, and its halves
digits : (a b c d x y z u : ℕ) → a < 256 → b < 256 → c < 256 → d < 256 → x < 256 → y < 256 → z < 256 → u < 256
    → a + (b * 256 + (c * 256 ^ 2 + d * 256 ^ 3)) ≡ x + (y * 256 + (z * 256 ^ 2 + u * 256 ^ 3)) → (a ≡ x) × ((b ≡ y) × ((c ≡ z) × (d ≡ u)))
digits a b c d x y z u h₁ h₂ h₃ h₄ h₅ h₆ h₇ h₈ e = (omega arith, (omega arith, (omega arith, omega arith)))

halves : (a b x y : ℕ) → a < 256 ^ 4 → x < 256 ^ 4 → a + b * 256 ^ 4 ≡ x + y * 256 ^ 4 → (a ≡ x) × (b ≡ y)
halves a b x y h l e = (omega arith, omega arith)

four_lt : (w : List ℕ) → ((i : ℕ) → get_or w i 0 < 256) → (i : ℕ) → four w i < 256 ^ 4
unfolding four
four_lt w f i = omega (arith, f i, f (i + 1), f (i + 2), f (i + 3))

-- a number decides each letter that it holds
module _ (a w : List ℕ) (p : (i : ℕ) → get_or a i 0 < 256) (q : (i : ℕ) → get_or w i 0 < 256) where
  four_here : (i d : ℕ) → d < 4 → four a i ≡ four w i → get_or a (i + d) 0 ≡ get_or w (i + d) 0
  unfolding four
  four_here i d h e =
      go d h
      (digits _ _ _ _ _ _ _ _ (p i) (p (i + 1)) (p (i + 2)) (p (i + 3))
      (q i) (q (i + 1)) (q (i + 2)) (q (i + 3)) e)
    where
      go : (d : ℕ) → d < 4
          → (get_or a i 0 ≡ get_or w i 0) × ((get_or a (i + 1) 0 ≡ get_or w (i + 1) 0) × ((get_or a (i + 2) 0 ≡ get_or w (i + 2) 0) × (get_or a (i + 3) 0 ≡ get_or w (i + 3) 0)))
          → get_or a (i + d) 0 ≡ get_or w (i + d) 0
      go zero h t = rw add-zero t.0
      go (suc zero) h t = t.1.0
      go (suc (suc zero)) h t = t.1.1.0
      go (suc (suc (suc zero))) h t = t.1.1.1
      go (suc (suc (suc (suc d)))) h t = absurd (omega arith)

  four_at : (i : ℕ) → four a i ≡ four w i → (j : ℕ) → i ≤ j → j < i + 4 → get_or a j 0 ≡ get_or w j 0
  four_at i e j h l =
      let s : i + (j - i) ≡ j = omega arith in
      rw s at (four_here i (j - i) (omega arith) e)

  eight_at : (i k : ℕ) → eight a i k ≡ eight w i k → (j : ℕ) → i ≤ j → j < k + 4 → k ≤ i + 4 → get_or a j 0 ≡ get_or w j 0
  eight_at i k e j h l m =
      let t = halves _ _ _ _ (four_lt a p i) (four_lt w q i) e in
      ⊎_elim (λ (g : k ≤ j). four_at k t.1 j g l) (λ (g : j < k). four_at i t.0 j h (omega arith)) (le_or_lt k j)

  three_at : three a ≡ three w → (j : ℕ) → j < 3 → get_or a j 0 ≡ get_or w j 0
  unfolding three
  three_at e j l =
      go j l
      (digits _ _ _ 0 _ _ _ 0 (p 0) (p 1) (p 2) (lit< tt) (q 0) (q 1) (q 2) (lit< tt) (simp unary_clauses e))
    where
      go : (d : ℕ) → d < 3 → (get_or a 0 0 ≡ get_or w 0 0) × ((get_or a 1 0 ≡ get_or w 1 0) × ((get_or a 2 0 ≡ get_or w 2 0) × (◌≡◌ {A = ℕ} 0 0))) → get_or a d 0 ≡ get_or w d 0
      go zero h t = t.0
      go (suc zero) h t = t.1.0
      go (suc (suc zero)) h t = t.1.1.0
      go (suc (suc (suc d))) h t = absurd (omega arith)

both : (t u : Bool) → (t ≡ true → u ≡ true) → (u ≡ true → t ≡ true) → t ≡ u
both true u f g = sym (f refl)
both false true f g = g refl
both false false f g = refl

module _ (w : List ℕ) (q : (i : ℕ) → get_or w i 0 < 256) (a : List ℕ) (t : T (all_lower a)) where
  p : (i : ℕ) → get_or a i 0 < 256
  p i =
      ⊎_elim (λ (h : length a ≤ i). rw (get_or-eq_default a 0 h) (lit< tt))
      (λ (h : i < length a). omega (arith, within_le 97 122 _ (letter_at a (sym (holds_true _ t)) i h))) (le_or_lt (length a) i)

  -- a test that decides each letter, for the words of one length
  tells : (u : Bool) → (length a ≡ length w → u ≡ true → (i : ℕ) → i < length a → get_or a i 0 ≡ get_or w i 0) → (w ≡ a → u ≡ true)
      → (eqb (length a) (length w) && u) ≡ same w a
  tells u f g =
      both _ _
      (λ e.
      let l : length a ≡ length w = eqb-true _ _ (and_first _ u e) in
      ap (same w) (ext_get_or 0 a w l (f l (and_second (eqb (length a) (length w)) u e))) ∙ same_refl w)
      (λ e.
      let s : w ≡ a = same_eq w a e in
      rw (eq-eqb _ _ (ap length (sym s))) (g s))

  -- each number decides the words of its lengths
  pub tells_three : length w ≡ 3 → (eqb (length a) (length w) && eqb (three w) (three a)) ≡ same w a
  tells_three h =
      tells (eqb (three w) (three a)) (λ l e i k. three_at a w p q (sym (eqb-true _ _ e)) i (omega arith)) (λ s. eq-eqb _ _ (ap three s))

  pub tells_short : 4 ≤ length w → length w ≤ 8 → (eqb (length a) (length w) && eqb (short w) (short a)) ≡ same w a
  unfolding short
  tells_short m n =
      tells (eqb (short w) (short a))
      (λ l e i k.
      let s : short w ≡ short a = eqb-true _ _ e in
      eight_at a w p q 0 (length w - 4) (sym (rw l at s)) i (omega arith) (omega arith) (omega arith))
      (λ s. eq-eqb _ _ (ap short s))

  pub tells_long : 8 ≤ length w → length w ≤ 16
      → (eqb (length a) (length w) && (eqb (head w) (head a) && eqb (tail w) (tail a))) ≡ same w a
  unfolding head tail
  tells_long m n = tells (eqb (head w) (head a) && eqb (tail w) (tail a)) to (λ s. rw (eq-eqb _ _ (ap head s)) (eq-eqb _ _ (ap tail s)))
    where
      to : length a ≡ length w → (eqb (head w) (head a) && eqb (tail w) (tail a)) ≡ true → (i : ℕ) → i < length a → get_or a i 0 ≡ get_or w i 0
      to l e i k =
          let s : head w ≡ head a = eqb-true _ _ (and_first _ _ e) in
          let r : tail w ≡ tail a = eqb-true _ _ (and_second (eqb (head w) (head a)) _ e) in
          ⊎_elim (λ (g : 8 ≤ i). eight_at a w p q (length w - 8) (length w - 4) (sym (rw l at r)) i (omega arith) (omega arith) (omega arith))
          (λ (g : i < 8). eight_at a w p q 0 4 (sym s) i (omega arith) (omega arith) (omega arith)) (le_or_lt 8 i)

pub tells_word : (w a : List ℕ) → (eqb (length a) (length w) && same w a) ≡ same w a
tells_word w a =
    both _ _ (λ e. and_second (eqb (length a) (length w)) _ e)
    (λ e. rw (eq-eqb _ _ (ap length (sym (same_eq w a e)))) e)
