-- Words without capital letters are in lower case; std's lower case is the reader's; and the loop that writes a word in small letters.
use Rattle.std.proofs.Common.{ℕ, ◌≡◌, ◌+◌, ◌<◌, ◌≤◌, true, false, List, [], ◌∷◌, map, refl, sym, ◌∙◌, arith}
use mathlib.Core.Logic.{⊎_elim}
use lib.ListN.{length, get_or, set, take, length-set, length-map, get_or-map}
use lib.Seq.{length-take-le, get_or-set_same, get_or-set_other, get_or-take, ext_get_or}
use Rattle.std.specs.Char.{to_ascii_lowercase}
use Rattle.std.specs.List.{list_any}
use Rattle.std.proofs.lemmas.Bool.Decides.{nat_tests}
use Rattle.text_bytes.specs.Bytes.{within, is_upper}
use Rattle.text_bytes.specs.Words.{lower_of, lowered}
use Rattle.text_bytes.proofs.Ranges.{either, le_or_lt}

pub lowered_small : (w : List ℕ) → list_any is_upper w ≡ false → lowered w ≡ w
unfolding lower_of within
lowered_small [] h = refl
lowered_small (x ∷ xs) h =
    either (is_upper x) (λ e. let z : true ≡ false = simp e at h in let y : ◌≡◌ {A = ℕ} 0 1 = cc in absurd (omega arith))
    (λ e. simp e (rw (lowered_small xs (simp e at h)) refl))

-- as std has it
pub lowered_std : (w : List ℕ) → map to_ascii_lowercase w ≡ lowered w
unfolding lower_of within
lowered_std [] = refl
lowered_std (x ∷ xs) = rw (lower_std x, lowered_std xs) refl
  where
    lower_std : (b : ℕ) → to_ascii_lowercase b ≡ lower_of b
    lower_std b = grind (arith, nat_tests)

-- the first i bytes of w stand in l in small letters; l has room for every name
pub record Lowered (w l : List ℕ) (i : ℕ) : Type 0 where
  pub long : length l ≡ 20
  pub same : (j : ℕ) → j < i → get_or l j 0 ≡ lower_of (get_or w j 0)

pub lower_start : (w l : List ℕ) → length l ≡ 20 → Lowered w l 0
lower_start w l h = record { long = h; same = λ j k. absurd (omega arith) }

pub lower_go : (w l : List ℕ) (i : ℕ) → i < length w → length w ≤ 20 → Lowered w l i → Lowered w (set l i (lower_of (get_or w i 0))) (i + 1)
lower_go w l i h k v =
    record {
      long = length-set l i (lower_of (get_or w i 0)) ∙ v.long;
      same = λ j n.
          ⊎_elim (λ (m : i ≤ j). let q : j ≡ i = omega arith in rw q (get_or-set_same l i (lower_of (get_or w i 0)) 0 (omega (arith, v.long))))
          (λ (m : j < i). get_or-set_other l i j (lower_of (get_or w i 0)) 0 (λ q. omega arith) ∙ v.same j m) (le_or_lt i j);
    }

-- the whole word
pub lower_all : (w l : List ℕ) → length w ≤ 20 → Lowered w l (length w) → take (length w) l ≡ lowered w
unfolding lower_of within
lower_all w l k v =
    let m : length (take (length w) l) ≡ length w = length-take-le (length w) l (omega (arith, v.long)) in
    let c : length (lowered w) ≡ length w = length-map w lower_of in
    ext_get_or 0 (take (length w) l) (lowered w) (m ∙ sym c)
    (λ j a. get_or-take (length w) l j 0 (omega arith) ∙ (v.same j (omega arith) ∙ sym (get_or-map lower_of w j 0)))
