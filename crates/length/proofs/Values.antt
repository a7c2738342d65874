-- Of every length: where reading goes on, how far that is, that its number is finite, and where the stretch of a fault lies.
use Prim.Native.Nat.{ℕ, ◌+◌}
use mathlib.Core.Bool.{true}
use mathlib.Core.List.{List, ◌∷◌}
use mathlib.Core.Path.{◌≡◌, refl, sym}
use native.Mathlib.Nat.{add-zero}
use lib.Dec.{T, leb}
use lib.Ieee.Scale.{finite}
use lib.ListN.{length, drop}
use Rattle.std.specs.Prelude.{Ok, MatchResult}
use Rattle.text_bytes.specs.Words.{starts_with}
use Rattle.text_bytes.proofs.Ahead.{free, pass_word}
use Rattle.text_bytes.proofs.Ranges.{either}
use Rattle.text_bytes.proofs.Wording.{word_inside}
use Rattle.stream.specs.declared.Read.{Read}
use Rattle.stream.proofs.Binds.{bind_holds, at_ok}
use Rattle.stream.proofs.Goes.{Goes, goes_here, goes_item, Past, past_on}
use Rattle.stream.proofs.Stretches.{LiesFrom, end_lies}
use Rattle.floats.proofs.Bounds.{Within, is_finite}
use Rattle.numbers.specs.Number.{parse_number}
use Rattle.numbers.specs.declared.Written.{Written}
use Rattle.numbers.proofs.Values.{Taken, number_taken}
use Rattle.length.specs.Lengths.{unit_at, unit_width, parse_length, parse_list_length}
use Rattle.length.specs.declared.Length.{Length}
use Rattle.length.proofs.Units.{unit_cases}

-- A length read at i
pub record LengthTaken (s : List ℕ) (i : ℕ) (r : Read (Written Length)) : Type 0 where
  pub past : Past s i r.next
  pub within : Within 127 r.value.value.number

module _ (s : List ℕ) (i : ℕ) where
  goes_word : (c : ℕ) (cs : List ℕ) → free (c ∷ cs) ≡ true → starts_with (c ∷ cs) (drop i s) ≡ true → Goes s i (i + length (c ∷ cs))
  goes_word c cs f e = record { passes = pass_word s i (c ∷ cs) f e; inside = λ h. word_inside c cs s i true refl (sym e) }

  unit_goes : Goes s i (i + unit_width (unit_at s i))
  unfolding unit_width
  unit_goes =
      unit_cases (λ u. Goes s i (i + unit_width u)) s i (goes_word _ _ refl) (goes_word _ _ refl) (goes_word _ _ refl) (goes_word _ _ refl) (goes_word _ _ refl)
      (goes_word _ _ refl) (goes_word _ _ refl) (goes_word _ _ refl) (goes_word _ _ refl) (simp add-zero (goes_here s i))

module _ (s : List ℕ) (i : ℕ) where
  pub length_taken : MatchResult (parse_length s i) (LengthTaken s i) (LiesFrom s i)
  unfolding parse_length
  length_taken =
      bind_holds (Taken s i) (LengthTaken s i) (LiesFrom s i) (parse_number s i) _ (number_taken s i)
      (λ r t. record { past = past_on t.past (unit_goes s r.next.0); within = t.within })

  pub list_length_taken : MatchResult (parse_list_length s i) (LengthTaken s i) (LiesFrom s i)
  unfolding parse_list_length
  list_length_taken =
      either (leb (length s) i) (λ e. simp e (λ h. end_lies s))
      (λ e. simp e
      (bind_holds (LengthTaken s i) (LengthTaken s i) (LiesFrom s i) (parse_length s i) _ length_taken
      (λ r t. record { past = past_on t.past (goes_item s r.next.0); within = t.within })))

  -- the same, of a length that is known
  module _ (r : Read (Written Length)) where
    pub length_known : parse_length s i ≡ Ok r → LengthTaken s i r
    length_known e = at_ok (LengthTaken s i) (LiesFrom s i) (parse_length s i) r length_taken e

    pub list_length_known : parse_list_length s i ≡ Ok r → LengthTaken s i r
    list_length_known e = at_ok (LengthTaken s i) (LiesFrom s i) (parse_list_length s i) r list_length_taken e

    pub length_finite : parse_length s i ≡ Ok r → T (finite r.value.value.number)
    length_finite e = is_finite 127 r.value.value.number (length_known e).within

    pub list_length_finite : parse_list_length s i ≡ Ok r → T (finite r.value.value.number)
    list_length_finite e = is_finite 127 r.value.value.number (list_length_known e).within
