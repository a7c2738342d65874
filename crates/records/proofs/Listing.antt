-- The laws of the writing of a list's step.
use mathlib.Core.List.{[], ◌∷◌}
use mathlib.Core.Path.{◌≡◌, refl}
use lib.Ieee.{to_bits, of_bits}
use Rattle.std.specs.Int.{from_bool}
use Rattle.std.specs.Prelude.{Some, None, Ok, Err}
use Rattle.stream.specs.Paper.{paper_refusal}
use Rattle.stream.specs.declared.Refusal.{Refusal}
use Rattle.length.specs.Lengths.{LengthStep}
use Rattle.numbers.specs.declared.Written.{Written}
use Rattle.length.specs.Paper as lengths
use Rattle.length.specs.declared.Length.{Length}
use Rattle.filter_functions.specs.Paper as filters
use Rattle.filter_functions.specs.Filters.{FilterStep}
use Rattle.filter_functions.specs.declared.FilterValue.{FilterValue}
use Rattle.filter_functions.specs.declared.Listed.TheVariants as I
use Rattle.records.specs.Records.{row, found_row, end_row, bits_of, length_unit, length_step_record, filter_row, filter_record, state_number}
use Rattle.records.specs.declared.State.TheVariants as S
use Rattle.records.proofs.Wholes.{one_or_none}

module _ (x : LengthStep) where
  pub length_refused : (e : Refusal) → x.item ≡ Err e → (x.item ≡ Err e) × (row (paper_refusal e) (state_number S.Refused) x.place.0 [] ≡ length_step_record x)
  unfolding row state_number length_step_record lengths.paper_step bits_of length_unit to_bits of_bits
  length_refused e h = (h, rw h refl)

  pub length_end : x.item ≡ Ok None → end_row (state_number S.End) x.place.0 ≡ length_step_record x
  unfolding row state_number length_step_record lengths.paper_step bits_of length_unit to_bits of_bits
  length_end h = rw h refl

  pub length_value : (w : Written Length) → x.item ≡ Ok (Some w)
      → (x.item ≡ Ok (Some w)) × (found_row x.place.0 (bits_of w.value.number ∷ length_unit w.value.unit ∷ from_bool w.whole ∷ w.end.0 ∷ []) ≡ length_step_record x)
  unfolding row length_step_record lengths.paper_step
  length_value w h = (h, rw (one_or_none w.whole, h) refl)

module _ (x : FilterStep) where
  pub filter_refused : (e : Refusal) → x.item ≡ Err e → (x.item ≡ Err e) × (row (paper_refusal e) (state_number S.Refused) x.place.0 [] ≡ filter_record x)
  unfolding row state_number filter_record filters.paper_step bits_of to_bits of_bits
  filter_refused e h = (h, rw h refl)

  pub filter_end : x.item ≡ Ok I.End → end_row (state_number S.End) x.place.0 ≡ filter_record x
  unfolding row state_number filter_record filters.paper_step bits_of to_bits of_bits
  filter_end h = rw h refl

  pub filter_none : x.item ≡ Ok I.NoneWord → end_row (state_number S.NoneWord) x.place.0 ≡ filter_record x
  unfolding row state_number filter_record filters.paper_step bits_of to_bits of_bits
  filter_none h = rw h refl

  pub filter_value : (v : FilterValue) → x.item ≡ Ok (I.Value v) → (x.item ≡ Ok (I.Value v)) × (filter_row x.place.0 v ≡ filter_record x)
  unfolding filter_row filter_record filters.paper_step
  filter_value v h = (h, rw h refl)
