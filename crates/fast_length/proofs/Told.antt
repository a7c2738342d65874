-- What a told number tells of a length.
use Prim.Native.Nat.{ℕ, ◌+◌, ◌≤◌}
use mathlib.Core.List.{List}
use mathlib.Core.Path.{◌≡◌, refl}
use lib.ListN.{length}
use Rattle.std.specs.Prelude.{Some, None}
use Rattle.std.specs.Result.{result_ok}
use Rattle.text_bytes.specs.Moves.{place}
use Rattle.numbers.specs.Moves.{Number}
use Rattle.numbers.specs.Number.{parse_number}
use Rattle.numbers.proofs.Values.{number_known}
use Rattle.length.specs.Lengths.{with_unit, unit_at, unit_width, parse_length}
use Rattle.fast_numbers.specs.Told.{told_number}
use Rattle.fast_numbers.proofs.Told.{told_read, told_unread}

module _ (s : List ℕ) (at : ℕ) where
  pub told_inside : (n : Number) → told_number (parse_number s at) ≡ Some n → (told_number (parse_number s at) ≡ Some n) × (n.end.0 ≤ length s)
  told_inside n e = (e, (number_known s at _ (told_read s at n e)).past.inside)

  -- a number is a length with the unit directly after it
  pub length_told : (n : Number) → told_number (parse_number s at) ≡ Some n
      → (told_number (parse_number s at) ≡ Some n)
      × (result_ok (parse_length s at) ≡ (let u = unit_at s n.end.0 in Some (record { value = with_unit n u; next = place (n.end.0 + unit_width u) })))
  unfolding parse_length
  length_told n e = (e, rw (told_read s at n e) refl)

  pub none_told : told_number (parse_number s at) ≡ None → result_ok (parse_length s at) ≡ None
  unfolding parse_length
  none_told e = rw (told_unread s at e).is refl
