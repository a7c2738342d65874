-- shift: reading at `length a + i` of `a ++ b` is reading at i of b, with every place moved by `length a`.
use Prim.Native.Nat.{ℕ, ◌+◌}
use mathlib.Core.List.{List, ◌++◌}
use mathlib.Core.Path.{◌≡◌, refl}
use lib.ListN.{length}
use Rattle.std.specs.Prelude.{Option, Some, None, Result, Ok}
use Rattle.text_bytes.specs.Moves.{move_place}
use Rattle.text_bytes.proofs.Shifts.{shifts, cond_push}
use Rattle.stream.specs.Moves.{moved, move_read}
use Rattle.stream.specs.declared.Fault.{Fault}
use Rattle.stream.specs.declared.Read.{Read}
use Rattle.stream.proofs.Binds.{bind_moved}
use Rattle.numbers.specs.Moves.{Number, move_written}
use Rattle.numbers.specs.Number.{parse_number}
use Rattle.numbers.specs.declared.Written.{Written}
use Rattle.numbers.proofs.Shifts.{number_shift}
use Rattle.angle.specs.Moves.{move_unit}
use Rattle.angle.specs.Angles.{parse_unit, parse_angle, or_degrees, with_unit}
use Rattle.angle.specs.declared.Angle.{Angle}
use Rattle.angle.specs.declared.AngleUnit.{AngleUnit}

module _ (a b : List ℕ) where
  pub unit_shift : (i : ℕ) → parse_unit (a ++ b) (length a + i) ≡ move_unit (length a) (parse_unit b i)
  unfolding parse_unit
  unit_shift i = simp (shifts, cond_push (move_unit (length a)))

  pub angle_shift : (i : ℕ) → parse_angle (a ++ b) (length a + i) ≡ moved (move_read move_written) (length a) (parse_angle b i)
  unfolding parse_angle
  angle_shift i =
      bind_moved (move_read move_written) (move_read move_written) (length a) (parse_number b i) _ _ _ (number_shift a b i)
      (λ r. simp unit_shift (unit (length a) r (parse_unit b r.next.0)))
    where
      unit : (n : ℕ) (r : Read Number) (u : Option (Read AngleUnit))
          → ◌≡◌ {A = Result (Read (Written Angle)) Fault} (Ok (with_unit (move_written n r.value) (or_degrees (move_place n r.next) (move_unit n u)))) (Ok (move_read move_written n (with_unit r.value (or_degrees r.next u))))
      unit n r None = refl
      unit n r (Some u) = refl
