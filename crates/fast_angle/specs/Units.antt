-- A unit that ends a text. Only contracts inside the crate speak of it.
use Rattle.std.specs.Prelude.{ℕ, List, eqb, ltb, length, Option, Some, None, if◌then◌else◌}
use Rattle.stream.specs.declared.Read.{Read}
use Rattle.angle.specs.Angles.{parse_unit}
use Rattle.numbers.specs.Moves.{Number}
use Rattle.numbers.specs.declared.Written.{Written}
use Rattle.angle.specs.declared.Angle.{Angle}
use Rattle.angle.specs.declared.AngleUnit.{AngleUnit}
use Rattle.angle.specs.declared.AngleUnit.TheVariants as U

abbrev pub ending : List ℕ → Option (Read AngleUnit) → Option AngleUnit
ending s None = None
ending s (Some u) = if ltb u.next.0 (length s) then None else Some u.value

-- degrees where the text has ended, else the unit after which it has
unfoldable pub last_unit : List ℕ → ℕ → Option AngleUnit
last_unit s i = if eqb i (length s) then Some U.Degrees else ending s (parse_unit s i)

abbrev pub with_unit : Number → Option AngleUnit → Option (Written Angle)
with_unit n None = None
with_unit n (Some u) = Some (record { value = record { number = n.value; unit = u }; whole = n.whole; end = n.end })

-- a number in the unit that ends the text
unfoldable pub angled : List ℕ → Number → Option (Written Angle)
angled s n = with_unit n (last_unit s n.end.0)
