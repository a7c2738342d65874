-- A unit moved by n bytes.
use Rattle.std.specs.Prelude.{ℕ, Option, Some, None}
use Rattle.stream.specs.Moves.{stays, move_read}
use Rattle.stream.specs.declared.Read.{Read}
use Rattle.angle.specs.declared.AngleUnit.{AngleUnit}

abbrev pub move_unit : ℕ → Option (Read AngleUnit) → Option (Read AngleUnit)
move_unit n None = None
move_unit n (Some u) = Some (move_read stays n u)
