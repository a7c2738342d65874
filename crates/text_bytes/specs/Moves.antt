-- A place, and a place moved by n bytes.
use Rattle.std.specs.Prelude.{ℕ, ◌+◌}
use Rattle.text_bytes.specs.declared.Place.{Place}
use Rattle.text_bytes.specs.declared.Part.{Part}

abbrev pub place : ℕ → Place
place i = record { 0 = i }

abbrev pub move_place : ℕ → Place → Place
move_place n p = record { 0 = n + p.0 }

abbrev pub move_part : ℕ → Part → Part
move_part n p = record { start = move_place n p.start; len = p.len }
