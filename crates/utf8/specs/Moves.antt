-- What the test of a text finds, moved by n bytes.
use Rattle.std.specs.Prelude.{ℕ, Result, Ok, Err}
use Rattle.text_bytes.specs.Moves.{move_place}
use Rattle.text_bytes.specs.declared.Place.{Place}

abbrev pub move_utf8 : ℕ → Result (Unit {0}) Place → Result (Unit {0}) Place
move_utf8 n (Ok tt) = Ok tt
move_utf8 n (Err p) = Err (move_place n p)
