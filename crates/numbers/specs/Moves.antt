-- A number, and a number moved by n bytes.
use Rattle.std.specs.Prelude.{ℕ, Float}
use Rattle.text_bytes.specs.Moves.{move_place}
use Rattle.numbers.specs.declared.Written.{Written}

abbrev pub Number : Type 0
Number = Written Float

-- where its own text ended moves, and nothing else
abbrev pub move_written : {A : Type 0} → ℕ → Written A → Written A
move_written n x = record { value = x.value; whole = x.whole; end = move_place n x.end }
