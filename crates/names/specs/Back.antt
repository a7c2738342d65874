-- The keyword of a colour, and its writing.
use Rattle.std.specs.Prelude.{ℕ, Bool, ◌&&◌, List, [], ◌∷◌, eqb, leb, length, Option, Some, None, Result, Ok, Err, if◌then◌else◌}
use Rattle.lent.specs.Texts.{written}
use Rattle.stream.specs.declared.Reason.{Reason}
use Rattle.stream.specs.declared.Reason.TheVariants as R
use Rattle.names.specs.Keywords.{Keyword}
use Rattle.names.specs.Look.{channels}
use Rattle.names.specs.declared.Rgb.{Rgb}

unfoldable pub same_colour : Rgb → Rgb → Bool
same_colour a b = eqb a.red b.red && (eqb a.green b.green && eqb a.blue b.blue)

-- "the first in alphabetical order with those channels", if one has them: the table is in that order
unfoldable pub first_named : List Keyword → Rgb → Option (List ℕ)
first_named [] x = None
first_named (e ∷ es) x = if same_colour (channels e) x then Some e.name else first_named es x

-- n bytes are lent: enough are as many as the name has
unfoldable pub name_answer : Option (List ℕ) → ℕ → Result ℕ Reason
name_answer (Some w) n = if leb (length w) n then Ok (length w) else Err R.BufferTooShort
name_answer None n = Err R.NoKeyword

-- the bytes that are lent, afterwards
unfoldable pub name_over : Option (List ℕ) → List ℕ → List ℕ
name_over (Some w) lent = written w lent
name_over None lent = lent
