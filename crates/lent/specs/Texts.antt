-- A text written into bytes that are lent.
use Rattle.std.specs.Prelude.{ℕ, List, ◌++◌, leb, length, drop, if◌then◌else◌}

-- the text at the front, then what lay behind it
abbrev pub over : List ℕ → List ℕ → List ℕ
over w lent = w ++ drop (length w) lent

-- a text for which there is no room leaves them as they came
unfoldable pub written : List ℕ → List ℕ → List ℕ
written w lent = if leb (length w) (length lent) then over w lent else lent
