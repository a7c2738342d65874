-- The value of a run of digits.
use Rattle.std.specs.Prelude.{ℕ, ◌+◌, ◌-◌, ◌*◌, cond, List, [], ◌∷◌}
use Rattle.text_bytes.specs.Bytes.{is_digit}

-- the digits at the front, read on after the value a
unfoldable pub value : ℕ → List ℕ → ℕ
value a [] = a
value a (x ∷ xs) = cond (is_digit x) (value (a * 10 + (x - 48)) xs) a

-- "M, below 9,007,199,254,740,992": 2 ^ 53
abbrev pub cap : ℕ
cap = 9007199254740992
