-- A number of at most three digits, in ASCII.
use Rattle.std.specs.Prelude.{ℕ, ◌+◌, ◌/◌, ◌%◌, List, [], ◌∷◌, ltb, if◌then◌else◌}

-- 48 is `0`
abbrev pub numeral : ℕ → ℕ
numeral n = 48 + n

-- "numbers without leading zeros", 0 to 255
unfoldable pub decimal : ℕ → List ℕ
decimal n =
    if ltb n 10 then numeral n ∷ []
    else (if ltb n 100 then numeral (n / 10) ∷ numeral (n % 10) ∷ []
    else numeral (n / 100) ∷ numeral (n / 10 % 10) ∷ numeral (n % 10) ∷ [])
