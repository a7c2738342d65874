-- A colour as hex digits. What stands in quotation marks is the rule.
use Rattle.std.specs.Prelude.{ℕ, ◌+◌, ◌-◌, ◌/◌, ◌%◌, Bool, ◌&&◌, cond, List, [], ◌∷◌, eqb, ltb}
use Rattle.color.specs.declared.Color.{Color}

-- "lower-case hex" (48 is `0`, 97 is `a`)
unfoldable pub digit : ℕ → ℕ
digit n = cond (ltb n 10) (48 + n) (97 + (n - 10))

-- "a doubled digit"
abbrev pub doubled : ℕ → Bool
doubled n = eqb (n / 16) (n % 16)

-- "where every channel is a doubled digit": alpha is a channel
unfoldable pub all_doubled : Color → Bool
all_doubled c = doubled c.red && (doubled c.green && (doubled c.blue && doubled c.alpha))

-- the channels that are written: "six digits if alpha is 255, else eight", three or four
abbrev pub shown : Color → List ℕ
shown c = c.red ∷ c.green ∷ c.blue ∷ cond (eqb c.alpha 255) [] (c.alpha ∷ [])

-- a digit for each channel, and two
abbrev pub singles : List ℕ → List ℕ
singles [] = []
singles (n ∷ ns) = digit (n % 16) ∷ singles ns

abbrev pub pairs : List ℕ → List ℕ
pairs [] = []
pairs (n ∷ ns) = digit (n / 16) ∷ digit (n % 16) ∷ pairs ns

-- "`#` and lower-case hex" (35 is `#`)
unfoldable pub short_text : Color → List ℕ
short_text c = 35 ∷ singles (shown c)

unfoldable pub long_text : Color → List ℕ
long_text c = 35 ∷ pairs (shown c)

-- "on request the three or four digit form where every channel is a doubled digit, otherwise the long one"
unfoldable pub hex_text : Color → Bool → List ℕ
hex_text c short = cond (short && all_doubled c) (short_text c) (long_text c)
