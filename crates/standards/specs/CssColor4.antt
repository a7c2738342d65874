-- CSS Color Module Level 4, section "The RGB Hexadecimal Notations". From memory of the Candidate Recommendation of July 2022; it knows nothing of the readers.
use Rattle.std.specs.Prelude.{ℕ, ◌+◌, ◌*◌, ◌<◌, List, [], ◌∷◌, map}

-- a hexadecimal digit: 0 to 9, or a letter a to f in either case
pub data Digit : Type 0 where
  numeral : (n : ℕ) → n < 10 → Digit
  small : (n : ℕ) → n < 6 → Digit
  capital : (n : ℕ) → n < 6 → Digit

-- the character that it is: 0 is 48, a is 97, A is 65
unfoldable pub character : Digit → ℕ
character (numeral n h) = 48 + n
character (small n h) = 97 + n
character (capital n h) = 65 + n

unfoldable pub value : Digit → ℕ
value (numeral n h) = n
value (small n h) = 10 + n
value (capital n h) = 10 + n

-- a hash character (35), and digits
abbrev pub hashed : List Digit → List ℕ
hashed ds = 35 ∷ map character ds

-- the digits are 3, 4, 6 or 8
pub data HexColor : Type 0 where
  three : (r g b : Digit) → HexColor
  four : (r g b a : Digit) → HexColor
  six : (r r' g g' b b' : Digit) → HexColor
  eight : (r r' g g' b b' a a' : Digit) → HexColor

unfoldable pub digits : HexColor → List Digit
digits (three r g b) = r ∷ g ∷ b ∷ []
digits (four r g b a) = r ∷ g ∷ b ∷ a ∷ []
digits (six r r' g g' b b') = r ∷ r' ∷ g ∷ g' ∷ b ∷ b' ∷ []
digits (eight r r' g g' b b' a a') = r ∷ r' ∷ g ∷ g' ∷ b ∷ b' ∷ a ∷ a' ∷ []

abbrev pub hex_text : HexColor → List ℕ
hex_text t = hashed (digits t)

pub record Channels : Type 0 where
  pub red : ℕ
  pub green : ℕ
  pub blue : ℕ
  pub alpha : ℕ

-- a pair of digits is one hexadecimal number, and that is a channel
abbrev pub pair : Digit → Digit → ℕ
pair x y = value x * 16 + value y

-- red, green, blue, alpha in this order; in the short forms each digit stands for itself twice; with no alpha it is opaque
unfoldable pub channels : HexColor → Channels
channels (three r g b) = record { red = pair r r; green = pair g g; blue = pair b b; alpha = 255 }
channels (four r g b a) = record { red = pair r r; green = pair g g; blue = pair b b; alpha = pair a a }
channels (six r r' g g' b b') = record { red = pair r r'; green = pair g g'; blue = pair b b'; alpha = 255 }
channels (eight r r' g g' b b' a a') = record { red = pair r r'; green = pair g g'; blue = pair b b'; alpha = pair a a' }
