-- SVG 2: lengths, angles and paints as they are written, with the units of CSS Values and Units Module Level 3. From memory of SVG 2, Candidate Recommendation of October 2018, and CSS Values 3, Candidate Recommendation of September 2016; it knows nothing of the readers.
-- CSS ignores the letter case of keywords; the trees have that of the documents alone, since svgtypes takes no other.
use Rattle.std.specs.Prelude.{ℕ, ◌*◌, ◌^◌, Bool, false, List, [], ◌∷◌, ◌++◌, Float}
use Rattle.std.specs.Float.{binary64}
use Rattle.std.specs.Float.Ieee.{mul, div}
use Rattle.standards.specs.Written.{ascii}
use Rattle.standards.specs.Ieee754.{Fraction, product, double}
use Rattle.standards.specs.CssValues3 as Css
use Rattle.standards.specs.CssValues3.{Number, number, Blank, blanks, deg, grad, rad, turn}
use Rattle.standards.specs.CssSyntax3.{Of, characters, is_url, is_string}
use Rattle.standards.specs.Rfc3629.{Char, text}

-- Section 8.9: a length has a unit of CSS Values 3, or is a percentage; a number with no unit is in user units
pub data LengthUnit : Type 0 where
  unitless : LengthUnit
  unit : Css.LengthUnit → LengthUnit
  percent : LengthUnit

unfoldable pub length_unit : LengthUnit → List ℕ
length_unit unitless = []
length_unit (unit u) = Css.length_unit u
length_unit percent = ascii "%"

-- <length>: "a <number> immediately followed by a unit identifier"
pub record Length : Type 0 where
  pub number_part : Number
  pub unit_part : LengthUnit

unfoldable pub length_text : Length → List ℕ
length_text t = number t.number_part ++ length_unit t.unit_part

-- a number with no unit is in degrees
pub data AngleUnit : Type 0 where
  unmarked : AngleUnit
  marked : Css.AngleUnit → AngleUnit

unfoldable pub angle_unit : AngleUnit → List ℕ
angle_unit unmarked = []
angle_unit (marked u) = Css.angle_unit u

pub record Angle : Type 0 where
  pub number_part : Number
  pub unit_part : AngleUnit

unfoldable pub angle_text : Angle → List ℕ
angle_text t = number t.number_part ++ angle_unit t.unit_part

abbrev pub ratio : ℕ → ℕ → Fraction
ratio over under = record { minus = false; over = over; under = under }

-- "There are 360 degrees in a full circle", "400 gradians", "2π radians", "1 turn". The degrees of q turns and of q gradians, exactly:
abbrev pub turns_exactly : Fraction → Fraction
turns_exactly q = product q (ratio 360 1)

abbrev pub gradians_exactly : Fraction → Fraction
gradians_exactly q = product q (ratio 360 400)

-- A radian is 180 / π degrees, which lies between these two by π's first 21 digits
abbrev pub radian_below : Fraction
radian_below = ratio (180 * 10 ^ 20) 314159265358979323847

abbrev pub radian_above : Fraction
radian_above = ratio (180 * 10 ^ 20) 314159265358979323846

-- The degrees of n of a unit, in doubles: n turns are n * 360; n radians n * (180 / π); n gradians, of which half a circle is 200, (n * 180) / 200. Each constant, product and quotient is rounded once
unfoldable pub in_degrees : AngleUnit → Float → Float
in_degrees unmarked n = n
in_degrees (marked deg) n = n
in_degrees (marked grad) n = div binary64 (mul binary64 n (double (ratio 180 1))) (double (ratio 200 1))
in_degrees (marked rad) n = mul binary64 n (double radian_below)
in_degrees (marked turn) n = mul binary64 n (double (ratio 360 1))

-- <url>: "url(" and a string in quotes, or none
pub data Quotes : Type 0 where
  bare : Quotes
  single : Quotes
  twofold : Quotes

unfoldable pub quote : Quotes → List ℕ
quote bare = []
quote single = 39 ∷ []
quote twofold = 34 ∷ []

-- which characters may stand between them
unfoldable pub between : Quotes → ℕ → Bool
between bare = is_url
between single = is_string 39
between twofold = is_string 34

-- a link to an element of the same document: `#` (35) and its name, of one character or more
pub record Url : Type 0 where
  pub quotes : Quotes
  pub before : List Blank
  pub first : Of (between quotes)
  pub others : List (Of (between quotes))
  pub after : List Blank

abbrev pub name_characters : Url → List Char
name_characters u = characters (u.first ∷ u.others)

abbrev pub name : Url → List ℕ
name u = text (name_characters u)

-- what stands before the name
unfoldable pub opening : Url → List ℕ
opening u = ascii "url(" ++ (blanks u.before ++ (quote u.quotes ++ ascii "#"))

unfoldable pub closing : Url → List ℕ
closing u = quote u.quotes ++ (blanks u.after ++ ascii ")")

unfoldable pub url_text : Url → List ℕ
url_text u = opening u ++ (name u ++ closing u)

-- SVG 2, section 13.2: "<url> [none | <color>]?", with white space between the two. currentColor is a <color>; the other colours are a grammar of their own
pub data Fallback (Colour : Type 0) : Type 0 where
  absent : Fallback Colour
  no_paint : List Blank → Fallback Colour
  current : List Blank → Fallback Colour
  coloured : List Blank → Colour → Fallback Colour

unfoldable pub fallback_text : {Colour : Type 0} → (Colour → List ℕ) → Fallback Colour → List ℕ
fallback_text colour absent = []
fallback_text colour (no_paint l) = blanks l ++ ascii "none"
fallback_text colour (current l) = blanks l ++ ascii "currentColor"
fallback_text colour (coloured l c) = blanks l ++ colour c

-- <paint> = "none | <color> | <url> [none | <color>]? | context-fill | context-stroke", and `inherit`, which every property takes
pub data Paint (Colour : Type 0) : Type 0 where
  none : Paint Colour
  inherit : Paint Colour
  current_color : Paint Colour
  context_fill : Paint Colour
  context_stroke : Paint Colour
  plain : Colour → Paint Colour
  linked : Url → Fallback Colour → Paint Colour

unfoldable pub paint_text : {Colour : Type 0} → (Colour → List ℕ) → Paint Colour → List ℕ
paint_text colour none = ascii "none"
paint_text colour inherit = ascii "inherit"
paint_text colour current_color = ascii "currentColor"
paint_text colour context_fill = ascii "context-fill"
paint_text colour context_stroke = ascii "context-stroke"
paint_text colour (plain c) = colour c
paint_text colour (linked u f) = url_text u ++ fallback_text colour f
