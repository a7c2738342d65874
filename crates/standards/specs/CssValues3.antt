-- CSS Values and Units Module Level 3: integers, numbers, percentages and units as they are written, what number they are, and white space. From memory of the Candidate Recommendation of September 2016; it knows nothing of the readers.
use Rattle.std.specs.Prelude.{ℕ, suc, ◌+◌, ◌*◌, ◌^◌, ◌<◌, Bool, true, false, ◌&&◌, cond, List, [], ◌∷◌, ◌++◌, map, length}
use Rattle.standards.specs.Written.{ascii}
use Rattle.standards.specs.Ieee754.{Fraction}

-- white space (CSS 2.1, section 4.1.1) without the form feed, which svgtypes does not skip
pub data Blank : Type 0 where
  space : Blank
  tab : Blank
  line_feed : Blank
  return : Blank

unfoldable pub blank : Blank → ℕ
blank space = 32
blank tab = 9
blank line_feed = 10
blank return = 13

abbrev pub blanks : List Blank → List ℕ
blanks l = map blank l

-- "decimal digits (0 through 9)"
pub record Digit : Type 0 where
  pub is : ℕ
  pub small : is < 10

unfoldable pub numeral : Digit → ℕ
numeral d = 48 + d.is

abbrev pub numerals : List Digit → List ℕ
numerals l = map numeral l

-- the number that digits spell, read on after a
unfoldable pub spelt : ℕ → List Digit → ℕ
spelt a [] = a
spelt a (d ∷ ds) = spelt (a * 10 + d.is) ds

-- "the first character .. may be immediately preceded by `-` or `+`" (45, 43)
pub data Sign : Type 0 where
  unsigned : Sign
  plus : Sign
  minus : Sign

unfoldable pub sign : Sign → List ℕ
sign unsigned = []
sign plus = 43 ∷ []
sign minus = 45 ∷ []

unfoldable pub is_minus : Sign → Bool
is_minus unsigned = false
is_minus plus = false
is_minus minus = true

-- <number>: "either an <integer>, or zero or more decimal digits followed by a dot (.) followed by one or more decimal digits",
pub data Digits : Type 0 where
  whole : Digit → List Digit → Digits
  dotted : List Digit → Digit → List Digit → Digits

unfoldable pub digits : Digits → List ℕ
digits (whole d ds) = numerals (d ∷ ds)
digits (dotted ds f fs) = numerals ds ++ (46 ∷ numerals (f ∷ fs))

-- "and optionally an exponent composed of "e" or "E" and an integer" (101, 69)
pub data Exponent : Type 0 where
  absent : Exponent
  small : Sign → Digit → List Digit → Exponent
  capital : Sign → Digit → List Digit → Exponent

unfoldable pub exponent : Exponent → List ℕ
exponent absent = []
exponent (small s d ds) = 101 ∷ (sign s ++ numerals (d ∷ ds))
exponent (capital s d ds) = 69 ∷ (sign s ++ numerals (d ∷ ds))

pub record Number : Type 0 where
  pub signed : Sign
  pub digits_of : Digits
  pub exponent_part : Exponent

unfoldable pub number : Number → List ℕ
number n = sign n.signed ++ (digits n.digits_of ++ exponent n.exponent_part)

-- all digits, joined, and how many of them stand after the dot
unfoldable pub joined : Digits → ℕ
joined (whole d ds) = spelt 0 (d ∷ ds)
joined (dotted ds f fs) = spelt (spelt 0 ds) (f ∷ fs)

unfoldable pub fraction_digits : Digits → ℕ
fraction_digits (whole d ds) = 0
fraction_digits (dotted ds f fs) = suc (length fs)

-- the exponent's number, and whether it is negative
unfoldable pub power : Exponent → ℕ
power absent = 0
power (small s d ds) = spelt 0 (d ∷ ds)
power (capital s d ds) = spelt 0 (d ∷ ds)

unfoldable pub falls : Exponent → Bool
falls absent = false
falls (small s d ds) = is_minus s
falls (capital s d ds) = is_minus s

-- the number that is written, exactly
unfoldable pub exactly : Number → Fraction
exactly n =
    let m = joined n.digits_of in
    let t = 10 ^ power n.exponent_part in
    record {
      minus = is_minus n.signed;
      over = m * cond (falls n.exponent_part) 1 t;
      under = 10 ^ fraction_digits n.digits_of * cond (falls n.exponent_part) t 1;
    }

-- whether it is written as an <integer>
unfoldable pub is_whole : Digits → Bool
is_whole (whole d ds) = true
is_whole (dotted ds f fs) = false

unfoldable pub is_absent : Exponent → Bool
is_absent absent = true
is_absent (small s d ds) = false
is_absent (capital s d ds) = false

abbrev pub is_integer : Number → Bool
is_integer n = is_whole n.digits_of && is_absent n.exponent_part

-- section 4.3, <percentage>: "a <number> immediately followed by a percent sign"
abbrev pub percentage : Number → List ℕ
percentage n = number n ++ ascii "%"

-- section 5, of the units of <length> those that SVG 1.1 has: em and ex are relative, the others absolute
pub data LengthUnit : Type 0 where
  em : LengthUnit
  ex : LengthUnit
  px : LengthUnit
  inch : LengthUnit
  cm : LengthUnit
  mm : LengthUnit
  pt : LengthUnit
  pc : LengthUnit

-- CSS ignores the letter case of units; the trees have that of the document alone, since svgtypes takes no other
unfoldable pub length_unit : LengthUnit → List ℕ
length_unit em = ascii "em"
length_unit ex = ascii "ex"
length_unit px = ascii "px"
length_unit inch = ascii "in"
length_unit cm = ascii "cm"
length_unit mm = ascii "mm"
length_unit pt = ascii "pt"
length_unit pc = ascii "pc"

-- section 6.1, the units of <angle>
pub data AngleUnit : Type 0 where
  deg : AngleUnit
  grad : AngleUnit
  rad : AngleUnit
  turn : AngleUnit

unfoldable pub angle_unit : AngleUnit → List ℕ
angle_unit deg = ascii "deg"
angle_unit grad = ascii "grad"
angle_unit rad = ascii "rad"
angle_unit turn = ascii "turn"
