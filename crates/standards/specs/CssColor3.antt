-- CSS Color Module Level 3, sections 4.2.1, 4.2.2, 4.2.4 and 4.2.5: rgb(), rgba(), hsl() and hsla(), as they are written and what they mean. From memory of the Recommendation of June 2018; it knows nothing of the readers.
use Rattle.std.specs.Prelude.{ℕ, ◌+◌, ◌-◌, ◌*◌, ◌/◌, ◌%◌, min, false, cond, List, [], ◌∷◌, ◌++◌, leb, ltb}
use Rattle.standards.specs.Written.{ascii}
use Rattle.standards.specs.Ieee754.{Fraction}
use Rattle.standards.specs.CssValues3.{Blank, blanks, Digit, spelt, Sign, is_minus, whole, absent, Number, number, exactly, percentage}

-- a name, "ASCII case-insensitive": each of its letters as a small one or as a capital, which stands 32 before it
pub data Spelling : List ℕ → Type 0 where
  done : Spelling []
  small : (c : ℕ) {n : List ℕ} → Spelling n → Spelling (c ∷ n)
  capital : (c : ℕ) {n : List ℕ} → Spelling n → Spelling (c ∷ n)

unfoldable pub spelling : {n : List ℕ} → Spelling n → List ℕ
spelling done = []
spelling (small c w) = c ∷ spelling w
spelling (capital c w) = (c - 32) ∷ spelling w

-- <integer>
pub record Integer : Type 0 where
  pub signed : Sign
  pub first : Digit
  pub others : List Digit

abbrev pub as_number : Integer → Number
as_number i = record { signed = i.signed; digits_of = whole i.first i.others; exponent_part = absent }

abbrev pub integer : Integer → List ℕ
integer i = number (as_number i)

abbrev pub size : Integer → ℕ
size i = spelt 0 (i.first ∷ i.others)

-- "White space characters are allowed around the numerical values."
pub record Spaced (A : Type 0) : Type 0 where
  pub before : List Blank
  pub value : A
  pub after : List Blank

unfoldable pub spaced : {A : Type 0} → (A → List ℕ) → Spaced A → List ℕ
spaced text v = blanks v.before ++ (text v.value ++ blanks v.after)

-- "a comma-separated list of three numerical values (either three integer values or three percentage values)"
pub data Rgb : Type 0 where
  integers : (red green blue : Spaced Integer) → Rgb
  percentages : (red green blue : Spaced Number) → Rgb

-- hue, saturation, lightness: a <number>, and two <percentage>s
pub record Hsl : Type 0 where
  pub hue : Spaced Number
  pub saturation : Spaced Number
  pub lightness : Spaced Number

abbrev listed : List ℕ → List ℕ → List ℕ → List ℕ
listed a b c = a ++ (ascii "," ++ (b ++ (ascii "," ++ c)))

unfoldable pub rgb_values : Rgb → List ℕ
rgb_values (integers r g b) = listed (spaced integer r) (spaced integer g) (spaced integer b)
rgb_values (percentages r g b) = listed (spaced percentage r) (spaced percentage g) (spaced percentage b)

unfoldable pub hsl_values : Hsl → List ℕ
hsl_values t = listed (spaced number t.hue) (spaced percentage t.saturation) (spaced percentage t.lightness)

-- the four notations; the last of rgba() and hsla() is an <alphavalue>, "a <number>"
pub data Functional : Type 0 where
  rgb : Spelling (ascii "rgb") → Rgb → Functional
  rgba : Spelling (ascii "rgba") → Rgb → Spaced Number → Functional
  hsl : Spelling (ascii "hsl") → Hsl → Functional
  hsla : Spelling (ascii "hsla") → Hsl → Spaced Number → Functional

-- a name, `(`, the values, `)`
abbrev plain : List ℕ → List ℕ → List ℕ
plain name values = name ++ (ascii "(" ++ (values ++ ascii ")"))

abbrev with_alpha : List ℕ → List ℕ → Spaced Number → List ℕ
with_alpha name values a = name ++ (ascii "(" ++ (values ++ (ascii "," ++ (spaced number a ++ ascii ")"))))

unfoldable pub functional : Functional → List ℕ
functional (rgb w c) = plain (spelling w) (rgb_values c)
functional (rgba w c a) = with_alpha (spelling w) (rgb_values c) a
functional (hsl w c) = plain (spelling w) (hsl_values c)
functional (hsla w c a) = with_alpha (spelling w) (hsl_values c) a

-- "values outside the device gamut should be clipped": an integer to 0 .. 255
unfoldable pub channel : Integer → ℕ
channel i = cond (is_minus i.signed) 0 (min 255 (size i))

-- a part of the whole, clipped to 0 .. 1, where 255 is the whole: the nearest whole number, of two as near the greater (the document does not say how to round)
unfoldable pub scaled : Fraction → ℕ
scaled q = cond q.minus 0 (min 255 ((2 * (255 * q.over) + q.under) / (2 * q.under)))

-- "The integer value 255 corresponds to 100%"
abbrev pub hundredths : Fraction → Fraction
hundredths q = record { minus = q.minus; over = q.over; under = 100 * q.under }

abbrev pub percent : Number → ℕ
percent n = scaled (hundredths (exactly n))

abbrev pub alpha : Number → ℕ
alpha n = scaled (exactly n)

-- a hue is "an angle of the color circle", in degrees: the same angle in 0 .. 359
unfoldable pub degrees : Integer → ℕ
degrees i = cond (is_minus i.signed) ((360 - size i % 360) % 360) (size i % 360)

-- Section 4.2.4's algorithm, "hsl.to.rgb", of whole degrees (0 .. 359) and whole percents (0 .. 100), with nothing rounded: m1 and m2 are in 10,000ths
abbrev m2 : ℕ → ℕ → ℕ
m2 s l = cond (leb l 50) (l * (s + 100)) (100 * (l + s) - l * s)

abbrev m1 : ℕ → ℕ → ℕ
m1 s l = l * 200 - m2 s l

-- "hue.to.rgb", in 600,000ths: h * 6 < 1 is below 60 degrees, h * 2 < 1 below 180, h * 3 < 2 below 240
abbrev document_hue : ℕ → ℕ → ℕ → ℕ
document_hue a b h = cond (ltb h 60) (a * 60 + (b - a) * h) (cond (ltb h 180) (b * 60) (cond (ltb h 240) (a * 60 + (b - a) * (240 - h)) (a * 60)))

-- the channel at a hue: h + 1/3 is red, h green, h - 1/3 blue
unfoldable pub hue_channel : ℕ → ℕ → ℕ → ℕ
hue_channel h s l = scaled (record { minus = false; over = document_hue (m1 s l) (m2 s l) (h % 360); under = 600000 })

pub record Channels : Type 0 where
  pub red : ℕ
  pub green : ℕ
  pub blue : ℕ

abbrev pub document_hsl : ℕ → ℕ → ℕ → Channels
document_hsl h s l = record { red = hue_channel (h + 120) s l; green = hue_channel h s l; blue = hue_channel (h + 240) s l }
