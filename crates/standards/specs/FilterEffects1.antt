-- Filter Effects Module Level 1, sections 5 and 6: a filter value list as it is written, and the effects that it names. From memory of the Working Draft of December 2018; it knows nothing of the readers.
-- Left out of the grammar: names in capitals (CSS takes any case, svgtypes lower case alone), comments, escapes, quoted links, and shadows with no white space between their parts.
-- <color> is CSS Color's: it is a parameter, with how it is written.
use Rattle.std.specs.Prelude.{ℕ, false, List, [], ◌∷◌, ◌++◌, ◌≡◌, Float}
use Rattle.std.specs.Float.{binary64}
use Rattle.std.specs.Float.Ieee.{div}
use Rattle.standards.specs.Written.{ascii}
use Rattle.standards.specs.Ieee754.{double}
use Rattle.standards.specs.CssValues3 as Css
use Rattle.standards.specs.CssValues3.{Blank, blanks, is_minus, joined, Number, number, exactly, LengthUnit, length_unit, AngleUnit, deg, angle_unit}
use Rattle.standards.specs.CssSyntax3.{UrlCharacter, written}

-- CSS Values 3, <length>: "a number immediately followed by a unit identifier", or with none
pub data LengthMark : Type 0 where
  unmarked : LengthMark
  marked : LengthUnit → LengthMark

unfoldable pub length_mark : LengthMark → List ℕ
length_mark unmarked = []
length_mark (marked u) = length_unit u

-- "for zero lengths the unit identifier is optional"
pub record CssLength : Type 0 where
  pub size : Number
  pub mark : LengthMark
  pub zero : mark ≡ unmarked → joined size.digits_of ≡ 0

unfoldable pub css_length : CssLength → List ℕ
css_length l = number l.size ++ length_mark l.mark

-- a length: a number of units, or none of any
pub record Measure : Type 0 where
  pub size : Float
  pub mark : LengthMark

unfoldable pub measure : CssLength → Measure
measure l = record { size = double (exactly l.size); mark = l.mark }

-- 0, 1 and 100
unfoldable pub nought : Float
nought = double (record { minus = false; over = 0; under = 1 })

unfoldable pub one : Float
one = double (record { minus = false; over = 1; under = 1 })

unfoldable pub hundred : Float
hundred = double (record { minus = false; over = 100; under = 1 })

-- a length that is left out is 0, which is the same in any unit
abbrev pub no_length : Measure
no_length = record { size = nought; mark = unmarked }

-- "Negative values are not allowed": a number with no minus sign. (Minus zero is not negative, but svgtypes refuses it)
pub record Positive : Type 0 where
  pub of : Number
  pub no_minus : is_minus of.signed ≡ false

-- <number-percentage>
pub data Amount : Type 0 where
  plain : Positive → Amount
  percentage : Positive → Amount

unfoldable pub amount : Amount → List ℕ
amount (plain n) = number n.of
amount (percentage n) = Css.percentage n.of

-- a percentage is a part of 1, each step rounded. Values above 1 are allowed, and clamped by some functions when they are used
unfoldable pub share : Amount → Float
share (plain n) = double (exactly n.of)
share (percentage n) = div binary64 (double (exactly n.of)) hundred

-- CSS Values 3, <angle>, and <zero>
pub data CssAngle : Type 0 where
  angle : Number → AngleUnit → CssAngle
  zero : (n : Number) → joined n.digits_of ≡ 0 → CssAngle

unfoldable pub css_angle : CssAngle → List ℕ
css_angle (angle n u) = number n ++ angle_unit u
css_angle (zero n z) = number n

pub record Turned : Type 0 where
  pub size : Float
  pub mark : AngleUnit

unfoldable pub turned : CssAngle → Turned
turned (angle n u) = record { size = double (exactly n); mark = u }
turned (zero n z) = record { size = double (exactly n); mark = deg }

-- the functions of one number
pub data Simple : Type 0 where
  brightness : Simple
  contrast : Simple
  grayscale : Simple
  invert : Simple
  opacity : Simple
  saturate : Simple
  sepia : Simple

-- <length>{2,3}, with white space between them: both offsets, and the standard deviation, which may be left out
pub data Offsets : Type 0 where
  two : (dx : CssLength) → Blank → List Blank → (dy : CssLength) → Offsets
  three : (dx : CssLength) → Blank → List Blank → (dy : CssLength) → Blank → List Blank → (d : CssLength) → is_minus d.size.signed ≡ false → Offsets

-- at least one blank
abbrev pub gap : Blank → List Blank → List ℕ
gap b l = blanks (b ∷ l)

unfoldable pub offsets : Offsets → List ℕ
offsets (two dx b l dy) = css_length dx ++ (gap b l ++ css_length dy)
offsets (three dx b l dy c m d p) = css_length dx ++ (gap b l ++ (css_length dy ++ (gap c m ++ css_length d)))

module _ (Colour : Type 0) where
  -- <color>, of which the keyword currentColor (CSS Color 3, section 4.4)
  pub data Tint : Type 0 where
    current : Tint
    tint : Colour → Tint

  -- drop-shadow( [ <color>? && <length>{2,3} ] )
  pub data Shadow : Type 0 where
    bare : Offsets → Shadow
    colour_first : Tint → Blank → List Blank → Offsets → Shadow
    colour_last : Offsets → Blank → List Blank → Tint → Shadow

  -- what the brackets hold: the argument may be left out, but for a shadow's; `url(#id)` is a <url>
  pub data Content : Type 0 where
    blur_default : Content
    blur : (l : CssLength) → is_minus l.size.signed ≡ false → Content
    simple_default : Simple → Content
    simple : Simple → Amount → Content
    hue_rotate_default : Content
    hue_rotate : CssAngle → Content
    drop_shadow : Shadow → Content
    url : UrlCharacter → List UrlCharacter → Content

  -- <filter-function> or <url>, with the white space inside its brackets
  pub record FilterFunction : Type 0 where
    pub before : List Blank
    pub content : Content
    pub after : List Blank

  -- and the white space after it
  pub record Item : Type 0 where
    pub function : FilterFunction
    pub spaces : List Blank

  -- <filter-value-list> = [ <filter-function> | <url> ]+
  pub record FilterValueList : Type 0 where
    pub leading : List Blank
    pub first : Item
    pub others : List Item

  -- the effects, in the document's terms. A shadow of no colour has the current one
  pub data Effect : Type 0 where
    blurred : Measure → Effect
    simply : Simple → Float → Effect
    hue_rotated : Turned → Effect
    shadowed : Tint → (dx dy deviation : Measure) → Effect
    referenced : List ℕ → Effect

-- the function's name
unfoldable pub simple_name : Simple → List ℕ
simple_name brightness = ascii "brightness"
simple_name contrast = ascii "contrast"
simple_name grayscale = ascii "grayscale"
simple_name invert = ascii "invert"
simple_name opacity = ascii "opacity"
simple_name saturate = ascii "saturate"
simple_name sepia = ascii "sepia"

-- how it is written
module _ {Colour : Type 0} (colour : Colour → List ℕ) where
  unfoldable pub tint_text : Tint Colour → List ℕ
  tint_text current = ascii "currentColor"
  tint_text (tint c) = colour c

  unfoldable pub shadow_text : Shadow Colour → List ℕ
  shadow_text (bare o) = offsets o
  shadow_text (colour_first c b l o) = tint_text c ++ (gap b l ++ offsets o)
  shadow_text (colour_last o b l c) = offsets o ++ (gap b l ++ tint_text c)

  unfoldable pub name : Content Colour → List ℕ
  name blur_default = ascii "blur"
  name (blur l p) = ascii "blur"
  name (simple_default f) = simple_name f
  name (simple f a) = simple_name f
  name hue_rotate_default = ascii "hue-rotate"
  name (hue_rotate a) = ascii "hue-rotate"
  name (drop_shadow d) = ascii "drop-shadow"
  name (url c l) = ascii "url"

  -- 35 is `#`
  unfoldable pub argument : Content Colour → List ℕ
  argument blur_default = []
  argument (blur l p) = css_length l
  argument (simple_default f) = []
  argument (simple f a) = amount a
  argument hue_rotate_default = []
  argument (hue_rotate a) = css_angle a
  argument (drop_shadow d) = shadow_text d
  argument (url c l) = 35 ∷ written (c ∷ l)

  -- the brackets are 40 and 41
  unfoldable pub function_text : FilterFunction Colour → List ℕ
  function_text t = name t.content ++ (40 ∷ (blanks t.before ++ (argument t.content ++ (blanks t.after ++ (41 ∷ [])))))

  unfoldable pub item_text : Item Colour → List ℕ
  item_text t = function_text t.function ++ blanks t.spaces

  unfoldable pub items_text : List (Item Colour) → List ℕ
  items_text [] = []
  items_text (t ∷ ts) = item_text t ++ items_text ts

  unfoldable pub list_text : FilterValueList Colour → List ℕ
  list_text l = blanks l.leading ++ items_text (l.first ∷ l.others)

-- section 5, the property: "none | <filter-value-list>"; the first of these, with white space about it
unfoldable pub none_text : (before after : List Blank) → List ℕ
none_text before after = blanks before ++ (ascii "none" ++ blanks after)

-- and what it says. Left out, the seven functions' number is 1, and a blur's and a deviation's length and an angle are 0
module _ {Colour : Type 0} where
  unfoldable pub with_offsets : Tint Colour → Offsets → Effect Colour
  with_offsets c (two dx b l dy) = shadowed c (measure dx) (measure dy) no_length
  with_offsets c (three dx b l dy k m d p) = shadowed c (measure dx) (measure dy) (measure d)

  unfoldable pub shadow_effect : Shadow Colour → Effect Colour
  shadow_effect (bare o) = with_offsets current o
  shadow_effect (colour_first c b l o) = with_offsets c o
  shadow_effect (colour_last o b l c) = with_offsets c o

  unfoldable pub effect : Content Colour → Effect Colour
  effect blur_default = blurred no_length
  effect (blur l p) = blurred (measure l)
  effect (simple_default f) = simply f one
  effect (simple f a) = simply f (share a)
  effect hue_rotate_default = hue_rotated (record { size = nought; mark = deg })
  effect (hue_rotate a) = hue_rotated (turned a)
  effect (drop_shadow d) = shadow_effect d
  effect (url c l) = referenced (written (c ∷ l))

  abbrev pub meaning : FilterFunction Colour → Effect Colour
  meaning t = effect t.content
