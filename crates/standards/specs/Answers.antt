-- What the readers' answers are for each tree: the one file of specs/ that names both sides, with Documents, which states the theorems.
use Rattle.std.specs.Prelude.{ℕ, ◌+◌, Bool, true, false, ◌||◌, ◌&&◌, not, List, [], ◌∷◌, ◌≡◌, eqb, ℤ, Float, length, get_or, Result, Ok, Option, Some, None}
use Rattle.std.specs.Float.{fin, binary64}
use Rattle.std.specs.Float.Ieee.{div}
use Rattle.text_bytes.specs.Bytes.{is_digit, is_lower}
use Rattle.text_bytes.specs.Moves.{place}
use Rattle.text_bytes.specs.declared.Place.{Place}
use Rattle.stream.specs.declared.Fault.{Fault}
use Rattle.stream.specs.declared.Read.{Read}
use Rattle.numbers.specs.Powers.{hundred}
use Rattle.numbers.specs.Moves as N
use Rattle.numbers.specs.declared.Written.{Written}
use Rattle.length.specs.declared.Length as L
use Rattle.length.specs.declared.LengthUnit as LU
use Rattle.length.specs.declared.LengthUnit.TheVariants as U
use Rattle.angle.specs.declared.Angle as A
use Rattle.angle.specs.declared.AngleUnit as AU
use Rattle.angle.specs.declared.AngleUnit.TheVariants as W
use Rattle.color.specs.Hsl.{hsl_color}
use Rattle.color.specs.declared.Color.{Color}
use Rattle.funciri.specs.Link.{link_at}
use Rattle.paint.specs.declared.Paint.{Paint}
use Rattle.paint.specs.declared.Paint.TheVariants as P
use Rattle.paint.specs.declared.PaintFallback.{PaintFallback}
use Rattle.paint.specs.declared.PaintFallback.TheVariants as F
use Rattle.filter_functions.specs.declared.FilterValue.{FilterValue}
use Rattle.filter_functions.specs.declared.FilterValue.TheVariants as G
use Rattle.filter_functions.specs.Filters.{FilterStep}
use Rattle.filter_functions.specs.Filters.{value_step}
use Rattle.standards.specs.Ieee754.{Fraction, parameters, RoundsTo, double, exact, quotient}
use Rattle.standards.specs.CssValues3.{Number, exactly, is_absent, is_integer, LengthUnit, em, ex, px, inch, cm, mm, pt, pc, AngleUnit, deg, grad, rad, turn}
use Rattle.standards.specs.CssColor3.{Hsl}
use Rattle.standards.specs.CssColor4.{Channels}
use Rattle.standards.specs.Svg2 as S
use Rattle.standards.specs.Svg2.{name, opening}
use Rattle.standards.specs.FilterEffects1 as E
use Rattle.standards.specs.FilterEffects1.{Simple, brightness, contrast, grayscale, invert, opacity, saturate, sepia}

-- What follows the number t does not go on with it: no digit; where no exponent is written no e or E (101, 69), but that of `em` and `ex` (109, 120); after an <integer> no dot (46)
pub record Apart (t : Number) (rest : List ℕ) : Type 0 where
  pub digit : is_digit (get_or rest 0 0) ≡ false
  pub letter : is_absent t.exponent_part ≡ true → ((eqb (get_or rest 0 0) 101 || eqb (get_or rest 0 0) 69) && not (eqb (get_or rest 1 0) 109 || eqb (get_or rest 1 0) 120)) ≡ false
  pub dot : is_integer t ≡ true → eqb (get_or rest 0 0) 46 ≡ false

-- What may follow any number: no digit, no dot, no e or E (101, 69), but that of `em` and `ex` (109, 120)
pub record Ends (rest : List ℕ) : Type 0 where
  pub digit : is_digit (get_or rest 0 0) ≡ false
  pub dot : eqb (get_or rest 0 0) 46 ≡ false
  pub letter : ((eqb (get_or rest 0 0) 101 || eqb (get_or rest 0 0) 69) && not (eqb (get_or rest 1 0) 109 || eqb (get_or rest 1 0) 120)) ≡ false

-- and a number with no unit: nothing that goes on with the number, no small letter, which would begin a unit, and no `%` (37)
pub record Stops (rest : List ℕ) : Type 0 where
  pub ends : Ends rest
  pub letter : is_lower (get_or rest 0 0) ≡ false
  pub mark : eqb (get_or rest 0 0) 37 ≡ false

-- a value that was read, and the place where reading goes on
abbrev pub read_on : {A : Type 0} → A → Place → Result (Read A) Fault
read_on a p = Ok (record { value = a; next = p })

-- the number as it was written, of which the reader tells whether it is an integer and where its own text ended
abbrev pub number_of : Number → ℕ → N.Number
number_of n end = record { value = double (exactly n); whole = is_integer n; end = place end }

-- a percentage: its number, divided by 100
abbrev pub portion : Number → Float
portion t = div binary64 (double (exactly t)) hundred

-- which is a hundredth of q as the readers have it: q rounded to a double, and that, divided by 100, rounded again
pub record Hundredth (q : Fraction) (v : Float) : Type 0 where
  pub s : Bool
  pub m : ℕ
  pub e : ℤ
  pub first : RoundsTo (parameters binary64) q (fin s m e)
  pub second : RoundsTo (parameters binary64) (quotient (exact s m e) (record { minus = false; over = 100; under = 1 })) v

-- the units of the documents, as the readers name them
unfoldable pub unit_named : LengthUnit → LU.LengthUnit
unit_named em = U.Em
unit_named ex = U.Ex
unit_named px = U.Px
unit_named inch = U.In
unit_named cm = U.Cm
unit_named mm = U.Mm
unit_named pt = U.Pt
unit_named pc = U.Pc

unfoldable pub angle_named : AngleUnit → AU.AngleUnit
angle_named deg = W.Degrees
angle_named grad = W.Gradians
angle_named rad = W.Radians
angle_named turn = W.Turns

-- SVG 2's lengths and angles; an angle with no unit is in degrees
unfoldable pub unit_of : S.LengthUnit → LU.LengthUnit
unit_of S.unitless = U.None
unit_of (S.unit u) = unit_named u
unit_of S.percent = U.Percent

abbrev pub length_of : S.Length → L.Length
length_of t = record { number = double (exactly t.number_part); unit = unit_of t.unit_part }

-- with how its number was written, as above
abbrev pub length_written : S.Length → ℕ → Written L.Length
length_written t end = record { value = length_of t; whole = is_integer t.number_part; end = place end }

unfoldable pub angle_unit_of : S.AngleUnit → AU.AngleUnit
angle_unit_of S.unmarked = W.Degrees
angle_unit_of (S.marked u) = angle_named u

abbrev pub angle_of : S.Angle → A.Angle
angle_of t = record { number = double (exactly t.number_part); unit = angle_unit_of t.unit_part }

abbrev pub angle_written : S.Angle → ℕ → Written A.Angle
angle_written t end = record { value = angle_of t; whole = is_integer t.number_part; end = place end }

-- a colour's four channels
abbrev pub color_of : Channels → Color
color_of c = record { red = c.red; green = c.green; blue = c.blue; alpha = c.alpha }

-- The readers' steps for hsl(), of the document's three numbers. They are more than what the document fixes: its nearest channel is not always theirs, `hsl(0,30.9%,36.1%)` has red 120.499995 and is read as 121
abbrev pub hsl_of : Hsl → Color
hsl_of t = hsl_color (double (exactly t.hue.value)) (portion t.saturation.value) (portion t.lightness.value)

-- the paints; a link is the place and the length of its name in the text, which starts at `at`
unfoldable pub fallback_of : {Colour : Type 0} → (Colour → Color) → S.Fallback Colour → Option PaintFallback
fallback_of channels S.absent = None
fallback_of channels (S.no_paint l) = Some F.None
fallback_of channels (S.current l) = Some F.CurrentColor
fallback_of channels (S.coloured l c) = Some (F.Color (channels c))

unfoldable pub paint_of : {Colour : Type 0} → (Colour → Color) → ℕ → S.Paint Colour → Paint
paint_of channels at S.none = P.None
paint_of channels at S.inherit = P.Inherit
paint_of channels at S.current_color = P.CurrentColor
paint_of channels at S.context_fill = P.ContextFill
paint_of channels at S.context_stroke = P.ContextStroke
paint_of channels at (S.plain c) = P.Color (channels c)
paint_of channels at (S.linked u f) = P.FuncIRI (link_at (place (at + length (opening u))) (length (name u))) (fallback_of channels f)

-- the lengths and angles of filters
unfoldable pub unit_marked : E.LengthMark → LU.LengthUnit
unit_marked E.unmarked = U.None
unit_marked (E.marked u) = unit_named u

abbrev pub measure_of : E.Measure → L.Length
measure_of m = record { number = m.size; unit = unit_marked m.mark }

abbrev pub turn_of : E.Turned → A.Angle
turn_of a = record { number = a.size; unit = angle_named a.mark }

-- the functions of one number
unfoldable pub simple_value : Simple → Float → FilterValue
simple_value brightness x = G.Brightness x
simple_value contrast x = G.Contrast x
simple_value grayscale x = G.Grayscale x
simple_value invert x = G.Invert x
simple_value opacity x = G.Opacity x
simple_value saturate x = G.Saturate x
simple_value sepia x = G.Sepia x

unfoldable pub shadow_color : {Colour : Type 0} → (Colour → Color) → E.Tint Colour → Option Color
shadow_color channels E.current = None
shadow_color channels (E.tint c) = Some (channels c)

-- where a link's identifier stands: after `url(`, white space and `#`
abbrev pub link_place : {Colour : Type 0} → E.FilterFunction Colour → ℕ
link_place t = 4 + length t.before + 1

module _ {Colour : Type 0} (channels : Colour → Color) where
  -- an effect; a link is told by its place n in the text
  unfoldable pub value : ℕ → E.Effect Colour → FilterValue
  value n (E.blurred m) = G.Blur (measure_of m)
  value n (E.simply f x) = simple_value f x
  value n (E.hue_rotated a) = G.HueRotate (turn_of a)
  value n (E.shadowed c dx dy d) = G.DropShadow (record { color = shadow_color channels c; dx = measure_of dx; dy = measure_of dy; deviation = measure_of d })
  value n (E.referenced id) = G.Url (record { start = place n; len = length id })

  -- the values of a list's functions, from place n on: each with the place after its white space
  unfoldable pub handed : (Colour → List ℕ) → ℕ → List (E.Item Colour) → List FilterStep
  handed colour n [] = []
  handed colour n (t ∷ ts) =
      let e = n + length (E.item_text colour t) in
      value_step (value (n + link_place t.function) (E.meaning t.function)) (place e) ∷ handed colour e ts
