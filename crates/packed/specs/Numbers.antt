-- A value as one number of 63 bits: from bit 0 its kind as in the paper's record of a paint (1 `none`, 2 `inherit`, 3 `currentColor`, 4 `context-fill`, 5 `context-stroke`, 6 a colour, 7 a link), from bit 3 the link's start, from bit 16 its length, from bit 29 its fallback (0 absent, 1 `none`, 2 `currentColor`, 3 a colour), from bit 31 the colour. 0 is no value's number.
use Rattle.std.specs.Prelude.{ℕ, ◌+◌, ◌*◌, ◌/◌, ◌%◌, cond, leb, eqb, Option, Some, None, Result, Ok, Err}
use Rattle.text_bytes.specs.declared.Part.{Part}
use Rattle.stream.specs.Refusals.{reason_number}
use Rattle.stream.specs.declared.Refusal.{Refusal}
use Rattle.color.specs.declared.Color.{Color}
use Rattle.paint.specs.declared.Paint.{Paint}
use Rattle.paint.specs.declared.Paint.TheVariants as P
use Rattle.paint.specs.declared.PaintFallback.{PaintFallback}
use Rattle.paint.specs.declared.PaintFallback.TheVariants as F

-- where a channel's bits begin in a colour's number, red's at 0; and how many values a channel has
abbrev pub channels : ℕ
channels = 256

abbrev pub greens : ℕ
greens = 256

abbrev pub blues : ℕ
blues = 65536

abbrev pub alphas : ℕ
alphas = 16777216

-- the first number that is no colour's
abbrev pub no_color : ℕ
no_color = 4294967296

-- where a part's bits begin in a value's number; how many kinds, places and fallbacks there are
abbrev pub kinds : ℕ
kinds = 8

abbrev pub starts : ℕ
starts = 8

abbrev pub places : ℕ
places = 8192

abbrev pub lens : ℕ
lens = 65536

abbrev pub fallbacks : ℕ
fallbacks = 536870912

abbrev pub fallback_kinds : ℕ
fallback_kinds = 4

abbrev pub colors : ℕ
colors = 2147483648

-- the first number that is no paint's
abbrev pub no_paint : ℕ
no_paint = no_color * colors

-- a colour: red, then green, blue and alpha
unfoldable pub color_number : Color → ℕ
color_number c = c.red + (c.green * greens + (c.blue * blues + c.alpha * alphas))

-- the colour of a number
unfoldable pub number_color : ℕ → Color
number_color v = record { red = v % channels; green = v / greens % channels; blue = v / blues % channels; alpha = v / alphas % channels }

-- a fallback's bits
unfoldable pub fallback_number : Option PaintFallback → ℕ
fallback_number None = 0
fallback_number (Some F.None) = 1 * fallbacks
fallback_number (Some F.CurrentColor) = 2 * fallbacks
fallback_number (Some (F.Color c)) = 3 * fallbacks + color_number c * colors

-- a paint, whose link's places count from the lent text
unfoldable pub paint_number : Paint → ℕ
paint_number P.None = 1
paint_number P.Inherit = 2
paint_number P.CurrentColor = 3
paint_number P.ContextFill = 4
paint_number P.ContextStroke = 5
paint_number (P.Color c) = 6 + color_number c * colors
paint_number (P.FuncIRI link f) = 7 + (link.start.0 * starts + (link.len * lens + fallback_number f))

-- the fallback that a value's number tells
unfoldable pub decoded_fallback : ℕ → Option PaintFallback
decoded_fallback v =
    cond (eqb (v / fallbacks % fallback_kinds) 0) None
    (cond (eqb (v / fallbacks % fallback_kinds) 1) (Some F.None)
    (cond (eqb (v / fallbacks % fallback_kinds) 2) (Some F.CurrentColor) (Some (F.Color (number_color (v / colors))))))

-- the link
abbrev pub decoded_link : ℕ → Part
decoded_link v = record { start = record { 0 = v / starts % places }; len = v / lens % places }

-- the value that a number tells
unfoldable pub decoded_paint : ℕ → Paint
decoded_paint v =
    cond (eqb (v % kinds) 1) P.None
    (cond (eqb (v % kinds) 2) P.Inherit
    (cond (eqb (v % kinds) 3) P.CurrentColor
    (cond (eqb (v % kinds) 4) P.ContextFill
    (cond (eqb (v % kinds) 5) P.ContextStroke
    (cond (eqb (v % kinds) 6) (P.Color (number_color (v / colors))) (P.FuncIRI (decoded_link v) (decoded_fallback v)))))))

-- an answer's number: its value's, 0 for a refusal. A colour's is that of a paint in this colour
unfoldable pub color_answer_number : Result Color Refusal → ℕ
color_answer_number (Ok c) = paint_number (P.Color c)
color_answer_number (Err e) = 0

unfoldable pub paint_answer_number : Result Paint Refusal → ℕ
paint_answer_number (Ok p) = paint_number p
paint_answer_number (Err e) = 0

-- where a refusal's stretch starts in the text that is read: 1 to 3 have none there
unfoldable pub stretch_start : Refusal → ℕ
stretch_start e = cond (leb (reason_number e.reason) 3) 0 e.from.0

-- a refusal: its own number, and where its stretch starts
abbrev pub refusal_number : Refusal → ℕ
refusal_number e = reason_number e.reason * places + stretch_start e

-- a colour's own number, without a kind; for a refusal, no_color and the refusal's
unfoldable pub color_or : Result Color Refusal → ℕ
color_or (Ok c) = color_number c
color_or (Err e) = no_color + refusal_number e

-- a paint's number, or no_paint and the refusal's
unfoldable pub paint_or : Result Paint Refusal → ℕ
paint_or (Ok p) = paint_number p
paint_or (Err e) = no_paint + refusal_number e
