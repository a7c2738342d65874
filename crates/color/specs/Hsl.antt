-- From hue, saturation and lightness to channels. What stands in quotation marks is the rule. A literal is given by its bits: d.. is an f64, s.. an f32.
use Rattle.std.specs.Prelude.{ℕ, cond, Float}
use Rattle.std.specs.Float.{binary32, binary64}
use Rattle.std.specs.Float.Ieee.{of_bits, lt, le, add, sub, mul, div, rem}
use Rattle.floats.specs.Floats.{narrowed, channel_of, clamped}
use Rattle.color.specs.declared.Color.{Color}

-- the f64 360.0
abbrev pub d360 : Float
d360 = of_bits binary64 0x4076_8000_0000_0000

-- the f32s 0.0, 0.5, 1.0, 2.0, 3.0, 4.0, 6.0, 60.0 and 255.0
abbrev pub s0 : Float
s0 = of_bits binary32 0x0000_0000

abbrev pub s05 : Float
s05 = of_bits binary32 0x3f00_0000

abbrev pub s1 : Float
s1 = of_bits binary32 0x3f80_0000

abbrev pub s2 : Float
s2 = of_bits binary32 0x4000_0000

abbrev pub s3 : Float
s3 = of_bits binary32 0x4040_0000

abbrev pub s4 : Float
s4 = of_bits binary32 0x4080_0000

abbrev pub s6 : Float
s6 = of_bits binary32 0x40c0_0000

abbrev pub s60 : Float
s60 = of_bits binary32 0x4270_0000

abbrev pub s255 : Float
s255 = of_bits binary32 0x437f_0000

-- "hue h becomes ((h%360)+360)%360 in f64"
abbrev pub turned : Float → Float
turned h = rem binary64 (add binary64 (rem binary64 h d360) d360) d360

-- `hue_to_rgb`, which first brings the hue into 0 .. 6: what is below 0 is raised, what is 6 or more is lowered
abbrev pub raised : Float → Float
raised h = cond (lt h s0) (add binary32 h s6) h

abbrev pub lessened : Float → Float
lessened h = cond (le s6 h) (sub binary32 h s6) h

-- then takes the sector that the hue lies in: up to 1 rising, to 3 high, to 4 falling, else low
abbrev pub sector : Float → Float → Float → Float
sector t1 t2 h =
    cond (lt h s1) (add binary32 (mul binary32 (sub binary32 t2 t1) h) t1)
    (cond (lt h s3) t2
    (cond (lt h s4) (add binary32 (mul binary32 (sub binary32 t2 t1) (sub binary32 s4 h)) t1)
    t1))

unfoldable pub hue_to_rgb : Float → Float → Float → Float
hue_to_rgb t1 t2 h = sector t1 t2 (lessened (raised h))

-- t2 and t1 of `hsl_to_rgb`
abbrev pub upper : Float → Float → Float
upper s l = cond (le l s05) (mul binary32 l (add binary32 s s1)) (sub binary32 (add binary32 l s) (mul binary32 l s))

abbrev pub under : Float → Float → Float
under s l = sub binary32 (mul binary32 l s2) (upper s l)

-- the channel at a hue
abbrev pub lit : Float → Float → Float → ℕ
lit s l h = channel_of (mul binary32 (hue_to_rgb (under s l) (upper s l) h) s255)

-- "then `hsl_to_rgb` and `hue_to_rgb` in f32, in the source's order": red two sextants on, blue two back
unfoldable pub hsl_to_rgb : Float → Float → Float → Color
hsl_to_rgb h s l = record { red = lit s l (add binary32 h s2); green = lit s l h; blue = lit s l (sub binary32 h s2); alpha = 255 }

-- "saturation and lightness are .. held to 0..1; all three are rounded to f32 (nearest, ties to even, IEEE 754), hue divided by 60"
unfoldable pub hsl_color : Float → Float → Float → Color
hsl_color h s l = hsl_to_rgb (div binary32 (narrowed (turned h)) s60) (narrowed (clamped s)) (narrowed (clamped l))
