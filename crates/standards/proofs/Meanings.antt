-- The channels that are read are what CSS Color 3 and 4 mean.
use Prim.Native.Nat.{ℕ}
use mathlib.Core.Path.{◌≡◌, refl}
use lib.Ieee.{Float}
use Rattle.color.specs.Hsl.{hsl_to_rgb, hsl_color}
use Rattle.color.specs.declared.Color.{Color}
use Rattle.standards.specs.Ieee754.{double}
use Rattle.standards.specs.CssValues3.{exactly}
use Rattle.standards.specs.CssColor3.{Rgb, integers, percentages, Hsl, rgb, rgba, hsl, hsla}
use Rattle.standards.specs.CssColor4.{Channels}
use Rattle.standards.specs.Domain.{HslInDomain}
use Rattle.standards.specs.Colors.{Colour, hex, keyword, transparent, function}
use Rattle.standards.specs.Meaning.{RgbMeans, HslMeans, Means}
use Rattle.standards.specs.Answers.{portion, hsl_of}
use Rattle.standards.proofs.Functional.{rgb_colour}
use Rattle.standards.proofs.Shares.{percent_share, alpha_share}
use Rattle.standards.proofs.Greys.{grey_share}
use Rattle.standards.proofs.HslEnds.{lightness_black, lightness_white, saturation_grey}
use Rattle.standards.proofs.Palette as P

-- the four channels of what is read
abbrev channels_of : Color → Channels
channels_of c = record { red = c.red; green = c.green; blue = c.blue; alpha = c.alpha }

abbrev pub channels : Colour → Channels
channels t = channels_of (P.channels t)

rgb_means : (t : Rgb) → RgbMeans t (channels_of (rgb_colour t))
rgb_means (integers x y z) = (refl, (refl, refl))
rgb_means (percentages x y z) = (percent_share x.value, (percent_share y.value, percent_share z.value))

rgb_opaque : (t : Rgb) → (rgb_colour t).alpha ≡ 255
rgb_opaque (integers x y z) = refl
rgb_opaque (percentages x y z) = refl

hsl_means : (t : Hsl) → HslInDomain t → HslMeans t (channels_of (hsl_of t))
hsl_means t d =
    let h = t.hue.value in
    let s = t.saturation.value in
    let l = t.lightness.value in
    record {
      black = λ z. rw (lightness_black l z (double (exactly h)) (portion s)) (refl, (refl, refl));
      white = λ f. rw (lightness_white h d.0 s l d.1.0 f) (refl, (refl, refl));
      grey = λ z. rw (saturation_grey h d.0 s l d.1.1 z) ((refl, (refl, refl)), grey_share l);
    }

hsl_opaque : (h s l : Float) → (hsl_color h s l).alpha ≡ 255
unfolding hsl_color hsl_to_rgb
hsl_opaque h s l = refl

-- another alpha is no other red, green or blue
module _ (c : Channels) (a : ℕ) where
  abbrev pale : Channels
  pale = record { red = c.red; green = c.green; blue = c.blue; alpha = a }

  rgb_pale : (t : Rgb) → RgbMeans t c → RgbMeans t pale
  rgb_pale (integers x y z) m = m
  rgb_pale (percentages x y z) m = m

  hsl_pale : (t : Hsl) → HslMeans t c → HslMeans t pale
  hsl_pale t m = record { black = m.black; white = m.white; grey = m.grey }

-- THEOREM. Every colour is read with channels that it means.
pub means : (t : Colour) → Means t (channels t)
means (hex t) = refl
means (keyword k h w) = refl
means (transparent w) = refl
means (function (rgb w t) d) = (rgb_means t, rgb_opaque t)
means (function (rgba w t a) d) = (rgb_pale (channels_of (rgb_colour t)) _ t (rgb_means t), alpha_share a.value)
means (function (hsl w t) d) = (hsl_means t d, hsl_opaque _ _ _)
means (function (hsla w t a) d) = (hsl_pale (channels_of (hsl_of t)) _ t (hsl_means t d.0), alpha_share a.value)
