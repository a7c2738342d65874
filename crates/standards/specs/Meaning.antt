-- What the colours mean, as far as CSS Color Module Level 3, section 4, and the hex notations of CSS Color Module Level 4 fix their channels. From memory of the editions that specs/Colors names; it knows nothing of the readers.
use Rattle.std.specs.Prelude.{ℕ, ◌≤◌, ◌≡◌}
use Rattle.standards.specs.Ieee754.{Fraction, gain}
use Rattle.standards.specs.CssValues3.{Number, exactly}
use Rattle.standards.specs.CssColor4.{Channels, channels}
use Rattle.standards.specs.CssColor3.{Integer, Rgb, integers, percentages, Hsl, rgb, rgba, hsl, hsla, channel, hundredths}
use Rattle.standards.specs.Nearest.{Share, fine, coarse}
use Rattle.standards.specs.Colors.{line, Colour, hex, keyword, transparent, function}

-- section 4.2.1: an integer is itself, clipped to 0 .. 255; a percentage is so many hundredths of 255
abbrev Clipped : Integer → ℕ → Type 0
Clipped i c = c ≡ channel i

abbrev Percent : Number → ℕ → Type 0
Percent n c = Share fine (hundredths (exactly n)) c

abbrev pub RgbMeans : Rgb → Channels → Type 0
RgbMeans (integers r g b) c = Clipped r.value c.red × (Clipped g.value c.green × Clipped b.value c.blue)
RgbMeans (percentages r g b) c = Percent r.value c.red × (Percent g.value c.green × Percent b.value c.blue)

-- section 4.2.2: an alpha is a part of 1; "Any values outside the range 0.0 (fully transparent) to 1.0 (fully opaque) will be clamped to this range". With none a colour is opaque
abbrev Alpha : Number → ℕ → Type 0
Alpha n c = Share fine (exactly n) c

abbrev Opaque : Channels → Type 0
Opaque c = c.alpha ≡ 255

-- a part that is at or below 0, or at or above 1
abbrev pub Empty : Fraction → Type 0
Empty q = gain q ≡ 0

abbrev pub Full : Fraction → Type 0
Full q = q.under ≤ gain q

-- Section 4.2.4, of hsl() and hsla() at the ends of their scales, for every hue: "0% lightness is black, 100% lightness is white", and of saturation "0% is a shade of gray", which is the share of the lightness
abbrev pub Grey : Channels → ℕ → Type 0
Grey c g = (c.red ≡ g) × ((c.green ≡ g) × (c.blue ≡ g))

pub record HslMeans (t : Hsl) (c : Channels) : Type 0 where
  pub black : Empty (hundredths (exactly t.lightness.value)) → Grey c 0
  pub white : Full (hundredths (exactly t.lightness.value)) → Grey c 255
  pub grey : Empty (hundredths (exactly t.saturation.value)) → Grey c c.red × Share coarse (hundredths (exactly t.lightness.value)) c.red

-- a keyword has the channels of its line, and `transparent` (section 4.2.3) is black with no alpha
abbrev pub Means : Colour → Channels → Type 0
Means (hex t) c = c ≡ channels t
Means (keyword k h w) c = c ≡ record { red = (line k).red; green = (line k).green; blue = (line k).blue; alpha = 255 }
Means (transparent w) c = c ≡ record { red = 0; green = 0; blue = 0; alpha = 0 }
Means (function (rgb w t) d) c = RgbMeans t c × Opaque c
Means (function (rgba w t a) d) c = RgbMeans t c × Alpha a.value c.alpha
Means (function (hsl w t) d) c = HslMeans t c × Opaque c
Means (function (hsla w t a) d) c = HslMeans t c × Alpha a.value c.alpha
