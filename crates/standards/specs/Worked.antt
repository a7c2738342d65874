-- What is computed of colours: the examples that CSS Color 3, section 4, shows, and the limits of what is proved.
use Rattle.std.specs.Prelude.{ℕ, ◌*◌, ◌^◌, ◌≡◌, Result}
use Rattle.text_bytes.specs.Moves.{place}
use Rattle.stream.specs.declared.Fault.{Fault}
use Rattle.stream.specs.declared.Read.{Read}
use Rattle.color.specs.Color.{parse_color}
use Rattle.color.specs.Hex.{rgba}
use Rattle.color.specs.declared.Color.{Color}
use Rattle.standards.specs.Written.{ascii}
use Rattle.standards.specs.CssColor3.{document_hsl}
use Rattle.standards.specs.Nearest.{Nearest}
use Rattle.standards.specs.Answers.{read_on}

-- a colour, and the place after n bytes
abbrev read : ℕ → ℕ → ℕ → ℕ → ℕ → Result (Read Color) Fault
read r g b a n = read_on (rgba r g b a) (place n)

-- What the document shows is what is read (0.5 and 0.1 of 255 are 127.5 and 25.5, of which the document does not say how they are rounded).
pub record Examples : Type 0 where
  pub integers : parse_color (ascii "rgb(255,0,0)") 0 ≡ read 255 0 0 255 12
  pub percentages : parse_color (ascii "rgb(100%, 0%, 0%)") 0 ≡ read 255 0 0 255 17
  pub above : parse_color (ascii "rgb(300,0,0)") 0 ≡ read 255 0 0 255 12
  pub below : parse_color (ascii "rgb(255,-10,0)") 0 ≡ read 255 0 0 255 14
  pub above_percent : parse_color (ascii "rgb(110%, 0%, 0%)") 0 ≡ read 255 0 0 255 17
  pub solid : parse_color (ascii "rgba(255,0,0,1)") 0 ≡ read 255 0 0 255 15
  pub half : parse_color (ascii "rgba(0,0,255,0.5)") 0 ≡ read 0 0 255 128 17
  pub tenth : parse_color (ascii "rgba(100%, 50%, 0%, 0.1)") 0 ≡ read 255 128 0 26 24
  pub nothing : parse_color (ascii "rgba(0,0,0,0)") 0 ≡ read 0 0 0 0 13
  pub hsl_half : parse_color (ascii "hsla(240, 100%, 50%, 0.5)") 0 ≡ read 0 0 255 128 25
  pub hsl_tenth : parse_color (ascii "hsla(30, 100%, 50%, 0.1)") 0 ≡ read 255 128 0 26 24
  pub red : parse_color (ascii "hsl(0, 100%, 50%)") 0 ≡ read 255 0 0 255 17
  pub lime : parse_color (ascii "hsl(120, 100%, 50%)") 0 ≡ read 0 255 0 255 19
  pub dark_green : parse_color (ascii "hsl(120, 100%, 25%)") 0 ≡ read 0 128 0 255 19
  pub light_green : parse_color (ascii "hsl(120, 100%, 75%)") 0 ≡ read 128 255 128 255 19
  pub pastel_green : parse_color (ascii "hsl(120, 75%, 75%)") 0 ≡ read 143 239 143 255 18

-- Its algorithm for hsl() gives those of section 4.2.4 as well.
pub record Algorithm : Type 0 where
  pub red : document_hsl 0 100 50 ≡ record { red = 255; green = 0; blue = 0 }
  pub lime : document_hsl 120 100 50 ≡ record { red = 0; green = 255; blue = 0 }
  pub dark_green : document_hsl 120 100 25 ≡ record { red = 0; green = 128; blue = 0 }
  pub light_green : document_hsl 120 100 75 ≡ record { red = 128; green = 255; blue = 128 }
  pub pastel_green : document_hsl 120 75 75 ≡ record { red = 143; green = 239; blue = 143 }

-- 29.6078431372549% is read as 76, and so is an alpha of 0.296078431372549; with a decimal less, 29.607843137254% and 29.607843137255% are 75 and 76, as they are to be. Of lightness with no saturation 67.2549% is read as 172.
pub record Sharp : Type 0 where
  pub percent : parse_color (ascii "rgb(29.6078431372549%,0%,0%)") 0 ≡ read_on (rgba 76 0 0 255) (place 28)
  pub alpha : parse_color (ascii "rgba(0,0,0,0.296078431372549)") 0 ≡ read_on (rgba 0 0 0 76) (place 29)
  pub shorter : parse_color (ascii "rgb(29.607843137254%,29.607843137255%,0%)") 0 ≡ read_on (rgba 75 76 0 255) (place 41)
  pub grey : parse_color (ascii "hsl(0,0%,67.2549%)") 0 ≡ read_on (rgba 172 172 172 255) (place 18)
  -- 255 times the first two is 75.499 999 999 999 995, to which 75 is nearer, and 255 times the grey 171.499 995
  pub part_farther : Nearest 76 296078431372549 (10 ^ 15) → ⊥
  pub grey_farther : Nearest 172 672549 (10 ^ 6) → ⊥
  -- with saturation, tenths of a percent are enough: red is 255 * 0.361 * 1.309, which is 120.499 995
  pub red : parse_color (ascii "hsl(0,30.9%,36.1%)") 0 ≡ read_on (rgba 121 64 64 255) (place 18)
  pub red_farther : Nearest 121 (361 * 1309) (10 ^ 6) → ⊥
