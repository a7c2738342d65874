-- <color>: CSS Color Module Level 3, section 4, with the hex notations of CSS Color Module Level 4. The numbers keep to the domain of specs/Domain. From memory of CSS Color 3, Recommendation of June 2018, and CSS Color 4, Candidate Recommendation of July 2022; it knows nothing of the readers.
use Rattle.std.specs.Prelude.{ℕ, ◌<◌, List, length, get_or}
use Rattle.standards.specs.Written.{ascii}
use Rattle.standards.specs.CssColor4.{HexColor, hex_text}
use Rattle.standards.specs.CssColor3Names.{Keyword, is, keywords}
use Rattle.standards.specs.CssColor3.{Spelling, spelling, Functional, functional}
use Rattle.standards.specs.Domain.{AllInDomain}

-- line k of section 4.3's table
abbrev pub line : ℕ → Keyword
line k = get_or keywords k (is "" 0 0 0)

-- Names are "ASCII case-insensitive". `currentColor`, which is no colour by itself, is in the grammars that are built on this one
pub data Colour : Type 0 where
  hex : HexColor → Colour
  keyword : (k : ℕ) → k < length keywords → Spelling (ascii (line k).name) → Colour
  transparent : Spelling (ascii "transparent") → Colour
  function : (t : Functional) → AllInDomain t → Colour

unfoldable pub colour : Colour → List ℕ
colour (hex t) = hex_text t
colour (keyword k h w) = spelling w
colour (transparent w) = spelling w
colour (function t d) = functional t
