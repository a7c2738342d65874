-- The colour that a word names.
use Rattle.std.specs.Prelude.{ℕ, if◌then◌else◌, List, [], ◌∷◌, Option, Some, None}
use Rattle.text_bytes.specs.Words.{ascii, same, lowered}
use Rattle.names.specs.Keywords.{Keyword, keywords}
use Rattle.names.specs.declared.Rgb.{Rgb}
use Rattle.names.specs.declared.Named.{Named}
use Rattle.names.specs.declared.Named.TheVariants as N

-- the colour of an entry
abbrev pub channels : Keyword → Rgb
channels e = record { red = e.red; green = e.green; blue = e.blue }

-- the first entry whose name is w; `transparent` stands in no entry of the standard, and is read all the same
unfoldable pub look_up : List Keyword → List ℕ → Option Named
look_up [] w = if same w (ascii "transparent") then Some N.Transparent else None
look_up (e ∷ es) w = if same w e.name then Some (N.Keyword (channels e)) else look_up es w

-- letter case ignored
unfoldable pub named_of : List ℕ → Option Named
named_of w = look_up keywords (lowered w)
