-- What a word names, as one number.
use Rattle.std.specs.Prelude.{ℕ, Option, Some, None}
use Rattle.names.specs.declared.Named.{Named}
use Rattle.names.specs.declared.Named.TheVariants as N
use Rattle.color.specs.Hex.{rgba}
use Rattle.packed.specs.Numbers.{color_number}

-- a keyword's colour has alpha 255, `transparent` is black with alpha 0
unfoldable pub named_number : Option Named → Option ℕ
named_number (Some (N.Keyword c)) = Some (color_number (rgba c.red c.green c.blue 255))
named_number (Some N.Transparent) = Some (color_number (rgba 0 0 0 0))
named_number None = None
