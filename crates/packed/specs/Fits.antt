-- Which values come back from their numbers: those whose channels are bytes, and whose link starts and is long below `places`.
use Rattle.std.specs.Prelude.{◌<◌, true, T, Option, Some, None}
use Rattle.text_bytes.specs.declared.Part.{Part}
use Rattle.color.specs.declared.Color.{Color}
use Rattle.paint.specs.declared.Paint.{Paint}
use Rattle.paint.specs.declared.Paint.TheVariants as P
use Rattle.paint.specs.declared.PaintFallback.{PaintFallback}
use Rattle.paint.specs.declared.PaintFallback.TheVariants as F
use Rattle.packed.specs.Numbers.{channels, places}

pub record Bytes (c : Color) : Type 0 where
  pub red : c.red < channels
  pub green : c.green < channels
  pub blue : c.blue < channels
  pub alpha : c.alpha < channels

abbrev pub FallbackFits : Option PaintFallback → Type 0
FallbackFits (Some (F.Color c)) = Bytes c
FallbackFits None = T true
FallbackFits (Some F.None) = T true
FallbackFits (Some F.CurrentColor) = T true

pub record LinkFits (link : Part) (f : Option PaintFallback) : Type 0 where
  pub start : link.start.0 < places
  pub len : link.len < places
  pub fallback : FallbackFits f

abbrev pub Fits : Paint → Type 0
Fits (P.Color c) = Bytes c
Fits (P.FuncIRI link f) = LinkFits link f
Fits P.None = T true
Fits P.Inherit = T true
Fits P.CurrentColor = T true
Fits P.ContextFill = T true
Fits P.ContextStroke = T true
