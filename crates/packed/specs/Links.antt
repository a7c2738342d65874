-- A paint's link, which only inner contracts speak of: how long it is, 0 where there is none. Where it starts is the paint's link_start.
use Rattle.std.specs.Prelude.{ℕ}
use Rattle.paint.specs.declared.Paint.{Paint}
use Rattle.paint.specs.declared.Paint.TheVariants as P

unfoldable pub link_len : Paint → ℕ
link_len (P.FuncIRI link f) = link.len
link_len P.None = 0
link_len P.Inherit = 0
link_len P.CurrentColor = 0
link_len P.ContextFill = 0
link_len P.ContextStroke = 0
link_len (P.Color c) = 0
