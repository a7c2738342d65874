-- A paint moved by n bytes.
use Rattle.std.specs.Prelude.{ℕ}
use Rattle.text_bytes.specs.Moves.{move_part}
use Rattle.paint.specs.declared.Paint.{Paint}
use Rattle.paint.specs.declared.Paint.TheVariants as P

-- where a paint's link starts, 0 for none
unfoldable pub link_start : Paint → ℕ
link_start (P.FuncIRI link f) = link.start.0
link_start p = 0

-- "A link's place counts from the lent text, in a paint too"
unfoldable pub move_paint : ℕ → Paint → Paint
move_paint n (P.FuncIRI link f) = P.FuncIRI (move_part n link) f
move_paint n p = p
