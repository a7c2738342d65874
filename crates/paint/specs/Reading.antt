-- What a trimmed text reads as.
use Rattle.std.specs.Prelude.{ℕ, List, leb, length, drop, Result, Ok, Err, Some, None, if◌then◌else◌}
use Rattle.text_bytes.specs.Bytes.{is_space}
use Rattle.text_bytes.specs.Flow.{◌>>=◌}
use Rattle.text_bytes.specs.Moves.{place}
use Rattle.text_bytes.specs.Scan.{scan}
use Rattle.text_bytes.specs.Words.{ascii, same, starts_with}
use Rattle.text_bytes.specs.declared.Place.{Place}
use Rattle.stream.specs.Faults.{invalid_value}
use Rattle.stream.specs.Refusals.{is_outside_domain}
use Rattle.stream.specs.declared.Fault.{Fault}
use Rattle.color.specs.Color.{parse_color_text}
use Rattle.funciri.specs.Link.{parse_func_iri}
use Rattle.paint.specs.declared.Paint.{Paint}
use Rattle.paint.specs.declared.Paint.TheVariants as P
use Rattle.paint.specs.declared.PaintFallback.{PaintFallback}
use Rattle.paint.specs.declared.PaintFallback.TheVariants as F
use Rattle.paint.specs.declared.PaintFault.{PaintFault}

-- a fault whose places count from b
abbrev pub based : Place → Fault → PaintFault
based b e = record { fault = e; base = b }

abbrev pub at_start : Fault → PaintFault
at_start = based (place 0)

-- what is made of a fault
abbrev pub on_fault : {A : Type 0} → (Fault → PaintFault) → Result A Fault → Result A PaintFault
on_fault f (Ok a) = Ok a
on_fault f (Err e) = Err (f e)

-- "a fallback is `none`, `currentColor` or a colour, whose refusal keeps its own number with its position counted from the fallback's first byte": f are the fallback's bytes
unfoldable pub parse_fallback : List ℕ → Result PaintFallback Fault
parse_fallback f =
    if same f (ascii "none") then Ok F.None
    else (if same f (ascii "currentColor") then Ok F.CurrentColor
    else (do
      color ← parse_color_text f
      Ok (F.Color color.value)))

-- "After `url(`, a refused link is 5", where the link's reading stopped; else spaces, and a fallback unless the text ends there
unfoldable pub parse_linked : List ℕ → Result Paint PaintFault
parse_linked t = do
  link ← on_fault (λ e. at_start (invalid_value e.at.0)) (parse_func_iri t 0)
  let i = scan is_space t link.next.0
  if leb (length t) i then Ok (P.FuncIRI link.value None)
      else (do
        fallback ← on_fault (based (place i)) (parse_fallback (drop i t))
        Ok (P.FuncIRI link.value (Some fallback)))

-- "A plain colour refused is 5, but for 10, whose position counts from the first byte left by the trimming", and for 23 and 24, which are as 10
unfoldable pub plain_fault : Fault → Fault
plain_fault e = if is_outside_domain e then e else invalid_value e.at.0

unfoldable pub parse_plain : List ℕ → Result Paint PaintFault
parse_plain t = do
  color ← on_fault (λ e. at_start (plain_fault e)) (parse_color_text t)
  Ok (P.Color color.value)

-- "Paint trims, then matches `none`, `inherit`, `currentColor`, `context-fill`, `context-stroke` exactly"
unfoldable pub parse_paint : List ℕ → Result Paint PaintFault
parse_paint t =
    if same t (ascii "none") then Ok P.None
    else (if same t (ascii "inherit") then Ok P.Inherit
    else (if same t (ascii "currentColor") then Ok P.CurrentColor
    else (if same t (ascii "context-fill") then Ok P.ContextFill
    else (if same t (ascii "context-stroke") then Ok P.ContextStroke
    else (if starts_with (ascii "url(") t then parse_linked t
    else parse_plain t)))))
