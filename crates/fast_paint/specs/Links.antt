-- A link and its fallback, without a refusal but a fallback's by 5. Only contracts inside the crate speak of them.
use Rattle.std.specs.Prelude.{ℕ, ◌+◌, ◌-◌, ◌&&◌, List, [], ◌∷◌, ◌++◌, leb, ltb, length, drop, Result, Ok, Err, Option, Some, None, if◌then◌else◌}
use Rattle.text_bytes.specs.Bytes.{is_space}
use Rattle.text_bytes.specs.Moves.{place, move_part}
use Rattle.text_bytes.specs.Scan.{scan}
use Rattle.text_bytes.specs.Words.{ascii, same, starts_with}
use Rattle.text_bytes.specs.declared.Part.{Part}
use Rattle.text_bytes.specs.declared.Place.{Place}
use Rattle.stream.specs.declared.Read.{Read}
use Rattle.stream.specs.declared.Reason.{Reason}
use Rattle.stream.specs.declared.Reason.TheVariants as R
use Rattle.stream.specs.declared.Refusal.{Refusal}
use Rattle.stream.specs.declared.Trouble.TheVariants as T
use Rattle.color.specs.Answer as color
use Rattle.color.specs.declared.Color.{Color}
use Rattle.funciri.specs.Link.{link_at, link_read}
use Rattle.paint.specs.declared.Paint.TheVariants as P
use Rattle.paint.specs.declared.PaintFallback.{PaintFallback}
use Rattle.paint.specs.declared.PaintFallback.TheVariants as F
use Rattle.packed.specs.Numbers.{paint_number}
use Rattle.fast_funciri.specs.Bare.{is_bare_byte}

-- from i on, bytes that no reader has to judge, and what closes them
unfoldable pub bare_link : List ℕ → ℕ → List ℕ → Option (Read Part)
bare_link t i close =
    let end = scan is_bare_byte t i in
    if ltb i end && starts_with close (drop end t) then Some (link_read (link_at (place i) (end - i)) (end + length close)) else None

-- `'` (39), `"` (34)
unfoldable pub told_link : List ℕ → Option (Read Part)
told_link t =
    if starts_with (ascii "url(#") t then bare_link t 5 (ascii ")")
    else (if starts_with (ascii "url('#") t then bare_link t 6 (ascii "')")
    else (if starts_with (ascii "url(" ++ (34 ∷ 35 ∷ [])) t then bare_link t 6 (34 ∷ 41 ∷ [])
    else None))

-- a refusal, told where it is by 5
abbrev pub fallback_refused : Reason → Place → Option (Result PaintFallback Place)
fallback_refused (R.Unread T.InvalidValue) p = Some (Err p)
fallback_refused r p = None

-- the fallback that a colour's answer is, or where it was refused by 5
abbrev pub color_fallback : Result Color Refusal → Option (Result PaintFallback Place)
color_fallback (Ok c) = Some (Ok (F.Color c))
color_fallback (Err e) = fallback_refused e.reason e.from

unfoldable pub told_fallback : List ℕ → Option (Result PaintFallback Place)
told_fallback f =
    if same f (ascii "none") then Some (Ok F.None)
    else (if same f (ascii "currentColor") then Some (Ok F.CurrentColor)
    else color_fallback (color.from_str f))

-- a link's number, with a fallback that is told; where it was refused counts in the fallback's own bytes
abbrev pub fallback_number : Part → Option (Result PaintFallback Place) → Option (Result ℕ Place)
fallback_number link (Some (Ok f)) = Some (Ok (paint_number (P.FuncIRI link (Some f))))
fallback_number link (Some (Err p)) = Some (Err p)
fallback_number link None = None

abbrev pub link_number : ℕ → List ℕ → Option (Read Part) → Option (Result ℕ Place)
link_number by t (Some r) =
    let link = move_part by r.value in
    let i = scan is_space t r.next.0 in
    if leb (length t) i then Some (Ok (paint_number (P.FuncIRI link None))) else fallback_number link (told_fallback (drop i t))
link_number by t None = None

-- a text that begins with a link, with `by` bytes trimmed before it
unfoldable pub told_linked : ℕ → List ℕ → Option (Result ℕ Place)
told_linked by t = link_number by t (told_link t)
