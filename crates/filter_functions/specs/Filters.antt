-- One step of a filter list. What stands in quotation marks is the rule.
use Rattle.std.specs.Prelude.{ℕ, ◌+◌, List, leb, ltb, length, drop, Result, Ok, Err, Option, Some, None, if◌then◌else◌}
use Rattle.text_bytes.specs.Bytes.{is_space, is_ascii_ident}
use Rattle.text_bytes.specs.Flow.{◌>>=◌}
use Rattle.text_bytes.specs.Moves.{place}
use Rattle.text_bytes.specs.Scan.{scan}
use Rattle.text_bytes.specs.Words.{ascii, same, starts_with, part}
use Rattle.text_bytes.specs.declared.Place.{Place}
use Rattle.stream.specs.Faults.{invalid_value, unexpected_data, consume_byte}
use Rattle.stream.specs.Refusals.{admit_place}
use Rattle.stream.specs.Steps.{placed, edged}
use Rattle.stream.specs.declared.Fault.{Fault}
use Rattle.stream.specs.declared.Read.{Read}
use Rattle.stream.specs.declared.Step.{Step}
use Rattle.filter_functions.specs.Values.{parse_blur, parse_hue_rotate, parse_generic_color_func, parse_url}
use Rattle.filter_functions.specs.Shadow.{parse_drop_shadow_func}
use Rattle.filter_functions.specs.declared.FilterName.{FilterName}
use Rattle.filter_functions.specs.declared.FilterName.TheVariants as N
use Rattle.filter_functions.specs.declared.FilterValue.{FilterValue}
use Rattle.filter_functions.specs.declared.Listed.{Listed}
use Rattle.filter_functions.specs.declared.Listed.TheVariants as I
use Rattle.filter_functions.specs.declared.Plain.{Plain}
use Rattle.filter_functions.specs.declared.Plain.TheVariants as P

-- "Names are lower case only." The seven plain functions
unfoldable pub plain_name : List ℕ → Option Plain
plain_name w =
    if same w (ascii "brightness") then Some P.Brightness
    else (if same w (ascii "contrast") then Some P.Contrast
    else (if same w (ascii "grayscale") then Some P.Grayscale
    else (if same w (ascii "invert") then Some P.Invert
    else (if same w (ascii "opacity") then Some P.Opacity
    else (if same w (ascii "saturate") then Some P.Saturate
    else (if same w (ascii "sepia") then Some P.Sepia else None))))))

abbrev pub plain_or : Option Plain → Option FilterName
plain_or (Some f) = Some (N.Plain f)
plain_or None = None

-- and all of them
unfoldable pub filter_name : List ℕ → Option FilterName
filter_name w =
    if same w (ascii "blur") then Some N.Blur
    else (if same w (ascii "drop-shadow") then Some N.DropShadow
    else (if same w (ascii "hue-rotate") then Some N.HueRotate
    else (if same w (ascii "url") then Some N.Url else plain_or (plain_name w))))

-- what the brackets of a function hold; 6 for an unknown name
abbrev pub argument_of : Option FilterName → List ℕ → ℕ → ℕ → Result (Read FilterValue) Fault
argument_of (Some N.Blur) s name at = parse_blur s name at
argument_of (Some N.DropShadow) s name at = parse_drop_shadow_func s name at
argument_of (Some N.HueRotate) s name at = parse_hue_rotate s name at
argument_of (Some (N.Plain f)) s name at = parse_generic_color_func s name at f
argument_of (Some N.Url) s name at = parse_url s name at
argument_of None s name at = Err (unexpected_data s name)

unfoldable pub parse_argument : List ℕ → ℕ → ℕ → ℕ → Result (Read FilterValue) Fault
parse_argument s name end at = argument_of (filter_name (part s name end)) s name at

-- spaces, `)` (41)
unfoldable pub close_bracket : List ℕ → ℕ → FilterValue → Result (Read FilterValue) Fault
close_bracket s at v = do
  next ← consume_byte s (scan is_space s at) 41
  Ok (record { value = v; next = next })

-- `parse_next`, up to the closing bracket: a word, spaces, `(` (40), spaces, what the brackets hold
unfoldable pub parse_next : List ℕ → ℕ → Result (Read FilterValue) Fault
parse_next s start =
    let end = scan is_ascii_ident s start in
    do
      inner ← consume_byte s (scan is_space s end) 40
      read ← parse_argument s start end (scan is_space s inner.0)
      close_bracket s read.next.0 read.value

abbrev pub listed : Listed → ℕ → Result (Read Listed) Fault
listed x i = Ok (record { value = x; next = place i })

-- after `none`: spaces, and the end of the text, else 5
unfoldable pub after_none : List ℕ → ℕ → Result (Read Listed) Fault
after_none s at = if ltb (scan is_space s at) (length s) then Err (invalid_value (scan is_space s at)) else listed I.NoneWord (length s)

-- `next`: spaces before a value, `none`, and the spaces after a value, which are passed here. "with nothing left, it gives the end of the text"
unfoldable pub parse_step : List ℕ → ℕ → Result (Read Listed) Fault
parse_step s at =
    let start = scan is_space s at in
    if leb (length s) start then listed I.End (length s)
    else (if starts_with (ascii "none") (drop start s) then after_none s (start + 4)
    else (do
      read ← parse_next s start
      listed (I.Value read.value) (scan is_space s read.next.0)))

-- a step: what the list has there, or why it is refused; and the list place to go on from
abbrev pub FilterStep : Type 0
FilterStep = Step Listed

abbrev pub value_step : FilterValue → Place → FilterStep
value_step v p = record { item = Ok (I.Value v); place = p }

abbrev pub end_step : Place → FilterStep
end_step p = record { item = Ok I.End; place = p }

abbrev pub none_step : Place → FilterStep
none_step p = record { item = Ok I.NoneWord; place = p }

-- "A list step refused by 1 to 3 gives its list place back as it came"; "refused by 4 to 15 .. it gives the end of the text". 22 to 24 are as 9 and 10
unfoldable pub next_filter : List ℕ → ℕ → FilterStep
next_filter s i = placed i (admit_place s i) (edged s (parse_step s i))
