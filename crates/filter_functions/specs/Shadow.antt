-- A shadow's brackets. What stands in quotation marks is the rule.
use Rattle.std.specs.Prelude.{ℕ, ◌+◌, ◌||◌, List, drop, Result, Ok, Err, Option, Some, None, if◌then◌else◌}
use Rattle.text_bytes.specs.Bytes.{is_space}
use Rattle.text_bytes.specs.Flow.{◌>>=◌}
use Rattle.text_bytes.specs.Moves.{place}
use Rattle.text_bytes.specs.Scan.{scan}
use Rattle.text_bytes.specs.Words.{ascii, starts_with, is_curr_byte_eq}
use Rattle.text_bytes.specs.declared.Place.{Place}
use Rattle.stream.specs.Faults.{trouble_at}
use Rattle.stream.specs.Refusals.{is_outside_domain}
use Rattle.stream.specs.declared.Fault.{Fault}
use Rattle.stream.specs.declared.Read.{Read}
use Rattle.stream.specs.declared.Trouble.TheVariants as T
use Rattle.floats.specs.Floats.{sign_of}
use Rattle.numbers.specs.declared.Written.{Written}
use Rattle.length.specs.Lengths.{parse_length}
use Rattle.length.specs.Paper.{zero_length}
use Rattle.length.specs.declared.Length.{Length}
use Rattle.color.specs.Color.{parse_color}
use Rattle.color.specs.declared.Color.{Color}
use Rattle.filter_functions.specs.Values.{is_percent, parse_filter_length}
use Rattle.filter_functions.specs.declared.FilterValue.{FilterValue}
use Rattle.filter_functions.specs.declared.FilterValue.TheVariants as G
use Rattle.filter_functions.specs.declared.ShadowLengths.{ShadowLengths}

-- a shadow's colour, if one is there; `currentColor` is one of none
abbrev pub ColorRead : Type 0
ColorRead = Option (Read (Option Color))

abbrev pub color_or : List ℕ → ℕ → Result (Read Color) Fault → Result ColorRead Fault
color_or s at (Ok c) = Ok (Some (record { value = Some c.value; next = c.next }))
color_or s at (Err e) =
    if is_outside_domain e then Err e
    else (if starts_with (ascii "currentColor") (drop at s) then Ok (Some (record { value = None; next = place (at + 12) })) else Ok None)

-- `try_parse_color`, else `currentColor`. "Refusal 10 is never swallowed: not by an optional part", nor are 23 and 24. Any other refused colour leaves the place
unfoldable pub try_parse_color : List ℕ → ℕ → Result ColorRead Fault
try_parse_color s at = color_or s at (parse_color s at)

abbrev pub deviation_or : List ℕ → ℕ → Result (Read (Written Length)) Fault → Result (Read Length) Fault
deviation_or s at (Ok r) =
    if sign_of r.value.value.number || is_percent r.value.value.unit then Ok (record { value = zero_length; next = r.next })
    else Ok (record { value = r.value.value; next = place (scan is_space s r.next.0) })
deviation_or s at (Err e) = if is_outside_domain e then Err e else Ok (record { value = zero_length; next = place at })

-- "A shadow's deviation that is refused by 11 or 12 is read past and counts as 0, as in the crate." No spaces are skipped after it then.
-- Where no number starts there is none, which counts as 0 too
unfoldable pub parse_deviation : List ℕ → ℕ → Result (Read Length) Fault
parse_deviation s at = deviation_or s at (parse_length s at)

-- the two offsets, which must be there, and the deviation
unfoldable pub parse_shadow_lengths : List ℕ → ℕ → ℕ → Result (Read ShadowLengths) Fault
parse_shadow_lengths s name at = do
  dx ← parse_filter_length s name at
  dy ← parse_filter_length s name (scan is_space s dx.next.0)
  deviation ← parse_deviation s (scan is_space s dy.next.0)
  Ok (record { value = record { dx = dx.value; dy = dy.value; deviation = deviation.value }; next = deviation.next })

abbrev pub shadow : Option Color → ShadowLengths → FilterValue
shadow c l = G.DropShadow (record { color = c; dx = l.dx; dy = l.dy; deviation = l.deviation })

-- the lengths after a colour: no other is looked for
unfoldable pub shadow_after : List ℕ → ℕ → ℕ → Option Color → Result (Read FilterValue) Fault
shadow_after s name at c = do
  read ← parse_shadow_lengths s name at
  Ok (record { value = shadow c read.value; next = read.next })

-- the lengths before a colour, which may be left out
abbrev pub or_none : Place → ColorRead → Read (Option Color)
or_none p None = record { value = None; next = p }
or_none p (Some c) = c

unfoldable pub shadow_before : List ℕ → ℕ → ℕ → Result (Read FilterValue) Fault
shadow_before s name at = do
  read ← parse_shadow_lengths s name at
  color ← try_parse_color s read.next.0
  Ok (record { value = shadow (or_none read.next color).value read.value; next = (or_none read.next color).next })

abbrev pub shadow_on : List ℕ → ℕ → ℕ → ColorRead → Result (Read FilterValue) Fault
shadow_on s name at (Some c) = shadow_after s name (scan is_space s c.next.0) c.value
shadow_on s name at None = shadow_before s name at

-- `parse_drop_shadow_func`: 14 for empty brackets (41 is `)`); the colour is tried first
unfoldable pub parse_drop_shadow_func : List ℕ → ℕ → ℕ → Result (Read FilterValue) Fault
parse_drop_shadow_func s name at =
    if is_curr_byte_eq s at 41 then Err (trouble_at T.MissingDropShadowOffset at name at)
    else (do
      color ← try_parse_color s at
      shadow_on s name at color)
