-- What the brackets of a filter function hold, the shadow's apart. What stands in quotation marks is the rule. `name` is the place of the
-- function's first byte, where the stretch of refusals 11 to 15 starts.
use Rattle.std.specs.Prelude.{ℕ, ◌-◌, Bool, true, false, List, leb, Float, Result, Ok, Err, Option, Some, None, if◌then◌else◌}
use Rattle.std.specs.Float.Ieee.{eq}
use Rattle.text_bytes.specs.Bytes.{is_space, is_url_byte}
use Rattle.text_bytes.specs.Flow.{◌>>=◌}
use Rattle.text_bytes.specs.Moves.{place}
use Rattle.text_bytes.specs.Scan.{scan}
use Rattle.text_bytes.specs.Words.{is_curr_byte_eq}
use Rattle.stream.specs.Faults.{trouble_at, consume_byte}
use Rattle.stream.specs.declared.Fault.{Fault}
use Rattle.stream.specs.declared.Read.{Read}
use Rattle.stream.specs.declared.Trouble.TheVariants as T
use Rattle.floats.specs.Floats.{d0, d1, sign_of}
use Rattle.numbers.specs.Moves.{Number}
use Rattle.numbers.specs.Number.{parse_number, parse_number_or_percent}
use Rattle.length.specs.Lengths.{parse_length}
use Rattle.length.specs.Paper.{zero_length}
use Rattle.length.specs.declared.Length.{Length}
use Rattle.length.specs.declared.LengthUnit.{LengthUnit}
use Rattle.length.specs.declared.LengthUnit.TheVariants as U
use Rattle.angle.specs.Angles.{parse_unit}
use Rattle.angle.specs.Paper.{zero_angle}
use Rattle.angle.specs.declared.Angle.{Angle}
use Rattle.angle.specs.declared.AngleUnit.{AngleUnit}
use Rattle.angle.specs.declared.AngleUnit.TheVariants as W
use Rattle.filter_functions.specs.declared.FilterValue.{FilterValue}
use Rattle.filter_functions.specs.declared.FilterValue.TheVariants as G
use Rattle.filter_functions.specs.declared.Plain.{Plain}
use Rattle.filter_functions.specs.declared.Plain.TheVariants as P

unfoldable pub is_percent : LengthUnit → Bool
is_percent U.Percent = true
is_percent u = false

-- 11 for a percentage that was read from `at` on
abbrev pub no_percentage : Read Length → ℕ → ℕ → Result (Read Length) Fault
no_percentage r name at = if is_percent r.value.unit then Err (trouble_at T.PercentageValue at name r.next.0) else Ok r

-- `parse_filter_length`: 11 for a percentage, at the place where the length's reading began
unfoldable pub parse_filter_length : List ℕ → ℕ → ℕ → Result (Read Length) Fault
parse_filter_length s name at = do
  read ← parse_length s at
  if is_percent read.value.value.unit then Err (trouble_at T.PercentageValue at name read.next.0) else Ok (record { value = read.value.value; next = read.next })

-- "Blur, deviation and the seven refuse a negative sign, minus zero included; a percentage is judged after that."
unfoldable pub parse_filter_positive_length : List ℕ → ℕ → ℕ → Result (Read Length) Fault
parse_filter_positive_length s name at = do
  read ← parse_length s at
  if sign_of read.value.value.number then Err (trouble_at T.NegativeValue at name read.next.0)
      else (if is_percent read.value.value.unit then Err (trouble_at T.PercentageValue at name read.next.0) else Ok (record { value = read.value.value; next = read.next }))

-- "An unmarked angle must be zero.", else 13, at the number's first byte
abbrev pub marked : ℕ → ℕ → Read Number → Option (Read AngleUnit) → Result (Read Angle) Fault
marked start name n (Some u) = Ok (record { value = record { number = n.value.value; unit = u.value }; next = u.next })
marked start name n None =
    if eq n.value.value d0 then Ok (record { value = record { number = n.value.value; unit = W.Degrees }; next = n.next })
    else Err (trouble_at T.InvalidAngle start name n.next.0)

unfoldable pub parse_filter_angle : List ℕ → ℕ → ℕ → Result (Read Angle) Fault
parse_filter_angle s name at =
    let start = scan is_space s at in
    do
      read ← parse_number s start
      marked start name read (parse_unit s read.next.0)

-- "Empty brackets: blur 0" (41 is `)`)
unfoldable pub parse_blur : List ℕ → ℕ → ℕ → Result (Read FilterValue) Fault
parse_blur s name at =
    if is_curr_byte_eq s at 41 then Ok (record { value = G.Blur zero_length; next = place at })
    else (do
      read ← parse_filter_positive_length s name at
      Ok (record { value = G.Blur read.value; next = read.next }))

-- "hue-rotate 0 degrees"
unfoldable pub parse_hue_rotate : List ℕ → ℕ → ℕ → Result (Read FilterValue) Fault
parse_hue_rotate s name at =
    if is_curr_byte_eq s at 41 then Ok (record { value = G.HueRotate zero_angle; next = place at })
    else (do
      read ← parse_filter_angle s name at
      Ok (record { value = G.HueRotate read.value; next = read.next }))

-- the seven plain functions' values
unfoldable pub plain_value : Plain → Float → FilterValue
plain_value P.Brightness x = G.Brightness x
plain_value P.Contrast x = G.Contrast x
plain_value P.Grayscale x = G.Grayscale x
plain_value P.Invert x = G.Invert x
plain_value P.Opacity x = G.Opacity x
plain_value P.Saturate x = G.Saturate x
plain_value P.Sepia x = G.Sepia x

-- "the seven plain functions 1", else a number or percent
unfoldable pub parse_generic_color_func : List ℕ → ℕ → ℕ → Plain → Result (Read FilterValue) Fault
parse_generic_color_func s name at f =
    if is_curr_byte_eq s at 41 then Ok (record { value = plain_value f d1; next = place at })
    else (do
      read ← parse_number_or_percent s at
      if sign_of read.value.value then Err (trouble_at T.NegativeValue at name read.next.0) else Ok (record { value = plain_value f read.value.value; next = read.next }))

-- a link: `#` (35), and what stands before a space or `)`; 15 if that is nothing
unfoldable pub parse_url : List ℕ → ℕ → ℕ → Result (Read FilterValue) Fault
parse_url s name at = do
  start ← consume_byte s at 35
  if leb (scan is_url_byte s start.0) start.0 then Err (trouble_at T.InvalidUrl name name start.0)
      else Ok (let end = scan is_url_byte s start.0 in record { value = G.Url (record { start = start; len = end - start.0 }); next = place end })
