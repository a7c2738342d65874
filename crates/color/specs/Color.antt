-- A colour at a place of a text, and as a whole text. What stands in quotation marks is the rule.
use Rattle.std.specs.Prelude.{ℕ, ◌+◌, Bool, ◌||◌, List, eqb, leb, ltb, Float, length, get_or, Result, Ok, Err, if◌then◌else◌, Option, Some, None}
use Rattle.std.specs.Float.{binary64}
use Rattle.std.specs.Float.Ieee.{of_bits, mul, div}
use Rattle.text_bytes.specs.Bytes.{is_space, is_ascii_ident}
use Rattle.text_bytes.specs.Flow.{◌>>=◌}
use Rattle.text_bytes.specs.Scan.{scan}
use Rattle.text_bytes.specs.Words.{ascii, same, lowered, part, is_curr_byte_eq}
use Rattle.stream.specs.Faults.{unexpected_end, invalid_value, unexpected_data, consume_byte}
use Rattle.stream.specs.declared.Fault.{Fault}
use Rattle.stream.specs.declared.Read.{Read}
use Rattle.floats.specs.Floats.{channel_of}
use Rattle.numbers.specs.Number.{parse_number, parse_list_number, parse_list_number_or_percent, after_item}
use Rattle.numbers.specs.Powers.{hundred}
use Rattle.names.specs.Look.{named_of}
use Rattle.names.specs.declared.Named.{Named}
use Rattle.names.specs.declared.Rgb.{Rgb}
use Rattle.names.specs.declared.Named.TheVariants as N
use Rattle.color.specs.Hex.{rgba, color_read, parse_hex}
use Rattle.color.specs.Hsl.{hsl_color}
use Rattle.color.specs.declared.Color.{Color}

-- the f64 255.0
abbrev pub d255 : Float
d255 = of_bits binary64 0x406f_e000_0000_0000

-- "times 255", as a channel
abbrev pub scaled_channel : Float → ℕ
scaled_channel x = channel_of (mul binary64 x d255)

-- "Then spaces, `)`" (41)
unfoldable pub close_bracket : List ℕ → ℕ → Color → Result (Read Color) Fault
close_bracket s at c = do
  next ← consume_byte s (scan is_space s at) 41
  Ok (record { value = c; next = next })

-- "A fourth, unless `)` follows, is a plain number times 255. Then spaces, `)`." Spaces are skipped before it as well
unfoldable pub parse_alpha : List ℕ → ℕ → Color → Result (Read Color) Fault
parse_alpha s at c =
    let start = scan is_space s at in
    if is_curr_byte_eq s start 41 then close_bracket s start c
    else (do
      read ← parse_list_number s start
      close_bracket s read.next.0 (rgba c.red c.green c.blue (scaled_channel read.value.value)))

-- green or blue: "number-or-percent times 255" where red is marked, else a plain number
unfoldable pub channel : List ℕ → ℕ → Bool → Result (Read ℕ) Fault
channel s at marked =
    if marked
    then (do
      read ← parse_list_number_or_percent s at
      Ok (record { value = scaled_channel read.value.value; next = read.next }))
    else (do
      read ← parse_list_number s at
      Ok (record { value = channel_of read.value.value; next = read.next }))

-- "marked, red is n/100*255 and green and blue are number-or-percent times 255"
unfoldable pub rgb_marked : List ℕ → ℕ → Float → Result (Read Color) Fault
rgb_marked s at n = do
  green ← parse_list_number_or_percent s at
  blue ← parse_list_number_or_percent s green.next.0
  parse_alpha s blue.next.0 (rgba (scaled_channel (div binary64 n hundred)) (scaled_channel green.value.value) (scaled_channel blue.value.value) 255)

-- "unmarked, three plain numbers"
unfoldable pub rgb_plain : List ℕ → ℕ → Float → Result (Read Color) Fault
rgb_plain s at n = do
  green ← parse_list_number s at
  blue ← parse_list_number s green.next.0
  parse_alpha s blue.next.0 (rgba (channel_of n) (channel_of green.value.value) (channel_of blue.value.value) 255)

-- "then an optional `%`, spaces, one optional comma .. The first `%` decides all" (37 is `%`)
unfoldable pub rgb_rest : List ℕ → ℕ → Float → Result (Read Color) Fault
rgb_rest s at n = if is_curr_byte_eq s at 37 then rgb_marked s (after_item s (at + 1)) n else rgb_plain s (after_item s at) n

-- "`rgb` or `rgba`, then `(` at once. The first number is no list number (9 at the end of the text, not 4)" (40 is `(`)
unfoldable pub parse_rgb : List ℕ → ℕ → Result (Read Color) Fault
parse_rgb s at = do
  first ← consume_byte s at 40
  red ← parse_number s first.0
  rgb_rest s red.next.0 red.value.value

-- "saturation and lightness are number-or-percent", list numbers both. "Alpha as above."
unfoldable pub hsl_rest : List ℕ → ℕ → Float → Result (Read Color) Fault
hsl_rest s at hue = do
  saturation ← parse_list_number_or_percent s at
  lightness ← parse_list_number_or_percent s saturation.next.0
  parse_alpha s lightness.next.0 (hsl_color hue saturation.value.value lightness.value.value)

-- "`hsl` or `hsla`", then `(` as above. "All later numbers, and the hue, are list numbers"
unfoldable pub parse_hsl : List ℕ → ℕ → Result (Read Color) Fault
parse_hsl s at = do
  first ← consume_byte s at 40
  hue ← parse_list_number s first.0
  hsl_rest s hue.next.0 hue.value.value

-- "a word, letter case ignored": "`rgb` or `rgba`"
unfoldable pub is_rgb : List ℕ → Bool
is_rgb w = same (lowered w) (ascii "rgb") || same (lowered w) (ascii "rgba")

-- "`hsl` or `hsla`"
unfoldable pub is_hsl : List ℕ → Bool
is_hsl w = same (lowered w) (ascii "hsl") || same (lowered w) (ascii "hsla")

-- "absent alpha 255"; `transparent`, which is in no standard's table, has alpha 0
abbrev pub color_of : Named → Color
color_of (N.Keyword c) = rgba c.red c.green c.blue 255
color_of N.Transparent = rgba 0 0 0 0

-- a colour without its alpha, as the keywords have it
abbrev pub rgb_of : Color → Rgb
rgb_of c = record { red = c.red; green = c.green; blue = c.blue }

abbrev pub named_read : Option Named → ℕ → Result (Read Color) Fault
named_read (Some (N.Keyword c)) end = color_read (rgba c.red c.green c.blue 255) end
named_read (Some N.Transparent) end = color_read (rgba 0 0 0 0) end
named_read None end = Err (invalid_value end)

-- "Any other word: the name table, else 5."
unfoldable pub named_color : List ℕ → ℕ → Result (Read Color) Fault
named_color w end = named_read (named_of w) end

-- "Otherwise a word, letter case ignored; the steps are those of `parse_color`, in its order."
unfoldable pub parse_word : List ℕ → ℕ → Result (Read Color) Fault
parse_word s at =
    let end = scan is_ascii_ident s at in
    if is_rgb (part s at end) then parse_rgb s end
    else (if is_hsl (part s at end) then parse_hsl s end
    else named_color (part s at end) end)

-- "Skip spaces; 4 at the end. After `#` .. Otherwise a word" (35 is `#`)
unfoldable pub parse_color : List ℕ → ℕ → Result (Read Color) Fault
parse_color s at =
    let start = scan is_space s at in
    if leb (length s) start then Err (unexpected_end s)
    else (if eqb (get_or s start 0) 35 then parse_hex s (start + 1) else parse_word s start)

-- "As a whole text: spaces, then 6 if bytes remain."
unfoldable pub parse_color_text : List ℕ → Result (Read Color) Fault
parse_color_text s = do
  read ← parse_color s 0
  if ltb (scan is_space s read.next.0) (length s) then Err (unexpected_data s (scan is_space s read.next.0)) else color_read read.value (length s)
