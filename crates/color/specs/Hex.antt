-- A colour, and the hex notation. What stands in quotation marks is the rule.
use Rattle.std.specs.Prelude.{ℕ, ◌+◌, ◌-◌, ◌*◌, cond, List, eqb, get_or, Result, Ok, Err, if◌then◌else◌}
use Rattle.text_bytes.specs.Bytes.{within, is_hex_digit}
use Rattle.text_bytes.specs.Moves.{place}
use Rattle.text_bytes.specs.Scan.{scan}
use Rattle.stream.specs.Faults.{invalid_value}
use Rattle.stream.specs.declared.Fault.{Fault}
use Rattle.stream.specs.declared.Read.{Read}
use Rattle.color.specs.declared.Color.{Color}

abbrev pub rgba : ℕ → ℕ → ℕ → ℕ → Color
rgba r g b a = record { red = r; green = g; blue = b; alpha = a }

-- a colour that was read, and reading goes on at i
abbrev pub color_read : Color → ℕ → Result (Read Color) Fault
color_read c i = Ok (record { value = c; next = place i })

-- the value of a digit: 0 to 9, a to f, A to F. No other byte is asked for
unfoldable pub from_hex : ℕ → ℕ
from_hex c = cond (within 48 57 c) (c - 48) (cond (within 97 102 c) (c - 97 + 10) (cond (within 65 70 c) (c - 65 + 10) 0))

-- "short digits doubled"
unfoldable pub short_hex : List ℕ → ℕ → ℕ
short_hex s i = let h = from_hex (get_or s i 0) in h * 16 + h

-- "Pairs are channels"
unfoldable pub hex_pair : List ℕ → ℕ → ℕ
hex_pair s i = from_hex (get_or s i 0) * 16 + from_hex (get_or s (i + 1) 0)

unfoldable pub short_color : List ℕ → ℕ → ℕ → Color
short_color s i a = rgba (short_hex s i) (short_hex s (i + 1)) (short_hex s (i + 2)) a

unfoldable pub long_color : List ℕ → ℕ → ℕ → Color
long_color s i a = rgba (hex_pair s i) (hex_pair s (i + 2)) (hex_pair s (i + 4)) a

-- "After `#`, the run of hex digits must count 3, 4, 6 or 8, else 5. Pairs are channels, short digits doubled, absent alpha 255."
unfoldable pub parse_hex : List ℕ → ℕ → Result (Read Color) Fault
parse_hex s at =
    let end = scan is_hex_digit s at in
    if eqb (end - at) 6 then color_read (long_color s at 255) end
    else (if eqb (end - at) 8 then color_read (long_color s at (hex_pair s (at + 6))) end
    else (if eqb (end - at) 3 then color_read (short_color s at 255) end
    else (if eqb (end - at) 4 then color_read (short_color s at (short_hex s (at + 3))) end
    else Err (invalid_value end))))
