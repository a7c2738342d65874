-- Faults: what an inside reader refuses, in places alone, and the bytes that a reader wants.
use Rattle.std.specs.Prelude.{ℕ, ◌+◌, ◌-◌, min, List, leb, eqb, length, get_or, drop, Result, Ok, Err, if◌then◌else◌}
use Rattle.text_bytes.specs.Words.{starts_with, is_curr_byte_eq}
use Rattle.text_bytes.specs.declared.Place.{Place}
use Rattle.utf8.specs.Characters.{skip_chars}
use Rattle.text_bytes.specs.Moves.{place}
use Rattle.stream.specs.declared.Trouble.{Trouble}
use Rattle.stream.specs.declared.Trouble.TheVariants as T
use Rattle.stream.specs.declared.Fault.{Fault}

-- a trouble: the place its position is taken from, and the stretch refused
abbrev pub trouble_at : Trouble → ℕ → ℕ → ℕ → Fault
trouble_at t at from to = record { trouble = t; at = place at; from = place from; to = place to }

-- 4: an empty stretch at the end of the text
abbrev pub unexpected_end : List ℕ → Fault
unexpected_end s = trouble_at T.UnexpectedEndOfStream (length s) (length s) (length s)

-- 5: an empty stretch where reading stopped
abbrev pub invalid_value : ℕ → Fault
invalid_value i = trouble_at T.InvalidValue i i i

-- 6: from its position to the end of the text
abbrev pub unexpected_data : List ℕ → ℕ → Fault
unexpected_data s i = trouble_at T.UnexpectedData i i (length s)

-- 7: the byte found
abbrev pub invalid_char : ℕ → ℕ → ℕ → Fault
invalid_char i found wanted = trouble_at (T.InvalidChar found wanted) i i (i + 1)

-- 8: the part found
abbrev pub invalid_string : ℕ → ℕ → Fault
invalid_string i end = trouble_at T.InvalidString i i end

-- `consume_byte`: 4 at the end of the text, 7 at another byte, else the place after it
unfoldable pub consume_byte : List ℕ → ℕ → ℕ → Result Place Fault
consume_byte s i c =
    if leb (length s) i then Err (unexpected_end s)
    else (if eqb (get_or s i 0) c then Ok (place (i + 1)) else Err (invalid_char i (get_or s i 0) c))

-- `consume_string`: 4 at the end of the text; 8 at another word, which tells as many characters as the word has bytes, or as bytes are left, or all that remain
unfoldable pub consume_string : List ℕ → ℕ → List ℕ → Result Place Fault
consume_string s i w =
    if leb (length s) i then Err (unexpected_end s)
    else (if starts_with w (drop i s) then Ok (place (i + length w))
    else Err (invalid_string i (skip_chars (min (length w) (length s - i)) s i)))

-- `parse_list_separator`: one optional comma
unfoldable pub parse_list_separator : List ℕ → ℕ → ℕ
parse_list_separator s i = if is_curr_byte_eq s i 44 then i + 1 else i
