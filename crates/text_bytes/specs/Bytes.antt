-- The classes of bytes that the readers go by.
use Rattle.std.specs.Prelude.{ℕ, Bool, ◌&&◌, ◌||◌, not, leb, eqb}

-- lo ≤ b ≤ hi
unfoldable pub within : ℕ → ℕ → ℕ → Bool
within lo hi b = leb lo b && leb b hi

-- + and -
abbrev pub is_sign : ℕ → Bool
is_sign b = eqb b 43 || eqb b 45

-- 0 to 9
abbrev pub is_digit : ℕ → Bool
is_digit b = within 48 57 b

-- A to Z
abbrev pub is_upper : ℕ → Bool
is_upper b = within 65 90 b

-- a to z
abbrev pub is_lower : ℕ → Bool
is_lower b = within 97 122 b

-- 0 to 9, A to F, a to f
abbrev pub is_hex_digit : ℕ → Bool
is_hex_digit b = is_digit b || (within 65 70 b || within 97 102 b)

-- "Spaces are the four bytes space, tab, line feed, return"
abbrev pub is_space : ℕ → Bool
is_space b = eqb b 32 || (eqb b 9 || (eqb b 10 || eqb b 13))

-- "A word is the longest run of ASCII letters, digits, `-` and `_`"
abbrev pub is_ascii_ident : ℕ → Bool
is_ascii_ident b = is_digit b || (is_upper b || (is_lower b || (eqb b 45 || eqb b 95)))

-- RFC 3629: UTF8-tail = %x80-BF, a byte that continues a character
abbrev pub is_tail : ℕ → Bool
is_tail b = within 0x80 0xbf b

-- a byte of the link that `#` begins: any but a space
abbrev pub is_link_byte : ℕ → Bool
is_link_byte b = not (eqb b 32)

-- a byte of an unquoted link in `url(`: any but a space and `)`
abbrev pub is_url_byte : ℕ → Bool
is_url_byte b = not (eqb b 32) && not (eqb b 41)

-- a byte of a quoted link: any but its quote
abbrev pub is_other : ℕ → ℕ → Bool
is_other quote b = not (eqb b quote)
