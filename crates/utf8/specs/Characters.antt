-- UTF-8, and the characters of a text.
use Rattle.std.specs.Prelude.{ℕ, zero, suc, ◌+◌, ◌-◌, Bool, true, false, ◌&&◌, not, List, [], ◌∷◌, eqb, ltb, length, get_or, take, drop, Result, Ok, Err, if◌then◌else◌}
use Rattle.text_bytes.specs.Bytes.{within}
use Rattle.text_bytes.specs.Bytes.{is_tail}
use Rattle.text_bytes.specs.declared.Place.{Place}
use Rattle.text_bytes.specs.Moves.{place}

-- %xLO-HI, a range of octets
pub record Range : Type 0 where
  pub low : ℕ
  pub high : ℕ

-- one alternative of RFC 3629's UTF8-1 to UTF8-4: its first octet, and those after it
pub record Row : Type 0 where
  pub first : Range
  pub later : List Range

abbrev range : ℕ → ℕ → Range
range lo hi = record { low = lo; high = hi }

abbrev row : ℕ → ℕ → List Range → Row
row lo hi later = record { first = range lo hi; later = later }

-- UTF8-tail = %x80-BF
abbrev tail : Range
tail = range 0x80 0xbf

-- RFC 3629, section 4, alternative by alternative
abbrev pub table : List Row
table =
    row 0x00 0x7f []
    ∷ row 0xc2 0xdf (tail ∷ [])
    ∷ row 0xe0 0xe0 (range 0xa0 0xbf ∷ tail ∷ [])
    ∷ row 0xe1 0xec (tail ∷ tail ∷ [])
    ∷ row 0xed 0xed (range 0x80 0x9f ∷ tail ∷ [])
    ∷ row 0xee 0xef (tail ∷ tail ∷ [])
    ∷ row 0xf0 0xf0 (range 0x90 0xbf ∷ tail ∷ tail ∷ [])
    ∷ row 0xf1 0xf3 (tail ∷ tail ∷ tail ∷ [])
    ∷ row 0xf4 0xf4 (range 0x80 0x8f ∷ tail ∷ tail ∷ [])
    ∷ []

-- the octets at the front keep to the ranges
unfoldable pub keeps : List Range → List ℕ → Bool
keeps [] l = true
keeps (r ∷ rs) [] = false
keeps (r ∷ rs) (x ∷ xs) = within r.low r.high x && keeps rs xs

-- the row in whose first range an octet stands, counted from 0; as many as there are rows for none
unfoldable pub row_of : List Row → ℕ → ℕ
row_of [] x = 0
row_of (r ∷ rs) x = if within r.first.low r.first.high x then 0 else suc (row_of rs x)

-- the octets of a sequence of row n that goes on with xs, 0 where it may not
unfoldable pub len_at : List Row → ℕ → List ℕ → ℕ
len_at [] n xs = 0
len_at (r ∷ rs) zero xs = if keeps r.later xs then suc (length r.later) else 0
len_at (r ∷ rs) (suc n) xs = len_at rs n xs

-- the octets of the character at the front, 0 where none is well formed
unfoldable pub char_len : List ℕ → ℕ
char_len [] = 0
char_len (x ∷ xs) = len_at table (row_of table x) xs

-- every octet is below 128
unfoldable pub is_ascii : List ℕ → Bool
is_ascii [] = true
is_ascii (x ∷ xs) = ltb x 128 && is_ascii xs

-- From place i on, where the next `skip` octets belong to a character that was judged: the place of the first ill-formed sequence, or none
unfoldable pub walk : ℕ → ℕ → List ℕ → Result (Unit {0}) Place
walk i skip [] = Ok tt
walk i (suc k) (x ∷ xs) = walk (i + 1) k xs
walk i zero (x ∷ xs) = if eqb (char_len (x ∷ xs)) 0 then Err (place i) else walk (i + 1) (char_len (x ∷ xs) - 1) xs

-- `utf8_test`
unfoldable pub utf8_of : List ℕ → Result (Unit {0}) Place
utf8_of s = walk 0 0 s

-- For each octet, whether a character starts with it, where the next `skip` octets belong to one that has started
unfoldable pub firsts : ℕ → List ℕ → List Bool
firsts skip [] = []
firsts (suc k) (x ∷ xs) = false ∷ firsts k xs
firsts zero (x ∷ xs) = true ∷ firsts (char_len (x ∷ xs) - 1) xs

-- how many are true
unfoldable pub count : List Bool → ℕ
count [] = 0
count (t ∷ ts) = if t then suc (count ts) else count ts

-- how many characters a text has
unfoldable pub characters : List ℕ → ℕ
characters s = count (firsts 0 s)

-- "a position counts characters from 1: 1 plus the characters whose first byte lies before the place"
unfoldable pub calc_char_pos_at : List ℕ → ℕ → ℕ
calc_char_pos_at s i = 1 + count (take i (firsts 0 s))

-- for each byte, whether it continues no character
unfoldable pub heads : List ℕ → List Bool
heads [] = []
heads (x ∷ xs) = not (is_tail x) ∷ heads xs

-- the manual: "count every byte that does not continue a character". From 1, as a position counts
unfoldable pub manual_at : List ℕ → ℕ → ℕ
manual_at s i = 1 + count (take i (heads s))

-- a place where a character starts, or the end of the text
unfoldable pub on_character : List ℕ → ℕ → Bool
on_character s i = if eqb i (length s) then true else get_or (firsts 0 s) i false

-- the place n characters after i, or the end of the text
unfoldable pub skip_chars : ℕ → List ℕ → ℕ → ℕ
skip_chars zero s i = i
skip_chars (suc n) s i = skip_chars n s (i + char_len (drop i s))
