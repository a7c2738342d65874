-- Trimming by the 25 characters of Unicode's White_Space: "U+0009 to 000D, 0020, 0085, 00A0, 1680, 2000 to 200A, 2028, 2029, 202F, 205F, 3000", by their bytes in UTF-8.
use Rattle.std.specs.Prelude.{ℕ, zero, suc, ◌+◌, ◌-◌, Bool, ◌&&◌, ◌||◌, List, [], ◌∷◌, leb, eqb, length, get_or, take, drop, if◌then◌else◌}
use Rattle.text_bytes.specs.declared.Part.{Part}

abbrev between : ℕ → ℕ → ℕ → Bool
between lo hi b = leb lo b && leb b hi

-- U+0009 to 000D, 0020
unfoldable pub blank1 : ℕ → Bool
blank1 a = between 9 13 a || eqb a 32

-- U+0085, 00A0
unfoldable pub blank2 : ℕ → ℕ → Bool
blank2 a b = eqb a 0xc2 && (eqb b 0x85 || eqb b 0xa0)

-- U+1680; 2000 to 200A, 2028, 2029, 202F; 205F; 3000
unfoldable pub blank3 : ℕ → ℕ → ℕ → Bool
blank3 a b c =
    (eqb a 0xe1 && (eqb b 0x9a && eqb c 0x80))
    || ((eqb a 0xe2 && ((eqb b 0x80 && (between 0x80 0x8a c || (eqb c 0xa8 || (eqb c 0xa9 || eqb c 0xaf)))) || (eqb b 0x81 && eqb c 0x9f)))
    || (eqb a 0xe3 && (eqb b 0x80 && eqb c 0x80)))

-- the bytes of the white space that starts with these, 0 for none
unfoldable pub blank_len : ℕ → ℕ → ℕ → ℕ
blank_len a b c = if blank1 a then 1 else (if blank2 a b then 2 else (if blank3 a b c then 3 else 0))

unfoldable pub blank_at : List ℕ → ℕ → ℕ
blank_at s i = blank_len (get_or s i 0) (get_or s (i + 1) 0) (get_or s (i + 2) 0)

-- the byte that stands k before e
unfoldable pub byte_before : List ℕ → ℕ → ℕ → ℕ
byte_before s e k = if leb k e then get_or s (e - k) 0 else 0

-- the bytes of the white space that ends with these, the last first
unfoldable pub blank_end : ℕ → ℕ → ℕ → ℕ
blank_end a b c = if blank1 a then 1 else (if blank2 b a then 2 else (if blank3 c b a then 3 else 0))

unfoldable pub blank_before : List ℕ → ℕ → ℕ
blank_before s e = blank_end (byte_before s e 1) (byte_before s e 2) (byte_before s e 3)

-- From place i on, where `skip` bytes belong to white space that was judged
unfoldable pub front : ℕ → ℕ → List ℕ → ℕ
front i skip [] = i + skip
front i (suc k) (x ∷ xs) = front (i + 1) k xs
front i zero (x ∷ xs) = let n = blank_at (x ∷ xs) 0 in (if eqb n 0 then i else front (i + 1) (n - 1) xs)

-- where a text starts without its leading white space
unfoldable pub trim_start : List ℕ → ℕ
trim_start s = front 0 0 s

-- From place e back, where `skip` bytes belong to white space that was judged
unfoldable pub back : List ℕ → ℕ → ℕ → ℕ
back s zero skip = 0
back s (suc e) (suc k) = back s e k
back s (suc e) zero = let n = blank_before s (suc e) in (if eqb n 0 then suc e else back s e (n - 1))

-- where it ends without its trailing white space
unfoldable pub trim_end : List ℕ → ℕ
trim_end s = back s (length s) 0

unfoldable pub trim_part : List ℕ → Part
trim_part s = record { start = record { 0 = trim_start s }; len = trim_end (drop (trim_start s) s) }

-- the bytes of that part
unfoldable pub trim_of : List ℕ → List ℕ
trim_of s = take (trim_end (drop (trim_start s) s)) (drop (trim_start s) s)
