-- Words: whether a text begins with one, is one, or is one with letter case ignored.
use Rattle.std.specs.Prelude.{ℕ, ◌+◌, ◌-◌, Bool, true, false, ◌&&◌, List, [], ◌∷◌, map, eqb, leb, ltb, length, get_or, take, drop, if◌then◌else◌}
use Rattle.std.specs.Cmp.Lexicographic.{pointwise}
use Prim.Native.Char.{code}
use Prim.Native.String.{String}
use Prim.Native.String as S
use Rattle.text_bytes.specs.Bytes.{is_upper}
use Rattle.text_bytes.specs.declared.Part.{Part}

-- a word's ASCII codes
abbrev pub ascii : String → List ℕ
ascii S.[] = []
ascii (S.◌∷◌ c cs) = code c ∷ ascii cs

unfoldable pub starts_with : List ℕ → List ℕ → Bool
starts_with [] s = true
starts_with (w ∷ ws) [] = false
starts_with (w ∷ ws) (x ∷ xs) = eqb x w && starts_with ws xs

-- the byte at place i is there, and is c
unfoldable pub is_curr_byte_eq : List ℕ → ℕ → ℕ → Bool
is_curr_byte_eq s i c = ltb i (length s) && eqb (get_or s i 0) c

-- the bytes from place i to place e
unfoldable pub part : List ℕ → ℕ → ℕ → List ℕ
part s i e = take (e - i) (drop i s)

-- the bytes of a part, none where it does not lie inside the text
unfoldable pub part_bytes : List ℕ → Part → List ℕ
part_bytes s p = if leb (p.start.0 + p.len) (length s) then take p.len (drop p.start.0 s) else []

-- two texts are the same, byte by byte
unfoldable pub same : List ℕ → List ℕ → Bool
same s w = pointwise eqb s w

-- an ASCII capital as the small letter
unfoldable pub lower_of : ℕ → ℕ
lower_of b = if is_upper b then b + 32 else b

-- "letter case ignored": a word in lower case
abbrev pub lowered : List ℕ → List ℕ
lowered w = map lower_of w
