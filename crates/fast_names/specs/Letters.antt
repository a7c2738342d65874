-- The letters of a word as numbers, and the table by them. Only inner contracts speak of it.
use Rattle.std.specs.Prelude.{ℕ, ◌+◌, ◌-◌, ◌*◌, ◌^◌, Bool, ◌&&◌, if◌then◌else◌, List, [], ◌∷◌, eqb, length, get_or, Option, Some, None}
use Rattle.text_bytes.specs.Words.{ascii}
use Rattle.names.specs.Keywords.{Keyword, keywords}
use Rattle.names.specs.Look.{channels}
use Rattle.names.specs.declared.Named.TheVariants as N
use Rattle.fast_names.specs.Named.{named_number}

-- the first three bytes of a word as one number, the first the least
unfoldable pub three : List ℕ → ℕ
three w = get_or w 0 0 + (get_or w 1 0 * 256 + get_or w 2 0 * 256 ^ 2)

-- the four bytes from place i
unfoldable pub four : List ℕ → ℕ → ℕ
four w i = get_or w i 0 + (get_or w (i + 1) 0 * 256 + (get_or w (i + 2) 0 * 256 ^ 2 + get_or w (i + 3) 0 * 256 ^ 3))

-- four bytes and four more
abbrev pub eight : List ℕ → ℕ → ℕ → ℕ
eight w i j = four w i + four w j * 256 ^ 4

-- the first four bytes and the last four
unfoldable pub short : List ℕ → ℕ
short w = eight w 0 (length w - 4)

-- the first eight bytes
unfoldable pub head : List ℕ → ℕ
head w = eight w 0 4

-- the last eight bytes
unfoldable pub tail : List ℕ → ℕ
tail w = eight w (length w - 8) (length w - 4)

-- the number of the first entry whose name passes a test; `transparent` comes after the last entry
unfoldable pub found : (List ℕ → Bool) → List Keyword → Option ℕ
found t [] = if t (ascii "transparent") then named_number (Some N.Transparent) else None
found t (e ∷ es) = if t e.name then named_number (Some (N.Keyword (channels e))) else found t es

-- the names of n letters that pass a test
unfoldable pub of_length : ℕ → (List ℕ → Bool) → Option ℕ
of_length n t = found (λ a. eqb (length a) n && t a) keywords

-- the name of three letters whose number is k
unfoldable pub of_three : ℕ → Option ℕ
of_three k = of_length 3 (λ a. eqb k (three a))

-- the name of n letters, four to eight, whose number is k
unfoldable pub of_short : ℕ → ℕ → Option ℕ
of_short n k = of_length n (λ a. eqb k (short a))

-- the name of n letters, nine to sixteen, whose numbers are k and l
unfoldable pub of_long : ℕ → ℕ → ℕ → Option ℕ
of_long n k l = of_length n (λ a. eqb k (head a) && eqb l (tail a))
