-- The eight shapes of strict texts; a keyword has none.
use Rattle.std.specs.Prelude.{ℕ, true, false, List, [], ◌∷◌, ◌++◌, map}
use Rattle.text_bytes.specs.Words.{ascii}
use Rattle.shapes.specs.declared.Atom.{Atom}
use Rattle.shapes.specs.declared.Atom.TheVariants as A

abbrev pub word : List ℕ → List Atom
word n = map A.Byte n

-- white space before and after
abbrev pub around : List Atom → List Atom
around xs = A.Spaces ∷ (xs ++ (A.Spaces ∷ []))

abbrev pub whole : List Atom
whole = A.Number false ∷ []

abbrev pub number : List Atom
number = A.Number true ∷ []

abbrev pub percent : List Atom
percent = A.Number true ∷ A.Byte 37 ∷ []

abbrev pub listed : List Atom → List Atom → List Atom → List Atom
listed xs ys zs = around xs ++ (A.Byte 44 ∷ (around ys ++ (A.Byte 44 ∷ around zs)))

abbrev pub call : List ℕ → List Atom → List Atom
call n vs = word n ++ (A.Byte 40 ∷ (vs ++ (A.Byte 41 ∷ [])))

abbrev pub call_alpha : List ℕ → List Atom → List Atom
call_alpha n vs = word n ++ (A.Byte 40 ∷ (vs ++ (A.Byte 44 ∷ (around number ++ (A.Byte 41 ∷ [])))))

abbrev pub hex_three : List Atom
hex_three = around (A.Byte 35 ∷ A.Hex ∷ A.Hex ∷ A.Hex ∷ [])

abbrev pub hex_six : List Atom
hex_six = around (A.Byte 35 ∷ A.Hex ∷ A.Hex ∷ A.Hex ∷ A.Hex ∷ A.Hex ∷ A.Hex ∷ [])

abbrev pub rgb_whole : List Atom
rgb_whole = around (call (ascii "rgb") (listed whole whole whole))

abbrev pub rgb_percent : List Atom
rgb_percent = around (call (ascii "rgb") (listed percent percent percent))

abbrev pub rgba_whole : List Atom
rgba_whole = around (call_alpha (ascii "rgba") (listed whole whole whole))

abbrev pub rgba_percent : List Atom
rgba_percent = around (call_alpha (ascii "rgba") (listed percent percent percent))

abbrev pub hsl : List Atom
hsl = around (call (ascii "hsl") (listed number percent percent))

abbrev pub hsla : List Atom
hsla = around (call_alpha (ascii "hsla") (listed number percent percent))
