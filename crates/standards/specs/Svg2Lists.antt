-- SVG 2: lists of lengths as they are written. From memory of the Candidate Recommendation of October 2018; it knows nothing of the readers.
use Rattle.std.specs.Prelude.{ℕ, List, [], ◌∷◌, ◌++◌}
use Rattle.standards.specs.CssValues3.{Blank, blanks}
use Rattle.standards.specs.Svg2.{Length, length_text}

-- Section 4.2, as in SVG 1.1: "comma-wsp ::= (wsp+ ","? wsp*) | ("," wsp*)" (44 is the comma): white space, or one comma with white space about it
pub data Separator : Type 0 where
  space : Blank → List Blank → Separator
  comma : List Blank → List Blank → Separator

unfoldable pub separator : Separator → List ℕ
separator (space b l) = blanks (b ∷ l)
separator (comma l m) = blanks l ++ (44 ∷ blanks m)

-- a length, and what parts it from the next
pub record Parted : Type 0 where
  pub length_part : Length
  pub parting : Separator

unfoldable pub parted_text : List Parted → List ℕ
parted_text [] = []
parted_text (t ∷ ts) = length_text t.length_part ++ (separator t.parting ++ parted_text ts)

-- "list-of-Ts ::= T | T comma-wsp list-of-Ts", with white space about it
pub record LengthList : Type 0 where
  pub before : List Blank
  pub firsts : List Parted
  pub last : Length
  pub after : List Blank

unfoldable pub lengths_text : LengthList → List ℕ
lengths_text t = blanks t.before ++ (parted_text t.firsts ++ (length_text t.last ++ blanks t.after))
