-- All that a list of lengths answers, step by step, as joins' specs/Joins has it of filter lists, and what that is for each tree. As Answers, it names both sides.
use Rattle.std.specs.Prelude.{ℕ, zero, suc, ◌+◌, List, [], ◌∷◌, ◌++◌, length, Result, Ok, Option, Some}
use Rattle.text_bytes.specs.Moves.{place}
use Rattle.length.specs.Lengths.{LengthStep, value_step}
use Rattle.stream.specs.declared.Refusal.{Refusal}
use Rattle.numbers.specs.declared.Written.{Written}
use Rattle.length.specs.Lengths.{next_length}
use Rattle.length.specs.declared.Length as L
use Rattle.standards.specs.CssValues3.{Blank, blanks, number}
use Rattle.standards.specs.Svg2.{Length, length_text}
use Rattle.standards.specs.Svg2Lists as G
use Rattle.standards.specs.Svg2Lists.{Separator, separator, Parted}
use Rattle.standards.specs.Answers.{length_written}

abbrev pub after_length : Result (Option (Written L.Length)) Refusal → List LengthStep → List LengthStep
after_length (Ok (Some w)) more = more
after_length x more = []

-- a length, and what g answers from its list place on; any other answer is the last
unfoldable pub follow : LengthStep → (ℕ → List LengthStep) → List LengthStep
follow t g = t ∷ after_length t.item (g t.place.0)

-- at most k lengths, and one answer more
unfoldable pub from : ℕ → List ℕ → ℕ → List LengthStep
from zero s i = next_length s i ∷ []
from (suc k) s i = follow (next_length s i) (λ n. from k s n)

-- from a place on, to the end or a refusal: a length has a byte or more
unfoldable pub answers : List ℕ → ℕ → List LengthStep
answers s i = from (length s) s i

-- Of a separator, what is passed with the length before it: the list place stands after the white space, or after the comma
abbrev pub passed : Separator → List ℕ
passed (G.space b l) = blanks (b ∷ l)
passed (G.comma l m) = blanks l ++ (44 ∷ [])

-- The lengths of a list, the first of which starts at place n: each with its number and its list place
module _ (last : Length) (after : List Blank) where
  unfoldable pub handed_lengths : ℕ → List Parted → List LengthStep
  handed_lengths n [] =
      value_step (length_written last (n + length (number last.number_part))) (place (n + length (length_text last) + length after)) ∷ []
  handed_lengths n (p ∷ ps) =
      let t = p.length_part in
      let e = n + length (length_text t) in
      value_step (length_written t (n + length (number t.number_part))) (place (e + length (passed p.parting))) ∷ handed_lengths (e + length (separator p.parting)) ps
