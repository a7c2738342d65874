-- What the theorems of numbers say, for the grammars that are built on them.
use Prim.Native.Nat.{ℕ, ◌+◌}
use mathlib.Core.List.{List, [], ◌∷◌, ◌++◌}
use mathlib.Core.Path.{◌≡◌, refl, ap, ◌∙◌}
use lib.ListN.{length}
use Rattle.text_bytes.specs.Bytes.{within}
use Rattle.text_bytes.specs.Moves.{place}
use Rattle.numbers.specs.Number.{parse_number, parse_number_or_percent}
use Rattle.numbers.proofs.Shifts.{number_shift, percent_shift}
use Rattle.numbers.specs.Moves.{move_written}
use Rattle.stream.specs.Moves.{move_read, moved}
use Rattle.standards.specs.CssValues3.{Blank, space, tab, line_feed, return, blank, blanks, Number, number, is_integer}
use Rattle.standards.specs.Domain.{InDomain}
use Rattle.standards.specs.Answers.{Apart, Ends, number_of, portion, read_on}
use Rattle.standards.proofs.Cursors.{At, at_read}

-- What may follow any number does not go on with it
pub ends_apart : {rest : List ℕ} (t : Number) → Ends rest → Apart t rest
ends_apart t e = record { digit = e.digit; letter = λ q. e.letter; dot = λ q. e.dot }

-- Common followers of a number
pub ends_none : Ends []
unfolding within
ends_none = record { digit = refl; dot = refl; letter = refl }

module _ (rest : List ℕ) where
  pub ends_comma : Ends (44 ∷ rest)
  unfolding within
  ends_comma = record { digit = refl; dot = refl; letter = refl }

  pub ends_bracket : Ends (41 ∷ rest)
  unfolding within
  ends_bracket = record { digit = refl; dot = refl; letter = refl }

  pub ends_percent : Ends (37 ∷ rest)
  unfolding within
  ends_percent = record { digit = refl; dot = refl; letter = refl }

  pub ends_blank : (b : Blank) → Ends (blank b ∷ rest)
  unfolding blank within
  ends_blank space = record { digit = refl; dot = refl; letter = refl }
  ends_blank tab = record { digit = refl; dot = refl; letter = refl }
  ends_blank line_feed = record { digit = refl; dot = refl; letter = refl }
  ends_blank return = record { digit = refl; dot = refl; letter = refl }

pub record NumbersRead : Type 0 where
  -- a number, after white space: the double nearest to what is written
  pub number_front : (l : List Blank) (t : Number) (rest : List ℕ) → InDomain t → Ends rest
      → parse_number (blanks l ++ (number t ++ rest)) 0
      ≡ read_on (number_of t (length l + length (number t))) (place (length l + length (number t)))
  -- a percentage (37 is `%`): that, divided by 100 and rounded again
  pub percent_front : (l : List Blank) (t : Number) (rest : List ℕ) → InDomain t
      → parse_number_or_percent (blanks l ++ (number t ++ (37 ∷ rest))) 0
      ≡ read_on (record { value = portion t; whole = is_integer t; end = place (length l + length (number t)) })
      (place (length l + length (number t) + 1))

-- both at a place of a text
module _ (r : NumbersRead) {s : List ℕ} {i : ℕ} (l : List Blank) (t : Number) (rest : List ℕ) (d : InDomain t) where
  pub number_there : Ends rest → At s i (blanks l ++ (number t ++ rest))
      → parse_number s i
      ≡ read_on (number_of t (i + (length l + length (number t)))) (place (i + (length l + length (number t))))
  number_there e h = at_read parse_number (moved (move_read move_written)) (λ a b j. number_shift a b j) h ∙ ap (moved (move_read move_written) i) (r.number_front l t rest d e)

  pub percent_there : At s i (blanks l ++ (number t ++ (37 ∷ rest)))
      → parse_number_or_percent s i
      ≡ read_on (record { value = portion t; whole = is_integer t; end = place (i + (length l + length (number t))) })
      (place (i + (length l + length (number t) + 1)))
  percent_there h = at_read parse_number_or_percent (moved (move_read move_written)) (λ a b j. percent_shift a b j) h ∙ ap (moved (move_read move_written) i) (r.percent_front l t rest d)
