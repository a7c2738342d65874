-- Lists that are read whole, computed from the definitions.
use Prim.Native.Nat.{ℕ, ◌+◌}
use mathlib.Core.List.{[], ◌∷◌}
use mathlib.Core.Path.{◌≡◌, refl}
use Rattle.text_bytes.specs.Bytes.{within}
use Rattle.utf8.specs.Characters.{keeps, row_of, len_at, char_len, walk, utf8_of, firsts, count, calc_char_pos_at, on_character}
use Rattle.std.specs.Prelude.{Some}
use Rattle.text_bytes.specs.Moves.{place}
use Rattle.stream.specs.Faults.{consume_byte}
use Rattle.stream.specs.Refusals.{number_of, reason_number, refusal_of, admit_utf8, admit_text, admit_place}
use Rattle.text_bytes.specs.Scan.{scan, run}
use Rattle.text_bytes.specs.Words.{ascii, same, starts_with, part, is_curr_byte_eq}
use Rattle.length.specs.Paper.{zero_length}
use Rattle.stream.specs.Steps.{refused_step}
use Rattle.filter_functions.specs.Filters.{next_filter, value_step, end_step, none_step, parse_step, parse_next, close_bracket, parse_argument, filter_name, after_none}
use Rattle.filter_functions.specs.Values.{parse_blur, parse_url}
use Rattle.stream.specs.declared.Trouble.TheVariants as T
use Rattle.stream.specs.declared.Reason.TheVariants as R
use Rattle.filter_functions.specs.Filters.{FilterStep}
use Rattle.filter_functions.specs.declared.FilterValue.TheVariants as G
use Rattle.joins.specs.Joins.{follow, from, answers}

abbrev blur : ℕ → FilterStep
blur at = value_step (G.Blur zero_length) (place at)

-- a link of one byte
abbrev link : ℕ → ℕ → FilterStep
link start at = value_step (G.Url (record { start = place start; len = 1 })) (place at)

-- 7: found `)` (41), wanted `(` (40)
abbrev refused : ℕ → ℕ → ℕ → FilterStep
refused position from at = refused_step (record { reason = R.Unread (T.InvalidChar 41 40); position = Some (record { 0 = position }); from = place from; to = place (from + 1) }) (place at)

pub record Examples : Type 0 where
  pub one : answers next_filter (ascii "blur()") 0 ≡ blur 6 ∷ end_step (place 6) ∷ []
  pub other : answers next_filter (ascii " url(#a) ") 0 ≡ link 6 9 ∷ end_step (place 9) ∷ []
  -- the one and the other: the first list place passes the space, and the link moves
  pub both : answers next_filter (ascii "blur() url(#a) ") 0 ≡ blur 7 ∷ link 12 15 ∷ end_step (place 15) ∷ []
  pub none : answers next_filter (ascii "blur() none") 0 ≡ blur 7 ∷ none_step (place 11) ∷ []
  pub trouble : answers next_filter (ascii "blur() x) blur()") 0 ≡ blur 7 ∷ refused 9 8 16 ∷ []

pub examples : Examples
unfolding answers from follow next_filter admit_place admit_text admit_utf8 utf8_of walk char_len len_at row_of keeps within on_character firsts count calc_char_pos_at refusal_of reason_number number_of parse_step after_none scan run parse_next consume_byte parse_argument filter_name same part starts_with parse_blur parse_url is_curr_byte_eq close_bracket
examples = record { one = refl; other = refl; both = refl; none = refl; trouble = refl }
