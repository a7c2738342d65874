-- Wrong steps that the statements shut out, each by a smallest list.
use Prim.Native.Nat.{ℕ, ◌-◌, ◌≤◌}
use mathlib.Core.Bool.{cond}
use mathlib.Core.List.{List, [], ◌∷◌, ◌++◌}
use mathlib.Core.Path.{◌≡◌, refl, ap}
use native.Mathlib.Omega.{arith}
use lib.Dec.{eqb}
use lib.ListN.{length, get_or, drop}
use Rattle.text_bytes.specs.Bytes.{within}
use Rattle.utf8.specs.Characters.{keeps, row_of, len_at, char_len, walk, utf8_of, firsts, count, characters, calc_char_pos_at, on_character}
use Rattle.std.specs.Prelude.{Result, Ok, Err, Option, Some, None}
use Rattle.text_bytes.specs.Moves.{place, move_place}
use Rattle.text_bytes.specs.declared.Place.{Place}
use Rattle.utf8.specs.declared.Position.{Position}
use Rattle.stream.specs.Paper.{paper_refusal}
use Rattle.stream.specs.declared.Refusal.{Refusal}
use Rattle.stream.specs.declared.Trouble.TheVariants as T
use Rattle.stream.specs.declared.Reason.TheVariants as R
use Rattle.stream.specs.Faults.{consume_byte}
use Rattle.stream.specs.Refusals.{empty_refusal, number_of, reason_number, refusal_of, admit_utf8, admit_text, admit_place}
use Rattle.text_bytes.specs.Scan.{scan, run}
use Rattle.text_bytes.specs.Words.{ascii, same, starts_with, part, is_curr_byte_eq}
use Rattle.stream.specs.Steps.{refused_step}
use Rattle.filter_functions.specs.Filters.{next_filter, end_step, parse_step, parse_next, close_bracket, parse_argument, filter_name}
use Rattle.filter_functions.specs.Moves.{move_listed}
use Rattle.filter_functions.specs.Paper.{paper_step, result}
use Rattle.filter_functions.specs.Values.{parse_blur, parse_url}
use Rattle.filter_functions.specs.Filters.{FilterStep}
use Rattle.filter_functions.specs.declared.Listed.{Listed}
use Rattle.filter_functions.specs.declared.Listed.TheVariants as I
use Rattle.joins.specs.Joins.{Next, follow, from, answers, handed, values, move_step, passing, Join, Bound, further, AtItsEnd}

-- it reads its first value again and again
abbrev repeating : Next
repeating s i = next_filter s 0

-- it gives every list place back as it came
abbrev back : Result Listed Refusal → Place → FilterStep → FilterStep
back (Ok (I.Value v)) p x = record { item = x.item; place = p }
back (Ok I.End) p x = x
back (Ok I.NoneWord) p x = x
back (Err e) p x = record { item = x.item; place = p }

abbrev staying : Next
staying s i = back (next_filter s i).item (place i) (next_filter s i)

-- it ends after its first value
abbrev stopping : Next
stopping s i = cond (eqb i 0) (next_filter s i) (end_step (place (length s)))

-- it reads the rest as a text of its own, and moves nothing but the list place
abbrev move : ℕ → FilterStep → FilterStep
move i x = record { item = x.item; place = move_place i x.place }

abbrev resting : Next
resting s i = move i (next_filter (drop i s) 0)

-- it counts a refusal's position from its list place
abbrev less : ℕ → Option Position → Option Position
less i (Some p) = Some (record { 0 = p.0 - i })
less i None = None

abbrev near : ℕ → Result Listed Refusal → Result Listed Refusal
near i (Ok l) = Ok l
near i (Err r) = Err (record { reason = r.reason; position = less i r.position; from = r.from; to = r.to })

abbrev nearing : Next
nearing s i = record { item = near i (next_filter s i).item; place = (next_filter s i).place }

-- it reads the rest as a text of its own, and moves its links by the characters before it
abbrev letter : ℕ → Result Listed Refusal → Result Listed Refusal
letter k (Ok l) = Ok (move_listed k l)
letter k (Err r) = Err r

abbrev lettering : Next
lettering s i =
    let x = next_filter (drop i s) 0 in
    record { item = letter (calc_char_pos_at s i - 1) x.item; place = move_place i x.place }

-- the position of answer k's refusal
abbrev position_at : ℕ → List FilterStep → ℕ
position_at k l = (paper_step (get_or l k (end_step (place 0)))).refusal.position

-- where the link of answer k is
abbrev link_at : ℕ → List FilterStep → ℕ
link_at k l = (paper_step (get_or l k (end_step (place 0)))).value.link.start.0

-- 4 at the end of a text of one byte
abbrev ended : Refusal
ended = empty_refusal (R.Unread T.UnexpectedEndOfStream) 1

pub record Wrong : Type 0 where
  pub repeats : Bound repeating → ⊥
  pub stays : Bound staying → ⊥
  pub stays_refused : AtItsEnd staying → ⊥
  pub stops : Join stopping → ⊥
  pub rests : Join resting → ⊥
  pub nears : Join nearing → ⊥
  pub letters : Join lettering → ⊥

pub wrong : Wrong
unfolding characters paper_step paper_refusal result values handed move_step passing further answers from follow next_filter admit_place admit_text admit_utf8 utf8_of walk char_len len_at row_of keeps within on_character firsts count calc_char_pos_at refusal_of reason_number number_of parse_step scan run parse_next consume_byte parse_argument filter_name same part starts_with parse_blur parse_url is_curr_byte_eq close_bracket
wrong =
    record {
      repeats = λ f. let h : 7 ≤ 1 = f (ascii "blur()") 0 in omega arith;
      stays = λ f. let h : 7 ≤ 1 = f (ascii "blur()") 0 in omega arith;
      stays_refused = λ f.
          let h : refused_step ended (place 0) ≡ end_step (place 0) = f (ascii "x") 0 0 ended (place 0) refl (omega arith) in
          let g : ◌≡◌ {A = Result Listed Refusal} (Err ended) (Ok I.End) = ap (λ (t : FilterStep). t.item) h in
          let z : ◌≡◌ {A = ℕ} 0 1 = cc in
          omega arith;
      stops = λ f.
          let a : List ℕ = ascii "blur()" in
          let h : ◌≡◌ {A = ℕ} 1 2 = ap values (f a a (stopping a 0 ∷ []) (place 6) refl refl (omega arith) refl) in
          omega arith;
      rests = λ f.
          let a : List ℕ = ascii "blur()" in
          let h : ◌≡◌ {A = ℕ} 5 11 = ap (link_at 1) (f a (ascii "url(#a)") (resting a 0 ∷ []) (place 6) refl refl (omega arith) refl) in
          omega arith;
      nears = λ f.
          let a : List ℕ = ascii "blur()" in
          let h : ◌≡◌ {A = ℕ} 2 8 = ap (position_at 1) (f a (ascii "x)") (nearing a 0 ∷ []) (place 6) refl refl (omega arith) refl) in
          omega arith;
      letters = λ f.
          let a : List ℕ = ascii "url(#" ++ (195 ∷ 169 ∷ ascii ")") in
          let h : ◌≡◌ {A = ℕ} 12 13 = ap (link_at 1) (f a (ascii "url(#a)") (lettering a 0 ∷ []) (place 8) refl refl (omega arith) refl) in
          omega arith;
    }
