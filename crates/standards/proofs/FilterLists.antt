-- A filter value list of Filter Effects 1 hands out its effects, in order, and then ends.
use Prim.Native.Nat.{ℕ, zero, suc, ◌+◌, ◌≤◌, ◌<◌}
use mathlib.Core.Bool.{true, false}
use mathlib.Core.List.{List, [], ◌∷◌, ◌++◌, append_assoc, append-nil}
use mathlib.Core.Path.{◌≡◌, refl, sym, ap, ◌∙◌}
use native.Mathlib.Omega.{arith}
use borrow.Author.Tests.{le-leb, lt-leb}
use lib.ListN.{length, get_or, length-append, length-map}
use Rattle.text_bytes.specs.Bytes.{is_space, is_tail, within}
use Rattle.utf8.specs.Characters.{on_character}
use Rattle.text_bytes.specs.Moves.{place}
use Rattle.stream.specs.Refusals.{admit_place}
use Rattle.text_bytes.specs.Scan.{scan}
use Rattle.text_bytes.specs.Words.{ascii, starts_with}
use Rattle.color.specs.declared.Color.{Color}
use Rattle.stream.specs.Steps.{edged}
use Rattle.filter_functions.specs.Filters.{value_step, end_step, listed, parse_step, next_filter}
use Rattle.filter_functions.specs.Moves.{move_filter_value}
use Rattle.filter_functions.specs.Filters.{FilterStep}
use Rattle.filter_functions.specs.declared.Listed.TheVariants as I
use Rattle.filter_functions.proofs.Shifts.{move_step_read, step_shift}
use Rattle.stream.specs.Moves.{moved}
use Rattle.filter_functions.proofs.Values.{step_spaces}
use Rattle.joins.specs.Joins.{Next, follow, from, answers}
use Rattle.standards.specs.CssValues3.{Blank, blanks}
use Rattle.standards.specs.FilterEffects1 as E
use Rattle.standards.specs.FilterEffects1.{Simple, brightness, contrast, grayscale, invert, opacity, saturate, sepia, simple_name}
use Rattle.standards.specs.Domain.{Taken, AllTaken}
use Rattle.standards.specs.Answers.{read_on, simple_value, value, link_place, handed}
use Rattle.standards.proofs.Reading.{NumbersRead}
use Rattle.standards.proofs.Cursors.{At, at_start, at_step, at_blanks, at_read, at_spaces, at_still, at_inside}
use Rattle.standards.proofs.Characters.{at_on, on_start}
use Rattle.standards.proofs.Tight.{written_admitted}
use Rattle.standards.proofs.Utf8.{Written}
use Rattle.standards.proofs.Shadows.{Coloured}
use Rattle.standards.proofs.EffectTexts.{list_written}
use Rattle.standards.proofs.Effects.{function_read}

-- no name starts with a space, with a byte that is beyond ASCII, or as `none` does
pub record Named (s : List ℕ) : Type 0 where
  pub unspaced : is_space (get_or s 0 0) ≡ false
  pub begins : is_tail (get_or s 0 0) ≡ false
  pub no_none : starts_with (ascii "none") s ≡ false

simple_named : (f : Simple) (x : List ℕ) → Named (simple_name f ++ x)
unfolding simple_name starts_with within
simple_named brightness x = record { unspaced = refl; begins = refl; no_none = refl }
simple_named contrast x = record { unspaced = refl; begins = refl; no_none = refl }
simple_named grayscale x = record { unspaced = refl; begins = refl; no_none = refl }
simple_named invert x = record { unspaced = refl; begins = refl; no_none = refl }
simple_named opacity x = record { unspaced = refl; begins = refl; no_none = refl }
simple_named saturate x = record { unspaced = refl; begins = refl; no_none = refl }
simple_named sepia x = record { unspaced = refl; begins = refl; no_none = refl }

value_move : {Colour : Type 0} (channels : Colour → Color) (n k : ℕ) (e : E.Effect Colour) → move_filter_value n (value channels k e) ≡ value channels (n + k) e
unfolding value simple_value
value_move channels n k (E.blurred m) = refl
value_move channels n k (E.simply brightness x) = refl
value_move channels n k (E.simply contrast x) = refl
value_move channels n k (E.simply grayscale x) = refl
value_move channels n k (E.simply invert x) = refl
value_move channels n k (E.simply opacity x) = refl
value_move channels n k (E.simply saturate x) = refl
value_move channels n k (E.simply sepia x) = refl
value_move channels n k (E.hue_rotated a) = refl
value_move channels n k (E.shadowed c dx dy d) = refl
value_move channels n k (E.referenced id) = refl

module _ {Colour : Type 0} (colour : Colour → List ℕ) where
  content_named : (c : E.Content Colour) (x : List ℕ) → Named (E.name colour c ++ x)
  unfolding E.name starts_with within
  content_named E.blur_default x = record { unspaced = refl; begins = refl; no_none = refl }
  content_named (E.blur l p) x = record { unspaced = refl; begins = refl; no_none = refl }
  content_named (E.simple_default f) x = simple_named f x
  content_named (E.simple f a) x = simple_named f x
  content_named E.hue_rotate_default x = record { unspaced = refl; begins = refl; no_none = refl }
  content_named (E.hue_rotate a) x = record { unspaced = refl; begins = refl; no_none = refl }
  content_named (E.drop_shadow d) x = record { unspaced = refl; begins = refl; no_none = refl }
  content_named (E.url c l) x = record { unspaced = refl; begins = refl; no_none = refl }

  function_named : (t : E.FilterFunction Colour) (x : List ℕ) → Named (E.function_text colour t ++ x)
  unfolding E.function_text
  function_named t x = rw append_assoc (content_named t.content _)

  items_unspaced : (ts : List (E.Item Colour)) → is_space (get_or (E.items_text colour ts) 0 0) ≡ false
  unfolding E.items_text E.item_text
  items_unspaced [] = refl
  items_unspaced (t ∷ ts) = rw append_assoc (function_named t.function _).unspaced

  pub items_begin : (ts : List (E.Item Colour)) → is_tail (get_or (E.items_text colour ts) 0 0) ≡ false
  unfolding E.items_text E.item_text within
  items_begin [] = refl
  items_begin (t ∷ ts) = rw append_assoc (function_named t.function _).begins

  function_long : (t : E.FilterFunction Colour) → 0 < length (E.function_text colour t)
  unfolding E.function_text
  function_long t = simp length-append (omega arith)

module _ (r : NumbersRead) {Colour : Type 0} {colour : Colour → List ℕ} {channels : Colour → Color} (coloured : Coloured colour channels) where
  -- THEOREM: a function at the front of a text is the step's value, and the white space after it is passed
  pub step_front : (t : E.Item Colour) (rest : List ℕ) → Taken t.function.content t.function.after → is_space (get_or rest 0 0) ≡ false
      → parse_step (E.item_text colour t ++ rest) 0 ≡ read_on (I.Value (value channels (link_place t.function) (E.meaning t.function))) (place (length (E.item_text colour t)))
  unfolding E.item_text parse_step
  step_front t rest w e =
      let f = E.function_text colour t.function in
      let b = blanks t.spaces ++ rest in
      let n = function_named colour t.function b in
      let a : At (f ++ b) 0 (f ++ b) = at_start (f ++ b) in
      let z : 0 + length f ≡ length f = omega arith in
      let l : 0 < length (f ++ b) = omega (arith, function_long colour t.function, length-append f b) in
      let y : length f + length t.spaces ≡ length (f ++ blanks t.spaces) = simp (length-append, length-map) in
      let c : At (f ++ b) (length f) b = rw z at (at_step f b a) in
      rw append_assoc (simp (at_still n.unspaced a, lt-leb (length (f ++ b)) 0 l, n.no_none, function_read r coloured t.function b w, at_spaces t.spaces rest e c, y))

  -- the same at place n of a list
  pub step_at : {s : List ℕ} {n : ℕ} (t : E.Item Colour) (ts : List (E.Item Colour)) → Taken t.function.content t.function.after
      → At s n (E.item_text colour t ++ E.items_text colour ts)
      → parse_step s n ≡ read_on (I.Value (value channels (n + link_place t.function) (E.meaning t.function))) (place (n + length (E.item_text colour t)))
  step_at {s} {n} t ts w h =
      at_read parse_step (moved move_step_read) (λ a b i. step_shift a b i) h
      ∙ rw (step_front t (E.items_text colour ts) w (items_unspaced colour ts), value_move channels n (link_place t.function) (E.meaning t.function))

-- nothing is left
pub step_none : {s : List ℕ} {n : ℕ} → At s n [] → parse_step s n ≡ listed I.End (length s)
unfolding parse_step
step_none {s} {n} h = simp (at_still refl h, le-leb (length s) n (omega (arith, at_inside h)))

pub items_append : {Colour : Type 0} (colour : Colour → List ℕ) (ts us : List (E.Item Colour)) → E.items_text colour (ts ++ us) ≡ E.items_text colour ts ++ E.items_text colour us
unfolding E.items_text
items_append colour [] us = refl
items_append colour (t ∷ ts) us = rw (items_append colour ts us) (sym (append_assoc (E.item_text colour t) (E.items_text colour ts) (E.items_text colour us)))

-- THEOREM: in a list, each function's effect is handed out from the place where what stands before it ends; at the end, the end
module _ (r : NumbersRead) {Colour : Type 0} {colour : Colour → List ℕ} {channels : Colour → Color} (coloured : Coloured colour channels) where
  pub list_step : (l : List Blank) (ts : List (E.Item Colour)) (t : E.Item Colour) (us : List (E.Item Colour)) → Taken t.function.content t.function.after
      → let n = length l + length (E.items_text colour ts) in
      parse_step (blanks l ++ E.items_text colour (ts ++ (t ∷ us))) n
      ≡ read_on (I.Value (value channels (n + link_place t.function) (E.meaning t.function))) (place (n + length (E.item_text colour t)))
  unfolding E.items_text
  list_step l ts t us w =
      let a = E.items_text colour ts in
      let b = E.item_text colour t ++ E.items_text colour us in
      let z : 0 + length l ≡ length l = omega arith in
      let h : At (blanks l ++ (a ++ b)) (length l + length a) b = at_step a b (rw z at (at_blanks l (a ++ b) (at_start (blanks l ++ (a ++ b))))) in
      rw (items_append colour ts (t ∷ us)) (step_at r coloured t us w h)

pub list_end : (s : List ℕ) → parse_step s (length s) ≡ listed I.End (length s)
list_end s = step_none (record { before = s; text = sym (append-nil s); here = refl })

-- the outside step of a text, where a character starts
module _ (s : List ℕ) (small : length s ≤ 4096) (whole : Written s) where
  pub next_edged : (n : ℕ) → on_character s n ≡ true → next_filter s n ≡ edged s (parse_step s n)
  unfolding next_filter admit_place
  next_edged n h = simp (written_admitted s whole small, h)

items_long : {Colour : Type 0} (colour : Colour → List ℕ) (ts : List (E.Item Colour)) → length ts ≤ length (E.items_text colour ts)
unfolding E.items_text E.item_text
items_long colour [] = omega arith
items_long colour (t ∷ ts) = simp length-append (omega (arith, items_long colour ts, function_long colour t.function))

module _ (r : NumbersRead) {Colour : Type 0} {colour : Colour → List ℕ} {channels : Colour → Color} (coloured : Coloured colour channels) where
  module _ (s : List ℕ) (small : length s ≤ 4096) (whole : Written s) where
    items_read : (k n : ℕ) (ts : List (E.Item Colour)) → AllTaken ts → length ts ≤ k → At s n (E.items_text colour ts)
        → from next_filter k s n ≡ handed channels colour n ts ++ (end_step (place (length s)) ∷ [])
    unfolding from follow handed E.items_text
    items_read zero n [] w l h = rw (next_edged s small whole n (at_on [] whole h (items_begin colour [])), step_none h)
    items_read (suc k) n [] w l h = rw (next_edged s small whole n (at_on [] whole h (items_begin colour [])), step_none h)
    items_read zero n (t ∷ ts) w l h = absurd (omega arith)
    items_read (suc k) n (t ∷ ts) w l h =
        let e = n + length (E.item_text colour t) in
        rw (next_edged s small whole n (at_on (E.items_text colour (t ∷ ts)) whole h (items_begin colour (t ∷ ts))), step_at r coloured t ts w.0 h)
        (ap (λ (x : List FilterStep). value_step (value channels (n + link_place t.function) (E.meaning t.function)) (place e) ∷ x)
        (items_read k e ts w.1 (omega arith) (at_step (E.item_text colour t) (E.items_text colour ts) h)))

from_same : (next : Next) (k : ℕ) (s : List ℕ) (i j : ℕ) → next s i ≡ next s j → from next k s i ≡ from next k s j
unfolding from
from_same next zero s i j e = rw e
from_same next (suc k) s i j e = rw e

module _ (r : NumbersRead) {Colour : Type 0} {colour : Colour → List ℕ} {channels : Colour → Color} (coloured : Coloured colour channels) where
  -- THEOREM: a list of the grammar hands out the effects of its functions, in order, and then ends
  pub list_read : (l : E.FilterValueList Colour) → AllTaken (l.first ∷ l.others) → length (E.list_text colour l) ≤ 4096
      → answers next_filter (E.list_text colour l) 0 ≡ handed channels colour (length l.leading) (l.first ∷ l.others) ++ (end_step (place (length (E.list_text colour l))) ∷ [])
  unfolding answers E.list_text
  list_read l w small =
      let whole = list_written coloured l in
      let ts = l.first ∷ l.others in
      let b = E.items_text colour ts in
      let s = blanks l.leading ++ b in
      let n = length l.leading in
      let a : At s 0 s = at_start s in
      let z : 0 + n ≡ n = omega arith in
      let c : At s n b = rw z at (at_blanks l.leading b a) in
      let sc : scan is_space s 0 ≡ n = at_spaces l.leading b (items_unspaced colour ts) a ∙ z in
      let p : parse_step s 0 ≡ parse_step s n = rw (← sc) (sym (step_spaces s 0)) in
      let e : next_filter s 0 ≡ next_filter s n = rw (next_edged s small whole 0 (on_start s), next_edged s small whole n (at_on b whole c (items_begin colour ts)), p) in
      from_same next_filter (length s) s 0 n e ∙ items_read r coloured s small whole (length s) n ts w (omega (arith, items_long colour ts, at_inside c)) c
