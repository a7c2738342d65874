-- When the answer is known before the input has ended; and another word after `read=`.
use Prim.Native.Nat.{ℕ, suc, ◌+◌, ◌≤◌, ◌<◌}
use mathlib.Core.Bool.{Bool, true, false, cond, ◌||◌}
use mathlib.Core.List.{List, [], ◌∷◌, ◌++◌}
use mathlib.Core.Path.{◌≡◌, refl, sym, ap, ◌∙◌}
use native.Mathlib.Omega.{arith}
use borrow.Author.Tests.{lt-ltb, ltb-true, lt-leb, le-leb}
use lib.Dec.{eqb, ltb, leb, lit≤}
use lib.ListN.{length, drop, length-append}
use Rattle.text_bytes.specs.Bytes.{within}
use Rattle.text_bytes.specs.Moves.{place}
use Rattle.text_bytes.specs.Scan.{run, scan}
use Rattle.text_bytes.specs.Words.{ascii, same, starts_with, part, lower_of}
use Rattle.text_bytes.proofs.Ranges.{either}
use Rattle.text_bytes.proofs.Wording.{same_eq, begins_with}
use Rattle.utf8.specs.Characters.{keeps, row_of, len_at, char_len, walk, utf8_of, firsts, count, calc_char_pos_at}
use Rattle.std.specs.Prelude.{Ok, Err, Some}
use Rattle.stream.specs.Faults.{invalid_value}
use Rattle.stream.specs.declared.Trouble.TheVariants as T
use Rattle.stream.specs.declared.Reason.TheVariants as R
use Rattle.stream.specs.Refusals.{number_of, admit_text, admit_utf8, bare_refusal, empty_refusal, refusal_of}
use Rattle.names.specs.Keywords.{keywords}
use Rattle.names.specs.Look.{named_of, look_up}
use Rattle.color.specs.Answer.{from_str}
use Rattle.color.specs.Color.{is_rgb, is_hsl, named_color, parse_word, parse_color, parse_color_text}
use Rattle.color.specs.Hex.{rgba}
use Rattle.color.proofs.Worked as color
use Rattle.shapes.specs.Walk.{signed, digits, dot, fraction, act, ends, step, all_end, walk as go-along}
use Rattle.shapes.proofs.Fair.{never}
use Rattle.strict.specs.Answer.{furthest, marked, marked_at, is_shaped, strict_of, strict_from_str}
use Rattle.strict.specs.Asked.{first_line, after_feed, next_line, asked_of, has_feed, is_settled, is_choice, is_enough, say_loose, say_strict, OtherWord}

or_second : (t u : Bool) → u ≡ true → (t || u) ≡ true
or_second true u e = refl
or_second false u e = e

or_rest : (t u : Bool) → t ≡ false → (t || u) ≡ true → u ≡ true
or_rest t u e h = rw e at h

or_no : (t u : Bool) → (t || u) ≡ false → (t ≡ false) × (u ≡ false)
or_no true u e = never (sym e)
or_no false u e = (refl, e)

-- a line that has ended stays
first_kept : (s t : List ℕ) → has_feed s ≡ true → first_line (s ++ t) ≡ first_line s
unfolding has_feed first_line
first_kept [] t e = never e
first_kept (x ∷ xs) t e = go (eqb x 10) (first_kept xs t) e
  where
    go : (b : Bool) → (has_feed xs ≡ true → first_line (xs ++ t) ≡ first_line xs) → (b || has_feed xs) ≡ true → cond b [] (x ∷ first_line (xs ++ t)) ≡ cond b [] (x ∷ first_line xs)
    go true ih h = refl
    go false ih h = ap (λ (l : List ℕ). x ∷ l) (ih h)

after_kept : (s t : List ℕ) → has_feed s ≡ true → after_feed (s ++ t) ≡ after_feed s ++ t
unfolding has_feed after_feed
after_kept [] t e = never e
after_kept (x ∷ xs) t e = go (eqb x 10) (after_kept xs t) e
  where
    go : (b : Bool) → (has_feed xs ≡ true → after_feed (xs ++ t) ≡ after_feed xs ++ t) → (b || has_feed xs) ≡ true → cond b (xs ++ t) (after_feed (xs ++ t)) ≡ cond b xs (after_feed xs) ++ t
    go true ih h = refl
    go false ih h = ih h

-- one that has not goes on
first_on : (s t : List ℕ) → has_feed s ≡ false → first_line (s ++ t) ≡ s ++ first_line t
unfolding has_feed first_line
first_on [] t e = refl
first_on (x ∷ xs) t e = go (eqb x 10) (first_on xs t) e
  where
    go : (b : Bool) → (has_feed xs ≡ false → first_line (xs ++ t) ≡ xs ++ first_line t) → (b || has_feed xs) ≡ false → cond b [] (x ∷ first_line (xs ++ t)) ≡ x ∷ (xs ++ first_line t)
    go true ih h = never (sym h)
    go false ih h = ap (λ (l : List ℕ). x ∷ l) (ih h)

first_all : (s : List ℕ) → has_feed s ≡ false → first_line s ≡ s
unfolding has_feed first_line
first_all [] e = refl
first_all (x ∷ xs) e = go (eqb x 10) (first_all xs) e
  where
    go : (b : Bool) → (has_feed xs ≡ false → first_line xs ≡ xs) → (b || has_feed xs) ≡ false → cond b [] (x ∷ first_line xs) ≡ x ∷ xs
    go true ih h = never (sym h)
    go false ih h = ap (λ (l : List ℕ). x ∷ l) (ih h)

after_nothing : (s : List ℕ) → has_feed s ≡ false → after_feed s ≡ []
unfolding has_feed after_feed
after_nothing [] e = refl
after_nothing (x ∷ xs) e = go (eqb x 10) (after_nothing xs) e
  where
    go : (b : Bool) → (has_feed xs ≡ false → after_feed xs ≡ []) → (b || has_feed xs) ≡ false → cond b xs (after_feed xs) ≡ []
    go true ih h = never (sym h)
    go false ih h = ih h

sizes : (s : List ℕ) → length s ≤ suc (length (first_line s) + length (after_feed s))
unfolding first_line after_feed
sizes [] = omega arith
sizes (x ∷ xs) = go (eqb x 10) (sizes xs)
  where
    go : (b : Bool) → length xs ≤ suc (length (first_line xs) + length (after_feed xs)) → suc (length xs) ≤ suc (length (cond b [] (x ∷ first_line xs)) + length (cond b xs (after_feed xs)))
    go true h = omega arith
    go false h = omega arith

-- what is the same of all lines over the limit is known of a line that is settled
settled : {B : Type 0} (f : List ℕ → B) (b : B) → ((l : List ℕ) → 4096 < length l → f l ≡ b) → (s t : List ℕ) → is_settled s ≡ true → f (first_line (s ++ t)) ≡ f (first_line s)
unfolding is_settled
settled f b over s t e = either (has_feed s) (λ h. ap f (first_kept s t h)) longer
  where
    longer : has_feed s ≡ false → f (first_line (s ++ t)) ≡ f (first_line s)
    longer h =
        let n : 4096 < length s = ltb-true 4096 (length s) (or_rest (has_feed s) (ltb 4096 (length s)) h e) in
        let m : 4096 < length (s ++ first_line t) = omega (arith, length-append s (first_line t)) in
        rw (first_on s t h, first_all s h, over s n, over (s ++ first_line t) m) refl

loose_over : (l : List ℕ) → 4096 < length l → from_str l ≡ Err (bare_refusal R.TextTooLong)
unfolding from_str admit_text
loose_over l h = simp (lt-leb (length l) 4096 h)

strict_over : (l : List ℕ) → 4096 < length l → strict_from_str l ≡ Err (bare_refusal R.TextTooLong)
unfolding strict_from_str
strict_over l h = rw (loose_over l h) refl

choice_short : (l : List ℕ) → is_choice l ≡ true → length l ≤ 11
unfolding is_choice
choice_short l e =
    either (same l say_loose)
    (λ h. let q : l ≡ say_loose = same_eq l say_loose h in rw q (omega arith))
    (λ h. let q : l ≡ say_strict = same_eq l say_strict (or_rest (same l say_loose) (same l say_strict) h e) in rw q (omega arith))

choice_over : (l : List ℕ) → 4096 < length l → is_choice l ≡ false
choice_over l h = either (is_choice l) (λ e. absurd (omega (arith, choice_short l e))) (λ e. e)

-- another first line is the text
other_line : (s : List ℕ) → is_choice (first_line s) ≡ false → asked_of s ≡ strict_from_str (first_line s)
unfolding asked_of is_choice
other_line s e = let h = or_no (same (first_line s) say_loose) (same (first_line s) say_strict) e in rw (h.0, h.1) refl

-- "Lines after the text are not read", and a line over the limit not to its end: what is enough is answered as all of the input is
pub enough : (s t : List ℕ) → is_enough s ≡ true → asked_of (s ++ t) ≡ asked_of s
unfolding is_enough is_settled has_feed asked_of next_line
enough s t e = either (is_choice (first_line s)) chosen other
  where
    other : is_choice (first_line s) ≡ false → asked_of (s ++ t) ≡ asked_of s
    other h =
        let k : is_settled s ≡ true = rw h at e in
        let c : is_choice (first_line (s ++ t)) ≡ false = settled is_choice false choice_over s t k ∙ h in
        other_line (s ++ t) c ∙ settled strict_from_str (Err (bare_refusal R.TextTooLong)) strict_over s t k ∙ sym (other_line s h)

    chosen : is_choice (first_line s) ≡ true → asked_of (s ++ t) ≡ asked_of s
    chosen h =
        let k : is_settled (after_feed s) ≡ true = rw h at e in
        let f : has_feed s ≡ true = either (has_feed s) (λ x. x) (λ x. never (rw (after_nothing s x) at k)) in
        let l = settled from_str (Err (bare_refusal R.TextTooLong)) loose_over (after_feed s) t k in
        let m = settled strict_from_str (Err (bare_refusal R.TextTooLong)) strict_over (after_feed s) t k in
        rw (first_kept s t f, after_kept s t f, l, m) refl

-- `read=strict`, its line feed, and one byte more than a text may have are always enough
pub full_next : (s : List ℕ) → 4109 ≤ length s → is_choice (first_line s) ≡ true → is_settled (after_feed s) ≡ true
unfolding is_settled
full_next s h e =
    let n : 4096 < length (after_feed s) = omega (arith, sizes s, choice_short (first_line s) e) in
    or_second (has_feed (after_feed s)) (ltb 4096 (length (after_feed s))) (lt-ltb 4096 (length (after_feed s)) n)

pub full_first : (s : List ℕ) → 4109 ≤ length s → is_settled s ≡ true
unfolding is_settled
full_first s h = or_second (has_feed s) (ltb 4096 (length s)) (lt-ltb 4096 (length s) (omega arith))

-- `read=strict`, its line feed, and one byte more than a text may have are always enough
pub full : (s : List ℕ) → 4109 ≤ length s → is_enough s ≡ true
unfolding is_enough
full s h = either (is_choice (first_line s)) (λ e. rw e (full_next s h e)) (λ e. rw e (full_first s h))

-- the word `read` names no colour, and `=` ends it
read_word : (l : List ℕ) → parse_color_text (ascii "read=" ++ l) ≡ Err (invalid_value 4)
unfolding parse_color_text parse_color parse_word part same lower_of is_rgb is_hsl named_color named_of look_up keywords scan run within
read_word l =
    let h : leb (length (ascii "read=" ++ l)) 0 ≡ false = lt-leb (length (ascii "read=" ++ l)) 0 (omega arith) in
    rw h refl

-- "5 for another word after `read=`"
pub other_word : (s : List ℕ) → OtherWord s
unfolding strict_from_str from_str admit_text admit_utf8 refusal_of number_of
other_word s b c u h =
    let l = first_line s in
    let p : parse_color_text l ≡ Err (invalid_value 4) = rw (begins_with (ascii "read=") l b) (read_word (drop 5 l)) in
    let f : from_str l ≡ Err (empty_refusal (R.Unread T.InvalidValue) 4) = simp (le-leb (length l) 4096 h, u, p) in
    other_line s c ∙ rw f refl

-- an example, with the line that brings its reading back and without it; and a word in other letters
module _ where
  pub loose_example : asked_of (ascii "read=loose" ++ (10 ∷ ascii "rgb(20%,50,20%)")) ≡ Ok (rgba 51 255 51 255)
  unfolding asked_of next_line first_line after_feed same
  loose_example = (color.examples).marked

  pub plain_example : asked_of (ascii "rgb(20%,50,20%)") ≡ Err (record { reason = R.NotStrict; position = Some (record { 0 = 11 }); from = place 10; to = place 10 })
  unfolding asked_of first_line same strict_from_str signed digits dot fraction act ends step all_end go-along furthest marked marked_at is_shaped strict_of within run scan lower_of calc_char_pos_at count firsts walk char_len len_at row_of keeps
  plain_example = rw (color.examples).marked refl

  pub capital_example : asked_of (ascii "read=Loose" ++ (10 ∷ ascii "red")) ≡ Err (empty_refusal (R.Unread T.InvalidValue) 4)
  unfolding starts_with first_line is_choice same utf8_of walk char_len len_at row_of keeps within
  capital_example = other_word (ascii "read=Loose" ++ (10 ∷ ascii "red")) refl refl refl (lit≤ tt)
