-- The links of a filter value list are told by the bytes of their names, and the word `none` is a list that ends at once.
use Prim.Native.Nat.{ℕ, zero, suc, ◌+◌, ◌-◌, ◌≤◌}
use mathlib.Core.Bool.{true, false}
use mathlib.Core.List.{List, [], ◌∷◌, ◌++◌, append_assoc, append-nil}
use mathlib.Core.Path.{◌≡◌, refl, sym}
use native.Mathlib.Nat.{zero-add}
use native.Mathlib.Omega.{arith}
use borrow.Author.Tests.{le-leb, le-ltb, lt-leb}
use lib.Dec.{leb, ltb}
use lib.ListN.{length, length-append, length-map}
use Rattle.text_bytes.specs.Bytes.{is_space, within}
use Rattle.text_bytes.specs.Moves.{place}
use Rattle.text_bytes.specs.Scan.{scan}
use Rattle.text_bytes.specs.Words.{ascii, part}
use Rattle.text_bytes.specs.declared.Part.{Part}
use Rattle.text_bytes.specs.declared.Place.{Place}
use Rattle.color.specs.declared.Color.{Color}
use Rattle.funciri.specs.Link.{link_at, link_bytes}
use Rattle.filter_functions.specs.Filters.{value_step, end_step, none_step, listed, parse_step, after_none, next_filter}
use Rattle.filter_functions.specs.declared.FilterValue.TheVariants as G
use Rattle.filter_functions.specs.declared.Listed.TheVariants as I
use Rattle.joins.specs.Joins.{follow, from, answers}
use Rattle.standards.specs.CssValues3.{Blank, blank, blanks}
use Rattle.standards.specs.CssSyntax3.{UrlCharacter, written}
use Rattle.standards.specs.FilterEffects1 as E
use Rattle.standards.specs.FilterEffects1.{none_text}
use Rattle.standards.specs.Readers.{link_item}
use Rattle.standards.specs.Domain.{ends_link}
use Rattle.standards.proofs.Reading.{NumbersRead}
use Rattle.standards.proofs.Characters.{at_on, on_start}
use Rattle.standards.proofs.Cursors.{At, at_start, at_step, at_blanks, at_spaces, at_drop, at_inside, starts_joined}
use Rattle.standards.proofs.Shadows.{Coloured}
use Rattle.standards.specs.Answers.{value, link_place}
use Rattle.standards.proofs.Effects.{link_to, at_link}
use Rattle.standards.proofs.FilterLists.{items_append, items_begin, list_step, list_end, next_edged}
use Rattle.standards.proofs.EffectTexts.{items_written}
use Rattle.standards.proofs.Tight.{ascii_written, blanks_written, written_append}
use Rattle.standards.proofs.Utf8.{Written}

-- white space, `none`, white space
module _ (before after : List Blank) where
  none_written : Written (none_text before after)
  unfolding none_text
  none_written = written_append (blanks_written before) (written_append (ascii_written (ascii "none") refl) (blanks_written after))

  none_parsed : parse_step (none_text before after) 0 ≡ listed I.NoneWord (length (none_text before after))
  unfolding parse_step after_none none_text
  none_parsed =
      let n = length before in
      let y = ascii "none" ++ blanks after in
      let s = none_text before after in
      let a : scan is_space s 0 ≡ n = rw zero-add at (at_spaces before y refl (at_start s)) in
      let b : At s n y = rw zero-add at (at_blanks before y (at_start s)) in
      let c : At s (n + 4) (blanks after) = at_step (ascii "none") (blanks after) b in
      let d : scan is_space s (n + 4) ≡ n + 4 + length after = at_spaces after [] refl (rw append-nil c) in
      let e : leb (length s) n ≡ false = lt-leb (length s) n (omega (arith, at_inside b)) in
      let f : ltb (n + 4 + length after) (length s) ≡ false = le-ltb (n + 4 + length after) (length s) (omega (arith, at_inside c, length-map after blank)) in
      simp (a, e, at_drop b, starts_joined (ascii "none") (blanks after), d, f)

  module _ (fits : length (none_text before after) ≤ 4096) where
    none_next : next_filter (none_text before after) 0 ≡ none_step (place (length (none_text before after)))
    none_next = rw (next_edged (none_text before after) fits none_written 0 (on_start (none_text before after)), none_parsed)

    -- THEOREM: no value, and the end,
    pub none_read : answers next_filter (none_text before after) 0 ≡ none_step (place (length (none_text before after))) ∷ []
    unfolding answers
    none_read = alone (length (none_text before after)) none_next
      where
        alone : (k : ℕ) {p : Place} → next_filter (none_text before after) 0 ≡ none_step p → from next_filter k (none_text before after) 0 ≡ none_step p ∷ []
        alone zero e = unfold from in rw e
        alone (suc k) e = unfold from follow in rw e

    -- and from there on the end again
    pub none_ends : next_filter (none_text before after) (length (none_text before after)) ≡ end_step (place (length (none_text before after)))
    unfolding within
    none_ends =
        let s = none_text before after in
        let h : At s (length s) [] = record { before = s; text = sym (append-nil s); here = refl } in
        rw (next_edged s fits none_written (length s) (at_on [] none_written h refl), list_end s)

-- `url(#name)`, with white space behind it
module _ (l m : List Blank) (c : UrlCharacter) (cs : List UrlCharacter) (spaces : List Blank) where
  -- the part that its value tells holds its name
  module _ {Colour : Type 0} (colour : Colour → List ℕ) where
    name_at : {s : List ℕ} {n : ℕ} (b : List ℕ) → At s n (E.item_text colour (link_item l c cs m spaces) ++ b)
        → link_bytes s (link_at (place (n + link_place (link_to colour l m c cs))) (length (written (c ∷ cs)))) ≡ written (c ∷ cs)
    unfolding link_bytes part E.item_text
    name_at {s} {n} b h =
        let f = E.function_text colour (link_to colour l m c cs) in
        let i = n + link_place (link_to colour l m c cs) in
        let k = length (written (c ∷ cs)) in
        let g : At s n (f ++ (blanks spaces ++ b)) = rw append_assoc at h in
        let e : leb (i + k) (length s) ≡ true = le-leb (i + k) (length s) (omega (arith, at_inside g, length-append f (blanks spaces ++ b), long)) in
        let z : i + k - i ≡ k = omega arith in
        simp e (rw z at (at_link colour l m c cs (blanks spaces ++ b) g))
      where
        long : 4 + length l + 1 + length (written (c ∷ cs)) ≤ length (E.function_text colour (link_to colour l m c cs))
        long = unfold E.function_text E.name E.argument in simp (length-append, length-map) (omega arith)

  module _ (r : NumbersRead) {Colour : Type 0} {colour : Colour → List ℕ} {channels : Colour → Color} (coloured : Coloured colour channels) where
    -- THEOREM: where a link stands in a list, the step's value is a part of the text that holds its name
    pub link_step : (leading : List Blank) (ts us : List (E.Item Colour)) → ends_link m ≡ true
        → let t = link_item l c cs m spaces in
        let n = length leading + length (E.items_text colour ts) in
        let s = blanks leading ++ E.items_text colour (ts ++ (t ∷ us)) in
        length s ≤ 4096 → (p : Part) × ((next_filter s n ≡ value_step (G.Url p) (place (n + length (E.item_text colour t)))) × (link_bytes s p ≡ written (c ∷ cs)))
    unfolding value E.effect E.items_text
    link_step leading ts us w fits =
        let t = link_item l c cs m spaces in
        let n = length leading + length (E.items_text colour ts) in
        let a = E.items_text colour ts in
        let b = E.item_text colour t ++ E.items_text colour us in
        let s = blanks leading ++ E.items_text colour (ts ++ (t ∷ us)) in
        let h : At s n b = rw (items_append colour ts (t ∷ us)) (at_step a b (rw zero-add at (at_blanks leading (a ++ b) (at_start (blanks leading ++ (a ++ b)))))) in
        let whole : Written s = written_append (blanks_written leading) (items_written coloured (ts ++ (t ∷ us))) in
        let v = next_edged s fits whole n (at_on b whole h (items_begin colour (t ∷ us))) in
        (link_at (place (n + link_place t.function)) (length (written (c ∷ cs))), (rw (v, list_step r coloured leading ts t us w), name_at colour (E.items_text colour us) h))
