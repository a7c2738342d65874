-- What is known of a list's single answers: where its values and its end lie, by what it is not refused, and that a join touches the last value alone.
use Prim.Native.Nat.{ℕ, ◌<◌}
use mathlib.Core.List.{List, [], ◌∷◌, ◌++◌, map, map-append, append_assoc}
use mathlib.Core.Path.{◌≡◌, refl, sym, ap, ◌∙◌}
use native.Mathlib.Omega.{arith}
use borrow.Author.Tests.{ne_eqb}
use lib.ListN.{length}
use Rattle.text_bytes.specs.Bytes.{is_space}
use Rattle.text_bytes.specs.Scan.{scan}
use Rattle.text_bytes.specs.declared.Place.{Place}
use Rattle.utf8.specs.Characters.{characters}
use Rattle.stream.specs.Steps.{refused_step}
use Rattle.filter_functions.specs.Filters.{next_filter, value_step, end_step}
use Rattle.filter_functions.specs.Filters.{FilterStep}
use Rattle.filter_functions.specs.declared.FilterValue.{FilterValue}
use Rattle.joins.specs.Joins.{answers, move_step, passing, EndsAtLength, PlacesBelow, JoinLast, NoTwoNorEight}
use Rattle.joins.proofs.Edge.{Admits, on_start, next_on, next_end, next_number, next_six, next_inside}
use Rattle.joins.proofs.Lists.{answers_step, first_answer, Went, went, join}

-- an answer is that of a step from some place, and those after it follow that step
record Reached (s : List ℕ) (i : ℕ) (z : FilterStep) (m : List FilterStep) : Type 0 where
  at : ℕ
  here : next_filter s at ≡ z
  rest : answers next_filter s at ≡ z ∷ m
  admits : Admits s i → Admits s at

module _ (s : List ℕ) where
  reached : (l m : List FilterStep) (z : FilterStep) (i : ℕ) → answers next_filter s i ≡ l ++ (z ∷ m) → Reached s i z m
  reached [] m z i e =
      record { at = i; here = first_answer (next_filter s i) (answers next_filter s) z m (sym (answers_step s i) ∙ e); rest = e; admits = λ h. h }
  reached (y ∷ l) m z i e = go (went (next_filter s i) y (answers next_filter s) l m z (sym (answers_step s i) ∙ e)) (λ j. reached l m z j)
    where
      go : Went (next_filter s i) y (answers next_filter s) (l ++ (z ∷ m)) → ((j : ℕ) → answers next_filter s j ≡ l ++ (z ∷ m) → Reached s j z m) → Reached s i z m
      go x ih =
          let w : Reached s x.place.0 z m = ih x.place.0 x.rest in
          record { at = w.at; here = w.here; rest = w.rest; admits = λ h. w.admits (next_on s i x.value x.place x.here) }

  -- where a value is read, or an answer that another follows, the text has not ended
  before : (i : ℕ) (v : FilterValue) (p : Place) → next_filter s i ≡ value_step v p → i < length s
  before i v p e = omega (arith, next_six s i v p e, next_inside s i v p e)

  followed : (i : ℕ) (y z : FilterStep) (l m : List FilterStep) → answers next_filter s i ≡ y ∷ (l ++ (z ∷ m)) → i < length s
  followed i y z l m e =
      let x : Went (next_filter s i) y (answers next_filter s) (l ++ (z ∷ m)) = went (next_filter s i) y (answers next_filter s) l m z (sym (answers_step s i) ∙ e) in
      before i x.value x.place x.here

pub ends_at_length : EndsAtLength next_filter
ends_at_length s i l p e = let w : Reached s i (end_step p) [] = reached s l [] (end_step p) i e in next_end s w.at p w.here

pub places_below : PlacesBelow next_filter
places_below s i l m v w p q e =
    let x : Reached s i (value_step v p) (value_step w q ∷ m) = reached s l (value_step w q ∷ m) (value_step v p) i e in
    let y : Went (next_filter s x.at) (value_step v p) (answers next_filter s) (value_step w q ∷ m) =
    went (next_filter s x.at) (value_step v p) (answers next_filter s) [] m (value_step w q) (sym (answers_step s x.at) ∙ x.rest) in
    let t : p ≡ y.place = ap (λ (x : FilterStep). x.place) y.same in
    let f : next_filter s p.0 ≡ value_step w q = first_answer (next_filter s p.0) (answers next_filter s) (value_step w q) m (sym (answers_step s p.0) ∙ rw t y.rest) in
    before s p.0 w q f

pub no_two_nor_eight : NoTwoNorEight next_filter
no_two_nor_eight s l m e p u n f =
    let w : Reached s 0 (refused_step e p) m = reached s l m (refused_step e p) 0 f in
    next_number (w.admits (record { small = n; utf8 = u; on = on_start s })) e p w.here

-- of A's values the last alone is touched

place_kept : (n k : ℕ) (v : FilterValue) (p : Place) → p.0 < n → passing n k (value_step v p) ≡ value_step v p
unfolding passing
place_kept n k v p h = rw (ne_eqb p.0 n (λ e. omega arith))

module _ (a : List ℕ) (k : ℕ) where
  unpassed : (l : List FilterStep) (x : FilterStep) (p : Place) (i : ℕ) → answers next_filter a i ≡ l ++ (x ∷ end_step p ∷ []) → map (passing (length a) k) l ≡ l
  unpassed [] x p i e = refl
  unpassed (y ∷ l) x p i e = go (went (next_filter a i) y (answers next_filter a) l (end_step p ∷ []) x (sym (answers_step a i) ∙ e)) (λ j. unpassed l x p j)
    where
      inner : (m : List FilterStep) (j : ℕ) → answers next_filter a j ≡ m ++ (x ∷ end_step p ∷ []) → j < length a
      inner [] j f = followed a j x (end_step p) [] [] f
      inner (z ∷ m) j f = followed a j z x m (end_step p ∷ []) f

      go : Went (next_filter a i) y (answers next_filter a) (l ++ (x ∷ end_step p ∷ []))
          → ((j : ℕ) → answers next_filter a j ≡ l ++ (x ∷ end_step p ∷ []) → map (passing (length a) k) l ≡ l)
          → passing (length a) k y ∷ map (passing (length a) k) l ≡ y ∷ l
      go w ih =
          let q = w.place in
          rw (w.same, place_kept (length a) k w.value q (inner l q.0 w.rest), ih q.0 w.rest)

pub join_last : JoinLast next_filter
join_last a b l x p u w m e =
    let n = length a in
    let k = scan is_space b 0 in
    let q = map (move_step n (characters a)) (answers next_filter b 0) in
    join a b (l ++ (x ∷ [])) p u w m (e ∙ sym (append_assoc l (x ∷ []) (end_step p ∷ [])))
    ∙ rw (map-append (passing n k) l (x ∷ []), unpassed a k l x p 0 e, append_assoc l (passing n k x ∷ []) q)
