-- The rows of many steps are those of all that a list answers, and n/6 + 1 of them are all.
use Prim.Native.Nat.{ℕ, zero, suc, ◌+◌, ◌*◌, ◌/◌, ◌≤◌}
use mathlib.Core.Bool.{cond}
use mathlib.Core.List.{List, [], ◌∷◌, ◌++◌, map}
use mathlib.Core.Logic.{⊎_elim}
use mathlib.Core.Path.{◌≡◌, refl, sym, ap, ◌∙◌}
use native.Mathlib.Nat.{le-div_iff_mul-le, div-add-mod'}
use native.Mathlib.Omega.{arith}
use lib.Dec.{eqb}
use lib.ListN.{length, length-map, take, drop, get_or}
use lib.Seq.{take_all, take-nil}
use Rattle.text_bytes.specs.declared.Place.{Place}
use Rattle.text_bytes.proofs.Ranges.{either}
use Rattle.std.specs.Prelude.{Result, Ok, Err}
use Rattle.stream.specs.declared.Refusal.{Refusal}
use Rattle.filter_functions.specs.Filters.{value_step, next_filter}
use Rattle.filter_functions.specs.Paper.{paper_step}
use Rattle.filter_functions.specs.Filters.{FilterStep}
use Rattle.filter_functions.specs.declared.Listed.{Listed}
use Rattle.filter_functions.specs.declared.Listed.TheVariants as I
use Rattle.filter_functions.specs.declared.FilterValue.{FilterValue}
use Rattle.joins.specs.Joins.{answers, follow, hand, handed, values}
use Rattle.joins.proofs.Edge.{Admits, Bars, step, judged, next_six, next_inside}
use Rattle.joins.proofs.Lists.{answers_step}
use Rattle.joins.proofs.Whole.{demand_3}
use Rattle.records.specs.Records.{row, filter_record}
use Rattle.records.specs.Many.{up_to, fitting, filter_at}
use Rattle.join_rows.specs.JoinRows.{rows, state, RowsAnswer, RowsReach, RowsEnough, RowsWhole, value_rows, Ended, RowsEnd, RowsBound}

-- the rows of an answer and of the m steps after it
abbrev stepped : List ℕ → ℕ → FilterStep → List (List ℕ)
stepped s m x = filter_record x ∷ cond (eqb (state (filter_record x)) 0) (up_to (filter_at s) m (get_or (filter_record x) 8 0)) []

pub rows_answer : RowsAnswer
unfolding up_to filter_record row paper_step follow
rows_answer s zero i = refl
rows_answer s (suc m) i = rw (answers_step s i) (go (next_filter s i).item (next_filter s i).place (rows_answer s m))
  where
    go : (y : Result Listed Refusal) (p : Place) → ((j : ℕ) → up_to (filter_at s) m j ≡ take m (rows s j))
        → stepped s m (step y p) ≡ take (suc m) (map filter_record (follow (step y p) (answers next_filter s)))
    go (Ok (I.Value v)) p ih = ap (λ l. filter_record (step (Ok (I.Value v)) p) ∷ l) (ih p.0)
    go (Ok I.End) p ih = ap (λ l. filter_record (step (Ok I.End) p) ∷ l) (sym (take-nil m))
    go (Ok I.NoneWord) p ih = ap (λ l. filter_record (step (Ok I.NoneWord) p) ∷ l) (sym (take-nil m))
    go (Err e) p ih = ap (λ l. filter_record (step (Err e) p) ∷ l) (sym (take-nil m))

-- with room for all of them
module _ (s lent : List ℕ) (i : ℕ) where
  all_rows : length (answers next_filter s i) * 24 ≤ length lent → fitting (filter_at s) lent i ≡ rows s i
  all_rows h =
      let a = answers next_filter s i in
      let k : length a ≤ length lent / 24 = (le-div_iff_mul-le {k = 24} {x = length a} {y = length lent} (omega arith)).1 h in
      rows_answer s (length lent / 24) i ∙ take_all (length lent / 24) (rows s i) (omega (arith, length-map a filter_record))

pub rows_reach : RowsReach
rows_reach s lent i h = all_rows s lent i (omega (arith, demand_3.reaches s i))

-- a text that is not admitted has one
barred : {s : List ℕ} {i : ℕ} → Bars s i → length (answers next_filter s i) ≡ 1
unfolding follow
barred {s} {i} h = rw (answers_step s i, h.same)

pub rows_enough : RowsEnough
rows_enough s lent i h =
    ⊎_elim (λ (w : Admits s i). rows_reach s lent i (omega (arith, w.small, div-add-mod' (length s) 6))) (λ (w : Bars s i). all_rows s lent i (omega (arith, barred w))) (judged s i)

-- rows that end in a row are some
pub no_row : (l : List (List ℕ)) (r : List ℕ) → ◌≡◌ {A = List (List ℕ)} [] (l ++ (r ∷ [])) → ⊥
no_row [] r e = let z : ◌≡◌ {A = ℕ} 0 1 = cc in omega arith
no_row (y ∷ l) r e = let z : ◌≡◌ {A = ℕ} 0 1 = cc in omega arith

-- a row that is no value's is the last of all
module _ (s : List ℕ) (r : List ℕ) (f : state r ≡ 0 → ⊥) where
  told_whole : (m i : ℕ) (l : List (List ℕ)) → up_to (filter_at s) m i ≡ l ++ (r ∷ []) → up_to (filter_at s) m i ≡ rows s i
  unfolding up_to filter_record row paper_step follow
  told_whole zero i l e = absurd (no_row l r e)
  told_whole (suc m) i l e = rw (answers_step s i) (go (next_filter s i).item (next_filter s i).place l e (told_whole m))
    where
      go : (y : Result Listed Refusal) (p : Place) (l : List (List ℕ)) → stepped s m (step y p) ≡ l ++ (r ∷ [])
          → ((j : ℕ) (l : List (List ℕ)) → up_to (filter_at s) m j ≡ l ++ (r ∷ []) → up_to (filter_at s) m j ≡ rows s j)
          → stepped s m (step y p) ≡ map filter_record (follow (step y p) (answers next_filter s))
      go (Ok (I.Value v)) p [] g ih = absurd (f (ap (λ l. state (get_or l 0 [])) (sym g)))
      go (Ok (I.Value v)) p (y ∷ l) g ih = ap (λ l. filter_record (step (Ok (I.Value v)) p) ∷ l) (ih p.0 l (ap (drop 1) g))
      go (Ok I.End) p l g ih = refl
      go (Ok I.NoneWord) p l g ih = refl
      go (Err q) p l g ih = refl

pub rows_whole : RowsWhole
rows_whole s lent i l r e f = told_whole s r f (length lent / 24) i l e

-- the last row, and a value's before it
alone : (r : List ℕ) → (state r ≡ 0 → ⊥) → Ended (r ∷ [])
unfolding value_rows
alone r f = record { values = []; last = r; all = refl; are_values = refl; no_value = f }

before : (r : List ℕ) (rs : List (List ℕ)) → state r ≡ 0 → Ended rs → Ended (r ∷ rs)
unfolding value_rows
before r rs e w = record { values = r ∷ w.values; last = w.last; all = ap (λ l. r ∷ l) w.all; are_values = simp (e, w.are_values); no_value = w.no_value }

module _ (s : List ℕ) where
  end_one : (x : FilterStep) → ((v : FilterValue) (p : Place) → x ≡ value_step v p → Ended (rows s p.0)) → Ended (map filter_record (follow x (answers next_filter s)))
  unfolding follow filter_record row paper_step
  end_one x f = go x.item x.place f
    where
      go : (y : Result Listed Refusal) (p : Place) → ((v : FilterValue) (q : Place) → step y p ≡ value_step v q → Ended (rows s q.0))
          → Ended (map filter_record (follow (step y p) (answers next_filter s)))
      go (Ok (I.Value v)) p f = before (filter_record (step (Ok (I.Value v)) p)) (rows s p.0) refl (f v p refl)
      go (Ok I.End) p f = alone (filter_record (step (Ok I.End) p)) (λ e. omega (arith, e))
      go (Ok I.NoneWord) p f = alone (filter_record (step (Ok I.NoneWord) p)) (λ e. omega (arith, e))
      go (Err r) p f = alone (filter_record (step (Err r) p)) (λ e. omega (arith, e))

  -- k bounds the bytes left
  ended : (k i : ℕ) → length s ≤ i + k → Ended (rows s i)
  ended zero i h = rw (answers_step s i) (end_one (next_filter s i) (λ v p e. absurd (omega (arith, next_six s i v p e, next_inside s i v p e))))
  ended (suc k) i h = rw (answers_step s i) (end_one (next_filter s i) (λ v p e. ended k p.0 (omega (arith, next_six s i v p e))))

pub rows_end : RowsEnd
rows_end s i = ended s (length s) i (omega arith)

-- as many values' rows as values
value_rows_is : (l : List FilterStep) → value_rows (map filter_record l) ≡ values l
unfolding value_rows values handed filter_record row paper_step
value_rows_is [] = refl
value_rows_is (x ∷ l) = go x.item x.place (value_rows_is l)
  where
    go : (y : Result Listed Refusal) (p : Place) → value_rows (map filter_record l) ≡ length (handed l)
        → value_rows (filter_record (step y p) ∷ map filter_record l) ≡ length (hand y (handed l))
    go (Ok (I.Value v)) p h = ap suc h
    go (Ok I.End) p h = h
    go (Ok I.NoneWord) p h = h
    go (Err e) p h = h

value_take : (m : ℕ) (rs : List (List ℕ)) → value_rows (take m rs) ≤ value_rows rs
unfolding value_rows
value_take zero rs = omega arith
value_take (suc m) [] = omega arith
value_take (suc m) (r ∷ rs) = either (eqb (state r) 0) (λ e. simp e (omega (arith, value_take m rs))) (λ e. simp e (value_take m rs))

pub rows_bound : RowsBound
rows_bound s lent i =
    let b = demand_3.bounded s i in
    let m = length lent / 24 in
    rw (rows_answer s m i) (omega (arith, value_take m (rows s i), value_rows_is (answers next_filter s i), b))
