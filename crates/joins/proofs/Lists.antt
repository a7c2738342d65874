-- What is known of whole lists, from the laws of the outside step.
use Prim.Native.Nat.{ℕ, zero, suc, ◌+◌, ◌*◌, ◌-◌, ◌≤◌, ◌/◌}
use mathlib.Core.List.{List, [], ◌∷◌, ◌++◌, map}
use mathlib.Core.Path.{◌≡◌, refl, sym, ap, ◌∙◌}
use native.Mathlib.Nat.{le-div_iff_mul-le}
use native.Mathlib.Omega.{arith}
use lib.ListN.{length}
use Rattle.std.specs.Prelude.{Result, Ok}
use Rattle.text_bytes.specs.Bytes.{is_space}
use Rattle.text_bytes.specs.Scan.{scan}
use Rattle.text_bytes.specs.declared.Place.{Place}
use Rattle.utf8.specs.Characters.{utf8_of, characters}
use Rattle.stream.specs.declared.Refusal.{Refusal}
use Rattle.filter_functions.specs.Filters.{next_filter, value_step, end_step}
use Rattle.filter_functions.specs.Filters.{FilterStep}
use Rattle.filter_functions.specs.declared.FilterValue.{FilterValue}
use Rattle.filter_functions.specs.declared.Listed.{Listed}
use Rattle.filter_functions.specs.declared.Listed.TheVariants as I
use Rattle.joins.specs.Joins.{follow, from, answers, handed, values, move_step, passing, Join, Bound, further, AtItsEnd, EndsForGood, Reaches}
use Rattle.joins.proofs.Edge.{step, next_six, next_inside, next_more, next_passing, next_again, next_seam, next_shift, next_ended, next_ends}

-- at its end

pub at_its_end : AtItsEnd next_filter
unfolding further
at_its_end s i zero r p e l = next_ended s i r p e l
at_its_end s i (suc k) r p e l = rw (next_ended s i r p e l) (at_its_end s i k r p e l)

pub ends_for_good : EndsForGood next_filter
unfolding further
ends_for_good s i zero p e = next_ends s i p e
ends_for_good s i (suc k) p e = rw (next_ends s i p e) (ends_for_good s i k p e)

-- the bound

sixes : (s : List ℕ) (k i : ℕ) → 6 * values (from next_filter k s i) ≤ length s - i
unfolding from follow values handed
sixes s zero i = go (next_filter s i).item (next_filter s i).place refl
  where
    go : (y : Result Listed Refusal) (p : Place) → next_filter s i ≡ step y p → 6 * values (step y p ∷ []) ≤ length s - i
    go (Ok (I.Value v)) p e = omega (arith, next_six s i v p e, next_inside s i v p e)
    go y p e = omega arith
sixes s (suc k) i = go (next_filter s i).item (next_filter s i).place refl (sixes s k)
  where
    go : (y : Result Listed Refusal) (p : Place) → next_filter s i ≡ step y p → ((j : ℕ) → 6 * values (from next_filter k s j) ≤ length s - j)
        → 6 * values (follow (step y p) (λ n. from next_filter k s n)) ≤ length s - i
    go (Ok (I.Value v)) p e ih = omega (arith, next_six s i v p e, next_inside s i v p e, ih p.0)
    go y p e ih = omega arith

pub bound : Bound next_filter
unfolding answers
bound s i = (le-div_iff_mul-le {k = 6} {x = values (from next_filter (length s) s i)} {y = length s} (omega arith)).1 (omega (arith, sixes s (length s) i))

-- one step more than there are bytes changes nothing, so that no proof below speaks of how many there may be

enough : (s : List ℕ) (k i : ℕ) → length s ≤ i + k → from next_filter k s i ≡ from next_filter (suc k) s i
unfolding from follow
enough s zero i h = go (next_filter s i).item (next_filter s i).place refl
  where
    go : (y : Result Listed Refusal) (p : Place) → next_filter s i ≡ step y p → step y p ∷ [] ≡ follow (step y p) (λ n. next_filter s n ∷ [])
    go (Ok (I.Value v)) p e = absurd (omega (arith, next_six s i v p e, next_inside s i v p e))
    go y p e = refl
enough s (suc k) i h = go (next_filter s i).item (next_filter s i).place refl (enough s k)
  where
    go : (y : Result Listed Refusal) (p : Place) → next_filter s i ≡ step y p → ((j : ℕ) → length s ≤ j + k → from next_filter k s j ≡ from next_filter (suc k) s j)
        → follow (step y p) (λ n. from next_filter k s n) ≡ follow (step y p) (λ n. from next_filter (suc k) s n)
    go (Ok (I.Value v)) p e ih = ap (λ l. value_step v p ∷ l) (ih p.0 (omega (arith, next_six s i v p e)))
    go y p e ih = refl

-- all answers but the last are values
counted : (s : List ℕ) (k i : ℕ) → length s ≤ i + k → length (from next_filter k s i) ≡ suc (values (from next_filter k s i))
unfolding from follow values handed
counted s zero i h = go (next_filter s i).item (next_filter s i).place refl
  where
    go : (y : Result Listed Refusal) (p : Place) → next_filter s i ≡ step y p → 1 ≡ suc (values (step y p ∷ []))
    go (Ok (I.Value v)) p e = absurd (omega (arith, next_six s i v p e, next_inside s i v p e))
    go y p e = refl
counted s (suc k) i h = go (next_filter s i).item (next_filter s i).place refl (counted s k)
  where
    go : (y : Result Listed Refusal) (p : Place) → next_filter s i ≡ step y p → ((j : ℕ) → length s ≤ j + k → length (from next_filter k s j) ≡ suc (values (from next_filter k s j)))
        → length (follow (step y p) (λ n. from next_filter k s n)) ≡ suc (values (follow (step y p) (λ n. from next_filter k s n)))
    go (Ok (I.Value v)) p e ih = ap suc (ih p.0 (omega (arith, next_six s i v p e)))
    go y p e ih = refl

pub reaches : Reaches next_filter
unfolding answers
reaches s i = let b : values (answers next_filter s i) ≤ length s / 6 = bound s i in rw (counted s (length s) i (omega arith)) (omega (arith, b))

pub answers_step : (s : List ℕ) (i : ℕ) → answers next_filter s i ≡ follow (next_filter s i) (answers next_filter s)
unfolding answers from
answers_step s i = enough s (length s) i (omega arith)

-- the join

pub no_more : (l m : List FilterStep) (z : FilterStep) → ◌≡◌ {A = List FilterStep} [] (l ++ (z ∷ m)) → ⊥
no_more [] m z e = let z : ◌≡◌ {A = ℕ} 0 1 = cc in omega arith
no_more (y ∷ l) m z e = let z : ◌≡◌ {A = ℕ} 0 1 = cc in omega arith

-- the first answer
pub first_answer : (x : FilterStep) (g : ℕ → List FilterStep) (z : FilterStep) (m : List FilterStep) → follow x g ≡ z ∷ m → x ≡ z
unfolding follow
first_answer x g z m e = go x.item x.place e
  where
    go : (y : Result Listed Refusal) (p : Place) → follow (step y p) g ≡ z ∷ m → step y p ≡ z
    go (Ok (I.Value v)) p e = cc
    go y p e = cc

-- an answer that another follows is a value, and what follows is read from its list place
pub record Went (x y : FilterStep) (g : ℕ → List FilterStep) (l : List FilterStep) : Type 0 where
  pub value : FilterValue
  pub place : Place
  pub here : x ≡ value_step value place
  pub same : y ≡ value_step value place
  pub rest : g place.0 ≡ l

pub went : (x y : FilterStep) (g : ℕ → List FilterStep) (l m : List FilterStep) (z : FilterStep) → follow x g ≡ y ∷ (l ++ (z ∷ m)) → Went x y g (l ++ (z ∷ m))
unfolding follow
went x y g l m z e = go x.item x.place e
  where
    go : (w : Result Listed Refusal) (q : Place) → follow (step w q) g ≡ y ∷ (l ++ (z ∷ m)) → Went (step w q) y g (l ++ (z ∷ m))
    go (Ok (I.Value v)) q e = record { value = v; place = q; here = refl; same = cc; rest = cc }
    go w q e = absurd (no_more l m z cc)

-- what A and then B are to answer, where A's are m and then its end
abbrev both : List ℕ → List ℕ → List FilterStep → List FilterStep
both a b m = map (passing (length a) (scan is_space b 0)) m ++ map (move_step (length a) (characters a)) (answers next_filter b 0)

module _ (a b : List ℕ) (u : utf8_of a ≡ Ok tt) (w : utf8_of b ≡ Ok tt) (l : length (a ++ b) ≤ 4096) where
  shift_one : (x : FilterStep)
      → ((v : FilterValue) (p : Place) → x ≡ value_step v p → answers next_filter (a ++ b) (length a + p.0) ≡ map (move_step (length a) (characters a)) (answers next_filter b p.0))
      → follow (move_step (length a) (characters a) x) (answers next_filter (a ++ b)) ≡ map (move_step (length a) (characters a)) (follow x (answers next_filter b))
  unfolding follow move_step
  shift_one x f = go x.item x.place f
    where
      go : (y : Result Listed Refusal) (p : Place)
          → ((v : FilterValue) (q : Place) → step y p ≡ value_step v q → answers next_filter (a ++ b) (length a + q.0) ≡ map (move_step (length a) (characters a)) (answers next_filter b q.0))
          → follow (move_step (length a) (characters a) (step y p)) (answers next_filter (a ++ b)) ≡ map (move_step (length a) (characters a)) (follow (step y p) (answers next_filter b))
      go (Ok (I.Value v)) p f = rw (f v p refl) refl
      go y p f = refl

  -- B's answers, wherever they begin: k bounds the bytes left
  shifted : (k i : ℕ) → length b ≤ i + k → answers next_filter (a ++ b) (length a + i) ≡ map (move_step (length a) (characters a)) (answers next_filter b i)
  shifted zero i h =
      rw (answers_step (a ++ b) (length a + i), answers_step b i, next_shift a b u w l i)
      (shift_one (next_filter b i) (λ v p e. absurd (omega (arith, next_six b i v p e, next_inside b i v p e))))
  shifted (suc k) i h =
      rw (answers_step (a ++ b) (length a + i), answers_step b i, next_shift a b u w l i)
      (shift_one (next_filter b i) (λ v p e. shifted k p.0 (omega (arith, next_six b i v p e))))

  -- a value of A, and the answers after it
  join_one : (i : ℕ) (v : FilterValue) (p : Place) → next_filter a i ≡ value_step v p
      → answers next_filter (a ++ b) i ≡ passing (length a) (scan is_space b 0) (value_step v p) ∷ answers next_filter (a ++ b) p.0
  unfolding follow
  join_one i v p e =
      let n : ℕ = scan is_space (a ++ b) p.0 in
      rw (next_passing a b u w l i v p e, answers_step (a ++ b) i, next_more a b u w l i v p e, answers_step (a ++ b) n, answers_step (a ++ b) p.0, next_again a b u w l i v p e) refl

  joined : (m : List FilterStep) (i : ℕ) (p : Place) → answers next_filter a i ≡ m ++ (end_step p ∷ [])
      → answers next_filter (a ++ b) i ≡ both a b m
  joined [] i p e =
      let f : next_filter a i ≡ end_step p = first_answer (next_filter a i) (answers next_filter a) (end_step p) [] (sym (answers_step a i) ∙ e) in
      let g : answers next_filter (a ++ b) i ≡ answers next_filter (a ++ b) (length a + 0) =
      rw (answers_step (a ++ b) i, answers_step (a ++ b) (length a + 0), next_seam a b u w l i p f) refl in
      g ∙ shifted (length b) 0 (omega arith)
  joined (y ∷ m) i p e = go (went (next_filter a i) y (answers next_filter a) m [] (end_step p) (sym (answers_step a i) ∙ e)) (λ j. joined m j p)
    where
      go : Went (next_filter a i) y (answers next_filter a) (m ++ (end_step p ∷ []))
          → ((j : ℕ) → answers next_filter a j ≡ m ++ (end_step p ∷ []) → answers next_filter (a ++ b) j ≡ both a b m)
          → answers next_filter (a ++ b) i ≡ passing (length a) (scan is_space b 0) y ∷ both a b m
      go x ih = rw (join_one i x.value x.place x.here, x.same, ih x.place.0 x.rest) refl

pub join : Join next_filter
join a b m p u w l e = joined a b u w l m 0 p e
