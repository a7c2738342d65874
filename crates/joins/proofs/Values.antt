-- What a join leaves of single answers: the values, and A's answers where B begins with no space.
use Prim.Native.Nat.{ℕ, ◌+◌}
use mathlib.Core.List.{List, [], ◌∷◌, ◌++◌, map, append-nil}
use mathlib.Core.Path.{◌≡◌, refl, ◌∙◌}
use native.Mathlib.Omega.{arith}
use borrow.Author.Tests.{eqb-true}
use lib.Dec.{eqb}
use lib.ListN.{length}
use Rattle.std.specs.Prelude.{Result, Ok}
use Rattle.text_bytes.specs.Bytes.{is_space}
use Rattle.text_bytes.specs.Scan.{scan}
use Rattle.text_bytes.specs.declared.Place.{Place}
use Rattle.text_bytes.proofs.Ranges.{either}
use Rattle.utf8.specs.Characters.{characters}
use Rattle.stream.specs.declared.Refusal.{Refusal}
use Rattle.filter_functions.specs.Filters.{end_step}
use Rattle.filter_functions.specs.Moves.{move_filter_value}
use Rattle.filter_functions.specs.Filters.{FilterStep}
use Rattle.filter_functions.specs.declared.FilterValue.{FilterValue}
use Rattle.filter_functions.specs.declared.Listed.{Listed}
use Rattle.filter_functions.specs.declared.Listed.TheVariants as I
use Rattle.joins.specs.Joins.{Next, answers, move_item, move_step, passing, hand, handed, Join, JoinValues, JoinUnspaced}
use Rattle.joins.proofs.Edge.{step}

hand_append : (y : Result Listed Refusal) (l m : List FilterValue) → hand y (l ++ m) ≡ hand y l ++ m
hand_append (Ok (I.Value v)) l m = refl
hand_append y l m = refl

handed_append : (l m : List FilterStep) → handed (l ++ m) ≡ handed l ++ handed m
unfolding handed
handed_append [] m = refl
handed_append (x ∷ l) m = rw (handed_append l m) (hand_append x.item (handed l) (handed m))

handed_passing : (n k : ℕ) (l : List FilterStep) → handed (map (passing n k) l) ≡ handed l
unfolding handed passing
handed_passing n k [] = refl
handed_passing n k (x ∷ l) = rw (handed_passing n k l) refl

hand_move : (n k : ℕ) (y : Result Listed Refusal) (l : List FilterValue) → hand (move_item n k y) (map (move_filter_value n) l) ≡ map (move_filter_value n) (hand y l)
hand_move n k (Ok (I.Value v)) l = refl
hand_move n k y l = refl

handed_move : (n k : ℕ) (l : List FilterStep) → handed (map (move_step n k) l) ≡ map (move_filter_value n) (handed l)
unfolding handed move_step
handed_move n k [] = refl
handed_move n k (x ∷ l) = rw (handed_move n k l) (hand_move n k x.item (handed l))

-- an end hands out nothing
handed_end : (l : List FilterStep) (p : Place) → handed (l ++ (end_step p ∷ [])) ≡ handed l
unfolding handed
handed_end l p = handed_append l (end_step p ∷ []) ∙ append-nil (handed l)

pub join_values : (next : Next) → Join next → JoinValues next
join_values next f a b l p u w m e =
    let n = length a in
    let k = scan is_space b 0 in
    let q = answers next b 0 in
    rw (f a b l p u w m e, e, handed_append (map (passing n k) l) (map (move_step n (characters a)) q), handed_passing n k l, handed_move n (characters a) q, handed_end l p) refl

-- no space is passed
passing_none : (n : ℕ) (x : FilterStep) → passing n 0 x ≡ x
unfolding passing
passing_none n x = go x.item x.place
  where
    go : (y : Result Listed Refusal) (p : Place) → passing n 0 (step y p) ≡ step y p
    go (Ok (I.Value v)) p = either (eqb p.0 n) (λ t. let q : n + 0 ≡ p.0 = omega (arith, eqb-true p.0 n t) in simp (t, q)) (λ t. simp t)
    go y p = refl

map_none : (n : ℕ) (l : List FilterStep) → map (passing n 0) l ≡ l
map_none n [] = refl
map_none n (x ∷ l) = rw (passing_none n x, map_none n l) refl

pub join_unspaced : (next : Next) → Join next → JoinUnspaced next
join_unspaced next f a b l p u w m e h = f a b l p u w m e ∙ rw (h, map_none (length a) l) refl
