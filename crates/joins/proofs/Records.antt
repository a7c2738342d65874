-- The join of the records.
use Prim.Native.Nat.{ℕ, zero, suc, ◌+◌}
use mathlib.Core.Bool.{Bool, true, false, cond}
use mathlib.Core.List.{List, [], ◌∷◌, ◌++◌, map, map-append}
use mathlib.Core.Path.{◌≡◌, refl}
use lib.Dec.{eqb, leb}
use lib.ListN.{length}
use Rattle.std.specs.Prelude.{Result, Ok, Err, Option, Some}
use Rattle.text_bytes.specs.Bytes.{is_space}
use Rattle.text_bytes.specs.Moves.{place}
use Rattle.text_bytes.specs.Scan.{scan}
use Rattle.text_bytes.specs.declared.Place.{Place}
use Rattle.text_bytes.proofs.Shifts.{sub_shift}
use Rattle.utf8.specs.Characters.{characters}
use Rattle.utf8.specs.declared.Position.{Position}
use Rattle.stream.specs.Moves.{move_refusal}
use Rattle.stream.specs.Paper.{listed, place_of, part_of, paper_refusal}
use Rattle.stream.specs.Refusals.{number_of, reason_number}
use Rattle.stream.specs.declared.Refusal.{Refusal}
use Rattle.stream.specs.declared.Reason.{Reason}
use Rattle.stream.specs.declared.Trouble.TheVariants as T
use Rattle.stream.specs.declared.Reason.TheVariants as R
use Rattle.stream.specs.Steps.{refused_step}
use Rattle.filter_functions.specs.Filters.{value_step, end_step}
use Rattle.filter_functions.specs.Moves.{move_filter_value}
use Rattle.filter_functions.specs.Paper.{paper_step, result}
use Rattle.filter_functions.specs.Filters.{FilterStep}
use Rattle.filter_functions.specs.declared.FilterValue.{FilterValue}
use Rattle.filter_functions.specs.declared.FilterValue.TheVariants as G
use Rattle.filter_functions.specs.declared.Listed.{Listed}
use Rattle.filter_functions.specs.declared.Listed.TheVariants as I
use Rattle.joins.specs.Joins.{Next, follow, from, answers, move_step, passing, Join, move_result, move_paper, move_record, pass_record, JoinRecords}
use Rattle.joins.proofs.Edge.{step}
use Rattle.joins.proofs.Lists.{no_more, Went, went}

-- a refusal's record moves as the refusal does
position_move : (k : ℕ) (t : Bool) (p : Option Position) → listed (cond t p (Some (record { 0 = k + listed p }))) ≡ cond t (listed p) (k + listed p)
position_move k true p = refl
position_move k false p = refl

place_move : (n : ℕ) (t : Reason) (f : Place) → place_of t (place (cond (leb (reason_number t) 3) f.0 (n + f.0))) ≡ place_of t f
unfolding reason_number number_of
place_move n R.IllFormed f = refl
place_move n t f = refl

part_move : (n : ℕ) (t : Reason) (f g : Place)
    → part_of t (place (cond (leb (reason_number t) 3) f.0 (n + f.0))) (place (cond (leb (reason_number t) 3) g.0 (n + g.0)))
    ≡ record { start = place (cond (eqb (reason_number t) 8) (n + (part_of t f g).start.0) (part_of t f g).start.0); len = (part_of t f g).len }
unfolding reason_number number_of
part_move n (R.Unread T.InvalidString) f g = simp sub_shift
part_move n t f g = refl

pub refusal_move : (n k : ℕ) (r : Refusal) → paper_refusal (move_refusal n k r) ≡ move_paper n k (paper_refusal r)
unfolding paper_refusal move_paper
refusal_move n k r = rw (position_move k (leb (reason_number r.reason) 5) r.position, place_move n r.reason r.from, part_move n r.reason r.from r.to) refl

result_move : (n : ℕ) (v : FilterValue) → result (move_filter_value n v) ≡ move_result n (result v)
unfolding result move_result
result_move n (G.Blur l) = refl
result_move n (G.DropShadow d) = refl
result_move n (G.Brightness x) = refl
result_move n (G.Contrast x) = refl
result_move n (G.Grayscale x) = refl
result_move n (G.HueRotate a) = refl
result_move n (G.Invert x) = refl
result_move n (G.Opacity x) = refl
result_move n (G.Sepia x) = refl
result_move n (G.Saturate x) = refl
result_move n (G.Url link) = refl

paper_move : (n k : ℕ) (x : FilterStep) → paper_step (move_step n k x) ≡ move_record n k (paper_step x)
unfolding paper_step move_step move_record move_result move_paper
paper_move n k x = go x.item x.place
  where
    go : (y : Result Listed Refusal) (p : Place) → paper_step (move_step n k (step y p)) ≡ move_record n k (paper_step (step y p))
    go (Ok (I.Value v)) p = rw (result_move n v) refl
    go (Ok I.End) p = refl
    go (Ok I.NoneWord) p = refl
    go (Err r) p = rw (refusal_move n k r) refl

paper_passing : (n k : ℕ) (v : FilterValue) (p : Place) → paper_step (passing n k (value_step v p)) ≡ pass_record n k (paper_step (value_step v p))
unfolding paper_step passing pass_record
paper_passing n k v p = refl

module _ (next : Next) where
  -- of any answers
  records_move : (n c k : ℕ) (s : List ℕ) (i : ℕ)
      → map paper_step (map (move_step n c) (from next k s i)) ≡ map (move_record n c) (map paper_step (from next k s i))
  unfolding from follow
  records_move n c zero s i = rw (paper_move n c (next s i)) refl
  records_move n c (suc k) s i = go (next s i).item (next s i).place (records_move n c k s)
    where
      go : (y : Result Listed Refusal) (p : Place)
          → ((j : ℕ) → map paper_step (map (move_step n c) (from next k s j)) ≡ map (move_record n c) (map paper_step (from next k s j)))
          → map paper_step (map (move_step n c) (follow (step y p) (λ j. from next k s j))) ≡ map (move_record n c) (map paper_step (follow (step y p) (λ j. from next k s j)))
      go (Ok (I.Value v)) p ih = rw (paper_move n c (value_step v p), ih p.0) refl
      go (Ok I.End) p ih = rw (paper_move n c (step (Ok I.End) p)) refl
      go (Ok I.NoneWord) p ih = rw (paper_move n c (step (Ok I.NoneWord) p)) refl
      go (Err r) p ih = rw (paper_move n c (refused_step r p)) refl

  -- before its end a list answers values alone
  records_passing : (n k j : ℕ) (s : List ℕ) (i : ℕ) (l : List FilterStep) (p : Place) → from next j s i ≡ l ++ (end_step p ∷ [])
      → map paper_step (map (passing n k) l) ≡ map (pass_record n k) (map paper_step l)
  unfolding from
  records_passing n k j s i [] p e = refl
  records_passing n k zero s i (y ∷ l) p e = absurd (no_more l [] (end_step p) cc)
  records_passing n k (suc j) s i (y ∷ l) p e = go (went (next s i) y (λ m. from next j s m) l [] (end_step p) e) (λ m. records_passing n k j s m l p)
    where
      go : Went (next s i) y (λ m. from next j s m) (l ++ (end_step p ∷ [])) → ((m : ℕ) → from next j s m ≡ l ++ (end_step p ∷ []) → map paper_step (map (passing n k) l) ≡ map (pass_record n k) (map paper_step l))
          → paper_step (passing n k y) ∷ map paper_step (map (passing n k) l) ≡ pass_record n k (paper_step y) ∷ map (pass_record n k) (map paper_step l)
      go x ih = rw (x.same, paper_passing n k x.value x.place, ih x.place.0 x.rest) refl

  pub join_records : Join next → JoinRecords next
  unfolding answers
  join_records f a b l p u w m e =
      let n : ℕ = length a in
      let k : ℕ = scan is_space b 0 in
      let c : ℕ = characters a in
      rw (f a b l p u w m e, map-append paper_step (map (passing n k) l) (map (move_step n c) (answers next b 0)), records_passing n k n a 0 l p e, records_move n c (length b) b 0) refl
