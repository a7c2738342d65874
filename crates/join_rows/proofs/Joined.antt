-- The join of rows, from the join of answers: a list of rows that ends in the row of an end is that of answers that end so.
use Prim.Native.Nat.{ℕ, zero, suc}
use mathlib.Core.List.{List, [], ◌∷◌, ◌++◌, map, map-append, map-map, append_assoc}
use mathlib.Core.Path.{◌≡◌, refl, sym, ap, ◌∙◌}
use native.Mathlib.Omega.{arith}
use lib.ListN.{length}
use Rattle.text_bytes.specs.Bytes.{is_space}
use Rattle.text_bytes.specs.Scan.{scan}
use Rattle.text_bytes.specs.declared.Place.{Place}
use Rattle.utf8.specs.Characters.{characters}
use Rattle.std.specs.Prelude.{Result, Ok, Err}
use Rattle.stream.specs.declared.Refusal.{Refusal}
use Rattle.filter_functions.specs.Filters.{end_step, next_filter}
use Rattle.filter_functions.specs.Paper.{paper_step}
use Rattle.filter_functions.specs.Filters.{FilterStep}
use Rattle.filter_functions.specs.declared.Listed.{Listed}
use Rattle.filter_functions.specs.declared.Listed.TheVariants as I
use Rattle.joins.specs.Joins.{follow, from, answers, move_step, passing}
use Rattle.joins.proofs.Edge.{step}
use Rattle.joins.proofs.Whole.{demand_3}
use Rattle.records.specs.Records.{row, filter_record}
use Rattle.join_rows.specs.JoinRows.{rows, state, move_row, pass_row, JoinRows, JoinRowsUnspaced, JoinRowsLast, JoinCalls}
use Rattle.join_rows.proofs.Moves.{rows_move, rows_pass}
use Rattle.join_rows.proofs.Handed.{rows_reach, no_row, rows_whole}

-- answers whose rows are l and then r
record Parted (xs : List FilterStep) (l : List (List ℕ)) (r : List ℕ) : Type 0 where
  before : List FilterStep
  last : FilterStep
  all : xs ≡ before ++ (last ∷ [])
  front : map filter_record before ≡ l
  end : filter_record last ≡ r

parted : (xs : List FilterStep) (l : List (List ℕ)) (r : List ℕ) → map filter_record xs ≡ l ++ (r ∷ []) → Parted xs l r
parted [] l r e = absurd (no_row l r e)
parted (x ∷ []) [] r e = record { before = []; last = x; all = refl; front = refl; end = cc }
parted (x ∷ y ∷ xs) [] r e = let z : ◌≡◌ {A = ℕ} 0 1 = cc in absurd (omega arith)
parted (x ∷ xs) (y ∷ l) r e = go (parted xs l r (cc)) (cc)
  where
    go : Parted xs l r → filter_record x ≡ y → Parted (x ∷ xs) (y ∷ l) r
    go w f = record { before = x ∷ w.before; last = w.last; all = ap (λ m. x ∷ m) w.all; front = rw (f, w.front); end = w.end }

-- the row of an end is an end's
record Ending (x : FilterStep) : Type 0 where
  place : Place
  is : x ≡ end_step place

ending : (x : FilterStep) → state (filter_record x) ≡ 1 → Ending x
unfolding filter_record row paper_step
ending x e = go x.item x.place e
  where
    go : (y : Result Listed Refusal) (p : Place) → state (filter_record (step y p)) ≡ 1 → Ending (step y p)
    go (Ok (I.Value v)) p e = absurd (omega (arith, e))
    go (Ok I.End) p e = record { place = p; is = refl }
    go (Ok I.NoneWord) p e = absurd (omega (arith, e))
    go (Err r) p e = absurd (omega (arith, e))

-- so that of rows which end in the row of an end the answers end
record Closing (s : List ℕ) (l : List (List ℕ)) : Type 0 where
  before : List FilterStep
  place : Place
  all : answers next_filter s 0 ≡ before ++ (end_step place ∷ [])
  front : map filter_record before ≡ l

closing : (s : List ℕ) (l : List (List ℕ)) (r : List ℕ) → rows s 0 ≡ l ++ (r ∷ []) → state r ≡ 1 → Closing s l
closing s l r e t =
    let w : Parted (answers next_filter s 0) l r = parted (answers next_filter s 0) l r e in
    let x : Ending w.last = ending w.last (rw w.end t) in
    record { before = w.before; place = x.place; all = w.all ∙ ap (λ y. w.before ++ (y ∷ [])) x.is; front = w.front }

-- the rows of answers that pass, and of those that move
map_pass : (n k : ℕ) (l : List FilterStep) → map filter_record (map (passing n k) l) ≡ map (pass_row n k) (map filter_record l)
map_pass n k l = simp (map-map, rows_pass)

from_move : (n k m : ℕ) (s : List ℕ) (i : ℕ) → map filter_record (map (move_step n k) (from next_filter m s i)) ≡ map (move_row n k) (map filter_record (from next_filter m s i))
unfolding from follow
from_move n k zero s i = rw (rows_move n k (next_filter s i)) refl
from_move n k (suc m) s i = go (next_filter s i).item (next_filter s i).place (from_move n k m s)
  where
    go : (y : Result Listed Refusal) (p : Place)
        → ((j : ℕ) → map filter_record (map (move_step n k) (from next_filter m s j)) ≡ map (move_row n k) (map filter_record (from next_filter m s j)))
        → map filter_record (map (move_step n k) (follow (step y p) (λ j. from next_filter m s j))) ≡ map (move_row n k) (map filter_record (follow (step y p) (λ j. from next_filter m s j)))
    go (Ok (I.Value v)) p ih = rw (rows_move n k (step (Ok (I.Value v)) p), ih p.0) refl
    go (Ok I.End) p ih = rw (rows_move n k (step (Ok I.End) p)) refl
    go (Ok I.NoneWord) p ih = rw (rows_move n k (step (Ok I.NoneWord) p)) refl
    go (Err e) p ih = rw (rows_move n k (step (Err e) p)) refl

map_move : (n k : ℕ) (s : List ℕ) (i : ℕ) → map filter_record (map (move_step n k) (answers next_filter s i)) ≡ map (move_row n k) (rows s i)
unfolding answers
map_move n k s i = from_move n k (length s) s i

pub join_rows : JoinRows
join_rows a b l r u w m e t =
    let c : Closing a l = closing a l r e t in
    let n = length a in
    let k = scan is_space b 0 in
    let x = answers next_filter b 0 in
    rw (demand_3.joins a b c.before c.place u w m c.all, map-append filter_record (map (passing n k) c.before) (map (move_step n (characters a)) x), map_pass n k c.before, map_move n (characters a) b 0, c.front)

pub join_rows_unspaced : JoinRowsUnspaced
join_rows_unspaced a b l r u w m e t h =
    let c : Closing a l = closing a l r e t in
    let x = answers next_filter b 0 in
    rw (demand_3.joins_unspaced a b c.before c.place u w m c.all h, map-append filter_record c.before (map (move_step (length a) (characters a)) x), map_move (length a) (characters a) b 0, c.front)

pub join_rows_last : JoinRowsLast
join_rows_last a b l v r u w m e t =
    let n = length a in
    let k = scan is_space b 0 in
    let x = answers next_filter b 0 in
    let c : Closing a (l ++ (v ∷ [])) = closing a (l ++ (v ∷ [])) r (e ∙ sym (append_assoc l (v ∷ []) (r ∷ []))) t in
    let d : Parted c.before l v = parted c.before l v c.front in
    let f : answers next_filter a 0 ≡ d.before ++ (d.last ∷ end_step c.place ∷ []) =
    c.all ∙ ap (λ y. y ++ (end_step c.place ∷ [])) d.all ∙ append_assoc d.before (d.last ∷ []) (end_step c.place ∷ []) in
    rw (demand_3.joins_last a b d.before d.last c.place u w m f, map-append filter_record d.before (passing n k d.last ∷ map (move_step n (characters a)) x), map_move n (characters a) b 0, rows_pass n k d.last, d.front, d.end)

pub join_calls : JoinCalls
join_calls a b forA forB forBoth l r u w m y z e t =
    rw (rows_reach (a ++ b) forBoth 0 z, rows_reach b forB 0 y) (join_rows a b l r u w m (sym (rows_whole a forA 0 l r e (λ h. omega (arith, h, t))) ∙ e) t)
