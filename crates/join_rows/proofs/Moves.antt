-- A row moves, and passes, as its answer does.
use Prim.Native.Nat.{ℕ, suc, ◌+◌}
use mathlib.Core.Bool.{cond}
use mathlib.Core.Path.{◌≡◌, refl}
use native.Mathlib.Omega.{arith}
use borrow.Author.Tests.{eqb-true, leb-true, leb-false, lt-leb, le-leb}
use lib.Dec.{eqb, leb, ltb}
use Rattle.text_bytes.proofs.Ranges.{either}
use Rattle.std.specs.Prelude.{Result, Ok, Err}
use Rattle.text_bytes.specs.declared.Place.{Place}
use Rattle.stream.specs.Paper.{PaperRefusal, no_refusal, paper_refusal}
use Rattle.stream.specs.declared.Refusal.{Refusal}
use Rattle.filter_functions.specs.Filters.{value_step}
use Rattle.filter_functions.specs.Paper.{no_result, paper_step, result}
use Rattle.filter_functions.specs.declared.FilterValue.{FilterValue}
use Rattle.filter_functions.specs.declared.Listed.{Listed}
use Rattle.filter_functions.specs.declared.Listed.TheVariants as I
use Rattle.filter_functions.specs.declared.FilterValue.TheVariants as G
use Rattle.joins.specs.Joins.{move_paper, move_step, passing}
use Rattle.joins.proofs.Edge.{step}
use Rattle.joins.proofs.Records.{refusal_move}
use Rattle.records.specs.Records.{row, filter_entries, filter_record}
use Rattle.join_rows.specs.JoinRows.{move_row, pass_row, RowsMove, RowsPass}

-- above m, or not
above : (m n : ℕ) (x y : ℕ) → cond (ltb m n) x y ≡ cond (leb n m) y x
above m n x y = either (leb n m) (λ e. simp (e, lt-leb (suc m) n (omega (arith, leb-true n m e)))) (λ e. simp (e, le-leb (suc m) n (omega (arith, leb-false n m e))))

-- a value's row, and an end's
moved : (n k : ℕ) (p : Place) (v : FilterValue) → filter_record (move_step n k (value_step v p)) ≡ move_row n k (filter_record (value_step v p))
unfolding filter_record row paper_step result move_step move_row
moved n k p (G.Blur l) = refl
moved n k p (G.DropShadow d) = refl
moved n k p (G.Brightness x) = refl
moved n k p (G.Contrast x) = refl
moved n k p (G.Grayscale x) = refl
moved n k p (G.HueRotate a) = refl
moved n k p (G.Invert x) = refl
moved n k p (G.Opacity x) = refl
moved n k p (G.Sepia x) = refl
moved n k p (G.Saturate x) = refl
moved n k p (G.Url link) = refl

ended : (n k : ℕ) (p : Place) (t : ℕ) → row no_refusal t (n + p.0) (filter_entries no_result) ≡ move_row n k (row no_refusal t p.0 (filter_entries no_result))
unfolding row move_row
ended n k p t = refl

-- a refusal's row, whatever it is a refusal of
refused_move : (n k p : ℕ) (q : PaperRefusal) → row (move_paper n k q) 3 (n + p) (filter_entries no_result) ≡ move_row n k (row q 3 p (filter_entries no_result))
unfolding row move_row move_paper
refused_move n k p q = simp above

pub rows_move : RowsMove
unfolding filter_record paper_step result move_step
rows_move n k x = go x.item x.place
  where
    go : (y : Result Listed Refusal) (p : Place) → filter_record (move_step n k (step y p)) ≡ move_row n k (filter_record (step y p))
    go (Ok (I.Value v)) p = moved n k p v
    go (Ok I.End) p = ended n k p 1
    go (Ok I.NoneWord) p = ended n k p 2
    go (Err e) p = rw (refusal_move n k e) (refused_move n k p.0 (paper_refusal e))

pub rows_pass : RowsPass
unfolding filter_record row paper_step passing pass_row
rows_pass n k x = go x.item x.place
  where
    go : (y : Result Listed Refusal) (p : Place) → filter_record (passing n k (step y p)) ≡ pass_row n k (filter_record (step y p))
    go (Ok (I.Value v)) p = either (eqb p.0 n) (λ e. let q : n + k ≡ k + p.0 = omega (arith, eqb-true p.0 n e) in simp (e, q)) (λ e. simp e)
    go (Ok I.End) p = refl
    go (Ok I.NoneWord) p = refl
    go (Err e) p = refl
