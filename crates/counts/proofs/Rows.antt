-- The laws of the writing of a count's record.
use Prim.Native.Nat.{ℕ}
use mathlib.Core.List.{[], ◌∷◌}
use mathlib.Core.Path.{◌≡◌, refl}
use Rattle.std.specs.Prelude.{Ok, Err}
use Rattle.stream.specs.Paper.{paper_refusal}
use Rattle.stream.specs.declared.Refusal.{Refusal}
use Rattle.records.specs.Records.{row, found_row}
use Rattle.set_back.specs.Paper.{paper}
use Rattle.counts.specs.Counts.{set_back_record}

pub count_refused : (e : Refusal) → row (paper_refusal e) 0 0 [] ≡ set_back_record (Err e)
unfolding row set_back_record paper
count_refused e = refl

pub count_written : (n : ℕ) → found_row 0 (n ∷ []) ≡ set_back_record (Ok n)
unfolding set_back_record paper
count_written n = refl
