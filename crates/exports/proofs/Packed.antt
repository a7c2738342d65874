-- A paint from its answer's number.
use Prim.Native.Nat.{ℕ}
use mathlib.Core.List.{List}
use mathlib.Core.Path.{◌≡◌, refl, sym, ap, ◌∙◌}
use Rattle.std.specs.Prelude.{Result, Ok, Err}
use Rattle.stream.specs.declared.Refusal.{Refusal}
use Rattle.paint.specs.Answers.{from_str}
use Rattle.paint.specs.declared.Paint.{Paint}
use Rattle.packed.specs.Numbers.{decoded_paint, paint_answer_number}
use Rattle.packed.proofs.Decoding.{paint_read_back}
use Rattle.records.specs.Records.{paint_record, record_for}

module _ (s : List ℕ) where
  -- a number that is 0: the record is filled
  pub paint_none : (o : List ℕ) → paint_answer_number (from_str s) ≡ 0
      → (paint_answer_number (from_str s) ≡ 0) × (record_for (paint_answer_number (from_str s)) (paint_record (from_str s)) o ≡ paint_record (from_str s))
  paint_none o h = (h, rw h refl)

  -- another: the value comes back from it
  pub paint_some : (paint_answer_number (from_str s) ≡ 0 → ⊥)
      → (paint_answer_number (from_str s) ≡ paint_answer_number (from_str s)) × (paint_record (Ok (decoded_paint (paint_answer_number (from_str s)))) ≡ paint_record (from_str s))
  unfolding paint_answer_number
  paint_some h = (refl, go (from_str s) refl)
    where
      go : (a : Result Paint Refusal) → from_str s ≡ a → paint_record (Ok (decoded_paint (paint_answer_number (from_str s)))) ≡ paint_record (from_str s)
      go (Ok x) k = ap (λ (y : Paint). paint_record (Ok y)) (paint_read_back s x k) ∙ sym (ap paint_record k)
      go (Err x) k = absurd (h (ap paint_answer_number k))
