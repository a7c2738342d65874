-- The record of an answer: the number, and a result of zeros for a refusal.
use Rattle.std.specs.Prelude.{Bool, true, false, Result, Ok, Err, Option, Some, None}
use Rattle.text_bytes.specs.Moves.{place}
use Rattle.text_bytes.specs.declared.Place.{Place}
use Rattle.stream.specs.Paper.{PaperRefusal, paper_refusal, no_refusal}
use Rattle.stream.specs.declared.Refusal.{Refusal}
use Rattle.length.specs.Lengths.{LengthStep}
use Rattle.floats.specs.Floats.{d0}
use Rattle.numbers.specs.declared.Written.{Written}
use Rattle.length.specs.declared.LengthUnit.TheVariants as U
use Rattle.length.specs.declared.Length.{Length}

-- 0.0 with no unit
abbrev pub zero_length : Length
zero_length = record { number = d0; unit = U.None }

-- A length: number 0 of the refusal is a value. `whole` says that neither a dot nor an exponent was written, and `end` where the number ended
pub record Paper : Type 0 where
  pub refusal : PaperRefusal
  pub result : Length
  pub whole : Bool
  pub end : Place

unfoldable pub paper : Result (Written Length) Refusal → Paper
paper (Ok w) = record { refusal = no_refusal; result = w.value; whole = w.whole; end = w.end }
paper (Err e) = record { refusal = paper_refusal e; result = zero_length; whole = false; end = place 0 }

-- a step: whether the list has ended, and the list place
pub record PaperStep : Type 0 where
  pub refusal : PaperRefusal
  pub ended : Bool
  pub result : Length
  pub whole : Bool
  pub end : Place
  pub place : Place

abbrev pub step_paper : Result (Option (Written Length)) Refusal → Place → PaperStep
step_paper (Ok (Some w)) p = record { refusal = no_refusal; ended = false; result = w.value; whole = w.whole; end = w.end; place = p }
step_paper (Ok None) p = record { refusal = no_refusal; ended = true; result = zero_length; whole = false; end = place 0; place = p }
step_paper (Err e) p = record { refusal = paper_refusal e; ended = false; result = zero_length; whole = false; end = place 0; place = p }

unfoldable pub paper_step : LengthStep → PaperStep
paper_step t = step_paper t.item t.place
