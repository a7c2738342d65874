-- The record of an answer: the number, and a result of zeros for a refusal.
use Rattle.std.specs.Prelude.{Bool, false, Result, Ok, Err}
use Rattle.text_bytes.specs.Moves.{place}
use Rattle.text_bytes.specs.declared.Place.{Place}
use Rattle.stream.specs.Paper.{PaperRefusal, paper_refusal, no_refusal}
use Rattle.stream.specs.declared.Refusal.{Refusal}
use Rattle.floats.specs.Floats.{d0}
use Rattle.numbers.specs.declared.Written.{Written}
use Rattle.angle.specs.declared.AngleUnit.TheVariants as U
use Rattle.angle.specs.declared.Angle.{Angle}

-- 0.0 degrees
abbrev pub zero_angle : Angle
zero_angle = record { number = d0; unit = U.Degrees }

-- An angle: number 0 of the refusal is a value. `whole` says that neither a dot nor an exponent was written, and `end` where the number ended
pub record Paper : Type 0 where
  pub refusal : PaperRefusal
  pub result : Angle
  pub whole : Bool
  pub end : Place

unfoldable pub paper : Result (Written Angle) Refusal → Paper
paper (Ok w) = record { refusal = no_refusal; result = w.value; whole = w.whole; end = w.end }
paper (Err e) = record { refusal = paper_refusal e; result = zero_angle; whole = false; end = place 0 }
