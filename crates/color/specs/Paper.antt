-- The record of an answer: the colour, and a result of zeros for a refusal.
use Rattle.std.specs.Prelude.{Result, Ok, Err}
use Rattle.stream.specs.Paper.{PaperRefusal, paper_refusal, no_refusal}
use Rattle.stream.specs.declared.Refusal.{Refusal}
use Rattle.color.specs.Hex.{rgba}
use Rattle.color.specs.declared.Color.{Color}

-- number 0 of the refusal is a value
pub record Paper : Type 0 where
  pub refusal : PaperRefusal
  pub result : Color

unfoldable pub paper : Result Color Refusal → Paper
paper (Ok c) = record { refusal = no_refusal; result = c }
paper (Err e) = record { refusal = paper_refusal e; result = rgba 0 0 0 0 }
