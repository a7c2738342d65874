-- The record of an answer: how many bytes were written, and a result of zeros for a refusal.
use Rattle.std.specs.Prelude.{ℕ, Result, Ok, Err}
use Rattle.stream.specs.Paper.{PaperRefusal, paper_refusal, no_refusal}
use Rattle.stream.specs.declared.Refusal.{Refusal}

-- a text that was written has the number 0
pub record Paper : Type 0 where
  pub refusal : PaperRefusal
  pub count : ℕ

unfoldable pub paper : Result ℕ Refusal → Paper
paper (Ok n) = record { refusal = no_refusal; count = n }
paper (Err e) = record { refusal = paper_refusal e; count = 0 }
