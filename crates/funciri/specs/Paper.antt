-- The record of an answer: "a result of zeros with an empty link" for a refusal.
use Rattle.std.specs.Prelude.{Result, Ok, Err}
use Rattle.text_bytes.specs.Moves.{place}
use Rattle.text_bytes.specs.declared.Part.{Part}
use Rattle.stream.specs.Paper.{PaperRefusal, paper_refusal, no_refusal}
use Rattle.stream.specs.declared.Refusal.{Refusal}

pub record Paper : Type 0 where
  pub refusal : PaperRefusal
  pub result : Part

-- A value has the number 0
abbrev pub paper : Result Part Refusal → Paper
paper (Ok link) = record { refusal = no_refusal; result = link }
paper (Err e) = record { refusal = paper_refusal e; result = record { start = place 0; len = 0 } }
