-- The record of the inherit rule's answer: "that refusal, telling whose text it is, and an empty part".
use Rattle.std.specs.Prelude.{ℕ, Result, Ok, Err, Option, Some, None}
use Rattle.text_bytes.specs.declared.Part.{Part}
use Rattle.stream.specs.Paper.{PaperRefusal, paper_refusal, no_refusal}
use Rattle.paint.specs.Paper.{empty_part}
use Rattle.inherit.specs.declared.Chosen.{Chosen}
use Rattle.inherit.specs.declared.Whose.{Whose}
use Rattle.inherit.specs.declared.Whose.TheVariants as W
use Rattle.inherit.specs.declared.WhoseRefusal.{WhoseRefusal}

-- whose text it is: 1 the element's own, 2 its parent's
unfoldable pub whose_number : Whose → ℕ
whose_number W.Own = 1
whose_number W.Parent = 2

-- 3 is "ask higher up", where neither tells
pub record PaperInherited : Type 0 where
  pub refusal : PaperRefusal
  pub whose : ℕ
  pub part : Part

unfoldable pub paper_inherited : Result (Option Chosen) WhoseRefusal → PaperInherited
paper_inherited (Ok (Some a)) = record { refusal = no_refusal; whose = whose_number a.whose; part = a.part }
paper_inherited (Ok None) = record { refusal = no_refusal; whose = 3; part = empty_part }
paper_inherited (Err e) = record { refusal = paper_refusal e.refusal; whose = whose_number e.whose; part = empty_part }
