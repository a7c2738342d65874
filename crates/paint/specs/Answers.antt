-- What the outside call answers.
use Rattle.std.specs.Prelude.{ℕ, List, drop, Result, Ok, Err}
use Rattle.text_bytes.specs.Flow.{◌>>=◌}
use Rattle.utf8.specs.Blanks.{trim_start, trim_of}
use Rattle.stream.specs.Refusals.{refusal_of, admit_text}
use Rattle.stream.specs.declared.Refusal.{Refusal}
use Rattle.paint.specs.Moves.{move_paint}
use Rattle.paint.specs.Reading.{parse_paint}
use Rattle.paint.specs.declared.Paint.{Paint}
use Rattle.paint.specs.declared.PaintFault.{PaintFault}

-- a fault's places count in the bytes from its base on
abbrev pub told_in : List ℕ → Result Paint PaintFault → Result Paint Refusal
told_in t (Ok v) = Ok v
told_in t (Err e) = Err (refusal_of (drop e.base.0 t) e.fault)

unfoldable pub parse_trimmed : List ℕ → Result Paint Refusal
parse_trimmed t = told_in t (parse_paint t)

-- "Paint trims"
unfoldable pub from_str : List ℕ → Result Paint Refusal
from_str s = do
  _ ← admit_text s
  paint ← parse_trimmed (trim_of s)
  Ok (move_paint (trim_start s) paint)

abbrev pub hand : List ℕ → List ℕ → Result (Unit {0}) Refusal → Result Paint PaintFault → List ℕ
hand s t (Err e) r = s
hand s t (Ok u) (Err e) = drop e.base.0 t
hand s t (Ok u) (Ok v) = t

-- The text in which a refusal's position and stretch count: "In a paint they count from the trimmed text, in a fallback from the fallback". 1 and 2 speak of the lent text
unfoldable pub at_hand : List ℕ → List ℕ
at_hand s = hand s (trim_of s) (admit_text s) (parse_paint (trim_of s))
