-- The record of an answer: "a result of zeros with an empty link" for a refusal.
use Rattle.std.specs.Prelude.{ℕ, Result, Ok, Err, Option, Some, None}
use Rattle.stream.specs.Paper.{PaperRefusal, paper_refusal, no_refusal}
use Rattle.text_bytes.specs.declared.Part.{Part}
use Rattle.stream.specs.declared.Refusal.{Refusal}
use Rattle.color.specs.declared.Color.{Color}
use Rattle.paint.specs.declared.Paint.{Paint}
use Rattle.paint.specs.declared.Paint.TheVariants as P
use Rattle.paint.specs.declared.PaintFallback.{PaintFallback}
use Rattle.paint.specs.declared.PaintFallback.TheVariants as F

abbrev no_color : Color
no_color = record { red = 0; green = 0; blue = 0; alpha = 0 }

abbrev pub empty_part : Part
empty_part = record { start = record { 0 = 0 }; len = 0 }

-- a fallback: 0 none was written, 1 `none`, 2 `currentColor`, 3 a colour
pub record PaperFallback : Type 0 where
  pub kind : ℕ
  pub color : Color

abbrev pub paper_fallback : Option PaintFallback → PaperFallback
paper_fallback None = record { kind = 0; color = no_color }
paper_fallback (Some F.None) = record { kind = 1; color = no_color }
paper_fallback (Some F.CurrentColor) = record { kind = 2; color = no_color }
paper_fallback (Some (F.Color c)) = record { kind = 3; color = c }

-- a paint: 1 `none`, 2 `inherit`, 3 `currentColor`, 4 `context-fill`, 5 `context-stroke`, 6 a colour, 7 a link; 0 for a refusal
pub record PaperPaint : Type 0 where
  pub kind : ℕ
  pub color : Color
  pub link : Part
  pub fallback : PaperFallback

abbrev plain : ℕ → Color → PaperPaint
plain n c = record { kind = n; color = c; link = empty_part; fallback = paper_fallback None }

abbrev pub paper_paint : Paint → PaperPaint
paper_paint P.None = plain 1 no_color
paper_paint P.Inherit = plain 2 no_color
paper_paint P.CurrentColor = plain 3 no_color
paper_paint P.ContextFill = plain 4 no_color
paper_paint P.ContextStroke = plain 5 no_color
paper_paint (P.Color c) = plain 6 c
paper_paint (P.FuncIRI link f) = record { kind = 7; color = no_color; link = link; fallback = paper_fallback f }

pub record Paper : Type 0 where
  pub refusal : PaperRefusal
  pub result : PaperPaint

unfoldable pub paper : Result Paint Refusal → Paper
paper (Ok v) = record { refusal = no_refusal; result = paper_paint v }
paper (Err e) = record { refusal = paper_refusal e; result = plain 0 no_color }
