-- The laws of the writing of an answer's record.
use mathlib.Core.Bool.{Bool, true, false, cond}
use mathlib.Core.List.{[], ◌∷◌}
use mathlib.Core.Path.{◌≡◌, refl}
use lib.Ieee.{to_bits, of_bits}
use lib.ListN.{set}
use lib.Seq.{paste}
use Rattle.std.specs.Int.{from_bool}
use Rattle.std.specs.Prelude.{Some, None, Ok, Err}
use Rattle.text_bytes.specs.declared.Part.{Part}
use Rattle.stream.specs.Paper.{paper_refusal}
use Rattle.stream.specs.declared.Refusal.{Refusal}
use Rattle.numbers.specs.declared.Written.{Written}
use Rattle.color.specs.Paper as colors
use Rattle.color.specs.declared.Color.{Color}
use Rattle.length.specs.Paper as lengths
use Rattle.length.specs.declared.Length.{Length}
use Rattle.angle.specs.Angles.{to_degrees}
use Rattle.angle.specs.Paper as angles
use Rattle.angle.specs.declared.Angle.{Angle}
use Rattle.paint.specs.Paper as paints
use Rattle.paint.specs.declared.Paint.{Paint}
use Rattle.paint.specs.declared.Paint.TheVariants as P
use Rattle.paint.specs.declared.PaintFallback.TheVariants as F
use Rattle.inherit.specs.Paper.{whose_number, paper_inherited}
use Rattle.inherit.specs.declared.Chosen.{Chosen}
use Rattle.inherit.specs.declared.WhoseRefusal.{WhoseRefusal}
use Rattle.records.specs.Records.{row, found_row, bits_of, length_unit, angle_unit, color_entries, color_record, length_record, angle_record, link_record, paint_row, paint_record, inherited_record}

-- a refusal: "a result of zeros with an empty link"
module _ (e : Refusal) where
  pub color_refused : row (paper_refusal e) 0 0 [] ≡ color_record (Err e)
  unfolding row color_record colors.paper
  color_refused = refl

  pub length_refused : row (paper_refusal e) 0 0 [] ≡ length_record (Err e)
  unfolding row length_record lengths.paper bits_of length_unit to_bits of_bits
  length_refused = refl

  pub angle_refused : row (paper_refusal e) 0 0 [] ≡ angle_record (Err e)
  unfolding row angle_record angles.paper bits_of angle_unit to_bits of_bits
  angle_refused = refl

  pub link_refused : row (paper_refusal e) 0 0 [] ≡ link_record (Err e)
  unfolding row link_record
  link_refused = refl

  pub paint_refused : row (paper_refusal e) 0 0 [] ≡ paint_record (Err e)
  unfolding row paint_record paints.paper
  paint_refused = refl

pub inherited_refused : (e : WhoseRefusal) → set (row (paper_refusal e.refusal) 0 0 []) 9 (whose_number e.whose) ≡ inherited_record (Err e)
unfolding row inherited_record paper_inherited
inherited_refused e = refl

pub inherited_higher : found_row 0 (3 ∷ []) ≡ inherited_record (Ok None)
unfolding row inherited_record paper_inherited
inherited_higher = refl

pub inherited_chosen : (a : Chosen) → found_row 0 (whose_number a.whose ∷ a.part.start.0 ∷ a.part.len ∷ []) ≡ inherited_record (Ok (Some a))
unfolding inherited_record paper_inherited
inherited_chosen a = refl

-- a yes as 1, a no as 0
pub one_or_none : (b : Bool) → from_bool b ≡ cond b 1 0
one_or_none true = refl
one_or_none false = refl

-- a value
pub color_value : (c : Color) → found_row 0 (c.red ∷ c.green ∷ c.blue ∷ c.alpha ∷ []) ≡ color_record (Ok c)
unfolding row color_record colors.paper
color_value c = refl

pub length_value : (w : Written Length) → found_row 0 (bits_of w.value.number ∷ length_unit w.value.unit ∷ from_bool w.whole ∷ w.end.0 ∷ []) ≡ length_record (Ok w)
unfolding row length_record lengths.paper
length_value w = rw (one_or_none w.whole) refl

pub angle_value : (w : Written Angle)
    → found_row 0 (bits_of w.value.number ∷ angle_unit w.value.unit ∷ bits_of (to_degrees w.value) ∷ from_bool w.whole ∷ w.end.0 ∷ []) ≡ angle_record (Ok w)
unfolding row angle_record angles.paper
angle_value w = rw (one_or_none w.whole) refl

pub link_value : (p : Part) → found_row 0 (p.start.0 ∷ p.len ∷ []) ≡ link_record (Ok p)
unfolding link_record
link_value p = refl

-- a paint that is a word alone is told by its kind
pub paint_none : found_row 0 (1 ∷ []) ≡ paint_row P.None
unfolding row paint_row
paint_none = refl

pub paint_inherit : found_row 0 (2 ∷ []) ≡ paint_row P.Inherit
unfolding row paint_row
paint_inherit = refl

pub paint_current : found_row 0 (3 ∷ []) ≡ paint_row P.CurrentColor
unfolding row paint_row
paint_current = refl

pub paint_context_fill : found_row 0 (4 ∷ []) ≡ paint_row P.ContextFill
unfolding row paint_row
paint_context_fill = refl

pub paint_context_stroke : found_row 0 (5 ∷ []) ≡ paint_row P.ContextStroke
unfolding row paint_row
paint_context_stroke = refl

pub paint_color : (c : Color) → paste (found_row 0 (6 ∷ [])) 13 (color_entries c) 4 ≡ paint_row (P.Color c)
unfolding row paint_row
paint_color c = refl

-- a link with no fallback
pub paint_link : (link : Part) → found_row 0 (7 ∷ link.start.0 ∷ link.len ∷ []) ≡ paint_row (P.FuncIRI link None)
unfolding row paint_row
paint_link link = refl

pub paint_value : (v : Paint) → paint_row v ≡ paint_record (Ok v)
unfolding paint_row paint_record paints.paper
paint_value v = refl

-- and with one
module _ (link : Part) where
  pub fallback_none : set (paint_row (P.FuncIRI link None)) 12 1 ≡ paint_row (P.FuncIRI link (Some F.None))
  unfolding row paint_row
  fallback_none = refl

  pub fallback_current : set (paint_row (P.FuncIRI link None)) 12 2 ≡ paint_row (P.FuncIRI link (Some F.CurrentColor))
  unfolding row paint_row
  fallback_current = refl

  pub fallback_color : (c : Color) → set (paste (paint_row (P.FuncIRI link None)) 13 (color_entries c) 4) 12 3 ≡ paint_row (P.FuncIRI link (Some (F.Color c)))
  unfolding row paint_row
  fallback_color c = refl
