-- What trimming leaves of a text, and what that reads as.
use Prim.Native.Nat.{ℕ, ◌+◌, ◌≤◌}
use mathlib.Core.List.{List}
use mathlib.Core.Path.{◌≡◌, refl, ◌∙◌}
use native.Mathlib.Omega.{arith}
use lib.ListN.{length, drop, length-drop}
use lib.Seq.{length-take-le}
use Rattle.std.specs.Prelude.{Result, Ok, Err}
use Rattle.text_bytes.specs.Words.{part_bytes}
use Rattle.text_bytes.proofs.Parts.{part_inside}
use Rattle.utf8.specs.Blanks.{trim_start, trim_end, trim_part, trim_of}
use Rattle.utf8.specs.Characters.{utf8_of}
use Rattle.utf8.proofs.Cuts.{trim_utf8, utf8_drop}
use Rattle.utf8.proofs.Trimming.{trim_start_le, trim_end_le}
use Rattle.paint.specs.Moves.{link_start}
use Rattle.paint.specs.Reading.{parse_paint}
use Rattle.paint.specs.Answers.{told_in, parse_trimmed}
use Rattle.paint.specs.declared.Paint.{Paint}
use Rattle.paint.specs.declared.PaintFault.{PaintFault}
use Rattle.paint.proofs.Values.{paint_known, fault_known}

module _ (s : List ℕ) where
  pub trim_fits : (trim_part s).start.0 + (trim_part s).len ≤ length s
  unfolding trim_part
  trim_fits =
      let d = drop (trim_start s) s in
      omega (arith, trim_start_le s (trim_start s) refl, trim_end_le d (trim_end d) refl, length-drop (trim_start s) s)

  -- the bytes of the part that trimming leaves
  pub trim_bytes : part_bytes s (trim_part s) ≡ trim_of s
  unfolding trim_of
  trim_bytes = part_inside s (trim_part s) trim_fits ∙ unfold trim_part in refl

  pub trim_short : length (trim_of s) ≤ length s
  unfolding trim_of
  trim_short =
      let d = drop (trim_start s) s in
      omega (arith, length-take-le (trim_end d) d (trim_end_le d (trim_end d) refl), trim_end_le d (trim_end d) refl, length-drop (trim_start s) s)

  pub trimmed_utf8 : utf8_of s ≡ Ok tt → utf8_of (trim_of s) ≡ Ok tt
  trimmed_utf8 u = trim_utf8 s u

  -- a link starts inside
  pub link_near : (v : Paint) → parse_trimmed (trim_of s) ≡ Ok v → (parse_trimmed (trim_of s) ≡ Ok v) × (link_start v ≤ length s)
  unfolding parse_trimmed
  link_near v q = (q, go (parse_paint (trim_of s)) refl q)
    where
      go : (r : Result Paint PaintFault) → parse_paint (trim_of s) ≡ r → told_in (trim_of s) r ≡ Ok v → link_start v ≤ length s
      go (Ok w) e q = let z : w ≡ v = cc in omega (arith, (paint_known (trim_of s) v (rw z at e)).link, trim_short)
      go (Err f) e q = cc

-- the text that a fault's places count in
pub base_holds : (t : List ℕ) (e : PaintFault) → parse_paint t ≡ Err e → (parse_paint t ≡ Err e) × (e.base.0 ≤ length t)
base_holds t e q = (q, (fault_known t e q).inside)

pub base_utf8 : (t : List ℕ) (e : PaintFault) → parse_paint t ≡ Err e → utf8_of t ≡ Ok tt → (parse_paint t ≡ Err e) × (utf8_of (drop e.base.0 t) ≡ Ok tt)
base_utf8 t e q u = (q, utf8_drop t e.base.0 u ((fault_known t e q).character u))
