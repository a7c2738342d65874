-- What a text says for itself, step by step: it is admitted and trimmed once.
use Prim.Native.Nat.{ℕ}
use mathlib.Core.Bool.{true, false, cond}
use mathlib.Core.List.{List}
use mathlib.Core.Path.{◌≡◌, refl}
use borrow.Author.Tests.{ne_eqb}
use lib.ListN.{length, drop}
use lib.Seq.{length-take-le}
use Rattle.std.specs.Prelude.{Ok, Err, Some, None}
use Rattle.utf8.specs.Blanks.{trim_start, trim_end, trim_part, trim_of}
use Rattle.utf8.proofs.Trimming.{trim_end_le}
use Rattle.stream.specs.Refusals.{admit_text}
use Rattle.stream.specs.declared.Refusal.{Refusal}
use Rattle.paint.specs.Answers.{parse_trimmed, from_str}
use Rattle.paint.specs.Moves.{move_paint}
use Rattle.paint.specs.declared.Paint.{Paint}
use Rattle.paint.specs.declared.Paint.TheVariants as P
use Rattle.inherit.specs.Rule.{is_inherit, is_empty, says}

-- trimming moves no word
moved_inherit : (n : ℕ) (v : Paint) → is_inherit (move_paint n v) ≡ is_inherit v
unfolding is_inherit move_paint
moved_inherit n P.Inherit = refl
moved_inherit n P.None = refl
moved_inherit n P.CurrentColor = refl
moved_inherit n P.ContextFill = refl
moved_inherit n P.ContextStroke = refl
moved_inherit n (P.Color c) = refl
moved_inherit n (P.FuncIRI l f) = refl

module _ (s : List ℕ) where
  -- how many bytes trimming leaves
  left : length (trim_of s) ≡ (trim_part s).len
  unfolding trim_of trim_part
  left = let d = drop (trim_start s) s in length-take-le (trim_end d) d (trim_end_le d (trim_end d) refl)

  pub says_refused : (e : Refusal) → admit_text s ≡ Err e → says s ≡ Err e
  unfolding says
  says_refused e a = simp a

  module _ (a : admit_text s ≡ Ok tt) where
    pub says_empty : (trim_part s).len ≡ 0 → says s ≡ Ok None
    unfolding says is_empty
    says_empty h = simp (a, left, h)

    module _ (n : (trim_part s).len ≡ 0 → ⊥) where
      full : is_empty s ≡ false
      unfolding is_empty
      full = simp left (ne_eqb (trim_part s).len 0 n)

      pub says_unread : (e : Refusal) → parse_trimmed (trim_of s) ≡ Err e → says s ≡ Err e
      unfolding says from_str
      says_unread e q = simp (a, full, q)

      says_paint : (v : Paint) → parse_trimmed (trim_of s) ≡ Ok v → says s ≡ Ok (cond (is_inherit v) None (Some (trim_part s)))
      unfolding says from_str
      says_paint v q = simp (a, full, q, moved_inherit)

      pub says_inherit : (v : Paint) → parse_trimmed (trim_of s) ≡ Ok v → is_inherit v ≡ true → (parse_trimmed (trim_of s) ≡ Ok v) × (says s ≡ Ok None)
      says_inherit v q i = (q, rw i at (says_paint v q))

      pub says_part : (v : Paint) → parse_trimmed (trim_of s) ≡ Ok v → is_inherit v ≡ false → (parse_trimmed (trim_of s) ≡ Ok v) × (says s ≡ Ok (Some (trim_part s)))
      says_part v q i = (q, rw i at (says_paint v q))
