-- Where a refusal's stretch lies: in the text at hand.
use Prim.Native.Nat.{ℕ}
use mathlib.Core.List.{List}
use mathlib.Core.Path.{◌≡◌, refl}
use lib.ListN.{length, drop}
use Rattle.std.specs.Prelude.{Result, Ok, Err}
use Rattle.text_bytes.specs.Flow.{◌>>=◌}
use Rattle.utf8.specs.Blanks.{trim_start, trim_of}
use Rattle.stream.specs.Refusals.{Inside, admit_text}
use Rattle.stream.specs.declared.Refusal.{Refusal}
use Rattle.stream.proofs.Binds.{at_err}
use Rattle.stream.proofs.Edges.{Admitted, admit_holds, refusal_inside}
use Rattle.paint.specs.Moves.{move_paint}
use Rattle.paint.specs.Reading.{parse_paint}
use Rattle.paint.specs.Answers.{told_in, hand, parse_trimmed, from_str, at_hand}
use Rattle.paint.specs.declared.Paint.{Paint}
use Rattle.paint.specs.declared.PaintFault.{PaintFault}
use Rattle.paint.proofs.Values.{fault_known}

-- THEOREM. A refusal's stretch starts and ends in the text at hand, and not before it starts
pub stretch_inside : (s : List ℕ) (e : Refusal) → from_str s ≡ Err e → Inside (length (at_hand s)) e
unfolding from_str parse_trimmed at_hand
stretch_inside s e = go (admit_text s) refl (parse_paint (trim_of s)) refl
  where
    told : {d e : Refusal} → ◌≡◌ {A = Result Paint Refusal} (Err d) (Err e) → d ≡ e
    told h = cc

    go : (x : Result (Unit {0}) Refusal) → admit_text s ≡ x → (y : Result Paint PaintFault) → parse_paint (trim_of s) ≡ y
        → (x >>= (λ _. told_in (trim_of s) y >>= (λ v. Ok (move_paint (trim_start s) v)))) ≡ Err e → Inside (length (hand s (trim_of s) x y)) e
    go (Err f) a y p q = at_err (λ _. Admitted s) (Inside (length s)) (admit_text s) e (admit_holds s) (rw (← told q) a)
    go (Ok u) a (Err f) p q = let z = refusal_inside (drop f.base.0 (trim_of s)) (fault_known (trim_of s) f p).lies.lies in rw (told q) at z
    go (Ok u) a (Ok v) p q = cc
