-- A refused paint's stretch starts near, and 5 tells nothing else but an empty one.
use Prim.Native.Nat.{ℕ, ◌≤◌, ◌<◌}
use mathlib.Core.List.{List}
use mathlib.Core.Path.{◌≡◌, refl}
use native.Mathlib.Omega.{arith}
use lib.ListN.{length, drop, length-drop}
use Rattle.std.specs.Prelude.{Result, Ok, Err}
use Rattle.text_bytes.specs.Flow.{◌>>=◌}
use Rattle.utf8.specs.Blanks.{trim_start, trim_of}
use Rattle.stream.specs.Refusals.{reason_number, empty_refusal, refusal_of, admit_text}
use Rattle.stream.specs.declared.Fault.{Fault}
use Rattle.stream.specs.declared.Reason.TheVariants as R
use Rattle.stream.specs.declared.Refusal.{Refusal}
use Rattle.stream.specs.declared.Trouble.TheVariants as T
use Rattle.stream.proofs.Edges.{admitted_small}
use Rattle.stream.proofs.Stretches.{LiesAt}
use Rattle.paint.specs.Answers.{told_in, parse_trimmed, from_str}
use Rattle.paint.specs.Moves.{move_paint}
use Rattle.paint.specs.Reading.{parse_paint}
use Rattle.paint.specs.declared.Paint.{Paint}
use Rattle.paint.specs.declared.PaintFault.{PaintFault}
use Rattle.paint.proofs.Trims.{trim_short}
use Rattle.paint.proofs.Values.{fault_known}
use Rattle.packed.specs.Numbers.{places}
use Rattle.fast_color.proofs.Empty.{admit_low, admit_near, fault_empty}
use Rattle.fast_paint.specs.Empty.{FiveEmpty}

-- a paint's refusal: a text that may not be read, or a fault that lies in a part of it
module _ (s : List ℕ) (e : Refusal) (q : from_str s ≡ Err e) where
  refused_by : (P : Refusal → Type 0) → ((g : Refusal) → admit_text s ≡ Err g → P g)
      → ((f : Fault) (t : List ℕ) → length t ≤ 4096 → LiesAt (length t) f → P (refusal_of t f)) → P e
  unfolding from_str parse_trimmed
  refused_by P a b = go (admit_text s) refl (parse_paint (trim_of s)) refl q
    where
      same : {x : Refusal} → ◌≡◌ {A = Result Paint Refusal} (Err x) (Err e) → x ≡ e
      same h = cc

      go : (x : Result (Unit {0}) Refusal) → admit_text s ≡ x → (y : Result Paint PaintFault) → parse_paint (trim_of s) ≡ y
          → (x >>= (λ _. told_in (trim_of s) y >>= (λ v. Ok (move_paint (trim_start s) v)))) ≡ Err e → P e
      go (Ok u) k (Ok v) l h = cc
      go (Ok u) k (Err f) l h =
          let d = f.base.0 in
          let t = drop d (trim_of s) in
          let z = same h in
          rw z at (b f.fault t (omega (arith, length-drop d (trim_of s), trim_short s, admitted_small s k)) (fault_known (trim_of s) f l).lies)
      go (Err g) k y l h = let z = same h in rw z at (a g k)

  pub paint_near : e.from.0 < places
  unfolding refusal_of
  paint_near = refused_by (λ x. x.from.0 < places) (λ g h. admit_near s g h) (λ f t m l. omega (arith, l.lies.ordered, l.lies.inside))

  pub paint_empty : reason_number e.reason ≡ 5 → e ≡ empty_refusal (R.Unread T.InvalidValue) e.from.0
  unfolding refusal_of reason_number
  paint_empty k =
      refused_by (λ x. reason_number x.reason ≡ 5 → x ≡ empty_refusal (R.Unread T.InvalidValue) x.from.0)
      (λ g z m. absurd (omega (arith, admit_low s g z)))
      (λ f t n l m. fault_empty t f l m) k

-- THEOREM
pub five_empty : FiveEmpty
five_empty = record { five = λ s e q k. paint_empty s e q k; near = λ s e q. paint_near s e q }
