-- What was told is the answer of the call that answers by one number: no value's is 0.
use Prim.Native.Nat.{ℕ}
use mathlib.Core.Bool.{false}
use mathlib.Core.List.{List}
use mathlib.Core.Path.{◌≡◌, refl}
use native.Mathlib.Omega.{arith}
use borrow.Author.Tests.{ne_eqb}
use lib.Dec.{eqb}
use Rattle.std.specs.Prelude.{Result, Ok, Err}
use Rattle.stream.specs.declared.Refusal.{Refusal}
use Rattle.paint.specs.Answers.{from_str}
use Rattle.paint.specs.declared.Paint.{Paint}
use Rattle.packed.specs.Numbers.{paint_number, paint_answer_number}
use Rattle.packed.proofs.Digits.{paint_some}
use Rattle.fast_paint.specs.Told.{numbered}

pub some_number : (p : Paint) → eqb (paint_number p) 0 ≡ false
some_number p = ne_eqb (paint_number p) 0 (λ e. omega (arith, paint_some p))

-- the number of an answer
abbrev pub number_or : Result ℕ Refusal → ℕ
number_or (Ok v) = v
number_or (Err e) = 0

pub answer_is : (s : List ℕ) → paint_answer_number (from_str s) ≡ number_or (numbered (from_str s))
unfolding paint_answer_number numbered
answer_is s = go (from_str s)
  where
    go : (x : Result Paint Refusal) → paint_answer_number x ≡ number_or (numbered x)
    go (Ok p) = refl
    go (Err e) = refl

module _ (s : List ℕ) where
  pub paint_told : (v : ℕ) → numbered (from_str s) ≡ Ok v → (numbered (from_str s) ≡ Ok v) × ((paint_answer_number (from_str s) ≡ v) × (eqb v 0 ≡ false))
  unfolding numbered paint_answer_number
  paint_told v e = (e, go (from_str s) e)
    where
      go : (x : Result Paint Refusal) → numbered x ≡ Ok v → (paint_answer_number x ≡ v) × (eqb v 0 ≡ false)
      go (Ok p) k = let z : v ≡ paint_number p = cc in rw z (refl, some_number p)
      go (Err f) k = let z : ◌≡◌ {A = ℕ} 0 1 = cc in absurd (omega arith)

  pub paint_refused : (e : Refusal) → numbered (from_str s) ≡ Err e → (numbered (from_str s) ≡ Err e) × ((from_str s ≡ Err e) × (paint_answer_number (from_str s) ≡ 0))
  unfolding numbered paint_answer_number
  paint_refused e h = (h, go (from_str s) h)
    where
      go : (x : Result Paint Refusal) → numbered x ≡ Err e → (x ≡ Err e) × (paint_answer_number x ≡ 0)
      go (Ok q) k = let z : ◌≡◌ {A = ℕ} 0 1 = cc in absurd (omega arith)
      go (Err f) k = let z : f ≡ e = cc in rw z (refl, refl)
