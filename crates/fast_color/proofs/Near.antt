-- A refused text's stretch starts near enough to be told in a number.
use Prim.Native.Nat.{ℕ, ◌<◌}
use mathlib.Core.List.{List}
use mathlib.Core.Path.{◌≡◌}
use native.Mathlib.Omega.{arith}
use borrow.Author.Tests.{leb-true}
use lib.Dec.{leb}
use lib.ListN.{length}
use Rattle.std.specs.Prelude.{Result, Err}
use Rattle.text_bytes.proofs.Ranges.{either}
use Rattle.stream.specs.Refusals.{bare_refusal, admit_text}
use Rattle.stream.specs.declared.Reason.TheVariants as R
use Rattle.stream.specs.declared.Refusal.{Refusal}
use Rattle.color.proofs.Stretches.{stretch_inside}
use Rattle.color.specs.Answer.{from_str}
use Rattle.color.specs.declared.Color.{Color}
use Rattle.packed.specs.Numbers.{places}

pub color_near : (s : List ℕ) (e : Refusal) → from_str s ≡ Err e → (from_str s ≡ Err e) × (e.from.0 < places)
unfolding from_str admit_text
color_near s e q = (
  q,
  either (leb (length s) 4096)
      (λ t. let i = stretch_inside s e q in omega (arith, i.ordered, i.ends, leb-true (length s) 4096 t))
      (λ t. let z : bare_refusal R.TextTooLong ≡ e = inner (simp t at q) in rw (← z) (omega arith)),
)
  where
    inner : {a : Refusal} → ◌≡◌ {A = Result Color Refusal} (Err a) (Err e) → a ≡ e
    inner q = cc
