-- Each entry of the table of powers is exactly the power, by one test that is computed from its bits.
use Prim.Native.Nat.{ℕ, ◌*◌, ◌^◌, ◌<◌}
use mathlib.Core.Bool.{Bool, true, false, not, ◌&&◌}
use mathlib.Core.Path.{refl, ◌∙◌}
use native.Mathlib.Nat.{mul-one}
use lib.Dec.{T, eqb, eqb→eq}
use lib.Ieee.{Float, nan, inf, fin, of_bits, up, down}
use lib.Ieee.Exact.{HasValue}
use Rattle.floats.proofs.Channels.{all, each}
use Rattle.numbers.specs.Powers.{power_of, power_bits}

-- x is the whole number n, with nothing lost
is_exactly : Float → ℕ → Bool
is_exactly nan n = false
is_exactly (inf s) n = false
is_exactly (fin s m e) n = not s && eqb (m * up e) (n * down e)

all_exact : T (all (λ k. is_exactly (power_of k) (10 ^ k)) 23)
unfolding power_of power_bits is_exactly of_bits
all_exact = tt

pub power_exact : (k : ℕ) → k < 23 → HasValue (power_of k) false (10 ^ k) 1
unfolding is_exactly
power_exact k h = go (power_of k) (each (λ j. is_exactly (power_of j) (10 ^ j)) 23 all_exact k h)
  where
    go : (x : Float) → T (is_exactly x (10 ^ k)) → HasValue x false (10 ^ k) 1
    go nan t = absurd t
    go (inf s) t = absurd t
    go (fin true m e) t = absurd t
    go (fin false m e) t = (refl, mul-one (m * up e) ∙ eqb→eq (m * up e) (10 ^ k * down e) t)
