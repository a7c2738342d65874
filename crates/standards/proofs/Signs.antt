-- Rounding keeps a number's sign, and so does a hundredth of it.
use Prim.Native.Nat.{ℕ, zero, suc, ◌+◌, ◌*◌, ◌^◌}
use mathlib.Core.Bool.{Bool, true, false}
use mathlib.Core.Path.{◌≡◌, refl}
use lib.Dec.{ltb}
use lib.Ieee.{Float, nan, inf, fin, Format, binary64, prec, emax, low, round, units, odd, div, of_bits}
use Rattle.text_bytes.proofs.Ranges.{either}
use Rattle.floats.specs.Floats.{sign_of}
use Rattle.numbers.specs.Powers.{hundred}
use Rattle.standards.specs.Ieee754.{Fraction, double}

odd_sign : (d : ℕ) (s : Bool) (q k l : ℕ) → sign_of (odd d s q k l) ≡ s
unfolding odd
odd_sign d s zero k l = refl
odd_sign d s (suc q) k l = refl

units_sign : (f : Format) (s : Bool) (q k : ℕ) → sign_of (units f s q k) ≡ s
unfolding units
units_sign f s q k = either (ltb (q * 2 ^ k) (2 ^ (low f + suc (emax f)))) (λ e. simp e (odd_sign (suc (prec f)) s q k (low f))) (λ e. simp e)

pub round_sign : (f : Format) (s : Bool) (n d : ℕ) → sign_of (round f s n d) ≡ s
unfolding round
round_sign f s n d = units_sign f s _ _

pub double_sign : (q : Fraction) → sign_of (double q) ≡ q.minus
unfolding double
double_sign q = round_sign binary64 q.minus q.over q.under

pub hundredth_sign : (x : Float) → sign_of (div binary64 x hundred) ≡ sign_of x
unfolding div of_bits
hundredth_sign nan = refl
hundredth_sign (inf true) = refl
hundredth_sign (inf false) = refl
hundredth_sign (fin true m k) = simp round_sign
hundredth_sign (fin false m k) = simp round_sign
