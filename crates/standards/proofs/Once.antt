-- Degrees and whole percentages are what they are exactly, rounded once.
use Prim.Native.Nat.{ℕ, ◌*◌, ◌^◌, ◌≤◌, ◌<◌}
use mathlib.Core.Bool.{Bool, true, false, not, beq}
use mathlib.Core.Path.{◌≡◌, refl, ◌∙◌}
use native.Mathlib.Nat.{mul-one, mul-pos, mul_assoc, mul_comm, mul_left_comm}
use native.Mathlib.Omega.{arith}
use lib.Dec.{lit<, lit≤}
use lib.IntN.{ℤ, pos}
use lib.Ieee.{fin, binary64, round}
use lib.Ieee.Back.{round_whole}
use lib.Ieee.Exact.{HasValue}
use lib.Ieee.Scale.{round_same}
use Rattle.standards.specs.Ieee754.{Fraction, parameters, RoundsTo, exact, product, quotient, double}
use Rattle.standards.specs.CssValues3.{exactly, grad, rad, turn}
use Rattle.standards.specs.Svg2.{marked, in_degrees, ratio, turns_exactly, gradians_exactly, radian_below}
use Rattle.standards.specs.FilterEffects1.{Positive, share, percentage, hundred}
use Rattle.standards.proofs.Rounding.{double_rounds, mul_rounds}
use Rattle.standards.proofs.Doubles.{under_pos}
use Rattle.standards.proofs.Operands.{mul_values, div_values}

module _ (s : Bool) (m : ℕ) (e : ℤ) where
  -- THEOREM. A turn is 360 degrees: those of n turns are the exact product, rounded once.
  pub turns_round : RoundsTo (parameters binary64) (turns_exactly (exact s m e)) (in_degrees (marked turn) (fin s m e))
  unfolding in_degrees double round
  turns_round = mul_rounds binary64 s m e false 45 (pos 3)

  -- THEOREM. Those of n radians are the exact product of n and the double nearest to 180 / π, rounded once.
  pub radians_round : (t : Bool) (n : ℕ) (d : ℤ) → double radian_below ≡ fin t n d → RoundsTo (parameters binary64) (product (exact s m e) (exact t n d)) (in_degrees (marked rad) (fin s m e))
  unfolding in_degrees
  radians_round t n d h = rw h (mul_rounds binary64 s m e t n d)

-- a whole number n up to 2 ^ 53 is a double, however it is written
pub double_whole : (q : Fraction) (n : ℕ) → 0 < q.under → q.over ≡ n * q.under → double q ≡ round binary64 q.minus n 1
unfolding double
double_whole q n p e = round_same binary64 q.minus q.over q.under n 1 p (lit< tt) (mul-one q.over ∙ e)

whole_double : (n : ℕ) → n ≤ 2 ^ 53 → HasValue (double (ratio n 1)) false n 1
unfolding double
whole_double n h = round_whole binary64 false n h

unlike_plus : (s : Bool) → not (beq s false) ≡ s
unlike_plus true = refl
unlike_plus false = refl

-- THEOREM. 400 gradians are 360 degrees: those of a whole number n are the double nearest to n * 360 / 400, as long as n * 180 is exact.
pub gradians_round : (q : Fraction) (n : ℕ) → 0 < q.under → q.over ≡ n * q.under → n * 180 ≤ 2 ^ 53
    → RoundsTo (parameters binary64) (gradians_exactly q) (in_degrees (marked grad) (double q))
gradians_round q n p e h = rw same (double_rounds (gradians_exactly q) (mul-pos p (lit< tt)))
  where
    s : Bool
    s = q.minus

    part : n * 180 * 1 * (q.under * 400) ≡ q.over * 360 * 200
    part = rw e (simp (mul-one, mul_assoc, mul_comm, mul_left_comm) (omega arith))

    same : in_degrees (marked grad) (double q) ≡ double (gradians_exactly q)
    same =
        unfold in_degrees double in
        rw (
          double_whole q n p e,
          mul_values binary64 s n 1 false 180 1 (lit< tt) (lit< tt) (round binary64 s n 1) (double (ratio 180 1)) (round_whole binary64 s n (omega arith)) (whole_double 180 (lit≤ tt)),
          unlike_plus s,
          div_values binary64 s (n * 180) 1 false 200 1 (lit< tt) (lit< tt) (round binary64 s (n * 180) 1) (double (ratio 200 1)) (lit< tt) (round_whole binary64 s (n * 180) h) (whole_double 200 (lit≤ tt)),
          unlike_plus s,
        )
        (round_same binary64 s (n * 180 * 1) 200 (q.over * 360) (q.under * 400) (lit< tt) (mul-pos p (lit< tt)) part)

-- THEOREM. A whole number n of percent is the double nearest to n / 100.
pub share_rounds : (t : Positive) (n : ℕ) → (exactly t.of).over ≡ n * (exactly t.of).under → n ≤ 2 ^ 53
    → RoundsTo (parameters binary64) (quotient (exactly t.of) (ratio 100 1)) (share (percentage t))
share_rounds t n e h = rw same (double_rounds (quotient q (ratio 100 1)) above)
  where
    q : Fraction
    q = exactly t.of

    s : Bool
    s = q.minus

    above : 0 < 100 * q.under
    above = omega (arith, under_pos t.of)

    part : n * 1 * (100 * q.under) ≡ q.over * 1 * 100
    part = rw e (simp (mul-one, mul_assoc, mul_comm, mul_left_comm))

    same : share (percentage t) ≡ double (quotient q (ratio 100 1))
    same =
        unfold share hundred double in
        rw (
          double_whole q n (under_pos t.of) e,
          div_values binary64 s n 1 false 100 1 (lit< tt) (lit< tt) (round binary64 s n 1) (double (ratio 100 1)) (lit< tt) (round_whole binary64 s n h) (whole_double 100 (lit≤ tt)),
          unlike_plus s,
        )
        (round_same binary64 s (n * 1) 100 (q.over * 1) (100 * q.under) (lit< tt) above part)
