-- Any number is at most 2 ^ 127 in size.
use Prim.Native.Nat.{ℕ, ◌*◌, ◌^◌, ◌≤◌, ◌<◌}
use mathlib.Core.Bool.{Bool, true, false, cond}
use mathlib.Core.Path.{sym, ◌∙◌}
use native.Mathlib.Nat.{le_trans, le_of_eq, le_of_lt, mul-one, one-mul, mul-le-mul_right, pow-le-pow_right, one-le-pow}
use native.Mathlib.Omega.{arith}
use lib.Dec.{lit≤, lit<}
use lib.IntN.{pos}
use lib.Ieee.{Float, nan, inf, fin, binary64, neg, of_int, up, down}
use lib.Ieee.Exact.{HasValue}
use Rattle.floats.proofs.Bounds.{Within, AtLeastOne, wider, neg_within, int_within, mul_within, div_within}
use Rattle.numbers.specs.Digits.{cap}
use Rattle.numbers.specs.Number.{magnitude, signed, value_of}
use Rattle.numbers.specs.Powers.{power_of}
use Rattle.numbers.proofs.Exact.{power_exact}

whole_least : (x : Float) (n : ℕ) → HasValue x false n 1 → 0 < n → AtLeastOne x
whole_least nan n v p = elim v [ ]
whole_least (inf _) n v p = elim v [ ]
whole_least (fin s m e) n v p =
    le_trans (le_of_eq (sym (one-mul (down e)))) (le_trans (mul-le-mul_right (down e) p) (le_of_eq (sym v.1 ∙ mul-one (m * up e))))

whole_within : (x : Float) (n k : ℕ) → HasValue x false n 1 → n ≤ 2 ^ k → Within k x
whole_within nan n k v h = elim v [ ]
whole_within (inf _) n k v h = elim v [ ]
whole_within (fin s m e) n k v h = le_trans (le_of_eq (sym (mul-one (m * up e)) ∙ v.1)) (mul-le-mul_right (down e) h)

power_least : (k : ℕ) → k < 23 → AtLeastOne (power_of k)
power_least k h = whole_least (power_of k) (10 ^ k) (power_exact k h) (one-le-pow k 10 (lit< tt))

power_within : (k : ℕ) → k < 23 → Within 74 (power_of k)
power_within k h =
    whole_within (power_of k) (10 ^ k) 74 (power_exact k h) (le_trans (pow-le-pow_right {n = 10} (lit≤ tt) {i = k} {j = 22} (omega arith)) (lit≤ tt))

pub value_within : (minus : Bool) (m : ℕ) (down : Bool) (by : ℕ) → m < cap → by < 23 → Within 127 (value_of minus m down by)
unfolding value_of signed
value_within minus m down by h l = sign minus (magnitude m down by) (size down)
  where
    int : Within 53 (of_int binary64 (pos m))
    int = int_within binary64 m 53 (lit≤ tt) (le_of_lt h)

    size : (t : Bool) → Within 127 (magnitude m t by)
    size true = wider 53 127 (magnitude m true by) (lit≤ tt) (div_within binary64 53 (of_int binary64 (pos m)) (power_of by) (lit≤ tt) int (power_least by l))
    size false = mul_within binary64 53 74 (of_int binary64 (pos m)) (power_of by) (lit≤ tt) int (power_within by l)

    sign : (t : Bool) (y : Float) → Within 127 y → Within 127 (cond t (neg y) y)
    sign true y w = neg_within 127 y w
    sign false y w = w
