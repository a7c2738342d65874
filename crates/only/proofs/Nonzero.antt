-- A number of the domain whose digits are not all 0 is not rounded to zero.
use Prim.Native.Nat.{ℕ, suc, ◌+◌, ◌-◌, ◌*◌, ◌/◌, ◌^◌, ◌≤◌, ◌<◌, compare, ◌%◌}
use mathlib.Core.Bool.{Bool, true, false, cond}
use mathlib.Core.Logic.{⊎_elim}
use mathlib.Core.Path.{◌≡◌, sym}
use native.Mathlib.Nat.{le_trans, le_of_eq, one-mul, mul-one, mul-pos, mul-le-mul_left, mul-le-mul_right, pow-le-pow_right, le-div_iff_mul-le, div-div-eq-div-mul}
use native.Mathlib.Omega.{arith}
use borrow.Author.Tests.{ne_eqb}
use lib.Pow.{pow-add, pow_pos}
use lib.Dec.{eqb, ltb, lit<, lit≤}
use lib.Ieee.{Float, nan, inf, fin, Format, binary64, prec, emax, low, up, down, size, round, units, odd, eq, of_bits}
use lib.Ieee.Digits.{size_reaches}
use lib.Ieee.Exact.{HasValue, odd_sign}
use lib.Ieee.Fits.{two, down_pos, round_is}
use lib.Ieee.Nearest.{nearest-ge}
use lib.Ieee.Positive.{first_pos}
use Rattle.text_bytes.proofs.Ranges.{either, le_or_lt}
use Rattle.floats.specs.Floats.{d0}
use Rattle.standards.specs.Ieee754.{double}
use Rattle.standards.specs.CssValues3.{Number, joined, exactly, power, falls, fraction_digits}
use Rattle.standards.specs.Domain.{Near, InDomain}
use Rattle.standards.proofs.Doubles.{under_pos}

-- what has a value that is not 0 is not zero
value_nonzero : (x : Float) (s : Bool) (a c : ℕ) → HasValue x s a c → 0 < a → eq x d0 ≡ false
unfolding eq of_bits
value_nonzero nan s a c h n = absurd h
value_nonzero (inf t) s a c h n = absurd h
value_nonzero (fin t m e) s a c h n =
    let p : 0 < a * down e = mul-pos n (down_pos e) in
    let q : 0 < m * up e * c = rw (← h.1) at p in
    let r : 0 < m * up e = first_pos (m * up e) c q in
    let z : eqb (m * up e * 1) (0 * down e) ≡ false = ne_eqb (m * up e * 1) (0 * down e) (λ k. omega arith) in
    simp z

units_nonzero : (f : Format) (s : Bool) (q k : ℕ) → 0 < q → eq (units f s q k) d0 ≡ false
unfolding units eq of_bits
units_nonzero f s q k h =
    either (ltb (q * 2 ^ k) (2 ^ (low f + suc (emax f))))
    (λ e. simp e (value_nonzero (odd (suc (prec f)) s q k (low f)) s (q * 2 ^ k) (2 ^ low f) (odd_sign (suc (prec f)) s q k (low f)) (mul-pos h (pow_pos k))))
    (λ e. simp e)

-- as many leading digits as are dropped leave one at least
kept : (w p : ℕ) → 0 < w → 0 < p → 2 ^ (size w - p) ≤ w
kept w p h l =
    ⊎_elim (λ (e : size w ≤ p). let z : size w - p ≡ 0 = omega arith in rw z h)
    (λ (e : p < size w). size_reaches w (size w - p) (omega arith))
    (le_or_lt (size w) p)

-- nor is a fraction rounded to zero that is at least the format's smallest value
round_nonzero : (f : Format) (s : Bool) (num den : ℕ) → 0 < den → den ≤ num * 2 ^ low f → eq (round f s num den) d0 ≡ false
round_nonzero f s num den d h =
    let n = num * 2 ^ low f in
    let w = n / den in
    let k = size w - prec f in
    let a : 1 ≤ w = (le-div_iff_mul-le d).1 (omega arith) in
    let b : 1 ≤ w / 2 ^ k = (le-div_iff_mul-le (pow_pos k)).1 (omega (arith, kept w (prec f) a (le_trans (lit≤ tt) (two f)))) in
    let c : 1 ≤ n / (den * 2 ^ k) = rw (div-div-eq-div-mul n den (2 ^ k)) at b in
    rw (round_is f s num den) (units_nonzero f s _ k (le_trans c (nearest-ge (n / (den * 2 ^ k)) (compare (n % (den * 2 ^ k) * 2) (den * 2 ^ k)))))

-- a number of the domain is at least 10 to the -22
at_least : (b : Bool) (m e f : ℕ) → 0 < m → Near b e f → 10 ^ f * cond b (10 ^ e) 1 ≤ m * cond b 1 (10 ^ e) * 10 ^ 22
at_least true m e f h g =
    let n : f + e ≤ 22 = omega (arith, g) in
    let a : 10 ^ f * 10 ^ e ≤ 10 ^ 22 = le_trans (le_of_eq (sym (pow-add 10 f e))) (pow-le-pow_right (lit< tt) n) in
    let k : 1 ≤ m * 1 = omega arith in
    let c : 1 * 10 ^ 22 ≤ m * 1 * 10 ^ 22 = mul-le-mul_right (10 ^ 22) k in
    le_trans a (le_trans (le_of_eq (sym (one-mul (10 ^ 22)))) c)
at_least false m e f h g =
    let a : 10 ^ f ≤ 10 ^ e * 10 ^ 22 = le_trans (pow-le-pow_right (lit< tt) g.1) (le_of_eq (pow-add 10 e 22)) in
    let c : 1 * 10 ^ e ≤ m * 10 ^ e = mul-le-mul_right (10 ^ e) h in
    le_trans (le_of_eq (mul-one (10 ^ f))) (le_trans a (mul-le-mul_right (10 ^ 22) (le_trans (le_of_eq (sym (one-mul (10 ^ e)))) c)))

pub not_zero : (t : Number) → InDomain t → (joined t.digits_of ≡ 0 → ⊥) → eq (double (exactly t)) d0 ≡ false
unfolding double exactly
not_zero t d z =
    let m = joined t.digits_of in
    let h : 0 < m = ⊎_elim (λ (e : m ≤ 0). absurd (z (omega arith))) (λ (e : 0 < m). e) (le_or_lt m 0) in
    round_nonzero binary64 _ (exactly t).over (exactly t).under (under_pos t)
    (le_trans (at_least (falls t.exponent_part) m (power t.exponent_part) (fraction_digits t.digits_of) h d.near) (mul-le-mul_left (exactly t).over (lit≤ tt)))
