-- The operations that the readers' definitions name, against IEEE 754.
use Rattle.std.specs.Prelude.{ℕ, ◌<◌, Bool, not, ◌≡◌, T, ℤ, Float}
use Rattle.std.specs.Float.{fin, Format, binary32, binary64}
use Rattle.std.specs.Float.Ieee.{round, add, sub, mul, div, rem, neg, lt, le, eq, of_int, to_bits, fits, is_nan}
use Rattle.floats.specs.Floats.{narrowed, sign_of}
use Rattle.numbers.specs.Digits.{cap}
use Rattle.numbers.specs.Number.{value_of}
use Rattle.standards.specs.Ieee754.{Fraction, parameters, RoundsTo, Exactly, exact, negated, sum, difference, product, quotient, leftover, integral, decimal, LessThan, EqualTo, AtMost, Tells, reversed, Minus}

pub record Arithmetic : Type 0 where
  -- section 4.3.1. The logic's rounding is roundTiesToEven, in binary32 and binary64, and only one value is so
  pub rounds : (f : Format) (q : Fraction) → 0 < q.under → RoundsTo (parameters f) q (round f q.minus q.over q.under)
  pub once : (f : Format) (q : Fraction) → 0 < q.under → (v : Float) → T (fits f v) → RoundsTo (parameters f) q v → v ≡ round f q.minus q.over q.under
  -- section 5.4.1. Each operation is one rounding of the exact result of its operands; a remainder is exact
  pub adds : (f : Format) (s : Bool) (m : ℕ) (e : ℤ) (t : Bool) (n : ℕ) (d : ℤ) → RoundsTo (parameters f) (sum (exact s m e) (exact t n d)) (add f (fin s m e) (fin t n d))
  pub subtracts : (f : Format) (s : Bool) (m : ℕ) (e : ℤ) (t : Bool) (n : ℕ) (d : ℤ) → RoundsTo (parameters f) (difference (exact s m e) (exact t n d)) (sub f (fin s m e) (fin t n d))
  pub multiplies : (f : Format) (s : Bool) (m : ℕ) (e : ℤ) (t : Bool) (n : ℕ) (d : ℤ) → RoundsTo (parameters f) (product (exact s m e) (exact t n d)) (mul f (fin s m e) (fin t n d))
  pub divides : (f : Format) (s : Bool) (m : ℕ) (e : ℤ) (t : Bool) (n : ℕ) (d : ℤ) → 0 < n → RoundsTo (parameters f) (quotient (exact s m e) (exact t n d)) (div f (fin s m e) (fin t n d))
  pub leaves : (f : Format) (s : Bool) (m : ℕ) (e : ℤ) (t : Bool) (n : ℕ) (d : ℤ) → 0 < n → T (fits f (fin s m e)) → T (fits f (fin t n d))
      → Exactly (rem f (fin s m e) (fin t n d)) (leftover (exact s m e) (exact t n d))
  -- section 5.4.2. The conversion to single is the nearest single
  pub narrows : (s : Bool) (m : ℕ) (e : ℤ) → RoundsTo (parameters binary32) (exact s m e) (narrowed (fin s m e))
  -- sections 5.6.1 and 5.11. `<`, `<=` and `==` compare the exact numbers; a NaN compares with nothing
  pub less : (x y : Float) → Tells (lt x y) (LessThan x y)
  pub at_most : (x y : Float) → Tells (le x y) (AtMost x y)
  pub equal : (x y : Float) → Tells (eq x y) (EqualTo x y)
  -- sections 5.5.1 and 5.7.2. Negation reverses the sign bit, zero's too, and a sign is minus where it is set
  pub negates : (f : Format) (x : Float) → T (fits f x) → T (not (is_nan x)) → to_bits f (neg x) ≡ reversed f (to_bits f x)
  pub negative : (x : Float) (q : Fraction) → Exactly x q → Exactly (neg x) (negated q)
  pub signs : (f : Format) (x : Float) → T (fits f x) → T (not (is_nan x)) → Tells (sign_of x) (Minus f (to_bits f x))
  -- sections 5.4.1 and 5.12.2. An integer, and a decimal of the domain, is the nearest
  pub integers : (f : Format) (z : ℤ) → RoundsTo (parameters f) (integral z) (of_int f z)
  pub decimals : (minus : Bool) (m : ℕ) (falls : Bool) (by : ℕ) → m < cap → by < 23 → RoundsTo (parameters binary64) (decimal minus m falls by) (value_of minus m falls by)
