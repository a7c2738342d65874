-- IEEE 754-2008 and -2019: the numbers of a format, rounding to the nearest, and the operations. From memory of both editions; it knows nothing of the readers.
-- `Float` is the logic's: `fin s m e` is m * 2 ^ e, negative where s is true, and 2 ^ e is the fraction up e / down e. Everything here is over whole numbers.
use Rattle.std.specs.Prelude.{ℕ, suc, ◌+◌, ◌-◌, ◌*◌, ◌%◌, ◌^◌, ◌≤◌, ◌<◌, Bool, true, false, not, ◌&&◌, cond, ◌⊎◌, ◌≡◌, ltb, ℤ, pos, negsuc, Float}
use Rattle.std.specs.Bool.{beq}
use Rattle.std.specs.Float.{nan, inf, fin, Format, binary32, binary64}
use Rattle.std.specs.Float.Ieee.{up, down, round}

-- an exact number: over / under, with a sign
pub record Fraction : Type 0 where
  pub minus : Bool
  pub over : ℕ
  pub under : ℕ

-- section 3.3: "p = the number of digits in the significand (precision)", "emax = the maximum exponent e"; emin, the minimum, is "1 − emax for all formats"
pub record Parameters : Type 0 where
  pub p : ℕ
  pub emax : ℕ

-- table 3.5, the binary interchange formats
abbrev pub parameters : Format → Parameters
parameters binary32 = record { p = 24; emax = 127 }
parameters binary64 = record { p = 53; emax = 1023 }

-- Section 3.3: the finite numbers are "(−1)^s × b^q × c", with b = 2, where "q is any integer emin ≤ q + p − 1 ≤ emax" and "c is .. an integer with 0 ≤ c < b^p".
-- The least q is emin − p + 1, which is −low; k is q counted from there, q = k − low, and so it goes from 0 to 2 emax − 1. One number may have several c and k.
abbrev pub low : Parameters → ℕ
low f = f.emax + f.p - 2

pub record Finite (f : Parameters) : Type 0 where
  pub c : ℕ
  pub k : ℕ
  pub digits : c < 2 ^ f.p
  pub exponent : k < 2 * f.emax

-- its magnitude, counted in units of 2 ^ −low, the format's smallest
abbrev pub units : {f : Parameters} → Finite f → ℕ
units x = x.c * 2 ^ x.k

abbrev pub dist : ℕ → ℕ → ℕ
dist a b = (a - b) + (b - a)

-- how far the magnitude, units / 2 ^ low, is from over / under: over the common denominator
abbrev pub distance : {f : Parameters} → Fraction → Finite f → ℕ
distance {f} q x = dist (units x * q.under) (q.over * 2 ^ low f)

-- Section 4.3.1: "an infinitely precise result with magnitude at least b^emax (b − ½ b^(1−p)) shall round to ∞ with no change in sign".
-- With b = 2, both sides times 2^p: 2^emax (2^(p+1) − 1).
abbrev pub Overflows : Parameters → Fraction → Type 0
Overflows f q = 2 ^ f.emax * (2 ^ suc f.p - 1) * q.under ≤ q.over * 2 ^ f.p

-- Section 4.3.1, roundTiesToEven, where the result is finite: `fin s m e` is the number x of the format, which
pub record Delivered (f : Parameters) (q : Fraction) (s : Bool) (m : ℕ) (e : ℤ) : Type 0 where
  pub sign : s ≡ q.minus
  pub below : Overflows f q → ⊥
  pub x : Finite f
  pub value : m * up e * 2 ^ low f ≡ units x * down e
  -- is "the floating-point number nearest to the infinitely precise result" (a number of the other sign is farther off than 0, or is 0),
  pub nearest : (y : Finite f) → distance q x ≤ distance q y
  -- and if two are equally near, "the one with an even least significant digit": the lowest digit of c
  pub even : (y : Finite f) → distance q y ≡ distance q x → (units y ≡ units x → ⊥) → x.c % 2 ≡ 0
  -- in the one form that a number is encoded in, section 3.4: "the value of the significand m is maximized by decreasing e until either e = emin or m ≥ 1", m being c × 2^(1−p)
  pub encoded : (x.k ≡ 0) ⊎ (2 ^ (f.p - 1) ≤ x.c)

-- section 4.3.1, roundTiesToEven: what v is to be if q is the infinitely precise result
abbrev pub RoundsTo : Parameters → Fraction → Float → Type 0
RoundsTo f q nan = ⊥
RoundsTo f q (inf s) = (s ≡ q.minus) × Overflows f q
RoundsTo f q (fin s m e) = Delivered f q s m e

-- v is finite, and exactly q
abbrev pub Exactly : Float → Fraction → Type 0
Exactly nan q = ⊥
Exactly (inf s) q = ⊥
Exactly (fin s m e) q = (s ≡ q.minus) × (m * up e * q.under ≡ q.over * down e)

-- the double and the single that are so; `double_rounds` and `single_rounds` prove it
unfoldable pub double : Fraction → Float
double q = round binary64 q.minus q.over q.under

unfoldable pub single : Fraction → Float
single q = round binary32 q.minus q.over q.under

-- Section 5.1: an operation is to be "performed as if it first produced an intermediate result correct to infinite precision and with unbounded range, and then rounded that".
-- What a finite value is exactly, and the exact results:
abbrev pub exact : Bool → ℕ → ℤ → Fraction
exact s m e = record { minus = s; over = m * up e; under = down e }

abbrev pub negated : Fraction → Fraction
negated a = record { minus = not a.minus; over = a.over; under = a.under }

-- section 6.3: of a product or a quotient "the sign .. is the exclusive OR of the operands' signs"
abbrev pub product : Fraction → Fraction → Fraction
product a b = record { minus = not (beq a.minus b.minus); over = a.over * b.over; under = a.under * b.under }

abbrev pub quotient : Fraction → Fraction → Fraction
quotient a b = record { minus = not (beq a.minus b.minus); over = a.over * b.under; under = b.over * a.under }

-- ±a / c and ±b / c: of one sign, they are added; otherwise the smaller is taken from the larger, which gives the sign.
-- Section 6.3: "When the sum of two operands with opposite signs .. is exactly zero, the sign of that sum .. shall be +0"
abbrev pub added : Bool → ℕ → Bool → ℕ → ℕ → Fraction
added s a t b c =
    cond (beq s t) (record { minus = s; over = a + b; under = c })
    (cond (ltb a b) (record { minus = t; over = b - a; under = c }) (record { minus = s && ltb b a; over = a - b; under = c }))

abbrev pub sum : Fraction → Fraction → Fraction
sum a b = added a.minus (a.over * b.under) b.minus (b.over * a.under) (a.under * b.under)

-- section 5.4.1: x − y, as x + (−y)
abbrev pub difference : Fraction → Fraction → Fraction
difference a b = sum a (negated b)

-- Not of IEEE 754: C's fmod, Rust's `%`. "x − ny, for some integer n such that .. the result has the same sign as x and magnitude less than the magnitude of y"
abbrev pub leftover : Fraction → Fraction → Fraction
leftover a b = record { minus = a.minus; over = a.over * b.under % (b.over * a.under); under = a.under * b.under }

-- Section 5.4.1, convertFromInt: the integer, which is then rounded. "Integer zeros without signs are converted to +0"
abbrev pub integral : ℤ → Fraction
integral (pos n) = record { minus = false; over = n; under = 1 }
integral (negsuc n) = record { minus = true; over = suc n; under = 1 }

-- Section 5.12.2, from decimal character sequences: "correctly rounded". A sign, the digits M and an exponent stand for ±M × 10^q; here q is `by`, or −`by` where it falls
abbrev pub decimal : Bool → ℕ → Bool → ℕ → Fraction
decimal minus m falls by = record { minus = minus; over = cond falls m (m * 10 ^ by); under = cond falls (10 ^ by) 1 }

-- Section 5.11: "Four mutually exclusive relations are possible: less than, equal, greater than, and unordered"; "Comparisons shall ignore the sign of zero (so +0 = −0)".
-- Of finite operands they are those of the exact numbers: ±over / under is (gain − loss) / under, and both sides are brought to one denominator, with nothing taken away.
abbrev pub gain : Fraction → ℕ
gain a = cond a.minus 0 a.over

abbrev pub loss : Fraction → ℕ
loss a = cond a.minus a.over 0

abbrev pub Less : Fraction → Fraction → Type 0
Less a b = gain a * b.under + loss b * a.under < gain b * a.under + loss a * b.under

abbrev pub Same : Fraction → Fraction → Type 0
Same a b = gain a * b.under + loss b * a.under ≡ gain b * a.under + loss a * b.under

-- "Every NaN shall compare unordered with everything, including itself"; section 6.1: "−∞ < {every finite number} < +∞"
abbrev pub LessThan : Float → Float → Type 0
LessThan nan y = ⊥
LessThan (inf s) nan = ⊥
LessThan (inf s) (inf t) = (s ≡ true) × (t ≡ false)
LessThan (inf s) (fin t n d) = s ≡ true
LessThan (fin s m e) nan = ⊥
LessThan (fin s m e) (inf t) = t ≡ false
LessThan (fin s m e) (fin t n d) = Less (exact s m e) (exact t n d)

-- "Infinite operands of the same sign shall compare equal"
abbrev pub EqualTo : Float → Float → Type 0
EqualTo nan y = ⊥
EqualTo (inf s) nan = ⊥
EqualTo (inf s) (inf t) = s ≡ t
EqualTo (inf s) (fin t n d) = ⊥
EqualTo (fin s m e) nan = ⊥
EqualTo (fin s m e) (inf t) = ⊥
EqualTo (fin s m e) (fin t n d) = Same (exact s m e) (exact t n d)

-- section 5.6.1, compareQuietLessEqual and its signalling like: "less than or equal"
abbrev pub AtMost : Float → Float → Type 0
AtMost x y = LessThan x y ⊎ EqualTo x y

-- a predicate's answer: true exactly where the statement holds
abbrev pub Tells : Bool → Type 0 → Type 0
Tells b P = (b ≡ true → P) × (P → b ≡ true)

-- Section 3.4: an encoding is of k bits (table 3.5: "storage width in bits"), of which the first is the sign S
abbrev pub width : Format → ℕ
width binary32 = 32
width binary64 = 64

abbrev pub sign_bit : Format → ℕ
sign_bit f = 2 ^ (width f - 1)

-- section 5.5.1: negate(x) "copies a floating-point operand x to a destination in the same format, reversing the sign bit"
abbrev pub reversed : Format → ℕ → ℕ
reversed f b = (b + sign_bit f) % 2 ^ width f

-- section 5.7.2: isSignMinus(x) is true "if and only if x has negative sign", zeros included
abbrev pub Minus : Format → ℕ → Type 0
Minus f b = sign_bit f ≤ b
