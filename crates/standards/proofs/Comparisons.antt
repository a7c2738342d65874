-- The other operations that the readers' definitions name are IEEE 754's: comparisons, negation, the sign, and the conversions of an integer and of a decimal.
use Prim.Native.Nat.{ℕ, ◌+◌, ◌*◌, ◌^◌, ◌<◌}
use mathlib.Core.Bool.{Bool, true, false, not, ◌&&◌, ◌||◌, true≢false}
use mathlib.Core.Logic.{◌⊎◌, inl, inr, ⊎_elim}
use mathlib.Core.Path.{◌≡◌, refl, sym, ap, ◌∙◌}
use native.Mathlib.Nat.{add-mod_left, mod-eq_of_lt}
use native.Mathlib.Omega.{arith}
use borrow.Author.Tests.{ltb-true, lt-ltb, eqb-true, eq-eqb, not-true}
use lib.Dec.{T, eqb, lit<}
use lib.IntN.{ℤ, pos, negsuc}
use lib.Ieee.{Float, nan, inf, fin, Format, binary32, binary64, up, down, top, below, level, lt, eq, le, neg, of_int, to_bits, fits, is_nan}
use lib.Ieee.Bits.{to_bits-lt}
use lib.Ieee.Exact.{HasValue}
use lib.Ieee.Fits.{neg-fits}
use Rattle.floats.specs.Floats.{sign_of}
use Rattle.numbers.specs.Digits.{cap}
use Rattle.numbers.specs.Number.{value_of}
use Rattle.standards.specs.Ieee754.{Fraction, parameters, RoundsTo, negated, integral, decimal, Less, Same, LessThan, EqualTo, AtMost, Tells, width, sign_bit, reversed, Minus}
use Rattle.standards.proofs.Rounding.{round_rounds}
use Rattle.standards.proofs.Doubles.{value_rounds}

and_true : (a b : Bool) → (a && b) ≡ true → (a ≡ true) × (b ≡ true)
and_true true b h = (refl, h)
and_true false b h = absurd (true≢false (sym h))

-- over one denominator
below_tells : (s : Bool) (a : ℕ) (t : Bool) (b k l : ℕ)
    → Tells (below s (a * l) t (b * k)) (Less (record { minus = s; over = a; under = k }) (record { minus = t; over = b; under = l }))
below_tells false a false b k l = (λ h. omega (arith, ltb-true (a * l) (b * k) h), λ h. lt-ltb (a * l) (b * k) (omega arith))
below_tells false a true b k l = (λ h. absurd (true≢false (sym h)), λ h. absurd (omega arith))
below_tells true a false b k l = (λ h. omega (arith, ltb-true 0 (a * l + b * k) h), λ h. lt-ltb 0 (a * l + b * k) (omega arith))
below_tells true a true b k l = (λ h. omega (arith, ltb-true (b * k) (a * l) h), λ h. lt-ltb (b * k) (a * l) (omega arith))

-- THEOREM. `lt`, which `<` is in the definitions of floats (clamped) and color (raised, sector), is "less than".
pub lt_tells : (x y : Float) → Tells (lt x y) (LessThan x y)
unfolding lt
lt_tells nan y = (λ h. absurd (true≢false (sym h)), λ h. absurd h)
lt_tells (inf true) nan = (λ h. absurd (true≢false (sym h)), λ h. absurd h)
lt_tells (inf false) nan = (λ h. absurd (true≢false (sym h)), λ h. absurd h)
lt_tells (inf true) (inf t) = (λ h. (refl, not-true t h), λ h. rw h.1)
lt_tells (inf false) (inf t) = (λ h. absurd (true≢false (sym h)), λ h. h.0)
lt_tells (inf s) (fin t n d) = (λ h. h, λ h. h)
lt_tells (fin s m e) nan = (λ h. absurd (true≢false (sym h)), λ h. absurd h)
lt_tells (fin s m e) (inf true) = (λ h. sym h, λ h. sym h)
lt_tells (fin s m e) (inf false) = (λ h. refl, λ h. refl)
lt_tells (fin s m e) (fin t n d) = below_tells s (m * up e) t (n * up d) (down e) (down d)

-- ±a = ±b: the magnitudes are, and so are the signs, or both are zero
level_tells : (s : Bool) (a : ℕ) (t : Bool) (b k l : ℕ)
    → Tells (level s (a * l) t (b * k)) (Same (record { minus = s; over = a; under = k }) (record { minus = t; over = b; under = l }))
level_tells false a false b k l = (λ h. omega (arith, eqb-true (a * l) (b * k) (and_true (eqb (a * l) (b * k)) true h).0), λ h. simp (eq-eqb (a * l) (b * k) (omega arith)))
level_tells true a true b k l = (λ h. omega (arith, eqb-true (a * l) (b * k) (and_true (eqb (a * l) (b * k)) true h).0), λ h. simp (eq-eqb (a * l) (b * k) (omega arith)))
level_tells false a true b k l = (
  λ h. let g = and_true (eqb (a * l) (b * k)) (eqb (a * l) 0) h in omega (arith, eqb-true (a * l) (b * k) g.0, eqb-true (a * l) 0 g.1),
  λ h. simp (eq-eqb (a * l) (b * k) (omega arith), eq-eqb (a * l) 0 (omega arith)),
)
level_tells true a false b k l = (
  λ h. let g = and_true (eqb (a * l) (b * k)) (eqb (a * l) 0) h in omega (arith, eqb-true (a * l) (b * k) g.0, eqb-true (a * l) 0 g.1),
  λ h. simp (eq-eqb (a * l) (b * k) (omega arith), eq-eqb (a * l) 0 (omega arith)),
)

-- THEOREM. `eq`, which `==` is in those of filter_functions (an angle with no unit is zero), is "equal".
pub eq_tells : (x y : Float) → Tells (eq x y) (EqualTo x y)
unfolding eq
eq_tells nan y = (λ h. absurd (true≢false (sym h)), λ h. absurd h)
eq_tells (inf s) nan = (λ h. absurd (true≢false (sym h)), λ h. absurd h)
eq_tells (inf true) (inf true) = (λ h. refl, λ h. refl)
eq_tells (inf true) (inf false) = (λ h. sym h, λ h. sym h)
eq_tells (inf false) (inf true) = (λ h. h, λ h. h)
eq_tells (inf false) (inf false) = (λ h. refl, λ h. refl)
eq_tells (inf s) (fin t n d) = (λ h. absurd (true≢false (sym h)), λ h. absurd h)
eq_tells (fin s m e) nan = (λ h. absurd (true≢false (sym h)), λ h. absurd h)
eq_tells (fin s m e) (inf t) = (λ h. absurd (true≢false (sym h)), λ h. absurd h)
eq_tells (fin s m e) (fin t n d) = level_tells s (m * up e) t (n * up d) (down e) (down d)

or_tells : (a b : Bool) (P Q : Type 0) → Tells a P → Tells b Q → Tells (a || b) (P ⊎ Q)
or_tells true b P Q p q = (λ h. inl (p.0 refl), λ h. refl)
or_tells false b P Q p q = (λ h. inr (q.0 h), ⊎_elim (λ (x : P). absurd (true≢false (sym (p.1 x)))) (λ (y : Q). q.1 y))

-- THEOREM. `le`, which `<=` is in those of color (upper, lessened), is "less than or equal".
pub le_tells : (x y : Float) → Tells (le x y) (AtMost x y)
unfolding le
le_tells x y = or_tells (lt x y) (eq x y) (LessThan x y) (EqualTo x y) (lt_tells x y) (eq_tells x y)

-- THEOREM. `of_int`, by which numbers makes a double of the digits (magnitude), is convertFromInt.
pub int_rounds : (f : Format) (z : ℤ) → RoundsTo (parameters f) (integral z) (of_int f z)
unfolding of_int
int_rounds f (pos n) = round_rounds f (integral (pos n)) (lit< tt)
int_rounds f (negsuc n) = round_rounds f (integral (negsuc n)) (lit< tt)

-- THEOREM. `value_of`, by which numbers makes a double of digits and a scale, is the conversion from decimal character sequences, for M below 2 ^ 53 and 22 places either way.
pub decimal_rounds : (minus : Bool) (m : ℕ) (falls : Bool) (by : ℕ) → m < cap → by < 23 → RoundsTo (parameters binary64) (decimal minus m falls by) (value_of minus m falls by)
decimal_rounds minus m falls by h l = value_rounds minus m falls by h l

-- The bits of a value with a minus sign are the sign bit and those of the value without it
abbrev plus : Float → Float
plus nan = nan
plus (inf s) = inf false
plus (fin s m e) = fin false m e

abbrev minus : Float → Float
minus nan = nan
minus (inf s) = inf true
minus (fin s m e) = fin true m e

bits_minus : (f : Format) (x : Float) → T (not (is_nan x)) → to_bits f (minus x) ≡ top f + to_bits f (plus x)
unfolding to_bits is_nan
bits_minus f nan n = absurd n
bits_minus f (inf s) n = omega arith
bits_minus f (fin s m e) n = omega arith

minus_fits : (f : Format) (x : Float) → T (fits f x) → T (fits f (minus x))
unfolding neg
minus_fits f nan h = h
minus_fits f (inf true) h = h
minus_fits f (inf false) h = neg-fits f (inf false) h
minus_fits f (fin true m e) h = h
minus_fits f (fin false m e) h = neg-fits f (fin false m e) h

top_is : (f : Format) → top f ≡ sign_bit f
top_is binary32 = refl
top_is binary64 = refl

width_is : (f : Format) → 2 ^ width f ≡ 2 * sign_bit f
width_is binary32 = refl
width_is binary64 = refl

module _ (f : Format) (x : Float) (h : T (fits f x)) (n : T (not (is_nan x))) where
  abbrev rest : ℕ
  rest = to_bits f (plus x)

  minus_is : to_bits f (minus x) ≡ sign_bit f + rest
  minus_is = rw (bits_minus f x n, top_is f)

  rest_lt : rest < sign_bit f
  rest_lt = omega (arith, to_bits-lt f (minus x) (minus_fits f x h), bits_minus f x n, top_is f)

  plus_reverses : reversed f rest ≡ sign_bit f + rest
  plus_reverses =
      let e : rest + sign_bit f ≡ sign_bit f + rest = omega arith in
      rw (width_is f, e) (mod-eq_of_lt (omega (arith, rest_lt)))

  minus_reverses : reversed f (sign_bit f + rest) ≡ rest
  minus_reverses =
      let e : sign_bit f + rest + sign_bit f ≡ 2 * sign_bit f + rest = omega arith in
      rw (width_is f, e) (add-mod_left (2 * sign_bit f) rest ∙ mod-eq_of_lt (omega (arith, rest_lt)))

-- THEOREM. `neg`, by which numbers puts a minus sign before a number (value_of), is negate: it reverses the sign bit, zero's too.
pub neg_reverses : (f : Format) (x : Float) → T (fits f x) → T (not (is_nan x)) → to_bits f (neg x) ≡ reversed f (to_bits f x)
unfolding neg is_nan
neg_reverses f nan h n = absurd n
neg_reverses f (inf true) h n = rw (minus_is f (inf true) h n) (sym (minus_reverses f (inf true) h n))
neg_reverses f (inf false) h n = rw (minus_is f (inf false) h n) (sym (plus_reverses f (inf false) h n))
neg_reverses f (fin true m e) h n = rw (minus_is f (fin true m e) h n) (sym (minus_reverses f (fin true m e) h n))
neg_reverses f (fin false m e) h n = rw (minus_is f (fin false m e) h n) (sym (plus_reverses f (fin false m e) h n))

-- THEOREM. So what x is exactly, `neg` is with the other sign.
pub neg_value : (x : Float) (q : Fraction) → HasValue x q.minus q.over q.under → let r = negated q in HasValue (neg x) r.minus r.over r.under
unfolding neg
neg_value nan q h = absurd h
neg_value (inf s) q h = absurd h
neg_value (fin s m e) q h = (ap not h.0, h.1)

-- THEOREM. `sign_of`, by which filter_functions refuses negative amounts, is isSignMinus, of every number but a NaN; minus zero's is minus.
pub sign_tells : (f : Format) (x : Float) → T (fits f x) → T (not (is_nan x)) → Tells (sign_of x) (Minus f (to_bits f x))
unfolding is_nan
sign_tells f nan h n = absurd n
sign_tells f (inf true) h n = (λ e. omega (arith, minus_is f (inf true) h n), λ e. refl)
sign_tells f (inf false) h n = (λ e. absurd (true≢false (sym e)), λ e. absurd (omega (arith, rest_lt f (inf false) h n)))
sign_tells f (fin true m k) h n = (λ e. omega (arith, minus_is f (fin true m k) h n), λ e. refl)
sign_tells f (fin false m k) h n = (λ e. absurd (true≢false (sym e)), λ e. absurd (omega (arith, rest_lt f (fin false m k) h n)))
