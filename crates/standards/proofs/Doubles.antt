-- The numbers that are read are the nearest doubles, in the sense of IEEE 754.
use Prim.Native.Nat.{ℕ, ◌+◌, ◌*◌, ◌^◌, ◌≤◌, ◌<◌}
use mathlib.Core.Bool.{Bool, true, false, cond}
use mathlib.Core.List.{List}
use mathlib.Core.Path.{◌≡◌}
use native.Mathlib.Nat.{mul-pos, one-le-pow, le_trans, le_of_eq, le_of_lt, mul-le-mul, mul-le-mul_right, mul_assoc, mul_comm, one-mul, pow-le-pow_right}
use lib.Dec.{T, lit<, lit≤}
use lib.Pow.{pow-add}
use lib.IntN.{pos}
use lib.Ieee.{Float, fin, binary64, round, div, of_bits}
use lib.Ieee.Scale.{finite}
use Rattle.text_bytes.specs.Bytes.{is_space}
use Rattle.text_bytes.specs.Moves.{place}
use Rattle.text_bytes.specs.Scan.{scan}
use Rattle.text_bytes.specs.Words.{is_curr_byte_eq}
use Rattle.text_bytes.specs.declared.Place.{Place}
use Rattle.floats.proofs.Bounds.{is_finite, round_within}
use Rattle.numbers.specs.Decimal.{written, nearest}
use Rattle.numbers.specs.Digits.{cap}
use Rattle.numbers.specs.Number.{after_sign, mantissa_at, exponent_at, value_of, parse_number, parse_number_or_percent}
use Rattle.numbers.specs.Powers.{hundred}
use Rattle.numbers.specs.Moves.{Number}
use Rattle.numbers.proofs.Nearest.{value_nearest, number_nearest, number_finite}
use Rattle.standards.specs.Ieee754.{Fraction, parameters, RoundsTo, double}
use Rattle.standards.specs.CssValues3 as Css
use Rattle.standards.specs.CssValues3.{exactly, joined, fraction_digits, power, falls}
use Rattle.standards.specs.Domain.{Near, InDomain}
use Rattle.standards.specs.Answers.{Hundredth, read_on}
use Rattle.standards.proofs.Rounding.{round_rounds, double_rounds, div_rounds}
use Rattle.standards.specs.Notations.{fraction}

ten_pos : (k : ℕ) → 0 < 10 ^ k
ten_pos k = one-le-pow k 10 (lit< tt)

moved_pos : (t : Bool) (k : ℕ) → 0 < cond t (10 ^ k) 1
moved_pos true k = ten_pos k
moved_pos false k = lit< tt

-- THEOREM. The value that is made of M, moved by at most 22 places, is the nearest double.
pub value_rounds : (minus : Bool) (m : ℕ) (down : Bool) (by : ℕ) → m < cap → by < 23
    → RoundsTo (parameters binary64) (record { minus = minus; over = cond down m (m * 10 ^ by); under = cond down (10 ^ by) 1 }) (value_of minus m down by)
unfolding nearest
value_rounds minus m down by h l =
    rw (value_nearest minus m down by h l) (round_rounds binary64 (record { minus = minus; over = cond down m (m * 10 ^ by); under = cond down (10 ^ by) 1 }) (moved_pos down by))

written_under : (s : List ℕ) (i : ℕ) → 0 < (written s i).under
unfolding written
written_under s i =
    let m = mantissa_at s (after_sign s i) in
    let x = exponent_at s m.end.0 in
    mul-pos (ten_pos m.fraction) (moved_pos x.minus x.value)

hundredth : (q : Fraction) (x : Float) → T (finite x) → RoundsTo (parameters binary64) q x → Hundredth q (div binary64 x hundred)
unfolding of_bits
hundredth q lib.Ieee.nan t h = elim t [ ]
hundredth q (lib.Ieee.inf _) t h = elim t [ ]
hundredth q (fin s m e) t h = record { s = s; m = m; e = e; first = h; second = div_rounds binary64 s m e false 25 (pos 2) (lit< tt) }

module _ (s : List ℕ) (i : ℕ) (n : Number) (p : Place) (read : parse_number s i ≡ read_on n p) where
  -- THEOREM. Whatever number is read is the double nearest to the decimal that is written,
  pub number_rounds : RoundsTo (parameters binary64) (fraction (written s (scan is_space s i))) n.value
  unfolding nearest
  number_rounds = rw (number_nearest s i (record { value = n; next = p }) read) (round_rounds binary64 (fraction (written s (scan is_space s i))) (written_under s (scan is_space s i)))

  -- THEOREM. and with a `%` (37) after it, the hundredth.
  pub percent_rounds : is_curr_byte_eq s p.0 37 ≡ true
      → (x : Number) × (parse_number_or_percent s i ≡ read_on x (place (p.0 + 1))) × Hundredth (fraction (written s (scan is_space s i))) x.value
  unfolding parse_number_or_percent
  percent_rounds h = (
    record { value = div binary64 n.value hundred; whole = n.whole; end = n.end },
    rw (read, h),
    hundredth (fraction (written s (scan is_space s i))) n.value (number_finite s i (record { value = n; next = p }) read) number_rounds,
  )

-- the same for the numbers of the grammar
module _ (t : Css.Number) where
  pub under_pos : 0 < (exactly t).under
  unfolding exactly
  under_pos = mul-pos (ten_pos (fraction_digits t.digits_of)) (moved_pos (falls t.exponent_part) (power t.exponent_part))

  -- THEOREM. The double that the grammar's theorems name is the nearest,
  pub exactly_rounds : RoundsTo (parameters binary64) (exactly t) (double (exactly t))
  exactly_rounds = double_rounds (exactly t) under_pos

  domain_small : InDomain t → (exactly t).over ≤ 2 ^ 127 * (exactly t).under
  unfolding exactly
  domain_small h = go (falls t.exponent_part) h.near
    where
      m : ℕ
      m = joined t.digits_of

      e : ℕ
      e = power t.exponent_part

      f : ℕ
      f = fraction_digits t.digits_of

      go : (b : Bool) → Near b e f → m * cond b 1 (10 ^ e) ≤ 2 ^ 127 * (10 ^ f * cond b (10 ^ e) 1)
      go true g = mul-le-mul {n₁ = m} {m₁ = 1} {n₂ = 2 ^ 127} (le_trans (le_of_lt h.small) (lit≤ tt)) (mul-pos (ten_pos f) (ten_pos e))
      go false g =
          let a : 10 ^ e ≤ 10 ^ f * 10 ^ 22 = le_trans (pow-le-pow_right (lit< tt) g.0) (le_of_eq (pow-add 10 f 22)) in
          let b : m * 10 ^ e ≤ 9007199254740992 * (10 ^ f * 10 ^ 22) = mul-le-mul (le_of_lt h.small) a in
          let c : 9007199254740992 * (10 ^ f * 10 ^ 22) ≡ 9007199254740992 * 10 ^ 22 * (10 ^ f * 1) = simp (mul_assoc, mul_comm, one-mul) in
          le_trans b (le_trans (le_of_eq c) (mul-le-mul_right (10 ^ f * 1) (lit≤ tt)))

  pub double_finite : InDomain t → T (finite (double (exactly t)))
  double_finite h =
      let q = exactly t in
      unfold double in is_finite 127 (round binary64 q.minus q.over q.under) (round_within binary64 q.minus q.over q.under 127 under_pos (lit≤ tt) (domain_small h))

  -- THEOREM. and the percentage's is the hundredth.
  pub exactly_hundredth : InDomain t → Hundredth (exactly t) (div binary64 (double (exactly t)) hundred)
  exactly_hundredth h = hundredth (exactly t) (double (exactly t)) (double_finite h) exactly_rounds
