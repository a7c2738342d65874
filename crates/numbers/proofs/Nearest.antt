-- The value of a number is the double nearest to the decimal that is written, of two as near the even one, and it is finite.
use Prim.Native.Nat.{ℕ, zero, suc, ◌+◌, ◌-◌, ◌*◌, ◌^◌, ◌≤◌, ◌<◌}
use mathlib.Core.Bool.{Bool, true, false, cond}
use mathlib.Core.List.{List}
use mathlib.Core.Path.{◌≡◌, refl, sym, ap, ◌∙◌}
use native.Mathlib.Nat.{mul-one, mul_assoc, mul-mul-mul_comm, mul-pos, mul_comm, zero-mul, one-le-pow, lt_of_lt_of_le}
use native.Mathlib.Omega.{arith}
use borrow.Author.Tests.{ne_eqb, leb-true, leb-false}
use lib.Dec.{T, eqb, ltb, leb, lit<, lit≤}
use lib.IntN.{pos}
use lib.ListN.{get_or}
use lib.Pow.{pow-add, shl_lt, pow_mono}
use lib.Ieee.{Float, nan, inf, fin, Format, binary64, prec, low, emax, up, down, odd, units, round, mul, div, neg, of_int}
use lib.Ieee.Exact.{HasValue, round_exact}
use lib.Ieee.Fits.{down_pos}
use lib.Ieee.Scale.{round_same, finite}
use Rattle.text_bytes.specs.Bytes.{is_space}
use Rattle.text_bytes.specs.Scan.{scan}
use Rattle.text_bytes.proofs.Ranges.{either}
use Rattle.floats.proofs.Bounds.{is_finite}
use Rattle.numbers.specs.Decimal.{decimal, written, nearest}
use Rattle.numbers.specs.Digits.{cap}
use Rattle.numbers.specs.Number.{magnitude, signed, value_of, scale_of, parse_number, parse_number_or_percent, parse_list_number, parse_list_number_or_percent}
use Rattle.numbers.specs.Powers.{power_of}
use Rattle.numbers.proofs.Exact.{power_exact}
use Rattle.std.specs.Prelude.{Ok}
use Rattle.stream.specs.declared.Read.{Read}
use Rattle.stream.proofs.Binds.{at_ok}
use Rattle.stream.proofs.Stretches.{LiesFrom}
use Rattle.numbers.specs.Moves.{Number}
use Rattle.numbers.proofs.Values.{number_holds, mantissa_of, exponent_of, number_known, percent_known, list_number_known, list_percent_known}

-- an operation on exact operands rounds the exact result
mul_rounds : (f : Format) (x y : Float) (a c b d : ℕ) → 0 < c * d → HasValue x false a c → HasValue y false b d → mul f x y ≡ round f false (a * b) (c * d)
unfolding mul
mul_rounds f nan y a c b d h p q = absurd p
mul_rounds f (inf s) y a c b d h p q = absurd p
mul_rounds f (fin s m e) nan a c b d h p q = absurd q
mul_rounds f (fin s m e) (inf t) a c b d h p q = absurd q
mul_rounds f (fin true m e) (fin t n g) a c b d h p q = absurd (let z : ◌≡◌ {A = ℕ} 0 1 = cc in omega arith)
mul_rounds f (fin false m e) (fin true n g) a c b d h p q = absurd (let z : ◌≡◌ {A = ℕ} 0 1 = cc in omega arith)
mul_rounds f (fin false m e) (fin false n g) a c b d h p q =
    round_same f false (m * up e * (n * up g)) (down e * down g) (a * b) (c * d) (mul-pos (down_pos e) (down_pos g)) h
    (mul-mul-mul_comm (m * up e) (n * up g) c d ∙ (rw (p.1, q.1) (mul-mul-mul_comm a (down e) b (down g))))

left_pos : (z d w : ℕ) → z * d ≡ w → 0 < w → 0 < z
left_pos zero d w e h = let f : 0 ≡ w = sym (zero-mul d) ∙ e in absurd (omega arith)
left_pos (suc z) d w e h = omega arith

div_rounds : (f : Format) (x y : Float) (a c b d : ℕ) → 0 < c → 0 < b → HasValue x false a c → HasValue y false b d → div f x y ≡ round f false (a * d) (c * b)
unfolding div
div_rounds f nan y a c b d h k p q = absurd p
div_rounds f (inf s) y a c b d h k p q = absurd p
div_rounds f (fin s m e) nan a c b d h k p q = absurd q
div_rounds f (fin s m e) (inf t) a c b d h k p q = absurd q
div_rounds f (fin true m e) (fin t n g) a c b d h k p q = absurd (let z : ◌≡◌ {A = ℕ} 0 1 = cc in omega arith)
div_rounds f (fin false m e) (fin true n g) a c b d h k p q = absurd (let z : ◌≡◌ {A = ℕ} 0 1 = cc in omega arith)
div_rounds f (fin false m e) (fin false n g) a c b d h k p q =
    let zp : 0 < n * up g = left_pos (n * up g) d (b * down g) q.1 (mul-pos k (down_pos g)) in
    let np : 0 < n = left_pos n (up g) (n * up g) refl zp in
    let r : d * (n * up g) ≡ down g * b = mul_comm d (n * up g) ∙ q.1 ∙ mul_comm b (down g) in
    simp (ne_eqb n 0 (λ u. omega arith))
    (round_same f false (m * up e * down g) (n * up g * down e) (a * d) (c * b) (mul-pos zp (down_pos e)) (mul-pos h k)
    (mul-mul-mul_comm (m * up e) (down g) c b ∙ ap (λ (u : ℕ). u * (down g * b)) p.1
    ∙ ap (λ (u : ℕ). a * down e * u) (sym r) ∙ sym (mul-mul-mul_comm a d (down e) (n * up g))
    ∙ ap (λ (u : ℕ). a * d * u) (mul_comm (down e) (n * up g))))

-- to round and to negate is to round with the other sign
neg_odd : (d q k l : ℕ) → neg (odd d false q k l) ≡ odd d true q k l
unfolding neg odd
neg_odd d zero k l = refl
neg_odd d (suc q) k l = refl

neg_units : (f : Format) (q k : ℕ) → neg (units f false q k) ≡ units f true q k
unfolding neg units
neg_units f q k = go (ltb (q * 2 ^ k) (2 ^ (low f + suc (emax f))))
  where
    go : (t : Bool) → neg (cond t (odd (suc (prec f)) false q k (low f)) (inf false)) ≡ cond t (odd (suc (prec f)) true q k (low f)) (inf true)
    go true = neg_odd (suc (prec f)) q k (low f)
    go false = refl

neg_round : (f : Format) (a c : ℕ) → neg (round f false a c) ≡ round f true a c
unfolding round
neg_round f a c = neg_units f _ _

below_top : (m l t : ℕ) → m < 2 ^ 53 → 53 + l ≤ t → m * 2 ^ l < 2 ^ t
below_top m l t h k = lt_of_lt_of_le (shl_lt 53 l h) (pow_mono k)

-- M as an f64 is M
int_exact : (m : ℕ) → m < cap → HasValue (of_int binary64 (pos m)) false m 1
unfolding of_int
int_exact m h = round_exact binary64 false m 1 m (low binary64) (lit< tt) h (below_top m (low binary64) (low binary64 + suc (emax binary64)) h (lit≤ tt)) (sym (mul-one (m * 2 ^ low binary64)))

-- THEOREM. M, moved by at most 22 places: the one rounded operation gives the double nearest to it, and a minus sign the nearest to its negative.
pub value_nearest : (minus : Bool) (m : ℕ) (down : Bool) (by : ℕ) → m < cap → by < 23 → value_of minus m down by ≡ nearest (decimal minus m down by)
unfolding value_of signed nearest
value_nearest minus m down by h l = sign minus down
  where
    x : HasValue (of_int binary64 (pos m)) false m 1
    x = int_exact m h

    plain : (t : Bool) → magnitude m t by ≡ round binary64 false (cond t m (m * 10 ^ by)) (cond t (10 ^ by) 1)
    plain true =
        let e : m * 1 ≡ m = omega arith in
        let g : 1 * 10 ^ by ≡ 10 ^ by = omega arith in
        rw (e, g) at (div_rounds binary64 (of_int binary64 (pos m)) (power_of by) m 1 (10 ^ by) 1 (lit< tt) (one-le-pow by 10 (lit< tt)) x (power_exact by l))
    plain false = mul_rounds binary64 (of_int binary64 (pos m)) (power_of by) m 1 (10 ^ by) 1 (lit< tt) x (power_exact by l)

    sign : (s t : Bool) → cond s (neg (magnitude m t by)) (magnitude m t by) ≡ round binary64 s (cond t m (m * 10 ^ by)) (cond t (10 ^ by) 1)
    sign true t = ap neg (plain t) ∙ neg_round binary64 (cond t m (m * 10 ^ by)) (cond t (10 ^ by) 1)
    sign false t = plain t

ten_pos : (k : ℕ) → 0 < 10 ^ k
ten_pos k = one-le-pow k 10 (lit< tt)

-- M moved by the scale is M over ten to the fraction digits, times or over ten to the exponent
scale_exact : (minus : Bool) (m : ℕ) (eminus : Bool) (e f : ℕ)
    → (let sc = scale_of eminus e f in nearest (decimal minus m sc.down sc.by))
    ≡ nearest (record { minus = minus; over = m * cond eminus 1 (10 ^ e); under = 10 ^ f * cond eminus (10 ^ e) 1 })
unfolding scale_of nearest
scale_exact minus m true e f =
    round_same binary64 minus m (10 ^ (e + f)) (m * 1) (10 ^ f * 10 ^ e) (ten_pos (e + f)) (mul-pos (ten_pos f) (ten_pos e))
    (rw (mul-one m, pow-add 10 e f) (ap (λ (x : ℕ). m * x) (mul_comm (10 ^ f) (10 ^ e))))
scale_exact minus m false e f =
    either (leb f e)
    (λ q.
    let l : e - f + f ≡ e = omega (arith, leb-true f e q) in
    let p : 10 ^ (e - f) * 10 ^ f ≡ 10 ^ e = sym (pow-add 10 (e - f) f) ∙ ap (λ (x : ℕ). 10 ^ x) l in
    simp q (round_same binary64 minus (m * 10 ^ (e - f)) 1 (m * 10 ^ e) (10 ^ f * 1) (lit< tt) (mul-pos (ten_pos f) (lit< tt))
    (rw (mul-one (10 ^ f), mul-one (m * 10 ^ e)) (mul_assoc m (10 ^ (e - f)) (10 ^ f) ∙ ap (λ (x : ℕ). m * x) p))))
    (λ q.
    let l : e + (f - e) ≡ f = omega (arith, leb-false f e q) in
    let p : 10 ^ e * 10 ^ (f - e) ≡ 10 ^ f = sym (pow-add 10 e (f - e)) ∙ ap (λ (x : ℕ). 10 ^ x) l in
    simp q (round_same binary64 minus m (10 ^ (f - e)) (m * 10 ^ e) (10 ^ f * 1) (ten_pos (f - e)) (mul-pos (ten_pos f) (lit< tt))
    (rw (mul-one (10 ^ f)) (ap (λ (x : ℕ). m * x) (sym p) ∙ sym (mul_assoc m (10 ^ e) (10 ^ (f - e)))))))

-- THEOREM. What is read is the double nearest to the decimal that is written.
pub number_nearest : (s : List ℕ) (i : ℕ) (r : Read Number) → parse_number s i ≡ Ok r → r.value.value ≡ nearest (written s (scan is_space s i))
unfolding written
number_nearest s i r e =
    let start = scan is_space s i in
    let m = mantissa_of s i in
    let x = exponent_of s i in
    let sc = scale_of x.minus x.value m.fraction in
    at_ok (λ v. v.value.value ≡ nearest (written s start)) (LiesFrom s i) (parse_number s i) r
    (number_holds s i (λ v. v.value.value ≡ nearest (written s start))
    (λ l j.
    value_nearest (eqb (get_or s start 0) 45) m.value sc.down sc.by j.small (omega (arith, j.near))
    ∙ scale_exact (eqb (get_or s start 0) 45) m.value x.minus x.value m.fraction))
    e

-- THEOREM. Whatever is read is finite.
module _ (s : List ℕ) (i : ℕ) (r : Read Number) where
  pub number_finite : parse_number s i ≡ Ok r → T (finite r.value.value)
  number_finite e = is_finite 127 r.value.value (number_known s i r e).within

  pub percent_finite : parse_number_or_percent s i ≡ Ok r → T (finite r.value.value)
  percent_finite e = is_finite 127 r.value.value (percent_known s i r e).within

  pub list_number_finite : parse_list_number s i ≡ Ok r → T (finite r.value.value)
  list_number_finite e = is_finite 127 r.value.value (list_number_known s i r e).within

  pub list_percent_finite : parse_list_number_or_percent s i ≡ Ok r → T (finite r.value.value)
  list_percent_finite e = is_finite 127 r.value.value (list_percent_known s i r e).within
