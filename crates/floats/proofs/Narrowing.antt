-- The bits of an f64, rounded to an f32's, field by field: `narrowed` is IEEE 754's conversion. Assumes nothing.
use Rattle.std.proofs.Common.{◌≡◌, ℕ, zero, suc, ◌+◌, ◌-◌, ◌*◌, ◌/◌, ◌%◌, ◌^◌, ◌<◌, ◌≤◌, Bool, true, false, cond, not, T, eqb, ltb, leb, ◌⊎◌, sym, refl, ap, ◌∙◌, subst, inl, inr, le_trans, le_of_eq, lt_of_lt_of_le, le_of_suc-le-suc, lt_of_le_of_lt, add-zero, lt_irrefl, mul-le-mul_right, mul_assoc, mul_comm, div-lt_iff_lt-mul, eq-zero-or-pos, eq-or-lt_of_le, mul-le-mul_left, mul-pos, one-mul, lt_of_not-le, le-div_iff_mul-le, zero-add, not-le_of_lt, arith, lit<, ltb→lt, leb→le, nltb→le, pow_pos, pow_mono, pow-add, shl_lt, shr_lt, le-ltb}
use Prim.Native.Nat.{compare}
use lib.Dec.{nleb→lt}
use lib.Pow.{pow-lt, shl-shr}
use lib.Ieee.{Float, Format, nan, inf, fin, is_nan, fits, binary32, binary64, prec, low, emax, up, down, size, odd, units, round, of_fields, to_bits, of_bits}
use lib.Arith.{le-zero}
use lib.Ieee.Digits.{size-lt, size-le}
use lib.Ieee.Fits.{round_is, down_pos, nearest-le, nan-fits, inf-fits, round-fits}
use lib.Ieee.Exact.{HasValue, units_val}
use lib.Ieee.Nearest.{closest, closest_same, closest_mono, nearest-ge, div_same}
use lib.Ieee.Scale.{round_same}
use Rattle.floats.specs.Floats.{narrowed}
use Rattle.floats.proofs.Rounding.{bits_of_value, value, value_low, at_ones, by_fields}

-- what a number of 24 + k digits drops
past : (z k : ℕ) → z ≤ 24 + k → (0 < k → 23 + k < z) → z - 24 ≡ k
past z zero h l = omega arith
past z (suc k) h l = let g : 23 + suc k < z = l (omega arith) in omega arith

drops : (w k : ℕ) → w < 2 ^ (24 + k) → (0 < k → 2 ^ (23 + k) ≤ w) → size w - 24 ≡ k
drops w k h l = past (size w) k (size-le w (24 + k) h)
    (λ p. lt_of_not-le (λ (g : size w ≤ 23 + k). not-le_of_lt (lt_of_lt_of_le (size-lt w) (pow_mono g)) (l p)))

-- M * 2 ^ k / 2 ^ j smallest values, rounded
round_at : (s : Bool) (M k j : ℕ) → M < 2 ^ (24 + j) → (0 < k → 2 ^ (23 + j) ≤ M) → round binary32 s (M * 2 ^ k) (2 ^ (149 + j)) ≡ units binary32 s (closest M (2 ^ j)) k
round_at s M k j h l =
    let n = M * 2 ^ k * 2 ^ 149 in
    let d = 2 ^ (149 + j) in
    let w = M * 2 ^ k / 2 ^ j in
    let e : n * 2 ^ j ≡ M * 2 ^ k * d = mul_assoc (M * 2 ^ k) (2 ^ 149) (2 ^ j) ∙ ap (λ (x : ℕ). M * 2 ^ k * x) (sym (pow-add 2 149 j)) in
    let is-w : n / d ≡ w = div_same n d (M * 2 ^ k) (2 ^ j) (pow_pos (149 + j)) (pow_pos j) e in
    let hi : w < 2 ^ (24 + k) = (div-lt_iff_lt-mul (pow_pos j)).1 (subst (λ (x : ℕ). M * 2 ^ k < x) (simp (pow-add, mul_assoc, mul_comm)) (shl_lt (24 + j) k h)) in
    let lo : 0 < k → 2 ^ (23 + k) ≤ w = λ p. (le-div_iff_mul-le (pow_pos j)).1 (subst (λ (x : ℕ). x ≤ M * 2 ^ k) (simp (pow-add, mul_assoc, mul_comm)) (mul-le-mul_right (2 ^ k) (l p))) in
    let is-k : size (n / d) - 24 ≡ k = ap (λ (x : ℕ). size x - 24) is-w ∙ drops w k hi lo in
    let f : n * 2 ^ j ≡ M * (d * 2 ^ k) = e ∙ simp (mul_assoc, mul_comm) in
    round_is binary32 s (M * 2 ^ k) d
    ∙ ap (λ (x : ℕ). units binary32 s (closest n (d * 2 ^ x)) x) is-k
    ∙ ap (λ (x : ℕ). units binary32 s x k) (closest_same n (d * 2 ^ k) M (2 ^ j) (mul-pos (pow_pos (149 + j)) (pow_pos k)) (pow_pos j) f)

-- the whole carry: q may be 2 ^ 24
fields : (q k c : ℕ) → q ≤ 2 ^ 24 → (0 < k → 2 ^ 23 ≤ q) → c + (size (q * 2 ^ k) - 24) * 2 ^ 23 + q * 2 ^ k / 2 ^ (size (q * 2 ^ k) - 24) ≡ c + (k * 2 ^ 23 + q)
fields q k c h l = go (eq-or-lt_of_le h)
  where
    at : (q k : ℕ) → (r i : ℕ) → size (q * 2 ^ k) - 24 ≡ i → q * 2 ^ k ≡ r * 2 ^ i → i * 2 ^ 23 + r ≡ k * 2 ^ 23 + q
        → c + (size (q * 2 ^ k) - 24) * 2 ^ 23 + q * 2 ^ k / 2 ^ (size (q * 2 ^ k) - 24) ≡ c + (k * 2 ^ 23 + q)
    at q k r i e f g =
        ap (λ (x : ℕ). c + x * 2 ^ 23 + q * 2 ^ k / 2 ^ x) e
        ∙ ap (λ (x : ℕ). c + i * 2 ^ 23 + x) (ap (λ (x : ℕ). x / 2 ^ i) f ∙ shl-shr r i)
        ∙ omega arith

    go : (q ≡ 2 ^ 24) ⊎ (q < 2 ^ 24) → c + (size (q * 2 ^ k) - 24) * 2 ^ 23 + q * 2 ^ k / 2 ^ (size (q * 2 ^ k) - 24) ≡ c + (k * 2 ^ 23 + q)
    go (inl e) =
        let f : q * 2 ^ k ≡ 2 ^ 23 * 2 ^ suc k = ap (λ (x : ℕ). x * 2 ^ k) e ∙ sym (pow-add 2 24 k) ∙ ap (λ (x : ℕ). 2 ^ x) (more k) ∙ pow-add 2 23 (suc k) in
        at q k (2 ^ 23) (suc k)
        (drops (q * 2 ^ k) (suc k) (subst (λ (x : ℕ). x < 2 ^ (24 + suc k)) (sym (f ∙ sym (pow-add 2 23 (suc k)))) (pow-lt (one k))) (λ _. le_of_eq (pow-add 2 23 (suc k) ∙ sym f)))
        f (carry k q e)
      where
        more : (k : ℕ) → 24 + k ≡ 23 + suc k
        more k = omega arith

        one : (k : ℕ) → 23 + suc k < 24 + suc k
        one k = omega arith

        carry : (k q : ℕ) → q ≡ 2 ^ 24 → suc k * 2 ^ 23 + 2 ^ 23 ≡ k * 2 ^ 23 + q
        carry k q e = omega arith
    go (inr u) =
        at q k q k (drops (q * 2 ^ k) k (shl_lt 24 k u) (λ p. le_trans (le_of_eq (pow-add 2 23 k)) (mul-le-mul_right (2 ^ k) (l p)))) refl refl

-- from 2 ^ 128 on, an infinity
over : (s : Bool) (q k : ℕ) → 2 ^ 277 ≤ q * 2 ^ k → units binary32 s q k ≡ inf s
unfolding units
over s q k h = rw (le-ltb (q * 2 ^ k) (2 ^ 277) h)

bits_inf : (s : Bool) → to_bits binary32 (inf s) ≡ cond s (2 ^ 31) 0 + 255 * 2 ^ 23
unfolding to_bits
bits_inf s = refl

-- the largest exponent of a finite value is 253, and then q = 2 ^ 24 carries into the infinity's bits by itself
units_bits : (s : Bool) (q k : ℕ) → q ≤ 2 ^ 24 → (0 < k → 2 ^ 23 ≤ q) → k ≤ 253 → to_bits binary32 (units binary32 s q k) ≡ cond s (2 ^ 31) 0 + (k * 2 ^ 23 + q)
units_bits s q k h l m = go (ltb (q * 2 ^ k) (2 ^ 277)) (ltb→lt (q * 2 ^ k) (2 ^ 277)) (nltb→le (q * 2 ^ k) (2 ^ 277))
  where
    top : (q k : ℕ) → q ≤ 2 ^ 24 → k ≤ 253 → 2 ^ 277 ≤ q * 2 ^ k → k * 2 ^ 23 + q ≡ 255 * 2 ^ 23
    top q k h m g =
        let a : 2 ^ 277 ≤ 2 ^ (24 + k) = le_trans g (le_trans (mul-le-mul_right (2 ^ k) h) (le_of_eq (sym (pow-add 2 24 k)))) in
        let b : 277 ≤ 24 + k = lt_of_not-le (λ (u : 24 + k ≤ 276). not-le_of_lt (pow-lt {i = 24 + k} {j = 277} (lt_of_le_of_lt u (lit< tt))) a) in
        let c : 2 ^ 24 ≤ q = le_of_suc-le-suc (lt_of_not-le (λ (u : q < 2 ^ 24). not-le_of_lt (lt_of_lt_of_le (shl_lt 24 k u) (pow_mono {i = 24 + k} {j = 277} (omega arith))) g)) in
        omega arith

    go : (b : Bool) → (T b → q * 2 ^ k < 2 ^ 277) → (T (not b) → 2 ^ 277 ≤ q * 2 ^ k) → to_bits binary32 (units binary32 s q k) ≡ cond s (2 ^ 31) 0 + (k * 2 ^ 23 + q)
    go true y n = bits_of_value binary32 (units binary32 s q k) s (q * 2 ^ k) (units_val binary32 s q k (y tt)) ∙ fields q k (cond s (2 ^ 31) 0) h l
    go false y n = ap (to_bits binary32) (over s q k (n tt)) ∙ bits_inf s ∙ ap (λ (x : ℕ). cond s (2 ^ 31) 0 + x) (sym (top q k h m (n tt)))

narrowed_is : (x : Float) (s : Bool) (a c : ℕ) → 0 < c → HasValue x s a c → narrowed x ≡ round binary32 s a c
unfolding narrowed
narrowed_is nan s a c p h = elim h [ ]
narrowed_is (inf _) s a c p h = elim h [ ]
narrowed_is (fin t m e) s a c p h = rw h.0 (round_same binary32 s (m * up e) (down e) a c (down_pos e) p h.1)

-- M * 2 ^ i / 2 ^ 1074, rounded to a format whose least value is 2 ^ -149
rounded : (x : Float) (s : Bool) (M i k j : ℕ) → HasValue x s (M * 2 ^ i) (2 ^ 1074) → i + (149 + j) ≡ k + 1074 → M < 2 ^ (24 + j) → (0 < k → 2 ^ (23 + j) ≤ M)
    → narrowed x ≡ units binary32 s (closest M (2 ^ j)) k
rounded x s M i k j v e h l =
    narrowed_is x s (M * 2 ^ i) (2 ^ 1074) (pow_pos 1074) v
    ∙ round_same binary32 s (M * 2 ^ i) (2 ^ 1074) (M * 2 ^ k) (2 ^ (149 + j)) (pow_pos 1074) (pow_pos (149 + j))
    (mul_assoc M (2 ^ i) (2 ^ (149 + j)) ∙ ap (λ (x : ℕ). M * x) (sym (pow-add 2 i (149 + j)) ∙ ap (λ (x : ℕ). 2 ^ x) e ∙ pow-add 2 k 1074) ∙ sym (mul_assoc M (2 ^ k) (2 ^ 1074)))
    ∙ round_at s M k j h l

closest_le : (M j : ℕ) → M < 2 ^ (24 + j) → closest M (2 ^ j) ≤ 2 ^ 24
closest_le M j h = le_trans (nearest-le (M / 2 ^ j) (compare (M % 2 ^ j * 2) (2 ^ j))) (shr_lt 24 j h)

closest_ge : (M j : ℕ) → 2 ^ (23 + j) ≤ M → 2 ^ 23 ≤ closest M (2 ^ j)
closest_ge M j h = le_trans ((le-div_iff_mul-le (pow_pos j)).1 (le_trans (le_of_eq (sym (pow-add 2 23 j))) h)) (nearest-ge (M / 2 ^ j) (compare (M % 2 ^ j * 2) (2 ^ j)))

zero_digits : (s b : Bool) → T (not (is_nan (cond b (inf s) nan))) → narrowed (cond b (inf s) nan) ≡ inf s
unfolding is_nan narrowed
zero_digits s true n = refl
zero_digits s false n = absurd n

-- the four branches, over the fields of the f64
module _ (s : Bool) (f t : ℕ) (T-lt : t < 2 ^ 52) where
  high : 1151 ≤ f → f < 2047 → narrowed (of_fields binary64 s f t) ≡ inf s
  high h k =
      let q = closest (2 ^ 52 + t) (2 ^ 29) in
      rounded (of_fields binary64 s f t) s (2 ^ 52 + t) (f - 1) (f - 897) 29 (value s f t (omega arith) k) (omega arith) (omega arith) (λ _. omega arith)
      ∙ over s q (f - 897)
      (le_trans (le_of_eq (pow-add 2 23 254))
      (le_trans (mul-le-mul_left (2 ^ 23) (pow_mono {i = 254} {j = f - 897} (omega arith))) (mul-le-mul_right (2 ^ (f - 897)) (closest_ge (2 ^ 52 + t) 29 (omega arith)))))

  infinite : 1151 ≤ f → f ≤ 2047 → T (not (is_nan (of_fields binary64 s f t))) → narrowed (of_fields binary64 s f t) ≡ inf s
  infinite h k n = go (eq-or-lt_of_le k)
    where
      go : (f ≡ 2047) ⊎ (f < 2047) → narrowed (of_fields binary64 s f t) ≡ inf s
      go (inr l) = high h l
      go (inl e) =
          let x : of_fields binary64 s f t ≡ cond (eqb t 0) (inf s) nan = ap (λ (g : ℕ). of_fields binary64 s g t) e ∙ at_ones s t in
          ap narrowed x ∙ zero_digits s (eqb t 0) (subst (λ (y : Float). T (not (is_nan y))) x n)

  pub normal : 897 ≤ f → f < 1151 → to_bits binary32 (narrowed (of_fields binary64 s f t)) ≡ cond s (2 ^ 31) 0 + ((f - 897) * 2 ^ 23 + closest (2 ^ 52 + t) (2 ^ 29))
  normal h k =
      ap (to_bits binary32) (rounded (of_fields binary64 s f t) s (2 ^ 52 + t) (f - 1) (f - 897) 29 (value s f t (omega arith) (omega arith)) (omega arith) (omega arith) (λ _. omega arith))
      ∙ units_bits s (closest (2 ^ 52 + t) (2 ^ 29)) (f - 897) (closest_le (2 ^ 52 + t) 29 (omega arith)) (λ _. closest_ge (2 ^ 52 + t) 29 (omega arith)) (omega arith)

  -- M of 53 digits at most, with j of 30 or more dropped
  low_at : (M i j : ℕ) → M < 2 ^ 53 → HasValue (of_fields binary64 s f t) s (M * 2 ^ i) (2 ^ 1074) → i + j ≡ 925 → 30 ≤ j
      → to_bits binary32 (narrowed (of_fields binary64 s f t)) ≡ cond s (2 ^ 31) 0 + closest M (2 ^ j)
  low_at M i j m v e l =
      let fit : M < 2 ^ (24 + j) = lt_of_lt_of_le m (pow_mono {i = 53} {j = 24 + j} (omega arith)) in
      ap (to_bits binary32) (rounded (of_fields binary64 s f t) s M i 0 j v (omega arith) fit (λ p. absurd (lt_irrefl 0 p)))
      ∙ units_bits s (closest M (2 ^ j)) 0 (closest_le M j fit) (λ p. absurd (lt_irrefl 0 p)) (omega arith)
      ∙ ap (λ (x : ℕ). cond s (2 ^ 31) 0 + x) (zero-add (closest M (2 ^ j)))

  pub subnormal : 0 < f → f < 897 → to_bits binary32 (narrowed (of_fields binary64 s f t)) ≡ cond s (2 ^ 31) 0 + closest (2 ^ 52 + t) (2 ^ (926 - f))
  subnormal h k = low_at (2 ^ 52 + t) (f - 1) (926 - f) (omega arith) (value s f t h (omega arith)) (omega arith) (omega arith)

  none : (M j : ℕ) → M < 2 ^ 53 → 55 ≤ j → closest M (2 ^ j) ≡ 0
  none M j m l = le-zero (closest_mono M (2 ^ j) 1 3 (pow_pos j) (omega arith) (le_trans (three M m) (le_trans (pow_mono {i = 55} {j = j} l) (le_of_eq (sym (one-mul (2 ^ j)))))))
    where
      three : (M : ℕ) → M < 2 ^ 53 → M * 3 ≤ 2 ^ 55
      three M h = omega arith

  pub tiny : f < 872 → to_bits binary32 (narrowed (of_fields binary64 s f t)) ≡ cond s (2 ^ 31) 0 + 0
  tiny h = go (eq-zero-or-pos f)
    where
      go : (f ≡ 0) ⊎ (0 < f) → to_bits binary32 (narrowed (of_fields binary64 s f t)) ≡ cond s (2 ^ 31) 0 + 0
      go (inl e) =
          low_at t 0 925 (omega arith) (subst (λ (g : ℕ). HasValue (of_fields binary64 s g t) s (t * 2 ^ 0) (2 ^ 1074)) (sym e) (value_low s t)) refl (omega arith)
          ∙ ap (λ (x : ℕ). cond s (2 ^ 31) 0 + x) (none t 925 (omega arith) (omega arith))
      go (inr p) =
          subnormal p (omega arith) ∙ ap (λ (x : ℕ). cond s (2 ^ 31) 0 + x) (none (2 ^ 52 + t) (926 - f) (omega arith) (omega arith))

-- the same over the f64's bits
abbrev bits : ℕ → ℕ
bits b = to_bits binary32 (narrowed (of_bits binary64 b))

module _ (b : ℕ) (B : b < 2 ^ 64) where
  sign : b / 2 ^ 63 * 2 ^ 31 % 2 ^ 64 ≡ cond (leb (2 ^ 63) b) (2 ^ 31) 0
  sign = go (leb (2 ^ 63) b) (leb→le (2 ^ 63) b) (nleb→lt (2 ^ 63) b)
    where
      go : (s : Bool) → (T s → 2 ^ 63 ≤ b) → (T (not s) → b < 2 ^ 63) → b / 2 ^ 63 * 2 ^ 31 % 2 ^ 64 ≡ cond s (2 ^ 31) 0
      go true y n = let h : 2 ^ 63 ≤ b = y tt in omega arith
      go false y n = let h : b < 2 ^ 63 = n tt in omega arith

  signed : (r : ℕ) → bits b ≡ cond (leb (2 ^ 63) b) (2 ^ 31) 0 + r → b / 2 ^ 63 * 2 ^ 31 % 2 ^ 64 + r ≡ bits b
  signed r e = ap (λ (x : ℕ). x + r) sign ∙ sym e

  pub in_high : 1151 ≤ b % 2 ^ 63 / 2 ^ 52 → T (not (is_nan (of_bits binary64 b))) → b / 2 ^ 63 * 2 ^ 31 % 2 ^ 64 + 255 * 2 ^ 23 ≡ bits b
  in_high h n =
      signed (255 * 2 ^ 23)
      (ap (λ (x : Float). to_bits binary32 (narrowed x)) (by_fields b B)
      ∙ ap (to_bits binary32) (infinite (leb (2 ^ 63) b) (b % 2 ^ 63 / 2 ^ 52) (b % 2 ^ 52) (omega arith) h (omega arith) (subst (λ (x : Float). T (not (is_nan x))) (by_fields b B) n))
      ∙ bits_inf (leb (2 ^ 63) b))

  pub in_normal : (q : ℕ) → q ≡ closest (2 ^ 52 + b % 2 ^ 52) (2 ^ 29) → 897 ≤ b % 2 ^ 63 / 2 ^ 52 → b % 2 ^ 63 / 2 ^ 52 < 1151
      → b / 2 ^ 63 * 2 ^ 31 % 2 ^ 64 + ((b % 2 ^ 63 / 2 ^ 52 - 897) * 2 ^ 23 + q) ≡ bits b
  in_normal q e h k =
      rw e (signed ((b % 2 ^ 63 / 2 ^ 52 - 897) * 2 ^ 23 + closest (2 ^ 52 + b % 2 ^ 52) (2 ^ 29))
      (ap (λ (x : Float). to_bits binary32 (narrowed x)) (by_fields b B) ∙ normal (leb (2 ^ 63) b) (b % 2 ^ 63 / 2 ^ 52) (b % 2 ^ 52) (omega arith) h k))

  pub in_subnormal : (q : ℕ) → q ≡ closest (2 ^ 52 + b % 2 ^ 52) (2 ^ (926 - b % 2 ^ 63 / 2 ^ 52)) → 0 < b % 2 ^ 63 / 2 ^ 52 → b % 2 ^ 63 / 2 ^ 52 < 897
      → b / 2 ^ 63 * 2 ^ 31 % 2 ^ 64 + q ≡ bits b
  in_subnormal q e h k =
      rw e (signed (closest (2 ^ 52 + b % 2 ^ 52) (2 ^ (926 - b % 2 ^ 63 / 2 ^ 52)))
      (ap (λ (x : Float). to_bits binary32 (narrowed x)) (by_fields b B) ∙ subnormal (leb (2 ^ 63) b) (b % 2 ^ 63 / 2 ^ 52) (b % 2 ^ 52) (omega arith) h k))

  pub in_tiny : b % 2 ^ 63 / 2 ^ 52 < 872 → b / 2 ^ 63 * 2 ^ 31 % 2 ^ 64 ≡ bits b
  in_tiny h =
      sym (add-zero (b / 2 ^ 63 * 2 ^ 31 % 2 ^ 64))
      ∙ signed 0 (ap (λ (x : Float). to_bits binary32 (narrowed x)) (by_fields b B) ∙ tiny (leb (2 ^ 63) b) (b % 2 ^ 63 / 2 ^ 52) (b % 2 ^ 52) (omega arith) h)

pub few : (M j : ℕ) → M < 2 ^ 53 → 29 ≤ j → closest M (2 ^ j) ≤ 2 ^ 24
few M j m l = closest_le M j (lt_of_lt_of_le m (pow_mono {i = 53} {j = 24 + j} (omega arith)))

-- what is narrowed is no NaN, and the f32 holds it
pub narrowed_fits : (x : Float) → T (fits binary32 (narrowed x))
unfolding narrowed
narrowed_fits nan = nan-fits binary32
narrowed_fits (inf s) = inf-fits binary32 s
narrowed_fits (fin s m e) = round-fits binary32 s (m * up e) (down e)

odd_no_nan : (d : ℕ) (s : Bool) (q k l : ℕ) → T (not (is_nan (odd d s q k l)))
unfolding odd is_nan
odd_no_nan d s zero k l = tt
odd_no_nan d s (suc q) k l = tt

units_no_nan : (f : Format) (s : Bool) (q k : ℕ) → T (not (is_nan (units f s q k)))
unfolding units is_nan
units_no_nan f s q k = go (ltb (q * 2 ^ k) (2 ^ (low f + suc (emax f))))
  where
    go : (b : Bool) → T (not (is_nan (cond b (odd (suc (prec f)) s q k (low f)) (inf s))))
    go true = odd_no_nan (suc (prec f)) s q k (low f)
    go false = tt

pub round_no_nan : (f : Format) (s : Bool) (a c : ℕ) → T (not (is_nan (round f s a c)))
round_no_nan f s a c = subst (λ (x : Float). T (not (is_nan x))) (sym (round_is f s a c)) (units_no_nan f s (closest (a * 2 ^ low f) (c * 2 ^ (size (a * 2 ^ low f / c) - prec f))) (size (a * 2 ^ low f / c) - prec f))

pub narrowed_no_nan : (x : Float) → T (not (is_nan x)) → T (not (is_nan (narrowed x)))
unfolding narrowed is_nan
narrowed_no_nan nan h = h
narrowed_no_nan (inf s) h = tt
narrowed_no_nan (fin s m e) h = round_no_nan binary32 s (m * up e) (down e)
