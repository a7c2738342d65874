-- How large a result can get, by powers of two: enough to know that it is finite, and so no NaN.
-- `Within k x`: x is finite and at most 2 ^ k in size. Assumes nothing.
use Rattle.std.proofs.Common.{◌≡◌, ℕ, suc, ◌+◌, ◌-◌, ◌*◌, ◌/◌, ◌%◌, ◌^◌, ◌<◌, ◌≤◌, Bool, true, false, cond, not, ◌&&◌, T, ltb, pos, sym, refl, ap, ◌∙◌, subst, true≢false, le_trans, le_of_eq, le_refl, lt_of_lt_of_le, lt_of_le_of_lt, le_of_lt, mul-le-mul_right, mod-lt, mul_assoc, mul_comm, div-lt_iff_lt-mul, add-mul, mul-le-mul, mul-lt-mul_of_pos_right, mul-pos, zero-mul, mul-one, mul_right_comm, le_of_mul-le-mul_right, div-one, mul_left_comm, arith, lit≤, nltb→le, pow_pos, pow_mono, pow-add, ne_eqb}
use native.Mathlib.Nat.{mod-one, two-pow-succ}
use mathlib.Core.Bool.{beq}
use lib.Pow.{pow-lt}
use lib.Ieee.{Float, Format, nan, inf, fin, binary64, prec, emax, low, unlike, up, down, size, units, round, sum, add, mul, div, rem, neg, of_int, of_bits, lt, ne, is_nan}
use lib.Ieee.Digits.{size-le}
use lib.Ieee.Fits.{round_is, down_pos, two}
use lib.Ieee.Exact.{HasValue, units_val}
use lib.Ieee.Nearest.{closest, closest_mono}
use lib.Ieee.Scale.{grid, finite}
use Rattle.floats.specs.Floats.{clamped, d0, d1}
use Rattle.floats.proofs.Rounding.{closest_lt}

abbrev pub Within : ℕ → Float → Type 0
Within k nan = ⊥
Within k (inf s) = ⊥
Within k (fin s m e) = m * up e ≤ 2 ^ k * down e

pub no_nan : (k : ℕ) (x : Float) → Within k x → T (not (is_nan x))
unfolding is_nan
no_nan k nan h = elim h [ ]
no_nan k (inf _) h = elim h [ ]
no_nan k (fin s m e) h = tt

pub is_finite : (k : ℕ) (x : Float) → Within k x → T (finite x)
is_finite k nan h = elim h [ ]
is_finite k (inf _) h = elim h [ ]
is_finite k (fin s m e) h = tt

pub finite_no_nan : (x : Float) → T (finite x) → T (not (is_nan x))
unfolding is_nan
finite_no_nan nan h = elim h [ ]
finite_no_nan (inf _) h = elim h [ ]
finite_no_nan (fin s m e) h = tt

-- what fails the test `x != x` is no NaN
pub equal_no_nan : (x : Float) → ne x x ≡ false → T (not (is_nan x))
unfolding ne is_nan
equal_no_nan nan h = absurd (true≢false h)
equal_no_nan (inf s) h = tt
equal_no_nan (fin s m e) h = tt

pub neg_finite : (x : Float) → T (finite x) → T (finite (neg x))
unfolding neg
neg_finite nan h = elim h [ ]
neg_finite (inf _) h = elim h [ ]
neg_finite (fin s m e) h = tt

pub wider : (j k : ℕ) (x : Float) → j ≤ k → Within j x → Within k x
wider j k nan l h = elim h [ ]
wider j k (inf _) l h = elim h [ ]
wider j k (fin s m e) l h = le_trans h (mul-le-mul_right (down e) (pow_mono l))

pub neg_within : (k : ℕ) (x : Float) → Within k x → Within k (neg x)
unfolding neg
neg_within k nan h = elim h [ ]
neg_within k (inf _) h = elim h [ ]
neg_within k (fin s m e) h = h

closest_whole : (x : ℕ) → closest x 1 ≡ x
closest_whole x = closest_lt x 1 (subst (λ (r : ℕ). r * 2 < 1) (sym (mod-one x)) (omega arith)) ∙ div-one x

spare : (z p E k : ℕ) → 2 ≤ p → z ≤ suc E → k ≡ z - p → k ≤ E
spare z p E k a b e = omega arith

join : (k E : ℕ) → k ≤ E → E - k + k ≡ E
join k E h = omega arith

-- a / c rounded, in units of the smallest value, is at most 2 ^ K of them if a / c is
grid_le : (f : Format) (a c K : ℕ) → 0 < c → a ≤ 2 ^ K * c → grid f a c ≤ 2 ^ (K + low f)
grid_le f a c K C h =
    let n = a * 2 ^ low f in
    let E = K + low f in
    let k = size (n / c) - prec f in
    let b : n ≤ 2 ^ E * c = le_trans (mul-le-mul_right (2 ^ low f) h) (le_of_eq (mul_right_comm (2 ^ K) c (2 ^ low f) ∙ ap (λ (x : ℕ). x * c) (sym (pow-add 2 K (low f))))) in
    let w : n / c < 2 ^ suc E = (div-lt_iff_lt-mul C).1 (lt_of_le_of_lt b (mul-lt-mul_of_pos_right (pow-lt (le_refl (suc E))) C)) in
    let l : k ≤ E = spare (size (n / c)) (prec f) E k (two f) (size-le (n / c) (suc E) w) refl in
    let s : 2 ^ (E - k) * 2 ^ k ≡ 2 ^ E = sym (pow-add 2 (E - k) k) ∙ ap (λ (x : ℕ). 2 ^ x) (join k E l) in
    let t : n * 1 ≤ 2 ^ (E - k) * (c * 2 ^ k) = le_trans (le_of_eq (mul-one n)) (le_trans b (le_of_eq (ap (λ (x : ℕ). x * c) (sym s) ∙ mul_right_comm (2 ^ (E - k)) (2 ^ k) c ∙ mul_assoc (2 ^ (E - k)) c (2 ^ k)))) in
    let u : closest n (c * 2 ^ k) ≤ 2 ^ (E - k) = le_trans (closest_mono n (c * 2 ^ k) (2 ^ (E - k)) 1 (mul-pos C (pow_pos k)) (omega arith) t) (le_of_eq (closest_whole (2 ^ (E - k)))) in
    le_trans (mul-le-mul_right (2 ^ k) u) (le_of_eq s)

value_within : (x : Float) (s : Bool) (g K l : ℕ) → g ≤ 2 ^ (K + l) → HasValue x s g (2 ^ l) → Within K x
value_within nan s g K l h v = elim v [ ]
value_within (inf _) s g K l h v = elim v [ ]
value_within (fin t m e) s g K l h v =
    le_of_mul-le-mul_right {m = m * up e} {n = 2 ^ K * down e} {k = 2 ^ l}
    (le_trans (le_of_eq v.1) (le_trans (mul-le-mul_right (down e) h) (le_of_eq (ap (λ (x : ℕ). x * down e) (pow-add 2 K l) ∙ mul_right_comm (2 ^ K) (2 ^ l) (down e))))) (pow_pos l)

pub round_within : (f : Format) (s : Bool) (a c K : ℕ) → 0 < c → K ≤ emax f → a ≤ 2 ^ K * c → Within K (round f s a c)
round_within f s a c K C E h =
    let g = grid_le f a c K C h in
    let k = size (a * 2 ^ low f / c) - prec f in
    subst (Within K) (sym (round_is f s a c))
    (value_within (units f s (closest (a * 2 ^ low f) (c * 2 ^ k)) k) s (grid f a c) K (low f) g
    (units_val f s (closest (a * 2 ^ low f) (c * 2 ^ k)) k (lt_of_le_of_lt g (pow-lt (room f K E)))))
  where
    room : (f : Format) (K : ℕ) → K ≤ emax f → K + low f < low f + suc (emax f)
    room f K h = omega arith

-- the operations
cross : (a b c d : ℕ) → a * b * (c * d) ≡ a * c * (b * d)
cross a b c d = mul_assoc a b (c * d) ∙ ap (λ (x : ℕ). a * x) (mul_left_comm b c d) ∙ sym (mul_assoc a c (b * d))

pub int_within : (f : Format) (n K : ℕ) → K ≤ emax f → n ≤ 2 ^ K → Within K (of_int f (pos n))
unfolding of_int
int_within f n K E h = round_within f false n 1 K (omega arith) E (le_trans h (le_of_eq (sym (mul-one (2 ^ K)))))

pub mul_within : (f : Format) (i j : ℕ) (x y : Float) → i + j ≤ emax f → Within i x → Within j y → Within (i + j) (mul f x y)
unfolding mul
mul_within f i j nan y E p q = elim p [ ]
mul_within f i j (inf _) y E p q = elim p [ ]
mul_within f i j (fin s m e) nan E p q = elim q [ ]
mul_within f i j (fin s m e) (inf _) E p q = elim q [ ]
mul_within f i j (fin s m e) (fin t n d) E p q =
    round_within f (unlike s t) (m * up e * (n * up d)) (down e * down d) (i + j) (mul-pos (down_pos e) (down_pos d)) E
    (le_trans (mul-le-mul p q) (le_of_eq (cross (2 ^ i) (down e) (2 ^ j) (down d) ∙ ap (λ (x : ℕ). x * (down e * down d)) (sym (pow-add 2 i j)))))

-- y is finite, and 1 or more in size
abbrev pub AtLeastOne : Float → Type 0
AtLeastOne nan = ⊥
AtLeastOne (inf s) = ⊥
AtLeastOne (fin s m e) = down e ≤ m * up e

some : (n u d : ℕ) → 0 < d → d ≤ n * u → n ≡ 0 → ⊥
some n u d p h e = let z = ap (λ (x : ℕ). x * u) e ∙ zero-mul u in omega arith

pub div_within : (f : Format) (i : ℕ) (x y : Float) → i ≤ emax f → Within i x → AtLeastOne y → Within i (div f x y)
unfolding div
div_within f i nan y E p q = elim p [ ]
div_within f i (inf _) y E p q = elim p [ ]
div_within f i (fin s m e) nan E p q = elim q [ ]
div_within f i (fin s m e) (inf _) E p q = elim q [ ]
div_within f i (fin s m e) (fin t n d) E p q =
    rw (ne_eqb n 0 (some n (up d) (down d) (down_pos d) q))
    (round_within f (unlike s t) (m * up e * down d) (n * up d * down e) i (mul-pos (lt_of_lt_of_le (down_pos d) q) (down_pos e)) E
    (le_trans (mul-le-mul p q) (le_of_eq (mul_assoc (2 ^ i) (down e) (n * up d) ∙ ap (λ (x : ℕ). 2 ^ i * x) (mul_comm (down e) (n * up d))))))

sum_within : (f : Format) (s : Bool) (a : ℕ) (t : Bool) (b c k : ℕ) → 0 < c → suc k ≤ emax f → a ≤ 2 ^ k * c → b ≤ 2 ^ k * c → Within (suc k) (sum f s a t b c)
unfolding sum
sum_within f s a t b c k C E p q = go (beq s t) (ltb a b)
  where
    top : 2 ^ suc k * c ≡ 2 ^ k * c + 2 ^ k * c
    top = ap (λ (x : ℕ). x * c) (two-pow-succ k) ∙ add-mul (2 ^ k) (2 ^ k) c

    go : (u v : Bool) → Within (suc k) (cond u (round f s (a + b) c) (cond v (round f t (b - a) c) (round f (s && ltb b a) (a - b) c)))
    go true v = round_within f s (a + b) c (suc k) C E (let z = top in omega arith)
    go false true = round_within f t (b - a) c (suc k) C E (let z = top in omega arith)
    go false false = round_within f (s && ltb b a) (a - b) c (suc k) C E (let z = top in omega arith)

pub add_within : (f : Format) (k : ℕ) (x y : Float) → suc k ≤ emax f → Within k x → Within k y → Within (suc k) (add f x y)
unfolding add
add_within f k nan y E p q = elim p [ ]
add_within f k (inf _) y E p q = elim p [ ]
add_within f k (fin s m e) nan E p q = elim q [ ]
add_within f k (fin s m e) (inf _) E p q = elim q [ ]
add_within f k (fin s m e) (fin t n d) E p q =
    sum_within f s (m * up e * down d) t (n * up d * down e) (down e * down d) k (mul-pos (down_pos e) (down_pos d)) E
    (le_trans (mul-le-mul_right (down d) p) (le_of_eq (mul_assoc (2 ^ k) (down e) (down d))))
    (le_trans (mul-le-mul_right (down e) q) (le_of_eq (mul_assoc (2 ^ k) (down d) (down e) ∙ ap (λ (x : ℕ). 2 ^ k * x) (mul_comm (down d) (down e)))))

-- the remainder by y is below y, whatever a finite x is
pub rem_within : (f : Format) (k : ℕ) (x y : Float) → k ≤ emax f → T (finite x) → AtLeastOne y → Within k y → Within k (rem f x y)
unfolding rem
rem_within f k nan y E p q r = elim p [ ]
rem_within f k (inf _) y E p q r = elim p [ ]
rem_within f k (fin s m e) nan E p q r = elim q [ ]
rem_within f k (fin s m e) (inf _) E p q r = elim q [ ]
rem_within f k (fin s m e) (fin t n d) E p q r =
    let Y = n * up d * down e in
    rw (ne_eqb n 0 (some n (up d) (down d) (down_pos d) q))
    (round_within f s (m * up e * down d % Y) (down e * down d) k (mul-pos (down_pos e) (down_pos d)) E
    (le_trans (le_of_lt (mod-lt (m * up e * down d) {m = Y} (mul-pos (lt_of_lt_of_le (down_pos d) q) (down_pos e))))
    (le_trans (mul-le-mul_right (down e) r) (le_of_eq (mul_assoc (2 ^ k) (down d) (down e) ∙ ap (λ (x : ℕ). 2 ^ k * x) (mul_comm (down d) (down e)))))))

-- n / 100, and times 255
abbrev pub d100 : Float
d100 = of_bits binary64 0x4059_0000_0000_0000

abbrev pub d255 : Float
d255 = of_bits binary64 0x406f_e000_0000_0000

pub percent_within : (k : ℕ) (x : Float) → k ≤ 1023 → Within k x → Within k (div binary64 x d100)
unfolding of_bits
percent_within k x E h = div_within binary64 k x d100 E h (lit≤ tt)

pub times_255_within : (k : ℕ) (x : Float) → k + 8 ≤ 1023 → Within k x → Within (k + 8) (mul binary64 x d255)
unfolding of_bits
times_255_within k x E h = mul_within binary64 k 8 x d255 E h (lit≤ tt)

-- what is held to 0 .. 1 is at most 1 in size, an infinity's too
pub clamped_within : (x : Float) → T (not (is_nan x)) → Within 0 (clamped x)
unfolding is_nan lt of_bits
clamped_within nan h = absurd h
clamped_within (inf true) h = lit≤ tt
clamped_within (inf false) h = lit≤ tt
clamped_within (fin true m e) h = go (lt (fin true m e) d0) (nltb→le 0 (m * up e * 1 + 0 * down e))
  where
    go : (b : Bool) → (T (not b) → m * up e * 1 + 0 * down e ≤ 0) → Within 0 (cond b d0 (fin true m e))
    go true n = lit≤ tt
    go false n = let l = n tt in let o = mul-one (m * up e) in omega arith
clamped_within (fin false m e) h = go (lt (fin false m e) d0) (lt d1 (fin false m e)) (nltb→le (1 * down e) (m * up e * 1))
  where
    go : (a b : Bool) → (T (not b) → m * up e * 1 ≤ 1 * down e) → Within 0 (cond a d0 (cond b d1 (fin false m e)))
    go true b n = lit≤ tt
    go false true n = lit≤ tt
    go false false n = subst (λ (k : ℕ). k ≤ 1 * down e) (mul-one (m * up e)) (n tt)

pub clamped_no_nan : (x : Float) → T (not (is_nan x)) → T (not (is_nan (clamped x)))
clamped_no_nan x h = no_nan 0 (clamped x) (clamped_within x h)
