-- A float to the nearest of 0 .. 255: what `channel` finds by two comparisons is `channel_of`. Assumes nothing.
use Rattle.std.proofs.Common.{◌≡◌, ℕ, zero, suc, ◌+◌, ◌*◌, ◌/◌, ◌^◌, ◌<◌, ◌≤◌, Bool, true, false, ◌&&◌, T, eqb, ◌⊎◌, ℤ, pos, negsuc, sym, refl, ap, ◌∙◌, subst, inl, inr, true≢false, lt_of_lt_of_le, le_of_suc-le-suc, not-suc-le-zero, mul-le-mul_right, mul_assoc, div-lt_iff_lt-mul, add-mul, eq-or-lt_of_le, one-mul, le-div_iff_mul-le, zero-mul, mul-one, div-mul-le_self, mul_left_comm, arith, lit≤, eqb→eq, lt→ltb, ltb-false, ltb-true}
use native.Mathlib.Nat.{div-eq_of_lt-le, lt-div-mul-add, div-eq_of_lt}
use lib.Ieee.{Float, Format, fits, to_bits, nan, inf, fin, binary64, up, down, lt, add, of_int, of_bits, to_unsigned}
use lib.Ieee.Fits.{down_pos, and_l, and_r, add-fits}
use lib.Ieee.Bits.{of_bits-to_bits}
use Rattle.floats.specs.Floats.{channel_of}

-- a test that antt computes for each number below n
abbrev pub all : (ℕ → Bool) → ℕ → Bool
all f zero = true
all f (suc n) = f n && all f n

pub each : (f : ℕ → Bool) (n : ℕ) → T (all f n) → (k : ℕ) → k < n → T (f k)
each f zero t k h = absurd (not-suc-le-zero h)
each f (suc n) t k h = go (eq-or-lt_of_le (le_of_suc-le-suc h)) (each f n (and_r (f n) (all f n) t) k)
  where
    go : (k ≡ n) ⊎ (k < n) → (k < n → T (f k)) → T (f k)
    go (inl e) r = subst (λ (x : ℕ). T (f x)) (sym e) (and_l (f n) (all f n) t)
    go (inr l) r = r l

-- two values of a format with the same bits are equal
pub by_bits : (f : Format) (x y : Float) → T (fits f x) → T (fits f y) → T (eqb (to_bits f x) (to_bits f y)) → x ≡ y
by_bits f x y p q e = sym (of_bits-to_bits f x p) ∙ ap (of_bits f) (eqb→eq (to_bits f x) (to_bits f y) e) ∙ of_bits-to_bits f y q

-- c + 1/2
abbrev plus_half : ℕ → Float
plus_half c = add binary64 (of_int binary64 (pos c)) (of_bits binary64 0x3fe0_0000_0000_0000)

abbrev with_half : ℕ → Float
with_half c = fin false (2 * c + 1) (negsuc 0)

right : ℕ → Bool
right c = fits binary64 (with_half c) && eqb (to_bits binary64 (plus_half c)) (to_bits binary64 (with_half c))

all_right : T (all right 255)
unfolding right fits add of_int of_bits to_bits
all_right = tt

pub half_is : (c : ℕ) → c < 255 → plus_half c ≡ with_half c
unfolding right
half_is c h =
    let t = each right 255 all_right c h in
    let a = fits binary64 (with_half c) in
    let b = eqb (to_bits binary64 (plus_half c)) (to_bits binary64 (with_half c)) in
    by_bits binary64 (plus_half c) (with_half c) (add-fits binary64 (of_int binary64 (pos c)) (of_bits binary64 0x3fe0_0000_0000_0000)) (and_l a b t) (and_r a b t)

-- with c = N / D: where 2 N < (2 c + 1) D, c is nearest to N / D, and otherwise c + 1 is
module _ (N D : ℕ) (P : 0 < D) where
  twice : (c : ℕ) → c * (2 * D) ≡ 2 * (c * D)
  twice c = mul_left_comm c 2 D

  once : (c : ℕ) → (2 * c + 1) * 1 * D ≡ 2 * (c * D) + D
  once c = ap (λ (x : ℕ). x * D) (mul-one (2 * c + 1)) ∙ add-mul (2 * c) 1 D ∙ ap (λ (x : ℕ). x + 1 * D) (mul_assoc 2 c D) ∙ ap (λ (x : ℕ). 2 * (c * D) + x) (one-mul D)

  next : (c : ℕ) → (c + 1) * (2 * D) ≡ 2 * (c * D) + 2 * D
  next c = add-mul c 1 (2 * D) ∙ ap (λ (x : ℕ). x + 1 * (2 * D)) (twice c) ∙ ap (λ (x : ℕ). 2 * (c * D) + x) (one-mul (2 * D))

  stays : N * 2 < (2 * (N / D) + 1) * 1 * D → (2 * N + D) / (2 * D) ≡ N / D
  stays h =
      let c = N / D in
      let a = div-mul-le_self N D in
      let e = twice c in
      let f = once c in
      let g = next c in
      div-eq_of_lt-le {k = c} (2 * D) {m = 2 * N + D} (omega arith) (omega arith)

  rises : (2 * (N / D) + 1) * 1 * D ≤ N * 2 → (2 * N + D) / (2 * D) ≡ N / D + 1
  rises h =
      let c = N / D in
      let a = lt-div-mul-add {a = N} {b = D} P in
      let f = once c in
      let g = next c in
      let i = next (c + 1) in
      let j : (c + 1) * D ≡ c * D + D = add-mul c 1 D ∙ ap (λ (x : ℕ). c * D + x) (one-mul D) in
      div-eq_of_lt-le {k = c + 1} (2 * D) {m = 2 * N + D} (omega arith) (omega arith)

-- the tests of the code
abbrev zero' : Float
zero' = of_bits binary64 0

abbrev top' : Float
top' = of_bits binary64 0x406f_e000_0000_0000

below_255 : (m : ℕ) (e : ℤ) → lt (fin false m e) top' ≡ true → m * up e / down e < 255
unfolding lt of_bits
below_255 m e h = (div-lt_iff_lt-mul (down_pos e)).1 (subst (λ (x : ℕ). x < 255 * down e) (mul-one (m * up e)) (ltb-true (m * up e * 1) (255 * down e) h))

pub above_minus_one : (p : Float) → lt zero' p ≡ true → T (lt (fin true 1 (pos 0)) p)
unfolding lt of_bits
above_minus_one nan a = absurd (true≢false (sym a))
above_minus_one (inf true) a = absurd (true≢false (sym a))
above_minus_one (inf false) a = tt
above_minus_one (fin true m e) a = absurd (true≢false (sym a))
above_minus_one (fin false m e) a = lt→ltb 0 (1 * down e + m * up e * 1) (let d = down_pos e in let o = one-mul (down e) in omega arith)

pub below_2_64 : (p : Float) → lt p top' ≡ true → T (lt p (fin false 1 (pos 64)))
unfolding lt of_bits
below_2_64 nan b = absurd (true≢false (sym b))
below_2_64 (inf true) b = tt
below_2_64 (inf false) b = absurd (true≢false (sym b))
below_2_64 (fin true m e) b = lt→ltb 0 (m * up e * 1 + 2 ^ 64 * down e) (let d = down_pos e in omega arith)
below_2_64 (fin false m e) b =
    lt→ltb (m * up e * 1) (2 ^ 64 * down e) (lt_of_lt_of_le (ltb-true (m * up e * 1) (255 * down e) b) (mul-le-mul_right (down e) (lit≤ tt)))

-- what is cut off p is its fraction, and the rest is below 255
cut : (m : ℕ) (e : ℤ) → lt (fin false m e) top' ≡ true → to_unsigned 64 (fin false m e) ≡ m * up e / down e
unfolding to_unsigned
cut m e h = let l = below_255 m e h in omega arith

pub small : (p : Float) → lt zero' p ≡ true → lt p top' ≡ true → to_unsigned 64 p < 255
unfolding lt of_bits
small nan a b = absurd (true≢false (sym a))
small (inf true) a b = absurd (true≢false (sym a))
small (inf false) a b = absurd (true≢false (sym b))
small (fin true m e) a b = absurd (true≢false (sym a))
small (fin false m e) a b = subst (λ (x : ℕ). x < 255) (sym (cut m e b)) (below_255 m e b)

pub below_half : (p : Float) → lt zero' p ≡ true → lt p top' ≡ true → lt p (with_half (to_unsigned 64 p)) ≡ true → to_unsigned 64 p ≡ channel_of p
unfolding lt of_bits channel_of
below_half nan a b h = absurd (true≢false (sym a))
below_half (inf true) a b h = absurd (true≢false (sym a))
below_half (inf false) a b h = absurd (true≢false (sym b))
below_half (fin true m e) a b h = absurd (true≢false (sym a))
below_half (fin false m e) a b h =
    let u = cut m e b in
    let l = below_255 m e b in
    let t : m * up e * 2 < (2 * (m * up e / down e) + 1) * 1 * down e = ltb-true (m * up e * 2) ((2 * (m * up e / down e) + 1) * 1 * down e) (rw u at h) in
    let r = stays (m * up e) (down e) (down_pos e) t in
    omega arith

pub above_half : (p : Float) → lt zero' p ≡ true → lt p top' ≡ true → lt p (with_half (to_unsigned 64 p)) ≡ false → to_unsigned 64 p + 1 ≡ channel_of p
unfolding lt of_bits channel_of
above_half nan a b h = absurd (true≢false (sym a))
above_half (inf true) a b h = absurd (true≢false (sym a))
above_half (inf false) a b h = absurd (true≢false (sym b))
above_half (fin true m e) a b h = absurd (true≢false (sym a))
above_half (fin false m e) a b h =
    let u = cut m e b in
    let l = below_255 m e b in
    let t : (2 * (m * up e / down e) + 1) * 1 * down e ≤ m * up e * 2 = ltb-false (m * up e * 2) ((2 * (m * up e / down e) + 1) * 1 * down e) (rw u at h) in
    let r = rises (m * up e) (down e) (down_pos e) t in
    omega arith

-- 255 for p at or above 255
pub from_255 : (p : Float) → lt zero' p ≡ true → lt p top' ≡ false → 255 ≡ channel_of p
unfolding lt of_bits channel_of
from_255 nan a b = absurd (true≢false (sym a))
from_255 (inf true) a b = absurd (true≢false (sym a))
from_255 (inf false) a b = refl
from_255 (fin true m e) a b = absurd (true≢false (sym a))
from_255 (fin false m e) a b =
    let N = m * up e in
    let D = down e in
    let t : 255 * D ≤ N = subst (λ (x : ℕ). 255 * D ≤ x) (mul-one N) (ltb-false (N * 1) (255 * D) b) in
    let d = down_pos e in
    let r : 255 ≤ (2 * N + D) / (2 * D) = (le-div_iff_mul-le {k = 2 * D} {x = 255} {y = 2 * N + D} (omega arith)).1 (omega (arith, mul_left_comm 255 2 D)) in
    omega arith

-- 0 for p at or below 0, and for a NaN, which is not above 0
pub to_0 : (p : Float) → lt zero' p ≡ false → 0 ≡ channel_of p
unfolding lt of_bits channel_of
to_0 nan a = refl
to_0 (inf true) a = refl
to_0 (inf false) a = absurd (true≢false a)
to_0 (fin true m e) a = refl
to_0 (fin false m e) a =
    let N = m * up e in
    let D = down e in
    let z = zero-mul D in
    let o = mul-one N in
    let t : N * 1 ≤ 0 * D = ltb-false (0 * D) (N * 1) a in
    let d = down_pos e in
    let r : (2 * N + D) / (2 * D) ≡ 0 = div-eq_of_lt {n = 2 * N + D} {m = 2 * D} (omega arith) in
    omega arith

-- The rule in its own words. p is N / D, N = m * up e and D = down e: c - 1/2 ≤ p is 2 c D ≤ 2 N + D, p < c + 1/2 is 2 N < 2 c D + D.
rounded_nearest : (N D : ℕ) → 0 < D → let c = (2 * N + D) / (2 * D) in (2 * (c * D) ≤ 2 * N + D) × (2 * N < 2 * (c * D) + D)
rounded_nearest N D P =
    let c = (2 * N + D) / (2 * D) in
    let e = twice N D P c in
    let a = div-mul-le_self (2 * N + D) (2 * D) in
    let b = lt-div-mul-add {a = 2 * N + D} {b = 2 * D} (omega arith) in
    (omega arith, omega arith)

rounded_only : (N D c : ℕ) → 0 < D → 2 * (c * D) ≤ 2 * N + D → 2 * N < 2 * (c * D) + D → (2 * N + D) / (2 * D) ≡ c
rounded_only N D c P a b =
    let e = twice N D P c in
    let g = next N D P c in
    div-eq_of_lt-le {k = c} (2 * D) {m = 2 * N + D} (omega arith) (omega arith)

below_256 : (m : ℕ) (e : ℤ) → m * up e < 255 * down e → (2 * (m * up e) + down e) / (2 * down e) < 256
below_256 m e h =
    let D = down e in
    let d = down_pos e in
    (div-lt_iff_lt-mul {k = 2 * D} {x = 2 * (m * up e) + D} {y = 256} (omega arith)).1 (omega (arith, mul_left_comm 256 2 D))

-- c - 1/2 ≤ p < c + 1/2 for the channel c of a p from 0 to below 255
pub channel_nearest : (m : ℕ) (e : ℤ) (c : ℕ) → m * up e < 255 * down e → c ≡ channel_of (fin false m e)
    → (2 * (c * down e) ≤ 2 * (m * up e) + down e) × (2 * (m * up e) < 2 * (c * down e) + down e)
unfolding channel_of
channel_nearest m e c h i =
    let l = below_256 m e h in
    let s : c ≡ (2 * (m * up e) + down e) / (2 * down e) = omega arith in
    rw s (rounded_nearest (m * up e) (down e) (down_pos e))

-- and the channel is the only c with c - 1/2 ≤ p < c + 1/2
pub channel_only : (m : ℕ) (e : ℤ) (c : ℕ) → m * up e < 255 * down e → 2 * (c * down e) ≤ 2 * (m * up e) + down e → 2 * (m * up e) < 2 * (c * down e) + down e
    → c ≡ channel_of (fin false m e)
unfolding channel_of
channel_only m e c h a b =
    let l = below_256 m e h in
    let r = rounded_only (m * up e) (down e) c (down_pos e) a b in
    omega arith
