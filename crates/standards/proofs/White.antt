-- hsl() at full lightness is white.
use Prim.Native.Nat.{ℕ, ◌+◌, ◌-◌, ◌*◌, ◌/◌, ◌^◌, ◌≤◌, ◌<◌}
use mathlib.Core.Bool.{Bool, true, false, not, beq}
use mathlib.Core.Path.{◌≡◌, refl, sym, ap, ◌∙◌}
use native.Mathlib.Nat.{mul-one, one-mul, mul_assoc, mul_comm, mul_left_comm, mul_right_comm, mul-pos, add-mul, mul-add, mul-le-mul_left, mul-le-mul_right, mul-le-mul, le_trans, le_of_eq, le_of_lt, lt_of_lt_of_le, le_of_mul-le-mul_right, div-mul-le_self, lt-div-mul-add, le-div_iff_mul-le}
use native.Mathlib.Omega.{arith}
use borrow.Author.Tests.{lt-ltb}
use lib.Dec.{T, ltb, lit<, lit≤}
use lib.IntN.{ℤ}
use lib.Pow.{pow-add, pow_pos, pow_mono, shl_lt}
use lib.Ieee.{Float, nan, inf, fin, Format, binary32, up, down, round, sum, add, sub, mul, lt, le, eq, of_bits, is_nan}
use lib.Ieee.Exact.{HasValue, round_exact}
use lib.Ieee.Fits.{down_pos}
use lib.Ieee.Order.{round_mono}
use lib.Ieee.Scale.{finite}
use lib.Ieee.Positive.{positive, num, den, den_pos, own_value, positive_of_value, values_of_le, between}
use Rattle.text_bytes.proofs.Ranges.{either}
use Rattle.floats.specs.Floats.{narrowed, channel_of, clamped, d1}
use Rattle.floats.proofs.Bounds.{Within, wider, round_within}
use Rattle.color.specs.Hsl.{s05, s1, s2, s4, s255, raised, lessened, sector, hue_to_rgb, upper, under, lit, hsl_color}
use Rattle.color.specs.Hex.{rgba}
use Rattle.standards.specs.Ieee754.{Fraction, parameters, Finite, Delivered, RoundsTo, units, distance}
use Rattle.standards.proofs.Rounding.{round_rounds}
use Rattle.standards.proofs.Operands.{mul_values, add_values, sub_values, taken}
use Rattle.standards.proofs.Lightness.{Held, clamped_held, blend, each_sector, each_held, like, own, one_value, whole_value, around, off_four, held_grey, every_channel}

-- n / 2 ^ k is a single
grid : (n k : ℕ) → n < 2 ^ 24 → k ≤ 149 → HasValue (round binary32 false n (2 ^ k)) false n (2 ^ k)
grid n k h l =
    let i : 149 - k + k ≡ 149 = omega arith in
    let p : n * 2 ^ 149 ≡ n * 2 ^ (149 - k) * 2 ^ k = ap (λ (z : ℕ). n * z) (ap (λ (z : ℕ). 2 ^ z) (sym i) ∙ pow-add 2 (149 - k) k) ∙ sym (mul_assoc n (2 ^ (149 - k)) (2 ^ k)) in
    round_exact binary32 false n (2 ^ k) n (149 - k) (pow_pos k) h (lt_of_lt_of_le (shl_lt 24 (149 - k) h) (pow_mono {i = 24 + (149 - k)} {j = 277} (omega arith))) p

-- above 0, and between lo and hi 2 ^ k-ths
record In (k lo hi : ℕ) (x : Float) : Type 0 where
  is_positive : T (positive x)
  from : lo * den x ≤ num x * 2 ^ k
  to : num x * 2 ^ k ≤ hi * den x

-- what lies so is rounded so
round_in : (k lo hi a c : ℕ) → k ≤ 149 → 0 < lo → lo < 2 ^ 24 → 0 < hi → hi < 2 ^ 24 → 0 < c → lo * c ≤ a * 2 ^ k → a * 2 ^ k ≤ hi * c → In k lo hi (round binary32 false a c)
round_in k lo hi a c K P p Q q C l h =
    let x = round binary32 false lo (2 ^ k) in
    let y = round binary32 false hi (2 ^ k) in
    let z = round binary32 false a c in
    let v = grid lo k p K in
    let w = grid hi k q K in
    let xp = positive_of_value x lo (2 ^ k) v P in
    let yp = positive_of_value y hi (2 ^ k) w Q in
    let xz = round_mono binary32 lo (2 ^ k) a c (pow_pos k) C l in
    let zy = round_mono binary32 a c hi (2 ^ k) C (pow_pos k) h in
    let zp = between x z y xp yp xz zy in
    record {
      is_positive = zp;
      from = values_of_le x z lo (2 ^ k) (num z) (den z) xp zp v (own_value z zp) xz;
      to = values_of_le z y (num z) (den z) hi (2 ^ k) zp yp (own_value z zp) w zy;
    }

-- no larger than 1 over 2 ^ k, of either sign
abbrev Small : ℕ → Float → Type 0
Small k nan = ⊥
Small k (inf s) = ⊥
Small k (fin s m e) = m * up e * 2 ^ k ≤ down e

no_farther : (x y n : ℕ) → n ≤ y → (x - n) + (n - x) ≤ (y - n) + (n - y) → x ≤ y
no_farther x y n l h = omega arith

round_small : (s : Bool) (a c k : ℕ) → k ≤ 149 → 0 < c → a * 2 ^ k ≤ c → Small k (round binary32 s a c)
round_small s a c k K C h = go (round binary32 s a c) (round_rounds binary32 q C) (round_within binary32 s a c 0 C (lit≤ tt) (omega (arith, small)))
  where
    q : Fraction
    q = record { minus = s; over = a; under = c }

    small : a ≤ c
    small = le_trans (le_trans (le_of_eq (sym (mul-one a))) (mul-le-mul {n₁ = a} {m₁ = 1} {n₂ = a} {m₂ = 2 ^ k} (omega arith) (pow_pos k))) h

    J : ℕ
    J = 2 ^ (149 - k)

    full : J * 2 ^ k ≡ 2 ^ 149
    full = let i : 149 - k + k ≡ 149 = omega arith in sym (pow-add 2 (149 - k) k) ∙ ap (λ (z : ℕ). 2 ^ z) i

    go : (v : Float) → RoundsTo (parameters binary32) q v → Within 0 v → Small k v
    go nan r w = absurd w
    go (inf t) r w = absurd w
    go (fin t m e) r w =
        let y : Finite (parameters binary32) = record { c = 1; k = 149 - k; digits = lit< tt; exponent = omega arith } in
        let near : distance q r.x ≤ distance q y = r.nearest y in
        let above : a * 2 ^ 149 ≤ 1 * J * c =
        le_trans (le_of_eq (ap (λ (z : ℕ). a * z) (sym full) ∙ ap (λ (z : ℕ). a * z) (mul_comm J (2 ^ k)) ∙ sym (mul_assoc a (2 ^ k) J)))
        (le_trans (mul-le-mul_right J h) (le_of_eq (mul_comm c J ∙ ap (λ (z : ℕ). z * c) (sym (one-mul J))))) in
        let b : units r.x ≤ 1 * J = le_of_mul-le-mul_right {m = units r.x} {n = 1 * J} {k = c} (no_farther (units r.x * c) (1 * J * c) (a * 2 ^ 149) above near) C in
        let i : m * up e * 2 ^ k * J ≡ m * up e * 2 ^ 149 = mul_assoc (m * up e) (2 ^ k) J ∙ ap (λ (z : ℕ). m * up e * z) (mul_comm (2 ^ k) J ∙ full) in
        le_of_mul-le-mul_right {m = m * up e * 2 ^ k} {n = down e} {k = J}
        (le_trans (le_of_eq (i ∙ r.value)) (le_trans (mul-le-mul_right (down e) b) (le_of_eq (ap (λ (z : ℕ). z * down e) (one-mul J) ∙ mul_comm J (down e))))) (pow_pos (149 - k))

-- the bounds below are counted in parts of 1, K of them
abbrev K : ℕ
K = 2 ^ 20

joined_sum : (f : Format) (a b c : ℕ) → sum f false a false b c ≡ round f false (a + b) c
unfolding sum
joined_sum f a b c = refl

sum_small : (a b c k : ℕ) → k ≤ 149 → 0 < c → (a - b) * 2 ^ k ≤ c → (b - a) * 2 ^ k ≤ c → Small k (sum binary32 false a true b c)
unfolding sum
sum_small a b c k L C p q = either (ltb a b) (λ e. rw e (round_small true (b - a) c k L C q)) (λ e. rw e (round_small false (a - b) c k L C p))

mul_small : (x y : Float) → Small 19 x → Within 8 y → Small 11 (mul binary32 x y)
unfolding mul
mul_small nan y p w = absurd p
mul_small (inf s) y p w = absurd p
mul_small (fin s m e) nan p w = absurd w
mul_small (fin s m e) (inf t) p w = absurd w
mul_small (fin s m e) (fin t n d) p w =
    let i : m * up e * 2 ^ 19 * (n * up d) ≤ down e * (2 ^ 8 * down d) = mul-le-mul p w in
    let j : m * up e * 2 ^ 19 * (n * up d) ≡ m * up e * (n * up d) * 2 ^ 19 = mul_right_comm (m * up e) (2 ^ 19) (n * up d) in
    let k : down e * (2 ^ 8 * down d) ≡ 2 ^ 8 * (down e * down d) = mul_left_comm (down e) (2 ^ 8) (down d) in
    round_small (not (beq s t)) (m * up e * (n * up d)) (down e * down d) 11 (lit≤ tt) (mul-pos (down_pos e) (down_pos d)) (omega arith)

half_one : le s1 s05 ≡ false
unfolding le lt eq of_bits
half_one = refl

two_ones : HasValue (mul binary32 s1 s2) false 2 1
unfolding mul of_bits round
two_ones = (refl, refl)

-- near enough to 1 that 255 of it is channel 255
abbrev Bright : Float → Type 0
Bright x = In 20 (K - 1024) (2 * K) x

-- within one part of 1
abbrev Near : Float → Type 0
Near x = In 20 (K - 1) (K + 1) x

bright : (x : Float) → Near x → Bright x
bright x n = record { is_positive = n.is_positive; from = omega (arith, n.from); to = omega (arith, n.to) }

-- the product of a bound by what stands on the other side
spread : (lo hi n d c : ℕ) → lo * d ≤ n * 2 ^ 20 → n * 2 ^ 20 ≤ hi * d → (lo * (d * c) ≤ n * c * 2 ^ 20) × (n * c * 2 ^ 20 ≤ hi * (d * c))
spread lo hi n d c p q = (
  le_trans (le_of_eq (sym (mul_assoc lo d c))) (le_trans (mul-le-mul_right c p) (le_of_eq (mul_right_comm n (2 ^ 20) c))),
  le_trans (le_of_eq (mul_right_comm n c (2 ^ 20))) (le_trans (mul-le-mul_right c q) (le_of_eq (mul_assoc hi d c))),
)

-- 2 less something near 1, and two such taken from each other
two_less : (x : Float) → Near x → Near (sub binary32 (mul binary32 s1 s2) x)
two_less x n =
    let d = den x in
    let D : 0 < d = den_pos x in
    rw (sub_values binary32 false 2 1 false (num x) d (lit< tt) D (mul binary32 s1 s2) x two_ones (own_value x n.is_positive), taken binary32 (2 * d) (num x * 1) (1 * d) (omega (arith, n.to)))
    (round_in 20 (K - 1) (K + 1) (2 * d - num x * 1) (1 * d) (lit≤ tt) (lit< tt) (lit< tt) (lit< tt) (lit< tt) (omega (arith, D)) (omega (arith, n.to)) (omega (arith, n.from, n.to)))

apart : (x y : Float) → Near x → Near y → Small 19 (sub binary32 x y)
apart x y n o =
    let a = num x * den y in
    let b = num y * den x in
    let c = den x * den y in
    let p = spread (K - 1) (K + 1) (num x) (den x) (den y) n.from n.to in
    let q = spread (K - 1) (K + 1) (num y) (den y) (den x) o.from o.to in
    let e : den y * den x ≡ c = mul_comm (den y) (den x) in
    rw (sub_values binary32 false (num x) (den x) false (num y) (den y) (den_pos x) (den_pos y) x y (own_value x n.is_positive) (own_value y o.is_positive))
    (sum_small a b c 19 (lit≤ tt) (mul-pos (den_pos x) (den_pos y)) (omega (arith, p.0, p.1, q.0, q.1, e)) (omega (arith, p.0, p.1, q.0, q.1, e)))

-- something small added to what is near 1
nudged : (x y : Float) → Small 11 x → Near y → Bright (add binary32 x y)
nudged nan y p n = absurd p
nudged (inf s) y p n = absurd p
nudged (fin s m e) y p n = rw (add_values binary32 s a d false (num y) (den y) (down_pos e) (den_pos y) (fin s m e) y (refl, refl) (own_value y n.is_positive)) (go s)
  where
    a : ℕ
    a = m * up e

    d : ℕ
    d = down e

    c : ℕ
    c = d * den y

    cp : 0 < c
    cp = mul-pos (down_pos e) (den_pos y)

    i : a * den y * 2 ^ 11 ≤ c
    i = le_trans (le_of_eq (mul_right_comm a (den y) (2 ^ 11))) (mul-le-mul_right (den y) p)

    j : ((K - 1) * (den y * d) ≤ num y * d * 2 ^ 20) × (num y * d * 2 ^ 20 ≤ (K + 1) * (den y * d))
    j = spread (K - 1) (K + 1) (num y) (den y) d n.from n.to

    k : den y * d ≡ c
    k = mul_comm (den y) d

    go : (s : Bool) → Bright (sum binary32 s (a * den y) false (num y * d) c)
    go true =
        let l : a * den y < num y * d = omega (arith, i, j.0, k, cp) in
        unfold sum in rw (lt-ltb (a * den y) (num y * d) l) (round_in 20 (K - 1024) (2 * K) (num y * d - a * den y) c (lit≤ tt) (lit< tt) (lit< tt) (lit< tt) (lit< tt) cp (omega (arith, i, j.0, k)) (omega (arith, j.1, k)))
    go false =
        rw (joined_sum binary32 (a * den y) (num y * d) c)
        (round_in 20 (K - 1024) (2 * K) (a * den y + num y * d) c (lit≤ tt) (lit< tt) (lit< tt) (lit< tt) (lit< tt) cp (omega (arith, j.0, k)) (omega (arith, i, j.1, k)))

-- 255 of it
least_channel : (x : Float) → In 1 509 1020 x → channel_of x ≡ 255
unfolding channel_of
least_channel nan h = absurd h.is_positive
least_channel (inf s) h = absurd h.is_positive
least_channel (fin true m e) h = absurd h.is_positive
least_channel (fin false m e) h =
    let d = down_pos e in
    let r : 255 ≤ (2 * (m * up e) + down e) / (2 * down e) = (le-div_iff_mul-le {k = 2 * down e} {x = 255} {y = 2 * (m * up e) + down e} (omega arith)).1 (omega (arith, h.from)) in
    omega arith

bright_channel : (x : Float) → Bright x → channel_of (mul binary32 x s255) ≡ 255
bright_channel x h =
    least_channel (mul binary32 x s255)
    (rw (mul_values binary32 false (num x) (den x) false 255 1 (den_pos x) (lit< tt) x s255 (own_value x h.is_positive) whole_value)
    (round_in 1 509 1020 (num x * 255) (den x * 1) (lit≤ tt) (lit< tt) (lit< tt) (lit< tt) (lit< tt) (omega (arith, den_pos x)) (omega (arith, h.from)) (omega (arith, h.to))))

-- a saturation between 0 and 1, and its whole parts
module _ (q : Fraction) (m : ℕ) (e : ℤ) (D : Delivered (parameters binary32) q false m e) (u : m * up e ≤ down e) where
  abbrev S : Float
  S = fin false m e

  abbrev A : ℕ
  A = m * up e

  abbrev B : ℕ
  B = down e

  BP : 0 < B
  BP = down_pos e

  abbrev j : ℕ
  j = A * K / B

  j_low : j * B ≤ A * K
  j_low = div-mul-le_self (A * K) B

  j_high : A * K < j * B + B
  j_high = lt-div-mul-add BP

  j_le : j ≤ K
  j_le = le_of_mul-le-mul_right {m = j} {n = K} {k = B} (omega (arith, j_low, u)) BP

  above_one : In 20 (K + j) (K + j + 1) (add binary32 s1 S)
  above_one =
      let i : (K + j) * (1 * B) ≡ K * B + j * B = rw (one-mul B) (add-mul K j B) in
      let k : (K + j + 1) * (1 * B) ≡ K * B + j * B + B = rw (one-mul B, add-mul (K + j) 1 B, add-mul K j B, one-mul B) refl in
      rw (add_values binary32 false 1 1 false A B (lit< tt) BP s1 S one_value (own q m e D u), joined_sum binary32 (1 * B) (A * 1) (1 * B))
      (round_in 20 (K + j) (K + j + 1) (1 * B + A * 1) (1 * B) (lit≤ tt) (omega arith) (omega (arith, j_le)) (omega arith) (omega (arith, j_le)) (omega (arith, BP)) (omega (arith, i, j_low)) (omega (arith, k, j_high)))

  once : HasValue (mul binary32 s1 S) false A B
  once =
      rw (mul_values binary32 false 1 1 false A B (lit< tt) BP s1 S one_value (own q m e D u))
      (like q m e D u (1 * A) (1 * B) (omega (arith, BP)) (rw (one-mul A, one-mul B) refl))

  upper_near : Near (upper S s1)
  upper_near =
      let x = add binary32 s1 S in
      let n = num x in
      let d = den x in
      let p = spread (K + j) (K + j + 1) n d B above_one.from above_one.to in
      let i : (K + j) * (d * B) ≡ K * (d * B) + j * (d * B) = add-mul K j (d * B) in
      let k : (K + j + 1) * (d * B) ≡ K * (d * B) + j * (d * B) + d * B = rw (add-mul (K + j) 1 (d * B), add-mul K j (d * B), one-mul (d * B)) refl in
      let l : j * (d * B) ≤ A * d * K = le_trans (le_of_eq (mul_left_comm j d B)) (le_trans (mul-le-mul_left d j_low) (le_of_eq (mul_left_comm d A K ∙ sym (mul_assoc A d K)))) in
      let r : A * d * K ≤ j * (d * B) + d * B =
      le_trans (le_of_eq (mul_assoc A d K ∙ mul_left_comm A d K)) (le_trans (mul-le-mul_left d (le_of_lt j_high)) (le_of_eq (mul-add d (j * B) B ∙ ap (λ (z : ℕ). z + d * B) (mul_left_comm d j B)))) in
      rw (half_one, sub_values binary32 false n d false A B (den_pos x) BP x (mul binary32 s1 S) (own_value x above_one.is_positive) once, taken binary32 (n * B) (A * d) (d * B) (omega (arith, p.0, i, r, mul-pos (den_pos x) BP)))
      (round_in 20 (K - 1) (K + 1) (n * B - A * d) (d * B) (lit≤ tt) (lit< tt) (lit< tt) (lit< tt) (lit< tt) (mul-pos (den_pos x) BP) (omega (arith, p.0, i, r)) (omega (arith, p.1, k, l, p.0, i, r)))

  under_near : Near (under S s1)
  under_near = two_less (upper S s1) upper_near

  mixed : (k : Float) → Within 8 k → Bright (blend (under S s1) (upper S s1) k)
  mixed k w = nudged (mul binary32 (sub binary32 (upper S s1) (under S s1)) k) (under S s1) (mul_small (sub binary32 (upper S s1) (under S s1)) k (apart (upper S s1) (under S s1) upper_near under_near) w) under_near

  sector_bright : (h : Float) → Within 7 h → Bright (sector (under S s1) (upper S s1) h)
  sector_bright h w =
      each_sector Bright (under S s1) (upper S s1) h (bright (under S s1) under_near) (bright (upper S s1) upper_near) (mixed h (wider 7 8 h (lit≤ tt) w)) (mixed (sub binary32 s4 h) (off_four h w))

  white_lit : (h : Float) → Within 5 h → lit S s1 h ≡ 255
  unfolding hue_to_rgb
  white_lit h w = bright_channel (sector (under S s1) (upper S s1) (lessened (raised h))) (sector_bright (lessened (raised h)) (around h w))

held_white : (h : Float) → Within 5 h → (x : Float) → Held x → lit (narrowed x) (narrowed d1) h ≡ 255
unfolding narrowed of_bits round channel_of mul
held_white h w = each_held (λ v. lit v s1 h ≡ 255) (λ x z. held_grey x z h w d1 (lit≤ tt)) (λ q m e D u. white_lit q m e D u h w)

clamped_one : clamped d1 ≡ d1
unfolding lt of_bits
clamped_one = refl

-- a lightness of 1 is white, whatever the hue and the saturation
pub white : (hue s : Float) → T (finite hue) → T (not (is_nan s)) → hsl_color hue s d1 ≡ rgba 255 255 255 255
white hue s f n = every_channel hue s d1 255 f (λ h w. rw clamped_one (held_white h w (clamped s) (clamped_held s n)))
