-- The channels and colours of CSS Color 3's values: what the reader computes is what the document says, clipped.
use Prim.Native.Nat.{ℕ, zero, suc, ◌+◌, ◌-◌, ◌*◌, ◌/◌, ◌%◌, ◌^◌, ◌≤◌, ◌<◌, min}
use mathlib.Core.Bool.{Bool, true, false, cond}
use mathlib.Core.Path.{◌≡◌, refl, sym, ap, ◌∙◌}
use native.Mathlib.Nat.{mul-one, mul_assoc, mul_left_comm, mul_right_comm, add-mul, div-eq_of_lt-le, le_of_mul-le-mul_right, mul-le-mul_right, mul-le-mul, le_trans, le_of_eq, zero-mul, pow-le-pow_right, mul-div_cancel, mul-mod_left, mod-lt, add-mod_right, mod-mod, mod-eq_of_lt, mul-lt-mul_of_pos_right}
use native.Mathlib.Omega.{arith}
use borrow.Author.Tests.{ltb-true, ltb-false, lt-ltb}
use lib.Dec.{T, ltb, lit<, lit≤}
use lib.IntN.{pos}
use lib.Ieee.{Float, nan, inf, fin, Format, binary64, prec, low, emax, up, down, odd, units, round, mul, div, sum, add, rem, neg, lt, le, of_bits, fits}
use lib.Ieee.Back.{round_whole, whole_unique}
use lib.Arith.{mod-mul}
use lib.Pow.{pow-add}
use lib.Ieee.Bits.{of_bits-fits}
use lib.Ieee.Exact.{HasValue}
use lib.Ieee.Fits.{down_pos, div-fits}
use lib.Ieee.Order.{round_mono}
use lib.Ieee.Positive.{positive, positive_of_value, above, above_of_le, le→cross, value→cross, num, den, den_pos}
use lib.Ieee.Scale.{round_same}
use Rattle.text_bytes.proofs.Ranges.{either}
use Rattle.floats.specs.Floats.{channel_of, clamped, d0, d1, sign_of}
use Rattle.numbers.specs.Powers.{hundred}
use Rattle.color.specs.Color.{scaled_channel}
use Rattle.color.specs.Hsl.{d360, turned, hsl_color}
use Rattle.standards.specs.Ieee754.{double}
use Rattle.standards.specs.CssValues3.{is_minus, joined, fraction_digits, power, falls, Number, exactly}
use Rattle.standards.specs.CssColor3.{Integer, as_number, size, channel, degrees}
use Rattle.standards.specs.Domain.{Near, InDomain}
use Rattle.standards.specs.Answers.{portion}
use Rattle.standards.proofs.Doubles.{under_pos}
use Rattle.standards.proofs.Signs.{round_sign, double_sign, hundredth_sign}

-- an integer is its size over 1
pub integer_double : (i : Integer) → double (exactly (as_number i)) ≡ round binary64 (is_minus i.signed) (size i) 1
unfolding double exactly joined fraction_digits power falls
integer_double i = rw (mul-one (size i))

-- n + 1/2 cut to a whole number is n
whole_nearest : (n d : ℕ) → 0 < d → (2 * (n * d) + d) / (2 * d) ≡ n
whole_nearest n d h =
    let a : n * (2 * d) ≡ 2 * (n * d) = mul_left_comm n 2 d in
    let b : (n + 1) * (2 * d) ≡ n * (2 * d) + 1 * (2 * d) = add-mul n 1 (2 * d) in
    div-eq_of_lt-le {k = n} (2 * d) {m = 2 * (n * d) + d} (omega arith) (omega arith)

value_channel : (x : Float) (s : Bool) (n : ℕ) → HasValue x s n 1 → channel_of x ≡ cond s 0 (min 255 n)
unfolding channel_of
value_channel nan s n v = absurd v
value_channel (inf t) s n v = absurd v
value_channel (fin t m e) s n v =
    let p : m * up e ≡ n * down e = sym (mul-one (m * up e)) ∙ v.1 in
    rw (v.0, p, whole_nearest n (down e) (down_pos e))

-- THEOREM. The channel of an integer is the integer, clipped to 0 .. 255.
pub integer_channel : (i : Integer) → InDomain (as_number i) → channel_of (double (exactly (as_number i))) ≡ channel i
unfolding channel joined
integer_channel i ok =
    rw (integer_double i)
    (value_channel _ (is_minus i.signed) (size i) (round_whole binary64 (is_minus i.signed) (size i) (omega (arith, ok.small))))

-- below zero, times 255
mul_minus : (f : Format) (x : Float) → sign_of x ≡ true → sign_of (mul f x (fin false 255 (pos 0))) ≡ true
unfolding mul
mul_minus f nan e = cc
mul_minus f (inf true) e = refl
mul_minus f (inf false) e = cc
mul_minus f (fin true m d) e = round_sign f true (m * up d * (255 * 1)) (down d * 1)
mul_minus f (fin false m d) e = cc

minus_channel : (x : Float) → sign_of x ≡ true → channel_of x ≡ 0
unfolding channel_of
minus_channel nan e = refl
minus_channel (inf true) e = refl
minus_channel (inf false) e = cc
minus_channel (fin true m d) e = refl
minus_channel (fin false m d) e = cc

pub minus_scaled : (f : Format) (x : Float) → sign_of x ≡ true → channel_of (mul f x (fin false 255 (pos 0))) ≡ 0
minus_scaled f x e = minus_channel (mul f x (fin false 255 (pos 0))) (mul_minus f x e)

-- at or above n / k
abbrev AtLeast : ℕ → ℕ → Float → Type 0
AtLeast n k nan = ⊥
AtLeast n k (inf s) = s ≡ false
AtLeast n k (fin s m e) = (s ≡ false) × (n * down e ≤ m * up e * k)

-- what is at or above n / k is rounded so, if n / k is a double
round_least : (a c n k : ℕ) → 0 < c → 0 < k → 0 < n → HasValue (round binary64 false n k) false n k → n * c ≤ a * k → AtLeast n k (round binary64 false a c)
round_least a c n k C K P v l =
    let x = round binary64 false n k in
    let y = round binary64 false a c in
    let p = positive_of_value x n k v P in
    let h : T (le x y) = round_mono binary64 n k a c K C l in
    go x p v y (above_of_le x y p h) h
  where
    go : (x : Float) → T (positive x) → HasValue x false n k → (y : Float) → T (above y) → T (le x y) → AtLeast n k y
    go x p v nan a h = absurd a
    go x p v (inf true) a h = absurd a
    go x p v (inf false) a h = refl
    go x p v (fin true m e) a h = absurd a
    go x p v (fin false m e) a h =
        let z : num x * k ≡ n * den x = value→cross x n k v in
        let j : num x * down e ≤ m * up e * den x = le→cross x (fin false m e) p a h in
        let w : n * down e * den x ≡ num x * down e * k = mul_right_comm n (down e) (den x) ∙ ap (λ (i : ℕ). i * down e) (sym z) ∙ mul_right_comm (num x) k (down e) in
        let u : num x * down e * k ≤ m * up e * k * den x = le_trans (mul-le-mul_right k j) (le_of_eq (mul_right_comm (m * up e) (den x) k)) in
        (refl, le_of_mul-le-mul_right {m = n * down e} {n = m * up e * k} {k = den x} (le_trans (le_of_eq w) u) (den_pos x))

module _ (n k i j : ℕ) (J : 0 < j) (P : 0 < i) (v : HasValue (round binary64 false i j) false i j) where
  -- i / j is at most n / k over 100
  div_least : ((p q : ℕ) → n * q ≤ p * k → i * (100 * q) ≤ p * 1 * j) → (x : Float) → AtLeast n k x → AtLeast i j (div binary64 x hundred)
  unfolding div of_bits
  div_least step nan h = absurd h
  div_least step (inf true) h = cc
  div_least step (inf false) h = refl
  div_least step (fin true m e) h = absurd (let z : ◌≡◌ {A = ℕ} 0 1 = cc in omega arith)
  div_least step (fin false m e) h = round_least (m * up e * 1) (25 * 4 * down e) i j (omega (arith, down_pos e)) J P v (step (m * up e) (down e) h.1)

whole_value : (n : ℕ) → n ≤ 2 ^ 53 → HasValue (round binary64 false n 1) false n 1
whole_value n h = round_whole binary64 false n h

part_least : (x : Float) → AtLeast 100 1 x → AtLeast 1 1 (div binary64 x hundred)
part_least x h = div_least 100 1 1 1 (lit< tt) (lit< tt) (whole_value 1 (lit≤ tt)) (λ p q l. omega arith) x h

least_clamped : (x : Float) → T (fits binary64 x) → AtLeast 1 1 x → clamped x ≡ d1
unfolding lt of_bits
least_clamped nan f h = absurd h
least_clamped (inf true) f h = cc
least_clamped (inf false) f h = refl
least_clamped (fin true m e) f h = absurd (let z : ◌≡◌ {A = ℕ} 0 1 = cc in omega arith)
least_clamped (fin false m e) f h =
    either (ltb (m * up e * 1) (0 * down e))
    (λ t. absurd (omega (arith, ltb-true (m * up e * 1) (0 * down e) t)))
    (λ t. either (ltb (1 * down e) (m * up e * 1))
    (λ u. simp (t, u))
    (λ u. simp (t, u) (whole_unique binary64 (fin false m e) d1 false 1 f (of_bits-fits binary64 0x3ff0_0000_0000_0000)
    (refl, omega (arith, h.1, ltb-false (1 * down e) (m * up e * 1) u)) (refl, refl))))

double_least : (t : Number) (n : ℕ) → 0 < n → n ≤ 2 ^ 53 → (exactly t).minus ≡ false → n * (exactly t).under ≤ (exactly t).over → AtLeast n 1 (double (exactly t))
unfolding double
double_least t n p h e l = rw e (round_least (exactly t).over (exactly t).under n 1 (under_pos t) (lit< tt) p (whole_value n h) (omega arith))

-- an alpha below 0 is 0, and so is a percentage
module _ (t : Number) (e : (exactly t).minus ≡ true) where
  pub alpha_below : scaled_channel (double (exactly t)) ≡ 0
  unfolding of_bits
  alpha_below = minus_scaled binary64 _ (double_sign (exactly t) ∙ e)

  pub percent_below : scaled_channel (portion t) ≡ 0
  unfolding of_bits
  percent_below = minus_scaled binary64 _ (hundredth_sign _ ∙ (double_sign (exactly t) ∙ e))

-- hues, and values of hsl() outside 0% .. 100%
rem_360 : (x : Float) (s : Bool) (n : ℕ) → HasValue x s n 1 → rem binary64 x d360 ≡ round binary64 s (n % 360) 1
unfolding rem of_bits
rem_360 nan s n v = absurd v
rem_360 (inf t) s n v = absurd v
rem_360 (fin t m e) s n v =
    let d = down e in
    let p : m * up e * 1 ≡ n * d = v.1 in
    let q : n * d % (360 * d) ≡ n % 360 * d =
    mod-mul (n * d) {m = 360} {c = d} (lit< tt) (down_pos e)
    ∙ rw (mul-div_cancel n (down_pos e), mul-mod_left n d) (omega arith) in
    rw (v.0, p, q) (round_same binary64 s (n % 360 * d) (d * 1) (n % 360) 1 (omega (arith, down_pos e)) (lit< tt) (mul_assoc (n % 360) d 1))

add_360 : (x : Float) (s : Bool) (n : ℕ) → n < 360 → HasValue x s n 1 → add binary64 x d360 ≡ round binary64 false (cond s (360 - n) (n + 360)) 1
unfolding add sum of_bits
add_360 nan s n h v = absurd v
add_360 (inf t) s n h v = absurd v
add_360 (fin true m e) false n h v = absurd (let z : ◌≡◌ {A = ℕ} 0 1 = cc in omega arith)
add_360 (fin false m e) true n h v = absurd (let z : ◌≡◌ {A = ℕ} 0 1 = cc in omega arith)
add_360 (fin true m e) true n h v =
    let d = down e in
    let p : m * up e * 1 ≡ n * d = v.1 in
    let k : 360 - n + n ≡ 360 = omega arith in
    let q : 360 * d ≡ (360 - n) * d + n * d = ap (λ (j : ℕ). j * d) (sym k) ∙ add-mul (360 - n) n d in
    let l : ltb (n * d) (360 * d) ≡ true = lt-ltb (n * d) (360 * d) (mul-lt-mul_of_pos_right h (down_pos e)) in
    rw (p, l) (round_same binary64 false (360 * d - n * d) (d * 1) (360 - n) 1 (omega (arith, down_pos e)) (lit< tt) (rw (mul-one d) (omega arith)))
add_360 (fin false m e) false n h v =
    let d = down e in
    let p : m * up e * 1 ≡ n * d = v.1 in
    rw p (round_same binary64 false (n * d + 360 * d) (d * 1) (n + 360) 1 (omega (arith, down_pos e)) (lit< tt) (rw (mul-one d, add-mul n 360 d) (omega arith)))

-- a whole hue is turned to the same angle in 0 .. 359, exactly
whole_turned : (s : Bool) (n : ℕ) → n ≤ 2 ^ 53 → turned (round binary64 s n 1) ≡ round binary64 false (cond s ((360 - n % 360) % 360) (n % 360)) 1
whole_turned s n small =
    let m = n % 360 in
    let h : m < 360 = mod-lt n {m = 360} (lit< tt) in
    rw (rem_360 (round binary64 s n 1) s n (round_whole binary64 s n small), add_360 (round binary64 s m 1) s m h (round_whole binary64 s m (omega arith)))
    (either s (λ e. simp e (rem_360 _ false (360 - m) (whole_value (360 - m) (omega arith))))
    (λ e. simp e (rem_360 _ false (m + 360) (whole_value (m + 360) (omega arith)) ∙ simp (add-mod_right, mod-mod))))

hue_turned : (i : Integer) → InDomain (as_number i) → turned (double (exactly (as_number i))) ≡ round binary64 false (degrees i) 1
unfolding degrees joined
hue_turned i ok = rw (integer_double i) (whole_turned (is_minus i.signed) (size i) (omega (arith, ok.small)))

-- THEOREM. A whole hue is as its angle in 0 .. 359.
pub hue_as : (i : Integer) → InDomain (as_number i) → (s l : Float) → hsl_color (double (exactly (as_number i))) s l ≡ hsl_color (round binary64 false (degrees i) 1) s l
unfolding hsl_color
hue_as i ok s l =
    let h : degrees i < 360 = unfold degrees in either (is_minus i.signed) (λ e. simp e (mod-lt (360 - size i % 360) {m = 360} (lit< tt))) (λ e. simp e (mod-lt (size i) {m = 360} (lit< tt))) in
    rw (hue_turned i ok, whole_turned false (degrees i) (omega arith), mod-eq_of_lt h)

-- THEOREM. Whole hues of the same angle, a whole number of turns apart, are the same colour.
pub hue_same : (i j : Integer) → InDomain (as_number i) → InDomain (as_number j) → degrees i ≡ degrees j → (s l : Float)
    → hsl_color (double (exactly (as_number i))) s l ≡ hsl_color (double (exactly (as_number j))) s l
hue_same i j io jo e s l = hue_as i io s l ∙ rw e (sym (hue_as j jo s l))

-- what is below zero, with its sign changed
neg_odd : (d q k l : ℕ) → neg (odd d true q k l) ≡ odd d false q k l
unfolding neg odd
neg_odd d zero k l = refl
neg_odd d (suc q) k l = refl

neg_units : (f : Format) (q k : ℕ) → neg (units f true q k) ≡ units f false q k
unfolding neg units
neg_units f q k = go (ltb (q * 2 ^ k) (2 ^ (low f + suc (emax f))))
  where
    go : (t : Bool) → neg (cond t (odd (suc (prec f)) true q k (low f)) (inf true)) ≡ cond t (odd (suc (prec f)) false q k (low f)) (inf false)
    go true = neg_odd (suc (prec f)) q k (low f)
    go false = refl

neg_round : (f : Format) (a c : ℕ) → neg (round f true a c) ≡ round f false a c
unfolding round
neg_round f a c = neg_units f _ _

neg_div : (x : Float) → sign_of x ≡ true → neg (div binary64 x hundred) ≡ div binary64 (neg x) hundred
unfolding neg div of_bits
neg_div nan e = cc
neg_div (inf true) e = refl
neg_div (inf false) e = cc
neg_div (fin true m d) e = neg_round binary64 (m * up d * 1) (25 * 4 * down d)
neg_div (fin false m d) e = cc

least_below : (x : Float) (k : ℕ) → AtLeast 1 k (neg x) → lt x d0 ≡ true
unfolding neg lt of_bits
least_below nan k h = absurd h
least_below (inf true) k h = refl
least_below (inf false) k h = cc
least_below (fin true m e) k h = lt-ltb 0 (m * up e * 1 + 0 * down e) (omega (arith, some (m * up e) k (down e) (down_pos e) h.1))
  where
    some : (a k d : ℕ) → 0 < d → 1 * d ≤ a * k → 0 < a
    some zero k d p l = absurd (omega (arith, zero-mul k))
    some (suc a) k d p l = omega arith
least_below (fin false m e) k h = absurd (let z : ◌≡◌ {A = ℕ} 0 1 = cc in omega arith)

-- a number of the domain that is not zero is no smaller than 10 to the -22, which is more than 2 to the -80
far_from_zero : (t : Number) → InDomain t → 0 < (exactly t).over → 1 * (exactly t).under ≤ (exactly t).over * 2 ^ 80
unfolding exactly
far_from_zero t ok h =
    go (falls t.exponent_part) (power t.exponent_part) (fraction_digits t.digits_of) (joined t.digits_of) ok.near h
  where
    ten : (i j : ℕ) → i ≤ j + 22 → 10 ^ i ≤ 10 ^ j * 10 ^ 22
    ten i j l = le_trans (pow-le-pow_right (lit< tt) l) (le_of_eq (pow-add 10 j 22))

    go : (b : Bool) (e f m : ℕ) → Near b e f → 0 < m * cond b 1 (10 ^ e) → 1 * (10 ^ f * cond b (10 ^ e) 1) ≤ m * cond b 1 (10 ^ e) * 2 ^ 80
    go true e f m n p = omega (arith, sym (pow-add 10 f e), ten (f + e) 0 (omega (arith, n)))
    go false e f zero n p = absurd (omega (arith, zero-mul (10 ^ e)))
    go false e f (suc m) n p =
        let l : 1 * 10 ^ e ≤ suc m * 10 ^ e = mul-le-mul_right (10 ^ e) (omega arith) in
        let k : 10 ^ e ≤ suc m * 10 ^ e = omega arith in
        le_trans (le_of_eq (omega arith)) (le_trans (ten f e n.1) (mul-le-mul k (lit≤ tt)))

-- THEOREM. A saturation or a lightness below 0% is as 0%.
module _ (t : Number) (ok : InDomain t) (e : (exactly t).minus ≡ true) (h : 0 < (exactly t).over) where
  held_below : clamped (portion t) ≡ d0
  unfolding double round
  held_below =
      let v : AtLeast 1 (2 ^ 80) (round binary64 false (exactly t).over (exactly t).under) =
      round_least (exactly t).over (exactly t).under 1 (2 ^ 80) (under_pos t) (lit< tt) (lit< tt) (refl, refl) (far_from_zero t ok h) in
      let n : neg (double (exactly t)) ≡ round binary64 false (exactly t).over (exactly t).under = rw e (neg_round binary64 (exactly t).over (exactly t).under) in
      let w : AtLeast 1 (2 ^ 87) (neg (portion t)) =
      rw (neg_div (double (exactly t)) (double_sign (exactly t) ∙ e), n) (div_least 1 (2 ^ 80) 1 (2 ^ 87) (lit< tt) (lit< tt) (refl, refl) (λ p q l. omega arith) _ v) in
      rw (least_below (portion t) (2 ^ 87) w)

  pub saturation_below : (hue l : Float) → hsl_color hue (portion t) l ≡ hsl_color hue d0 l
  unfolding hsl_color lt of_bits
  saturation_below hue l = rw held_below

  pub lightness_below : (hue s : Float) → hsl_color hue s (portion t) ≡ hsl_color hue s d0
  unfolding hsl_color lt of_bits
  lightness_below hue s = rw held_below

-- THEOREM. A saturation or a lightness above 100% is as 100%.
module _ (t : Number) (e : (exactly t).minus ≡ false) (h : 100 * (exactly t).under ≤ (exactly t).over) where
  held_above : clamped (portion t) ≡ d1
  held_above = least_clamped (portion t) (div-fits binary64 (double (exactly t)) hundred) (part_least _ (double_least t 100 (lit< tt) (lit≤ tt) e h))

  pub saturation_above : (hue l : Float) → hsl_color hue (portion t) l ≡ hsl_color hue d1 l
  unfolding hsl_color lt of_bits
  saturation_above hue l = rw held_above

  pub lightness_above : (hue s : Float) → hsl_color hue s (portion t) ≡ hsl_color hue s d1
  unfolding hsl_color lt of_bits
  lightness_above hue s = rw held_above
