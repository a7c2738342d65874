-- hsl() at the ends of its scales: black, white and grey.
use Prim.Native.Nat.{ℕ, zero, suc, ◌+◌, ◌-◌, ◌*◌, ◌/◌, ◌≤◌, ◌<◌, zero-le}
use mathlib.Core.Bool.{Bool, true, false, not, ◌&&◌, beq, cond, true≢false}
use mathlib.Core.Logic.{◌⊎◌, inl, inr}
use mathlib.Core.Path.{◌≡◌, refl, sym, ap, ◌∙◌}
use native.Mathlib.Nat.{mul-one, one-mul, mul_assoc, mul_comm, mul_right_comm, mul-pos, zero-mul, div-eq_of_lt}
use native.Mathlib.Omega.{arith}
use borrow.Author.Tests.{eq-eqb, lt-ltb, le-ltb, ltb-false}
use lib.Dec.{T, ltb, lit<, lit≤}
use lib.IntN.{ℤ}
use lib.Ieee.{Float, nan, inf, fin, Format, binary32, binary64, emax, up, down, round, neg, sum, add, sub, mul, div, rem, lt, le, of_bits, is_nan}
use lib.Ieee.Back.{round_whole}
use lib.Ieee.Exact.{HasValue}
use lib.Ieee.Fits.{up_pos, down_pos}
use lib.Ieee.Scale.{round_same, finite}
use Rattle.text_bytes.proofs.Ranges.{either}
use Rattle.floats.specs.Floats.{narrowed, channel_of, clamped, sign_of}
use Rattle.floats.proofs.Bounds.{Within, is_finite, wider, neg_within, round_within, add_within, rem_within}
use Rattle.numbers.specs.Powers.{hundred}
use Rattle.color.specs.Hex.{rgba}
use Rattle.color.specs.Hsl.{s0, s05, s1, s2, s3, s4, s6, s60, s255, d360, turned, raised, lessened, sector, hue_to_rgb, upper, under, lit, hsl_to_rgb, hsl_color}
use Rattle.standards.specs.Ieee754.{Fraction, parameters, Delivered, RoundsTo, exact, double, gain}
use Rattle.standards.specs.CssValues3.{Number, exactly}
use Rattle.standards.specs.Answers.{portion}
use Rattle.standards.proofs.Doubles.{under_pos}
use Rattle.standards.proofs.Rounding.{narrowed_rounds}
use Rattle.standards.proofs.Signs.{double_sign, hundredth_sign}
use Rattle.standards.proofs.Operands.{mul_values, add_values, sub_values, nothing_behind, nothing_before, taken, revalue, kept_exact}

-- a zero of either sign
abbrev pub Zero : Float → Type 0
Zero nan = ⊥
Zero (inf s) = ⊥
Zero (fin s m e) = m ≡ 0

-- that, or no number: both are channel 0
abbrev Dark : Float → Type 0
Dark nan = T true
Dark (inf s) = ⊥
Dark (fin s m e) = m ≡ 0

zero_dark : (x : Float) → Zero x → Dark x
zero_dark nan h = absurd h
zero_dark (inf s) h = h
zero_dark (fin s m e) h = h

value_zero : (x : Float) (s : Bool) (c : ℕ) → 0 < c → HasValue x s 0 c → Zero x
value_zero nan s c C v = absurd v
value_zero (inf t) s c C v = absurd v
value_zero (fin t zero e) s c C v = refl
value_zero (fin t (suc m) e) s c C v = absurd (omega (arith, mul-pos (mul-pos {m = suc m} {n = up e} (omega arith) (up_pos e)) C, v.1, zero-mul (down e)))

round_zero : (f : Format) (s : Bool) (a c : ℕ) → 0 < c → a ≡ 0 → Zero (round f s a c)
round_zero f s a c C e =
    let i : a * 1 ≡ 0 * c = omega arith in
    rw (round_same f s a c 0 1 C (lit< tt) i) (value_zero (round f s 0 1) s 1 (lit< tt) (round_whole f s 0 zero-le))

times_zero : (m u v : ℕ) → m ≡ 0 → m * u * v ≡ 0
times_zero m u v e = ap (λ (k : ℕ). k * u * v) e ∙ ap (λ (k : ℕ). k * v) (zero-mul u) ∙ zero-mul v

mul_dark : (f : Format) (x y : Float) → Dark x → Dark (mul f x y)
unfolding mul
mul_dark f nan y h = tt
mul_dark f (inf s) y h = absurd h
mul_dark f (fin s m e) nan h = tt
mul_dark f (fin s m e) (inf t) h = rw (eq-eqb m 0 h) tt
mul_dark f (fin s m e) (fin t n d) h =
    zero_dark (round f (not (beq s t)) (m * up e * (n * up d)) (down e * down d))
    (round_zero f (not (beq s t)) (m * up e * (n * up d)) (down e * down d) (mul-pos (down_pos e) (down_pos d)) (times_zero m (up e) (n * up d) h))

sum_zero : (f : Format) (s : Bool) (a : ℕ) (t : Bool) (b c : ℕ) → 0 < c → a ≡ 0 → b ≡ 0 → Zero (sum f s a t b c)
unfolding sum
sum_zero f s a t b c C p q = go (beq s t) (ltb a b)
  where
    go : (u v : Bool) → Zero (cond u (round f s (a + b) c) (cond v (round f t (b - a) c) (round f (s && ltb b a) (a - b) c)))
    go true v = round_zero f s (a + b) c C (omega arith)
    go false true = round_zero f t (b - a) c C (omega arith)
    go false false = round_zero f (s && ltb b a) (a - b) c C (omega arith)

add_dark : (f : Format) (x y : Float) → Dark x → Dark y → Dark (add f x y)
unfolding add
add_dark f nan y h g = tt
add_dark f (inf s) y h g = absurd h
add_dark f (fin s m e) nan h g = tt
add_dark f (fin s m e) (inf t) h g = absurd g
add_dark f (fin s m e) (fin t n d) h g =
    zero_dark (sum f s (m * up e * down d) t (n * up d * down e) (down e * down d))
    (sum_zero f s (m * up e * down d) t (n * up d * down e) (down e * down d) (mul-pos (down_pos e) (down_pos d)) (times_zero m (up e) (down d) h) (times_zero n (up d) (down e) g))

sub_dark : (f : Format) (x y : Float) → Dark x → Dark y → Dark (sub f x y)
unfolding sub neg
sub_dark f x nan h g = add_dark f x nan h g
sub_dark f x (inf t) h g = absurd g
sub_dark f x (fin t n d) h g = add_dark f x (fin (not t) n d) h g

dark_channel : (x : Float) → Dark x → channel_of x ≡ 0
unfolding channel_of
dark_channel nan h = refl
dark_channel (inf s) h = absurd h
dark_channel (fin true m e) h = refl
dark_channel (fin false m e) h =
    let i : m * up e ≡ 0 = ap (λ (k : ℕ). k * up e) h ∙ zero-mul (up e) in
    let j : (2 * (m * up e) + down e) / (2 * down e) ≡ 0 = div-eq_of_lt (omega (arith, down_pos e)) in
    rw j refl

zero_half : (l : Float) → Zero l → le l s05 ≡ true
unfolding le lt of_bits
zero_half nan h = absurd h
zero_half (inf s) h = absurd h
zero_half (fin true m e) h = simp (lt-ltb 0 (m * up e * 2 + 1 * down e) (omega (arith, down_pos e)))
zero_half (fin false m e) h = simp (lt-ltb (m * up e * 2) (1 * down e) (omega (arith, down_pos e, ap (λ (k : ℕ). k * up e) h ∙ zero-mul (up e))))

-- the two slopes of the algorithm's last step, and what holds of each of its four parts
abbrev pub blend : Float → Float → Float → Float
blend t1 t2 k = add binary32 (mul binary32 (sub binary32 t2 t1) k) t1

pub each_sector : (P : Float → Type 0) (t1 t2 h : Float) → P t1 → P t2 → P (blend t1 t2 h) → P (blend t1 t2 (sub binary32 s4 h)) → P (sector t1 t2 h)
each_sector P t1 t2 h p q r s =
    either (lt h s1) (λ i. rw i r) (λ i. either (lt h s3) (λ j. rw (i, j) q) (λ j. either (lt h s4) (λ k. rw (i, j, k) s) (λ k. rw (i, j, k) p)))

module _ (s l : Float) (z : Zero l) where
  upper_dark : Dark (upper s l)
  upper_dark = rw (zero_half l z) (mul_dark binary32 l (add binary32 s s1) (zero_dark l z))

  under_dark : Dark (under s l)
  under_dark = sub_dark binary32 (mul binary32 l s2) (upper s l) (mul_dark binary32 l s2 (zero_dark l z)) upper_dark

  sector_dark : (h : Float) → Dark (sector (under s l) (upper s l) h)
  sector_dark h =
      let t1 = under s l in
      let t2 = upper s l in
      let r : (k : Float) → Dark (blend t1 t2 k) = λ k. add_dark binary32 (mul binary32 (sub binary32 t2 t1) k) t1 (mul_dark binary32 (sub binary32 t2 t1) k (sub_dark binary32 t2 t1 upper_dark under_dark)) under_dark in
      each_sector Dark t1 t2 h under_dark upper_dark (r h) (r (sub binary32 s4 h))

  lit_dark : (h : Float) → lit s l h ≡ 0
  unfolding hue_to_rgb
  lit_dark h = dark_channel _ (mul_dark binary32 _ s255 (sector_dark (lessened (raised h))))

-- at or below 0
abbrev pub Low : Float → Type 0
Low nan = ⊥
Low (inf s) = s ≡ true
Low (fin s m e) = (s ≡ true) ⊎ (m ≡ 0)

no_size : (m u : ℕ) → 0 < u → m * u ≡ 0 → m ≡ 0
no_size zero u U e = refl
no_size (suc m) u U e = absurd (omega (arith, mul-pos {m = suc m} {n = u} (omega arith) U))

low_clamped : (x : Float) → Low x → Zero (clamped x)
unfolding lt of_bits
low_clamped nan h = absurd h
low_clamped (inf true) h = refl
low_clamped (inf false) h = absurd (true≢false (sym h))
low_clamped (fin true m e) h =
    either (ltb 0 (m * up e * 1 + 0 * down e))
    (λ i. rw i refl)
    (λ i. rw i (no_size m (up e) (up_pos e) (omega (arith, ltb-false 0 (m * up e * 1 + 0 * down e) i))))
low_clamped (fin false m e) (inl h) = absurd (true≢false (sym h))
low_clamped (fin false m e) (inr h) =
    let i : m * up e ≡ 0 = ap (λ (k : ℕ). k * up e) h ∙ zero-mul (up e) in
    either (ltb (m * up e * 1) (0 * down e))
    (λ j. rw j refl)
    (λ j. rw (j, le-ltb (1 * down e) (m * up e * 1) (omega arith)) h)

pub narrowed_zero : (x : Float) → Zero x → Zero (narrowed x)
unfolding narrowed
narrowed_zero nan h = h
narrowed_zero (inf s) h = h
narrowed_zero (fin s m e) h = round_zero binary32 s (m * up e) (down e) (down_pos e) (ap (λ (k : ℕ). k * up e) h ∙ zero-mul (up e))

-- a lightness at or below 0 is black, whatever the hue and the saturation
pub black : (l : Float) → Low l → (h s : Float) → hsl_color h s l ≡ rgba 0 0 0 255
unfolding hsl_color hsl_to_rgb
black l z h s =
    let d = lit_dark (narrowed (clamped s)) (narrowed (clamped l)) (narrowed_zero (clamped l) (low_clamped l z)) in
    simp d

sign_low : (x : Float) → sign_of x ≡ true → Low x
sign_low nan e = absurd (true≢false (sym e))
sign_low (inf s) e = e
sign_low (fin s m k) e = inl e

zero_low : (x : Float) → Zero x → Low x
zero_low nan h = h
zero_low (inf s) h = absurd h
zero_low (fin s m e) h = inr h

double_zero : (q : Fraction) → 0 < q.under → q.over ≡ 0 → Zero (double q)
unfolding double
double_zero q U e = round_zero binary64 q.minus q.over q.under U e

hundredth_zero : (x : Float) → Zero x → Zero (div binary64 x hundred)
unfolding div of_bits
hundredth_zero nan h = h
hundredth_zero (inf s) h = absurd h
hundredth_zero (fin s m e) h = round_zero binary64 _ (m * up e * 1) (25 * 4 * down e) (omega (arith, down_pos e)) (times_zero m (up e) 1 h)

pub portion_low : (t : Number) → gain (exactly t) ≡ 0 → Low (portion t)
portion_low t h =
    let q = exactly t in
    either q.minus
    (λ e. sign_low (portion t) (hundredth_sign (double q) ∙ (double_sign q ∙ e)))
    (λ e. zero_low (portion t) (hundredth_zero (double q) (double_zero q (under_pos t) (rw e at h))))

-- How large a hue can get in the algorithm, by powers of two
sub_within : (f : Format) (k : ℕ) (x y : Float) → suc k ≤ emax f → Within k x → Within k y → Within (suc k) (sub f x y)
unfolding sub
sub_within f k x y E p q = add_within f k x (neg y) E p (neg_within k y q)

turned_within : (h : Float) → T (finite h) → Within 9 (turned h)
unfolding of_bits
turned_within h p =
    let i = rem_within binary64 9 h d360 (lit≤ tt) p (lit≤ tt) (lit≤ tt) in
    let j = add_within binary64 9 (rem binary64 h d360) d360 (lit≤ tt) i (lit≤ tt) in
    rem_within binary64 9 (add binary64 (rem binary64 h d360) d360) d360 (lit≤ tt) (is_finite 10 (add binary64 (rem binary64 h d360) d360) j) (lit≤ tt) (lit≤ tt)

pub narrowed_within : (k : ℕ) (x : Float) → k ≤ 127 → Within k x → Within k (narrowed x)
unfolding narrowed
narrowed_within k nan E h = elim h [ ]
narrowed_within k (inf _) E h = elim h [ ]
narrowed_within k (fin s m e) E h = round_within binary32 s (m * up e) (down e) k (down_pos e) E h

sextant_within : (x : Float) → Within 9 x → Within 4 (div binary32 x s60)
unfolding div of_bits
sextant_within nan h = elim h [ ]
sextant_within (inf _) h = elim h [ ]
sextant_within (fin s m e) h = round_within binary32 _ (m * up e * 1) (15 * 4 * down e) 4 (omega (arith, down_pos e)) (lit≤ tt) (omega (arith, h))

pub around : (h : Float) → Within 5 h → Within 7 (lessened (raised h))
unfolding of_bits
around h w =
    let r : Within 6 (raised h) = either (lt h s0) (λ e. rw e (add_within binary32 5 h s6 (lit≤ tt) w (lit≤ tt))) (λ e. rw e (wider 5 6 h (lit≤ tt) w)) in
    either (le s6 (raised h)) (λ e. rw e (sub_within binary32 6 (raised h) s6 (lit≤ tt) r (lit≤ tt))) (λ e. rw e (wider 6 7 (raised h) (lit≤ tt) r))

pub off_four : (h : Float) → Within 7 h → Within 8 (sub binary32 s4 h)
unfolding of_bits
off_four h w = sub_within binary32 7 s4 h (lit≤ tt) (lit≤ tt) w

-- Grey: with no saturation both bounds of the algorithm are the lightness itself
zero_value : (x : Float) → Zero x → HasValue x (sign_of x) 0 1
zero_value nan z = z
zero_value (inf s) z = z
zero_value (fin s m e) z = (refl, times_zero m (up e) 1 z ∙ sym (zero-mul (down e)))

mul_zero : (f : Format) (x y : Float) → Zero x → T (finite y) → Zero (mul f x y)
unfolding mul
mul_zero f nan y h g = absurd h
mul_zero f (inf s) y h g = absurd h
mul_zero f (fin s m e) nan h g = absurd g
mul_zero f (fin s m e) (inf t) h g = absurd g
mul_zero f (fin s m e) (fin t n d) h g =
    round_zero f (not (beq s t)) (m * up e * (n * up d)) (down e * down d) (mul-pos (down_pos e) (down_pos d)) (times_zero m (up e) (n * up d) h)

pub one_value : HasValue s1 false 1 1
unfolding of_bits
one_value = (refl, refl)

two_value : HasValue s2 false 2 1
unfolding of_bits
two_value = (refl, refl)

pub whole_value : HasValue s255 false 255 1
unfolding of_bits
whole_value = (refl, refl)

sum_one : (s : Bool) → HasValue (sum binary32 s 0 false 1 1) false 1 1
unfolding sum round
sum_one true = (refl, refl)
sum_one false = (refl, refl)

neg_zero : (x : Float) → Zero x → Zero (neg x)
unfolding neg
neg_zero nan h = h
neg_zero (inf s) h = absurd h
neg_zero (fin s n d) h = h

-- a single between 0 and 1
module _ (q : Fraction) (m : ℕ) (e : ℤ) (D : Delivered (parameters binary32) q false m e) (u : m * up e ≤ down e) where
  abbrev pub L : Float
  L = fin false m e

  abbrev pub A : ℕ
  A = m * up e

  abbrev pub B : ℕ
  B = down e

  BP : 0 < B
  BP = down_pos e

  -- it is the lightness
  abbrev pub Lit : Float → Type 0
  Lit x = HasValue x false A B

  pub own : Lit L
  own = (refl, refl)

  pub like : (a d : ℕ) → 0 < d → a * B ≡ A * d → Lit (round binary32 false a d)
  like a d P h = revalue (round binary32 false a d) false a d A B P h (kept_exact q false m e D u 0 (lit≤ tt) false a d P (h ∙ ap (λ (k : ℕ). k * d) (sym (mul-one A))))

  plus_zero : (x y : Float) → Lit x → Zero y → Lit (add binary32 x y)
  plus_zero x y v w =
      rw (add_values binary32 false A B (sign_of y) 0 1 BP (lit< tt) x y v (zero_value y w), nothing_behind binary32 (A * 1) (sign_of y) (0 * B) (B * 1) (zero-mul B))
      (like (A * 1) (B * 1) (omega (arith, BP)) (rw (mul-one A, mul-one B) refl))

  zero_plus : (x y : Float) → Zero x → Lit y → Lit (add binary32 x y)
  zero_plus x y v w =
      rw (add_values binary32 (sign_of x) 0 1 false A B (lit< tt) BP x y (zero_value x v) w, nothing_before binary32 (sign_of x) (0 * B) (A * 1) (1 * B) (zero-mul B))
      (like (A * 1) (1 * B) (omega (arith, BP)) (rw (mul-one A, one-mul B) refl))

  module _ (S : Float) (z : Zero S) where
    by_zero : Zero (mul binary32 L S)
    by_zero =
        rw (mul_values binary32 false A B (sign_of S) 0 1 BP (lit< tt) L S own (zero_value S z))
        (round_zero binary32 (not (beq false (sign_of S))) (A * 0) (B * 1) (omega (arith, BP)) (mul_zero_right A))
      where
        mul_zero_right : (a : ℕ) → a * 0 ≡ 0
        mul_zero_right a = mul_comm a 0 ∙ zero-mul a

    one_more : HasValue (add binary32 S s1) false 1 1
    one_more = rw (add_values binary32 (sign_of S) 0 1 false 1 1 (lit< tt) (lit< tt) S s1 (zero_value S z) one_value) (sum_one (sign_of S))

    upper_lit : Lit (upper S L)
    unfolding sub
    upper_lit =
        either (le L s05)
        (λ h. rw (h, mul_values binary32 false A B false 1 1 BP (lit< tt) L (add binary32 S s1) own one_more) (like (A * 1) (B * 1) (omega (arith, BP)) (rw (mul-one A, mul-one B) refl)))
        (λ h. rw h (plus_zero (add binary32 L S) (neg (mul binary32 L S)) (plus_zero L S own z) (neg_zero (mul binary32 L S) by_zero)))

    twice : HasValue (mul binary32 L s2) false (A * 2) B
    twice =
        rw (mul_values binary32 false A B false 2 1 BP (lit< tt) L s2 own two_value)
        (rw (mul-one B) (kept_exact q false m e D u 1 (lit≤ tt) false (A * 2) B BP refl))

    under_lit : Lit (under S L)
    under_lit =
        let i : A * 2 * B - A * B ≡ A * B = omega (arith, mul_right_comm A 2 B) in
        rw (sub_values binary32 false (A * 2) B false A B BP BP (mul binary32 L s2) (upper S L) twice upper_lit, taken binary32 (A * 2 * B) (A * B) (B * B) (omega (arith, mul_right_comm A 2 B)), i)
        (like (A * B) (B * B) (mul-pos BP BP) (mul_assoc A B B))

    level : Zero (sub binary32 (upper S L) (under S L))
    level =
        rw (sub_values binary32 false A B false A B BP BP (upper S L) (under S L) upper_lit under_lit, taken binary32 (A * B) (A * B) (B * B) (omega arith))
        (round_zero binary32 false (A * B - A * B) (B * B) (mul-pos BP BP) (omega arith))

    mixed : (k : Float) → T (finite k) → Lit (blend (under S L) (upper S L) k)
    mixed k h = zero_plus (mul binary32 (sub binary32 (upper S L) (under S L)) k) (under S L) (mul_zero binary32 (sub binary32 (upper S L) (under S L)) k level h) under_lit

    sector_lit : (h : Float) → T (finite h) → T (finite (sub binary32 s4 h)) → Lit (sector (under S L) (upper S L) h)
    sector_lit h p r = each_sector Lit (under S L) (upper S L) h under_lit upper_lit (mixed h p) (mixed (sub binary32 s4 h) r)

    grey_lit : (h : Float) → Within 5 h → lit S L h ≡ channel_of (mul binary32 L s255)
    unfolding hue_to_rgb
    grey_lit h w =
        let k = lessened (raised h) in
        let x = sector (under S L) (upper S L) k in
        let v : Lit x = sector_lit k (is_finite 7 k (around h w)) (is_finite 8 (sub binary32 s4 k) (off_four k (around h w))) in
        ap channel_of
        (mul_values binary32 false A B false 255 1 BP (lit< tt) x s255 v whole_value ∙ sym (mul_values binary32 false A B false 255 1 BP (lit< tt) L s255 own whole_value))

-- what is held to 0 .. 1: minus zero stays
abbrev pub Held : Float → Type 0
Held nan = ⊥
Held (inf s) = ⊥
Held (fin true m e) = m ≡ 0
Held (fin false m e) = m * up e ≤ down e

pub clamped_held : (x : Float) → T (not (is_nan x)) → Held (clamped x)
unfolding is_nan lt of_bits
clamped_held nan n = absurd n
clamped_held (inf true) n = lit≤ tt
clamped_held (inf false) n = lit≤ tt
clamped_held (fin true m e) n =
    either (ltb 0 (m * up e * 1 + 0 * down e))
    (λ i. rw i (lit≤ tt))
    (λ i. rw i (no_size m (up e) (up_pos e) (omega (arith, ltb-false 0 (m * up e * 1 + 0 * down e) i))))
clamped_held (fin false m e) n =
    either (ltb (m * up e * 1) (0 * down e))
    (λ i. rw i (lit≤ tt))
    (λ i. either (ltb (1 * down e) (m * up e * 1))
    (λ j. rw (i, j) (lit≤ tt))
    (λ j. rw (i, j) (omega (arith, ltb-false (1 * down e) (m * up e * 1) j))))

-- the channel that a lightness gives with no saturation
abbrev pub shade : Float → ℕ
shade l = channel_of (mul binary32 (narrowed (clamped l)) s255)

-- what is held so and rounded is a zero, or a single between 0 and 1
pub each_held : (P : Float → Type 0) → ((x : Float) → Zero x → P x)
    → ((q : Fraction) (m : ℕ) (e : ℤ) → Delivered (parameters binary32) q false m e → m * up e ≤ down e → P (fin false m e)) → (x : Float) → Held x → P (narrowed x)
each_held P none single nan k = absurd k
each_held P none single (inf s) k = absurd k
each_held P none single (fin true m e) k = none (narrowed (fin true m e)) (narrowed_zero (fin true m e) k)
each_held P none single (fin false m e) k = go (narrowed (fin false m e)) (narrowed_rounds false m e) (narrowed_within 0 (fin false m e) (lit≤ tt) (omega (arith, k)))
  where
    go : (v : Float) → RoundsTo (parameters binary32) (exact false m e) v → Within 0 v → P v
    go nan r b = absurd b
    go (inf s) r b = absurd b
    go (fin true n d) r b = absurd (true≢false r.sign)
    go (fin false n d) r b = single (exact false m e) n d r (omega (arith, b))

-- with no saturation each channel is that of the lightness
pub held_grey : (S : Float) → Zero S → (h : Float) → Within 5 h → (x : Float) → Held x → lit S (narrowed x) h ≡ channel_of (mul binary32 (narrowed x) s255)
held_grey S z h w =
    each_held (λ v. lit S v h ≡ channel_of (mul binary32 v s255))
    (λ v o. lit_dark S v o h ∙ sym (dark_channel (mul binary32 v s255) (mul_dark binary32 v s255 (zero_dark v o))))
    (λ q m e D u. grey_lit q m e D u S z h w)

-- a colour whose channels all are g, if they are so at every hue that the algorithm can meet
pub every_channel : (hue s l : Float) (g : ℕ) → T (finite hue) → ((h : Float) → Within 5 h → lit (narrowed (clamped s)) (narrowed (clamped l)) h ≡ g) → hsl_color hue s l ≡ rgba g g g 255
unfolding hsl_color hsl_to_rgb of_bits
every_channel hue s l g f each =
    let h = div binary32 (narrowed (turned hue)) s60 in
    let w : Within 4 h = sextant_within (narrowed (turned hue)) (narrowed_within 9 (turned hue) (lit≤ tt) (turned_within hue f)) in
    rw (each (add binary32 h s2) (add_within binary32 4 h s2 (lit≤ tt) w (lit≤ tt)), each h (wider 4 5 h (lit≤ tt) w), each (sub binary32 h s2) (sub_within binary32 4 h s2 (lit≤ tt) w (lit≤ tt))) refl

-- a saturation at or below 0 is the grey of the lightness, whatever the hue
pub grey : (hue s l : Float) → T (finite hue) → Low s → T (not (is_nan l)) → hsl_color hue s l ≡ rgba (shade l) (shade l) (shade l) 255
grey hue s l f low n =
    every_channel hue s l (shade l) f (λ h w. held_grey (narrowed (clamped s)) (narrowed_zero (clamped s) (low_clamped s low)) h w (clamped l) (clamped_held l n))
