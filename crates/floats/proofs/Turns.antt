-- The remainder of a float by 360: what the code finds over the fields of the float is IEEE 754's remainder. Assumes nothing.
use Rattle.std.proofs.Common.{◌≡◌, ℕ, zero, suc, ◌+◌, ◌-◌, ◌*◌, ◌/◌, ◌%◌, ◌^◌, ◌<◌, ◌≤◌, Bool, true, false, cond, not, T, eqb, ltb, leb, ◌&&◌, ◌||◌, ◌⊎◌, pos, sym, refl, ap, ◌∙◌, subst, inl, inr, true≢false, le_trans, le_of_eq, le_of_lt, lt_of_lt_of_le, lt_of_le_of_lt, eq-or-lt_of_le, mul-le-mul_right, mul-lt-mul_of_pos_right, mod-lt, mod-eq_of_lt, mul_assoc, mul_comm, mul_right_comm, mul_left_comm, add-mul, mul-pos, zero-mul, mul-one, le_of_mul-le-mul_right, lt_of_mul-lt-mul_right, div-add-mod', arith, lit≤, lit<, ltb→lt, eqb→eq, ltb-false, ltb-true, lt-ltb, le→leb, le-ltb, leb-false, lt_of_not-le, not-le_of_lt, subst₂, pow_pos, pow_mono, pow-add, ne_eqb, eq-eqb}
use Rattle.std.proofs.lemmas.Nat.{mod-mul-add, mul-mod_first}
use native.Mathlib.Nat.{eq_of_mul-eq-mul_right, mod-eq-sub-mod}
use borrow.Author.Tests.{eqb-false}
use lib.Pow.{shl_lt}
use lib.Ieee.{Float, nan, inf, fin, fits, binary64, up, down, size, odd, round, units, of_fields, to_bits, of_bits, of_int, in_float, lt, le, neg, sum, add, sub, div, rem}
use lib.Ieee.Fits.{down_pos, and_l, and_r, round-fits, round_is}
use lib.Ieee.Exact.{HasValue, round_exact}
use lib.Ieee.Nearest.{closest}
use lib.Ieee.Scale.{round_same, finite}
use lib.Ieee.Back.{round_whole}
use lib.Ieee.Bits.{of_bits-to_bits, to_bits-lt}
use Rattle.floats.specs.Floats.{d360}
use Rattle.floats.proofs.Rounding.{bits_of_value, value, value_low, at_ones, by_fields, unit}

-- the f64 720.0, by its bits
abbrev d720 : Float
d720 = of_bits binary64 0x4086_8000_0000_0000

-- ---- whole numbers
scaled : (m n k : ℕ) → 0 < n → 0 < k → m * k % (n * k) ≡ m % n * k
scaled m n k N K =
    ap (λ (x : ℕ). x % (n * k)) (ap (λ (x : ℕ). x * k) (sym (div-add-mod' m n)) ∙ add-mul (m / n * n) (m % n) k ∙ ap (λ (x : ℕ). x + m % n * k) (mul_assoc (m / n) n k))
    ∙ mod-mul-add (m / n) (n * k) (m % n * k) (mul-lt-mul_of_pos_right (mod-lt m N) K)

-- a / c and M / D are the same, and so are their remainders
same_rest : (M D a c n : ℕ) → 0 < D → 0 < c → 0 < n → M * c ≡ a * D → M % (n * D) * c ≡ a % (n * c) * D
same_rest M D a c n P Q N e =
    sym (scaled M (n * D) c (mul-pos N P) Q)
    ∙ ap (λ (x : ℕ). M * c % x) (mul_right_comm n D c)
    ∙ ap (λ (x : ℕ). x % (n * c * D)) e
    ∙ scaled a (n * c) D (mul-pos N Q) P

pub none_yet : (r : ℕ) → r < 360 → r ≡ r * 2 ^ 0 % 360
none_yet r h = sym (ap (λ (x : ℕ). x % 360) (mul-one r) ∙ mod-eq_of_lt h)

pub once_more : (r k n : ℕ) → n ≡ r * 2 ^ k % 360 → n * 2 % 360 ≡ r * 2 ^ (k + 1) % 360
once_more r k n h =
    ap (λ (x : ℕ). x * 2 % 360) h ∙ mul-mod_first (r * 2 ^ k) 2 360 ∙ ap (λ (x : ℕ). x % 360) (mul_assoc r (2 ^ k) 2 ∙ ap (λ (x : ℕ). r * x) (sym (pow-add 2 k 1)))

-- ---- values
-- from one fraction to another of the same size
rescale : (x : Float) (s : Bool) (w l a c : ℕ) → 0 < l → a * l ≡ w * c → HasValue x s w l → HasValue x s a c
rescale nan s w l a c p h v = v
rescale (inf t) s w l a c p h v = v
rescale (fin t m e) s w l a c p h v = (
  v.0,
  eq_of_mul-eq-mul_right l p (m * up e * c) (a * down e)
      (mul_right_comm (m * up e) c l
      ∙ ap (λ (x : ℕ). x * c) v.1
      ∙ mul_right_comm w (down e) c
      ∙ ap (λ (x : ℕ). x * down e) (sym h)
      ∙ mul_right_comm a l (down e)),
)

-- two f64s of one value are the same
same_value : (v w : Float) (s : Bool) (a : ℕ) → T (fits binary64 v) → T (fits binary64 w) → HasValue v s a (2 ^ 1074) → HasValue w s a (2 ^ 1074) → v ≡ w
same_value v w s a p q h k =
    sym (of_bits-to_bits binary64 v p) ∙ ap (of_bits binary64) (bits_of_value binary64 v s a h ∙ sym (bits_of_value binary64 w s a k)) ∙ of_bits-to_bits binary64 w q

-- the remainder of a / c
rem_at : (x : Float) (s : Bool) (a c : ℕ) → 0 < c → HasValue x s a c → rem binary64 x d360 ≡ round binary64 s (a % (360 * c)) c
unfolding rem of_bits
rem_at nan s a c p h = elim h [ ]
rem_at (inf _) s a c p h = elim h [ ]
rem_at (fin t m e) s a c p h =
    let D = down e in
    let M = m * up e * 1 in
    rw h.0
    (round_same binary64 s (M % (360 * D)) (D * 1) (a % (360 * c)) c (mul-pos (down_pos e) (lit< tt)) p
    (same_rest M D a c 360 (down_pos e) p (lit< tt) (ap (λ (x : ℕ). x * c) (mul-one (m * up e)) ∙ h.1)
    ∙ ap (λ (x : ℕ). a % (360 * c) * x) (sym (mul-one D))))

-- ---- tests against 360 and -360
or_false : (p q : Bool) → (p || q) ≡ false → (p ≡ false) × (q ≡ false)
or_false true q h = absurd (true≢false h)
or_false false q h = (refl, h)

and_false : (p : Bool) → (p && true) ≡ false → p ≡ false
and_false true h = h
and_false false h = refl

or_true : (p q : Bool) → T (p || q) → T p ⊎ T q
or_true true q h = inl tt
or_true false q h = inr h

reached : (a b : ℕ) → T (ltb a b || (eqb a b && true)) → a ≤ b
reached a b h = elim (or_true (ltb a b) (eqb a b && true) h) [ inl l ↦ le_of_lt (ltb→lt a b l) | inr e ↦ le_of_eq (eqb→eq a b (and_l (eqb a b) true e)) ]

missed : (a b c d : ℕ) → (b ≡ a → c ≡ d) → (ltb a b || (eqb c d && true)) ≡ false → b < a
missed a b c d e h =
    let z = or_false (ltb a b) (eqb c d && true) h in
    elim (eq-or-lt_of_le (ltb-false a b z.0)) [ inl k ↦ absurd (eqb-false c d (and_false (eqb c d) z.1) (e k)) | inr l ↦ l ]

-- what is 360 at least
le_value : (v : Float) (s : Bool) (a c : ℕ) → 0 < c → HasValue v s a c → T (le d360 v) → (s ≡ false) × (360 * c ≤ a)
unfolding le of_bits
le_value nan s a c p h l = elim h [ ]
le_value (inf _) s a c p h l = elim h [ ]
le_value (fin true m e) s a c p h l =
    let z : 360 * down e ≡ 0 = eqb→eq (360 * down e) 0 (and_r (eqb (360 * down e) (m * up e * 1)) (eqb (360 * down e) 0) l) in
    let d = down_pos e in
    absurd (omega arith)
le_value (fin false m e) s a c p h l =
    let k : 360 * down e ≤ m * up e = le_trans (reached (360 * down e) (m * up e * 1) l) (le_of_eq (mul-one (m * up e))) in
    (sym h.0, le_of_mul-le-mul_right {m = 360 * c} {n = a} {k = down e} (le_trans (le_of_eq (mul_right_comm 360 c (down e))) (le_trans (mul-le-mul_right c k) (le_of_eq h.1))) (down_pos e))

-- what is below 360 and above -360
between : (v : Float) (s : Bool) (a c : ℕ) → 0 < c → HasValue v s a c → le d360 v ≡ false → le v (neg d360) ≡ false → a < 360 * c
unfolding le neg of_bits
between nan s a c p h k l = elim h [ ]
between (inf _) s a c p h k l = elim h [ ]
between (fin t m e) s a c p h k l =
    let z : m * up e * 1 < 360 * down e = go t k l in
    lt_of_mul-lt-mul_right (down e) (lt_of_le_of_lt (le_of_eq (sym h.1 ∙ ap (λ (x : ℕ). x * c) (sym (mul-one (m * up e))))) (lt_of_lt_of_le (mul-lt-mul_of_pos_right z p) (le_of_eq (mul_right_comm 360 (down e) c))))
  where
    go : (t : Bool) → le d360 (fin t m e) ≡ false → le (fin t m e) (neg d360) ≡ false → m * up e * 1 < 360 * down e
    go false k l = missed (360 * down e) (m * up e * 1) (360 * down e) (m * up e * 1) (λ i. sym i) k
    go true k l = missed (360 * down e) (m * up e * 1) (m * up e * 1) (360 * down e) (λ i. i) l

-- ---- a finite f64 is a number of 53 digits times a power of two
record Parts (x : Float) : Type 0 where
  sign : Bool
  digits : ℕ
  shift : ℕ
  is : HasValue x sign (digits * 2 ^ shift) (2 ^ 1074)
  few : digits < 2 ^ 53
  low : shift ≤ 2045

fields_are : (s : Bool) (f t : ℕ) → t < 2 ^ 52 → f ≤ 2047 → T (finite (of_fields binary64 s f t)) → Parts (of_fields binary64 s f t)
fields_are s zero t h k n = record { sign = s; digits = t; shift = 0; is = value_low s t; few = omega arith; low = omega arith }
fields_are s (suc f) t h k n = go (eq-or-lt_of_le k)
  where
    ends : (b : Bool) → T (finite (cond b (inf s) nan)) → ⊥
    ends true z = z
    ends false z = z

    go : (suc f ≡ 2047) ⊎ (suc f < 2047) → Parts (of_fields binary64 s (suc f) t)
    go (inl e) = absurd (ends (eqb t 0) (subst (λ (x : Float). T (finite x)) (ap (λ (g : ℕ). of_fields binary64 s g t) e ∙ at_ones s t) n))
    go (inr l) = record { sign = s; digits = 2 ^ 52 + t; shift = suc f - 1; is = value s (suc f) t (omega arith) l; few = omega arith; low = omega arith }

-- the fields of x
module _ (x : Float) (fit : T (fits binary64 x)) where
  abbrev bits : ℕ
  bits = to_bits binary64 x

  pub within : bits < 2 ^ 64
  within = to_bits-lt binary64 x fit

  from_fields : of_fields binary64 (leb (2 ^ 63) bits) (bits % 2 ^ 63 / 2 ^ 52) (bits % 2 ^ 52) ≡ x
  from_fields = sym (by_fields bits within) ∙ of_bits-to_bits binary64 x fit

  parts : T (finite x) → Parts x
  parts n =
      let w = within in
      subst Parts from_fields
      (fields_are (leb (2 ^ 63) bits) (bits % 2 ^ 63 / 2 ^ 52) (bits % 2 ^ 52) (omega arith) (omega arith) (subst (λ (v : Float). T (finite v)) (sym from_fields) n))

  -- rounding does not change it
  own : (p : Parts x) → round binary64 p.sign (p.digits * 2 ^ p.shift) (2 ^ 1074) ≡ x
  own p =
      let q = p.digits * 2 ^ p.shift in
      same_value (round binary64 p.sign q (2 ^ 1074)) x p.sign q (round-fits binary64 p.sign q (2 ^ 1074)) fit
      (round_exact binary64 p.sign q (2 ^ 1074) p.digits p.shift (pow_pos 1074) p.few
      (lt_of_lt_of_le (shl_lt 53 p.shift p.few) (pow_mono {i = 53 + p.shift} {j = 2098} (let l = p.low in omega arith))) refl)
      p.is

-- what is below 360 in size is its own remainder, and so is a NaN
pub small : (x : Float) → fits binary64 x ≡ true → le d360 x ≡ false → le x (neg d360) ≡ false → x ≡ rem binary64 x d360
unfolding le rem neg of_bits
small nan fit h k = refl
small (inf true) fit h k = absurd (true≢false k)
small (inf false) fit h k = absurd (true≢false h)
small (fin s m e) fit h k =
    let x = fin s m e in
    let f = subst T (sym fit) tt in
    let p = parts x f tt in
    let a = p.digits * 2 ^ p.shift in
    sym
    (rem_at x p.sign a (2 ^ 1074) (pow_pos 1074) p.is
    ∙ ap (λ (r : ℕ). round binary64 p.sign r (2 ^ 1074)) (mod-eq_of_lt (between x p.sign a (2 ^ 1074) (pow_pos 1074) p.is h k))
    ∙ own x f p)

-- from 360 to 720 one subtraction does
once_at : (A B C : ℕ) → B ≤ A → A < B + B → sum binary64 false A true B C ≡ round binary64 false (A % B) C
unfolding sum
once_at A B C h k = rw (le-ltb A B h) (ap (λ (x : ℕ). round binary64 false x C) (sym (mod-eq-sub-mod h ∙ mod-eq_of_lt (omega arith))))

pub once : (x : Float) → le d360 x ≡ true → lt x d720 ≡ true → sub binary64 x d360 ≡ rem binary64 x d360
unfolding le lt rem sub add neg of_bits
once nan h k = absurd (true≢false (sym h))
once (inf true) h k = absurd (true≢false (sym h))
once (inf false) h k = absurd (true≢false (sym k))
once (fin true m e) h k = let v = le_value (fin true m e) true (m * up e) (down e) (down_pos e) (refl, refl) (subst T (sym h) tt) in absurd (true≢false v.0)
once (fin false m e) h k =
    let v = le_value (fin false m e) false (m * up e) (down e) (down_pos e) (refl, refl) (subst T (sym h) tt) in
    let l : m * up e * 1 < 720 * down e = ltb-true (m * up e * 1) (720 * down e) k in
    let o = mul-one (m * up e) in
    once_at (m * up e * 1) (360 * down e) (down e * 1) (omega (arith, v.1)) (omega arith)

-- the sign goes through
odd_neg : (d : ℕ) (s : Bool) (q k l : ℕ) → odd d (not s) q k l ≡ neg (odd d s q k l)
unfolding odd neg
odd_neg d s zero k l = refl
odd_neg d s (suc q) k l = refl

units_neg : (s : Bool) (q k : ℕ) → units binary64 (not s) q k ≡ neg (units binary64 s q k)
unfolding units neg
units_neg s q k = go (ltb (q * 2 ^ k) (2 ^ 2098))
  where
    go : (b : Bool) → cond b (odd 54 (not s) q k 1074) (inf (not s)) ≡ neg (cond b (odd 54 s q k 1074) (inf s))
    go true = odd_neg 54 s q k 1074
    go false = refl

round_neg : (s : Bool) (a c : ℕ) → round binary64 (not s) a c ≡ neg (round binary64 s a c)
round_neg s a c =
    let k = size (a * 2 ^ 1074 / c) - 53 in
    round_is binary64 (not s) a c ∙ units_neg s (closest (a * 2 ^ 1074) (c * 2 ^ k)) k ∙ ap neg (sym (round_is binary64 s a c))

neg_neg : (x : Float) → neg (neg x) ≡ x
unfolding neg
neg_neg nan = refl
neg_neg (inf true) = refl
neg_neg (inf false) = refl
neg_neg (fin true m e) = refl
neg_neg (fin false m e) = refl

rem_neg : (x : Float) → rem binary64 (neg x) d360 ≡ neg (rem binary64 x d360)
unfolding rem neg of_bits
rem_neg nan = refl
rem_neg (inf s) = refl
rem_neg (fin s m e) = round_neg s (m * up e * 1 % (360 * down e)) (down e * 1)

pub turned_back : (x r : Float) → r ≡ rem binary64 (neg x) d360 → neg r ≡ rem binary64 x d360
turned_back x r h = ap neg (h ∙ rem_neg x) ∙ neg_neg (rem binary64 x d360)

or_left : (p q : Bool) → T p → T (p || q)
or_left true q h = tt
or_left false q h = absurd h

or_right : (p q : Bool) → T q → T (p || q)
or_right true q h = tt
or_right false q h = h

reaches : (a b : ℕ) → a ≤ b → T (ltb a b || (eqb a b && true))
reaches a b h =
    elim (eq-or-lt_of_le h) [
      | inl e ↦ or_right (ltb a b) (eqb a b && true) (rw (eq-eqb a b e) tt)
      | inr l ↦ or_left (ltb a b) (eqb a b && true) (rw (lt-ltb a b l) tt)
    ]

pub mirrored : (x : Float) → le x (neg d360) ≡ true → T (le d360 (neg x))
unfolding le neg of_bits
mirrored nan h = absurd (true≢false (sym h))
mirrored (inf true) h = tt
mirrored (inf false) h = absurd (true≢false (sym h))
mirrored (fin true m e) h =
    let a = 360 * down e in
    let b = m * up e * 1 in
    reaches a b
    (elim (or_true (ltb a b) (eqb b a && true) (subst T (sym h) tt)) [
      | inl l ↦ le_of_lt (ltb→lt a b l)
      | inr e ↦ le_of_eq (sym (eqb→eq b a (and_l (eqb b a) true e)))
    ])
mirrored (fin false m e) h =
    let a = 360 * down e in
    let b = m * up e * 1 in
    let z : T (eqb b a && eqb b 0) = subst T (sym h) tt in
    let i = eqb→eq b a (and_l (eqb b a) (eqb b 0) z) in
    let j = eqb→eq b 0 (and_r (eqb b a) (eqb b 0) z) in
    let d = down_pos e in
    absurd (omega arith)

-- ---- from 360 on
not_minus : (b s : Bool) → T (le d360 (cond b (inf s) nan)) → s ≡ false
unfolding le of_bits
not_minus true true z = absurd z
not_minus true false z = refl
not_minus false s z = absurd z

laid : (s : Bool) (f t : ℕ) → t < 2 ^ 52 → f ≤ 2047 → T (le d360 (of_fields binary64 s f t)) → (s ≡ false) × (1031 ≤ f)
laid s zero t h k l =
    let v = le_value (of_fields binary64 s 0 t) s (t * 2 ^ 0) (2 ^ 1074) (pow_pos 1074) (value_low s t) l in
    absurd (omega (arith, v.1))
laid s (suc f) t h k l = go (eq-or-lt_of_le k)
  where
    far : suc f < 2047 → 360 * 2 ^ 1074 ≤ (2 ^ 52 + t) * 2 ^ (suc f - 1) → 1031 ≤ suc f
    far i z =
        lt_of_not-le
        (λ (g : suc f ≤ 1030). not-le_of_lt
        (lt_of_lt_of_le (shl_lt 53 (suc f - 1) (omega arith)) (le_trans (pow_mono {i = 53 + (suc f - 1)} {j = 1082} (omega arith)) (lit≤ tt))) z)

    go : (suc f ≡ 2047) ⊎ (suc f < 2047) → (s ≡ false) × (1031 ≤ suc f)
    go (inl e) = (not_minus (eqb t 0) s (subst (λ (x : Float). T (le d360 x)) (ap (λ (g : ℕ). of_fields binary64 s g t) e ∙ at_ones s t) l), omega arith)
    go (inr i) =
        let v = le_value (of_fields binary64 s (suc f) t) s ((2 ^ 52 + t) * 2 ^ (suc f - 1)) (2 ^ 1074) (pow_pos 1074) (value s (suc f) t (omega arith) i) l in
        (v.0, far i v.1)

value_part : (f t : ℕ) → 1031 ≤ f → f < 1075 → HasValue (of_fields binary64 false f t) false (2 ^ 52 + t) (2 ^ (1075 - f))
value_part f t h k =
    let M = 2 ^ 52 + t in
    let e : 1074 ≡ f - 1 + (1075 - f) = omega arith in
    rescale (of_fields binary64 false f t) false (M * 2 ^ (f - 1)) (2 ^ 1074) M (2 ^ (1075 - f)) (pow_pos 1074)
    (ap (λ (x : ℕ). M * x) (ap (λ (x : ℕ). 2 ^ x) e ∙ pow-add 2 (f - 1) (1075 - f)) ∙ sym (mul_assoc M (2 ^ (f - 1)) (2 ^ (1075 - f)))) (value false f t (omega arith) (omega arith))

value_whole : (f t : ℕ) → 1075 ≤ f → f < 2047 → HasValue (of_fields binary64 false f t) false ((2 ^ 52 + t) * 2 ^ (f - 1075)) 1
value_whole f t h k =
    let M = 2 ^ 52 + t in
    let e : f - 1075 + 1074 ≡ f - 1 = omega arith in
    rescale (of_fields binary64 false f t) false (M * 2 ^ (f - 1)) (2 ^ 1074) (M * 2 ^ (f - 1075)) 1 (pow_pos 1074)
    (mul_assoc M (2 ^ (f - 1075)) (2 ^ 1074) ∙ ap (λ (x : ℕ). M * x) (sym (pow-add 2 (f - 1075) 1074) ∙ ap (λ (x : ℕ). 2 ^ x) e) ∙ sym (mul-one (M * 2 ^ (f - 1))))
    (value false f t (omega arith) k)

-- a quotient of whole numbers
int_value : (n : ℕ) → n ≤ 2 ^ 53 → HasValue (of_int binary64 (pos n)) false n 1
unfolding of_int
int_value n h = round_whole binary64 false n h

cross : (P N a b D E : ℕ) → P * 1 ≡ a * D → N * 1 ≡ b * E → P * E * b ≡ a * (N * D)
cross P N a b D E p q =
    let mid : a * D * E * b ≡ a * (b * E * D) = simp (mul_assoc, mul_comm, mul_left_comm) in
    ap (λ (x : ℕ). x * E * b) (sym (mul-one P) ∙ p) ∙ mid ∙ ap (λ (x : ℕ). a * (x * D)) (sym q ∙ mul-one N)

some : (n u b E : ℕ) → 0 < b * E → n * u * 1 ≡ b * E → n ≡ 0 → ⊥
some n u b E p q e = let z = ap (λ (x : ℕ). x * u * 1) e ∙ ap (λ (x : ℕ). x * 1) (zero-mul u) in omega arith

quotient : (x y : Float) (a b : ℕ) → 0 < b → HasValue x false a 1 → HasValue y false b 1 → div binary64 x y ≡ round binary64 false a b
unfolding div
quotient nan y a b p h k = elim h [ ]
quotient (inf _) y a b p h k = elim h [ ]
quotient (fin s m e) nan a b p h k = elim k [ ]
quotient (fin s m e) (inf _) a b p h k = elim k [ ]
quotient (fin s m e) (fin t n d) a b p h k =
    let z : n ≡ 0 → ⊥ = some n (up d) b (down d) (mul-pos p (down_pos d)) k.1 in
    let N : 0 < n * up d = subst (λ (x : ℕ). 0 < x) (sym k.1 ∙ mul-one (n * up d)) (mul-pos p (down_pos d)) in
    rw (h.0, k.0, ne_eqb n 0 z)
    (round_same binary64 false (m * up e * down d) (n * up d * down e) a b (mul-pos N (down_pos e)) p (cross (m * up e) (n * up d) a b (down e) (down d) h.1 k.1))

no_rest : (b : Bool) → nan ≡ rem binary64 (cond b (inf false) nan) d360
unfolding rem
no_rest true = refl
no_rest false = refl

-- what the code does with the fields of an x from 360 on
module _ (x : Float) (fit : fits binary64 x ≡ true) (h : T (le d360 x)) where
  fitting : T (fits binary64 x)
  fitting = subst T (sym fit) tt

  abbrev field : ℕ
  field = to_bits binary64 x / 2 ^ 52

  abbrev whole : ℕ
  whole = 2 ^ 52 + to_bits binary64 x % 2 ^ 52

  abbrev top_bit : Bool
  top_bit = leb (2 ^ 63) (to_bits binary64 x)

  in_fields : (top_bit ≡ false) × (1031 ≤ to_bits binary64 x % 2 ^ 63 / 2 ^ 52)
  in_fields =
      let w = within x fitting in
      let b = to_bits binary64 x in
      laid top_bit (b % 2 ^ 63 / 2 ^ 52) (b % 2 ^ 52) (omega arith) (omega arith) (subst (λ (v : Float). T (le d360 v)) (sym (from_fields x fitting)) h)

  under_top : to_bits binary64 x < 2 ^ 63
  under_top = leb-false (2 ^ 63) (to_bits binary64 x) in_fields.0

  no_sign : to_bits binary64 x % 2 ^ 63 / 2 ^ 52 ≡ field
  no_sign = ap (λ (y : ℕ). y / 2 ^ 52) (mod-eq_of_lt under_top)

  pub from_1031 : 1031 ≤ field
  from_1031 = subst (λ (f : ℕ). 1031 ≤ f) no_sign in_fields.1

  pub to_2047 : field ≤ 2047
  to_2047 = let u = under_top in omega arith

  is_fields : of_fields binary64 false field (to_bits binary64 x % 2 ^ 52) ≡ x
  is_fields = subst₂ (λ (s : Bool) (f : ℕ). of_fields binary64 s f (to_bits binary64 x % 2 ^ 52) ≡ x) in_fields.0 no_sign (from_fields x fitting)

  -- the code's unit
  abbrev one_is : ℕ
  one_is = 1 * 2 ^ (1075 - field) % 2 ^ 64

  unit_is : one_is ≡ 2 ^ (1075 - field)
  unit_is = let f = from_1031 in unit (1075 - field) (omega arith)

  pub unit_le : one_is ≤ 2 ^ 44
  unit_le = let f = from_1031 in le_trans (le_of_eq unit_is) (pow_mono {i = 1075 - field} {j = 44} (omega arith))

  pub unit_pos : 0 < one_is
  unit_pos = subst (λ (y : ℕ). 0 < y) (sym unit_is) (pow_pos (1075 - field))

  pub exact : T (in_float binary64 (pos (whole % (360 * one_is)))) × T (in_float binary64 (pos one_is))
  unfolding in_float
  exact =
      let U = unit_le in
      let P = unit_pos in
      let m = mod-lt whole {m = 360 * one_is} (omega arith) in
      (le→leb (whole % (360 * one_is)) (2 ^ 53) (omega arith), le→leb one_is (2 ^ 53) (omega arith))

  pub in_parts : field < 1075 → div binary64 (of_int binary64 (pos (whole % (360 * one_is)))) (of_int binary64 (pos one_is)) ≡ rem binary64 x d360
  in_parts k =
      let f = from_1031 in
      let u = one_is in
      let q = whole % (360 * u) in
      let U : u ≤ 2 ^ 44 = unit_le in
      let P : 0 < u = unit_pos in
      let Q : q ≤ 2 ^ 53 = le_of_lt (lt_of_lt_of_le (mod-lt whole {m = 360 * u} (omega arith)) (omega arith)) in
      let v : HasValue x false whole u =
      subst₂ (λ (w : Float) (y : ℕ). HasValue w false whole y) is_fields (sym unit_is) (value_part field (to_bits binary64 x % 2 ^ 52) f k)
      in
      quotient (of_int binary64 (pos q)) (of_int binary64 (pos u)) q u P (int_value q Q) (int_value u (omega arith))
      ∙ sym (rem_at x false whole u P v)

  pub in_wholes : (r : ℕ) → 1075 ≤ field → field < 2047 → r ≡ whole % 360 * 2 ^ (field - 1075) % 360 → of_int binary64 (pos r) ≡ rem binary64 x d360
  unfolding of_int
  in_wholes r k l e =
      let a = whole * 2 ^ (field - 1075) in
      let v : HasValue x false a 1 = subst (λ (w : Float). HasValue w false a 1) is_fields (value_whole field (to_bits binary64 x % 2 ^ 52) k l) in
      ap (λ (y : ℕ). round binary64 false y 1) (e ∙ mul-mod_first whole (2 ^ (field - 1075)) 360) ∙ sym (rem_at x false a 1 (lit< tt) v)

  pub at_end : 2047 ≤ field → div binary64 (of_bits binary64 0) (of_bits binary64 0) ≡ rem binary64 x d360
  unfolding div of_bits
  at_end k =
      let t = to_bits binary64 x % 2 ^ 52 in
      let m = to_2047 in
      let e : field ≡ 2047 = omega arith in
      no_rest (eqb t 0) ∙ ap (λ (w : Float). rem binary64 w d360) (sym (at_ones false t) ∙ ap (λ (f : ℕ). of_fields binary64 false f t) (sym e) ∙ is_fields)
