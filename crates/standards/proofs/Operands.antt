-- What an operation gives, by what its operands are exactly: the logic's `HasValue x s a c` says that x is finite, has the sign s, and is a / c in size.
use Prim.Native.Nat.{ℕ, ◌+◌, ◌-◌, ◌*◌, ◌^◌, ◌≤◌, ◌<◌}
use mathlib.Core.Bool.{Bool, true, false, not, ◌&&◌, beq}
use mathlib.Core.Logic.{⊎_elim}
use mathlib.Core.Path.{◌≡◌, refl, sym, ap, ◌∙◌}
use native.Mathlib.Nat.{mul_assoc, mul_comm, mul_left_comm, mul_right_comm, mul-pos, add-mul, mul-sub, le_of_mul-le-mul_right, mul-le-mul_right, mul-lt-mul_of_pos_right, lt_of_mul-lt-mul_right, le_of_eq, le_trans, lt_of_le_of_lt, eq_of_mul-eq-mul_right}
use native.Mathlib.Omega.{arith}
use borrow.Author.Tests.{ne_eqb, lt-ltb, le-ltb}
use lib.Dec.{ltb}
use lib.IntN.{ℤ}
use lib.Pow.{pow-add, pow-lt}
use lib.Ieee.{Float, nan, inf, fin, Format, binary32, up, down, round, neg, sum, add, sub, mul, div}
use lib.Ieee.Exact.{HasValue, round_exact}
use lib.Ieee.Fits.{up_pos, down_pos}
use lib.Ieee.Positive.{first_pos}
use lib.Ieee.Scale.{round_same}
use Rattle.text_bytes.proofs.Ranges.{le_or_lt}
use Rattle.standards.specs.Ieee754.{Fraction, parameters, Delivered}

-- (a b) (c d) as (a c) (b d)
cross : (a b c d : ℕ) → a * b * (c * d) ≡ a * c * (b * d)
cross a b c d = mul_assoc a b (c * d) ∙ ap (λ (x : ℕ). a * x) (mul_left_comm b c d) ∙ sym (mul_assoc a c (b * d))

sub_mul : (a b c : ℕ) → (a - b) * c ≡ a * c - b * c
sub_mul a b c = mul_comm (a - b) c ∙ mul-sub c a b ∙ ap (λ (x : ℕ). x - c * b) (mul_comm c a) ∙ ap (λ (x : ℕ). a * c - x) (mul_comm c b)

-- the same order over another denominator
less_same : (a b c d e g : ℕ) → 0 < c → 0 < d → a * d ≡ e * c → b * d ≡ g * c → ltb a b ≡ ltb e g
less_same a b c d e g C D p q =
    ⊎_elim
    (λ (h : b ≤ a).
    let i : g * c ≤ e * c = le_trans (le_of_eq (sym q)) (le_trans (mul-le-mul_right d h) (le_of_eq p)) in
    le-ltb a b h ∙ sym (le-ltb e g (le_of_mul-le-mul_right {m = g} {n = e} {k = c} i C)))
    (λ (h : a < b).
    let i : a * d < b * d = mul-lt-mul_of_pos_right h D in
    let j : e * c < g * c = omega arith in
    lt-ltb a b h ∙ sym (lt-ltb e g (lt_of_mul-lt-mul_right c j)))
    (le_or_lt b a)

pub sum_same : (f : Format) (s : Bool) (a : ℕ) (t : Bool) (b c e g d : ℕ) → 0 < c → 0 < d → a * d ≡ e * c → b * d ≡ g * c → sum f s a t b c ≡ sum f s e t g d
unfolding sum
sum_same f s a t b c e g d C D p q =
    let i : (a + b) * d ≡ (e + g) * c = rw (add-mul a b d, add-mul e g c, p, q) refl in
    let j : (b - a) * d ≡ (g - e) * c = rw (sub_mul b a d, sub_mul g e c, p, q) refl in
    let k : (a - b) * d ≡ (e - g) * c = rw (sub_mul a b d, sub_mul e g c, p, q) refl in
    rw (less_same a b c d e g C D p q, less_same b a c d g e C D q p, round_same f s (a + b) c (e + g) d C D i, round_same f t (b - a) c (g - e) d C D j, round_same f (s && ltb g e) (a - b) c (e - g) d C D k)
    refl

-- of a / c and b / d, with their signs
module _ (f : Format) (s : Bool) (a c : ℕ) (t : Bool) (b d : ℕ) (C : 0 < c) (D : 0 < d) where
  pub mul_values : (x y : Float) → HasValue x s a c → HasValue y t b d → mul f x y ≡ round f (not (beq s t)) (a * b) (c * d)
  unfolding mul
  mul_values nan y v w = absurd v
  mul_values (inf u) y v w = absurd v
  mul_values (fin u m e) nan v w = absurd w
  mul_values (fin u m e) (inf z) v w = absurd w
  mul_values (fin u m e) (fin z n g) v w =
      let i : m * up e * (n * up g) * (c * d) ≡ a * b * (down e * down g) = cross (m * up e) (n * up g) c d ∙ rw (v.1, w.1) (cross a (down e) b (down g)) in
      rw (v.0, w.0) (round_same f (not (beq s t)) (m * up e * (n * up g)) (down e * down g) (a * b) (c * d) (mul-pos (down_pos e) (down_pos g)) (mul-pos C D) i)

  pub add_values : (x y : Float) → HasValue x s a c → HasValue y t b d → add f x y ≡ sum f s (a * d) t (b * c) (c * d)
  unfolding add
  add_values nan y v w = absurd v
  add_values (inf u) y v w = absurd v
  add_values (fin u m e) nan v w = absurd w
  add_values (fin u m e) (inf z) v w = absurd w
  add_values (fin u m e) (fin z n g) v w =
      let i : m * up e * down g * (c * d) ≡ a * d * (down e * down g) = cross (m * up e) (down g) c d ∙ rw (v.1, mul_comm (down g) d) (cross a (down e) d (down g)) in
      let j : n * up g * down e * (c * d) ≡ b * c * (down e * down g) =
      rw (mul_comm c d, mul_comm (down e) (down g)) (cross (n * up g) (down e) d c ∙ rw (w.1, mul_comm (down e) c) (cross b (down g) c (down e))) in
      rw (v.0, w.0) (sum_same f s (m * up e * down g) t (n * up g * down e) (down e * down g) (a * d) (b * c) (c * d) (mul-pos (down_pos e) (down_pos g)) (mul-pos C D) i j)

  pub div_values : (x y : Float) → 0 < b → HasValue x s a c → HasValue y t b d → div f x y ≡ round f (not (beq s t)) (a * d) (b * c)
  unfolding div
  div_values nan y B v w = absurd v
  div_values (inf u) y B v w = absurd v
  div_values (fin u m e) nan B v w = absurd w
  div_values (fin u m e) (inf z) B v w = absurd w
  div_values (fin u m e) (fin z n g) B v w =
      let i : m * up e * down g * (b * c) ≡ a * d * (n * up g * down e) =
      rw (mul_comm b c) (cross (m * up e) (down g) c b ∙ rw (v.1, mul_comm (down g) b, ← w.1) (cross a (down e) (n * up g) d ∙ rw (mul_comm (down e) d) (sym (cross a d (n * up g) (down e))))) in
      let N : 0 < n = first_pos n (up g) (first_pos (n * up g) d (rw w.1 (mul-pos B (down_pos g)))) in
      rw (ne_eqb n 0 (λ z. omega arith), v.0, w.0)
      (round_same f (not (beq s t)) (m * up e * down g) (n * up g * down e) (a * d) (b * c) (mul-pos (mul-pos N (up_pos g)) (down_pos e)) (mul-pos B C) i)

pub neg_values : (x : Float) (s : Bool) (a c : ℕ) → HasValue x s a c → HasValue (neg x) (not s) a c
unfolding neg
neg_values nan s a c v = absurd v
neg_values (inf u) s a c v = absurd v
neg_values (fin u m e) s a c v = (ap not v.0, v.1)

pub sub_values : (f : Format) (s : Bool) (a c : ℕ) (t : Bool) (b d : ℕ) → 0 < c → 0 < d → (x y : Float) → HasValue x s a c → HasValue y t b d → sub f x y ≡ sum f s (a * d) (not t) (b * c) (c * d)
unfolding sub
sub_values f s a c t b d C D x y v w = add_values f s a c (not t) b d C D x (neg y) v (neg_values y t b d w)

-- with nothing to add, before and behind, and what is taken away at most as large
pub nothing_behind : (f : Format) (a : ℕ) (t : Bool) (b c : ℕ) → b ≡ 0 → sum f false a t b c ≡ round f false a c
unfolding sum
nothing_behind f a true b c e =
    let i : a - b ≡ a = omega arith in
    rw (le-ltb a b (omega arith), i) refl
nothing_behind f a false b c e =
    let i : a + b ≡ a = omega arith in
    rw i refl

pub nothing_before : (f : Format) (s : Bool) (a b c : ℕ) → a ≡ 0 → sum f s a false b c ≡ round f false b c
unfolding sum
nothing_before f false a b c e =
    let i : a + b ≡ b = omega arith in
    rw i refl
nothing_before f true a b c e =
    ⊎_elim
    (λ (h : b ≤ a).
    let i : a - b ≡ b = omega arith in
    rw (le-ltb a b h, le-ltb b a (omega arith), i) refl)
    (λ (h : a < b).
    let i : b - a ≡ b = omega arith in
    rw (lt-ltb a b h, i) refl)
    (le_or_lt b a)

pub taken : (f : Format) (a b c : ℕ) → b ≤ a → sum f false a true b c ≡ round f false (a - b) c
unfolding sum
taken f a b c h = rw (le-ltb a b h) refl

-- the same value over another denominator
pub revalue : (x : Float) (s : Bool) (a c b d : ℕ) → 0 < c → a * d ≡ b * c → HasValue x s a c → HasValue x s b d
revalue nan s a c b d C e v = v
revalue (inf t) s a c b d C e v = v
revalue (fin t m k) s a c b d C e v = (
  v.0,
  eq_of_mul-eq-mul_right c C (m * up k * d) (b * down k)
      (mul_right_comm (m * up k) d c ∙ ap (λ (z : ℕ). z * d) v.1 ∙ mul_right_comm a (down k) d ∙ ap (λ (z : ℕ). z * down k) e ∙ mul_right_comm b c (down k)),
)

-- A single between 0 and 1, and what 2 ^ i times as much is: it is not rounded
module _ (q : Fraction) (s : Bool) (m : ℕ) (e : ℤ) (D : Delivered (parameters binary32) q s m e) (u : m * up e ≤ down e) where
  joined : (a M W c K I d B : ℕ) → a * B ≡ M * I * d → M * W ≡ c * K * B → a * W * B ≡ c * (K * I) * d * B
  joined a M W c K I d B p q =
      mul_right_comm a W B ∙ ap (λ (z : ℕ). z * W) p ∙ ac1 ∙ ap (λ (z : ℕ). z * (I * d)) q ∙ ac2
    where
      ac1 : M * I * d * W ≡ M * W * (I * d)
      ac1 = simp (mul_assoc, mul_comm, mul_left_comm)

      ac2 : c * K * B * (I * d) ≡ c * (K * I) * d * B
      ac2 = simp (mul_assoc, mul_comm, mul_left_comm)

  pub kept_exact : (i : ℕ) → i ≤ 127 → (t : Bool) (a d : ℕ) → 0 < d → a * down e ≡ m * up e * 2 ^ i * d → HasValue (round binary32 t a d) t a d
  kept_exact i I t a d P h =
      let c = D.x.c in
      let k = D.x.k in
      let v : m * up e * 2 ^ 149 ≡ c * 2 ^ k * down e = D.value in
      let b : c * 2 ^ k ≤ 2 ^ 149 =
      le_of_mul-le-mul_right {m = c * 2 ^ k} {n = 2 ^ 149} {k = down e} (le_trans (le_of_eq (sym v)) (le_trans (mul-le-mul_right (2 ^ 149) u) (le_of_eq (mul_comm (down e) (2 ^ 149))))) (down_pos e) in
      let w : c * 2 ^ (k + i) ≡ c * (2 ^ k * 2 ^ i) = ap (λ (z : ℕ). c * z) (pow-add 2 k i) in
      let x : c * 2 ^ (k + i) ≤ 2 ^ 149 * 2 ^ i = le_trans (le_of_eq (w ∙ sym (mul_assoc c (2 ^ k) (2 ^ i)))) (mul-le-mul_right (2 ^ i) b) in
      let y : 2 ^ 149 * 2 ^ i < 2 ^ 277 = lt_of_le_of_lt (le_of_eq (sym (pow-add 2 149 i))) (pow-lt {i = 149 + i} {j = 277} (omega arith)) in
      let z : a * 2 ^ 149 ≡ c * 2 ^ (k + i) * d =
      eq_of_mul-eq-mul_right (down e) (down_pos e) (a * 2 ^ 149) (c * 2 ^ (k + i) * d) (rw w (joined a (m * up e) (2 ^ 149) c (2 ^ k) (2 ^ i) d (down e) h v)) in
      round_exact binary32 t a d c (k + i) P D.x.digits (lt_of_le_of_lt x y) z
