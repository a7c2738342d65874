-- The remainder of two numbers of a format is a number of the format: C's fmod rounds nothing.
use Prim.Native.Nat.{ℕ, zero, suc, ◌+◌, ◌-◌, ◌*◌, ◌/◌, ◌%◌, ◌^◌, ◌≤◌, ◌<◌}
use mathlib.Core.Bool.{Bool, ◌&&◌}
use mathlib.Core.Logic.{⊎_elim}
use mathlib.Core.Path.{◌≡◌, sym, ap, ◌∙◌}
use native.Mathlib.Nat.{le_of_lt, lt_of_le_of_lt, lt_of_lt_of_le, lt_of_not-le, not-le_of_lt, le_of_suc-le-suc, le_of_eq, mul-pos, mul_assoc, mul_comm, mul-one, mul_right_comm, zero-mul, add-mul, mul-lt-mul_of_pos_right, lt_of_mul-lt-mul_right, div-add-mod', mod-lt, mod-le, mod-eq_of_lt, mul-add-mod_self_right}
use native.Mathlib.Omega.{arith}
use borrow.Author.Tests.{ne_eqb}
use lib.Dec.{T, ltb, leb, eqb, ltb→lt, leb→le}
use lib.IntN.{ℤ, pos, negsuc}
use lib.Pow.{pow-add, pow_pos, pow-lt}
use lib.Ieee.{Format, fin, prec, emax, low, up, down, rem, fits}
use lib.Ieee.Exact.{HasValue, round_exact}
use lib.Ieee.Fits.{and_l, and_r, up_pos, down_pos}
use Rattle.text_bytes.proofs.Ranges.{le_or_lt}
use Rattle.standards.specs.Ieee754.{exact, leftover}
use Rattle.standards.proofs.Nearness.{on_grid}

mod_scale : (x y d : ℕ) → 0 < y → 0 < d → x * d % (y * d) ≡ x % y * d
mod_scale x y d Y D =
    let e : x * d ≡ x / y * (y * d) + x % y * d =
    ap (λ (z : ℕ). z * d) (sym (div-add-mod' x y)) ∙ add-mul (x / y * y) (x % y) d ∙ ap (λ (z : ℕ). z + x % y * d) (mul_assoc (x / y) y d) in
    ap (λ (z : ℕ). z % (y * d)) e ∙ mul-add-mod_self_right (x / y) (y * d) (x % y * d) ∙ mod-eq_of_lt (mul-lt-mul_of_pos_right (mod-lt x Y) D)

-- a number of units with at most p digits before its zeros
record Short (p u : ℕ) : Type 0 where
  r : ℕ
  j : ℕ
  digits : r < 2 ^ p
  is : u ≡ r * 2 ^ j

rest_short : (p m a n b : ℕ) → m < 2 ^ p → n < 2 ^ p → 0 < n → Short p (m * 2 ^ a % (n * 2 ^ b))
rest_short p m a n b M L N =
    ⊎_elim (λ (h : a ≤ b).
    record {
      r = m % (n * 2 ^ (b - a));
      j = a;
      digits = lt_of_le_of_lt (mod-le m (n * 2 ^ (b - a))) M;
      is = ap (λ (z : ℕ). m * 2 ^ a % z) (on_grid n a b h) ∙ mod_scale m (n * 2 ^ (b - a)) (2 ^ a) (mul-pos N (pow_pos (b - a))) (pow_pos a);
    })
    (λ (h : b < a).
    record {
      r = m * 2 ^ (a - b) % n;
      j = b;
      digits = lt_of_le_of_lt (le_of_lt (mod-lt (m * 2 ^ (a - b)) N)) L;
      is = ap (λ (z : ℕ). z % (n * 2 ^ b)) (on_grid m b a (le_of_lt h)) ∙ mod_scale (m * 2 ^ (a - b)) n (2 ^ b) N (pow_pos b);
    })
    (le_or_lt a b)

-- what fits a format is m * 2 ^ a of its units
record InUnits (f : Format) (m : ℕ) (e : ℤ) : Type 0 where
  a : ℕ
  digits : m < 2 ^ prec f
  value : m * up e * 2 ^ low f ≡ m * 2 ^ a * down e
  below : m * 2 ^ a < 2 ^ (low f + suc (emax f))

places : (l m : ℕ) (e : ℤ) → down e ≤ 2 ^ l → (a : ℕ) × (m * up e * 2 ^ l ≡ m * 2 ^ a * down e)
places l m (pos k) h = (k + l, mul_assoc m (2 ^ k) (2 ^ l) ∙ ap (λ (z : ℕ). m * z) (sym (pow-add 2 k l)) ∙ sym (mul-one (m * 2 ^ (k + l))))
places l m (negsuc k) h =
    let g : suc k ≤ l = le_of_suc-le-suc (lt_of_not-le (λ (z : suc l ≤ suc k). not-le_of_lt (pow-lt z) h)) in
    (l - suc k, ap (λ (z : ℕ). z * 2 ^ l) (mul-one m) ∙ on_grid m (suc k) l g)

in_units : (f : Format) (s : Bool) (m : ℕ) (e : ℤ) → T (fits f (fin s m e)) → InUnits f m e
unfolding fits
in_units f s zero e t =
    record {
      a = 0;
      digits = pow_pos (prec f);
      value = ap (λ (z : ℕ). z * 2 ^ low f) (zero-mul (up e)) ∙ zero-mul (2 ^ low f) ∙ sym (zero-mul (down e));
      below = pow_pos (low f + suc (emax f));
    }
in_units f s (suc m) e t =
    let o : Bool = eqb (suc m % 2) 1 in
    let b : Bool = ltb (suc m) (2 ^ prec f) in
    let c : Bool = leb (down e) (2 ^ low f) in
    let d : Bool = ltb (suc m * up e) (2 ^ suc (emax f) * down e) in
    let t3 = and_l (o && b && c) d t in
    let p = places (low f) (suc m) e (leb→le (down e) (2 ^ low f) (and_r (o && b) c t3)) in
    let w : suc m * up e * 2 ^ low f < 2 ^ suc (emax f) * down e * 2 ^ low f =
    mul-lt-mul_of_pos_right (ltb→lt (suc m * up e) (2 ^ suc (emax f) * down e) (and_r (o && b && c) d t)) (pow_pos (low f)) in
    let v : 2 ^ suc (emax f) * down e * 2 ^ low f ≡ 2 ^ (low f + suc (emax f)) * down e =
    mul_right_comm (2 ^ suc (emax f)) (down e) (2 ^ low f) ∙ ap (λ (z : ℕ). z * down e) (mul_comm (2 ^ suc (emax f)) (2 ^ low f) ∙ sym (pow-add 2 (low f) (suc (emax f)))) in
    record {
      a = p.0;
      digits = ltb→lt (suc m) (2 ^ prec f) (and_r o b (and_l (o && b) c t3));
      value = p.1;
      below = lt_of_mul-lt-mul_right (down e) (lt_of_le_of_lt (le_of_eq (sym p.1)) (lt_of_lt_of_le w (le_of_eq v)));
    }

-- THEOREM. x % y of two numbers of a format is the exact remainder, finite and with the sign of x.
pub rem_exact : (f : Format) (s : Bool) (m : ℕ) (e : ℤ) (t : Bool) (n : ℕ) (d : ℤ) → 0 < n → T (fits f (fin s m e)) → T (fits f (fin t n d))
    → (let r = leftover (exact s m e) (exact t n d) in HasValue (rem f (fin s m e) (fin t n d)) r.minus r.over r.under)
unfolding rem
rem_exact f s m e t n d N i j =
    let x = in_units f s m e i in
    let y = in_units f t n d j in
    let l = 2 ^ low f in
    let den = down e * down d in
    let X = m * 2 ^ x.a in
    let Y = n * 2 ^ y.a in
    let A = m * up e * down d in
    let B = n * up d * down e in
    let D : 0 < den = mul-pos (down_pos e) (down_pos d) in
    let YP : 0 < Y = mul-pos N (pow_pos y.a) in
    let a : A * l ≡ X * den = mul_right_comm (m * up e) (down d) l ∙ ap (λ (z : ℕ). z * down d) x.value ∙ mul_assoc X (down e) (down d) in
    let b : B * l ≡ Y * den =
    mul_right_comm (n * up d) (down e) l ∙ ap (λ (z : ℕ). z * down e) y.value ∙ mul_assoc Y (down d) (down e) ∙ ap (λ (z : ℕ). Y * z) (mul_comm (down d) (down e)) in
    let c : A % B * l ≡ X % Y * den =
    sym (mod_scale A B l (mul-pos (mul-pos N (up_pos d)) (down_pos e)) (pow_pos (low f)))
    ∙ ap (λ (z : ℕ). z % (B * l)) a ∙ ap (λ (z : ℕ). X * den % z) b ∙ mod_scale X Y den YP D in
    let k = rest_short (prec f) m x.a n y.a x.digits y.digits N in
    let g : k.r * 2 ^ k.j < 2 ^ (low f + suc (emax f)) = lt_of_le_of_lt (le_of_eq (sym k.is)) (lt_of_le_of_lt (le_of_lt (mod-lt X YP)) y.below) in
    rw (ne_eqb n 0 (λ z. omega arith)) (round_exact f s (A % B) den k.r k.j D k.digits g (c ∙ ap (λ (z : ℕ). z * den) k.is))
