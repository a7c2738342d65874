-- The logic's `round` is IEEE 754's roundTiesToEven, and its operations round the exact result once.
use Prim.Native.Nat.{ℕ, suc, ◌+◌, ◌-◌, ◌*◌, ◌/◌, ◌^◌, ◌≤◌, ◌<◌}
use mathlib.Core.Bool.{Bool, true, false, not, ◌&&◌, beq, cond}
use mathlib.Core.Logic.{⊎_elim}
use mathlib.Core.Path.{◌≡◌, refl, sym, ap, ◌∙◌}
use native.Mathlib.Nat.{not-le_of_lt, le_antisymm, eq-or-lt_of_le, mul-div_cancel, mul-pos}
use native.Mathlib.Omega.{arith}
use borrow.Author.Tests.{ne_eqb}
use lib.Dec.{T, ltb, ltb→lt, nltb→le, lit<}
use lib.IntN.{ℤ}
use lib.Ieee as Ieee
use lib.Ieee.{Float, nan, inf, fin, Format, binary32, binary64, prec, emax, up, down, round, neg, add, sub, mul, div, rem, size, fits, hid, top, to_bits}
use lib.Ieee.Exact.{HasValue, odd_sign}
use lib.Ieee.Fits.{round_is, round-fits, two, eq→eqb, up_pos, down_pos}
use lib.Ieee.Order.{drop, kept}
use Rattle.text_bytes.proofs.Ranges.{le_or_lt}
use Rattle.floats.specs.Floats.{narrowed}
use Rattle.floats.proofs.Channels.{by_bits}
use Rattle.standards.specs.Ieee754.{Fraction, Parameters, parameters, low, Finite, units, distance, Overflows, Delivered, RoundsTo, double, single, exact, added, sum, difference, product, quotient, leftover}
use Rattle.standards.proofs.Nearness.{Encoded, encode, kept_le, kept_ge, kept_nearest, kept_even, kept_below, no_finite, next_digits, not_both}

-- the logic's p and emax: by computation, the document's
abbrev own : Format → Parameters
own f = record { p = prec f; emax = emax f }

emax_pos : (f : Format) → 0 < emax f
emax_pos binary32 = lit< tt
emax_pos binary64 = lit< tt

over_top : (p e : ℕ) → 2 ≤ p → e + p - 2 + suc e ≡ 2 * e + (p - 1)
over_top p e P = omega arith

module _ (f : Format) (q : Fraction) (D : 0 < q.under) where
  abbrev n : ℕ
  n = q.over * 2 ^ Ieee.low f

  abbrev kept_units : ℕ
  kept_units = kept (prec f) n q.under * 2 ^ drop (prec f) n q.under

  if_finite : kept_units < 2 ^ (2 * emax f + (prec f - 1)) → (v : Float) → HasValue v q.minus kept_units (2 ^ Ieee.low f) → RoundsTo (own f) q v
  if_finite u nan h = absurd h
  if_finite u (inf s) h = absurd h
  if_finite u (fin s m e) h =
      let p = prec f in
      let d = q.under in
      let P = two f in
      let x : Encoded p (emax f) (kept p n d) (drop p n d) = encode p (emax f) (kept p n d) (drop p n d) P (emax_pos f) (kept_le p n d P D) (kept_ge p n d P D) u in
      record {
        sign = h.0;
        below = λ o. no_finite p (emax f) q.over d P (emax_pos f) D o u;
        x = record { c = x.c; k = x.i; digits = x.digits; exponent = x.exponent };
        value = rw x.same h.1;
        nearest = λ y. rw x.same (kept_nearest p n d P D y.c y.k y.digits);
        even = λ y t other. x.parity (kept_even p n d P D y.c y.k y.digits (rw x.same at t) (rw x.same at other));
        encoded = x.form;
      }

  if_infinite : 2 ^ (2 * emax f + (prec f - 1)) ≤ kept_units → Overflows (own f) q
  if_infinite g =
      ⊎_elim (λ (h : Overflows (own f) q). h)
      (λ h. absurd (not-le_of_lt (kept_below (prec f) (emax f) q.over q.under (two f) (emax_pos f) D h) g))
      (le_or_lt (2 ^ emax f * (2 ^ suc (prec f) - 1) * q.under) (q.over * 2 ^ prec f))

  units_rounds : RoundsTo (own f) q (Ieee.units f q.minus (kept (prec f) n q.under) (drop (prec f) n q.under))
  unfolding Ieee.units
  units_rounds = go (ltb kept_units bound) (ltb→lt kept_units bound) (nltb→le kept_units bound)
    where
      bound : ℕ
      bound = 2 ^ (Ieee.low f + suc (emax f))

      same : bound ≡ 2 ^ (2 * emax f + (prec f - 1))
      same = ap (λ (x : ℕ). 2 ^ x) (over_top (prec f) (emax f) (two f))

      written : Float
      written = Ieee.odd (suc (prec f)) q.minus (kept (prec f) n q.under) (drop (prec f) n q.under) (Ieee.low f)

      go : (b : Bool) → (T b → kept_units < bound) → (T (not b) → bound ≤ kept_units) → RoundsTo (own f) q (cond b written (inf q.minus))
      go true h g = if_finite (rw same at (h tt)) written (odd_sign (suc (prec f)) q.minus (kept (prec f) n q.under) (drop (prec f) n q.under) (Ieee.low f))
      go false h g = (refl, if_infinite (rw same at (g tt)))

  own_rounds : RoundsTo (own f) q (round f q.minus q.over q.under)
  own_rounds = rw (round_is f q.minus q.over q.under) units_rounds

-- THEOREM. `round` is roundTiesToEven, of every fraction and in both formats, subnormal results and overflow included.
pub round_rounds : (f : Format) (q : Fraction) → 0 < q.under → RoundsTo (parameters f) q (round f q.minus q.over q.under)
round_rounds binary32 q D = own_rounds binary32 q D
round_rounds binary64 q D = own_rounds binary64 q D

-- The value is the only one: two that are the nearest, or even where two are as near, are the same number
module _ (f : Parameters) (q : Fraction) (P : 2 ≤ f.p) (D : 0 < q.under) where
  not_less : {s t : Bool} {m n : ℕ} {e d : ℤ} (a : Delivered f q s m e) (b : Delivered f q t n d) → units a.x < units b.x → ⊥
  not_less a b h =
      let x = a.x in
      let y = b.x in
      let z : distance q y ≡ distance q x = le_antisymm (b.nearest x) (a.nearest y) in
      let c = a.even y z (λ w. omega arith) in
      let d = b.even x (sym z) (λ w. omega arith) in
      let less : suc x.c < 2 ^ f.p = next_digits f.p x.c x.k y.c y.k P x.digits y.digits a.encoded c d h in
      let next : Finite f = record { c = suc x.c; k = x.k; digits = less; exponent = x.exponent } in
      not_both f.p x.c x.k y.c y.k P x.digits y.digits a.encoded c d h (q.over * 2 ^ low f) q.under D z (a.nearest next)

  same_units : {s t : Bool} {m n : ℕ} {e d : ℤ} (a : Delivered f q s m e) (b : Delivered f q t n d) → units a.x ≡ units b.x
  same_units a b =
      ⊎_elim (λ (h : units a.x ≤ units b.x). ⊎_elim (λ (g : units a.x ≡ units b.x). g) (λ g. absurd (not_less a b g)) (eq-or-lt_of_le h))
      (λ h. absurd (not_less b a h))
      (le_or_lt (units a.x) (units b.x))

-- the bits of a sign and so many units
abbrev bits_at : Format → Bool → ℕ → ℕ
bits_at f s u = cond s (top f) 0 + (size u - prec f) * hid f + u / 2 ^ (size u - prec f)

bits_of_value : (f : Format) (s : Bool) (m : ℕ) (e : ℤ) (u : ℕ) → m * up e * 2 ^ Ieee.low f ≡ u * down e → to_bits f (fin s m e) ≡ bits_at f s u
unfolding to_bits
bits_of_value f s m e u h = ap (bits_at f s) (ap (λ (x : ℕ). x / down e) h ∙ mul-div_cancel u (down_pos e))

own_once : (f : Format) (q : Fraction) → 0 < q.under → (v w : Float) → T (fits f v) → T (fits f w) → RoundsTo (own f) q v → RoundsTo (own f) q w → v ≡ w
own_once f q D nan w i j h g = absurd h
own_once f q D (inf s) nan i j h g = absurd g
own_once f q D (inf s) (inf t) i j h g = ap inf (h.0 ∙ sym g.0)
own_once f q D (inf s) (fin t n d) i j h g = absurd (g.below h.1)
own_once f q D (fin s m e) nan i j h g = absurd g
own_once f q D (fin s m e) (inf t) i j h g = absurd (h.below g.1)
own_once f q D (fin s m e) (fin t n d) i j h g =
    let u : to_bits f (fin s m e) ≡ to_bits f (fin t n d) =
    bits_of_value f s m e (units h.x) h.value
    ∙ ap (λ (b : Bool). bits_at f b (units h.x)) (h.sign ∙ sym g.sign)
    ∙ ap (bits_at f t) (same_units (own f) q (two f) D h g)
    ∙ sym (bits_of_value f t n d (units g.x) g.value) in
    by_bits f (fin s m e) (fin t n d) i j (eq→eqb u)

-- THEOREM. Of a format's values no other is so: the property leaves nothing open.
pub rounds_once : (f : Format) (q : Fraction) → 0 < q.under → (v : Float) → T (fits f v) → RoundsTo (parameters f) q v → v ≡ round f q.minus q.over q.under
rounds_once binary32 q D v i h = own_once binary32 q D v (round binary32 q.minus q.over q.under) i (round-fits binary32 q.minus q.over q.under) h (own_rounds binary32 q D)
rounds_once binary64 q D v i h = own_once binary64 q D v (round binary64 q.minus q.over q.under) i (round-fits binary64 q.minus q.over q.under) h (own_rounds binary64 q D)

-- THEOREM. So rounded are the double and the single that the theorems of the readers speak of.
pub double_rounds : (q : Fraction) → 0 < q.under → RoundsTo (parameters binary64) q (double q)
unfolding double
double_rounds q D = round_rounds binary64 q D

pub single_rounds : (q : Fraction) → 0 < q.under → RoundsTo (parameters binary32) q (single q)
unfolding single
single_rounds q D = round_rounds binary32 q D

-- Every operation on finite operands is one rounding of the exact result of its exact operands, in either format.
pick_rounds : (f : Parameters) (b : Bool) (q r : Fraction) (x y : Float) → RoundsTo f q x → RoundsTo f r y → RoundsTo f (cond b q r) (cond b x y)
pick_rounds f true q r x y h g = h
pick_rounds f false q r x y h g = g

added_rounds : (f : Format) (s : Bool) (a : ℕ) (t : Bool) (b c : ℕ) → 0 < c → RoundsTo (parameters f) (added s a t b c) (Ieee.sum f s a t b c)
unfolding Ieee.sum
added_rounds f s a t b c C =
    pick_rounds (parameters f) (beq s t) _ _ _ _ (round_rounds f (record { minus = s; over = a + b; under = c }) C)
    (pick_rounds (parameters f) (ltb a b) _ _ _ _ (round_rounds f (record { minus = t; over = b - a; under = c }) C) (round_rounds f (record { minus = s && ltb b a; over = a - b; under = c }) C))

module _ (f : Format) (s : Bool) (m : ℕ) (e : ℤ) (t : Bool) (n : ℕ) (d : ℤ) where
  -- THEOREM. x + y,
  pub add_rounds : RoundsTo (parameters f) (sum (exact s m e) (exact t n d)) (add f (fin s m e) (fin t n d))
  unfolding add
  add_rounds = added_rounds f s (m * up e * down d) t (n * up d * down e) (down e * down d) (mul-pos (down_pos e) (down_pos d))

  -- THEOREM. x * y,
  pub mul_rounds : RoundsTo (parameters f) (product (exact s m e) (exact t n d)) (mul f (fin s m e) (fin t n d))
  unfolding mul
  mul_rounds = round_rounds f (product (exact s m e) (exact t n d)) (mul-pos (down_pos e) (down_pos d))

  -- THEOREM. x / y,
  pub div_rounds : 0 < n → RoundsTo (parameters f) (quotient (exact s m e) (exact t n d)) (div f (fin s m e) (fin t n d))
  unfolding div
  div_rounds h = rw (ne_eqb n 0 (λ z. omega arith)) (round_rounds f (quotient (exact s m e) (exact t n d)) (mul-pos (mul-pos h (up_pos d)) (down_pos e)))

  -- THEOREM. x % y,
  pub rem_rounds : 0 < n → RoundsTo (parameters f) (leftover (exact s m e) (exact t n d)) (rem f (fin s m e) (fin t n d))
  unfolding rem
  rem_rounds h = rw (ne_eqb n 0 (λ z. omega arith)) (round_rounds f (leftover (exact s m e) (exact t n d)) (mul-pos (down_pos e) (down_pos d)))

-- THEOREM. and x - y.
pub sub_rounds : (f : Format) (s : Bool) (m : ℕ) (e : ℤ) (t : Bool) (n : ℕ) (d : ℤ) → RoundsTo (parameters f) (difference (exact s m e) (exact t n d)) (sub f (fin s m e) (fin t n d))
unfolding sub neg
sub_rounds f s m e t n d = add_rounds f s m e (not t) n d

-- THEOREM. A double made a single is the nearest one.
pub narrowed_rounds : (s : Bool) (m : ℕ) (e : ℤ) → RoundsTo (parameters binary32) (exact s m e) (narrowed (fin s m e))
unfolding narrowed
narrowed_rounds s m e = round_rounds binary32 (exact s m e) (down_pos e)
