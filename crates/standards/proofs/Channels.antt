-- CSS Color 3's channel of a part of the whole is the nearest; a channel that grows and steps as it does is that one, unless the part is finer than the steps and lies next to a half.
use Prim.Native.Nat.{ℕ, suc, ◌+◌, ◌-◌, ◌*◌, ◌/◌, ◌≤◌, ◌<◌, min}
use mathlib.Core.Bool.{false}
use mathlib.Core.Path.{◌≡◌, sym, ap, ◌∙◌}
use mathlib.Core.Logic.{◌⊎◌, ⊎_elim}
use native.Mathlib.Nat.{le_antisymm, le_refl, le_of_eq, le_of_lt, lt_of_not-le, mul-le-mul_right, mul_assoc, mul_comm, mul_left_comm, mul_right_comm, add-mul, suc-mul, div-mul-le_self, lt-div-mul-add, le-div_iff_mul-le}
use native.Mathlib.Omega.{arith}
use lib.Ieee.Nearest.{div_same}
use Rattle.text_bytes.proofs.Ranges.{le_or_lt, lt_or_le}
use Rattle.standards.specs.Ieee754.{Fraction, dist}
use Rattle.standards.specs.CssColor3.{scaled}
use Rattle.standards.specs.Nearest.{NearestUp, Grained, OffHalf}
use Rattle.standards.proofs.Jumps.{cut, odd_mul, next_mul, cut_top, low, high, Stepping}

module _ (a b : ℕ) (B : 0 < b) where
  -- THEOREM. CSS Color 3's channel of a part is the nearest, of two as near the greater, and no other is.
  pub cut_nearest : NearestUp (cut a b) a b
  cut_nearest =
      let c = cut a b in
      let l = low a b B in
      record {
        nearest =
            record {
              channel = cut_top a b B;
              nearer = λ j h.
                  ⊎_elim (λ (k : j < c). let n = next_mul b j c k in omega arith)
                  (λ (k : c ≤ j). ⊎_elim (λ (i : j ≤ c). let e : j ≡ c = omega arith in rw e (le_refl (dist (c * b) (255 * a))))
                  (λ (i : c < j). let n = next_mul b c j i in let u = high a b B (omega arith) in omega arith) (le_or_lt j c))
                  (lt_or_le j c);
            };
        greater = λ j h e.
            ⊎_elim (λ (k : j ≤ c). k)
            (λ (k : c < j). absurd (let n = next_mul b c j k in let u = high a b B (omega arith) in omega arith)) (le_or_lt j c);
      }

  pub cut_only : (c : ℕ) → NearestUp c a b → c ≡ cut a b
  cut_only c n =
      let m = cut_nearest in
      let e : dist (c * b) (255 * a) ≡ dist (cut a b * b) (255 * a) = le_antisymm (n.nearest.nearer (cut a b) m.nearest.channel) (m.nearest.nearer c n.nearest.channel) in
      le_antisymm (m.greater c n.nearest.channel e) (n.greater (cut a b) m.nearest.channel (sym e))

  -- the whole or more is 255
  cut_all : b ≤ a → cut a b ≡ 255
  unfolding scaled
  cut_all h =
      let r : 255 ≤ (2 * (255 * a) + b) / (2 * b) = (le-div_iff_mul-le {k = 2 * b} {x = 255} {y = 2 * (255 * a) + b} (omega arith)).1 (omega arith) in
      omega arith

-- equal parts have one channel
cut_same : (a c n g : ℕ) → 0 < c → 0 < g → a * g ≡ n * c → cut a c ≡ cut n g
unfolding scaled
cut_same a c n g C G e =
    let x : (2 * (255 * a) + c) * (2 * g) ≡ 1020 * (a * g) + 2 * (c * g) = simp (add-mul, mul_assoc, mul_left_comm) (omega arith) in
    let y : (2 * (255 * n) + g) * (2 * c) ≡ 1020 * (n * c) + 2 * (c * g) = simp (add-mul, mul_assoc, mul_left_comm, mul_comm) (omega arith) in
    ap (min 255) (div_same (2 * (255 * a) + c) (2 * c) (2 * (255 * n) + g) (2 * g) (omega arith) (omega arith) (omega arith))

-- r is no farther from 255 a / c than 1/2 and 255 / g: all is times 2, g and c
record Close (g r a c : ℕ) : Type 0 where
  over : 2 * (r * c * g) ≤ 510 * (a * g) + (c * g + 510 * c)
  under : 510 * (a * g) ≤ 2 * (r * c * g) + (c * g + 510 * c)

module _ (g : ℕ) (G : 0 < g) (r a c : ℕ) where
  -- what lies between n / g and (n + 1) / g, with a channel between theirs, is so close
  closed_in : (n : ℕ) → a ≤ c → n * c ≤ a * g → a * g ≤ n * c + c → cut n g ≤ r → r ≤ cut (suc n) g → Close g r a c
  closed_in n h lower upper from upto =
      let s : r * g * c ≡ r * c * g = mul_right_comm r g c in
      let k : g * c ≡ c * g = mul_comm g c in
      let x : 2 * (r * g) ≤ 510 * n + (510 + g) = let l = low (suc n) g G in let m = mul-le-mul_right g upto in omega arith in
      let x1 : 2 * (r * g) * c ≤ (510 * n + (510 + g)) * c = mul-le-mul_right c x in
      let x2 : 2 * (r * g) * c ≡ 2 * (r * g * c) = mul_assoc 2 (r * g) c in
      let x3 : (510 * n + (510 + g)) * c ≡ 510 * (n * c) + (510 * c + g * c) = simp (add-mul, mul_assoc) in
      record {
        over = omega arith;
        under = ⊎_elim
            (λ (w : 255 ≤ r).
            let m : 255 * (c * g) ≤ r * c * g = rw (mul_assoc r c g) (mul-le-mul_right (c * g) w) in
            let y : a * g ≤ c * g = mul-le-mul_right g h in
            omega arith)
            (λ (w : r < 255).
            let z : 510 * n ≤ 2 * (r * g) + g = let u = high n g G (omega arith) in let m = mul-le-mul_right g from in omega arith in
            let z1 : 510 * n * c ≤ (2 * (r * g) + g) * c = mul-le-mul_right c z in
            let z2 : 510 * n * c ≡ 510 * (n * c) = mul_assoc 510 n c in
            let z3 : (2 * (r * g) + g) * c ≡ 2 * (r * g * c) + g * c = simp (add-mul, mul_assoc) in
            omega arith)
            (le_or_lt 255 r);
      }

  module _ (C : 0 < c) (near : Close g r a c) where
    -- less than 1 away: 1 is twice c * g here, and of that only c * g and 510 c are allowed
    within_one : 510 < g → dist (r * c) (255 * a) < c
    within_one m =
        let w : 511 * c ≤ c * g = rw (mul_comm c g) (mul-le-mul_right c m) in
        let o = near.over in
        let u = near.under in
        lt_of_not-le (λ (h : c ≤ dist (r * c) (255 * a)).
        ⊎_elim
        (λ (k : 255 * a ≤ r * c).
        let i : (255 * a + c) * g ≤ r * c * g = mul-le-mul_right g (omega arith) in
        let j : (255 * a + c) * g ≡ 255 * (a * g) + c * g = simp (add-mul, mul_assoc) in
        omega arith)
        (λ (k : r * c < 255 * a).
        let i : (r * c + c) * g ≤ 255 * a * g = mul-le-mul_right g (omega arith) in
        let j : (r * c + c) * g ≡ r * c * g + c * g = add-mul (r * c) c g in
        let l : 255 * a * g ≡ 255 * (a * g) = mul_assoc 255 a g in
        omega arith)
        (le_or_lt (255 * a) (r * c)))

    -- and away from the halves the nearest
    module _ (off : OffHalf g (record { minus = false; over = a; under = c })) where
      odd_parts : (k : ℕ) → (2 * (k * c) + c) * g ≡ 2 * (k * c * g) + c * g
      odd_parts k = simp (add-mul, mul_assoc)

      apart : (d x y : ℕ) → 510 * c < d * g → d + x ≡ y → x * g + 510 * c < y * g
      apart d x y h e = let m : (d + x) * g ≡ d * g + x * g = add-mul d x g in omega (arith, ap (λ (z : ℕ). z * g) e)

      under_half : r < 255 → 2 * (255 * a) < 2 * (r * c) + c
      under_half h =
          let w : (2 * r + 1) * c ≡ 2 * (r * c) + c = odd_mul r c in
          let o = off r h in
          lt_of_not-le (λ (k : 2 * (r * c) + c ≤ 2 * (255 * a)).
          let d = apart (dist (510 * a) ((2 * r + 1) * c)) (2 * (r * c) + c) (510 * a) o (omega arith) in
          let u = near.under in
          omega (arith, odd_parts r, mul_assoc 510 a g))

      from_half : 0 < r → r ≤ 255 → 2 * (r * c) ≤ 2 * (255 * a) + c
      from_half p h =
          let k = r - 1 in
          let e : r ≡ suc k = omega arith in
          let y : r * c ≡ k * c + c = ap (λ (x : ℕ). x * c) e ∙ suc-mul k c in
          let w : (2 * k + 1) * c ≡ 2 * (k * c) + c = odd_mul k c in
          let o = off k (omega arith) in
          ⊎_elim (λ (q : 2 * (r * c) ≤ 2 * (255 * a) + c). q)
          (λ (q : 2 * (255 * a) + c < 2 * (r * c)).
          let d = apart (dist (510 * a) ((2 * k + 1) * c)) (510 * a) (2 * (k * c) + c) o (omega arith) in
          let z : r * c * g ≡ k * c * g + c * g = ap (λ (x : ℕ). x * g) y ∙ add-mul (k * c) c g in
          let u = near.over in
          absurd (omega (arith, odd_parts k, mul_assoc 510 a g)))
          (le_or_lt (2 * (r * c)) (2 * (255 * a) + c))

      close_cut : r ≤ 255 → r ≡ cut a c
      close_cut top =
          le_antisymm
          (⊎_elim (λ (q : r ≤ cut a c). q)
          (λ (q : cut a c < r). absurd (let x = from_half (omega arith) top in let y = high a c C (omega arith) in let z = next_mul c (cut a c) r q in omega arith))
          (le_or_lt r (cut a c)))
          (⊎_elim (λ (q : cut a c ≤ r). q)
          (λ (q : r < cut a c). absurd (let x = under_half (omega (arith, cut_top a c C)) in let y = low a c C in let z = next_mul c r (cut a c) q in omega arith))
          (le_or_lt (cut a c) r))

abbrev part : ℕ → ℕ → Fraction
part a c = record { minus = false; over = a; under = c }

module _ {g : ℕ} {f : ℕ → ℕ → ℕ} (s : Stepping g f) (a c : ℕ) (C : 0 < c) where
  some : 0 < g
  some = omega (arith, s.many)

  from : (n : ℕ) → n * c ≤ a * g → cut n g ≤ f a c
  from n h = rw (← s.grained n) (s.growing.grows n g a c some C h)

  upto : (n : ℕ) → a * g ≤ n * c → f a c ≤ cut n g
  upto n h = rw (← s.grained n) (s.growing.grows a c n g C some h)

  close : a ≤ c → Close g (f a c) a c
  close h =
      let n = a * g / c in
      let lower : n * c ≤ a * g = div-mul-le_self (a * g) c in
      let upper : a * g < n * c + c = lt-div-mul-add {a = a * g} {b = c} C in
      closed_in g some (f a c) a c n h lower (le_of_lt upper) (from n lower) (upto (suc n) (omega (arith, suc-mul n c)))

  -- THEOREM. A channel that grows, and is CSS Color 3's at every whole number of 1 / g, is 255 from the whole on,
  pub all : c ≤ a → f a c ≡ 255
  all h = le_antisymm (s.growing.top a c) (rw (cut_all g g some (le_refl g)) at (from g (rw (mul_comm g c) (mul-le-mul_right g h))))

  -- THEOREM. and up to it less than 1 away from 255 a / c, one of the two nearest.
  pub one_of_two : a ≤ c → dist (f a c * c) (255 * a) < c
  one_of_two h = within_one g some (f a c) a c C (close h) s.many

  -- THEOREM. And it is CSS Color 3's channel, unless the part is finer than 1 / g and no more than 1 / g away from a half.
  pub is_cut : Grained g (part a c) ⊎ OffHalf g (part a c) → f a c ≡ cut a c
  is_cut h =
      ⊎_elim (λ (q : Grained g (part a c)). le_antisymm (upto q.0 (le_of_eq q.1)) (from q.0 (le_of_eq (sym q.1))) ∙ sym (cut_same a c q.0 g C some q.1))
      (λ (q : OffHalf g (part a c)).
      ⊎_elim (λ (w : c ≤ a). all w ∙ sym (cut_all a c C w)) (λ (w : a < c). close_cut g some (f a c) a c C (close (le_of_lt w)) q (s.growing.top a c)) (le_or_lt c a))
      h
