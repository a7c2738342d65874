-- What `round` keeps of a fraction is, of all numbers of a format, the nearest, an even one where two are as near; and where it reaches beyond the format. Nothing here is about floats.
use Prim.Native.Nat.{ℕ, zero, suc, ◌+◌, ◌-◌, ◌*◌, ◌/◌, ◌%◌, ◌^◌, ◌≤◌, ◌<◌, zero-le, compare}
use mathlib.Core.Logic.{◌⊎◌, inl, inr, ⊎_elim}
use mathlib.Core.Path.{◌≡◌, refl, sym, ap, ◌∙◌, subst}
use native.Mathlib.Nat.{le_trans, le_of_eq, le_of_lt, lt_of_lt_of_le, lt_of_le_of_lt, lt_of_not-le, not-le_of_lt, eq-or-lt_of_le, mul_comm, mul_assoc, mul_right_comm, mul-pos, mul-le-mul_right, mul-lt-mul_of_pos_right, div-add-mod', mod-lt, div-div-eq-div-mul, le-div_iff_mul-le, eq_of_mul-eq-mul_right, pow-suc, mul-mod_left, suc-mul, sub-add_cancel, pow-succ', le_refl, add-mul, lt_of_mul-lt-mul_right, le_of_mul-le-mul_right}
use native.Mathlib.Omega.{arith}
use lib.Pow.{pow-add, pow_pos, pow_mono, pow-lt, shl_lt, ones_lt, le_ones}
use lib.Ieee.{size}
use lib.Ieee.Digits.{size_reaches}
use lib.Ieee.Fits.{kept-lt, nearest-le}
use lib.Ieee.Nearest.{closest, nearest-ge}
use lib.Ieee.Order.{drop, kept}
use Rattle.text_bytes.proofs.Ranges.{le_or_lt, lt_or_le}
use Rattle.floats.proofs.Rounding.{closest_lt, closest_eq, closest_gt}
use Rattle.standards.specs.Ieee754.{dist}

-- j lies on w, or to a side of it: so do their multiples of u
data Side (u w j : ℕ) : Type 0 where
  here : j ≡ w → Side u w j
  left : j * u + u ≤ w * u → Side u w j
  right : w * u + u ≤ j * u → Side u w j

next_mul : (u i j : ℕ) → i < j → i * u + u ≤ j * u
next_mul u i j h = let m = mul-le-mul_right u h in omega arith

side : (u w j : ℕ) → Side u w j
side u w j = ⊎_elim (λ (h : j ≤ w). ⊎_elim here (λ l. left (next_mul u j w l)) (eq-or-lt_of_le h)) (λ (h : w < j). right (next_mul u w j h)) (le_or_lt j w)

-- `closest n u` is the whole number nearest to n / u, and even if another is as near
record Best (n u q : ℕ) : Type 0 where
  nearer : (j : ℕ) → dist (q * u) n ≤ dist (j * u) n
  tied : (j : ℕ) → dist (j * u) n ≡ dist (q * u) n → (j ≡ q → ⊥) → q % 2 ≡ 0

best_low : (n u w r : ℕ) → w * u + r ≡ n → 0 < u → r * 2 < u → Best n u w
best_low n u w r e p h =
    record {
      nearer = λ j. elim (side u w j) [ here d ↦ le_of_eq (ap (λ (x : ℕ). dist (x * u) n) (sym d)) | left d ↦ omega arith | right d ↦ omega arith ];
      tied = λ j t other. elim (side u w j) [ here d ↦ absurd (other d) | left d ↦ absurd (omega arith) | right d ↦ absurd (omega arith) ];
    }

best_high : (n u w r : ℕ) → w * u + r ≡ n → r < u → u < r * 2 → Best n u (suc w)
best_high n u w r e l h =
    let s : suc w * u ≡ w * u + u = suc-mul w u in
    record {
      nearer = λ j. elim (side u (suc w) j) [ here d ↦ le_of_eq (ap (λ (x : ℕ). dist (x * u) n) (sym d)) | left d ↦ omega arith | right d ↦ omega arith ];
      tied = λ j t other. elim (side u (suc w) j) [ here d ↦ absurd (other d) | left d ↦ absurd (omega arith) | right d ↦ absurd (omega arith) ];
    }

-- halfway between w and the next, either is as near as any
best_tie : (n u w r q : ℕ) → w * u + r ≡ n → r * 2 ≡ u → (q ≡ w) ⊎ (q ≡ suc w) → q % 2 ≡ 0 → Best n u q
best_tie n u w r q e h c z =
    let at : dist (q * u) n ≡ r =
    ⊎_elim (λ d. let s : q * u ≡ w * u = ap (λ (x : ℕ). x * u) d in omega arith)
    (λ d. let s : q * u ≡ w * u + u = ap (λ (x : ℕ). x * u) d ∙ suc-mul w u in omega arith) c in
    record {
      nearer = λ j. elim (side u w j) [ here d ↦ (let s : j * u ≡ w * u = ap (λ (x : ℕ). x * u) d in omega arith) | left d ↦ omega arith | right d ↦ omega arith ];
      tied = λ j t other. z;
    }

to_even : (w : ℕ) → (w + w % 2 ≡ w) ⊎ (w + w % 2 ≡ suc w)
to_even w = ⊎_elim (λ (h : w % 2 ≤ 0). inl (omega arith)) (λ (h : 0 < w % 2). inr (omega arith)) (le_or_lt (w % 2) 0)

even_then : (w : ℕ) → (w + w % 2) % 2 ≡ 0
even_then w = omega arith

closest_best : (n u : ℕ) → 0 < u → Best n u (closest n u)
closest_best n u p =
    let w = n / u in
    let r = n % u in
    let e : w * u + r ≡ n = div-add-mod' n u in
    let l : r < u = mod-lt n p in
    ⊎_elim (λ (h : r * 2 < u). rw (closest_lt n u h) (best_low n u w r e p h))
    (λ (h : u ≤ r * 2).
    ⊎_elim (λ (d : u ≡ r * 2). rw (closest_eq n u (sym d)) (best_tie n u w r (w + w % 2) e (sym d) (to_even w) (even_then w)))
    (λ (d : u < r * 2). rw (closest_gt n u d) (best_high n u w r e l d))
    (eq-or-lt_of_le h))
    (lt_or_le (r * 2) u)

-- `round` at n / den, a fraction in units: it drops k digits, and keeps q * 2 ^ k units
room : (p j k : ℕ) → 2 ≤ p → j < k → p + j ≤ p - 1 + k
room p j k P h = omega arith

in_use : (z p : ℕ) → 2 ≤ p → 0 < z - p → p - 1 + (z - p) < z
in_use z p P h = omega arith

-- a number of the format whose last digit counts 2 ^ k units or more is a multiple of 2 ^ k units
pub on_grid : (c k i : ℕ) → k ≤ i → c * 2 ^ i ≡ c * 2 ^ (i - k) * 2 ^ k
on_grid c k i h = ap (λ (x : ℕ). c * x) (ap (λ (x : ℕ). 2 ^ x) (sym (sub-add_cancel h)) ∙ pow-add 2 (i - k) k) ∙ sym (mul_assoc c (2 ^ (i - k)) (2 ^ k))

module _ (p n den : ℕ) (P : 2 ≤ p) (D : 0 < den) where
  -- it keeps no more than p digits, or just 2 ^ p; and where it drops some, no fewer
  pub kept_le : kept p n den ≤ 2 ^ p
  kept_le =
      let k = drop p n den in
      let u = den * 2 ^ k in
      le_trans (nearest-le (n / u) (compare (n % u * 2) u)) (subst (λ (x : ℕ). x < 2 ^ p) (div-div-eq-div-mul n den (2 ^ k)) (kept-lt p (n / den)))

  floor : 0 < drop p n den → 2 ^ (p - 1) * 2 ^ drop p n den ≤ n / den
  floor K = le_trans (le_of_eq (sym (pow-add 2 (p - 1) (drop p n den)))) (size_reaches (n / den) (p - 1 + drop p n den) (in_use (size (n / den)) p P K))

  pub kept_ge : 0 < drop p n den → 2 ^ (p - 1) ≤ kept p n den
  kept_ge K =
      let k = drop p n den in
      let u = den * 2 ^ k in
      le_trans (subst (λ (x : ℕ). 2 ^ (p - 1) ≤ x) (div-div-eq-div-mul n den (2 ^ k)) ((le-div_iff_mul-le (pow_pos k)).1 (floor K))) (nearest-ge (n / u) (compare (n % u * 2) u))

  best : Best n (den * 2 ^ drop p n den) (kept p n den)
  best = closest_best n (den * 2 ^ drop p n den) (mul-pos D (pow_pos (drop p n den)))

  multiple : (j : ℕ) → j * 2 ^ drop p n den * den ≡ j * (den * 2 ^ drop p n den)
  multiple j = mul_assoc j (2 ^ drop p n den) den ∙ ap (λ (x : ℕ). j * x) (mul_comm (2 ^ drop p n den) den)

  -- one whose last digit counts fewer is below the least of p digits, which is n / den at most
  below_grid : (c i : ℕ) → c < 2 ^ p → i < drop p n den → dist (kept p n den * 2 ^ drop p n den * den) n < dist (c * 2 ^ i * den) n
  below_grid c i C h =
      let k = drop p n den in
      let e = 2 ^ (p - 1) * 2 ^ k in
      let a : c * 2 ^ i < e = lt_of_lt_of_le (shl_lt p i C) (le_trans (pow_mono (room p i k P h)) (le_of_eq (pow-add 2 (p - 1) k))) in
      let b : c * 2 ^ i * den < e * den = mul-lt-mul_of_pos_right a D in
      let d : e * den ≤ n = (le-div_iff_mul-le D).0 (floor (lt_of_le_of_lt zero-le h)) in
      let g : dist (kept p n den * 2 ^ k * den) n ≤ dist (e * den) n = rw (multiple (kept p n den), multiple (2 ^ (p - 1))) (best.nearer (2 ^ (p - 1))) in
      omega arith

  pub kept_nearest : (c i : ℕ) → c < 2 ^ p → dist (kept p n den * 2 ^ drop p n den * den) n ≤ dist (c * 2 ^ i * den) n
  kept_nearest c i C =
      let k = drop p n den in
      ⊎_elim (λ (h : k ≤ i). rw (on_grid c k i h, multiple (kept p n den), multiple (c * 2 ^ (i - k))) (best.nearer (c * 2 ^ (i - k))))
      (λ (h : i < k). le_of_lt (below_grid c i C h))
      (le_or_lt k i)

  pub kept_even : (c i : ℕ) → c < 2 ^ p → dist (c * 2 ^ i * den) n ≡ dist (kept p n den * 2 ^ drop p n den * den) n → (c * 2 ^ i ≡ kept p n den * 2 ^ drop p n den → ⊥)
      → kept p n den % 2 ≡ 0
  kept_even c i C e other =
      let k = drop p n den in
      ⊎_elim (λ (h : k ≤ i).
      best.tied (c * 2 ^ (i - k)) (rw (on_grid c k i h, multiple (kept p n den), multiple (c * 2 ^ (i - k))) at e) (λ d. other (on_grid c k i h ∙ ap (λ (x : ℕ). x * 2 ^ k) d)))
      (λ (h : i < k). absurd (let l = below_grid c i C h in omega arith))
      (le_or_lt k i)

-- q * 2 ^ k units below 2 ^ (2 emax + p - 1), in the form in which the format encodes them: q = 2 ^ p carries into the exponent
pub record Encoded (p emax q k : ℕ) : Type 0 where
  pub c : ℕ
  pub i : ℕ
  pub same : c * 2 ^ i ≡ q * 2 ^ k
  pub digits : c < 2 ^ p
  pub exponent : i < 2 * emax
  pub form : (i ≡ 0) ⊎ (2 ^ (p - 1) ≤ c)
  pub parity : q % 2 ≡ 0 → c % 2 ≡ 0

exponents : (a b : ℕ) → 2 ^ a < 2 ^ b → a < b
exponents a b h = lt_of_not-le (λ (g : b ≤ a). not-le_of_lt h (pow_mono g))

even_power : (j : ℕ) → 0 < j → 2 ^ j % 2 ≡ 0
even_power zero h = absurd (omega arith)
even_power (suc j) h = ap (λ (x : ℕ). x % 2) (pow-suc 2 j) ∙ mul-mod_left (2 ^ j) 2

module _ (p emax q k : ℕ) (P : 2 ≤ p) (E : 0 < emax) (small : q ≤ 2 ^ p) (full : 0 < k → 2 ^ (p - 1) ≤ q) (under : q * 2 ^ k < 2 ^ (2 * emax + (p - 1))) where
  top_exponent : 2 ^ (p - 1) ≤ q → k < 2 * emax
  top_exponent h =
      let a : 2 ^ (p - 1 + k) < 2 ^ (2 * emax + (p - 1)) = lt_of_le_of_lt (le_trans (le_of_eq (pow-add 2 (p - 1) k)) (mul-le-mul_right (2 ^ k) h)) under in
      let b = exponents (p - 1 + k) (2 * emax + (p - 1)) a in
      omega arith

  pub encode : Encoded p emax q k
  encode =
      ⊎_elim (λ (e : q ≡ 2 ^ p).
      let s : p ≡ p - 1 + 1 = omega arith in
      let d : q ≡ 2 ^ (p - 1) * 2 = e ∙ ap (λ (x : ℕ). 2 ^ x) s ∙ pow-add 2 (p - 1) 1 in
      let z : 2 ^ (p - 1) * 2 ^ suc k ≡ q * 2 ^ k = ap (λ (x : ℕ). 2 ^ (p - 1) * x) (pow-succ' 2 k) ∙ sym (mul_assoc (2 ^ (p - 1)) 2 (2 ^ k)) ∙ ap (λ (x : ℕ). x * 2 ^ k) (sym d) in
      let a : 2 ^ (p - 1 + suc k) < 2 ^ (2 * emax + (p - 1)) = lt_of_le_of_lt (le_of_eq (pow-add 2 (p - 1) (suc k) ∙ z)) under in
      let b = exponents (p - 1 + suc k) (2 * emax + (p - 1)) a in
      let g : 0 < 2 ^ (p - 1) = pow_pos (p - 1) in
      record { c = 2 ^ (p - 1); i = suc k; same = z; digits = pow-lt (omega arith); exponent = omega arith; form = inr (le_refl (2 ^ (p - 1))); parity = λ x. even_power (p - 1) (omega arith) })
      (λ (l : q < 2 ^ p).
      ⊎_elim (λ (h : k ≤ 0). record { c = q; i = k; same = refl; digits = l; exponent = omega arith; form = inl (omega arith); parity = λ x. x })
      (λ (h : 0 < k). record { c = q; i = k; same = refl; digits = l; exponent = top_exponent (full h); form = inr (full h); parity = λ x. x })
      (le_or_lt k 0))
      (eq-or-lt_of_le small)

-- Where a result overflows: l and z stand for the largest finite number and the next power of two, times den, and m for the kept one
falls_short : (m l z n : ℕ) → dist m n ≤ dist l n → n * 2 < l + z → z ≤ m → l < z → ⊥
falls_short m l z n a b c d = omega arith

goes_over : (m l z n : ℕ) → dist m n ≤ dist z n → l + z ≤ n * 2 → m < l → l < z → ⊥
goes_over m l z n a b c d = omega arith

ties_over : (m l z n : ℕ) → dist m n ≤ dist z n → l + z ≤ n * 2 → m ≤ l → l < z → (dist z n ≡ dist m n) × (m ≡ l)
ties_over m l z n a b c d = (omega arith, omega arith)

unit_scale : (a b c d : ℕ) → a * b * c * d ≡ a * d * (b * c)
unit_scale a b c d = ap (λ (x : ℕ). x * d) (mul_assoc a b c) ∙ mul_right_comm a (b * c) d

bound_scale : (m a d b e c : ℕ) → a * b ≡ e * c → m * a * d * b ≡ e * m * d * c
bound_scale m a d b e c h =
    mul_right_comm (m * a) d b ∙ ap (λ (x : ℕ). x * d) (mul_assoc m a b ∙ ap (λ (x : ℕ). m * x) h ∙ sym (mul_assoc m e c) ∙ ap (λ (x : ℕ). x * c) (mul_comm m e))
    ∙ mul_right_comm (e * m) c d

module _ (p emax num den : ℕ) (P : 2 ≤ p) (E : 0 < emax) (D : 0 < den) where
  abbrev n : ℕ
  n = num * 2 ^ (emax + p - 2)

  abbrev largest : ℕ
  largest = (2 ^ p - 1) * 2 ^ (2 * emax - 1) * den

  abbrev beyond : ℕ
  beyond = 2 ^ (2 * emax + (p - 1)) * den

  -- twice n against the sum of the two
  middle : largest + beyond ≡ (2 ^ suc p - 1) * 2 ^ (2 * emax - 1) * den
  middle =
      let K = 2 * emax - 1 in
      let e : 2 * emax + (p - 1) ≡ p + K = omega arith in
      let a : 2 ^ (2 * emax + (p - 1)) ≡ 2 ^ p * 2 ^ K = ap (λ (x : ℕ). 2 ^ x) e ∙ pow-add 2 p K in
      let b : 2 ^ p - 1 + 2 ^ p ≡ 2 ^ suc p - 1 = let x = pow-suc 2 p in let y = pow_pos p in omega arith in
      ap (λ (x : ℕ). (2 ^ p - 1) * 2 ^ K * den + x * den) a
      ∙ sym (add-mul ((2 ^ p - 1) * 2 ^ K) (2 ^ p * 2 ^ K) den)
      ∙ ap (λ (x : ℕ). x * den) (sym (add-mul (2 ^ p - 1) (2 ^ p) (2 ^ K)) ∙ ap (λ (x : ℕ). x * 2 ^ K) b)

  gap : largest < beyond
  gap =
      let K = 2 * emax - 1 in
      let e : p + K ≡ 2 * emax + (p - 1) = omega arith in
      mul-lt-mul_of_pos_right (subst (λ (x : ℕ). (2 ^ p - 1) * 2 ^ K < 2 ^ x) e (shl_lt p K (ones_lt p))) D

  scaled_n : n * 2 * 2 ^ p ≡ num * 2 ^ p * 2 ^ suc (emax + p - 2)
  scaled_n = unit_scale num (2 ^ (emax + p - 2)) 2 (2 ^ p) ∙ ap (λ (x : ℕ). num * 2 ^ p * x) (sym (pow-suc 2 (emax + p - 2)))

  scaled_bound : (largest + beyond) * 2 ^ p ≡ 2 ^ emax * (2 ^ suc p - 1) * den * 2 ^ suc (emax + p - 2)
  scaled_bound =
      let K = 2 * emax - 1 in
      let e : K + p ≡ emax + suc (emax + p - 2) = omega arith in
      ap (λ (x : ℕ). x * 2 ^ p) middle
      ∙ bound_scale (2 ^ suc p - 1) (2 ^ K) den (2 ^ p) (2 ^ emax) (2 ^ suc (emax + p - 2)) (sym (pow-add 2 K p) ∙ ap (λ (x : ℕ). 2 ^ x) e ∙ pow-add 2 emax (suc (emax + p - 2)))

  short : num * 2 ^ p < 2 ^ emax * (2 ^ suc p - 1) * den → n * 2 < largest + beyond
  short h = lt_of_mul-lt-mul_right (2 ^ p) (rw (scaled_n, scaled_bound) (mul-lt-mul_of_pos_right h (pow_pos (suc (emax + p - 2)))))

  long : 2 ^ emax * (2 ^ suc p - 1) * den ≤ num * 2 ^ p → largest + beyond ≤ n * 2
  long h = le_of_mul-le-mul_right (rw (scaled_n, scaled_bound) (mul-le-mul_right (2 ^ suc (emax + p - 2)) h)) (pow_pos p)

  pub kept_below : num * 2 ^ p < 2 ^ emax * (2 ^ suc p - 1) * den → kept p n den * 2 ^ drop p n den < 2 ^ (2 * emax + (p - 1))
  kept_below h =
      lt_of_not-le (λ (g : 2 ^ (2 * emax + (p - 1)) ≤ kept p n den * 2 ^ drop p n den).
      falls_short (kept p n den * 2 ^ drop p n den * den) largest beyond n (kept_nearest p n den P D (2 ^ p - 1) (2 * emax - 1) (ones_lt p)) (short h) (mul-le-mul_right den g) gap)

  -- below the next power of two and not below the middle, the kept number would be the largest one, which is odd, though the power is as near
  pub no_finite : 2 ^ emax * (2 ^ suc p - 1) * den ≤ num * 2 ^ p → kept p n den * 2 ^ drop p n den < 2 ^ (2 * emax + (p - 1)) → ⊥
  no_finite h u = ⊎_elim at_top below_top (le_or_lt K x.i)
    where
      q : ℕ
      q = kept p n den

      k : ℕ
      k = drop p n den

      K : ℕ
      K = 2 * emax - 1

      x : Encoded p emax q k
      x = encode p emax q k P E (kept_le p n den P D) (kept_ge p n den P D) u

      power : 2 ^ (p - 1) * 2 ^ (2 * emax) ≡ 2 ^ (2 * emax + (p - 1))
      power = mul_comm (2 ^ (p - 1)) (2 ^ (2 * emax)) ∙ sym (pow-add 2 (2 * emax) (p - 1))

      half : 2 ^ (p - 1) < 2 ^ p
      half = pow-lt (omega arith)

      near : dist (q * 2 ^ k * den) n ≤ dist beyond n
      near = rw (← power) (kept_nearest p n den P D (2 ^ (p - 1)) (2 * emax) half)

      below_top : x.i < K → ⊥
      below_top l =
          let a : x.c * 2 ^ x.i < 2 ^ (p + x.i) = shl_lt p x.i x.digits in
          let b : 2 ^ (p + x.i) ≤ 2 ^ (p - 1 + K) = pow_mono (room p x.i K P l) in
          let d : 2 ^ (p - 1) * 2 ^ K ≤ (2 ^ p - 1) * 2 ^ K = mul-le-mul_right (2 ^ K) (le_ones p half) in
          let g : q * 2 ^ k < (2 ^ p - 1) * 2 ^ K = lt_of_le_of_lt (le_of_eq (sym x.same)) (lt_of_lt_of_le a (le_trans b (le_trans (le_of_eq (pow-add 2 (p - 1) K)) d))) in
          goes_over (q * 2 ^ k * den) largest beyond n near (long h) (mul-lt-mul_of_pos_right g D) gap

      at_top : K ≤ x.i → ⊥
      at_top l =
          let i : x.i ≡ K = (let e = x.exponent in omega arith) in
          let s : q * 2 ^ k ≡ x.c * 2 ^ K = sym x.same ∙ ap (λ (z : ℕ). x.c * 2 ^ z) i in
          let a : q * 2 ^ k ≤ (2 ^ p - 1) * 2 ^ K = le_trans (le_of_eq s) (mul-le-mul_right (2 ^ K) (le_ones p x.digits)) in
          let t = ties_over (q * 2 ^ k * den) largest beyond n near (long h) (mul-le-mul_right den a) gap in
          let c : x.c ≡ 2 ^ p - 1 = eq_of_mul-eq-mul_right (2 ^ K) (pow_pos K) x.c (2 ^ p - 1) (sym s ∙ eq_of_mul-eq-mul_right den D (q * 2 ^ k) ((2 ^ p - 1) * 2 ^ K) t.1) in
          let e : q % 2 ≡ 0 = kept_even p n den P D (2 ^ (p - 1)) (2 * emax) half (rw power t.0) (λ (z : 2 ^ (p - 1) * 2 ^ (2 * emax) ≡ q * 2 ^ k). let y = sym power ∙ z in omega arith) in
          let o : x.c % 2 ≡ 0 = x.parity e in
          let w : 2 ^ p % 2 ≡ 0 = even_power p (omega arith) in
          let v : 0 < 2 ^ p = pow_pos p in
          omega arith

-- Two numbers of a format, both even, are never the two nearest: the next after the smaller lies between them
even_times : (d r : ℕ) → d % 2 ≡ 0 → d * r % 2 ≡ 0
even_times d r h =
    let e : d ≡ d / 2 * 2 = omega arith in
    ap (λ (x : ℕ). x % 2) (ap (λ (x : ℕ). x * r) e ∙ mul_right_comm (d / 2) 2 r) ∙ mul-mod_left (d / 2 * r) 2

between : (a z b n : ℕ) → a < z → z < b → dist b n ≡ dist a n → dist a n ≤ dist z n → ⊥
between a z b n g h e l = omega arith

not_next : (c j : ℕ) → c % 2 ≡ 0 → j % 2 ≡ 0 → c < j → suc c < j
not_next c j e f h = omega arith

module _ (p c k d i : ℕ) (P : 2 ≤ p) (C : c < 2 ^ p) (D : d < 2 ^ p) (form : (k ≡ 0) ⊎ (2 ^ (p - 1) ≤ c)) (c-even : c % 2 ≡ 0) (d-even : d % 2 ≡ 0) (less : c * 2 ^ k < d * 2 ^ i) where
  pub next_digits : suc c < 2 ^ p
  next_digits = not_next c (2 ^ p) c-even (even_power p (omega arith)) C

  next_below : suc c * 2 ^ k < d * 2 ^ i
  next_below = ⊎_elim aligned (λ (l : i < k). absurd (finer l form)) (le_or_lt k i)
    where
      aligned : k ≤ i → suc c * 2 ^ k < d * 2 ^ i
      aligned l =
          let e = on_grid d k i l in
          let h : c < d * 2 ^ (i - k) = lt_of_mul-lt-mul_right (2 ^ k) (rw e at less) in
          rw e (mul-lt-mul_of_pos_right (not_next c (d * 2 ^ (i - k)) c-even (even_times d (2 ^ (i - k)) d-even) h) (pow_pos k))

      finer : i < k → (k ≡ 0) ⊎ (2 ^ (p - 1) ≤ c) → ⊥
      finer l (inl z) = omega arith
      finer l (inr h) =
          let a : d * 2 ^ i < 2 ^ (p + i) = shl_lt p i D in
          let b : 2 ^ (p + i) ≤ 2 ^ (p - 1) * 2 ^ k = le_trans (pow_mono (room p i k P l)) (le_of_eq (pow-add 2 (p - 1) k)) in
          let g : 2 ^ (p - 1) * 2 ^ k ≤ c * 2 ^ k = mul-le-mul_right (2 ^ k) h in
          omega arith

  pub not_both : (n den : ℕ) → 0 < den → dist (d * 2 ^ i * den) n ≡ dist (c * 2 ^ k * den) n → dist (c * 2 ^ k * den) n ≤ dist (suc c * 2 ^ k * den) n → ⊥
  not_both n den h =
      between (c * 2 ^ k * den) (suc c * 2 ^ k * den) (d * 2 ^ i * den) n (mul-lt-mul_of_pos_right (mul-lt-mul_of_pos_right (omega arith) (pow_pos k)) h) (mul-lt-mul_of_pos_right next_below h)
