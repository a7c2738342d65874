-- A channel that grows with the part of the whole is the nearest one at every whole number of 1 / g if it is so at the two around each of the 255 jumps.
use Prim.Native.Nat.{ℕ, zero, suc, ◌+◌, ◌-◌, ◌*◌, ◌/◌, ◌≤◌, ◌<◌, min}
use mathlib.Core.Bool.{Bool, false, ◌&&◌}
use mathlib.Core.Path.{◌≡◌, ◌∙◌}
use mathlib.Core.Logic.{⊎_elim}
use native.Mathlib.Nat.{le_trans, le_antisymm, mul-le-mul_right, mul_left_comm, mul_right_comm, add-mul, div-mul-le_self, lt-div-mul-add}
use native.Mathlib.Omega.{arith}
use lib.Dec.{T, leb, leb→le, lit<}
use lib.Ieee.{round, mul, div, of_bits}
use lib.Ieee.Fits.{and_l, and_r}
use Rattle.text_bytes.proofs.Ranges.{all_from, across, le_or_lt}
use Rattle.floats.specs.Floats.{channel_of}
use Rattle.standards.specs.CssColor3.{scaled}
use Rattle.standards.specs.Nearest.{fine}
use Rattle.standards.proofs.Growing.{fade_at, share_at, Grows, fade_grows, share_grows}

-- CSS Color 3's channel of the part a / c
abbrev pub cut : ℕ → ℕ → ℕ
cut a c = scaled (record { minus = false; over = a; under = c })

pub odd_mul : (k c : ℕ) → (2 * k + 1) * c ≡ 2 * (k * c) + c
odd_mul k c = add-mul (2 * k) 1 c ∙ omega (arith, mul_right_comm 2 k c, mul_left_comm k 2 c)

pub next_mul : (b i j : ℕ) → i < j → i * b + b ≤ j * b
next_mul b i j h = let m = mul-le-mul_right b h in omega arith

-- it is 255 a / c + 1/2, cut to a whole number and held to 255
module _ (a b : ℕ) (B : 0 < b) where
  pub cut_top : cut a b ≤ 255
  unfolding scaled
  cut_top = omega arith

  pub low : 2 * (cut a b * b) ≤ 2 * (255 * a) + b
  unfolding scaled
  low =
      let q = (2 * (255 * a) + b) / (2 * b) in
      let l : min 255 q ≤ q = omega arith in
      let m = mul-le-mul_right (2 * b) l in
      let d = div-mul-le_self (2 * (255 * a) + b) (2 * b) in
      omega (arith, mul_left_comm (min 255 q) 2 b)

  pub high : cut a b < 255 → 2 * (255 * a) < 2 * (cut a b * b) + b
  unfolding scaled
  high h =
      let q = (2 * (255 * a) + b) / (2 * b) in
      let e : min 255 q ≡ q = omega arith in
      let d = lt-div-mul-add {a = 2 * (255 * a) + b} {b = 2 * b} (omega arith) in
      rw e (omega (arith, mul_left_comm q 2 b))

-- the first n at which n / g is half of 1 / 255 above k / 255, or more: from there on the channel is above k
abbrev jump : ℕ → ℕ → ℕ
jump g k = ((2 * k + 1) * g + 509) / 510

abbrev pub jumps : (ℕ → ℕ → ℕ) → ℕ → ℕ → Bool
jumps f g k = leb (suc k) (f (jump g k) g) && leb (f (jump g k - 1) g) k

module _ (g : ℕ) (G : 0 < g) where
  from_jump : (n k : ℕ) → k < cut n g → jump g k ≤ n
  from_jump n k h = let l = low n g G in let m = next_mul g k (cut n g) h in omega (arith, odd_mul k g)

  to_jump : (n k : ℕ) → cut n g ≤ k → k < 255 → n ≤ jump g k - 1
  to_jump n k h l = let u = high n g G (omega arith) in let m = mul-le-mul_right g h in omega (arith, odd_mul k g)

  module _ {f : ℕ → ℕ → ℕ} (grow : Grows f) (tested : T (all_from (jumps f g) 0 255)) where
    at : (k : ℕ) → k < 255 → T (jumps f g k)
    at k h = across (jumps f g) 0 255 tested k (omega arith) (omega arith)

    step : (i j : ℕ) → i ≤ j → f i g ≤ f j g
    step i j h = grow.grows i g j g G G (mul-le-mul_right g h)

    above : (n k : ℕ) → k ≤ cut n g → k ≤ f n g
    above n zero h = omega arith
    above n (suc k) h =
        let l : k < 255 = omega (arith, cut_top n g G) in
        le_trans (leb→le (suc k) (f (jump g k) g) (and_l (leb (suc k) (f (jump g k) g)) (leb (f (jump g k - 1) g) k) (at k l))) (step (jump g k) n (from_jump n k h))

    below : (n k : ℕ) → cut n g ≤ k → k < 255 → f n g ≤ k
    below n k h l =
        le_trans (step n (jump g k - 1) (to_jump n k h l)) (leb→le (f (jump g k - 1) g) k (and_r (leb (suc k) (f (jump g k) g)) (leb (f (jump g k - 1) g) k) (at k l)))

    pub by_jumps : (n : ℕ) → f n g ≡ cut n g
    by_jumps n =
        let c = cut n g in
        le_antisymm
        (⊎_elim (λ (h : 255 ≤ c). le_trans (grow.top n g) h) (λ (h : c < 255). below n c (omega arith) h) (le_or_lt 255 c))
        (above n c (omega arith))

-- a channel that grows, and is CSS Color 3's at every whole number of 1 / g; 510 < g has it less than 1 away everywhere
pub record Stepping (g : ℕ) (f : ℕ → ℕ → ℕ) : Type 0 where
  pub many : 510 < g
  pub growing : Grows f
  pub grained : (n : ℕ) → f n g ≡ cut n g

pub stepping : (g : ℕ) {f : ℕ → ℕ → ℕ} → 510 < g → Grows f → T (all_from (jumps f g) 0 255) → Stepping g f
stepping g m grow tested = record { many = m; growing = grow; grained = by_jumps g (omega arith) grow tested }

-- of a number, and of a percentage: the two tests are computed at 510 points each
pub fade_steps : Stepping fine fade_at
unfolding channel_of mul of_bits round
fade_steps = stepping fine (lit< tt) fade_grows tt

pub share_steps : Stepping fine share_at
unfolding channel_of mul div of_bits round
share_steps = stepping fine (lit< tt) share_grows tt
