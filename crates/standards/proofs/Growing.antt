-- The channel of a larger number is no smaller: rounding to either format, a division by 100, a product with 255 and `channel_of` all keep the order of what is not negative.
use Prim.Native.Nat.{ℕ, ◌+◌, ◌*◌, ◌≤◌, ◌<◌}
use mathlib.Core.Bool.{Bool, true, false, ◌&&◌, ◌||◌, true≢false}
use mathlib.Core.Path.{◌≡◌, refl}
use native.Mathlib.Nat.{le_refl, le_of_lt, le_of_eq, add-mul, mul_assoc, mul_comm, mul_left_comm, mul-le-mul}
use native.Mathlib.Omega.{arith}
use lib.Dec.{T, eqb, ltb, eqb→eq, ltb→lt, lit<}
use lib.IntN.{ℤ}
use lib.Ieee.{Float, nan, inf, fin, Format, binary64, up, down, round, mul, div, le, of_bits}
use lib.Ieee.Fits.{down_pos}
use lib.Ieee.Nearest.{div_mono}
use lib.Ieee.Order.{round_mono}
use Rattle.floats.specs.Floats.{channel_of, sign_of}
use Rattle.numbers.specs.Powers.{hundred}
use Rattle.color.specs.Color.{d255, scaled_channel}
use Rattle.standards.proofs.Signs.{round_sign}

-- x ≤ y, of two values that are not negative and no NaN
abbrev pub Upto : Float → Float → Type 0
Upto nan y = ⊥
Upto (inf true) y = ⊥
Upto (inf false) nan = ⊥
Upto (inf false) (inf t) = t ≡ false
Upto (inf false) (fin t n d) = ⊥
Upto (fin true m e) y = ⊥
Upto (fin false m e) nan = ⊥
Upto (fin false m e) (inf t) = t ≡ false
Upto (fin false m e) (fin true n d) = ⊥
Upto (fin false m e) (fin false n d) = m * up e * down d ≤ n * up d * down e

less_or_same : (a b : ℕ) (x y : Bool) → (T x → a < b) → (T y → a ≡ b) → T (x || (y && true)) → a ≤ b
less_or_same a b true y f g t = le_of_lt (f tt)
less_or_same a b false true f g t = le_of_eq (g tt)
less_or_same a b false false f g t = absurd t

of_le : (x y : Float) → sign_of x ≡ false → sign_of y ≡ false → T (le x y) → Upto x y
unfolding le
of_le nan y p q h = absurd h
of_le (inf true) y p q h = absurd (true≢false p)
of_le (inf false) nan p q h = absurd h
of_le (inf false) (inf t) p q h = q
of_le (inf false) (fin t n d) p q h = absurd h
of_le (fin true m e) y p q h = absurd (true≢false p)
of_le (fin false m e) nan p q h = absurd h
of_le (fin false m e) (inf t) p q h = q
of_le (fin false m e) (fin true n d) p q h = absurd (true≢false q)
of_le (fin false m e) (fin false n d) p q h =
    let a = m * up e * down d in
    let b = n * up d * down e in
    less_or_same a b (ltb a b) (eqb a b) (ltb→lt a b) (eqb→eq a b) h

round_upto : (f : Format) (a b c d : ℕ) → 0 < b → 0 < d → a * d ≤ c * b → Upto (round f false a b) (round f false c d)
round_upto f a b c d B D h = of_le _ _ (round_sign f false a b) (round_sign f false c d) (round_mono f a b c d B D h)

to_infinity : (x : Float) → Upto x x → Upto x (inf false)
to_infinity nan h = absurd h
to_infinity (inf true) h = absurd h
to_infinity (inf false) h = refl
to_infinity (fin true m e) h = absurd h
to_infinity (fin false m e) h = refl

-- an operation that is a product with i / j, rounded
pub record Scales (op : Float → Float) : Type 0 where
  pub format : Format
  pub i : ℕ
  pub j : ℕ
  pub some : 0 < j
  pub infinite : op (inf false) ≡ inf false
  pub finite : (m : ℕ) (e : ℤ) → op (fin false m e) ≡ round format false (m * up e * i) (j * down e)

by_hundred : Scales (λ x. div binary64 x hundred)
unfolding div of_bits
by_hundred = record { format = binary64; i = 1; j = 100; some = lit< tt; infinite = refl; finite = λ m e. refl }

by_255 : Scales (λ x. mul binary64 x d255)
unfolding mul of_bits
by_255 = record { format = binary64; i = 255; j = 1; some = lit< tt; infinite = refl; finite = λ m e. rw (mul_comm (down e) 1) }

module _ {op : Float → Float} (s : Scales op) where
  denominator : (e : ℤ) → 0 < s.j * down e
  denominator e = mul-le-mul {n₁ = 1} {m₁ = 1} s.some (down_pos e)

  ordered : (p q k l : ℕ) → p * l ≤ k * q → p * s.i * (s.j * l) ≤ k * s.i * (s.j * q)
  ordered p q k l h =
      let x : p * s.i * (s.j * l) ≡ s.i * s.j * (p * l) = simp (mul_assoc, mul_left_comm) in
      let y : k * s.i * (s.j * q) ≡ s.i * s.j * (k * q) = simp (mul_assoc, mul_left_comm) in
      rw (x, y) (mul-le-mul {n₁ = s.i * s.j} {n₂ = s.i * s.j} (le_refl (s.i * s.j)) h)

  pub scaled_upto : (x y : Float) → Upto x y → Upto (op x) (op y)
  scaled_upto nan y h = absurd h
  scaled_upto (inf true) y h = absurd h
  scaled_upto (inf false) nan h = absurd h
  scaled_upto (inf false) (inf true) h = absurd (true≢false h)
  scaled_upto (inf false) (inf false) h = rw s.infinite refl
  scaled_upto (inf false) (fin t n d) h = absurd h
  scaled_upto (fin true m e) y h = absurd h
  scaled_upto (fin false m e) nan h = absurd h
  scaled_upto (fin false m e) (inf true) h = absurd (true≢false h)
  scaled_upto (fin false m e) (inf false) h =
      let a = m * up e * s.i in
      let b = s.j * down e in
      rw (s.finite m e, s.infinite) (to_infinity (round s.format false a b) (round_upto s.format a b a b (denominator e) (denominator e) (le_refl (a * b))))
  scaled_upto (fin false m e) (fin true n d) h = absurd h
  scaled_upto (fin false m e) (fin false n d) h =
      rw (s.finite m e, s.finite n d)
      (round_upto s.format (m * up e * s.i) (s.j * down e) (n * up d * s.i) (s.j * down d) (denominator e) (denominator d) (ordered (m * up e) (down e) (n * up d) (down d) h))

half_up : (p q i j : ℕ) → p * j ≤ i * q → (2 * p + q) * (2 * j) ≤ (2 * i + j) * (2 * q)
half_up p q i j h =
    let x : (2 * p + q) * (2 * j) ≡ 4 * (p * j) + 2 * (q * j) = simp (add-mul, mul_assoc, mul_left_comm) (omega arith) in
    let y : (2 * i + j) * (2 * q) ≡ 4 * (i * q) + 2 * (q * j) = simp (add-mul, mul_assoc, mul_left_comm) (omega (arith, mul_comm q j)) in
    omega arith

pub channel_upto : (x y : Float) → Upto x y → channel_of x ≤ channel_of y
unfolding channel_of
channel_upto nan y h = absurd h
channel_upto (inf true) y h = absurd h
channel_upto (inf false) nan h = absurd h
channel_upto (inf false) (inf true) h = absurd (true≢false h)
channel_upto (inf false) (inf false) h = le_refl 255
channel_upto (inf false) (fin t n d) h = absurd h
channel_upto (fin true m e) y h = absurd h
channel_upto (fin false m e) nan h = absurd h
channel_upto (fin false m e) (inf true) h = absurd (true≢false h)
channel_upto (fin false m e) (inf false) h = omega arith
channel_upto (fin false m e) (fin true n d) h = absurd h
channel_upto (fin false m e) (fin false n d) h =
    let p = m * up e in
    let i = n * up d in
    let q = div_mono (2 * p + down e) (2 * down e) (2 * i + down d) (2 * down d) (omega (arith, down_pos e)) (omega (arith, down_pos d)) (half_up p (down e) i (down d) h) in
    omega arith

pub channel_top : (x : Float) → channel_of x ≤ 255
unfolding channel_of
channel_top nan = omega arith
channel_top (inf true) = omega arith
channel_top (inf false) = omega arith
channel_top (fin true m e) = omega arith
channel_top (fin false m e) = omega arith

-- the part a / c of the whole as the readers scale it: as a number, and as 100 a / c percent
abbrev pub fade_at : ℕ → ℕ → ℕ
fade_at a c = scaled_channel (round binary64 false a c)

abbrev pub share_at : ℕ → ℕ → ℕ
share_at a c = scaled_channel (div binary64 (round binary64 false (100 * a) c) hundred)

-- a channel that grows with the part
pub record Grows (f : ℕ → ℕ → ℕ) : Type 0 where
  pub grows : (a b c d : ℕ) → 0 < b → 0 < d → a * d ≤ c * b → f a b ≤ f c d
  pub top : (a b : ℕ) → f a b ≤ 255

pub percent_upto : (a b c d : ℕ) → 0 < b → 0 < d → a * d ≤ c * b
    → Upto (div binary64 (round binary64 false (100 * a) b) hundred) (div binary64 (round binary64 false (100 * c) d) hundred)
percent_upto a b c d B D h = scaled_upto by_hundred _ _ (round_upto binary64 (100 * a) b (100 * c) d B D (rw (mul_assoc 100 a d, mul_assoc 100 c b) (omega arith)))

scaled_grows : (x y : Float) → Upto x y → scaled_channel x ≤ scaled_channel y
scaled_grows x y u = channel_upto (mul binary64 x d255) (mul binary64 y d255) (scaled_upto by_255 x y u)

pub fade_grows : Grows fade_at
fade_grows = record { grows = λ a b c d B D h. scaled_grows _ _ (round_upto binary64 a b c d B D h); top = λ a b. channel_top _ }

pub share_grows : Grows share_at
share_grows = record { grows = λ a b c d B D h. scaled_grows _ _ (percent_upto a b c d B D h); top = λ a b. channel_top _ }
