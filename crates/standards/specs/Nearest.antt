-- Which channel a part of the whole is. CSS Color 3, section 4.2.1: "The integer value 255 corresponds to 100%"; how to round, it does not say; of two as near the readers take the greater. It knows nothing of the readers.
use Rattle.std.specs.Prelude.{ℕ, ◌+◌, ◌*◌, ◌^◌, ◌≤◌, ◌<◌, Bool, true, false, ◌⊎◌, ◌≡◌}
use Rattle.standards.specs.Ieee754.{Fraction, dist}
use Rattle.standards.specs.CssValues3.{Number, fraction_digits, power, falls}

-- no channel is nearer to 255 a / b than c: distances are over the common denominator b. Of two as near either is so
pub record Nearest (c a b : ℕ) : Type 0 where
  pub channel : c ≤ 255
  pub nearer : (j : ℕ) → j ≤ 255 → dist (c * b) (255 * a) ≤ dist (j * b) (255 * a)

-- c - 1/2 <= p < c + 1/2: of two as near the greater
pub record NearestUp (c a b : ℕ) : Type 0 where
  pub nearest : Nearest c a b
  pub greater : (j : ℕ) → j ≤ 255 → dist (j * b) (255 * a) ≡ dist (c * b) (255 * a) → j ≤ c

-- a part of the whole that is a whole number of 1 / g
abbrev pub Grained : ℕ → Fraction → Type 0
Grained g q = (n : ℕ) × (q.over * g ≡ n * q.under)

-- a part that is more than 1 / g away from each (2 k + 1) / 510, at which 255 times it is halfway between k and k + 1: both sides are times 510, g and `under`
abbrev pub OffHalf : ℕ → Fraction → Type 0
OffHalf g q = (k : ℕ) → k < 255 → 510 * q.under < dist (510 * q.over) ((2 * k + 1) * q.under) * g

-- the part q of the whole, as the channel c:
pub record Share (g : ℕ) (q : Fraction) (c : ℕ) : Type 0 where
  -- "clipped" to 0 and to 255
  pub below : q.minus ≡ true → c ≡ 0
  pub above : q.minus ≡ false → q.under ≤ q.over → c ≡ 255
  -- between them less than 1 away from 255 q, and so one of the two nearest
  pub between : q.minus ≡ false → q.over ≤ q.under → dist (c * q.under) (255 * q.over) < q.under
  -- and the nearest, but for what is finer than 1 / g and no more than 1 / g away from a half
  pub nearest : q.minus ≡ false → Grained g q ⊎ OffHalf g q → Nearest c q.over q.under

-- how fine a part may be: in doubles, and in singles, in which hsl() is read
abbrev pub fine : ℕ
fine = 10 ^ 14

abbrev pub coarse : ℕ
coarse = 10 ^ 5

-- a number that has at most k decimals once its exponent is worked in: e the exponent, negative where the test is true, f the digits after the dot
abbrev pub Within : ℕ → Bool → ℕ → ℕ → Type 0
Within k true e f = e + f ≤ k
Within k false e f = f ≤ e + k

abbrev pub Decimals : ℕ → Number → Type 0
Decimals k t = Within k (falls t.exponent_part) (power t.exponent_part) (fraction_digits t.digits_of)
