-- The fields of an f64 and its value, the bits of a value, and the whole number nearest to a quotient. Assumes nothing.
use Rattle.std.proofs.Common.{◌≡◌, ℕ, zero, suc, ◌+◌, ◌-◌, ◌*◌, ◌/◌, ◌%◌, ◌^◌, ◌<◌, Bool, true, false, cond, eqb, leb, sym, refl, ap, ◌∙◌, subst, true≢false, lt_irrefl, mod-eq_of_lt, one-mul, mul-div_cancel, arith, eq-eqb, ne_eqb, le-leb}
use Prim.Native.Nat.{compare, Ordering}
use lib.Dec.{is_le, compare_is_eq}
use lib.Pow.{pow-lt}
use borrow.Author.Tests.{lt-leb}
use lib.Ieee.{Float, Format, nan, inf, fin, binary64, prec, low, hid, top, down, size, nearest, odd, of_fields, to_bits, of_bits}
use lib.Ieee.Fits.{down_pos}
use lib.Ieee.Exact.{HasValue, odd_sign}
use lib.Ieee.Nearest.{closest}

-- the bits of a smallest values
pub bits_of_value : (f : Format) (v : Float) (s : Bool) (a : ℕ) → HasValue v s a (2 ^ low f) → to_bits f v ≡ cond s (top f) 0 + (size a - prec f) * hid f + a / 2 ^ (size a - prec f)
unfolding to_bits
bits_of_value f nan s a h = elim h [ ]
bits_of_value f (inf _) s a h = elim h [ ]
bits_of_value f (fin t m e) s a h =
    ap (λ (x : ℕ). cond t (top f) 0 + (size x - prec f) * hid f + x / 2 ^ (size x - prec f)) (ap (λ (x : ℕ). x / down e) h.1 ∙ mul-div_cancel a (down_pos e))
    ∙ ap (λ (x : Bool). cond x (top f) 0 + (size a - prec f) * hid f + a / 2 ^ (size a - prec f)) h.0

-- n / d to the nearest whole number, by comparison
is_lt : (o : Ordering) → is_le o ≡ true → compare_is_eq o ≡ false → o ≡ Ordering.lt
is_lt Ordering.lt p q = refl
is_lt Ordering.eq p q = absurd (true≢false q)
is_lt Ordering.gt p q = absurd (true≢false (sym p))

is_eq : (o : Ordering) → compare_is_eq o ≡ true → o ≡ Ordering.eq
is_eq Ordering.lt p = absurd (true≢false (sym p))
is_eq Ordering.eq p = refl
is_eq Ordering.gt p = absurd (true≢false (sym p))

is_gt : (o : Ordering) → is_le o ≡ false → o ≡ Ordering.gt
is_gt Ordering.lt p = absurd (true≢false p)
is_gt Ordering.eq p = absurd (true≢false p)
is_gt Ordering.gt p = refl

pub closest_lt : (n d : ℕ) → n % d * 2 < d → closest n d ≡ n / d
closest_lt n d h = ap (nearest (n / d)) (is_lt (compare (n % d * 2) d) (le-leb (n % d * 2) d (omega arith)) (ne_eqb (n % d * 2) d (λ e. omega arith)))

pub closest_eq : (n d : ℕ) → n % d * 2 ≡ d → closest n d ≡ n / d + n / d % 2
closest_eq n d h = ap (nearest (n / d)) (is_eq (compare (n % d * 2) d) (eq-eqb (n % d * 2) d h))

pub closest_gt : (n d : ℕ) → d < n % d * 2 → closest n d ≡ suc (n / d)
closest_gt n d h = ap (nearest (n / d)) (is_gt (compare (n % d * 2) d) (lt-leb (n % d * 2) d h))

-- a finite f64 by its fields
pub value : (s : Bool) (f t : ℕ) → 0 < f → f < 2047 → HasValue (of_fields binary64 s f t) s ((2 ^ 52 + t) * 2 ^ (f - 1)) (2 ^ 1074)
unfolding of_fields
value s zero t p h = absurd (lt_irrefl 0 p)
value s (suc f) t p h =
    rw (ne_eqb (suc f) 2047 (λ e. omega arith)) (subst (λ (k : ℕ). HasValue (odd 53 s (2 ^ 52 + t) f 1074) s ((2 ^ 52 + t) * 2 ^ k) (2 ^ 1074)) (omega arith) (odd_sign 53 s (2 ^ 52 + t) f 1074))

pub value_low : (s : Bool) (t : ℕ) → HasValue (of_fields binary64 s 0 t) s (t * 2 ^ 0) (2 ^ 1074)
unfolding of_fields
value_low s t = odd_sign 53 s t 0 1074

pub at_ones : (s : Bool) (t : ℕ) → of_fields binary64 s 2047 t ≡ cond (eqb t 0) (inf s) nan
unfolding of_fields
at_ones s t = refl

module _ (b : ℕ) (B : b < 2 ^ 64) where
  pub by_fields : of_bits binary64 b ≡ of_fields binary64 (leb (2 ^ 63) b) (b % 2 ^ 63 / 2 ^ 52) (b % 2 ^ 52)
  unfolding of_bits
  by_fields = refl

-- what the code asks on its way
pub unit : (j : ℕ) → j < 64 → 1 * 2 ^ j % 2 ^ 64 ≡ 2 ^ j
unit j h = ap (λ (x : ℕ). x % 2 ^ 64) (one-mul (2 ^ j)) ∙ mod-eq_of_lt (pow-lt {i = j} {j = 64} h)
