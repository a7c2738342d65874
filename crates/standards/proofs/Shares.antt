-- What is read of a percentage and of an alpha is the channel of its part of the whole, in the sense of `Share`.
use Prim.Native.Nat.{ℕ, ◌+◌, ◌-◌, ◌*◌, ◌^◌, ◌≤◌, ◌<◌}
use mathlib.Core.Bool.{Bool, true, false, cond}
use mathlib.Core.Path.{◌≡◌, sym, ap, ◌∙◌}
use mathlib.Core.Logic.{◌⊎◌}
use native.Mathlib.Nat.{mul_assoc, mul_comm, mul_left_comm, mul-one, sub-add_cancel}
use native.Mathlib.Omega.{arith}
use lib.Pow.{pow-add}
use lib.Ieee.{Float, binary64, round, div}
use lib.Ieee.Scale.{round_same}
use Rattle.text_bytes.proofs.Ranges.{either}
use Rattle.numbers.specs.Powers.{hundred}
use Rattle.color.specs.Color.{scaled_channel}
use Rattle.standards.specs.Ieee754.{Fraction, double}
use Rattle.standards.specs.CssValues3.{Number, exactly, joined, fraction_digits, power, falls}
use Rattle.standards.specs.CssColor3.{scaled, hundredths, percent, alpha}
use Rattle.standards.specs.Nearest.{NearestUp, Grained, OffHalf, Share, fine, coarse, Within, Decimals}
use Rattle.standards.specs.Answers.{portion}
use Rattle.standards.proofs.Doubles.{under_pos}
use Rattle.standards.proofs.Clipped.{alpha_below, percent_below}
use Rattle.standards.proofs.Growing.{fade_at, share_at}
use Rattle.standards.proofs.Jumps.{Stepping, fade_steps, share_steps}
use Rattle.standards.proofs.Channels.{cut_nearest, cut_only, all, one_of_two, is_cut}

-- c is read of the part q: 0 below 0, otherwise as f has it
module _ {g : ℕ} {f : ℕ → ℕ → ℕ} (s : Stepping g f) (q : Fraction) (U : 0 < q.under) (c : ℕ) (below : q.minus ≡ true → c ≡ 0) (is : q.minus ≡ false → c ≡ f q.over q.under) where
  pub shared : Share g q c
  shared =
      record {
        below = below;
        above = λ e h. is e ∙ all s q.over q.under U h;
        between = λ e h. rw (is e) (one_of_two s q.over q.under U h);
        nearest = λ e h. rw (is e ∙ is_cut s q.over q.under U h) (cut_nearest q.over q.under U).nearest;
      }

  pub as_scaled : Grained g q ⊎ OffHalf g q → c ≡ scaled q
  unfolding scaled
  as_scaled h = either q.minus (λ e. simp (e, below e)) (λ e. simp e (is e ∙ is_cut s q.over q.under U h))

module _ (t : Number) where
  pub part_pos : 0 < (hundredths (exactly t)).under
  part_pos = omega (arith, under_pos t)

  -- a percentage is as many hundredths of the whole
  pub portion_part : (exactly t).minus ≡ false → portion t ≡ div binary64 (round binary64 false (100 * (exactly t).over) (100 * (exactly t).under)) hundred
  unfolding double
  portion_part e =
      let a = (exactly t).over in
      let c = (exactly t).under in
      rw e (ap (λ (x : Float). div binary64 x hundred) (round_same binary64 false a c (100 * a) (100 * c) (under_pos t) part_pos (omega (arith, mul_left_comm a 100 c, mul_assoc 100 a c))))

  percent_is : (exactly t).minus ≡ false → scaled_channel (portion t) ≡ share_at (exactly t).over (100 * (exactly t).under)
  percent_is e = ap scaled_channel (portion_part e)

  alpha_is : (exactly t).minus ≡ false → scaled_channel (double (exactly t)) ≡ fade_at (exactly t).over (exactly t).under
  unfolding double
  alpha_is e = rw e

  -- THEOREM. A percentage, of any sign, size and number of decimals, is read as its share, and so is an alpha.
  pub percent_share : Share fine (hundredths (exactly t)) (scaled_channel (portion t))
  percent_share = shared share_steps (hundredths (exactly t)) part_pos (scaled_channel (portion t)) (percent_below t) percent_is

  pub alpha_share : Share fine (exactly t) (scaled_channel (double (exactly t)))
  alpha_share = shared fade_steps (exactly t) (under_pos t) (scaled_channel (double (exactly t))) (alpha_below t) alpha_is

  -- THEOREM. Where that is the nearest channel, of two as near it is the greater: CSS Color 3's `percent` and `alpha`.
  pub percent_scaled : Grained fine (hundredths (exactly t)) ⊎ OffHalf fine (hundredths (exactly t)) → scaled_channel (portion t) ≡ percent t
  percent_scaled h = as_scaled share_steps (hundredths (exactly t)) part_pos (scaled_channel (portion t)) (percent_below t) percent_is h

  pub alpha_scaled : Grained fine (exactly t) ⊎ OffHalf fine (exactly t) → scaled_channel (double (exactly t)) ≡ alpha t
  alpha_scaled h = as_scaled fade_steps (exactly t) (under_pos t) (scaled_channel (double (exactly t))) (alpha_below t) alpha_is h

-- THEOREM. What is not negative has one such channel, CSS Color 3's.
module _ (q : Fraction) (e : q.minus ≡ false) (U : 0 < q.under) where
  pub scaled_nearest : NearestUp (scaled q) q.over q.under
  unfolding scaled
  scaled_nearest = rw e (cut_nearest q.over q.under U)

  pub scaled_only : (c : ℕ) → NearestUp c q.over q.under → c ≡ scaled q
  unfolding scaled
  scaled_only c n = rw e (cut_only q.over q.under U c n)

-- n / 10^d as so many units of 10^-k
as_units : (n d k : ℕ) → d ≤ k → n * 10 ^ k ≡ n * 10 ^ (k - d) * 10 ^ d
as_units n d k h =
    let e : 10 ^ k ≡ 10 ^ (k - d) * 10 ^ d = ap (λ (x : ℕ). 10 ^ x) (sym (sub-add_cancel h)) ∙ pow-add 10 (k - d) d in
    ap (λ (x : ℕ). n * x) e ∙ sym (mul_assoc n (10 ^ (k - d)) (10 ^ d))

-- a number of at most k decimals, in units of 10^-k
abbrev units : ℕ → Bool → ℕ → ℕ → ℕ
units k true e f = 10 ^ (k - (e + f))
units k false e f = 10 ^ (e + k - f)

in_units : (k : ℕ) (b : Bool) (e f m : ℕ) → Within k b e f → m * cond b 1 (10 ^ e) * 10 ^ k ≡ m * units k b e f * (10 ^ f * cond b (10 ^ e) 1)
in_units k true e f m h =
    let p : 10 ^ f * 10 ^ e ≡ 10 ^ (e + f) = mul_comm (10 ^ f) (10 ^ e) ∙ sym (pow-add 10 e f) in
    rw (mul-one m, p) (as_units m (e + f) k h)
in_units k false e f m h =
    let p : m * 10 ^ e * 10 ^ k ≡ m * 10 ^ (e + k) = mul_assoc m (10 ^ e) (10 ^ k) ∙ ap (λ (x : ℕ). m * x) (sym (pow-add 10 e k)) in
    rw (mul-one (10 ^ f), p) (as_units m f (e + k) h)

written_units : (k : ℕ) (t : Number) → Decimals k t → (n : ℕ) × ((exactly t).over * 10 ^ k ≡ n * (exactly t).under)
unfolding exactly
written_units k t h = (_, in_units k (falls t.exponent_part) (power t.exponent_part) (fraction_digits t.digits_of) (joined t.digits_of) h)

written_hundredths : (k : ℕ) (t : Number) → Decimals k t → Grained (100 * 10 ^ k) (hundredths (exactly t))
written_hundredths k t h =
    let u = written_units k t h in
    let c = (exactly t).under in
    (u.0, mul_left_comm (exactly t).over 100 (10 ^ k) ∙ (ap (λ (x : ℕ). 100 * x) u.1 ∙ sym (mul_left_comm u.0 100 c)))

-- THEOREM. So it is for every percentage of at most 12 decimals, for every alpha of at most 14,
pub percent_grained : (t : Number) → Decimals 12 t → Grained fine (hundredths (exactly t))
percent_grained t h = written_hundredths 12 t h

pub alpha_grained : (t : Number) → Decimals 14 t → Grained fine (exactly t)
alpha_grained t h = written_units 14 t h

-- THEOREM. and for every lightness of at most 3.
pub lightness_grained : (t : Number) → Decimals 3 t → Grained coarse (hundredths (exactly t))
lightness_grained t h = written_hundredths 3 t h
