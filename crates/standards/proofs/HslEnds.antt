-- hsl() at the ends of its scales: black, white and grey, for every hue, by what is written.
use Prim.Native.Nat.{◌*◌, ◌≤◌}
use mathlib.Core.Bool.{not}
use mathlib.Core.Path.{◌≡◌, ◌∙◌}
use native.Mathlib.Omega.{arith}
use lib.Dec.{T}
use lib.Ieee.{Float, nan, inf, fin, binary64, is_nan}
use Rattle.text_bytes.proofs.Ranges.{either}
use Rattle.color.specs.Hex.{rgba}
use Rattle.color.specs.Hsl.{hsl_color}
use Rattle.standards.specs.Ieee754.{Fraction, Parameters, RoundsTo, parameters, quotient, exact, double, gain}
use Rattle.standards.specs.Svg2.{ratio}
use Rattle.standards.specs.CssValues3.{Number, exactly}
use Rattle.standards.specs.Domain.{InDomain}
use Rattle.standards.specs.Answers.{portion}
use Rattle.standards.proofs.Doubles.{under_pos, double_finite, exactly_hundredth}
use Rattle.standards.proofs.Clipped.{lightness_above}
use Rattle.standards.proofs.Lightness.{shade, portion_low, black, grey}
use Rattle.standards.proofs.White.{white}

rounds_no_nan : (f : Parameters) (q : Fraction) (v : Float) → RoundsTo f q v → T (not (is_nan v))
unfolding is_nan
rounds_no_nan f q nan r = absurd r
rounds_no_nan f q (inf s) r = tt
rounds_no_nan f q (fin s m e) r = tt

portion_no_nan : (t : Number) → InDomain t → T (not (is_nan (portion t)))
portion_no_nan t d = let h = exactly_hundredth t d in rounds_no_nan (parameters binary64) (quotient (exact h.s h.m h.e) (ratio 100 1)) (portion t) h.second

-- THEOREM. A lightness of 0% or below is black, whatever the hue and the saturation.
pub lightness_black : (l : Number) → gain (exactly l) ≡ 0 → (hue s : Float) → hsl_color hue s (portion l) ≡ rgba 0 0 0 255
lightness_black l z hue s = black (portion l) (portion_low l z) hue s

module _ (hue : Number) (hd : InDomain hue) where
  -- THEOREM. A lightness of 100% or above is white, whatever the hue and the saturation.
  pub lightness_white : (s l : Number) → InDomain s → 100 * (exactly l).under ≤ gain (exactly l) → hsl_color (double (exactly hue)) (portion s) (portion l) ≡ rgba 255 255 255 255
  lightness_white s l sd h =
      either (exactly l).minus
      (λ e. absurd (omega (arith, under_pos l, rw e at h)))
      (λ e. lightness_above l e (rw e at h) (double (exactly hue)) (portion s) ∙ white (double (exactly hue)) (portion s) (double_finite hue hd) (portion_no_nan s sd))

  -- THEOREM. A saturation of 0% or below is the grey of the lightness, whatever the hue.
  pub saturation_grey : (s l : Number) → InDomain l → gain (exactly s) ≡ 0
      → hsl_color (double (exactly hue)) (portion s) (portion l) ≡ rgba (shade (portion l)) (shade (portion l)) (shade (portion l)) 255
  saturation_grey s l ld z = grey (double (exactly hue)) (portion s) (portion l) (double_finite hue hd) (portion_low s z) (portion_no_nan l ld)
