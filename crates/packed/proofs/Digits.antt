-- The parts of a number, each of which comes back.
use Prim.Native.Nat.{ℕ, ◌+◌, ◌*◌, ◌/◌, ◌%◌, ◌≤◌, ◌<◌}
use mathlib.Core.Bool.{cond}
use mathlib.Core.Path.{◌≡◌}
use native.Mathlib.Omega.{arith}
use lib.Dec.{eqb}
use Rattle.std.specs.Prelude.{Option, Some, None}
use Rattle.text_bytes.specs.declared.Part.{Part}
use Rattle.color.specs.declared.Color.{Color}
use Rattle.paint.specs.declared.Paint.{Paint}
use Rattle.paint.specs.declared.Paint.TheVariants as P
use Rattle.paint.specs.declared.PaintFallback.{PaintFallback}
use Rattle.paint.specs.declared.PaintFallback.TheVariants as F
use Rattle.packed.specs.Fits.{Bytes, FallbackFits, LinkFits, Fits}
use Rattle.packed.specs.Numbers.{channels, greens, blues, alphas, no_color, no_paint, kinds, starts, places, lens, fallbacks, fallback_kinds, colors, color_number, number_color, fallback_number, paint_number, decoded_fallback, decoded_paint}

-- a colour's
module _ (c : Color) (h : Bytes c) where
  pub red_back : color_number c % channels ≡ c.red
  unfolding color_number
  red_back = omega arith

  pub green_back : color_number c / greens % channels ≡ c.green
  unfolding color_number
  green_back = omega arith

  pub blue_back : color_number c / blues % channels ≡ c.blue
  unfolding color_number
  blue_back = omega arith

  pub alpha_back : color_number c / alphas % channels ≡ c.alpha
  unfolding color_number
  alpha_back = omega arith

  pub color_below : color_number c < no_color
  unfolding color_number
  color_below = omega arith

pub digits_back : (v : ℕ) → v < no_color → v % channels + (v / greens % channels * greens + (v / blues % channels * blues + v / alphas % channels * alphas)) ≡ v
digits_back v h =
    let x : v / greens ≡ v / greens % channels + v / blues * channels = omega arith in
    let y : v / blues ≡ v / blues % channels + v / alphas * channels = omega arith in
    let z : v / alphas % channels ≡ v / alphas = omega arith in
    omega arith

-- a link's: start, length, the fallback's kind and its colour
module _ (s l k n : ℕ) (p : s < places) (q : l < places) (r : k < fallback_kinds) where
  abbrev linked : ℕ
  linked = 7 + (s * starts + (l * lens + (k * fallbacks + n * colors)))

  kind_back : linked % kinds ≡ 7
  kind_back = omega arith

  start_back : linked / starts % places ≡ s
  start_back = omega arith

  len_back : linked / lens % places ≡ l
  len_back = omega arith

  fallback_back : linked / fallbacks % fallback_kinds ≡ k
  fallback_back = omega arith

  tint_back : linked / colors ≡ n
  tint_back = omega arith

-- its paint is what the parts tell
module _ (l : Part) (f : Option PaintFallback) (h : LinkFits l f) where
  -- k is the fallback's kind, n its colour's number
  pub link_back : (k n : ℕ) → k < fallback_kinds → fallback_number f ≡ k * fallbacks + n * colors
      → cond (eqb k 0) None (cond (eqb k 1) (Some F.None) (cond (eqb k 2) (Some F.CurrentColor) (Some (F.Color (number_color n))))) ≡ f
      → decoded_paint (paint_number (P.FuncIRI l f)) ≡ P.FuncIRI l f
  unfolding decoded_paint decoded_fallback paint_number
  link_back k n r e d =
      let s = l.start.0 in
      let p = h.start in
      let q = h.len in
      rw e (simp (kind_back s l.len k n p q r, start_back s l.len k n p q r, len_back s l.len k n p q r, fallback_back s l.len k n p q r, tint_back s l.len k n p q r, d))

-- a colour with no link
module _ (n : ℕ) where
  pub tint_kind : (6 + n * colors) % kinds ≡ 6
  tint_kind = omega arith

  pub tint_alone : (6 + n * colors) / colors ≡ n
  tint_alone = omega arith

-- 0 is no paint's number
pub paint_some : (p : Paint) → 0 < paint_number p
unfolding paint_number
paint_some P.None = omega arith
paint_some P.Inherit = omega arith
paint_some P.CurrentColor = omega arith
paint_some P.ContextFill = omega arith
paint_some P.ContextStroke = omega arith
paint_some (P.Color c) = omega arith
paint_some (P.FuncIRI l f) = omega arith

-- a paint's number is below no_paint
fallback_below : (f : Option PaintFallback) → FallbackFits f → fallback_number f + fallbacks ≤ no_paint
unfolding fallback_number
fallback_below None h = omega arith
fallback_below (Some F.None) h = omega arith
fallback_below (Some F.CurrentColor) h = omega arith
fallback_below (Some (F.Color c)) h = omega (arith, color_below c h)

pub paint_below : (v : Paint) → Fits v → paint_number v < no_paint
unfolding paint_number
paint_below P.None h = omega arith
paint_below P.Inherit h = omega arith
paint_below P.CurrentColor h = omega arith
paint_below P.ContextFill h = omega arith
paint_below P.ContextStroke h = omega arith
paint_below (P.Color c) h = omega (arith, color_below c h)
paint_below (P.FuncIRI link f) h = omega (arith, h.start, h.len, fallback_below f h.fallback)
