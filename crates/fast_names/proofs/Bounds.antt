-- The number of a named colour is below no_color, and a word without one names no colour.
use Prim.Native.Nat.{ℕ, ◌<◌}
use mathlib.Core.List.{List}
use mathlib.Core.Path.{◌≡◌, refl}
use native.Mathlib.Omega.{arith}
use Rattle.std.specs.Prelude.{Option, Some, None}
use Rattle.text_bytes.specs.Words.{lowered}
use Rattle.names.specs.Look.{named_of}
use Rattle.names.specs.declared.Named.{Named}
use Rattle.names.specs.declared.Named.TheVariants as N
use Rattle.color.specs.Hex.{rgba}
use Rattle.color.specs.Color.{named_read}
use Rattle.packed.specs.Numbers.{no_color, color_number}
use Rattle.packed.proofs.Channels.{Low, written_bytes}
use Rattle.packed.proofs.Digits.{color_below}
use Rattle.fast_names.specs.Named.{named_number}

unnamed : (n : Option Named) → named_number n ≡ None → n ≡ None
unfolding named_number
unnamed (Some (N.Keyword c)) e = absurd (let z : ◌≡◌ {A = ℕ} 0 1 = cc in omega arith)
unnamed (Some N.Transparent) e = absurd (let z : ◌≡◌ {A = ℕ} 0 1 = cc in omega arith)
unnamed None e = refl

below : (n : Option Named) → Low (named_read n 0) → (v : ℕ) → named_number n ≡ Some v → v < no_color
unfolding named_number
below (Some (N.Keyword c)) b v e = let q : color_number (rgba c.red c.green c.blue 255) ≡ v = cc in omega (arith, color_below (rgba c.red c.green c.blue 255) b)
below (Some N.Transparent) b v e = let q : color_number (rgba 0 0 0 0) ≡ v = cc in omega (arith, color_below (rgba 0 0 0 0) b)
below None b v e = absurd (let z : ◌≡◌ {A = ℕ} 0 1 = cc in omega arith)

module _ (w : List ℕ) where
  pub named_unnamed : named_number (named_of w) ≡ None → named_of w ≡ None
  named_unnamed e = unnamed (named_of w) e

  pub named_below : (v : ℕ) → named_number (named_of w) ≡ Some v → v < no_color
  unfolding named_of
  named_below v e = below (named_of w) (written_bytes (lowered w) 0) v e
