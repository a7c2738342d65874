-- A float's bits.
use mathlib.Core.Bool.{true}
use mathlib.Core.Path.{◌≡◌}
use lib.Ieee.{Float, ne, to_bits}
use lib.Ieee.Compare.{differs_from_itself}
use Rattle.std.specs.Float.{binary64}

pub nan_bits : (x : Float) → ne x x ≡ true → to_bits binary64 x ≡ 0x7ff8_0000_0000_0000
unfolding to_bits
nan_bits x h = rw (differs_from_itself x (rw h tt))
