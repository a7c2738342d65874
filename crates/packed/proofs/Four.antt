-- A colour's number is its four channels as bytes, the lowest first.
use mathlib.Core.List.{[], ◌∷◌}
use mathlib.Core.Path.{◌≡◌}
use native.Mathlib.Omega.{arith}
use Rattle.std.specs.Int.{w32, from_le_bytes}
use Rattle.color.specs.declared.Color.{Color}
use Rattle.packed.specs.Numbers.{color_number}

pub bytes_number : (c : Color) → from_le_bytes w32 (c.red ∷ c.green ∷ c.blue ∷ c.alpha ∷ []) ≡ color_number c
unfolding color_number
bytes_number c = omega arith
