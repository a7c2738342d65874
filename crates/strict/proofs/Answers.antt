-- What is accepted by the loose reading is an admitted text.
use Prim.Native.Nat.{ℕ}
use mathlib.Core.List.{List}
use mathlib.Core.Path.{◌≡◌}
use Rattle.std.specs.Prelude.{Ok}
use Rattle.utf8.specs.Characters.{utf8_of}
use Rattle.stream.specs.Refusals.{admit_text}
use Rattle.stream.proofs.Binds.{bind_ok}
use Rattle.stream.proofs.Edges.{admitted_utf8}
use Rattle.color.specs.Answer.{from_str}
use Rattle.color.specs.declared.Color.{Color}

-- for `grind`
pub value_utf8 : (s : List ℕ) (c : Color) → from_str s ≡ Ok c → (from_str s ≡ Ok c) × (utf8_of s ≡ Ok tt)
unfolding from_str
value_utf8 s c e = (e, admitted_utf8 s (bind_ok (admit_text s) _ e).1.0)
