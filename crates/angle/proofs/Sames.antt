-- more: with a closing bracket ahead, what is appended to the text changes no unit and no angle, accepted or refused.
use Prim.Native.Nat.{ℕ}
use mathlib.Core.List.{List, ◌++◌}
use mathlib.Core.Path.{◌≡◌, refl}
use Rattle.text_bytes.proofs.Ahead.{Ahead, starts_more}
use Rattle.stream.proofs.Binds.{bind_same}
use Rattle.stream.proofs.Goes.{past_ahead}
use Rattle.stream.proofs.Stretches.{LiesFrom}
use Rattle.numbers.specs.Number.{parse_number}
use Rattle.numbers.proofs.Sames.{number_more}
use Rattle.numbers.proofs.Values.{Taken, number_taken}
use Rattle.angle.specs.Angles.{parse_unit, parse_angle}

module _ (a b : List ℕ) where
  pub unit_more : (i : ℕ) → Ahead a i → parse_unit (a ++ b) i ≡ parse_unit a i
  unfolding parse_unit
  unit_more i h = simp starts_more

  pub angle_more : (i : ℕ) → Ahead a i → parse_angle (a ++ b) i ≡ parse_angle a i
  unfolding parse_angle
  angle_more i h =
      bind_same (Taken a i) (LiesFrom a i) (parse_number a i) (parse_number (a ++ b) i) _ _ (number_more a b i h) (number_taken a i)
      (λ r t. rw (unit_more r.next.0 (past_ahead t.past h)) refl)
