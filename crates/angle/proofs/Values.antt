-- Of every unit and every angle: where reading goes on, how far that is, that an angle's number is finite, and where the stretch of a fault lies.
use Prim.Native.Nat.{ℕ, ◌+◌}
use mathlib.Core.Bool.{true, cond}
use mathlib.Core.List.{List, [], ◌∷◌}
use mathlib.Core.Path.{◌≡◌, refl, sym}
use native.Mathlib.Omega.{arith}
use lib.Dec.{T, ltb}
use lib.Ieee.Scale.{finite}
use lib.ListN.{length, drop}
use Rattle.std.specs.Prelude.{Ok, Option, Some, None, MatchResult, MatchOption, ⊤}
use Rattle.text_bytes.specs.Moves.{place}
use Rattle.text_bytes.specs.declared.Place.{Place}
use Rattle.text_bytes.specs.Words.{ascii, starts_with}
use Rattle.text_bytes.proofs.Ahead.{free, pass_trans, pass_word}
use Rattle.text_bytes.proofs.Ranges.{either}
use Rattle.text_bytes.proofs.Wording.{word_inside}
use Rattle.stream.specs.declared.Read.{Read}
use Rattle.stream.proofs.Binds.{bind_holds, at_ok, at_some}
use Rattle.stream.proofs.Goes.{Past}
use Rattle.stream.proofs.Stretches.{LiesFrom}
use Rattle.floats.proofs.Bounds.{Within, is_finite}
use Rattle.numbers.specs.Number.{parse_number}
use Rattle.numbers.specs.declared.Written.{Written}
use Rattle.numbers.proofs.Values.{Taken, number_taken}
use Rattle.angle.specs.Angles.{parse_unit, parse_angle, or_degrees}
use Rattle.angle.specs.declared.Angle.{Angle}
use Rattle.angle.specs.declared.AngleUnit.{AngleUnit}
use Rattle.angle.specs.declared.AngleUnit.TheVariants as U

-- A unit found at i
pub record UnitTaken (s : List ℕ) (i : ℕ) (u : Read AngleUnit) : Type 0 where
  pub past : Past s i u.next

-- An angle read at i
pub record AngleTaken (s : List ℕ) (i : ℕ) (r : Read (Written Angle)) : Type 0 where
  pub past : Past s i r.next
  pub within : Within 127 r.value.value.number

module _ (s : List ℕ) (i : ℕ) where
  -- a word that is tried, else y
  unit_try : (w : List ℕ) (u : AngleUnit) (y : Option (Read AngleUnit)) → free w ≡ true → T (ltb 0 (length w)) → MatchOption y ⊤ (UnitTaken s i)
      → MatchOption (cond (starts_with w (drop i s)) (Some (record { value = u; next = place (i + length w) })) y) ⊤ (UnitTaken s i)
  unit_try [] u y f l v = absurd l
  unit_try (c ∷ cs) u y f l v =
      either (starts_with (c ∷ cs) (drop i s))
      (λ e.
      let t : Past s i (place (i + length (c ∷ cs))) = record { passes = pass_word s i (c ∷ cs) f e; least = omega arith; inside = word_inside c cs s i true refl (sym e) } in
      simp e (record { past = t }))
      (λ e. simp e v)

  pub unit_taken : MatchOption (parse_unit s i) ⊤ (UnitTaken s i)
  unfolding parse_unit
  unit_taken =
      unit_try (ascii "deg") U.Degrees _ refl tt
      (unit_try (ascii "grad") U.Gradians _ refl tt
      (unit_try (ascii "rad") U.Radians _ refl tt
      (unit_try (ascii "turn") U.Turns None refl tt tt)))

pub angle_taken : (s : List ℕ) (i : ℕ) → MatchResult (parse_angle s i) (AngleTaken s i) (LiesFrom s i)
unfolding parse_angle
angle_taken s i =
    bind_holds (Taken s i) (AngleTaken s i) (LiesFrom s i) (parse_number s i) _ (number_taken s i)
    (λ r t. record { past = on r.next t.past (parse_unit s r.next.0) (unit_taken s r.next.0); within = t.within })
  where
    on : (p : Place) → Past s i p → (u : Option (Read AngleUnit)) → MatchOption u ⊤ (UnitTaken s p.0) → Past s i (or_degrees p u).next
    on p t None v = t
    on p t (Some u) v = record { passes = pass_trans t.passes v.past.passes; least = omega (arith, t.least, v.past.least); inside = v.past.inside }

-- the same, of a unit and an angle that are known
pub unit_known : (s : List ℕ) (i : ℕ) (u : Read AngleUnit) → parse_unit s i ≡ Some u → UnitTaken s i u
unit_known s i u e = at_some ⊤ (UnitTaken s i) (parse_unit s i) u (unit_taken s i) e

pub angle_known : (s : List ℕ) (i : ℕ) (r : Read (Written Angle)) → parse_angle s i ≡ Ok r → AngleTaken s i r
angle_known s i r e = at_ok (AngleTaken s i) (LiesFrom s i) (parse_angle s i) r (angle_taken s i) e

pub angle_finite : (s : List ℕ) (i : ℕ) (r : Read (Written Angle)) → parse_angle s i ≡ Ok r → T (finite r.value.value.number)
angle_finite s i r e = is_finite 127 r.value.value.number (angle_known s i r e).within
