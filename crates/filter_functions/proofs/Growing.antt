-- A step that hands out a value goes forward, and stays in the text.
use Prim.Native.Nat.{ℕ, ◌<◌, ◌≤◌}
use mathlib.Core.List.{List}
use mathlib.Core.Path.{◌≡◌, refl}
use native.Mathlib.Omega.{arith}
use lib.ListN.{length}
use Rattle.std.specs.Prelude.{Result, Ok, Err}
use Rattle.text_bytes.specs.declared.Place.{Place}
use Rattle.stream.specs.Refusals.{admit_place}
use Rattle.stream.specs.declared.Fault.{Fault}
use Rattle.stream.specs.declared.Read.{Read}
use Rattle.stream.specs.declared.Refusal.{Refusal}
use Rattle.stream.specs.Steps.{placed, edged}
use Rattle.filter_functions.specs.Filters.{parse_step, next_filter}
use Rattle.filter_functions.specs.Filters.{FilterStep}
use Rattle.filter_functions.specs.declared.FilterValue.{FilterValue}
use Rattle.filter_functions.specs.declared.Listed.{Listed}
use Rattle.filter_functions.specs.declared.Listed.TheVariants as I
use Rattle.filter_functions.proofs.Values.{Steps, Says, Stepped, step_says}

record Grows (s : List ℕ) (i : ℕ) (t : FilterStep) : Type 0 where
  forward : i < t.place.0
  inside : t.place.0 ≤ length s

-- what a value's step says of its list place
value_grows : (s : List ℕ) (i : ℕ) (l : Listed) (p : Place) (v : FilterValue) → Says s i l p → l ≡ I.Value v → (i < p.0) × (p.0 ≤ length s)
value_grows s i l p v w e = let c : Stepped s i p = rw e at w in (omega (arith, c.six), c.inside)

grown : (s : List ℕ) (i : ℕ) (v : FilterValue) → (next_filter s i).item ≡ Ok (I.Value v) → Grows s i (next_filter s i)
unfolding next_filter
grown s i v e = go (admit_place s i) (parse_step s i) (step_says s i) e
  where
    go : (x : Result (Unit {0}) Refusal) (y : Result (Read Listed) Fault) → Steps s i y → (placed i x (edged s y)).item ≡ Ok (I.Value v) → Grows s i (placed i x (edged s y))
    go (Ok u) (Ok r) w f = let g = value_grows s i r.value r.next v w cc in record { forward = g.0; inside = g.1 }
    go (Ok u) (Err x) w f = let z : ◌≡◌ {A = ℕ} 0 1 = cc in absurd (omega arith)
    go (Err r) y w f = let z : ◌≡◌ {A = ℕ} 0 1 = cc in absurd (omega arith)

-- the first part shows `grind` the call
pub step_grows : (s : List ℕ) (i : ℕ) (v : FilterValue) → (next_filter s i).item ≡ Ok (I.Value v)
    → ((next_filter s i).place ≡ (next_filter s i).place) × ((i < (next_filter s i).place.0) × ((next_filter s i).place.0 ≤ length s))
step_grows s i v e = let g = grown s i v e in (refl, (g.forward, g.inside))
