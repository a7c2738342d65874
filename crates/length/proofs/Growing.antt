-- A step that hands out a length goes forward, and stays in the text.
use Prim.Native.Nat.{ℕ, ◌<◌, ◌≤◌}
use mathlib.Core.List.{List}
use mathlib.Core.Path.{◌≡◌, refl}
use native.Mathlib.Omega.{arith}
use lib.Dec.{leb}
use lib.ListN.{length}
use Rattle.std.specs.Prelude.{Result, Ok, Err, Option, Some, None, MatchResult, MatchOption, ⊤}
use Rattle.text_bytes.proofs.Ranges.{either}
use Rattle.stream.specs.Refusals.{admit_place}
use Rattle.text_bytes.specs.Flow.{◌>>=◌}
use Rattle.stream.specs.Steps.{placed, edged}
use Rattle.stream.specs.declared.Fault.{Fault}
use Rattle.stream.specs.declared.Read.{Read}
use Rattle.stream.specs.declared.Refusal.{Refusal}
use Rattle.stream.proofs.Stretches.{LiesFrom}
use Rattle.numbers.specs.declared.Written.{Written}
use Rattle.length.specs.Lengths.{LengthStep, parse_list_length, parse_step, next_length}
use Rattle.length.specs.declared.Length.{Length}
use Rattle.length.proofs.Values.{LengthTaken, list_length_taken}

record Grows (s : List ℕ) (i : ℕ) (t : LengthStep) : Type 0 where
  forward : i < t.place.0
  inside : t.place.0 ≤ length s

abbrev Grown : List ℕ → ℕ → LengthStep → Type 0
Grown s i t = MatchResult t.item (λ o. MatchOption o ⊤ (λ _. Grows s i t)) (λ _. ⊤)

of_read : (s : List ℕ) (i : ℕ) (r : Result (Read (Written Length)) Fault) → MatchResult r (LengthTaken s i) (LiesFrom s i)
    → Grown s i (edged s (r >>= (λ (x : Read (Written Length)). Ok (record { value = Some x.value; next = x.next }))))
of_read s i (Ok r) t = record { forward = omega (arith, t.past.least); inside = t.past.inside }
of_read s i (Err e) t = tt

from_place : (s : List ℕ) (i : ℕ) (r : Result (Unit {0}) Refusal) (k : LengthStep) → Grown s i k → Grown s i (placed i r k)
from_place s i (Ok u) k v = v
from_place s i (Err e) k v = tt

grown : (s : List ℕ) (i : ℕ) → Grown s i (next_length s i)
unfolding next_length parse_step
grown s i =
    from_place s i (admit_place s i) _
    (either (leb (length s) i) (λ t. simp t tt) (λ t. simp t (of_read s i (parse_list_length s i) (list_length_taken s i))))

known : (s : List ℕ) (i : ℕ) (t : LengthStep) (w : Written Length) → Grown s i t → t.item ≡ Ok (Some w) → Grows s i t
known s i t w v e = go t.item v e
  where
    go : (r : Result (Option (Written Length)) Refusal) → MatchResult r (λ o. MatchOption o ⊤ (λ _. Grows s i t)) (λ _. ⊤) → r ≡ Ok (Some w) → Grows s i t
    go (Ok (Some x)) v e = v
    go (Ok None) v e = let z : ◌≡◌ {A = ℕ} 0 1 = cc in absurd (omega arith)
    go (Err x) v e = let z : ◌≡◌ {A = ℕ} 0 1 = cc in absurd (omega arith)

-- the first part shows `grind` the call
pub step_grows : (s : List ℕ) (i : ℕ) (w : Written Length) → (next_length s i).item ≡ Ok (Some w)
    → ((next_length s i).place ≡ (next_length s i).place) × ((i < (next_length s i).place.0) × ((next_length s i).place.0 ≤ length s))
step_grows s i w e = let g = known s i (next_length s i) w (grown s i) e in (refl, (g.forward, g.inside))
