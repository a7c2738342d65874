-- A step of a list of values.
use Rattle.std.specs.Prelude.{ℕ, List, length, Result, Ok, Err}
use Rattle.text_bytes.specs.Moves.{place}
use Rattle.text_bytes.specs.declared.Place.{Place}
use Rattle.stream.specs.Refusals.{refusal_of}
use Rattle.stream.specs.declared.Fault.{Fault}
use Rattle.stream.specs.declared.Read.{Read}
use Rattle.stream.specs.declared.Refusal.{Refusal}
use Rattle.stream.specs.declared.Step.{Step}

abbrev pub refused_step : {A : Type 0} → Refusal → Place → Step A
refused_step e p = record { item = Err e; place = p }

-- a list place that may not be read from is given back as it came
abbrev pub placed : {A : Type 0} → ℕ → Result (Unit {0}) Refusal → Step A → Step A
placed i (Ok u) k = k
placed i (Err e) k = refused_step e (place i)

-- what is refused after that gives the end of the text
abbrev pub edged : {A : Type 0} → List ℕ → Result (Read A) Fault → Step A
edged s (Ok r) = record { item = Ok r.value; place = r.next }
edged s (Err e) = refused_step (refusal_of s e) (place (length s))
