-- The row of a step that reads a value, for those who write it without the step.
use Prim.Native.Nat.{ℕ}
use mathlib.Core.List.{List}
use mathlib.Core.Path.{◌≡◌}
use Rattle.text_bytes.specs.declared.Place.{Place}
use Rattle.std.specs.Prelude.{Ok}
use Rattle.stream.specs.Steps.{edged}
use Rattle.filter_functions.specs.Filters.{parse_step}
use Rattle.filter_functions.specs.Paper as filters
use Rattle.filter_functions.specs.declared.FilterValue.{FilterValue}
use Rattle.filter_functions.specs.declared.Listed.TheVariants as I
use Rattle.records.specs.Records.{filter_row, filter_record}

-- a step that reads a value: its row is the step's record
pub step_row : (s : List ℕ) (i : ℕ) {v : FilterValue} {p : Place} → parse_step s i ≡ Ok (record { value = I.Value v; next = p }) → filter_record (edged s (parse_step s i)) ≡ filter_row p.0 v
unfolding filter_record filter_row filters.paper_step
step_row s i h = rw h
