-- What is told at once goes into the record without a step.
use Prim.Native.Nat.{ℕ, ◌+◌, ◌≤◌}
use mathlib.Core.Bool.{true}
use mathlib.Core.List.{List}
use mathlib.Core.Path.{◌≡◌, refl, sym}
use native.Mathlib.Omega.{arith}
use borrow.Author.Tests.{le-leb}
use lib.ListN.{length}
use Rattle.std.specs.Prelude.{Some}
use Rattle.text_bytes.specs.Bytes.{is_space}
use Rattle.text_bytes.specs.Scan.{scan}
use Rattle.text_bytes.specs.Words.{is_curr_byte_eq}
use Rattle.text_bytes.proofs.Scans.{scan_ge}
use Rattle.stream.specs.Steps.{edged}
use Rattle.stream.specs.declared.Read.{Read}
use Rattle.filter_functions.specs.Filters.{parse_step}
use Rattle.filter_functions.specs.declared.FilterValue.{FilterValue}
use Rattle.records.specs.Records.{end_row, filter_row, filter_record, state_number}
use Rattle.records.specs.declared.State.TheVariants as S
use Rattle.records.proofs.Listing.{filter_end}
use Rattle.records.proofs.Rows.{step_row}
use Rattle.fast_filter_functions.specs.Told.{closed_or}

module _ (s : List ℕ) (i : ℕ) where
  -- the end of a list
  pub end_told : length s ≤ i → end_row (state_number S.End) (length s) ≡ filter_record (edged s (parse_step s i))
  unfolding parse_step
  end_told h = simp (le-leb (length s) (scan is_space s i) (omega (arith, scan_ge is_space s i))) (filter_end _ refl)

  -- a value, and its closing bracket (41)
  pub value_told : (r : Read FilterValue) → is_curr_byte_eq s r.next.0 41 ≡ true → closed_or s (parse_step s i) (Some r) ≡ parse_step s i
      → filter_row (scan is_space s (r.next.0 + 1)) r.value ≡ filter_record (edged s (parse_step s i))
  value_told r e h = sym (step_row s i (sym (simp e at h)))
