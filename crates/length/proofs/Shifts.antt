-- shift: reading at `length a + i` of `a ++ b` is reading at i of b, with every place moved by `length a`.
use Prim.Native.Nat.{ℕ, ◌+◌}
use mathlib.Core.List.{List, ◌++◌}
use mathlib.Core.Path.{◌≡◌}
use native.Mathlib.Nat.{add_assoc}
use lib.Dec.{leb}
use lib.ListN.{length}
use Rattle.text_bytes.proofs.Shifts.{shifts, cond_push, same_else}
use Rattle.stream.specs.Moves.{moved, move_read}
use Rattle.stream.proofs.Binds.{bind_moved}
use Rattle.numbers.specs.Moves.{move_written}
use Rattle.numbers.specs.Number.{parse_number}
use Rattle.numbers.specs.declared.Written.{Written}
use Rattle.numbers.proofs.Shifts.{number_shift, item_shift}
use Rattle.length.specs.Lengths.{unit_at, parse_length, parse_list_length}
use Rattle.length.specs.declared.Length.{Length}

module _ (a b : List ℕ) where
  unit_shift : (i : ℕ) → unit_at (a ++ b) (length a + i) ≡ unit_at b i
  unfolding unit_at
  unit_shift i = simp shifts

  pub length_shift : (i : ℕ) → parse_length (a ++ b) (length a + i) ≡ moved (move_read move_written) (length a) (parse_length b i)
  unfolding parse_length
  length_shift i =
      bind_moved (move_read move_written) (move_read move_written) (length a) (parse_number b i) _ _ _ (number_shift a b i) (λ r. simp (unit_shift, add_assoc))

  pub list_length_shift : (i : ℕ) → parse_list_length (a ++ b) (length a + i) ≡ moved (move_read move_written) (length a) (parse_list_length b i)
  unfolding parse_list_length
  list_length_shift i =
      simp (shifts, cond_push (moved (move_read {A = Written Length} move_written) (length a)))
      (same_else (leb (length b) i) _ _ _
      (bind_moved (move_read move_written) (move_read move_written) (length a) (parse_length b i) _ _ _ (length_shift i) (λ r. simp (item_shift a b))))

pub ruleset length_shifts = (length_shift, list_length_shift)
