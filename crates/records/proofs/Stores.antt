-- The laws of the writing of a row: stores of several entries, one by one, and of its thirds.
use Prim.Native.Nat.{ℕ, ◌+◌, ◌≤◌}
use mathlib.Core.List.{List, [], ◌∷◌, ◌++◌}
use mathlib.Core.Path.{◌≡◌, refl}
use native.Mathlib.Omega.{arith}
use lib.ListN.{length, set, length-append}
use lib.Seq.{paste}
use Rattle.lent.proofs.Pastes.{stored, stored_paste, parts}
use Rattle.length.specs.Lengths.{LengthStep}
use Rattle.filter_functions.specs.Filters.{FilterStep}
use Rattle.records.specs.Records.{row, length_step_record, filter_record}

-- four entries and eight, stored one by one
module _ (xs : List ℕ) (at a b c d : ℕ) where
  pub four_stored : at + 4 ≤ length xs → set (set (set (set xs at a) (at + 1) b) (at + 2) c) (at + 3) d ≡ paste xs at (a ∷ b ∷ c ∷ d ∷ []) 4
  unfolding stored
  four_stored l = stored_paste xs at (a ∷ b ∷ c ∷ d ∷ []) 3 l (omega arith)

  pub eight_stored : (e f g h : ℕ) → at + 8 ≤ length xs
      → set (set (set (set (set (set (set (set xs at a) (at + 1) b) (at + 2) c) (at + 3) d) (at + 4) e) (at + 5) f) (at + 6) g) (at + 7) h ≡ paste xs at (a ∷ b ∷ c ∷ d ∷ e ∷ f ∷ g ∷ h ∷ []) 8
  unfolding stored
  eight_stored e f g h l = stored_paste xs at (a ∷ b ∷ c ∷ d ∷ e ∷ f ∷ g ∷ h ∷ []) 7 l (omega arith)

-- a record stored by thirds
pub thirds : {p q r : List ℕ} (o : List ℕ) (k : ℕ) (a b c : List ℕ) → p ≡ paste o k a 8 → q ≡ paste p (k + 8) b 8 → r ≡ paste q (k + 16) c 8 → length a ≡ 8 → length b ≡ 8 → length c ≡ 8 → k + 24 ≤ length o
    → r ≡ paste o k (a ++ b ++ c) 24
thirds o k a b c e f g x y z l =
    parts o k (a ++ b) c 16 8 (parts o k a b 8 8 e f x (omega arith) (omega arith)) g (omega (arith, length-append a b)) (omega arith) l

-- the record of a step has 24 entries
pub length_entries : (x : LengthStep) → length (length_step_record x) ≡ 24
unfolding row length_step_record
length_entries x = refl

pub filter_entries : (x : FilterStep) → length (filter_record x) ≡ 24
unfolding row filter_record
filter_entries x = refl
