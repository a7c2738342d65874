-- Many steps of a list at once: the records of the single steps, one after the other.
use Rattle.std.specs.Prelude.{ℕ, zero, suc, ◌/◌, cond, List, [], ◌∷◌, ◌++◌, eqb, length, drop, get_or}
use Rattle.filter_functions.specs.Filters.{next_filter}
use Rattle.length.specs.Lengths.{next_length}
use Rattle.records.specs.Records.{filter_record, length_step_record}

-- the records of at most k steps from place i on: each step is taken from the list place of the record before it (8), up to and with the first whose state (7) is no value's
unfoldable pub up_to : (ℕ → List ℕ) → ℕ → ℕ → List (List ℕ)
up_to step zero i = []
up_to step (suc k) i = step i ∷ cond (eqb (get_or (step i) 7 0) 0) (up_to step k (get_or (step i) 8 0)) []

-- as many as fit into the entries that are lent
abbrev pub fitting : (ℕ → List ℕ) → List ℕ → ℕ → List (List ℕ)
fitting step lent i = up_to step (length lent / 24) i

unfoldable pub flat : List (List ℕ) → List ℕ
flat [] = []
flat (r ∷ rs) = r ++ flat rs

-- the entries that are lent, with the records at their front; those behind stay as they were
abbrev pub filled : List (List ℕ) → List ℕ → List ℕ
filled rs lent = flat rs ++ drop (length (flat rs)) lent

-- the list place of the last record, or i where there is none
unfoldable pub last_place : ℕ → List (List ℕ) → ℕ
last_place i [] = i
last_place i (r ∷ rs) = last_place (get_or r 8 0) rs

-- what is told of them: how many, and the list place to go on from
abbrev pub told_of : ℕ → List (List ℕ) → List ℕ
told_of i rs = length rs ∷ last_place i rs ∷ []

-- the record of the single step at a place
abbrev pub filter_at : List ℕ → ℕ → List ℕ
filter_at s i = filter_record (next_filter s i)

abbrev pub length_at : List ℕ → ℕ → List ℕ
length_at s i = length_step_record (next_length s i)
