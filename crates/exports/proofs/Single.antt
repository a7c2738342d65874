-- The walk with room for one record is one step, since the record of a step has 24 entries.
use Prim.Native.Nat.{ℕ, ◌/◌}
use mathlib.Core.Bool.{Bool, true, false, cond}
use mathlib.Core.List.{List, [], append-nil}
use mathlib.Core.Path.{◌≡◌, refl, sym, ◌∙◌}
use lib.Dec.{eqb}
use lib.ListN.{length, get_or}
use lib.Seq.{drop-length}
use Rattle.filter_functions.specs.Filters.{next_filter}
use Rattle.length.specs.Lengths.{next_length}
use Rattle.records.specs.Many.{up_to, fitting, flat, filled, filter_at, length_at}
use Rattle.records.proofs.Stores.{length_entries, filter_entries}

no_room : (b : Bool) → flat (cond b [] []) ≡ []
unfolding flat
no_room true = refl
no_room false = refl

one_step : (step : ℕ → List ℕ) (i : ℕ) (o : List ℕ) → length o ≡ 24 → length (step i) ≡ 24 → filled (fitting step o i) o ≡ step i
unfolding up_to flat
one_step step i o e l =
    let q : length o / 24 ≡ 1 = rw e in
    let f : flat (up_to step 1 i) ≡ step i = rw (no_room (eqb (get_or (step i) 7 0) 0)) (append-nil (step i)) in
    let g : length (step i) ≡ length o = l ∙ sym e in
    rw (q, f, g, drop-length o) (append-nil (step i))

pub filter_single : (s : List ℕ) (i : ℕ) (o : List ℕ) → length o ≡ 24 → filled (fitting (filter_at s) o i) o ≡ filter_at s i
filter_single s i o e = one_step (filter_at s) i o e (filter_entries (next_filter s i))

pub length_single : (s : List ℕ) (i : ℕ) (o : List ℕ) → length o ≡ 24 → filled (fitting (length_at s) o i) o ≡ length_at s i
length_single s i o e = one_step (length_at s) i o e (length_entries (next_length s i))
