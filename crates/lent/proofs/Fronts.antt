-- The laws of a text that stands at the front of what is lent.
use Prim.Native.Nat.{ℕ, ◌≤◌, ◌<◌}
use mathlib.Core.List.{List}
use mathlib.Core.Path.{◌≡◌, refl, ◌∙◌}
use borrow.Author.Tests.{le-leb, lt-leb}
use native.Mathlib.Nat.{zero-add}
use lib.ListN.{length, take, drop}
use lib.Seq.{paste, take-length, take-append_seam, drop-append_seam}
use Rattle.lent.specs.Texts.{over, written}

module _ (w o : List ℕ) where
  -- what is pasted at the front
  pub front : {p : List ℕ} → p ≡ paste o 0 w (length w) → p ≡ over w o
  front e = e ∙ rw (take-length w, zero-add (length w)) refl

  -- it stands there, and what lies behind it stays
  pub over_front : take (length w) (over w o) ≡ w
  over_front = take-append_seam w (drop (length w) o)

  pub over_behind : drop (length w) (over w o) ≡ drop (length w) o
  over_behind = drop-append_seam w (drop (length w) o)

  pub written_room : length w ≤ length o → written w o ≡ over w o
  unfolding written
  written_room h = simp (le-leb (length w) (length o) h)

  pub written_none : length o < length w → written w o ≡ o
  unfolding written
  written_none h = simp (lt-leb (length w) (length o) h)
