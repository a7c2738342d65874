-- more: with a closing bracket ahead, what is appended to the text changes no length, accepted or refused.
use Prim.Native.Nat.{ℕ}
use mathlib.Core.Bool.{false}
use mathlib.Core.List.{List, ◌++◌}
use mathlib.Core.Path.{◌≡◌, refl}
use borrow.Author.Tests.{lt-leb}
use lib.Dec.{leb}
use lib.ListN.{length}
use Rattle.text_bytes.proofs.Ahead.{Ahead, ahead_inside, starts_more, end_more}
use Rattle.stream.proofs.Binds.{bind_same}
use Rattle.stream.proofs.Goes.{past_ahead}
use Rattle.stream.proofs.Stretches.{LiesFrom}
use Rattle.numbers.specs.Number.{parse_number}
use Rattle.numbers.proofs.Sames.{number_more, item_more}
use Rattle.numbers.proofs.Values.{Taken, number_taken}
use Rattle.length.specs.Lengths.{unit_at, parse_length, parse_list_length}
use Rattle.length.proofs.Values.{LengthTaken, length_taken}

module _ (a b : List ℕ) where
  unit_more : (i : ℕ) → Ahead a i → unit_at (a ++ b) i ≡ unit_at a i
  unfolding unit_at
  unit_more i h = simp starts_more

  pub length_more : (i : ℕ) → Ahead a i → parse_length (a ++ b) i ≡ parse_length a i
  unfolding parse_length
  length_more i h =
      bind_same (Taken a i) (LiesFrom a i) (parse_number a i) (parse_number (a ++ b) i) _ _ (number_more a b i h) (number_taken a i)
      (λ r t. rw (unit_more r.next.0 (past_ahead t.past h)) refl)

  pub list_length_more : (i : ℕ) → Ahead a i → parse_list_length (a ++ b) i ≡ parse_list_length a i
  unfolding parse_list_length
  list_length_more i h =
      let l : leb (length a) i ≡ false = lt-leb (length a) i (ahead_inside h) in
      simp (end_more, l)
      (bind_same (LengthTaken a i) (LiesFrom a i) (parse_length a i) (parse_length (a ++ b) i) _ _ (length_more i h) (length_taken a i)
      (λ r t. rw (item_more a b r.next.0 (past_ahead t.past h)) refl))
