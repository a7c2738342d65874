-- A list's state by the paper's record of the step: a refusal has a number, which is not 0. Only an end by `none`, 2, is an end, 1, there.
use Prim.Native.Nat.{ℕ}
use mathlib.Core.Bool.{Bool, false, cond}
use mathlib.Core.Path.{◌≡◌, refl}
use lib.Dec.{eqb}
use Rattle.std.specs.Prelude.{Result, Ok, Err, Option, Some, None}
use Rattle.text_bytes.specs.declared.Place.{Place}
use Rattle.stream.specs.Paper.{PaperRefusal, paper_refusal}
use Rattle.stream.specs.Refusals.{number_of, reason_number}
use Rattle.stream.specs.declared.Refusal.{Refusal}
use Rattle.length.specs.Lengths.{LengthStep}
use Rattle.stream.specs.declared.Trouble.{Trouble}
use Rattle.stream.specs.declared.Trouble.TheVariants as T
use Rattle.stream.specs.declared.Reason.{Reason}
use Rattle.stream.specs.declared.Reason.TheVariants as R
use Rattle.numbers.specs.declared.Written.{Written}
use Rattle.length.specs.Paper as lengths
use Rattle.length.specs.declared.Length.{Length}
use Rattle.filter_functions.specs.Paper as filters
use Rattle.filter_functions.specs.Filters.{FilterStep}
use Rattle.filter_functions.specs.declared.Listed.{Listed}
use Rattle.filter_functions.specs.declared.Listed.TheVariants as I
use Rattle.records.specs.Records.{length_item_state, length_state, filter_item_state, filter_state}

-- the state that a refusal and the end of a list tell
abbrev pub paper_state : PaperRefusal → Bool → ℕ
paper_state e ended = cond ended 1 (cond (eqb e.number 0) 0 3)

trouble_some : (t : Trouble) → eqb (number_of t) 0 ≡ false
unfolding number_of
trouble_some T.UnexpectedEndOfStream = refl
trouble_some T.InvalidValue = refl
trouble_some T.UnexpectedData = refl
trouble_some (T.InvalidChar found wanted) = refl
trouble_some T.InvalidString = refl
trouble_some T.WrongByte = refl
trouble_some T.WrongForm = refl
trouble_some T.PercentageValue = refl
trouble_some T.NegativeValue = refl
trouble_some T.InvalidAngle = refl
trouble_some T.MissingDropShadowOffset = refl
trouble_some T.InvalidUrl = refl
trouble_some T.TextEnded = refl
trouble_some T.TooLarge = refl
trouble_some T.ScaleOutOfRange = refl

reason_some : (r : Reason) → eqb (reason_number r) 0 ≡ false
unfolding reason_number
reason_some R.TextTooLong = refl
reason_some R.IllFormed = refl
reason_some R.BadListPlace = refl
reason_some (R.Unread t) = trouble_some t
reason_some R.BufferTooShort = refl
reason_some R.NoKeyword = refl
reason_some R.NotStrict = refl

pub length_state_flag : (x : LengthStep) → length_state x ≡ paper_state (lengths.paper_step x).refusal (lengths.paper_step x).ended
unfolding lengths.paper_step paper_refusal
length_state_flag x = go x.item x.place
  where
    go : (y : Result (Option (Written Length)) Refusal) (p : Place) → length_item_state y ≡ paper_state (lengths.step_paper y p).refusal (lengths.step_paper y p).ended
    go (Ok (Some w)) p = refl
    go (Ok None) p = refl
    go (Err e) p = rw (reason_some e.reason)

pub filter_state_flag : (x : FilterStep) → cond (eqb (filter_state x) 2) 1 (filter_state x) ≡ paper_state (filters.paper_step x).refusal (filters.paper_step x).ended
unfolding filters.paper_step paper_refusal
filter_state_flag x = go x.item x.place
  where
    go : (y : Result Listed Refusal) (p : Place) → cond (eqb (filter_item_state y) 2) 1 (filter_item_state y) ≡ paper_state (filters.step_paper y p).refusal (filters.step_paper y p).ended
    go (Ok (I.Value v)) p = refl
    go (Ok I.End) p = refl
    go (Ok I.NoneWord) p = refl
    go (Err e) p = rw (reason_some e.reason)
