-- Why a colour's refusal by 5 can be told by its place alone.
use Rattle.std.specs.Prelude.{ℕ, List, Err, ◌≡◌}
use Rattle.stream.specs.Refusals.{reason_number, empty_refusal}
use Rattle.stream.specs.declared.Refusal.{Refusal}
use Rattle.stream.specs.declared.Reason.TheVariants as R
use Rattle.stream.specs.declared.Trouble.TheVariants as T
use Rattle.color.specs.Answer.{from_str}

-- a refusal by 5 tells nothing else but where its stretch starts, and its stretch is empty: of every text
pub record FiveEmpty : Type 0 where
  pub five : (s : List ℕ) (e : Refusal) → from_str s ≡ Err e → reason_number e.reason ≡ 5 → e ≡ empty_refusal (R.Unread T.InvalidValue) e.from.0
