-- House rules for new artwork: all that is said of the strict reading. `strict_from_str` is what strict::from_str answers, `from_str` what color::from_str, the old reading, does. What stands in quotation marks is the rule.
use Rattle.std.specs.Prelude.{ℕ, suc, ◌≤◌, ◌<◌, List, Ok, Err, ◌≡◌, length, take}
use Rattle.stream.specs.Refusals.{refusal_at}
use Rattle.stream.specs.declared.Refusal.{Refusal}
use Rattle.stream.specs.declared.Reason.TheVariants as R
use Rattle.color.specs.Answer.{from_str}
use Rattle.color.specs.declared.Color.{Color}
use Rattle.strict.specs.Answer.{strict_from_str}
use Rattle.strict_trees.specs.StrictColors.{Strict, Viable}

-- "18 .. with the position of the first character (or the end) at which no strict text, however long, can go on": the beginning up to it can be gone on with, with one byte more it cannot
pub record Stops (s : List ℕ) (e : Refusal) : Type 0 where
  pub at : ℕ
  pub is : e ≡ refusal_at s R.NotStrict at
  pub viable : Viable (take at s)
  pub shut : at < length s → Viable (take (suc at) s) → ⊥

pub record HouseRules : Type 0 where
  -- "Every text it accepts .. has the same channels in the old reading"; `transparent` is read so by both
  pub same_channels : (s : List ℕ) (c : Color) → strict_from_str s ≡ Ok c → from_str s ≡ Ok c
  -- it accepts every strict text within the limit,
  pub accepts : (s : List ℕ) → Strict s → length s ≤ 4096 → (c : Color) × (strict_from_str s ≡ Ok c)
  -- and no other
  pub only : (s : List ℕ) (c : Color) → strict_from_str s ≡ Ok c → Strict s
  -- "18, for what the old reading accepts and the strict one does not",
  pub refuses : (s : List ℕ) (c : Color) → from_str s ≡ Ok c → (Strict s → ⊥) → (e : Refusal) × ((strict_from_str s ≡ Err e) × (e.reason ≡ R.NotStrict))
  pub stops : (s : List ℕ) (e : Refusal) → strict_from_str s ≡ Err e → e.reason ≡ R.NotStrict → Stops s e
  -- "what both refuse keeps the old number", and all else that a refusal tells
  pub old_refusal : (s : List ℕ) (e : Refusal) → from_str s ≡ Err e → strict_from_str s ≡ Err e
  pub old_number : (s : List ℕ) (e : Refusal) → strict_from_str s ≡ Err e → (e.reason ≡ R.NotStrict → ⊥) → from_str s ≡ Err e
