-- A list of filter values, walked by an iterator.
use Rattle.std.specs.Prelude.{ℕ, suc, ◌≡◌, ◌-◌, Bool, true, false, length, Result, Ok, Err, Option, Some, None, if◌then◌else◌}
use Rattle.stream.specs.declared.Refusal.{Refusal}
use Rattle.filter_functions.specs.Filters.{next_filter}
use Rattle.filter_functions.specs.declared.FilterValue.{FilterValue}
use Rattle.filter_functions.specs.declared.FilterValueListParser.{FilterValueListParser}
use Rattle.filter_functions.specs.declared.Listed.{Listed}
use Rattle.filter_functions.specs.declared.Listed.TheVariants as I

-- what is handed out of a step: a value, a refusal, or nothing at the end
abbrev pub item_of : Result Listed Refusal → Option (Result FilterValue Refusal)
item_of (Ok (I.Value v)) = Some (Ok v)
item_of (Ok I.End) = None
item_of (Ok I.NoneWord) = None
item_of (Err e) = Some (Err e)

-- and whether the list has ended with it
abbrev pub ends_list : Result Listed Refusal → Bool
ends_list (Ok (I.Value v)) = false
ends_list (Ok I.End) = true
ends_list (Ok I.NoneWord) = true
ends_list (Err e) = true

-- each call is one step of the list, and after the end or a refusal nothing comes
pub record StepsOn (s : FilterValueListParser) (r : Option (Result FilterValue Refusal)) (t : FilterValueListParser) : Type 0 where
  pub text : t.text ≡ s.text
  pub none : s.ended ≡ true → (r ≡ None) × (t.ended ≡ true)
  pub item : s.ended ≡ false → r ≡ item_of (next_filter s.text.now s.place.0).item
  pub place : s.ended ≡ false → t.place ≡ (next_filter s.text.now s.place.0).place
  pub ended : s.ended ≡ false → t.ended ≡ ends_list (next_filter s.text.now s.place.0).item

-- how many items may still come
abbrev pub left : FilterValueListParser → ℕ
left s = if s.ended then 0 else suc (length s.text.now - s.place.0)
