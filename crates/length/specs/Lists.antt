-- A list of lengths, walked by an iterator.
use Rattle.std.specs.Prelude.{ℕ, suc, ◌≡◌, ◌-◌, Bool, true, false, length, Result, Ok, Err, Option, Some, None, if◌then◌else◌}
use Rattle.stream.specs.declared.Refusal.{Refusal}
use Rattle.numbers.specs.declared.Written.{Written}
use Rattle.length.specs.Lengths.{next_length}
use Rattle.length.specs.declared.Length.{Length}
use Rattle.length.specs.declared.LengthListParser.{LengthListParser}

-- what is handed out of a step: a length, a refusal, or nothing at the end
abbrev pub item_of : Result (Option (Written Length)) Refusal → Option (Result (Written Length) Refusal)
item_of (Ok (Some a)) = Some (Ok a)
item_of (Ok None) = None
item_of (Err e) = Some (Err e)

-- and whether the list has ended with it
abbrev pub ends_list : Result (Option (Written Length)) Refusal → Bool
ends_list (Ok (Some a)) = false
ends_list (Ok None) = true
ends_list (Err e) = true

-- each call is one step of the list, and after the end or a refusal nothing comes
pub record StepsOn (s : LengthListParser) (r : Option (Result (Written Length) Refusal)) (t : LengthListParser) : Type 0 where
  pub text : t.text ≡ s.text
  pub none : s.ended ≡ true → (r ≡ None) × (t.ended ≡ true)
  pub item : s.ended ≡ false → r ≡ item_of (next_length s.text.now s.place.0).item
  pub place : s.ended ≡ false → t.place ≡ (next_length s.text.now s.place.0).place
  pub ended : s.ended ≡ false → t.ended ≡ ends_list (next_length s.text.now s.place.0).item

-- how many items may still come
abbrev pub left : LengthListParser → ℕ
left s = if s.ended then 0 else suc (length s.text.now - s.place.0)
