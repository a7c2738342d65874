-- What is told at once; the rest is left to the plain reader. Only contracts inside the crate speak of it.
use Rattle.std.specs.Prelude.{ℕ, ◌&&◌, List, ltb, leb, length, Result, Ok, Err, Option, Some, None, if◌then◌else◌}
use Rattle.text_bytes.specs.Moves.{place}
use Rattle.text_bytes.specs.declared.Place.{Place}
use Rattle.stream.specs.Refusals.{empty_refusal}
use Rattle.stream.specs.declared.Reason.TheVariants as R
use Rattle.stream.specs.declared.Refusal.{Refusal}
use Rattle.stream.specs.declared.Trouble.TheVariants as T
use Rattle.color.specs.declared.Color.{Color}
use Rattle.packed.specs.Numbers.{color_number}

-- a whole text's answer, with its colour's number
unfoldable pub numbered : Result Color Refusal → Result ℕ Refusal
numbered (Ok c) = Ok (color_number c)
numbered (Err e) = Err e

-- what is told of it, or x: a colour's number, or where a text that is no colour was read to
unfoldable pub told_or : Option (Result ℕ Place) → Result ℕ Refusal → Result ℕ Refusal
told_or (Some (Ok v)) x = Ok v
told_or (Some (Err p)) x = Err (empty_refusal (R.Unread T.InvalidValue) p.0)
told_or None x = x

-- a colour's number alone, and where a text was read to alone
abbrev pub valued : Option ℕ → Option (Result ℕ Place)
valued (Some v) = Some (Ok v)
valued None = None

abbrev pub invalid : Option Place → Option (Result ℕ Place)
invalid (Some p) = Some (Err p)
invalid None = None

-- an empty text is refused otherwise, and one over the limit
unfoldable pub refused : List ℕ → ℕ → Option (Result ℕ Place)
refused s i = if ltb 0 (length s) && leb (length s) 4096 then Some (Err (place i)) else None
