-- Capitals change nothing: all that is said of the case of letters. `from_str` is what color::from_str, the loose reading, answers, `strict_from_str` what strict::from_str does.
use Rattle.std.specs.Prelude.{ℕ, List, Ok, Err, ◌≡◌}
use Rattle.text_bytes.specs.Words.{lowered}
use Rattle.stream.specs.declared.Refusal.{Refusal}
use Rattle.color.specs.Answer.{from_str}
use Rattle.color.specs.declared.Color.{Color}
use Rattle.strict.specs.Answer.{strict_from_str}

-- "change the case of whichever ASCII letters you like": the two are one text in lower case
abbrev pub Alike : List ℕ → List ℕ → Type 0
Alike s t = lowered s ≡ lowered t

pub record Capitals : Type 0 where
  -- "take a text that the loose colour reading accepts and change the case ..; it is accepted with the same four channels"
  pub loose : (s t : List ℕ) (c : Color) → Alike s t → from_str s ≡ Ok c → from_str t ≡ Ok c
  -- "A refused one stays refused, though perhaps by another number"
  pub loose_refused : (s t : List ℕ) (e : Refusal) → Alike s t → from_str s ≡ Err e → (f : Refusal) × (from_str t ≡ Err f)
  -- "Then the same for the strict reading": accepted with the same four channels,
  pub strict : (s t : List ℕ) (c : Color) → Alike s t → strict_from_str s ≡ Ok c → strict_from_str t ≡ Ok c
  -- and refused, perhaps by another number
  pub strict_refused : (s t : List ℕ) (e : Refusal) → Alike s t → strict_from_str s ≡ Err e → (f : Refusal) × (strict_from_str t ≡ Err f)
