-- What the writers answer, and what they promise of it. What stands in quotation marks is the rule.
use Rattle.std.specs.Prelude.{ℕ, ◌<◌, Bool, List, ◌⊎◌, ◌≡◌, ⊤, eqb, take, Option, Some, None, Result, Ok, Err, MatchResult, if◌then◌else◌}
use Rattle.stream.specs.Refusals.{bare_refusal}
use Rattle.stream.specs.declared.Refusal.{Refusal}
use Rattle.stream.specs.declared.Reason.{Reason}
use Rattle.names.specs.Back.{first_named, name_answer}
use Rattle.names.specs.Keywords.{keywords}
use Rattle.names.specs.Look.{channels}
use Rattle.names.specs.Search.{nth}
use Rattle.color.specs.Answer as colors
use Rattle.color.specs.Color.{rgb_of}
use Rattle.color.specs.declared.Color.{Color}
use Rattle.set_back.specs.Texts.{hex_text}

-- "16 buffer too short, 17 no keyword": nothing is told but the reason
abbrev pub bare : Result ℕ Reason → Result ℕ Refusal
bare (Ok n) = Ok n
bare (Err t) = Err (bare_refusal t)

-- of a text or none, where n bytes are lent. Without a text there is nothing that could be too long: 17 comes before 16
unfoldable pub settled : Option (List ℕ) → ℕ → Result ℕ Refusal
settled x n = bare (name_answer x n)

unfoldable pub hex_answer : Color → Bool → ℕ → Result ℕ Refusal
hex_answer c short n = settled (Some (hex_text c short)) n

-- "the keyword: the first in alphabetical order with those channels, given only for alpha 255"
unfoldable pub keyword_of : Color → Option (List ℕ)
keyword_of c = if eqb c.alpha 255 then first_named keywords (rgb_of c) else None

unfoldable pub keyword_answer : Color → ℕ → Result ℕ Refusal
keyword_answer c n = settled (keyword_of c) n

-- "What is written reads back as the same colour": the bytes that were written, in what was lent, read by `color`
abbrev pub ReadsBack : Result ℕ Refusal → List ℕ → Color → Type 0
ReadsBack r lent c = MatchResult r (λ n. colors.from_str (take n lent) ≡ Ok c) (λ _. ⊤)

-- each channel is a byte, as the language has it of every `Color`
pub record Bytes (c : Color) : Type 0 where
  pub red : c.red < 256
  pub green : c.green < 256
  pub blue : c.blue < 256
  pub alpha : c.alpha < 256

-- a colour that no keyword has: a keyword's alpha is 255
abbrev pub NoKeyword : Color → Type 0
NoKeyword c = (c.alpha ≡ 255 → ⊥) ⊎ ((k : ℕ) → k < 147 → channels (nth k) ≡ rgb_of c → ⊥)
