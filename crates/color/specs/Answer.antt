-- The outside call.
use Rattle.std.specs.Prelude.{ℕ, List, Result, Ok}
use Rattle.text_bytes.specs.Flow.{◌>>=◌}
use Rattle.stream.specs.Refusals.{at_edge, admit_text}
use Rattle.stream.specs.declared.Refusal.{Refusal}
use Rattle.color.specs.Color.{parse_color_text}
use Rattle.color.specs.declared.Color.{Color}

-- "Order: 1, 2, .., then the first that the reading below meets."
unfoldable pub from_str : List ℕ → Result Color Refusal
from_str s = do
  _ ← admit_text s
  read ← at_edge s (parse_color_text s)
  Ok read.value
