-- What leads to a number's digits. Only contracts inside the crate speak of it.
use Rattle.std.specs.Prelude.{ℕ, List, eqb, get_or}
use Rattle.text_bytes.specs.Bytes.{is_space}
use Rattle.text_bytes.specs.Moves.{place}
use Rattle.text_bytes.specs.Scan.{scan}
use Rattle.numbers.specs.Number.{after_sign}
use Rattle.fast_numbers.specs.declared.Lead.{Lead}

-- spaces and a sign, minus (45) or not
unfoldable pub lead_at : List ℕ → ℕ → Lead
lead_at s at = let start = scan is_space s at in record { from = place (after_sign s start); minus = eqb (get_or s start 0) 45 }
