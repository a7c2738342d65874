-- The table of the code, beside the standard's.
use Rattle.std.specs.Prelude.{ℕ, List, get_or}
use Rattle.std.specs.Borrow.{Bor}
use Rattle.names.specs.Keywords.{Keyword, entry, keywords}

-- entry k of the standard's table
abbrev pub nth : ℕ → Keyword
nth k = get_or keywords k (entry "" 0 0 0)

-- an entry as the code has it
abbrev pub Entry : Type 0
Entry = Bor (List ℕ) × ℕ × ℕ × ℕ

abbrev pub entry_of : Entry → Keyword
entry_of e = record { name = e.0.now; red = e.1; green = e.2; blue = e.3 }
