-- A text with a length and more after it. Only contracts inside the crate speak of it.
use Rattle.std.specs.Prelude.{ℕ, List, Result, Ok, Err}
use Rattle.stream.specs.Faults.{unexpected_data}
use Rattle.stream.specs.Refusals.{refusal_of, admit_text}
use Rattle.stream.specs.declared.Refusal.{Refusal}

-- why the text may not be read, else that bytes are left from i on
abbrev pub refused_or : Result (Unit {0}) Refusal → Refusal → Refusal
refused_or (Ok u) e = e
refused_or (Err x) e = x

unfoldable pub left : List ℕ → ℕ → Refusal
left s i = refused_or (admit_text s) (refusal_of s (unexpected_data s i))
