-- An answer that counts, as a row of 24 numbers: laid out as in `records`, with the count for a result.
use Rattle.std.specs.Prelude.{ℕ, List, [], ◌∷◌, Result}
use Rattle.stream.specs.declared.Refusal.{Refusal}
use Rattle.records.specs.Records.{row}
use Rattle.set_back.specs.Paper.{paper}

-- a colour that was set back: 9 the bytes written
unfoldable pub set_back_record : Result ℕ Refusal → List ℕ
set_back_record a = row (paper a).refusal 0 0 ((paper a).count ∷ [])
