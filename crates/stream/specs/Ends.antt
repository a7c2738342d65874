-- Where a text goes on, where it ends, and what closes a value that was read.
use Rattle.std.specs.Prelude.{ℕ, List, leb, ltb, length, Result, Ok, Err, if◌then◌else◌}
use Rattle.text_bytes.specs.Bytes.{is_space}
use Rattle.text_bytes.specs.Flow.{◌>>=◌}
use Rattle.text_bytes.specs.Moves.{place}
use Rattle.text_bytes.specs.Scan.{scan}
use Rattle.stream.specs.Faults.{unexpected_end, unexpected_data, consume_byte}
use Rattle.stream.specs.declared.Fault.{Fault}
use Rattle.stream.specs.declared.Read.{Read}

-- 4 at the end of the text
abbrev pub goes_on : List ℕ → ℕ → Result (Unit {0}) Fault
goes_on s i = if leb (length s) i then Err (unexpected_end s) else Ok tt

-- 6 where bytes remain
abbrev pub whole : {A : Type 0} → List ℕ → Read A → Result A Fault
whole s r = if ltb r.next.0 (length s) then Err (unexpected_data s r.next.0) else Ok r.value

-- the spaces after it are passed
abbrev pub spaced : {A : Type 0} → List ℕ → Read A → Read A
spaced s r = record { value = r.value; next = place (scan is_space s r.next.0) }

-- spaces, and the byte c
abbrev pub close : {A : Type 0} → List ℕ → ℕ → ℕ → A → Result (Read A) Fault
close s i c a = do
  next ← consume_byte s (scan is_space s i) c
  Ok (record { value = a; next = next })
