-- A number without its refusal: what the plain reader read, or that it read none.
use Rattle.std.specs.Prelude.{Result, Ok, Err, Option, Some, None}
use Rattle.stream.specs.declared.Fault.{Fault}
use Rattle.stream.specs.declared.Read.{Read}
use Rattle.numbers.specs.Moves.{Number}

-- its value, how it was written, and where its text ends and reading goes on
unfoldable pub told_number : Result (Read Number) Fault → Option Number
told_number (Ok r) = Some (record { value = r.value.value; whole = r.value.whole; end = r.next })
told_number (Err e) = None
