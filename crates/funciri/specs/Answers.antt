-- Links "as whole texts".
use Rattle.std.specs.Prelude.{ℕ, List, ltb, length, Result, Ok, Err, if◌then◌else◌}
use Rattle.text_bytes.specs.Bytes.{is_space}
use Rattle.text_bytes.specs.Flow.{◌>>=◌}
use Rattle.text_bytes.specs.Scan.{scan}
use Rattle.text_bytes.specs.declared.Part.{Part}
use Rattle.stream.specs.Faults.{unexpected_data}
use Rattle.stream.specs.Refusals.{at_edge, admit_text}
use Rattle.stream.specs.declared.Fault.{Fault}
use Rattle.stream.specs.declared.Read.{Read}
use Rattle.stream.specs.declared.Refusal.{Refusal}
use Rattle.funciri.specs.Link.{parse_iri, parse_func_iri}

-- "as whole texts, spaces, then 6"
unfoldable pub whole_link : List ℕ → Result (Read Part) Fault → Result Part Fault
whole_link s read = do
  link ← read
  let end = scan is_space s link.next.0
  if ltb end (length s) then Err (unexpected_data s end) else Ok link.value

-- "Order: 1, 2, 3, then the first that the reading below meets"
unfoldable pub iri_from_str : List ℕ → Result Part Refusal
iri_from_str s = do
  _ ← admit_text s
  at_edge s (whole_link s (parse_iri s 0))

unfoldable pub func_iri_from_str : List ℕ → Result Part Refusal
func_iri_from_str s = do
  _ ← admit_text s
  at_edge s (whole_link s (parse_func_iri s 0))
