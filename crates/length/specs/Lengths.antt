-- A length at a place of a text. What stands in quotation marks is the rule.
use Rattle.std.specs.Prelude.{ℕ, ◌+◌, List, leb, ltb, length, drop, Result, Ok, Err, Option, Some, None, if◌then◌else◌}
use Rattle.text_bytes.specs.Flow.{◌>>=◌}
use Rattle.text_bytes.specs.Words.{ascii, starts_with}
use Rattle.text_bytes.specs.Moves.{place}
use Rattle.text_bytes.specs.declared.Place.{Place}
use Rattle.stream.specs.Faults.{unexpected_end, unexpected_data}
use Rattle.stream.specs.Refusals.{at_edge, admit_text, admit_place}
use Rattle.stream.specs.Steps.{placed, edged}
use Rattle.stream.specs.declared.Fault.{Fault}
use Rattle.stream.specs.declared.Refusal.{Refusal}
use Rattle.stream.specs.declared.Read.{Read}
use Rattle.stream.specs.declared.Step.{Step}
use Rattle.numbers.specs.Moves.{Number}
use Rattle.numbers.specs.Number.{parse_number, after_item}
use Rattle.numbers.specs.declared.Written.{Written}
use Rattle.length.specs.declared.LengthUnit.{LengthUnit}
use Rattle.length.specs.declared.LengthUnit.TheVariants as U
use Rattle.length.specs.declared.Length.{Length}

-- "a lower-case unit (`%`, em, ex, px, in, cm, mm, pt, pc) or none"
unfoldable pub unit_at : List ℕ → ℕ → LengthUnit
unit_at s i =
    if starts_with (ascii "%") (drop i s) then U.Percent
    else (if starts_with (ascii "em") (drop i s) then U.Em
    else (if starts_with (ascii "ex") (drop i s) then U.Ex
    else (if starts_with (ascii "px") (drop i s) then U.Px
    else (if starts_with (ascii "in") (drop i s) then U.In
    else (if starts_with (ascii "cm") (drop i s) then U.Cm
    else (if starts_with (ascii "mm") (drop i s) then U.Mm
    else (if starts_with (ascii "pt") (drop i s) then U.Pt
    else (if starts_with (ascii "pc") (drop i s) then U.Pc else U.None))))))))

-- how many bytes a unit's word has
unfoldable pub unit_width : LengthUnit → ℕ
unit_width U.None = 0
unit_width U.Percent = 1
unit_width u = 2

abbrev pub with_unit : Number → LengthUnit → Written Length
with_unit n u = record { value = record { number = n.value; unit = u }; whole = n.whole; end = n.end }

-- "A length is a number and a lower-case unit .. or none"
unfoldable pub parse_length : List ℕ → ℕ → Result (Read (Written Length)) Fault
parse_length s at = do
  read ← parse_number s at
  Ok (let u = unit_at s read.next.0 in record { value = with_unit read.value u; next = place (read.next.0 + unit_width u) })

-- A length of a list, as a number of one: "4 at the end of the text, else number, spaces, one optional comma"
unfoldable pub parse_list_length : List ℕ → ℕ → Result (Read (Written Length)) Fault
parse_list_length s at =
    if leb (length s) at then Err (unexpected_end s)
    else (do
      read ← parse_length s at
      Ok (record { value = read.value; next = place (after_item s read.next.0) }))

-- "Whole texts allow leading spaces, no trailing ones (6)."
unfoldable pub parse_whole : List ℕ → Result (Written Length) Fault
parse_whole s = do
  read ← parse_length s 0
  if ltb read.next.0 (length s) then Err (unexpected_data s read.next.0) else Ok read.value

-- the same at the edge: "Order: 1, 2, 3, then the first that the reading below meets."
unfoldable pub from_str : List ℕ → Result (Written Length) Refusal
from_str s = do
  _ ← admit_text s
  at_edge s (parse_whole s)

-- a list has nothing left at the end of the text, else a length
unfoldable pub parse_step : List ℕ → ℕ → Result (Read (Option (Written Length))) Fault
parse_step s i =
    if leb (length s) i then Ok (record { value = None; next = place (length s) })
    else (do
      read ← parse_list_length s i
      Ok (record { value = Some read.value; next = read.next }))

-- a step of a list of lengths
abbrev pub LengthStep : Type 0
LengthStep = Step (Option (Written Length))

abbrev pub value_step : Written Length → Place → LengthStep
value_step w p = record { item = Ok (Some w); place = p }

abbrev pub end_step : Place → LengthStep
end_step p = record { item = Ok None; place = p }

-- "A list step refused by 1 to 3 gives its list place back as it came; refused by 4 to 15, or with nothing left, it gives the end of the text." 22 to 24 are as 9 and 10
unfoldable pub next_length : List ℕ → ℕ → LengthStep
next_length s i = placed i (admit_place s i) (edged s (parse_step s i))
