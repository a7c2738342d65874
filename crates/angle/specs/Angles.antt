-- An angle at a place of a text, and its degrees. What stands in quotation marks is the rule.
use Rattle.std.specs.Prelude.{ℕ, ◌+◌, List, ltb, Float, length, drop, Result, Ok, Err, Option, Some, None, if◌then◌else◌}
use Rattle.std.specs.Float.{binary64}
use Rattle.std.specs.Float.Ieee.{mul, div, of_bits}
use Rattle.text_bytes.specs.Flow.{◌>>=◌}
use Rattle.text_bytes.specs.Words.{ascii, starts_with}
use Rattle.text_bytes.specs.Moves.{place}
use Rattle.text_bytes.specs.declared.Place.{Place}
use Rattle.stream.specs.Faults.{unexpected_data}
use Rattle.stream.specs.Refusals.{at_edge, admit_text}
use Rattle.stream.specs.declared.Fault.{Fault}
use Rattle.stream.specs.declared.Refusal.{Refusal}
use Rattle.stream.specs.declared.Read.{Read}
use Rattle.numbers.specs.Moves.{Number}
use Rattle.numbers.specs.Number.{parse_number}
use Rattle.numbers.specs.declared.Written.{Written}
use Rattle.angle.specs.declared.AngleUnit.{AngleUnit}
use Rattle.angle.specs.declared.AngleUnit.TheVariants as U
use Rattle.angle.specs.declared.Angle.{Angle}

-- "Degrees: gradians n*180/200 left to right; turns n*360; radians n times the f64 57.29577951308232."
-- The bits are those of 180.0 and 200.0, of 57.29577951308232 and of 360.0.
abbrev pub degrees_of : AngleUnit → Float → Float
degrees_of U.Degrees n = n
degrees_of U.Gradians n = div binary64 (mul binary64 n (of_bits binary64 0x4066_8000_0000_0000)) (of_bits binary64 0x4069_0000_0000_0000)
degrees_of U.Radians n = mul binary64 n (of_bits binary64 0x404c_a5dc_1a63_c1f8)
degrees_of U.Turns n = mul binary64 n (of_bits binary64 0x4076_8000_0000_0000)

abbrev pub to_degrees : Angle → Float
to_degrees a = degrees_of a.unit a.number

abbrev unit_read : AngleUnit → ℕ → Option (Read AngleUnit)
unit_read u i = Some (record { value = u; next = place i })

-- "deg, grad, rad, turn or none"
unfoldable pub parse_unit : List ℕ → ℕ → Option (Read AngleUnit)
parse_unit s i =
    if starts_with (ascii "deg") (drop i s) then unit_read U.Degrees (i + 3)
    else (if starts_with (ascii "grad") (drop i s) then unit_read U.Gradians (i + 4)
    else (if starts_with (ascii "rad") (drop i s) then unit_read U.Radians (i + 3)
    else (if starts_with (ascii "turn") (drop i s) then unit_read U.Turns (i + 4) else None)))

-- "none (degrees)": then reading goes on where the number ended
abbrev pub or_degrees : Place → Option (Read AngleUnit) → Read AngleUnit
or_degrees p None = record { value = U.Degrees; next = p }
or_degrees p (Some u) = u

abbrev pub with_unit : Number → Read AngleUnit → Read (Written Angle)
with_unit n u = record { value = record { value = record { number = n.value; unit = u.value }; whole = n.whole; end = n.end }; next = u.next }

-- "an angle a number and deg, grad, rad, turn or none (degrees)"
unfoldable pub parse_angle : List ℕ → ℕ → Result (Read (Written Angle)) Fault
parse_angle s at = do
  read ← parse_number s at
  Ok (with_unit read.value (or_degrees read.next (parse_unit s read.next.0)))

-- "Whole texts allow leading spaces, no trailing ones (6)."
unfoldable pub parse_whole : List ℕ → Result (Written Angle) Fault
parse_whole s = do
  read ← parse_angle s 0
  if ltb read.next.0 (length s) then Err (unexpected_data s read.next.0) else Ok read.value

-- the same at the edge: "Order: 1, 2, 3, then the first that the reading below meets."
unfoldable pub from_str : List ℕ → Result (Written Angle) Refusal
from_str s = do
  _ ← admit_text s
  at_edge s (parse_whole s)
