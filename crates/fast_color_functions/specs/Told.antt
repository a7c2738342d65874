-- What is read after a bracket, and numbers without their refusals. Only contracts inside the crate speak of it.
use Rattle.std.specs.Prelude.{ℕ, ◌+◌, min, ◌&&◌, ◌||◌, false, List, eqb, ltb, get_or, drop, Float, Result, Ok, Err, Option, Some, None, if◌then◌else◌}
use Rattle.text_bytes.specs.Bytes.{is_digit, is_space}
use Rattle.text_bytes.specs.Flow.{◌>>=◌}
use Rattle.text_bytes.specs.Moves.{place}
use Rattle.text_bytes.specs.Scan.{scan}
use Rattle.stream.specs.declared.Fault.{Fault}
use Rattle.stream.specs.declared.Read.{Read}
use Rattle.numbers.specs.Digits.{value, cap}
use Rattle.numbers.specs.Moves.{Number}
use Rattle.numbers.specs.Number.{value_of, parse_number, parse_list_number}
use Rattle.color.specs.Color.{rgb_rest, hsl_rest}
use Rattle.color.specs.declared.Color.{Color}

-- of `rgb` or `rgba`
unfoldable pub rgb_numbers : List ℕ → ℕ → Result (Read Color) Fault
rgb_numbers s at = do
  red ← parse_number s at
  rgb_rest s red.next.0 red.value.value

-- of `hsl` or `hsla`
unfoldable pub hsl_numbers : List ℕ → ℕ → Result (Read Color) Fault
hsl_numbers s at = do
  hue ← parse_list_number s at
  hsl_rest s hue.next.0 hue.value.value

-- a number of a list: its value, and where reading goes on
abbrev pub told_item : Result (Read Number) Fault → Option (Read Float)
told_item (Ok r) = Some (record { value = r.value.value; next = r.next })
told_item (Err e) = None

-- digits directly before a comma (44) or the bracket (41)
unfoldable pub whole_at : List ℕ → ℕ → Option (Read Float)
whole_at s at =
    let start = scan is_space s at in
    let end = scan is_digit s start in
    let n = min cap (value 0 (drop start s)) in
    let stop = get_or s end 0 in
    if ltb start end && (ltb n cap && (eqb stop 44 || eqb stop 41))
    then Some (record { value = value_of false n false 0; next = place (if eqb stop 44 then end + 1 else end) }) else None
