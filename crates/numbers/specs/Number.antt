-- A number at a place of a text. What stands in quotation marks is the rule.
use Rattle.std.specs.Prelude.{ℕ, ◌+◌, ◌-◌, Bool, true, false, ◌||◌, not, cond, List, leb, ltb, eqb, length, get_or, drop, pos, Float, Result, Ok, Err, if◌then◌else◌}
use Rattle.std.specs.Float.{binary64}
use Rattle.std.specs.Float.Ieee.{of_int, mul, div, neg}
use Rattle.text_bytes.specs.Bytes.{is_digit, is_sign, is_space}
use Rattle.text_bytes.specs.Flow.{◌>>=◌}
use Rattle.text_bytes.specs.Scan.{scan}
use Rattle.text_bytes.specs.Words.{is_curr_byte_eq}
use Rattle.text_bytes.specs.Moves.{place}
use Rattle.text_bytes.specs.declared.Place.{Place}
use Rattle.stream.specs.Faults.{trouble_at, unexpected_end, parse_list_separator}
use Rattle.stream.specs.declared.Trouble.{Trouble}
use Rattle.stream.specs.declared.Trouble.TheVariants as T
use Rattle.numbers.specs.Digits.{value, cap}
use Rattle.numbers.specs.Powers.{power_of, hundred}
use Rattle.numbers.specs.Moves.{Number}
use Rattle.numbers.specs.declared.Scale.{Scale}
use Rattle.stream.specs.declared.Fault.{Fault}
use Rattle.stream.specs.declared.Read.{Read}

-- "a digit, sign or dot" (46)
abbrev pub starts_number : ℕ → Bool
starts_number b = is_digit b || (is_sign b || eqb b 46)

-- neither a dot (46) nor an `e` (101) or `E` (69): whether a dot or an exponent was written
abbrev pub is_plain : ℕ → Bool
is_plain b = not (eqb b 46 || (eqb b 101 || eqb b 69))

-- "an optional sign"
unfoldable pub after_sign : List ℕ → ℕ → ℕ
after_sign s i = cond (is_sign (get_or s i 0)) (i + 1) i

-- the digits before an exponent, and how many of them are a fraction
pub record Mantissa : Type 0 where
  pub ok : Bool
  pub value : ℕ
  pub fraction : ℕ
  pub dotted : Bool
  pub end : Place

pub record Exponent : Type 0 where
  pub ok : Bool
  pub minus : Bool
  pub value : ℕ
  pub written : Bool
  pub end : Place

-- "digits with an optional dot followed by at least one digit, or a dot followed by at least one digit": whether it is
-- so is `ok`, and `end` is where its longest beginning ends. "All digits before the exponent, joined, make M".
-- The first run of digits goes from `at` to `dot`, where a dot (46) may be.
unfoldable pub mantissa_dot : List ℕ → ℕ → ℕ → Mantissa
mantissa_dot s at dot =
    cond (eqb (get_or s dot 0) 46)
    (record {
      ok = ltb (dot + 1) (scan is_digit s (dot + 1));
      value = value (value 0 (drop at s)) (drop (dot + 1) s);
      fraction = scan is_digit s (dot + 1) - (dot + 1);
      dotted = true;
      end = place (scan is_digit s (dot + 1));
    })
    (record { ok = ltb at dot; value = value 0 (drop at s); fraction = 0; dotted = false; end = place dot })

unfoldable pub mantissa_at : List ℕ → ℕ → Mantissa
mantissa_at s at = mantissa_dot s at (scan is_digit s at)

-- "at least one digit" of an exponent
unfoldable pub exponent_from : List ℕ → ℕ → Bool → Exponent
exponent_from s from minus =
    record { ok = ltb from (scan is_digit s from); minus = minus; value = value 0 (drop from s); written = true; end = place (scan is_digit s from) }

abbrev pub no_exponent : ℕ → Exponent
no_exponent at = record { ok = true; minus = false; value = 0; written = false; end = place at }

-- "An `e` or `E` followed by `m` or `x` is no exponent; any other needs an optional sign and at least one digit."
-- The bytes are e 101, E 69, m 109, x 120 and - 45.
unfoldable pub exponent_at : List ℕ → ℕ → Exponent
exponent_at s at =
    cond (eqb (get_or s at 0) 101 || eqb (get_or s at 0) 69)
    (cond (eqb (get_or s (at + 1) 0) 109 || eqb (get_or s (at + 1) 0) 120) (no_exponent at)
    (exponent_from s (after_sign s (at + 1)) (eqb (get_or s (at + 1) 0) 45)))
    (no_exponent at)

-- "scale is exponent minus fraction digits": by how many places, and whether down
unfoldable pub scale_of : Bool → ℕ → ℕ → Scale
scale_of minus e f =
    cond minus (record { down = true; by = e + f })
    (cond (leb f e) (record { down = false; by = e - f }) (record { down = true; by = f - e }))

-- "The value is M as an f64 times, or divided by, a power of ten from a table ..; one rounded operation, and a minus sign negates last"
abbrev pub magnitude : ℕ → Bool → ℕ → Float
magnitude m down by = cond down (div binary64 (of_int binary64 (pos m)) (power_of by)) (mul binary64 (of_int binary64 (pos m)) (power_of by))

unfoldable pub signed : Bool → Float → Float
signed minus y = if minus then neg y else y

unfoldable pub value_of : Bool → ℕ → Bool → ℕ → Float
unfolding signed
value_of minus m down by = signed minus (magnitude m down by)

-- A number outside the domain is 10 for its form, 23 for M and 24 for the scale: what is refused goes from the number's first byte to `to`, which is the first byte that the
-- form cannot take, or the number's end where M or the scale is out of bounds
abbrev pub refused_at : Trouble → ℕ → ℕ → Fault
refused_at t start to = trouble_at t start start to

-- a scale "within -22 to 22"
unfoldable pub scaled : Bool → ℕ → Scale → Bool → ℕ → ℕ → Result (Read Number) Fault
scaled minus m sc whole start end =
    if leb sc.by 22 then Ok (record { value = record { value = value_of minus m sc.down sc.by; whole = whole; end = place end }; next = place end })
    else Err (refused_at T.ScaleOutOfRange start end)

-- "M, below 9,007,199,254,740,992; scale .. within -22 to 22": the form is judged first, then M, then the scale
unfoldable pub finished : Bool → Mantissa → Exponent → ℕ → Result (Read Number) Fault
finished minus m e start =
    if m.ok then
    (if e.ok then
    (if ltb m.value cap then scaled minus m.value (scale_of e.minus e.value m.fraction) (not (m.dotted || e.written)) start e.end.0
    else Err (refused_at T.TooLarge start e.end.0))
    else Err (refused_at T.WrongForm start e.end.0))
    else Err (refused_at T.WrongForm start m.end.0)

-- "an optional sign, digits .. An `e` or `E` ..": the number whose first byte is at `start`, minus (45) or not
unfoldable pub number_from : List ℕ → ℕ → Result (Read Number) Fault
number_from s start =
    let m = mantissa_at s (after_sign s start) in
    finished (eqb (get_or s start 0) 45) m (exponent_at s m.end.0) start

-- "Skip spaces. If the text has ended, or the next byte is not a digit, sign or dot: 9, and the place stays there." Where the text has ended it is 22
unfoldable pub parse_number : List ℕ → ℕ → Result (Read Number) Fault
parse_number s at =
    let start = scan is_space s at in
    if leb (length s) start then Err (refused_at T.TextEnded start start)
    else (if starts_number (get_or s start 0) then number_from s start else Err (refused_at T.WrongByte start start))

-- the hundredth of a number
abbrev pub percent : Number → Number
percent n = record { value = div binary64 n.value hundred; whole = n.whole; end = n.end }

-- ""Number or percent" also takes a `%` directly after and divides by 100." (37 is `%`)
unfoldable pub parse_number_or_percent : List ℕ → ℕ → Result (Read Number) Fault
parse_number_or_percent s at = do
  read ← parse_number s at
  Ok (if is_curr_byte_eq s read.next.0 37 then record { value = percent read.value; next = place (read.next.0 + 1) } else read)

-- "spaces, one optional comma" after what was read
abbrev pub after_item : List ℕ → ℕ → ℕ
after_item s i = parse_list_separator s (scan is_space s i)

-- an item of a list: what was read, and they are passed
abbrev pub item : {A : Type 0} → List ℕ → Read A → Read A
item s r = record { value = r.value; next = place (after_item s r.next.0) }

-- "A number in a list: 4 at the end of the text, else number, spaces, one optional comma."
unfoldable pub parse_list_number : List ℕ → ℕ → Result (Read Number) Fault
parse_list_number s at =
    if leb (length s) at then Err (unexpected_end s)
    else (do
      read ← parse_number s at
      Ok (record { value = read.value; next = place (after_item s read.next.0) }))

-- "All later numbers, and the hue, are list numbers: 4 at the end, spaces and one optional comma after them and their `%`."
unfoldable pub parse_list_number_or_percent : List ℕ → ℕ → Result (Read Number) Fault
parse_list_number_or_percent s at =
    if leb (length s) at then Err (unexpected_end s)
    else (do
      read ← parse_number_or_percent s at
      Ok (record { value = read.value; next = place (after_item s read.next.0) }))
