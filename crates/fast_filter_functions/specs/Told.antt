-- What is told at once of a filter list. Only inner contracts speak of it.
use Rattle.std.specs.Prelude.{ℕ, ◌+◌, ◌-◌, List, ltb, get_or, drop, Float, Result, Ok, Err, Option, Some, None, if◌then◌else◌}
use Rattle.std.specs.Result.{result_ok}
use Rattle.text_bytes.specs.Bytes.{within, is_space, is_url_byte}
use Rattle.text_bytes.specs.Moves.{place}
use Rattle.text_bytes.specs.Scan.{scan}
use Rattle.text_bytes.specs.Words.{ascii, starts_with, is_curr_byte_eq}
use Rattle.stream.specs.declared.Fault.{Fault}
use Rattle.stream.specs.declared.Read.{Read}
use Rattle.stream.specs.Steps.{edged}
use Rattle.floats.specs.Floats.{sign_of}
use Rattle.numbers.specs.Moves.{Number}
use Rattle.numbers.specs.Number.{parse_number, parse_number_or_percent}
use Rattle.length.specs.Lengths.{parse_length}
use Rattle.length.specs.declared.Length.{Length}
use Rattle.angle.specs.declared.AngleUnit.TheVariants as W
use Rattle.color.specs.Color.{parse_color}
use Rattle.color.specs.declared.Color.{Color}
use Rattle.filter_functions.specs.Filters.{listed, parse_step}
use Rattle.filter_functions.specs.Values.{is_percent, plain_value}
use Rattle.filter_functions.specs.declared.FilterValue.{FilterValue}
use Rattle.filter_functions.specs.declared.FilterValue.TheVariants as G
use Rattle.filter_functions.specs.declared.Listed.{Listed}
use Rattle.filter_functions.specs.declared.Listed.TheVariants as I
use Rattle.filter_functions.specs.declared.Plain.{Plain}
use Rattle.filter_functions.specs.declared.Shadow.{Shadow}
use Rattle.records.specs.Records.{filter_record}
use Rattle.fast_numbers.specs.Told.{told_number}

-- `?` of what may be untold
abbrev pub and_then : {A B : Type 0} → Option A → (A → Option B) → Option B
and_then None f = None
and_then (Some a) f = f a

-- the row of the step at i where it is told, and else what was lent
abbrev pub row_or : Option (Unit {0}) → List ℕ → ℕ → List ℕ → List ℕ
row_or None s i lent = lent
row_or (Some u) s i lent = filter_record (edged s (parse_step s i))

-- a value that is told up to its closing bracket (41) stands for x, if that stands there
abbrev pub closed_or : List ℕ → Result (Read Listed) Fault → Option (Read FilterValue) → Result (Read Listed) Fault
closed_or s x None = x
closed_or s x (Some r) = if is_curr_byte_eq s r.next.0 41 then listed (I.Value r.value) (scan is_space s (r.next.0 + 1)) else x

-- a length that is no percentage
unfoldable pub offset_at : List ℕ → ℕ → Option (Read Length)
offset_at s i =
    and_then (result_ok (parse_length s i)) (λ r. if is_percent r.value.value.unit then None else Some (record { value = r.value.value; next = r.next }))

-- nor negative
unfoldable pub radius_at : List ℕ → ℕ → Option (Read Length)
radius_at s i = and_then (offset_at s i) (λ r. if sign_of r.value.number then None else Some r)

unfoldable pub blur_at : List ℕ → ℕ → Option (Read FilterValue)
blur_at s i = and_then (radius_at s i) (λ r. Some (record { value = G.Blur r.value; next = r.next }))

-- a turn by degrees
unfoldable pub degrees_at : List ℕ → ℕ → Option (Read FilterValue)
degrees_at s i =
    and_then (told_number (parse_number s i))
    (λ n. if starts_with (ascii "deg") (drop n.end.0 s) then Some (record { value = G.HueRotate (record { number = n.value; unit = W.Degrees }); next = place (n.end.0 + 3) }) else None)

-- a number, or the hundredth of a percentage
abbrev pub told_value : Result (Read Number) Fault → Option (Read Float)
told_value (Ok r) = Some (record { value = r.value.value; next = r.next })
told_value (Err e) = None

unfoldable pub plain_at : List ℕ → ℕ → Plain → Option (Read FilterValue)
plain_at s i f =
    and_then (told_value (parse_number_or_percent s i)) (λ n. if sign_of n.value then None else Some (record { value = plain_value f n.value; next = n.next }))

-- a link, the `#` before it passed
unfoldable pub url_at : List ℕ → ℕ → Option (Read FilterValue)
url_at s i =
    let e = scan is_url_byte s i in
    if ltb i e then Some (record { value = G.Url (record { start = place i; len = e - i }); next = place e }) else None

-- a shadow's lengths, and its colour
unfoldable pub lengths_at : List ℕ → ℕ → Option Color → Option (Read Shadow)
lengths_at s i c =
    and_then (offset_at s i) (λ dx.
    and_then (offset_at s dx.next.0) (λ dy.
    and_then (radius_at s dy.next.0) (λ deviation.
    Some (record { value = record { color = c; dx = dx.value; dy = dy.value; deviation = deviation.value }; next = deviation.next }))))

abbrev pub colored : Read Shadow → Read Color → Read Shadow
colored r c = record { value = record { color = Some c.value; dx = r.value.dx; dy = r.value.dy; deviation = r.value.deviation }; next = c.next }

-- lengths, and a colour that may follow them
unfoldable pub lengths_first : List ℕ → ℕ → Option (Read Shadow)
lengths_first s i =
    and_then (lengths_at s i None) (λ r.
    if is_curr_byte_eq s r.next.0 41 then Some r else and_then (result_ok (parse_color s r.next.0)) (λ c. Some (colored r c)))

-- a colour, and the lengths after it
unfoldable pub color_first : List ℕ → ℕ → Option (Read Shadow)
color_first s i = and_then (result_ok (parse_color s i)) (λ c. lengths_at s c.next.0 (Some c.value))

-- no colour begins with a byte between `)` (41) and `A` (65)
unfoldable pub shadow_at : List ℕ → ℕ → Option (Read FilterValue)
shadow_at s i =
    and_then (if within 42 64 (get_or s i 0) then lengths_first s i else color_first s i) (λ r. Some (record { value = G.DropShadow r.value; next = r.next }))
