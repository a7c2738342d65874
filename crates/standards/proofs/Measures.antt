-- SVG 2's lengths and angles are what the readers read; an angle's degrees are the document's, step by step in doubles.
use Prim.Native.Nat.{ℕ, ◌+◌, ◌^◌, ◌≤◌}
use mathlib.Core.Bool.{false}
use mathlib.Core.List.{List, [], ◌++◌, append_assoc, append-nil}
use mathlib.Core.Path.{◌≡◌, refl}
use native.Mathlib.Nat.{add-zero}
use native.Mathlib.Omega.{arith}
use borrow.Author.Tests.{le-ltb}
use lib.Dec.{ltb}
use lib.Ieee.{Float, binary64, round, of_bits}
use lib.ListN.{length, drop, length-append, length-map}
use Rattle.text_bytes.specs.Moves.{place}
use Rattle.text_bytes.specs.Words.{starts_with}
use Rattle.numbers.specs.Number.{parse_number}
use Rattle.length.specs.Lengths as LS
use Rattle.length.specs.Lengths.{unit_at, unit_width, parse_length}
use Rattle.angle.specs.Angles as AS
use Rattle.angle.specs.Angles.{parse_unit, or_degrees, parse_angle, to_degrees}
use Rattle.std.specs.Prelude.{Ok}
use Rattle.standards.specs.Ieee754.{double}
use Rattle.standards.specs.CssValues3.{Blank, blanks, number, deg, grad, rad, turn}
use Rattle.standards.specs.Domain.{InDomain}
use Rattle.standards.specs.Svg2 as S
use Rattle.standards.specs.Svg2.{unitless, length_unit, length_text, unmarked, angle_unit, angle_text, in_degrees, ratio, radian_below, radian_above}
use Rattle.standards.specs.Answers.{Ends, Stops, number_of, angle_named, unit_of, length_written, angle_unit_of, angle_written, read_on}
use Rattle.standards.proofs.Reading.{ends_percent, NumbersRead}
use Rattle.standards.proofs.Runs.{Ascii, ascii_append, ascii_admitted, blanks_ascii, number_ascii}
use Rattle.standards.proofs.Cursors.{drop_past}
use Rattle.standards.proofs.Units.{unit_ends, angle_ends, unit_there, angle_there, unit_width_is, unit_ascii, angle_unit_ascii, stops_end, no_unit, no_angle_unit}

-- what is read after white space up to the end leaves nothing
at_end : (l : List Blank) (w : List ℕ) → ltb (length l + length w) (length (blanks l ++ w)) ≡ false
at_end l w = le-ltb (length l + length w) (length (blanks l ++ w)) (simp (length-append, length-map) (omega arith))

length_unit_ends : (u : S.LengthUnit) (rest : List ℕ) → (u ≡ unitless → Stops rest) → Ends (length_unit u ++ rest)
unfolding length_unit
length_unit_ends S.unitless rest h = (h refl).ends
length_unit_ends (S.unit u) rest h = unit_ends u rest
length_unit_ends S.percent rest h = ends_percent rest

length_unit_read : (s : List ℕ) (i : ℕ) (u : S.LengthUnit) (rest : List ℕ) → (u ≡ unitless → Stops rest) → drop i s ≡ length_unit u ++ rest → unit_at s i ≡ unit_of u
unfolding unit_at unit_of length_unit starts_with
length_unit_read s i S.unitless rest h e = no_unit s i rest (h refl) e
length_unit_read s i (S.unit u) rest h e = unit_there s i u rest e
length_unit_read s i S.percent rest h e = simp e

width_is : (u : S.LengthUnit) → unit_width (unit_of u) ≡ length (length_unit u)
unfolding unit_width unit_of length_unit
width_is S.unitless = refl
width_is (S.unit u) = unit_width_is u
width_is S.percent = refl

marked_ascii : (u : S.LengthUnit) → Ascii (length_unit u)
unfolding length_unit
marked_ascii S.unitless = refl
marked_ascii (S.unit u) = unit_ascii u
marked_ascii S.percent = refl

pub length_ascii : (t : S.Length) → Ascii (length_text t)
unfolding length_text
length_ascii t = ascii_append (number t.number_part) (length_unit t.unit_part) (number_ascii t.number_part) (marked_ascii t.unit_part)

module _ (r : NumbersRead) (l : List Blank) where
  -- a length, after white space
  pub length_read : (t : S.Length) (rest : List ℕ) → InDomain t.number_part → (t.unit_part ≡ unitless → Stops rest)
      → parse_length (blanks l ++ (length_text t ++ rest)) 0
      ≡ read_on (length_written t (length l + length (number t.number_part))) (place (length l + length (length_text t)))
  unfolding parse_length length_text
  length_read t rest d h =
      let n = t.number_part in
      let u = t.unit_part in
      let i = length l + length (number n) in
      let s = blanks l ++ (number n ++ (length_unit u ++ rest)) in
      let a : parse_number s 0 ≡ read_on (number_of n i) (place i) = r.number_front l n (length_unit u ++ rest) d (length_unit_ends u rest h) in
      let b : unit_at s i ≡ unit_of u = length_unit_read s i u rest h (drop_past l (number n) (length_unit u ++ rest)) in
      let e : i + length (length_unit u) ≡ length l + (length (number n) + length (length_unit u)) = omega arith in
      simp (append_assoc, a, b, width_is, length-append, e)

  -- and as a whole text
  pub length_whole : (t : S.Length) → InDomain t.number_part → length (blanks l ++ length_text t) ≤ 4096 → LS.from_str (blanks l ++ length_text t)
      ≡ Ok (length_written t (length l + length (number t.number_part)))
  unfolding LS.from_str LS.parse_whole
  length_whole t d h =
      let s = blanks l ++ length_text t in
      let a : parse_length s 0 ≡ read_on (length_written t (length l + length (number t.number_part))) (place (length l + length (length_text t)))
      = rw append-nil at (length_read t [] d (λ e. stops_end)) in
      let b : ltb (length l + length (length_text t)) (length s) ≡ false = at_end l (length_text t) in
      simp (ascii_admitted s (ascii_append (blanks l) (length_text t) (blanks_ascii l) (length_ascii t)) h, a, b)

angle_unit_ends : (u : S.AngleUnit) (rest : List ℕ) → (u ≡ unmarked → Stops rest) → Ends (angle_unit u ++ rest)
unfolding angle_unit
angle_unit_ends S.unmarked rest h = (h refl).ends
angle_unit_ends (S.marked u) rest h = angle_ends u rest

-- the unit that is read, or degrees
angle_unit_read : (s : List ℕ) (i : ℕ) (u : S.AngleUnit) (rest : List ℕ) → (u ≡ unmarked → Stops rest) → drop i s ≡ angle_unit u ++ rest
    → or_degrees (place i) (parse_unit s i) ≡ record { value = angle_unit_of u; next = place (i + length (angle_unit u)) }
unfolding angle_unit_of angle_unit
angle_unit_read s i S.unmarked rest h e = simp (no_angle_unit s i rest (h refl) e, add-zero)
angle_unit_read s i (S.marked u) rest h e = simp (angle_there s i u rest e)

turned_ascii : (u : S.AngleUnit) → Ascii (angle_unit u)
unfolding angle_unit
turned_ascii S.unmarked = refl
turned_ascii (S.marked u) = angle_unit_ascii u

angle_ascii : (t : S.Angle) → Ascii (angle_text t)
unfolding angle_text
angle_ascii t = ascii_append (number t.number_part) (angle_unit t.unit_part) (number_ascii t.number_part) (turned_ascii t.unit_part)

module _ (r : NumbersRead) (l : List Blank) where
  -- an angle, after white space
  pub angle_read : (t : S.Angle) (rest : List ℕ) → InDomain t.number_part → (t.unit_part ≡ unmarked → Stops rest)
      → parse_angle (blanks l ++ (angle_text t ++ rest)) 0
      ≡ read_on (angle_written t (length l + length (number t.number_part))) (place (length l + length (angle_text t)))
  unfolding parse_angle angle_text
  angle_read t rest d h =
      let n = t.number_part in
      let u = t.unit_part in
      let i = length l + length (number n) in
      let s = blanks l ++ (number n ++ (angle_unit u ++ rest)) in
      let a : parse_number s 0 ≡ read_on (number_of n i) (place i) = r.number_front l n (angle_unit u ++ rest) d (angle_unit_ends u rest h) in
      let b = angle_unit_read s i u rest h (drop_past l (number n) (angle_unit u ++ rest)) in
      let e : i + length (angle_unit u) ≡ length l + (length (number n) + length (angle_unit u)) = omega arith in
      simp (append_assoc, a, b, length-append, e)

  -- and as a whole text
  pub angle_whole : (t : S.Angle) → InDomain t.number_part → length (blanks l ++ angle_text t) ≤ 4096 → AS.from_str (blanks l ++ angle_text t)
      ≡ Ok (angle_written t (length l + length (number t.number_part)))
  unfolding AS.from_str AS.parse_whole
  angle_whole t d h =
      let s = blanks l ++ angle_text t in
      let a : parse_angle s 0 ≡ read_on (angle_written t (length l + length (number t.number_part))) (place (length l + length (angle_text t)))
      = rw append-nil at (angle_read t [] d (λ e. stops_end)) in
      let b : ltb (length l + length (angle_text t)) (length s) ≡ false = at_end l (angle_text t) in
      simp (ascii_admitted s (ascii_append (blanks l) (angle_text t) (blanks_ascii l) (angle_ascii t)) h, a, b)

-- the reader's 57.29577951308232 is the double nearest to 180 / π
abbrev radian : Float
radian = of_bits binary64 0x404c_a5dc_1a63_c1f8

pub radian_below_is : double radian_below ≡ radian
unfolding double round of_bits
radian_below_is = refl

pub radian_above_is : double radian_above ≡ radian
unfolding double round of_bits
radian_above_is = refl

pub radian_written : double (ratio 5729577951308232 (10 ^ 14)) ≡ radian
unfolding double round of_bits
radian_written = refl

-- so an angle's degrees are the document's
pub degrees_are : (u : S.AngleUnit) (n : Float) → to_degrees (record { number = n; unit = angle_unit_of u }) ≡ in_degrees u n
unfolding in_degrees angle_unit_of angle_named double round of_bits
degrees_are S.unmarked n = refl
degrees_are (S.marked deg) n = refl
degrees_are (S.marked grad) n = refl
degrees_are (S.marked rad) n = refl
degrees_are (S.marked turn) n = refl
