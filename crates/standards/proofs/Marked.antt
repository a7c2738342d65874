-- Numbers, lengths, amounts and angles of CSS at a place of a text, as the readers answer them.
use Prim.Native.Nat.{ℕ, ◌+◌, ◌*◌}
use mathlib.Core.Bool.{Bool, true, false}
use mathlib.Core.List.{List, [], ◌∷◌, ◌++◌, append_assoc}
use mathlib.Core.Path.{◌≡◌, refl, sym, ◌∙◌}
use native.Mathlib.Nat.{zero-mul}
use native.Mathlib.Omega.{arith}
use lib.Dec.{lit≤}
use lib.Ieee.{binary64, round, units, odd, eq, of_bits}
use lib.Ieee.Scale.{round_same}
use lib.ListN.{length, get_or, length-append}
use Rattle.text_bytes.specs.Bytes.{within, is_space, is_ascii_ident}
use Rattle.text_bytes.specs.Moves.{place}
use Rattle.floats.specs.Floats.{d0, sign_of}
use Rattle.numbers.specs.Number.{parse_number, parse_number_or_percent}
use Rattle.numbers.specs.Moves as N
use Rattle.numbers.specs.Powers.{hundred}
use Rattle.length.specs.Lengths.{unit_at, unit_width, parse_length}
use Rattle.filter_functions.specs.Values.{is_percent, parse_filter_angle}
use Rattle.std.specs.Prelude.{Result}
use Rattle.stream.specs.declared.Fault.{Fault}
use Rattle.stream.specs.declared.Read.{Read}
use Rattle.standards.specs.Ieee754.{double}
use Rattle.standards.specs.CssValues3.{Blank, blank, blanks, space, tab, line_feed, return, is_minus, joined, Number, number, exactly, is_integer, angle_unit}
use Rattle.standards.specs.Domain.{InDomain, amount_number, angle_number}
use Rattle.standards.specs.FilterEffects1 as E
use Rattle.standards.specs.FilterEffects1.{LengthMark, unmarked, marked, length_mark, CssLength, css_length, measure}
use Rattle.standards.specs.Answers.{Ends, Stops, number_of, angle_named, unit_marked, measure_of, turn_of, read_on}
use Rattle.standards.proofs.Doubles.{under_pos}
use Rattle.standards.proofs.Signs.{double_sign, hundredth_sign}
use Rattle.standards.proofs.Reading.{ends_bracket, ends_blank, NumbersRead, number_there, percent_there}
use Rattle.standards.proofs.Runs.{no_space, First, number_first}
use Rattle.standards.proofs.Units.{unit_ends, angle_ends, unit_there, angle_there, unit_width_is, unit_no_percent, no_unit, no_angle_unit}
use Rattle.standards.proofs.Cursors.{At, at_step, at_drop, at_still, curr_not}

pub positive : (t : Number) → is_minus t.signed ≡ false → sign_of (double (exactly t)) ≡ false
unfolding exactly
positive t e = double_sign (exactly t) ∙ e

pub hundred_is : E.hundred ≡ hundred
unfolding E.hundred double round of_bits
hundred_is = refl

pub nought_is : E.nought ≡ d0
unfolding E.nought double round of_bits
nought_is = refl

zero_rounded : (s : Bool) → eq (round binary64 s 0 1) d0 ≡ true
unfolding eq round units odd of_bits
zero_rounded true = refl
zero_rounded false = refl

-- a number whose digits are all 0 is zero, of either sign
pub zero_is : (n : Number) → joined n.digits_of ≡ 0 → eq (double (exactly n)) d0 ≡ true
unfolding double exactly
zero_is n z =
    let s = is_minus n.signed in
    let o : (exactly n).over ≡ 0 = rw z (zero-mul _) in
    let e : 0 * 1 ≡ 0 * (exactly n).under = sym (zero-mul (exactly n).under) in
    rw (o, round_same binary64 s 0 (exactly n).under 0 1 (under_pos n) (lit≤ tt) e) (zero_rounded s)

-- what may follow a part of the brackets: their end, or white space
pub data Closes : List ℕ → Type 0 where
  shut : (r : List ℕ) → Closes (41 ∷ r)
  gapped : (b : Blank) (r : List ℕ) → Closes (blank b ∷ r)

pub closes_after : (l : List Blank) (rest : List ℕ) → Closes (blanks l ++ (41 ∷ rest))
closes_after [] rest = shut rest
closes_after (b ∷ l) rest = gapped b (blanks l ++ (41 ∷ rest))

pub closes_stops : {b : List ℕ} → Closes b → Stops b
unfolding blank within
closes_stops (shut r) = record { ends = ends_bracket r; letter = refl; mark = refl }
closes_stops (gapped space r) = record { ends = ends_blank r space; letter = refl; mark = refl }
closes_stops (gapped tab r) = record { ends = ends_blank r tab; letter = refl; mark = refl }
closes_stops (gapped line_feed r) = record { ends = ends_blank r line_feed; letter = refl; mark = refl }
closes_stops (gapped return r) = record { ends = ends_blank r return; letter = refl; mark = refl }

-- no word goes on there
pub closes_word : {b : List ℕ} → Closes b → is_ascii_ident (get_or b 0 0) ≡ false
unfolding within blank
closes_word (shut r) = refl
closes_word (gapped space r) = refl
closes_word (gapped tab r) = refl
closes_word (gapped line_feed r) = refl
closes_word (gapped return r) = refl

mark_ends : (u : LengthMark) {b : List ℕ} → Closes b → Ends (length_mark u ++ b)
unfolding length_mark
mark_ends unmarked h = (closes_stops h).ends
mark_ends (marked u) {b} h = unit_ends u b

mark_width : (u : LengthMark) → unit_width (unit_marked u) ≡ length (length_mark u)
unfolding unit_width length_mark unit_marked
mark_width unmarked = refl
mark_width (marked u) = unit_width_is u

mark_at : {s : List ℕ} {i : ℕ} (u : LengthMark) {b : List ℕ} → Closes b → At s i (length_mark u ++ b) → unit_at s i ≡ unit_marked u
unfolding length_mark unit_marked
mark_at {s} {i} unmarked {b} c h = no_unit s i b (closes_stops c) (at_drop h)
mark_at {s} {i} (marked u) {b} c h = unit_there s i u b (at_drop h)

abbrev number_read : Number → ℕ → Result (Read N.Number) Fault
number_read t n = read_on (number_of t n) (place n)

module _ (r : NumbersRead) {s : List ℕ} {i : ℕ} where
  pub number_at : (t : Number) {b : List ℕ} → InDomain t → Ends b → At s i (number t ++ b) → parse_number s i ≡ number_read t (i + length (number t))
  number_at t {b} d e h =
      let z : i + (0 + length (number t)) ≡ i + length (number t) = omega arith in
      rw z at (number_there r [] t b d e h)

  -- a length, and what follows closes it
  pub length_at : (l : CssLength) {b : List ℕ} → InDomain l.size → Closes b → At s i (css_length l ++ b)
      → parse_length s i
      ≡ read_on (record { value = measure_of (measure l); whole = is_integer l.size; end = place (i + length (number l.size)) }) (place (i + length (css_length l)))
  unfolding parse_length css_length measure
  length_at l {b} d c h =
      let n = number l.size in
      let u = length_mark l.mark in
      let g : At s i (n ++ (u ++ b)) = rw append_assoc at h in
      let z : i + length n + length u ≡ i + length (n ++ u) = omega (arith, length-append n u) in
      simp (number_at l.size d (mark_ends l.mark c) g, mark_at l.mark c (at_step n (u ++ b) g), mark_width, z)

pub first_space : {x : ℕ} → First x → is_space x ≡ false
first_space {x} f = no_space x (omega (arith, f.low))

pub share_sign : (a : E.Amount) → sign_of (E.share a) ≡ false
unfolding E.share
share_sign (E.plain n) = positive n.of n.no_minus
share_sign (E.percentage n) = rw hundred_is (hundredth_sign (double (exactly n.of)) ∙ positive n.of n.no_minus)

module _ (r : NumbersRead) {s : List ℕ} {i : ℕ} where
  pub amount_at : (a : E.Amount) {b : List ℕ} → InDomain (amount_number a) → Closes b → At s i (E.amount a ++ b)
      → parse_number_or_percent s i
      ≡ read_on (record { value = E.share a; whole = is_integer (amount_number a); end = place (i + length (number (amount_number a))) }) (place (i + length (E.amount a)))
  unfolding E.amount E.share amount_number parse_number_or_percent
  amount_at (E.plain n) {b} d c h =
      simp (number_at r n.of d (closes_stops c).ends h, curr_not s (i + length (number n.of)) b (at_drop (at_step (number n.of) b h)) 37 (closes_stops c).mark)
  amount_at (E.percentage n) {b} d c h =
      let t = number n.of in
      let g : At s i (t ++ (37 ∷ b)) = rw append_assoc at h in
      let y : i + (0 + length t) ≡ i + length t = omega arith in
      let z : i + (0 + length t + 1) ≡ i + length (t ++ (37 ∷ [])) = omega (arith, length-append t (37 ∷ [])) in
      percent_there r [] n.of b d g ∙ simp (y, z, hundred_is)

module _ (r : NumbersRead) {s : List ℕ} {i : ℕ} where
  pub angle_at : (a : E.CssAngle) {b : List ℕ} (k : ℕ) → InDomain (angle_number a) → Closes b → At s i (E.css_angle a ++ b)
      → parse_filter_angle s k i
      ≡ read_on (turn_of (E.turned a)) (place (i + length (E.css_angle a)))
  unfolding E.css_angle E.turned angle_number angle_named parse_filter_angle
  angle_at (E.angle n u) {b} k d c h =
      let t = number n in
      let m = angle_unit u in
      let g : At s i (t ++ (m ++ b)) = rw append_assoc at h in
      let z : i + length t + length m ≡ i + length (t ++ m) = omega (arith, length-append t m) in
      simp (at_still (first_space (number_first n (m ++ b))) g, number_at r n d (angle_ends u b) g, angle_there s (i + length t) u b (at_drop (at_step t (m ++ b) g)), z)
  angle_at (E.zero n z) {b} k d c h =
      simp (at_still (first_space (number_first n b)) h, number_at r n d (closes_stops c).ends h, no_angle_unit s (i + length (number n)) b (closes_stops c) (at_drop (at_step (number n) b h)), zero_is n z)

-- a length starts as its number does, and is no percentage
pub length_first : (l : CssLength) (b : List ℕ) → First (get_or (css_length l ++ b) 0 0)
unfolding css_length
length_first l b = rw append_assoc (number_first l.size (length_mark l.mark ++ b))

pub no_percent : (u : LengthMark) → is_percent (unit_marked u) ≡ false
unfolding is_percent unit_marked
no_percent unmarked = refl
no_percent (marked u) = unit_no_percent u
