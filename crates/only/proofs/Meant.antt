-- With crates/standards both directions meet.
use Prim.Native.Nat.{ℕ, ◌+◌, ◌≤◌}
use mathlib.Core.Bool.{false}
use mathlib.Core.List.{List, ◌++◌}
use mathlib.Core.Path.{◌≡◌, refl, sym, ◌∙◌}
use lib.Ieee.{round, of_int, of_bits, mul, div}
use lib.ListN.{length}
use Rattle.text_bytes.specs.Bytes.{within}
use Rattle.text_bytes.specs.Moves.{place}
use Rattle.text_bytes.specs.Scan.{run, scan}
use Rattle.text_bytes.specs.Words.{ascii}
use Rattle.numbers.specs.Digits.{value}
use Rattle.numbers.specs.Number.{after_sign, mantissa_dot, mantissa_at, exponent_at, scale_of, signed, value_of, scaled, finished, number_from, parse_number}
use Rattle.numbers.specs.Powers.{power_bits, power_of}
use Rattle.numbers.specs.declared.Written.{Written}
use Rattle.std.specs.Prelude.{Result, Ok}
use Rattle.stream.specs.declared.Refusal.{Refusal}
use Rattle.length.specs.Lengths as Lengths
use Rattle.length.specs.declared.Length.{Length}
use Rattle.angle.specs.Angles as Angles
use Rattle.angle.specs.declared.Angle.{Angle}
use Rattle.standards.specs.Ieee754.{double}
use Rattle.standards.specs.CssValues3.{blanks, number}
use Rattle.standards.specs.Svg2.{length_text, angle_text, ratio}
use Rattle.standards.specs.Answers.{length_written, angle_written, read_on}
use Rattle.standards.proofs.Whole.{documents}
use Rattle.only.specs.Only.{limit, LengthText, AngleText}
use Rattle.only.proofs.Measures.{length_shape, angle_shape}

-- What crates/standards asks of what follows a number, Ends, is more than need be: of `.0.` the number `.0` is read, with `.` after it
pub read_before_dot : parse_number (ascii ".0.") 0 ≡ read_on (record { value = double (ratio 0 1); whole = false; end = place 2 }) (place 2)
unfolding parse_number number_from after_sign mantissa_at mantissa_dot exponent_at scale_of signed value_of scaled finished scan run value within power_of power_bits double round of_int of_bits mul div
read_before_dot = refl

-- THEOREM (SVG 2, section 8.9). A text that is answered as a length is that length's
pub length_only : (s : List ℕ) (v : Written Length) → Lengths.from_str s ≡ Ok v → LengthText s v
length_only s v e =
    let t = length_shape s v e in
    let w = t.tree in
    let k : length (blanks t.before ++ length_text w) ≤ limit = rw t.text at t.short in
    let r = documents.lengths t.before w t.domain k in
    let z : ◌≡◌ {A = Result (Written Length) Refusal} (Ok v) (Ok (length_written w (length t.before + length (number w.number_part)))) = sym e ∙ rw (← t.text) at r in
    record { before = t.before; tree = w; text = t.text; domain = t.domain; short = t.short; meant = cc }

-- THEOREM (CSS Values 3, section 6.1). So of an angle
pub angle_only : (s : List ℕ) (v : Written Angle) → Angles.from_str s ≡ Ok v → AngleText s v
angle_only s v e =
    let t = angle_shape s v e in
    let w = t.tree in
    let k : length (blanks t.before ++ angle_text w) ≤ limit = rw t.text at t.short in
    let r = documents.angles t.before w t.domain k in
    let z : ◌≡◌ {A = Result (Written Angle) Refusal} (Ok v) (Ok (angle_written w (length t.before + length (number w.number_part)))) = sym e ∙ rw (← t.text) at r in
    record { before = t.before; tree = w; text = t.text; domain = t.domain; short = t.short; meant = cc }
