-- Why a refusal may change its number: before a small `m` an `e` is no exponent, before a capital it is one that is refused.
use Prim.Native.Nat.{ℕ}
use mathlib.Core.List.{List}
use mathlib.Core.Path.{◌≡◌, refl, sym, ap, ◌∙◌}
use native.Mathlib.Omega.{arith}
use lib.Ieee.{of_bits, of_int, mul, div, neg}
use Rattle.text_bytes.specs.Bytes.{within}
use Rattle.std.specs.Prelude.{Result, Err}
use Rattle.text_bytes.specs.Scan.{scan, run}
use Rattle.text_bytes.specs.Words.{ascii, same, lower_of, part, is_curr_byte_eq}
use Rattle.utf8.specs.Characters.{keeps, row_of, len_at, char_len, walk, utf8_of}
use Rattle.stream.specs.Faults.{trouble_at, consume_byte, parse_list_separator}
use Rattle.stream.specs.Refusals.{number_of, reason_number, refusal_of, admit_utf8, admit_text}
use Rattle.stream.specs.declared.Refusal.{Refusal}
use Rattle.stream.specs.declared.Trouble.{Trouble}
use Rattle.stream.specs.declared.Trouble.TheVariants as T
use Rattle.floats.specs.Floats.{channel_of}
use Rattle.numbers.specs.Digits.{value}
use Rattle.numbers.specs.Powers.{power_of, power_bits}
use Rattle.numbers.specs.Number.{parse_number, parse_list_number, number_from, finished, scaled, value_of, signed, scale_of, exponent_at, exponent_from, mantissa_at, mantissa_dot, after_sign}
use Rattle.color.specs.Color.{close_bracket, rgb_plain, rgb_rest, parse_rgb, is_rgb, parse_word, parse_color, parse_color_text}
use Rattle.color.specs.Answer.{from_str}
use Rattle.color.specs.declared.Color.{Color}
use Rattle.capitals.specs.Capitals.{Alike}

abbrev small : List ℕ
small = ascii "rgb(1em"

abbrev large : List ℕ
large = ascii "rgb(1eM"

-- the refusal at a place, and where the refused piece starts and ends
abbrev told : List ℕ → Trouble → ℕ → ℕ → ℕ → Refusal
told s t at from to = refusal_of s (trouble_at t at from to)

pub record Examples : Type 0 where
  pub alike : Alike small large
  pub nine : from_str small ≡ Err (told small T.WrongByte 5 5 5)
  pub ten : from_str large ≡ Err (told large T.WrongForm 4 4 6)
  pub nine_number : reason_number (told small T.WrongByte 5 5 5).reason ≡ 9
  pub ten_number : reason_number (told large T.WrongForm 4 4 6).reason ≡ 10

pub examples : Examples
unfolding from_str admit_text admit_utf8 utf8_of walk char_len len_at row_of keeps within refusal_of number_of reason_number parse_color_text parse_color parse_word part same lower_of is_rgb parse_rgb rgb_rest rgb_plain close_bracket consume_byte channel_of parse_number parse_list_number parse_list_separator number_from finished scaled value_of signed scale_of exponent_at exponent_from mantissa_at mantissa_dot after_sign value scan run is_curr_byte_eq power_of power_bits mul div neg of_int of_bits
examples = record { alike = refl; nine = refl; ten = refl; nine_number = refl; ten_number = refl }

refusal_is : {e f : Refusal} → ◌≡◌ {A = Result Color Refusal} (Err e) (Err f) → reason_number e.reason ≡ reason_number f.reason
refusal_is {e} {f} q = let g : e ≡ f = cc in ap (λ (x : Refusal). reason_number x.reason) g

-- so no theorem can keep it
pub number_changes : ((s t : List ℕ) (e : Refusal) → Alike s t → from_str s ≡ Err e → (f : Refusal) × ((from_str t ≡ Err f) × (reason_number f.reason ≡ reason_number e.reason))) → ⊥
number_changes k =
    let w = k small large (told small T.WrongByte 5 5 5) examples.alike examples.nine in
    let a : reason_number w.0.reason ≡ 10 = refusal_is (sym w.1.0 ∙ examples.ten) ∙ examples.ten_number in
    let b : reason_number w.0.reason ≡ 9 = w.1.1 ∙ examples.nine_number in
    omega arith
