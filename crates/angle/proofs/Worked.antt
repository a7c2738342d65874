-- Worked examples of the definitions, computed.
use mathlib.Core.Bool.{true, false}
use mathlib.Core.Path.{◌≡◌, refl}
use lib.IntN.{pos, negsuc}
use lib.Ieee.{fin, mul, div, neg, of_int, of_bits}
use Rattle.text_bytes.specs.Bytes.{within}
use Rattle.utf8.specs.Characters.{keeps, row_of, len_at, char_len, walk, utf8_of, firsts, count, calc_char_pos_at}
use Rattle.text_bytes.specs.Moves.{place}
use Rattle.stream.specs.Refusals.{number_of, refusal_of, admit_utf8, admit_text}
use Rattle.text_bytes.specs.Scan.{scan, run}
use Rattle.text_bytes.specs.Words.{ascii, starts_with}
use Rattle.numbers.specs.Digits.{value}
use Rattle.numbers.specs.Powers.{power_of, power_bits}
use Rattle.numbers.specs.Number.{parse_number, number_from, finished, scaled, value_of, signed, scale_of, exponent_at, exponent_from, mantissa_at, mantissa_dot, after_sign}
use Rattle.std.specs.Prelude.{Ok, Err, Some}
use Rattle.stream.specs.declared.Trouble.TheVariants as T
use Rattle.stream.specs.declared.Reason.TheVariants as R
use Rattle.angle.specs.Angles.{to_degrees, parse_unit, parse_angle, parse_whole, from_str}
use Rattle.angle.specs.declared.AngleUnit.TheVariants as U

-- `2rad` is 2 radians
two_radians : from_str (ascii "2rad") ≡ Ok (record { value = record { number = fin false 1 (pos 1); unit = U.Radians }; whole = true; end = place 1 })
unfolding from_str parse_whole parse_angle parse_unit starts_with parse_number number_from finished scaled value_of signed scale_of exponent_at exponent_from mantissa_at mantissa_dot after_sign value scan run within power_of power_bits mul div neg of_int of_bits admit_text admit_utf8 utf8_of walk char_len len_at row_of keeps
two_radians = refl

-- ` 1`: leading spaces, and no unit means degrees
one_degree : parse_whole (ascii " 1") ≡ Ok (record { value = record { number = fin false 1 (pos 0); unit = U.Degrees }; whole = true; end = place 2 })
unfolding parse_whole parse_angle parse_unit starts_with parse_number number_from finished scaled value_of signed scale_of exponent_at exponent_from mantissa_at mantissa_dot after_sign value scan run within power_of power_bits mul div neg of_int of_bits
one_degree = refl

-- `1deg ` is 6 at 5
trailing_space : from_str (ascii "1deg ") ≡ Err (record { reason = R.Unread T.UnexpectedData; position = Some (record { 0 = 5 }); from = place 4; to = place 5 })
unfolding from_str parse_whole parse_angle parse_unit starts_with parse_number number_from finished scaled value_of signed scale_of exponent_at exponent_from mantissa_at mantissa_dot after_sign value scan run within power_of power_bits mul div neg of_int of_bits admit_text admit_utf8 utf8_of walk char_len len_at row_of keeps refusal_of number_of calc_char_pos_at count firsts
trailing_space = refl

-- 200 gradians are 180 degrees, and so is half a turn: 45 * 2 ^ 2
gradians : to_degrees (record { number = fin false 25 (pos 3); unit = U.Gradians }) ≡ fin false 45 (pos 2)
unfolding mul div of_bits
gradians = refl

half_a_turn : to_degrees (record { number = fin false 1 (negsuc 0); unit = U.Turns }) ≡ fin false 45 (pos 2)
unfolding mul of_bits
half_a_turn = refl
