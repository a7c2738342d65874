-- Worked examples of the definitions, computed.
use mathlib.Core.Bool.{false, true}
use mathlib.Core.Path.{◌≡◌, refl}
use lib.IntN.{pos}
use lib.Ieee.{fin, mul, div, neg, of_int, of_bits}
use Rattle.text_bytes.specs.Bytes.{within}
use Rattle.utf8.specs.Characters.{keeps, row_of, len_at, char_len, walk, utf8_of, firsts, count, calc_char_pos_at, on_character}
use Rattle.text_bytes.specs.Moves.{place}
use Rattle.stream.specs.Faults.{unexpected_data, parse_list_separator}
use Rattle.stream.specs.Refusals.{number_of, refusal_of, admit_utf8, admit_text, admit_place}
use Rattle.text_bytes.specs.Scan.{scan, run}
use Rattle.text_bytes.specs.Words.{ascii, starts_with, is_curr_byte_eq}
use Rattle.numbers.specs.Digits.{value}
use Rattle.numbers.specs.Powers.{power_of, power_bits}
use Rattle.numbers.specs.Number.{parse_number, number_from, finished, scaled, value_of, signed, scale_of, exponent_at, exponent_from, mantissa_at, mantissa_dot, after_sign}
use Rattle.std.specs.Prelude.{Ok, Err, Some, None}
use Rattle.stream.specs.declared.Trouble.TheVariants as T
use Rattle.stream.specs.declared.Reason.TheVariants as R
use Rattle.length.specs.Lengths.{unit_at, unit_width, parse_length, parse_list_length, parse_whole, from_str, next_length, parse_step}
use Rattle.length.specs.declared.LengthUnit.TheVariants as U

-- `1em` is 1 em: the `e` is not an exponent's
pub one_em : from_str (ascii "1em") ≡ Ok (record { value = record { number = fin false 1 (pos 0); unit = U.Em }; whole = true; end = place 1 })
unfolding from_str parse_whole parse_length unit_at unit_width starts_with parse_number number_from finished scaled value_of signed scale_of exponent_at exponent_from mantissa_at mantissa_dot after_sign value scan run within power_of power_bits mul div neg of_int of_bits admit_text admit_utf8 utf8_of walk char_len len_at row_of keeps
one_em = refl

-- `10px ` is 6 at 5
trailing_space : from_str (ascii "10px ") ≡ Err (record { reason = R.Unread T.UnexpectedData; position = Some (record { 0 = 5 }); from = place 4; to = place 5 })
unfolding from_str parse_whole parse_length unit_at unit_width starts_with parse_number number_from finished scaled value_of signed scale_of exponent_at exponent_from mantissa_at mantissa_dot after_sign value scan run within power_of power_bits mul div neg of_int of_bits admit_text admit_utf8 utf8_of walk char_len len_at row_of keeps refusal_of number_of calc_char_pos_at count firsts
trailing_space = refl

-- `1PX` is 6 at 2: units are in lower case
capitals : parse_whole (ascii "1PX") ≡ Err (unexpected_data (ascii "1PX") 1)
unfolding parse_whole parse_length unit_at unit_width starts_with parse_number number_from finished scaled value_of signed scale_of exponent_at exponent_from mantissa_at mantissa_dot after_sign value scan run within power_of power_bits mul div neg of_int of_bits
capitals = refl

-- `5% ,7`: the step hands out 5 % and the place of the 7
first_step : next_length (ascii "5% ,7") 0 ≡ record { item = Ok (Some (record { value = record { number = fin false 5 (pos 0); unit = U.Percent }; whole = true; end = place 1 })); place = place 4 }
unfolding next_length parse_step parse_list_length parse_list_separator is_curr_byte_eq parse_length unit_at unit_width starts_with parse_number number_from finished scaled value_of signed scale_of exponent_at exponent_from mantissa_at mantissa_dot after_sign value scan run within power_of power_bits mul div neg of_int of_bits admit_text admit_utf8 utf8_of walk char_len len_at row_of keeps admit_place on_character firsts
first_step = refl

-- a length list of one space is 22, and its list place the end; an empty one ends
one_space : next_length (ascii " ") 0 ≡ record { item = Err (record { reason = R.Unread T.TextEnded; position = Some (record { 0 = 2 }); from = place 1; to = place 1 }); place = place 1 }
unfolding next_length parse_step parse_list_length parse_length parse_number scan run admit_text admit_utf8 utf8_of walk char_len len_at row_of keeps within admit_place on_character firsts refusal_of number_of calc_char_pos_at count
one_space = refl

empty_list : next_length (ascii "") 0 ≡ record { item = Ok None; place = place 0 }
unfolding next_length parse_step admit_text admit_utf8 utf8_of walk char_len len_at row_of keeps admit_place on_character
empty_list = refl
