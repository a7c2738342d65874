-- Worked examples of the definitions, computed.
use Prim.Native.Nat.{ℕ}
use mathlib.Core.Path.{◌≡◌, refl}
use lib.Ieee.{of_bits, of_int, lt, le, add, sub, mul, div, rem, neg}
use Rattle.text_bytes.specs.Bytes.{within}
use Rattle.utf8.specs.Characters.{keeps, row_of, len_at, char_len, walk, utf8_of, firsts, count, calc_char_pos_at}
use Rattle.stream.specs.Faults.{consume_byte, parse_list_separator}
use Rattle.std.specs.Prelude.{Result, Ok, Err, Some, None}
use Rattle.stream.specs.Refusals.{number_of, refusal_of, admit_utf8, admit_text}
use Rattle.stream.specs.declared.Refusal.{Refusal}
use Rattle.stream.specs.declared.Trouble.{Trouble}
use Rattle.stream.specs.declared.Trouble.TheVariants as T
use Rattle.stream.specs.declared.Reason.TheVariants as R
use Rattle.text_bytes.specs.Scan.{scan, run}
use Rattle.text_bytes.specs.Words.{ascii, same, lower_of, part, is_curr_byte_eq}
use Rattle.floats.specs.Floats.{narrowed, channel_of}
use Rattle.numbers.specs.Digits.{value}
use Rattle.numbers.specs.Powers.{power_of, power_bits}
use Rattle.numbers.specs.Number.{parse_number, parse_number_or_percent, parse_list_number, parse_list_number_or_percent, number_from, finished, scaled, value_of, signed, scale_of, exponent_at, exponent_from, mantissa_at, mantissa_dot, after_sign}
use Rattle.names.specs.Keywords.{keywords}
use Rattle.names.specs.Look.{named_of, look_up}
use Rattle.color.specs.Hex.{rgba, from_hex, short_hex, hex_pair, short_color, long_color, parse_hex}
use Rattle.color.specs.Hsl.{hue_to_rgb, hsl_to_rgb, hsl_color}
use Rattle.color.specs.Color.{close_bracket, parse_alpha, rgb_marked, rgb_plain, rgb_rest, parse_rgb, hsl_rest, parse_hsl, is_rgb, is_hsl, named_color, parse_word, parse_color, parse_color_text}
use Rattle.text_bytes.specs.Moves.{place}
use Rattle.color.specs.Answer.{from_str}
use Rattle.color.specs.Paper.{paper}
use Rattle.color.specs.declared.Color.{Color}

-- a refusal with an empty stretch and no position
abbrev unread : Trouble → ℕ → Result Color Refusal
unread t i = Err (record { reason = R.Unread t; position = None; from = place i; to = place i })

-- and one with both
abbrev refused : Trouble → ℕ → ℕ → ℕ → Result Color Refusal
refused t at from to = Err (record { reason = R.Unread t; position = Some (record { 0 = at }); from = place from; to = place to })

pub record Examples : Type 0 where
  pub four_digits : from_str (ascii "#1234") ≡ Ok (rgba 17 34 51 68)
  pub five_digits : from_str (ascii "#12345") ≡ unread T.InvalidValue 6
  pub five_zeros : (paper (from_str (ascii "#12345"))).result ≡ rgba 0 0 0 0
  pub marked : from_str (ascii "rgb(20%,50,20%)") ≡ Ok (rgba 51 255 51 255)
  pub unmarked : from_str (ascii "rgb(10,20%,30)") ≡ refused T.WrongByte 10 9 9
  -- found `%` (37), wanted `)` (41)
  pub marked_alpha : from_str (ascii "rgba(0,0,0,50%)") ≡ refused (T.InvalidChar 37 41) 14 13 14
  pub half_alpha : from_str (ascii "rgba(0,0,0,0.5)") ≡ Ok (rgba 0 0 0 128)
  pub last_comma : from_str (ascii "rgb(1,2,3,)") ≡ Ok (rgba 1 2 3 255)
  pub white : from_str (ascii "hsl(120,100,50)") ≡ Ok (rgba 255 255 255 255)
  -- the hue rounds to 6.0
  pub near_turn : from_str (ascii "hsl(359.99999,100%,50%)") ≡ Ok (rgba 255 0 0 255)
  pub empty : from_str (ascii "") ≡ unread T.UnexpectedEndOfStream 0
  pub bracket : from_str (ascii "red)") ≡ refused T.UnexpectedData 4 3 4

pub examples : Examples
unfolding paper from_str admit_text admit_utf8 utf8_of walk char_len len_at row_of keeps within refusal_of number_of calc_char_pos_at count firsts parse_color_text parse_color parse_hex long_color short_color hex_pair short_hex from_hex parse_word part same lower_of is_rgb is_hsl named_color named_of look_up keywords parse_rgb parse_hsl hsl_rest rgb_rest rgb_marked rgb_plain parse_alpha close_bracket consume_byte hsl_color hsl_to_rgb hue_to_rgb narrowed channel_of parse_number parse_number_or_percent parse_list_number parse_list_number_or_percent parse_list_separator number_from finished scaled value_of signed scale_of exponent_at exponent_from mantissa_at mantissa_dot after_sign value scan run is_curr_byte_eq power_of power_bits mul div add sub rem neg lt le of_int of_bits
examples =
    record {
      four_digits = refl;
      five_digits = refl;
      five_zeros = refl;
      marked = refl;
      unmarked = refl;
      marked_alpha = refl;
      half_alpha = refl;
      last_comma = refl;
      white = refl;
      near_turn = refl;
      empty = refl;
      bracket = refl;
    }
