-- 12 decimals of a percentage, 14 of an alpha and 3 of a grey's lightness are the most: with one more, one of them is not read as the nearest channel.
use mathlib.Core.Path.{refl}
use native.Mathlib.Omega.{arith}
use lib.Dec.{lit≤}
use lib.Ieee.{round, of_bits, of_int, lt, le, add, sub, mul, div, rem, neg}
use Rattle.text_bytes.specs.Bytes.{within}
use Rattle.text_bytes.specs.Scan.{scan, run}
use Rattle.text_bytes.specs.Words.{same, lower_of, part, is_curr_byte_eq}
use Rattle.stream.specs.Faults.{consume_byte, parse_list_separator}
use Rattle.floats.specs.Floats.{narrowed, channel_of}
use Rattle.numbers.specs.Digits.{value}
use Rattle.numbers.specs.Powers.{power_of, power_bits}
use Rattle.numbers.specs.Number.{parse_number, parse_number_or_percent, parse_list_number, parse_list_number_or_percent, number_from, finished, scaled, value_of, signed, scale_of, exponent_at, exponent_from, mantissa_at, mantissa_dot, after_sign}
use Rattle.color.specs.Color.{close_bracket, parse_alpha, rgb_marked, rgb_plain, rgb_rest, parse_rgb, hsl_rest, parse_hsl, is_rgb, is_hsl, parse_word, parse_color}
use Rattle.color.specs.Hsl.{hue_to_rgb, hsl_to_rgb, hsl_color}
use Rattle.standards.specs.Worked.{Sharp}

pub sharp : Sharp
unfolding parse_color parse_word part same lower_of within is_rgb is_hsl parse_rgb rgb_rest rgb_marked rgb_plain parse_hsl hsl_rest parse_alpha close_bracket consume_byte hsl_color hsl_to_rgb hue_to_rgb narrowed channel_of parse_number parse_number_or_percent parse_list_number parse_list_number_or_percent parse_list_separator number_from finished scaled value_of signed scale_of exponent_at exponent_from mantissa_at mantissa_dot after_sign value scan run is_curr_byte_eq power_of power_bits round mul div add sub rem neg lt le of_int of_bits
sharp =
    record {
      percent = refl;
      alpha = refl;
      shorter = refl;
      grey = refl;
      part_farther = λ n. let e = n.nearer 75 (lit≤ tt) in omega arith;
      grey_farther = λ n. let e = n.nearer 171 (lit≤ tt) in omega arith;
      red = refl;
      red_farther = λ n. let e = n.nearer 120 (lit≤ tt) in omega arith;
    }
