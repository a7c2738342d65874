-- The examples, and those of wrong answers, computed from the definitions.
use mathlib.Core.Path.{refl}
use lib.Ieee.{of_bits, of_int, lt, le, eq, add, sub, mul, div, rem, neg}
use Rattle.utf8.specs.Blanks.{blank1, blank2, blank3, blank_len, blank_at, byte_before, blank_end, blank_before, front, trim_start, back, trim_end, trim_part, trim_of}
use Rattle.text_bytes.specs.Bytes.{within}
use Rattle.utf8.specs.Characters.{keeps, row_of, len_at, char_len, walk, utf8_of, firsts, count, calc_char_pos_at, on_character}
use Rattle.stream.specs.Faults.{consume_byte, consume_string, parse_list_separator}
use Rattle.stream.specs.Refusals.{number_of, reason_number, refusal_of, is_outside_domain, admit_utf8, admit_text, admit_place}
use Rattle.text_bytes.specs.Scan.{scan, run}
use Rattle.text_bytes.specs.Words.{same, starts_with, lower_of, part, is_curr_byte_eq}
use Rattle.floats.specs.Floats.{narrowed, channel_of}
use Rattle.numbers.specs.Digits.{value}
use Rattle.numbers.specs.Powers.{power_of, power_bits}
use Rattle.numbers.specs.Number.{parse_number, parse_number_or_percent, parse_list_number, parse_list_number_or_percent, number_from, finished, scaled, value_of, scale_of, exponent_at, exponent_from, mantissa_at, mantissa_dot, after_sign, signed}
use Rattle.names.specs.Keywords.{keywords}
use Rattle.names.specs.Look.{named_of, look_up}
use Rattle.length.specs.Lengths as lengths
use Rattle.length.specs.Lengths.{parse_length, unit_at, unit_width, parse_whole, parse_list_length, next_length}
use Rattle.angle.specs.Angles.{parse_unit}
use Rattle.color.specs.Answer as colors
use Rattle.color.specs.Hex.{from_hex, short_hex, hex_pair, short_color, long_color, parse_hex}
use Rattle.color.specs.Hsl.{hue_to_rgb, hsl_to_rgb, hsl_color}
use Rattle.color.specs.Color.{close_bracket, parse_alpha, rgb_marked, rgb_plain, rgb_rest, parse_rgb, hsl_rest, parse_hsl, is_rgb, is_hsl, named_color, parse_word, parse_color, parse_color_text}
use Rattle.funciri.specs.Link.{has_quote, is_link, close_link, close_quote, quoted_link, plain_link, parse_iri, parse_func_iri}
use Rattle.paint.specs.Answers as paints
use Rattle.paint.specs.Answers.{parse_trimmed}
use Rattle.paint.specs.Moves.{link_start, move_paint}
use Rattle.inherit.specs.Rule.{is_inherit, is_empty, asked, inherited_of, says}
use Rattle.paint.specs.Reading.{parse_paint, parse_linked, parse_fallback, parse_plain, plain_fault}
use Rattle.filter_functions.specs.Filters as filters
use Rattle.filter_functions.specs.Filters.{next_filter, parse_step, after_none, parse_next, parse_argument, filter_name, plain_name}
use Rattle.filter_functions.specs.Values.{is_percent, parse_filter_length, parse_filter_positive_length, parse_filter_angle, parse_blur, parse_hue_rotate, plain_value, parse_generic_color_func}
use Rattle.filter_functions.specs.Shadow.{try_parse_color, parse_deviation, parse_shadow_lengths, shadow_before, shadow_after, parse_drop_shadow_func}
use Rattle.funciri.specs.Answers.{whole_link, iri_from_str, func_iri_from_str}
use Rattle.names.specs.Back.{same_colour, first_named, name_answer}
use Rattle.set_back.specs.Answers.{settled, hex_answer, keyword_of, keyword_answer}
use Rattle.set_back.specs.Texts.{digit, all_doubled, short_text, long_text, hex_text}
use Rattle.examples.specs.Examples.{Examples}
use Rattle.examples.specs.Shut.{Shut}

pub examples : Examples
unfolding colors.from_str has_quote is_link close_link close_quote quoted_link plain_link parse_func_iri paints.from_str lengths.from_str next_filter admit_place on_character admit_text admit_utf8 utf8_of walk char_len len_at row_of keeps within refusal_of number_of reason_number is_outside_domain calc_char_pos_at count firsts trim_of trim_start front trim_end back blank_at blank_len blank_before blank_end byte_before blank1 blank2 blank3 parse_paint parse_linked parse_fallback parse_plain move_paint link_start parse_whole parse_length unit_at unit_width parse_unit parse_step after_none parse_next parse_argument filter_name plain_name filters.close_bracket is_percent parse_filter_length parse_filter_positive_length parse_filter_angle parse_blur parse_hue_rotate try_parse_color parse_deviation parse_shadow_lengths shadow_before shadow_after parse_drop_shadow_func parse_color_text parse_color parse_hex long_color short_color hex_pair short_hex from_hex parse_word part same starts_with lower_of is_rgb is_hsl named_color named_of look_up keywords parse_rgb parse_hsl hsl_rest rgb_rest rgb_marked rgb_plain parse_alpha close_bracket consume_byte consume_string hsl_color hsl_to_rgb hue_to_rgb narrowed channel_of parse_number parse_number_or_percent parse_list_number parse_list_number_or_percent parse_list_separator number_from finished scaled value_of scale_of exponent_at exponent_from mantissa_at mantissa_dot after_sign value scan run is_curr_byte_eq power_of power_bits mul div add sub rem neg lt le eq of_int of_bits signed parse_trimmed plain_fault
examples =
    record {
      numbered = refl;
      four_digits = refl;
      five_digits = refl;
      marked = refl;
      unmarked = refl;
      marked_alpha = refl;
      white = refl;
      empty = refl;
      fallback = refl;
      one_em = refl;
      percentage = refl;
      unmarked_angle = refl;
      read_past = refl;
      value_then_none = refl;
      none_then_end = refl;
    }

pub shut : Shut
unfolding colors.from_str has_quote is_link close_link close_quote quoted_link plain_link parse_iri parse_func_iri iri_from_str paints.from_str inherited_of asked is_empty is_inherit trim_part lengths.from_str next_filter admit_place on_character admit_text admit_utf8 utf8_of walk char_len len_at row_of keeps within refusal_of number_of reason_number is_outside_domain calc_char_pos_at count firsts trim_of trim_start front trim_end back blank_at blank_len blank_before blank_end byte_before blank1 blank2 blank3 parse_paint parse_linked parse_fallback parse_plain move_paint link_start parse_whole parse_length unit_at unit_width parse_unit parse_step after_none parse_next parse_argument filter_name plain_name filters.close_bracket is_percent parse_filter_length parse_filter_positive_length parse_filter_angle parse_generic_color_func plain_value parse_blur parse_hue_rotate try_parse_color parse_deviation parse_shadow_lengths shadow_before shadow_after parse_drop_shadow_func parse_color_text parse_color parse_hex long_color short_color hex_pair short_hex from_hex parse_word part same starts_with lower_of is_rgb is_hsl named_color named_of look_up keywords parse_rgb parse_hsl hsl_rest rgb_rest rgb_marked rgb_plain parse_alpha close_bracket consume_byte consume_string hsl_color hsl_to_rgb hue_to_rgb narrowed channel_of parse_number parse_number_or_percent parse_list_number parse_list_number_or_percent parse_list_separator number_from finished scaled value_of scale_of exponent_at exponent_from mantissa_at mantissa_dot after_sign value scan run is_curr_byte_eq power_of power_bits mul div add sub rem neg lt le eq of_int of_bits func_iri_from_str whole_link same_colour first_named name_answer settled hex_answer keyword_of keyword_answer digit all_doubled short_text long_text hex_text next_length parse_list_length signed parse_trimmed plain_fault says lengths.parse_step
shut =
    record {
      alpha = refl;
      no_alpha = refl;
      tan = refl;
      by_default = refl;
      hue = refl;
      bracket = refl;
      quoted = refl;
      stray = refl;
      trimmed = refl;
      moved = refl;
      inherits = refl;
      current = refl;
      whose = refl;
      empty_own = refl;
      empty_both = refl;
      painted = refl;
      painted_large = refl;
      painted_form = refl;
      painted_ended = refl;
      fallback_ended = refl;
      shaded = refl;
      unnamed = refl;
      unlent = refl;
      unshortened = refl;
      opaque = refl;
      ended = refl;
      ended_at_once = refl;
      ended_in_list = refl;
      one_space = refl;
      too_large = refl;
      far_scale = refl;
      far_nought = refl;
      form_first = refl;
      large_first = refl;
      whole_beginning = refl;
      from_the_name = refl;
      to_the_end = refl;
      stopped_color = refl;
      stopped_link = refl;
      before_the_unit = refl;
      after_spaces = refl;
      dotted = refl;
      scaled = refl;
      ill_formed_place = refl;
      bad_place = refl;
    }
