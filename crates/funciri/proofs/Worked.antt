-- Worked examples of the definitions, computed.
use mathlib.Core.Path.{◌≡◌, refl}
use Rattle.text_bytes.specs.Bytes.{within}
use Rattle.utf8.specs.Characters.{keeps, row_of, len_at, char_len, walk, utf8_of, firsts, count, calc_char_pos_at}
use Rattle.utf8.specs.Blanks.{blank1, blank2, blank3, byte_before, blank_end, blank_before, back, trim_end}
use Rattle.text_bytes.specs.Moves.{place}
use Rattle.stream.specs.Faults.{invalid_value, consume_byte, consume_string}
use Rattle.stream.specs.Refusals.{number_of, refusal_of, admit_utf8, admit_text}
use Rattle.text_bytes.specs.Scan.{run, scan}
use Rattle.text_bytes.specs.Words.{ascii, starts_with, part}
use Rattle.funciri.specs.Answers.{whole_link, iri_from_str}
use Rattle.funciri.specs.Link.{has_quote, is_link, link_at, link_read, close_link, close_quote, quoted_link, plain_link, parse_iri, parse_func_iri}
use Rattle.std.specs.Prelude.{Ok, Err, Some}
use Rattle.stream.specs.declared.Trouble.TheVariants as T
use Rattle.stream.specs.declared.Reason.TheVariants as R

plain : parse_func_iri (ascii "url(#a)") 0 ≡ Ok (link_read (link_at (place 5) 1) 7)
unfolding parse_func_iri plain_link close_link is_link has_quote consume_byte consume_string starts_with scan run part
plain = refl

-- the space before the closing quote is no part of the link
quoted : parse_func_iri (ascii "url( '#a ' )") 0 ≡ Ok (link_read (link_at (place 7) 1) 12)
unfolding parse_func_iri quoted_link close_quote close_link is_link has_quote consume_byte consume_string starts_with scan run part trim_end back blank_before blank_end byte_before blank1 blank2 blank3
quoted = refl

empty : parse_iri (ascii "# ") 0 ≡ Err (invalid_value 1)
unfolding parse_iri consume_byte scan run
empty = refl

empty_quoted : parse_func_iri (ascii "url('#  ')") 0 ≡ Err (invalid_value 8)
unfolding parse_func_iri quoted_link is_link consume_byte consume_string starts_with scan run part trim_end back blank_before blank_end byte_before blank1 blank2 blank3
empty_quoted = refl

stray_quote : parse_func_iri (ascii "url(#a'b)") 0 ≡ Err (invalid_value 8)
unfolding parse_func_iri plain_link is_link has_quote consume_byte consume_string starts_with scan run part
stray_quote = refl

-- the other quote is no closing one
other_quote : parse_func_iri (ascii "url('#a\"')") 0 ≡ Err (invalid_value 8)
unfolding parse_func_iri quoted_link is_link has_quote consume_byte consume_string starts_with scan run part trim_end back blank_before blank_end byte_before blank1 blank2 blank3
other_quote = refl

-- 6 at the fourth character
trailing : iri_from_str (ascii "#a b") ≡ Err (record { reason = R.Unread T.UnexpectedData; position = Some (record { 0 = 4 }); from = place 3; to = place 4 })
unfolding iri_from_str whole_link parse_iri consume_byte scan run admit_text admit_utf8 utf8_of walk char_len len_at row_of keeps within refusal_of number_of calc_char_pos_at count firsts
trailing = refl
