-- Worked examples of the definitions, computed.
use Prim.Native.Nat.{ℕ}
use mathlib.Core.List.{List, [], ◌∷◌, ◌++◌}
use mathlib.Core.Path.{◌≡◌, refl}
use Rattle.text_bytes.specs.Bytes.{within}
use Rattle.text_bytes.specs.Words.{ascii, starts_with}
use Rattle.utf8.specs.Characters.{keeps, row_of, len_at, char_len, walk, utf8_of, firsts, count, calc_char_pos_at, on_character, skip_chars}
use Rattle.utf8.specs.Blanks.{blank1, blank2, blank3, blank_len, blank_at, byte_before, blank_end, blank_before, front, trim_start, back, trim_end, trim_of}
use Rattle.text_bytes.specs.Moves.{place}
use Rattle.stream.specs.Faults.{invalid_string, consume_string}
use Rattle.stream.specs.Refusals.{bare_refusal, empty_refusal, admit_utf8, admit_text, admit_place}
use Rattle.std.specs.Prelude.{Ok, Err}
use Rattle.stream.specs.declared.Reason.TheVariants as R

-- é, U+00E9
abbrev e_acute : List ℕ
e_acute = 0xc3 ∷ 0xa9 ∷ []

-- C0 80, an overlong form of U+0000
overlong : admit_text (0x61 ∷ 0xc0 ∷ 0x80 ∷ []) ≡ Err (empty_refusal R.IllFormed 1)
unfolding admit_text admit_utf8 utf8_of walk char_len len_at row_of keeps within
overlong = refl

-- ED A0 80, a surrogate
surrogate : admit_text (0xed ∷ 0xa0 ∷ 0x80 ∷ []) ≡ Err (empty_refusal R.IllFormed 0)
unfolding admit_text admit_utf8 utf8_of walk char_len len_at row_of keeps within
surrogate = refl

-- U+10FFFF, the last, and F4 90 80 80 behind it
last_character : utf8_of (0xf4 ∷ 0x8f ∷ 0xbf ∷ 0xbf ∷ 0xf4 ∷ 0x90 ∷ 0x80 ∷ 0x80 ∷ []) ≡ Err (place 4)
unfolding utf8_of walk char_len len_at row_of keeps within
last_character = refl

inside_a_character : admit_place e_acute 1 ≡ Err (bare_refusal R.BadListPlace)
unfolding admit_place admit_text admit_utf8 utf8_of on_character firsts walk char_len len_at row_of keeps within
inside_a_character = refl

at_the_end : admit_place e_acute 2 ≡ Ok tt
unfolding admit_place admit_text admit_utf8 utf8_of on_character firsts walk char_len len_at row_of keeps within
at_the_end = refl

past_the_end : admit_place e_acute 3 ≡ Err (bare_refusal R.BadListPlace)
unfolding admit_place admit_text admit_utf8 utf8_of on_character firsts walk char_len len_at row_of keeps within
past_the_end = refl

-- the byte after é is the second character
second_character : calc_char_pos_at (e_acute ++ ascii "#") 2 ≡ 2
unfolding calc_char_pos_at count firsts char_len len_at row_of keeps within
second_character = refl

-- U+0085 and U+2028 are trimmed, and é stays
trimmed_ends : trim_of ((0xc2 ∷ 0x85 ∷ 32 ∷ []) ++ e_acute ++ (0xe2 ∷ 0x80 ∷ 0xa8 ∷ 9 ∷ [])) ≡ e_acute
unfolding trim_of trim_start front trim_end back blank_at blank_len blank_before blank_end byte_before blank1 blank2 blank3
trimmed_ends = refl

-- four characters are told where `url(` is wanted, of two bytes each here
four_characters : consume_string (e_acute ++ e_acute ++ e_acute ++ e_acute ++ e_acute) 0 (ascii "url(") ≡ Err (invalid_string 0 8)
unfolding consume_string starts_with skip_chars char_len len_at row_of keeps within
four_characters = refl

-- and all that remain, where fewer do
one_character : consume_string e_acute 0 (ascii "url(") ≡ Err (invalid_string 0 2)
unfolding consume_string starts_with skip_chars char_len len_at row_of keeps within
one_character = refl
