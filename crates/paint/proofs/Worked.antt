-- Worked examples: the five words, with white space around them.
use mathlib.Core.List.{[], ◌∷◌, ◌++◌}
use mathlib.Core.Path.{◌≡◌, refl}
use Rattle.text_bytes.specs.Bytes.{within}
use Rattle.text_bytes.specs.Words.{ascii, same}
use Rattle.utf8.specs.Characters.{keeps, row_of, len_at, char_len, walk, utf8_of}
use Rattle.utf8.specs.Blanks.{blank1, blank2, blank3, blank_len, blank_at, byte_before, blank_end, blank_before, front, trim_start, back, trim_end, trim_of}
use Rattle.stream.specs.Refusals.{admit_utf8, admit_text}
use Rattle.paint.specs.Moves.{move_paint}
use Rattle.paint.specs.Reading.{parse_paint}
use Rattle.paint.specs.Answers.{parse_trimmed, from_str}
use Rattle.paint.specs.declared.Paint.TheVariants as P
use Rattle.std.specs.Prelude.{Ok}

none_read : from_str (ascii "  none ") ≡ Ok P.None
unfolding from_str parse_trimmed admit_text admit_utf8 utf8_of walk char_len len_at row_of keeps within trim_of trim_start front trim_end back blank_at blank_len blank_before blank_end byte_before blank1 blank2 blank3 parse_paint same move_paint
none_read = refl

inherit_read : from_str (ascii "inherit") ≡ Ok P.Inherit
unfolding from_str parse_trimmed admit_text admit_utf8 utf8_of walk char_len len_at row_of keeps within trim_of trim_start front trim_end back blank_at blank_len blank_before blank_end byte_before blank1 blank2 blank3 parse_paint same move_paint
inherit_read = refl

-- U+3000 before it, U+0085 behind it
current_color_read : from_str ((0xe3 ∷ 0x80 ∷ 0x80 ∷ []) ++ ascii "currentColor" ++ (0xc2 ∷ 0x85 ∷ [])) ≡ Ok P.CurrentColor
unfolding from_str parse_trimmed admit_text admit_utf8 utf8_of walk char_len len_at row_of keeps within trim_of trim_start front trim_end back blank_at blank_len blank_before blank_end byte_before blank1 blank2 blank3 parse_paint same move_paint
current_color_read = refl

context_fill_read : from_str (ascii " context-fill") ≡ Ok P.ContextFill
unfolding from_str parse_trimmed admit_text admit_utf8 utf8_of walk char_len len_at row_of keeps within trim_of trim_start front trim_end back blank_at blank_len blank_before blank_end byte_before blank1 blank2 blank3 parse_paint same move_paint
context_fill_read = refl

context_stroke_read : from_str (ascii "context-stroke ") ≡ Ok P.ContextStroke
unfolding from_str parse_trimmed admit_text admit_utf8 utf8_of walk char_len len_at row_of keeps within trim_of trim_start front trim_end back blank_at blank_len blank_before blank_end byte_before blank1 blank2 blank3 parse_paint same move_paint
context_stroke_read = refl
