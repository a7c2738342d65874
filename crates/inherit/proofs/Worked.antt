-- Worked examples: what is chosen, what is asked higher up, and whose refusal it is.
use mathlib.Core.List.{[], ◌∷◌}
use mathlib.Core.Path.{◌≡◌, refl}
use Rattle.text_bytes.specs.Bytes.{within}
use Rattle.text_bytes.specs.Words.{ascii, same}
use Rattle.utf8.specs.Characters.{keeps, row_of, len_at, char_len, walk, utf8_of}
use Rattle.utf8.specs.Blanks.{blank1, blank2, blank3, blank_len, blank_at, byte_before, blank_end, blank_before, front, trim_start, back, trim_end, trim_part, trim_of}
use Rattle.stream.specs.Refusals.{admit_utf8, admit_text}
use Rattle.paint.specs.Moves.{move_paint}
use Rattle.paint.specs.Reading.{parse_paint}
use Rattle.paint.specs.Answers.{parse_trimmed, from_str}
use Rattle.inherit.specs.Rule.{is_inherit, is_empty, says, chosen, asked, inherited_of, bytes_of, inherited_part}
use Rattle.std.specs.Prelude.{Ok, Some, None}
use Rattle.inherit.specs.declared.Whose.TheVariants as W

-- the parent's part, trimmed
parent_chosen : inherited_of (ascii " inherit ") (ascii "  none ") ≡ Ok (Some (chosen W.Parent (record { start = record { 0 = 2 }; len = 4 })))
unfolding inherited_of asked says is_empty is_inherit trim_part from_str parse_trimmed admit_text admit_utf8 utf8_of walk char_len len_at row_of keeps within trim_of trim_start front trim_end back blank_at blank_len blank_before blank_end byte_before blank1 blank2 blank3 parse_paint same move_paint
parent_chosen = refl

parent_bytes : inherited_part [] (ascii " none") ≡ ascii "none"
unfolding inherited_part bytes_of inherited_of asked says is_empty is_inherit trim_part from_str parse_trimmed admit_text admit_utf8 utf8_of walk char_len len_at row_of keeps within trim_of trim_start front trim_end back blank_at blank_len blank_before blank_end byte_before blank1 blank2 blank3 parse_paint same move_paint
parent_bytes = refl

-- a parent that is not chosen is not looked at
own_chosen : inherited_of (ascii " currentColor") (0xff ∷ []) ≡ Ok (Some (chosen W.Own (record { start = record { 0 = 1 }; len = 12 })))
unfolding inherited_of asked says is_empty is_inherit trim_part from_str parse_trimmed admit_text admit_utf8 utf8_of walk char_len len_at row_of keeps within trim_of trim_start front trim_end back blank_at blank_len blank_before blank_end byte_before blank1 blank2 blank3 parse_paint same move_paint
own_chosen = refl

-- the parent is U+00A0, which trimming takes away
empty_both : inherited_of [] (0xc2 ∷ 0xa0 ∷ []) ≡ Ok None
unfolding inherited_of asked says is_empty is_inherit trim_part from_str parse_trimmed admit_text admit_utf8 utf8_of walk char_len len_at row_of keeps within trim_of trim_start front trim_end back blank_at blank_len blank_before blank_end byte_before blank1 blank2 blank3 parse_paint same move_paint
empty_both = refl

inherit_both : inherited_of (ascii "inherit") (ascii " inherit") ≡ Ok None
unfolding inherited_of asked says is_empty is_inherit trim_part from_str parse_trimmed admit_text admit_utf8 utf8_of walk char_len len_at row_of keeps within trim_of trim_start front trim_end back blank_at blank_len blank_before blank_end byte_before blank1 blank2 blank3 parse_paint same move_paint
inherit_both = refl

higher_bytes : inherited_part (ascii "inherit") (ascii " ") ≡ []
unfolding inherited_part bytes_of inherited_of asked says is_empty is_inherit trim_part from_str parse_trimmed admit_text admit_utf8 utf8_of walk char_len len_at row_of keeps within trim_of trim_start front trim_end back blank_at blank_len blank_before blank_end byte_before blank1 blank2 blank3 parse_paint same move_paint
higher_bytes = refl
