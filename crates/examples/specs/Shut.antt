-- Wrong answers that the definitions shut out, an example of each.
use Rattle.std.specs.Prelude.{true, false, [], ◌∷◌, ◌≡◌, Ok, Err, Some, None}
use Rattle.text_bytes.specs.Moves.{place}
use Rattle.text_bytes.specs.Words.{ascii}
use Rattle.stream.specs.Refusals.{bare_refusal, empty_refusal}
use Rattle.stream.specs.Steps.{refused_step}
use Rattle.length.specs.Lengths.{value_step}
use Rattle.stream.specs.declared.Trouble.TheVariants as T
use Rattle.stream.specs.declared.Reason.TheVariants as R
use Rattle.length.specs.Lengths as lengths
use Rattle.length.specs.Lengths.{next_length}
use Rattle.length.specs.declared.LengthUnit.TheVariants as U
use Rattle.color.specs.Answer as colors
use Rattle.color.specs.Hex.{rgba}
use Rattle.funciri.specs.Answers.{iri_from_str, func_iri_from_str}
use Rattle.funciri.specs.Link.{link_at}
use Rattle.paint.specs.Answers as paints
use Rattle.paint.specs.declared.Paint.TheVariants as W
use Rattle.inherit.specs.Rule.{inherited_of, chosen, refused}
use Rattle.inherit.specs.declared.Whose.TheVariants as O
use Rattle.filter_functions.specs.Filters as filters
use Rattle.filter_functions.specs.Filters.{next_filter}
use Rattle.filter_functions.specs.declared.FilterValue.TheVariants as G
use Rattle.set_back.specs.Answers.{hex_answer, keyword_answer}
use Rattle.set_back.specs.Texts.{hex_text}
use Rattle.examples.specs.Examples.{refusal, plain, one, two}

pub record Shut : Type 0 where
  -- an alpha is taken times 255, and not times 1
  pub alpha : colors.from_str (ascii "rgba(0,0,0,0.5)") ≡ Ok (rgba 0 0 0 128)
  -- a hex colour with no alpha is opaque
  pub no_alpha : colors.from_str (ascii "#123") ≡ Ok (rgba 17 34 51 255)
  -- a keyword's channels are its own line's
  pub tan : colors.from_str (ascii "tan") ≡ Ok (rgba 210 180 140 255)
  -- a plain filter function with nothing in its brackets is of 1, and not of 0
  pub by_default : next_filter (ascii "brightness()") 0 ≡ filters.value_step (G.Brightness one) (place 12)
  -- a hue is turned by 360 degrees, and not by 180
  pub hue : colors.from_str (ascii "hsl(120,100%,50%)") ≡ Ok (rgba 0 255 0 255)
  -- a link of `#` alone goes on past a bracket
  pub bracket : iri_from_str (ascii "#a)") ≡ Ok (link_at (place 1) 2)
  -- a quoted link starts after its `#`
  pub quoted : func_iri_from_str (ascii "url('#a')") ≡ Ok (link_at (place 6) 1)
  -- a quote inside a link is refused
  pub stray : func_iri_from_str (ascii "url(#a'b)") ≡ Err (empty_refusal (R.Unread T.InvalidValue) 8)
  -- a paint is read without the white space at its ends
  pub trimmed : paints.from_str (ascii " red ") ≡ Ok (W.Color (rgba 255 0 0 255))
  -- a link's place counts from the lent text, and not from the trimmed one
  pub moved : paints.from_str (ascii " url(#a)") ≡ Ok (W.FuncIRI (link_at (place 6) 1) None)
  -- the parent's text is chosen for `inherit`,
  pub inherits : inherited_of (ascii "inherit") (ascii "red") ≡ Ok (Some (chosen O.Parent (link_at (place 0) 3)))
  -- and for no other word
  pub current : inherited_of (ascii "currentColor") (ascii "red") ≡ Ok (Some (chosen O.Own (link_at (place 0) 12)))
  -- a refusal of the parent's text is told as the parent's
  pub whose : inherited_of (ascii "inherit") (ascii "x") ≡ Err (refused O.Parent (empty_refusal (R.Unread T.InvalidValue) 1))
  -- an empty own text chooses the parent's, and U+00A0 is empty after trimming
  pub empty_own : inherited_of [] (ascii "red") ≡ Ok (Some (chosen O.Parent (link_at (place 0) 3)))
  pub empty_both : inherited_of [] (0xc2 ∷ 0xa0 ∷ []) ≡ Ok None
  -- a number outside the domain is not swallowed by a paint
  pub painted : paints.from_str (ascii "rgb(1e23,0,0)") ≡ Err (refusal T.ScaleOutOfRange 5 4 8)
  -- whichever of the three troubles it has
  pub painted_large : paints.from_str (ascii "rgb(9007199254740992,0,0)") ≡ Err (refusal T.TooLarge 5 4 20)
  pub painted_form : paints.from_str (ascii "rgb(1.,0,0)") ≡ Err (refusal T.WrongForm 5 4 6)
  -- but a text that has ended is, as a wrong byte is
  pub painted_ended : paints.from_str (ascii "rgb(") ≡ Err (empty_refusal (R.Unread T.InvalidValue) 4)
  -- a fallback's refusal is not swallowed
  pub fallback_ended : paints.from_str (ascii "url(#a) rgb(") ≡ Err (refusal T.TextEnded 5 4 4)
  -- nor by a shadow, in its colour
  pub shaded : next_filter (ascii "drop-shadow(rgb(1e23,0,0) 1 2)") 0 ≡ refused_step (refusal T.ScaleOutOfRange 17 16 20) (place 30)
  -- a colour that is not opaque has no keyword: 0,0,0,0 is not `black`
  pub unnamed : keyword_answer (rgba 0 0 0 0) 24 ≡ Err (bare_refusal R.NoKeyword)
  -- where no keyword has the colour, none could be too long for what is lent
  pub unlent : keyword_answer (rgba 1 2 3 255) 0 ≡ Err (bare_refusal R.NoKeyword)
  -- the long form is not shortened to fit
  pub unshortened : hex_answer (rgba 17 34 51 255) false 4 ≡ Err (bare_refusal R.BufferTooShort)
  -- the short form leaves an alpha of 255 out as well
  pub opaque : hex_text (rgba 17 34 51 255) true ≡ ascii "#123"
  -- where the text has ended after spaces no number starts by 22, and not by 9; at the end itself a list number is 4
  pub ended : colors.from_str (ascii "rgb(1, ") ≡ Err (refusal T.TextEnded 8 7 7)
  pub ended_at_once : colors.from_str (ascii "rgb(") ≡ Err (refusal T.TextEnded 5 4 4)
  pub ended_in_list : colors.from_str (ascii "rgb(1,") ≡ Err (empty_refusal (R.Unread T.UnexpectedEndOfStream) 6)
  -- a list of one space is 22
  pub one_space : next_length (ascii " ") 0 ≡ refused_step (refusal T.TextEnded 2 1 1) (place 1)
  -- M is too large by 23, the scale out of range by 24
  pub too_large : lengths.from_str (ascii "9007199254740992") ≡ Err (refusal T.TooLarge 1 0 16)
  pub far_scale : lengths.from_str (ascii "1e23") ≡ Err (refusal T.ScaleOutOfRange 1 0 4)
  pub far_nought : lengths.from_str (ascii "0e23") ≡ Err (refusal T.ScaleOutOfRange 1 0 4)
  -- the form is judged before M, and M before the scale
  pub form_first : lengths.from_str (ascii "9007199254740992.") ≡ Err (refusal T.WrongForm 1 0 17)
  pub large_first : lengths.from_str (ascii "9007199254740992e23") ≡ Err (refusal T.TooLarge 1 0 19)
  -- the stretch of a wrong form takes in the last byte that the form can take
  pub whole_beginning : lengths.from_str (ascii "1.") ≡ Err (refusal T.WrongForm 1 0 2)
  -- that of a filter's number starts at the filter's name, and ends after the unit
  pub from_the_name : next_filter (ascii "blur() sepia(-1)") 7 ≡ refused_step (refusal T.NegativeValue 14 7 15) (place 16)
  -- that of an unknown name goes to the end of the text
  pub to_the_end : next_filter (ascii "foo() blur()") 0 ≡ refused_step (refusal T.UnexpectedData 1 0 12) (place 12)
  -- a paint's 5 stands where the reading of the colour or of the link stopped
  pub stopped_color : paints.from_str (ascii " red)") ≡ Err (empty_refusal (R.Unread T.InvalidValue) 3)
  pub stopped_link : paints.from_str (ascii "url(x)") ≡ Err (empty_refusal (R.Unread T.InvalidValue) 4)
  -- a text that is not UTF-8 is refused at its place in the lent text, in a paint too
  pub ill_formed_place : paints.from_str (32 ∷ 0xff ∷ []) ≡ Err (empty_refusal R.IllFormed 1)
  -- a number ends before its unit, and a percentage's before the `%`
  pub before_the_unit : lengths.from_str (ascii "2%") ≡ Ok (record { value = record { number = two; unit = U.Percent }; whole = true; end = place 1 })
  pub after_spaces : next_length (ascii "1, 2px") 2 ≡ value_step (record { value = record { number = two; unit = U.Px }; whole = true; end = place 4 }) (place 6)
  -- a dot or an exponent is told, though the value is whole
  pub dotted : lengths.from_str (ascii "2.0") ≡ Ok (record { value = plain two; whole = false; end = place 3 })
  pub scaled : lengths.from_str (ascii "2e0px") ≡ Ok (record { value = record { number = two; unit = U.Px }; whole = false; end = place 3 })
  -- 3 tells no stretch
  pub bad_place : next_filter (0xc3 ∷ 0xa9 ∷ []) 1 ≡ refused_step (bare_refusal R.BadListPlace) (place 1)
