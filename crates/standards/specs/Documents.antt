-- The readers against the public documents, in one statement, which proofs/Whole proves. Nothing is left open but what the readers ask of a text: its numbers' domain, how a link is closed, and 4,096 bytes.
use Rattle.std.specs.Prelude.{ℕ, ◌+◌, ◌*◌, ◌^◌, ◌≤◌, Bool, false, List, ◌∷◌, ◌++◌, [], ◌≡◌, ℤ, length, get_or, Ok}
use Rattle.std.specs.Float.{fin, binary64}
use Rattle.text_bytes.specs.Bytes.{is_ascii_ident}
use Rattle.text_bytes.specs.Moves.{place}
use Rattle.numbers.specs.Number.{parse_number, parse_number_or_percent}
use Rattle.length.specs.Lengths as Lengths
use Rattle.angle.specs.Angles as Angles
use Rattle.color.specs.Answer as Colors
use Rattle.color.specs.Color.{parse_color}
use Rattle.funciri.specs.Link.{link_at, link_bytes}
use Rattle.paint.specs.Answers as Paints
use Rattle.filter_functions.specs.Filters.{parse_step, next_filter, end_step}
use Rattle.filter_functions.specs.declared.Listed.TheVariants as Listed
use Rattle.joins.specs.Joins.{answers}
use Rattle.standards.specs.Written.{ascii}
use Rattle.standards.specs.Ieee754.{parameters, RoundsTo, double, exact, product, quotient}
use Rattle.standards.specs.CssValues3.{Blank, blanks, Number, number, exactly, is_integer, grad, rad, turn}
use Rattle.standards.specs.CssColor3.{Spelling, Hsl, Spaced, Functional, functional, hsl, hsla}
use Rattle.standards.specs.CssColor4.{Channels}
use Rattle.standards.specs.Svg2.{unitless, Length, length_text, unmarked, marked, Angle, angle_text, in_degrees, ratio, radian_below, turns_exactly, gradians_exactly, Url, name, opening, Fallback, Paint, linked, paint_text}
use Rattle.standards.specs.FilterEffects1.{Positive, percentage, share, Item, FilterValueList, item_text, items_text, list_text, meaning}
use Rattle.standards.specs.Domain.{InDomain, AllInDomain, PaintCloses, Taken, AllTaken}
use Rattle.standards.specs.Colors.{Colour, function, colour}
use Rattle.standards.specs.Meaning.{Means}
use Rattle.standards.specs.Answers.{Ends, Stops, read_on, number_of, portion, Hundredth, length_written, angle_of, angle_written, color_of, hsl_of, paint_of, value, link_place, handed}

pub record Documents : Type 0 where
  -- CSS Values 3, section 4.2, <number>; IEEE 754, section 4.3.1. A number after white space is read, up to its end, as the double nearest to what is written, of two as near the even one
  pub numbers : (l : List Blank) (t : Number) (rest : List ℕ) → InDomain t → Ends rest
      → (let end = length l + length (number t) in parse_number (blanks l ++ (number t ++ rest)) 0 ≡ read_on (number_of t end) (place end))
      × RoundsTo (parameters binary64) (exactly t) (double (exactly t))
  -- CSS Values 3, section 4.3, <percentage>. A number and `%` (37) is read as a hundredth of it: the nearest double, divided by 100, and that rounded again
  pub hundredths : (l : List Blank) (t : Number) (rest : List ℕ) → InDomain t
      → (let end = length l + length (number t) in
      parse_number_or_percent (blanks l ++ (number t ++ (37 ∷ rest))) 0 ≡ read_on (record { value = portion t; whole = is_integer t; end = place end }) (place (end + 1)))
      × Hundredth (exactly t) (portion t)
  -- SVG 2, section 8.9; CSS Values 3, section 5. A length, after white space, is answered as its number and its unit, with whether it is an <integer> and where the number ends
  pub lengths : (before : List Blank) (t : Length) → InDomain t.number_part → length (blanks before ++ length_text t) ≤ 4096
      → Lengths.from_str (blanks before ++ length_text t) ≡ Ok (length_written t (length before + length (number t.number_part)))
  -- In a text it is read so up to its end; if it has no unit, what follows must go on neither with the number nor as a unit
  pub length_front : (before : List Blank) (t : Length) (rest : List ℕ) → InDomain t.number_part → (t.unit_part ≡ unitless → Stops rest)
      → Lengths.parse_length (blanks before ++ (length_text t ++ rest)) 0
      ≡ read_on (length_written t (length before + length (number t.number_part))) (place (length before + length (length_text t)))
  -- CSS Values 3, section 6.1. An angle, after white space, is answered as its number and its unit, likewise; with none it is in degrees
  pub angles : (before : List Blank) (t : Angle) → InDomain t.number_part → length (blanks before ++ angle_text t) ≤ 4096
      → Angles.from_str (blanks before ++ angle_text t) ≡ Ok (angle_written t (length before + length (number t.number_part)))
  -- In a text it is read so up to its end, likewise
  pub angle_front : (before : List Blank) (t : Angle) (rest : List ℕ) → InDomain t.number_part → (t.unit_part ≡ unmarked → Stops rest)
      → Angles.parse_angle (blanks before ++ (angle_text t ++ rest)) 0
      ≡ read_on (angle_written t (length before + length (number t.number_part))) (place (length before + length (angle_text t)))
  -- Its degrees are the document's, step by step in doubles
  pub degrees : (t : Angle) → Angles.to_degrees (angle_of t) ≡ in_degrees t.unit_part (double (exactly t.number_part))
  -- A turn is 360 degrees: of n turns, a double, 360 n, rounded once; of n radians the product of n and of the double nearest to 180 / π, rounded once
  pub turns : (t : Number) (s : Bool) (m : ℕ) (e : ℤ) → double (exactly t) ≡ fin s m e
      → RoundsTo (parameters binary64) (turns_exactly (exact s m e)) (Angles.to_degrees (angle_of (record { number_part = t; unit_part = marked turn })))
  pub radians : (t : Number) (s : Bool) (m : ℕ) (e : ℤ) → double (exactly t) ≡ fin s m e → (r : Bool) (n : ℕ) (d : ℤ) → double radian_below ≡ fin r n d
      → RoundsTo (parameters binary64) (product (exact s m e) (exact r n d)) (Angles.to_degrees (angle_of (record { number_part = t; unit_part = marked rad })))
  -- 400 gradians are 360 degrees: of a whole number n of them, up to n = 2 ^ 53 / 180, the double nearest to n * 360 / 400
  pub gradians : (t : Number) (n : ℕ) → (exactly t).over ≡ n * (exactly t).under → n * 180 ≤ 2 ^ 53
      → RoundsTo (parameters binary64) (gradians_exactly (exactly t)) (Angles.to_degrees (angle_of (record { number_part = t; unit_part = marked grad })))
  -- Filter Effects 1, section 6. A whole number n of percent, up to 2 ^ 53, is the double nearest to n / 100
  pub shares : (t : Positive) (n : ℕ) → (exactly t.of).over ≡ n * (exactly t.of).under → n ≤ 2 ^ 53
      → RoundsTo (parameters binary64) (quotient (exactly t.of) (ratio 100 1)) (share (percentage t))
  -- CSS Color 3, section 4; CSS Color 4, the hex notations. Every colour has four channels that it means,
  pub channels : Colour → Channels
  pub means : (t : Colour) → Means t (channels t)
  -- which for hsl() and hsla() are those of the readers' steps
  pub steps : (w : Spelling (ascii "hsl")) (t : Hsl) (d : AllInDomain (hsl w t)) → color_of (channels (function (hsl w t) d)) ≡ hsl_of t
  pub steps_with_alpha : (w : Spelling (ascii "hsla")) (t : Hsl) (a : Spaced Number) (d : AllInDomain (hsla w t a))
      → let c = channels (function (hsla w t a) d) in
      (c.red ≡ (hsl_of t).red) × ((c.green ≡ (hsl_of t).green) × (c.blue ≡ (hsl_of t).blue))
  -- With white space about it, it is answered with them
  pub colours : (before after : List Blank) (t : Colour) → length (blanks before ++ (colour t ++ blanks after)) ≤ 4096
      → Colors.from_str (blanks before ++ (colour t ++ blanks after)) ≡ Ok (color_of (channels t))
  -- In a text it is read so up to its end, if no letter, digit, `-` or `_` follows; a function is, whatever follows its bracket
  pub colour_front : (t : Colour) (rest : List ℕ) → is_ascii_ident (get_or rest 0 0) ≡ false → parse_color (colour t ++ rest) 0 ≡ read_on (color_of (channels t)) (place (length (colour t)))
  pub function_front : (t : Functional) (d : AllInDomain t) (rest : List ℕ) → parse_color (functional t ++ rest) 0 ≡ read_on (color_of (channels (function t d))) (place (length (functional t)))
  -- SVG 2, section 13.2, <paint>. A paint with white space about it is answered as the document has it: a word, a colour, or a link with what stands after it
  pub paints : (before after : List Blank) (t : Paint Colour) → PaintCloses t → length (blanks before ++ (paint_text colour t ++ blanks after)) ≤ 4096
      → Paints.from_str (blanks before ++ (paint_text colour t ++ blanks after)) ≡ Ok (paint_of (λ c. color_of (channels c)) (length before) t)
  -- The part of the text that a link is told by holds its name
  pub links : (before after : List Blank) (u : Url) (f : Fallback Colour)
      → link_bytes (blanks before ++ (paint_text colour (linked u f) ++ blanks after)) (link_at (place (length before + length (opening u))) (length (name u))) ≡ name u
  -- Filter Effects 1, sections 5 and 6. A filter value list hands out the effects of its functions, in order, each with the place where the next begins, and then ends
  pub filters : (l : FilterValueList Colour) → AllTaken (l.first ∷ l.others) → length (list_text colour l) ≤ 4096
      → answers next_filter (list_text colour l) 0
      ≡ handed (λ c. color_of (channels c)) colour (length l.leading) (l.first ∷ l.others) ++ (end_step (place (length (list_text colour l))) ∷ [])
  -- Each function's effect is read at the place where what stands before it ends, whatever functions follow
  pub filter_steps : (leading : List Blank) (ts : List (Item Colour)) (t : Item Colour) (us : List (Item Colour)) → Taken t.function.content t.function.after
      → let n = length leading + length (items_text colour ts) in
      parse_step (blanks leading ++ items_text colour (ts ++ (t ∷ us))) n
      ≡ read_on (Listed.Value (value (λ c. color_of (channels c)) (n + link_place t.function) (meaning t.function))) (place (n + length (item_text colour t)))
