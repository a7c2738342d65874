-- An answer as a row of 24 numbers, which crosses the C boundary: the paper's record of the answer, laid out alike for every call.
--   0 the refusal's number, 0 for none; 1 position; 2 place; 3 found; 4 wanted; 5 part's start; 6 part's length
--   7 a list's state: 0 a value, 1 the end, 2 the end by `none`, 3 refused; 8 the list place; both 0 where there is no list
--   9 .. 20 the result; 21 and 22 where the refusal's stretch starts and ends
-- A result has at most twelve numbers; what a call does not use is 0.
use Rattle.std.specs.Prelude.{ℕ, Bool, cond, List, [], ◌∷◌, ◌++◌, eqb, Float, get_or, Result, Ok, Err, Option, Some, None}
use Rattle.std.specs.Float.{binary64}
use Rattle.std.specs.Float.Ieee.{to_bits}
use Rattle.stream.specs.Paper.{PaperRefusal, no_refusal}
use Rattle.text_bytes.specs.declared.Part.{Part}
use Rattle.text_bytes.specs.declared.Place.{Place}
use Rattle.stream.specs.declared.Refusal.{Refusal}
use Rattle.length.specs.Lengths.{LengthStep}
use Rattle.numbers.specs.declared.Written.{Written}
use Rattle.color.specs.Paper as colors
use Rattle.color.specs.declared.Color.{Color}
use Rattle.length.specs.Paper as lengths
use Rattle.length.specs.declared.Length.{Length}
use Rattle.length.specs.declared.LengthUnit.{LengthUnit}
use Rattle.length.specs.declared.LengthUnit.TheVariants as U
use Rattle.angle.specs.Angles.{to_degrees}
use Rattle.angle.specs.Paper as angles
use Rattle.angle.specs.declared.Angle.{Angle}
use Rattle.angle.specs.declared.AngleUnit.{AngleUnit}
use Rattle.angle.specs.declared.AngleUnit.TheVariants as W
use Rattle.funciri.specs.Paper as links
use Rattle.paint.specs.Paper as paints
use Rattle.paint.specs.declared.Paint.{Paint}
use Rattle.inherit.specs.Paper as inherits
use Rattle.inherit.specs.declared.Chosen.{Chosen}
use Rattle.inherit.specs.declared.WhoseRefusal.{WhoseRefusal}
use Rattle.filter_functions.specs.Paper as filters
use Rattle.filter_functions.specs.Filters.{FilterStep}
use Rattle.filter_functions.specs.declared.Listed.{Listed}
use Rattle.filter_functions.specs.declared.Listed.TheVariants as T
use Rattle.filter_functions.specs.declared.FilterValue.{FilterValue}
use Rattle.filter_functions.specs.declared.Shadow.{Shadow}
use Rattle.records.specs.declared.State.{State}
use Rattle.records.specs.declared.State.TheVariants as S

-- a refusal, a list's state and place, and a result's numbers, of which there may be fewer than twelve
unfoldable pub row : PaperRefusal → ℕ → ℕ → List ℕ → List ℕ
row e state place v =
    e.number ∷ e.position ∷ e.place.0 ∷ e.found ∷ e.wanted ∷ e.part.start.0 ∷ e.part.len ∷ state ∷ place
    ∷ get_or v 0 0 ∷ get_or v 1 0 ∷ get_or v 2 0 ∷ get_or v 3 0 ∷ get_or v 4 0 ∷ get_or v 5 0 ∷ get_or v 6 0 ∷ get_or v 7 0
    ∷ get_or v 8 0 ∷ get_or v 9 0 ∷ get_or v 10 0 ∷ get_or v 11 0 ∷ e.from.0 ∷ e.to.0 ∷ 0 ∷ []

-- a list's state by its number; 0 too where there is no list
unfoldable pub state_number : State → ℕ
state_number S.Value = 0
state_number S.End = 1
state_number S.NoneWord = 2
state_number S.Refused = 3

-- a result, with a list's place or 0
abbrev pub found_row : ℕ → List ℕ → List ℕ
found_row place v = row no_refusal 0 place v

-- the end of a list, 1, or its end by `none`, 2
abbrev pub end_row : ℕ → ℕ → List ℕ
end_row state place = row no_refusal state place []

-- a float by its bits. No number that is read is a NaN; one would be 0x7ff8_0000_0000_0000
unfoldable pub bits_of : Float → ℕ
bits_of x = to_bits binary64 x

-- a colour: 9 red, 10 green, 11 blue, 12 alpha
abbrev pub color_entries : Color → List ℕ
color_entries c = c.red ∷ c.green ∷ c.blue ∷ c.alpha ∷ []

unfoldable pub color_record : Result Color Refusal → List ℕ
color_record a = row (colors.paper a).refusal 0 0 (color_entries (colors.paper a).result)

unfoldable pub length_unit : LengthUnit → ℕ
length_unit U.None = 0
length_unit U.Em = 1
length_unit U.Ex = 2
length_unit U.Px = 3
length_unit U.In = 4
length_unit U.Cm = 5
length_unit U.Mm = 6
length_unit U.Pt = 7
length_unit U.Pc = 8
length_unit U.Percent = 9

-- a length: 9 the number's bits, 10 the unit
abbrev pub length_entries : Length → List ℕ
length_entries l = bits_of l.number ∷ length_unit l.unit ∷ []

-- how a length's or an angle's number was written: whether with neither a dot nor an exponent, and where it ended
abbrev pub written_entries : Bool → Place → List ℕ
written_entries whole end = cond whole 1 0 ∷ end.0 ∷ []

-- a length as such, whole or of a list: 11 whether its number is whole, 12 where it ended
unfoldable pub length_record : Result (Written Length) Refusal → List ℕ
length_record a = row (lengths.paper a).refusal 0 0 (length_entries (lengths.paper a).result ++ written_entries (lengths.paper a).whole (lengths.paper a).end)

-- A list's state is ours: the paper's step tells that a list has ended, and a refusal by its number, but not an end by `none`, 2, from an end, 1
abbrev pub length_item_state : Result (Option (Written Length)) Refusal → ℕ
length_item_state (Ok (Some w)) = 0
length_item_state (Ok None) = 1
length_item_state (Err e) = 3

abbrev pub length_state : LengthStep → ℕ
length_state x = length_item_state x.item

unfoldable pub length_step_record : LengthStep → List ℕ
length_step_record x =
    row (lengths.paper_step x).refusal (length_state x) (lengths.paper_step x).place.0
    (length_entries (lengths.paper_step x).result ++ written_entries (lengths.paper_step x).whole (lengths.paper_step x).end)

unfoldable pub angle_unit : AngleUnit → ℕ
angle_unit W.Degrees = 0
angle_unit W.Gradians = 1
angle_unit W.Radians = 2
angle_unit W.Turns = 3

-- an angle: 9 the number's bits, 10 the unit, 11 the degrees' bits; 12 whether its number is whole, 13 where it ended
abbrev pub angle_entries : Angle → List ℕ
angle_entries a = bits_of a.number ∷ angle_unit a.unit ∷ bits_of (to_degrees a) ∷ []

unfoldable pub angle_record : Result (Written Angle) Refusal → List ℕ
angle_record a = row (angles.paper a).refusal 0 0 (angle_entries (angles.paper a).result ++ written_entries (angles.paper a).whole (angles.paper a).end)

-- a link: 9 its start, 10 its length
abbrev pub link_entries : Part → List ℕ
link_entries link = link.start.0 ∷ link.len ∷ []

unfoldable pub link_record : Result Part Refusal → List ℕ
link_record a = row (links.paper a).refusal 0 0 (link_entries (links.paper a).result)

-- a paint: 9 its kind, 10 its link's start, 11 its link's length, 12 its fallback, 13 .. 16 the colour, its own or its fallback's
abbrev pub paint_entries : paints.PaperPaint → List ℕ
paint_entries p =
    p.kind ∷ p.link.start.0 ∷ p.link.len ∷ p.fallback.kind ∷ color_entries (cond (eqb p.kind 6) p.color p.fallback.color)

unfoldable pub paint_row : Paint → List ℕ
paint_row v = found_row 0 (paint_entries (paints.paper_paint v))

unfoldable pub paint_record : Result Paint Refusal → List ℕ
paint_record a = row (paints.paper a).refusal 0 0 (paint_entries (paints.paper a).result)

-- the inherit rule: 9 whose text, of a refusal too, or 3 where neither tells; 10 the part's start, 11 its length
unfoldable pub inherited_record : Result (Option Chosen) WhoseRefusal → List ℕ
inherited_record a =
    row (inherits.paper_inherited a).refusal 0 0 ((inherits.paper_inherited a).whose ∷ link_entries (inherits.paper_inherited a).part)

-- a shadow's colour: 16 whether there is one, 17 .. 20 the colour
unfoldable pub shadow_color_entries : Option Color → List ℕ
shadow_color_entries None = 0 ∷ []
shadow_color_entries (Some c) = 1 ∷ color_entries c

-- a shadow: 10 and 11 dx as bits and unit, 12 and 13 dy, 14 and 15 the deviation; and its colour
abbrev pub shadow_entries : Shadow → List ℕ
shadow_entries d =
    length_entries d.dx ++ (length_entries d.dy ++ (length_entries d.deviation ++ shadow_color_entries d.color))

-- a filter value: 9 its kind, then what is its own: of kind 1 a length, of 2 a shadow, of 6 an angle as bits and unit, of 11 a link, of any other its number by its bits
abbrev pub filter_entries : filters.PaperValue → List ℕ
filter_entries r =
    r.kind
    ∷ cond (eqb r.kind 1) (length_entries r.measure)
    (cond (eqb r.kind 2) (shadow_entries r.shadow)
    (cond (eqb r.kind 6) (bits_of r.turn.number ∷ angle_unit r.turn.unit ∷ [])
    (cond (eqb r.kind 11) (link_entries r.link) (bits_of r.number ∷ []))))

unfoldable pub filter_row : ℕ → FilterValue → List ℕ
filter_row place v = found_row place (filter_entries (filters.result v))

-- as of lengths
abbrev pub filter_item_state : Result Listed Refusal → ℕ
filter_item_state (Ok (T.Value v)) = 0
filter_item_state (Ok T.End) = 1
filter_item_state (Ok T.NoneWord) = 2
filter_item_state (Err e) = 3

abbrev pub filter_state : FilterStep → ℕ
filter_state x = filter_item_state x.item

unfoldable pub filter_record : FilterStep → List ℕ
filter_record x =
    row (filters.paper_step x).refusal (filter_state x) (filters.paper_step x).place.0 (filter_entries (filters.paper_step x).value)

-- a call that answers by one number: the entries after it are its answer's record for the number 0, which is no value's; else as they were
abbrev pub record_for : ℕ → List ℕ → List ℕ → List ℕ
record_for number told lent = cond (eqb number 0) told lent
