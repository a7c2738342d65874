-- What the readers take of each grammar, which no public document has: its domain of numbers, and how a link ends. The theorems speak of this part alone.
use Rattle.std.specs.Prelude.{ℕ, ◌+◌, ◌≤◌, ◌<◌, Bool, true, false, ◌&&◌, ◌||◌, not, List, [], ◌∷◌, ◌≡◌, eqb}
use Rattle.standards.specs.Rfc3629.{Char, scalar}
use Rattle.standards.specs.Unicode.{ends_white}
use Rattle.standards.specs.CssValues3.{Blank, space, tab, line_feed, return, Number, joined, fraction_digits, power, falls}
use Rattle.standards.specs.CssColor3.{as_number, Rgb, integers, percentages, Hsl, Functional, rgb, rgba, hsl, hsla}
use Rattle.standards.specs.Svg2 as Svg
use Rattle.standards.specs.Svg2Lists.{Parted, LengthList}
use Rattle.standards.specs.FilterEffects1 as Filter

-- "scale is exponent minus fraction digits, within -22 to 22"
abbrev pub Near : Bool → ℕ → ℕ → Type 0
Near true e f = e + f ≤ 22
Near false e f = (e ≤ f + 22) × (f ≤ e + 22)

-- "All digits before the exponent, joined, make M, below 9,007,199,254,740,992"
pub record InDomain (n : Number) : Type 0 where
  pub small : joined n.digits_of < 9007199254740992
  pub near : Near (falls n.exponent_part) (power n.exponent_part) (fraction_digits n.digits_of)

-- all the numbers of a colour's notation are so
abbrev pub RgbInDomain : Rgb → Type 0
RgbInDomain (integers x y z) = InDomain (as_number x.value) × (InDomain (as_number y.value) × InDomain (as_number z.value))
RgbInDomain (percentages x y z) = InDomain x.value × (InDomain y.value × InDomain z.value)

abbrev pub HslInDomain : Hsl → Type 0
HslInDomain t = InDomain t.hue.value × (InDomain t.saturation.value × InDomain t.lightness.value)

abbrev pub AllInDomain : Functional → Type 0
AllInDomain (rgb w t) = RgbInDomain t
AllInDomain (rgba w t a) = RgbInDomain t × InDomain a.value
AllInDomain (hsl w t) = HslInDomain t
AllInDomain (hsla w t a) = HslInDomain t × InDomain a.value

-- all the numbers of a list of lengths
abbrev pub PartedInDomain : List Parted → Type 0
PartedInDomain [] = Unit {0}
PartedInDomain (p ∷ ps) = InDomain p.length_part.number_part × PartedInDomain ps

abbrev pub LengthsInDomain : LengthList → Type 0
LengthsInDomain t = PartedInDomain t.firsts × InDomain t.last.number_part

-- An unquoted link ends at a space or at the bracket alone: of `url(#a`, a tab, `)` the tab is taken for a part of the link, and CSS Syntax 3 says otherwise
unfoldable pub ends_link : List Blank → Bool
ends_link [] = true
ends_link (space ∷ l) = true
ends_link (tab ∷ l) = false
ends_link (line_feed ∷ l) = false
ends_link (return ∷ l) = false

-- One in quotes has neither quote (39, 34) in it, and does not end with White_Space, which is trimmed away
unfoldable pub unquoted : List Char → Bool
unquoted [] = true
unquoted (c ∷ cs) = not (eqb (scalar c) 39 || eqb (scalar c) 34) && unquoted cs

unfoldable pub closed : Svg.Quotes → List Char → List Blank → Bool
closed Svg.bare cs after = ends_link after
closed Svg.single cs after = unquoted cs && not (ends_white cs)
closed Svg.twofold cs after = unquoted cs && not (ends_white cs)

abbrev pub Closes : Svg.Url → Type 0
Closes u = closed u.quotes (Svg.name_characters u) u.after ≡ true

-- the link of a paint is so
abbrev pub PaintCloses : {Colour : Type 0} → Svg.Paint Colour → Type 0
PaintCloses Svg.none = Unit {0}
PaintCloses Svg.inherit = Unit {0}
PaintCloses Svg.current_color = Unit {0}
PaintCloses Svg.context_fill = Unit {0}
PaintCloses Svg.context_stroke = Unit {0}
PaintCloses (Svg.plain c) = Unit {0}
PaintCloses (Svg.linked u f) = Closes u

-- all the numbers of a filter function, and its link
unfoldable pub amount_number : Filter.Amount → Number
amount_number (Filter.plain n) = n.of
amount_number (Filter.percentage n) = n.of

unfoldable pub angle_number : Filter.CssAngle → Number
angle_number (Filter.angle n u) = n
angle_number (Filter.zero n z) = n

abbrev pub OffsetsTaken : Filter.Offsets → Type 0
OffsetsTaken (Filter.two dx b l dy) = InDomain dx.size × InDomain dy.size
OffsetsTaken (Filter.three dx b l dy c m d p) = InDomain dx.size × InDomain dy.size × InDomain d.size

abbrev pub ShadowTaken : {Colour : Type 0} → Filter.Shadow Colour → Type 0
ShadowTaken (Filter.bare o) = OffsetsTaken o
ShadowTaken (Filter.colour_first c b l o) = OffsetsTaken o
ShadowTaken (Filter.colour_last o b l c) = OffsetsTaken o

abbrev pub Taken : {Colour : Type 0} → Filter.Content Colour → List Blank → Type 0
Taken Filter.blur_default m = Unit {0}
Taken (Filter.blur l p) m = InDomain l.size
Taken (Filter.simple_default f) m = Unit {0}
Taken (Filter.simple f a) m = InDomain (amount_number a)
Taken Filter.hue_rotate_default m = Unit {0}
Taken (Filter.hue_rotate a) m = InDomain (angle_number a)
Taken (Filter.drop_shadow d) m = ShadowTaken d
Taken (Filter.url c l) m = ends_link m ≡ true

-- those of a list
abbrev pub AllTaken : {Colour : Type 0} → List (Filter.Item Colour) → Type 0
AllTaken [] = Unit {0}
AllTaken (t ∷ ts) = Taken t.function.content t.function.after × AllTaken ts
