-- The texts of Filter Effects 1's grammar are of ASCII, as its colours are, but for links: they are of characters.
use Prim.Native.Nat.{ℕ}
use mathlib.Core.List.{List, [], ◌∷◌, ◌++◌}
use mathlib.Core.Path.{refl}
use Rattle.color.specs.declared.Color.{Color}
use Rattle.standards.specs.CssValues3.{Blank, number, angle_unit}
use Rattle.standards.specs.FilterEffects1 as E
use Rattle.standards.specs.FilterEffects1.{LengthMark, unmarked, marked, length_mark, CssLength, css_length, Simple, brightness, contrast, grayscale, invert, opacity, saturate, sepia, simple_name, Offsets, two, three, offsets, gap}
use Rattle.standards.proofs.Runs.{Ascii, ascii_append, blanks_ascii, number_ascii}
use Rattle.standards.proofs.Units.{unit_ascii, angle_unit_ascii}
use Rattle.standards.specs.CssSyntax3.{characters}
use Rattle.standards.proofs.Tight.{ascii_written, blanks_written, written_append}
use Rattle.standards.proofs.Utf8.{Written}
use Rattle.standards.proofs.Shadows.{Coloured}

mark_ascii : (u : LengthMark) → Ascii (length_mark u)
unfolding length_mark
mark_ascii unmarked = refl
mark_ascii (marked u) = unit_ascii u

length_ascii : (l : CssLength) → Ascii (css_length l)
unfolding css_length
length_ascii l = ascii_append (number l.size) (length_mark l.mark) (number_ascii l.size) (mark_ascii l.mark)

amount_ascii : (a : E.Amount) → Ascii (E.amount a)
unfolding E.amount
amount_ascii (E.plain n) = number_ascii n.of
amount_ascii (E.percentage n) = ascii_append (number n.of) (37 ∷ []) (number_ascii n.of) refl

angle_ascii : (a : E.CssAngle) → Ascii (E.css_angle a)
unfolding E.css_angle
angle_ascii (E.angle n u) = ascii_append (number n) (angle_unit u) (number_ascii n) (angle_unit_ascii u)
angle_ascii (E.zero n z) = number_ascii n

simple_ascii : (f : Simple) → Ascii (simple_name f)
unfolding simple_name
simple_ascii brightness = refl
simple_ascii contrast = refl
simple_ascii grayscale = refl
simple_ascii invert = refl
simple_ascii opacity = refl
simple_ascii saturate = refl
simple_ascii sepia = refl

-- two texts with white space between them
gapped_ascii : (a : List ℕ) (b : Blank) (l : List Blank) (c : List ℕ) → Ascii a → Ascii c → Ascii (a ++ (gap b l ++ c))
gapped_ascii a b l c h k = ascii_append a (gap b l ++ c) h (ascii_append (gap b l) c (blanks_ascii (b ∷ l)) k)

offsets_ascii : (o : Offsets) → Ascii (offsets o)
unfolding offsets
offsets_ascii (two dx b l dy) = gapped_ascii (css_length dx) b l (css_length dy) (length_ascii dx) (length_ascii dy)
offsets_ascii (three dx b l dy c m d p) =
    gapped_ascii (css_length dx) b l (css_length dy ++ (gap c m ++ css_length d)) (length_ascii dx) (gapped_ascii (css_length dy) c m (css_length d) (length_ascii dy) (length_ascii d))

module _ {Colour : Type 0} {colour : Colour → List ℕ} {channels : Colour → Color} (coloured : Coloured colour channels) where
  tint_ascii : (c : E.Tint Colour) → Ascii (E.tint_text colour c)
  unfolding E.tint_text
  tint_ascii E.current = refl
  tint_ascii (E.tint c) = coloured.plain c

  shadow_ascii : (d : E.Shadow Colour) → Ascii (E.shadow_text colour d)
  unfolding E.shadow_text
  shadow_ascii (E.bare o) = offsets_ascii o
  shadow_ascii (E.colour_first c b l o) = gapped_ascii (E.tint_text colour c) b l (offsets o) (tint_ascii c) (offsets_ascii o)
  shadow_ascii (E.colour_last o b l c) = gapped_ascii (offsets o) b l (E.tint_text colour c) (offsets_ascii o) (tint_ascii c)

  name_ascii : (c : E.Content Colour) → Ascii (E.name colour c)
  unfolding E.name
  name_ascii E.blur_default = refl
  name_ascii (E.blur l p) = refl
  name_ascii (E.simple_default f) = simple_ascii f
  name_ascii (E.simple f a) = simple_ascii f
  name_ascii E.hue_rotate_default = refl
  name_ascii (E.hue_rotate a) = refl
  name_ascii (E.drop_shadow d) = refl
  name_ascii (E.url c l) = refl

  argument_written : (c : E.Content Colour) → Written (E.argument colour c)
  unfolding E.argument
  argument_written E.blur_default = ascii_written [] refl
  argument_written (E.blur l p) = ascii_written _ (length_ascii l)
  argument_written (E.simple_default f) = ascii_written [] refl
  argument_written (E.simple f a) = ascii_written _ (amount_ascii a)
  argument_written E.hue_rotate_default = ascii_written [] refl
  argument_written (E.hue_rotate a) = ascii_written _ (angle_ascii a)
  argument_written (E.drop_shadow d) = ascii_written _ (shadow_ascii d)
  argument_written (E.url c l) = written_append (ascii_written (35 ∷ []) refl) (record { chars = characters (c ∷ l); same = refl })

  function_written : (t : E.FilterFunction Colour) → Written (E.function_text colour t)
  unfolding E.function_text
  function_written t =
      written_append (ascii_written (E.name colour t.content) (name_ascii t.content))
      (written_append (ascii_written (40 ∷ []) refl)
      (written_append (blanks_written t.before) (written_append (argument_written t.content) (written_append (blanks_written t.after) (ascii_written (41 ∷ []) refl)))))

  pub items_written : (ts : List (E.Item Colour)) → Written (E.items_text colour ts)
  unfolding E.items_text E.item_text
  items_written [] = ascii_written [] refl
  items_written (t ∷ ts) = written_append (written_append (function_written t.function) (blanks_written t.spaces)) (items_written ts)

  pub list_written : (l : E.FilterValueList Colour) → Written (E.list_text colour l)
  unfolding E.list_text
  list_written l = written_append (blanks_written l.leading) (items_written (l.first ∷ l.others))
