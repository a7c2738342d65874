-- What a drop-shadow's brackets hold, as the reader answers it.
use Prim.Native.Nat.{ℕ, zero, suc, ◌+◌, ◌-◌, ◌≤◌, ◌<◌}
use mathlib.Core.Bool.{false}
use mathlib.Core.List.{List, [], ◌∷◌, ◌++◌, append_assoc}
use mathlib.Core.Path.{◌≡◌, refl, sym, ap}
use native.Mathlib.Omega.{arith}
use borrow.Author.Tests.{ne_eqb, lt-leb}
use lib.Dec.{leb, lit≤}
use lib.ListN.{length, get_or, take, length-append, length-map}
use Rattle.text_bytes.specs.Bytes.{within, is_space, is_ascii_ident}
use Rattle.text_bytes.specs.Moves.{place}
use Rattle.stream.specs.Faults.{invalid_value}
use Rattle.stream.specs.Refusals.{number_of, is_outside_domain}
use Rattle.text_bytes.specs.Scan.{scan, run}
use Rattle.text_bytes.specs.Words.{ascii, same, part, is_curr_byte_eq, lower_of, lowered}
use Rattle.text_bytes.proofs.Parts.{byte_inside}
use Rattle.text_bytes.proofs.Ranges.{either}
use Rattle.numbers.specs.Number.{starts_number, parse_number}
use Rattle.length.specs.Lengths.{parse_length}
use Rattle.length.specs.Paper.{zero_length}
use Rattle.length.specs.declared.Length.{Length}
use Rattle.names.specs.Keywords.{keywords}
use Rattle.names.specs.Look.{look_up, named_of}
use Rattle.names.proofs.Naming.{named_low}
use Rattle.color.specs.Color.{is_rgb, is_hsl, named_color, parse_word, parse_color}
use Rattle.color.specs.declared.Color.{Color}
use Rattle.color.proofs.Shifts.{color_shift}
use Rattle.filter_functions.specs.Values.{parse_filter_length}
use Rattle.filter_functions.specs.Shadow.{try_parse_color, parse_deviation, parse_shadow_lengths, shadow_after, shadow_before, parse_drop_shadow_func}
use Rattle.filter_functions.specs.declared.FilterValue.{FilterValue}
use Rattle.filter_functions.specs.declared.FilterValue.TheVariants as G
use Rattle.std.specs.Prelude.{Ok, Err, Option, Some, None}
use Rattle.stream.specs.Moves.{move_read, moved, stays}
use Rattle.standards.specs.CssValues3.{Blank, blanks, is_minus}
use Rattle.standards.specs.Domain.{InDomain, OffsetsTaken, ShadowTaken}
use Rattle.standards.specs.FilterEffects1 as E
use Rattle.standards.specs.FilterEffects1.{CssLength, css_length, Measure, measure, Offsets, two, three, offsets, gap}
use Rattle.standards.specs.Answers.{unit_marked, measure_of, shadow_color, read_on}
use Rattle.standards.proofs.Reading.{NumbersRead}
use Rattle.standards.proofs.Cursors.{At, at_step, at_blanks, at_read, at_spaces, at_other, at_still, at_drop, at_get, at_more, starts_joined, no_word, differs}
use Rattle.standards.proofs.Runs.{run_every, Ascii, First}
use Rattle.standards.proofs.Marked.{Closes, gapped, closes_after, closes_word, nought_is, positive, first_space, length_at, length_first, no_percent}

-- no colour at place i; one; two offsets and a deviation
abbrev Missing : List ℕ → ℕ → Type 0
Missing s i = try_parse_color s i ≡ Ok None

abbrev Found : List ℕ → ℕ → Option Color → ℕ → Type 0
Found s i c j = try_parse_color s i ≡ Ok (Some (record { value = c; next = place j }))

abbrev Measured : List ℕ → ℕ → Length → Length → Length → ℕ → Type 0
Measured s i dx dy d j = parse_shadow_lengths s 0 i ≡ Ok (record { value = record { dx = dx; dy = dy; deviation = d }; next = place j })

abbrev shadow : Option Color → Length → Length → Length → FilterValue
shadow c dx dy d = G.DropShadow (record { color = c; dx = dx; dy = dy; deviation = d })

-- what a colour starts with
pub record Begins (x : ℕ) : Type 0 where
  pub unspaced : is_space x ≡ false
  pub no_number : starts_number x ≡ false
  pub no_bracket : x ≡ 41 → ⊥

-- The colours of a shadow: how one is read, whatever closes it, and what it starts with; of ASCII
pub record Coloured {Colour : Type 0} (colour : Colour → List ℕ) (channels : Colour → Color) : Type 0 where
  pub front : (t : Colour) (rest : List ℕ) → Closes rest → parse_color (colour t ++ rest) 0 ≡ read_on (channels t) (place (length (colour t)))
  pub begins : (t : Colour) (rest : List ℕ) → Begins (get_or (colour t ++ rest) 0 0)
  pub plain : (t : Colour) → Ascii (colour t)

-- what no colour starts with: no space, no `#`, no letter
record Low (b : List ℕ) : Type 0 where
  some : 0 < length b
  unspaced : is_space (get_or b 0 0) ≡ false
  low : get_or b 0 0 < 65
  no_hash : get_or b 0 0 ≡ 35 → ⊥

first_low : {b : List ℕ} → First (get_or b 0 0) → Low b
first_low {b} f =
    record {
      some = byte_inside b 0 (get_or b 0 0) refl (omega (arith, f.low));
      unspaced = first_space f;
      low = omega (arith, f.high);
      no_hash = λ e. omega (arith, f.low);
    }

bracket_low : (r : List ℕ) → Low (41 ∷ r)
bracket_low r = record { some = omega arith; unspaced = refl; low = lit≤ tt; no_hash = λ e. omega arith }

-- a word's first byte is that of the text, or there is none
take_head : (n : ℕ) (b : List ℕ) → get_or (take n b) 0 0 ≤ get_or b 0 0
take_head zero b = omega arith
take_head (suc n) [] = omega arith
take_head (suc n) (x ∷ b) = omega arith

lower_low : (x : ℕ) → x < 65 → lower_of x ≡ x
unfolding lower_of within
lower_low x h = simp (lt-leb 65 x h)

lower_head : (w : List ℕ) → get_or w 0 0 < 65 → get_or (lowered w) 0 0 ≡ get_or w 0 0
lower_head [] h = refl
lower_head (x ∷ w) h = lower_low x h

same_head : (u : List ℕ) (y : ℕ) (v : List ℕ) → (get_or u 0 0 ≡ y → ⊥) → same u (y ∷ v) ≡ false
same_head u y v n = differs u (y ∷ v) (λ e. n (ap (λ (x : List ℕ). get_or x 0 0) e))

module _ {s : List ℕ} {i : ℕ} where
  low_refused : {b : List ℕ} → Low b → At s i b → parse_color s i ≡ Err (invalid_value (scan is_ascii_ident s i))
  unfolding parse_color parse_word is_rgb is_hsl named_color part
  low_refused {b} l h =
      let end = scan is_ascii_ident s i in
      let w = take (end - i) b in
      let t : get_or w 0 0 < 65 = omega (arith, take_head (end - i) b, l.low) in
      let g : get_or (lowered w) 0 0 < 65 = rw (lower_head w t) t in
      let n : named_of w ≡ None = sym (named_low w {b = get_or w 0 0} {c = lower_of (get_or w 0 0)} refl refl (rw (lower_low (get_or w 0 0) t) (omega arith))) in
      simp (
        at_still l.unspaced h,
        at_more l.some h,
        at_get h,
        ne_eqb (get_or b 0 0) 35 l.no_hash,
        at_drop h,
        same_head (lowered w) 114 (ascii "gb") (λ e. omega arith),
        same_head (lowered w) 114 (ascii "gba") (λ e. omega arith),
        same_head (lowered w) 104 (ascii "sl") (λ e. omega arith),
        same_head (lowered w) 104 (ascii "sla") (λ e. omega arith),
        n,
      )

  none_there : {b : List ℕ} → Low b → At s i b → Missing s i
  unfolding try_parse_color is_outside_domain number_of
  none_there {b} l h = simp (low_refused l h, at_drop h, no_word 99 (ascii "urrentColor") b (ne_eqb (get_or b 0 0) 99 (λ e. omega (arith, l.low))))

-- `currentColor` names no colour, and is tried after those
abbrev current : List ℕ
current = ascii "currentColor"

current_unknown : named_of current ≡ None
unfolding named_of look_up keywords same lower_of within
current_unknown = refl

current_front : {b : List ℕ} → Closes b → parse_color (current ++ b) 0 ≡ Err (invalid_value 12)
unfolding parse_color parse_word is_rgb is_hsl named_color part scan run within same lower_of
current_front {b} c = simp (run_every is_ascii_ident [] b refl (closes_word c), current_unknown, lt-leb (length (current ++ b)) 0 (omega arith))

module _ {Colour : Type 0} {colour : Colour → List ℕ} {channels : Colour → Color} (coloured : Coloured colour channels) where
  tint_begins : (c : E.Tint Colour) (b : List ℕ) → Begins (get_or (E.tint_text colour c ++ b) 0 0)
  unfolding E.tint_text within
  tint_begins E.current b = record { unspaced = refl; no_number = refl; no_bracket = λ e. omega arith }
  tint_begins (E.tint c) b = coloured.begins c b

  tint_at : {s : List ℕ} {i : ℕ} (c : E.Tint Colour) {b : List ℕ} → Closes b → At s i (E.tint_text colour c ++ b) → Found s i (shadow_color channels c) (i + length (E.tint_text colour c))
  unfolding E.tint_text shadow_color try_parse_color is_outside_domain number_of
  tint_at {s} {i} E.current {b} e h =
      let p = at_read parse_color (moved (move_read stays)) (λ a b j. color_shift a b j) h in
      simp (p, current_front e, at_drop h, starts_joined current b)
  tint_at {s} {i} (E.tint c) {b} e h =
      let p = at_read parse_color (moved (move_read stays)) (λ a b j. color_shift a b j) h in
      simp (p, coloured.front c b e)

-- what ends a shadow's lengths: neither white space nor a number
record Stops (b : List ℕ) : Type 0 where
  unspaced : is_space (get_or b 0 0) ≡ false
  no_number : starts_number (get_or b 0 0) ≡ false

bracket_stops : (r : List ℕ) → Stops (41 ∷ r)
unfolding within
bracket_stops r = record { unspaced = refl; no_number = refl }

-- the deviation, and the white space after it; or none
abbrev Deviates : List ℕ → ℕ → Length → ℕ → Type 0
Deviates s i d j = parse_deviation s i ≡ read_on d (place j)

deviation_none : {s : List ℕ} {i : ℕ} {b : List ℕ} → Stops b → At s i b → Deviates s i zero_length i
unfolding parse_deviation parse_length parse_number is_outside_domain number_of
deviation_none {s} {i} {b} t h =
    either (leb (length s) i) (λ e. simp (at_still t.unspaced h, e)) (λ e. simp (at_still t.unspaced h, e, at_get h, t.no_number))

-- the lengths, step by step
lengths_are : (s : List ℕ) (i i1 i2 i3 i4 i5 : ℕ) (dx dy d : Length) → parse_filter_length s 0 i ≡ read_on dx (place i1) → scan is_space s i1 ≡ i2
    → parse_filter_length s 0 i2 ≡ read_on dy (place i3) → scan is_space s i3 ≡ i4 → Deviates s i4 d i5 → Measured s i dx dy d i5
unfolding parse_shadow_lengths
lengths_are s i i1 i2 i3 i4 i5 dx dy d a b c e f = simp (a, b, c, e, f)

module _ (r : NumbersRead) {s : List ℕ} where
  deviation_at : {i : ℕ} (d : CssLength) (l : List Blank) {b : List ℕ} → is_minus d.size.signed ≡ false → InDomain d.size → Closes (blanks l ++ b) → Stops b
      → At s i (css_length d ++ (blanks l ++ b)) → Deviates s i (measure_of (measure d)) (i + length (css_length d) + length l)
  unfolding parse_deviation measure
  deviation_at d l {b} p w c t h =
      simp (length_at r d w c h, positive d.size p, no_percent, at_spaces l b t.unspaced (at_step (css_length d) (blanks l ++ b) h))

  offset_at : {i : ℕ} (l : CssLength) {b : List ℕ} → InDomain l.size → Closes b → At s i (css_length l ++ b)
      → parse_filter_length s 0 i ≡ read_on (measure_of (measure l)) (place (i + length (css_length l)))
  unfolding parse_filter_length measure
  offset_at l w c h = simp (length_at r l w c h, no_percent)

-- the deviation that the document says
abbrev deviation_of : Offsets → Measure
deviation_of (two dx b l dy) = E.no_length
deviation_of (three dx b l dy c m d p) = measure d

abbrev dx_of : Offsets → CssLength
dx_of (two dx b l dy) = dx
dx_of (three dx b l dy c m d p) = dx

abbrev dy_of : Offsets → CssLength
dy_of (two dx b l dy) = dy
dy_of (three dx b l dy c m d p) = dy

module _ (r : NumbersRead) {s : List ℕ} {i : ℕ} where
  offsets_at : (o : Offsets) (l : List Blank) {b : List ℕ} → OffsetsTaken o → Closes (blanks l ++ b) → Stops b → At s i (offsets o ++ (blanks l ++ b))
      → Measured s i (measure_of (measure (dx_of o))) (measure_of (measure (dy_of o))) (measure_of (deviation_of o)) (i + length (offsets o) + length l)
  unfolding offsets unit_marked
  offsets_at (two dx c g dy) l {b} w e t h =
      let x = css_length dx in
      let y = css_length dy in
      let a0 : At s i (x ++ (gap c g ++ (y ++ (blanks l ++ b)))) = simp append_assoc at h in
      let a1 = at_step x (gap c g ++ (y ++ (blanks l ++ b))) a0 in
      let a2 = at_blanks (c ∷ g) (y ++ (blanks l ++ b)) a1 in
      let a3 = at_step y (blanks l ++ b) a2 in
      let a4 = at_blanks l b a3 in
      let z : i + length x + length (c ∷ g) + length y + length l ≡ i + length (x ++ (gap c g ++ y)) + length l = simp (length-append, length-map) (omega arith) in
      rw (← z, nought_is)
      (lengths_are s i _ _ _ _ _ _ _ _ (offset_at r dx w.0 (gapped c _) a0) (at_spaces (c ∷ g) (y ++ (blanks l ++ b)) (first_space (length_first dy (blanks l ++ b))) a1)
      (offset_at r dy w.1 e a2) (at_spaces l b t.unspaced a3) (deviation_none t a4))
  offsets_at (three dx c g dy q m d p) l {b} w e t h =
      let x = css_length dx in
      let y = css_length dy in
      let v = css_length d in
      let a0 : At s i (x ++ (gap c g ++ (y ++ (gap q m ++ (v ++ (blanks l ++ b)))))) = simp append_assoc at h in
      let a1 = at_step x (gap c g ++ (y ++ (gap q m ++ (v ++ (blanks l ++ b))))) a0 in
      let a2 = at_blanks (c ∷ g) (y ++ (gap q m ++ (v ++ (blanks l ++ b)))) a1 in
      let a3 = at_step y (gap q m ++ (v ++ (blanks l ++ b))) a2 in
      let a4 = at_blanks (q ∷ m) (v ++ (blanks l ++ b)) a3 in
      let z : i + length x + length (c ∷ g) + length y + length (q ∷ m) + length v + length l ≡ i + length (x ++ (gap c g ++ (y ++ (gap q m ++ v)))) + length l = simp (length-append, length-map) (omega arith) in
      rw (← z)
      (lengths_are s i _ _ _ _ _ _ _ _ (offset_at r dx w.0 (gapped c _) a0)
      (at_spaces (c ∷ g) (y ++ (gap q m ++ (v ++ (blanks l ++ b)))) (first_space (length_first dy (gap q m ++ (v ++ (blanks l ++ b))))) a1)
      (offset_at r dy w.1 (gapped q _) a2) (at_spaces (q ∷ m) (v ++ (blanks l ++ b)) (first_space (length_first d (blanks l ++ b))) a3)
      (deviation_at r d l p w.2 e t a4))

-- the shadow, step by step: with no colour, with one before the lengths, with one after them
bare_is : (s : List ℕ) (i j : ℕ) (dx dy d : Length) → is_curr_byte_eq s i 41 ≡ false → Missing s i → Measured s i dx dy d j → Missing s j
    → parse_drop_shadow_func s 0 i ≡ read_on (shadow None dx dy d) (place j)
unfolding parse_drop_shadow_func shadow_before
bare_is s i j dx dy d a b c e = simp (a, b, c, e)

before_is : (s : List ℕ) (i i1 i2 j : ℕ) (x : Option Color) (dx dy d : Length) → is_curr_byte_eq s i 41 ≡ false → Found s i x i1 → scan is_space s i1 ≡ i2 → Measured s i2 dx dy d j
    → parse_drop_shadow_func s 0 i ≡ read_on (shadow x dx dy d) (place j)
unfolding parse_drop_shadow_func shadow_after
before_is s i i1 i2 j x dx dy d a b c e = simp (a, b, c, e)

after_is : (s : List ℕ) (i i1 j : ℕ) (x : Option Color) (dx dy d : Length) → is_curr_byte_eq s i 41 ≡ false → Missing s i → Measured s i dx dy d i1 → Found s i1 x j
    → parse_drop_shadow_func s 0 i ≡ read_on (shadow x dx dy d) (place j)
unfolding parse_drop_shadow_func shadow_before
after_is s i i1 j x dx dy d a b c e = simp (a, b, c, e)

offsets_first : (o : Offsets) (b : List ℕ) → First (get_or (offsets o ++ b) 0 0)
unfolding offsets
offsets_first (two dx c g dy) b = rw append_assoc (length_first dx ((gap c g ++ css_length dy) ++ b))
offsets_first (three dx c g dy q m d p) b = rw append_assoc (length_first dx ((gap c g ++ (css_length dy ++ (gap q m ++ css_length d))) ++ b))

abbrev offsets_of : {Colour : Type 0} → E.Shadow Colour → Offsets
offsets_of (E.bare o) = o
offsets_of (E.colour_first c b l o) = o
offsets_of (E.colour_last o b l c) = o

abbrev tint_of : {Colour : Type 0} → E.Shadow Colour → E.Tint Colour
tint_of (E.bare o) = E.current
tint_of (E.colour_first c b l o) = c
tint_of (E.colour_last o b l c) = c

-- how much of the white space before the closing bracket is passed with the argument: that after lengths, and not that after a colour
abbrev pub passed_with : {Colour : Type 0} → E.Shadow Colour → List Blank → List Blank
passed_with (E.bare o) m = m
passed_with (E.colour_first c b l o) m = m
passed_with (E.colour_last o b l c) m = []

abbrev pub shadow_of : {Colour : Type 0} → (Colour → Color) → E.Shadow Colour → FilterValue
shadow_of channels d = let o = offsets_of d in shadow (shadow_color channels (tint_of d)) (measure_of (measure (dx_of o))) (measure_of (measure (dy_of o))) (measure_of (deviation_of o))

module _ (r : NumbersRead) {Colour : Type 0} {colour : Colour → List ℕ} {channels : Colour → Color} (coloured : Coloured colour channels) {s : List ℕ} {i : ℕ} where
  pub shadow_at : (d : E.Shadow Colour) (m : List Blank) (rest : List ℕ) → ShadowTaken d → At s i (E.shadow_text colour d ++ (blanks m ++ (41 ∷ rest)))
      → parse_drop_shadow_func s 0 i ≡ read_on (shadow_of channels d) (place (i + length (E.shadow_text colour d) + length (passed_with d m)))
  unfolding E.shadow_text shadow_color
  shadow_at (E.bare o) m rest w h =
      let b = blanks m ++ (41 ∷ rest) in
      let f = offsets_first o b in
      let j = i + length (offsets o) + length m in
      let e : At s j (41 ∷ rest) = at_blanks m (41 ∷ rest) (at_step (offsets o) b h) in
      bare_is s i j _ _ _ (at_other 41 (λ x. omega (arith, f.low)) h) (none_there (first_low f) h) (offsets_at r o m w (closes_after m rest) (bracket_stops rest) h) (none_there (bracket_low rest) e)
  shadow_at (E.colour_first c g l o) m rest w h =
      let t = E.tint_text colour c in
      let b = offsets o ++ (blanks m ++ (41 ∷ rest)) in
      let n = tint_begins coloured c (gap g l ++ b) in
      let a0 : At s i (t ++ (gap g l ++ b)) = simp append_assoc at h in
      let a1 = at_step t (gap g l ++ b) a0 in
      let a2 = at_blanks (g ∷ l) b a1 in
      let z : i + length t + length (g ∷ l) + length (offsets o) + length m ≡ i + length (t ++ (gap g l ++ offsets o)) + length m = simp (length-append, length-map) (omega arith) in
      rw (← z)
      (before_is s i _ _ _ _ _ _ _ (at_other 41 n.no_bracket a0) (tint_at coloured c (gapped g _) a0) (at_spaces (g ∷ l) b (first_space (offsets_first o (blanks m ++ (41 ∷ rest)))) a1)
      (offsets_at r o m w (closes_after m rest) (bracket_stops rest) a2))
  shadow_at (E.colour_last o g l c) m rest w h =
      let t = E.tint_text colour c in
      let b = t ++ (blanks m ++ (41 ∷ rest)) in
      let f = offsets_first o (gap g l ++ b) in
      let n = tint_begins coloured c (blanks m ++ (41 ∷ rest)) in
      let a0 : At s i (offsets o ++ (gap g l ++ b)) = simp append_assoc at h in
      let a1 = at_blanks (g ∷ l) b (at_step (offsets o) (gap g l ++ b) a0) in
      let z : i + length (offsets o) + length (g ∷ l) + length t ≡ i + length (offsets o ++ (gap g l ++ t)) + 0 = simp (length-append, length-map) (omega arith) in
      rw (← z)
      (after_is s i _ _ _ _ _ _ (at_other 41 (λ x. omega (arith, f.low)) a0) (none_there (first_low f) a0)
      (offsets_at r o (g ∷ l) w (gapped g _) (record { unspaced = n.unspaced; no_number = n.no_number }) a0) (tint_at coloured c (closes_after m rest) a1))

pub shadow_unspaced : {Colour : Type 0} {colour : Colour → List ℕ} {channels : Colour → Color} → Coloured colour channels → (d : E.Shadow Colour) (b : List ℕ)
    → is_space (get_or (E.shadow_text colour d ++ b) 0 0) ≡ false
unfolding E.shadow_text
shadow_unspaced coloured (E.bare o) b = first_space (offsets_first o b)
shadow_unspaced coloured (E.colour_first c g l o) b = rw append_assoc (tint_begins coloured c ((gap g l ++ offsets o) ++ b)).unspaced
shadow_unspaced {colour = colour} coloured (E.colour_last o g l c) b = rw append_assoc (first_space (offsets_first o ((gap g l ++ E.tint_text colour c) ++ b)))

-- and what it says is the shadow of the document
pub shadow_says : {Colour : Type 0} (d : E.Shadow Colour) → E.shadow_effect d ≡ E.shadowed (tint_of d) (measure (dx_of (offsets_of d))) (measure (dy_of (offsets_of d))) (deviation_of (offsets_of d))
unfolding E.shadow_effect E.with_offsets
shadow_says (E.bare (two dx b l dy)) = refl
shadow_says (E.bare (three dx b l dy c m d p)) = refl
shadow_says (E.colour_first x g k (two dx b l dy)) = refl
shadow_says (E.colour_first x g k (three dx b l dy c m d p)) = refl
shadow_says (E.colour_last (two dx b l dy) g k x) = refl
shadow_says (E.colour_last (three dx b l dy c m d p) g k x) = refl
