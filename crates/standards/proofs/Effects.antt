-- The filter functions of Filter Effects 1, and lists of them, are what the reader reads.
use Prim.Native.Nat.{ℕ, ◌+◌, ◌-◌}
use mathlib.Core.Bool.{false}
use mathlib.Core.List.{List, [], ◌∷◌, ◌++◌, append_assoc, map-append}
use mathlib.Core.Logic.{◌⊎◌, inl, inr, ⊎_elim}
use mathlib.Core.Path.{◌≡◌, refl, ◌∙◌}
use native.Mathlib.Omega.{arith}
use borrow.Author.Tests.{lt-leb}
use lib.Dec.{leb}
use lib.Ieee.{round, of_bits}
use lib.ListN.{length, get_or, length-append, length-map}
use lib.Seq.{take_at}
use Rattle.text_bytes.specs.Bytes.{within, is_space, is_ascii_ident, is_url_byte}
use Rattle.text_bytes.specs.Moves.{place}
use Rattle.stream.specs.Faults.{consume_byte}
use Rattle.text_bytes.specs.Scan.{scan, run}
use Rattle.text_bytes.specs.Words.{ascii, same, part, is_curr_byte_eq}
use Rattle.numbers.specs.Number.{parse_number_or_percent}
use Rattle.numbers.specs.Moves.{Number}
use Rattle.floats.specs.Floats.{d1, sign_of}
use Rattle.color.specs.declared.Color.{Color}
use Rattle.filter_functions.specs.Values.{parse_filter_positive_length, parse_blur, parse_hue_rotate, plain_value, parse_generic_color_func, parse_url}
use Rattle.filter_functions.specs.Filters.{plain_name, filter_name, argument_of, parse_argument, close_bracket, parse_next}
use Rattle.filter_functions.specs.declared.FilterValue.{FilterValue}
use Rattle.filter_functions.specs.declared.FilterValue.TheVariants as G
use Rattle.std.specs.Prelude.{Ok}
use Rattle.standards.specs.CssValues3.{Blank, blank, blanks, is_minus, deg, angle_unit}
use Rattle.standards.specs.CssSyntax3.{UrlCharacter, written}
use Rattle.standards.specs.Domain.{InDomain, amount_number, angle_number, Taken}
use Rattle.standards.specs.Ieee754.{double}
use Rattle.standards.specs.FilterEffects1 as E
use Rattle.standards.specs.FilterEffects1.{CssLength, css_length, measure, Simple, brightness, contrast, grayscale, invert, opacity, saturate, sepia, simple_name}
use Rattle.standards.specs.Answers.{angle_named, unit_marked, measure_of, turn_of, simple_value, link_place, value, read_on}
use Rattle.standards.proofs.Reading.{NumbersRead}
use Rattle.standards.proofs.Cursors.{At, at_start, at_step, at_blanks, at_scan, at_spaces, at_byte, at_curr, at_other, at_still, at_drop}
use Rattle.standards.proofs.Runs.{run_every, First, number_first}
use Rattle.standards.proofs.Characters.{written_some}
use Rattle.standards.proofs.Links.{names_url, link_ends}
use Rattle.standards.proofs.Shadows.{Coloured, passed_with, shadow_of, shadow_at, shadow_unspaced, shadow_says}
use Rattle.standards.proofs.Marked.{Closes, length_first, nought_is, no_percent, closes_after, positive, first_space, length_at, share_sign, amount_at, angle_at}

-- the steps of `parse_next`, each as it went: a word of n bytes, a bracket, spaces up to i, what the brackets hold up to j, spaces up to e, a bracket
next_is : (s : List ℕ) (n i j e : ℕ) (v : FilterValue) → scan is_ascii_ident s 0 ≡ n → scan is_space s n ≡ n → consume_byte s n 40 ≡ Ok (place (n + 1)) → scan is_space s (n + 1) ≡ i
    → parse_argument s 0 n i ≡ read_on v (place j) → scan is_space s j ≡ e → consume_byte s e 41 ≡ Ok (place (e + 1))
    → parse_next s 0 ≡ read_on v (place (e + 1))
unfolding parse_next close_bracket
next_is s n i j e v a b c d arg f g = simp (a, b, c, d, arg, f, g)

-- A function of the name w with arg in its brackets is read, if arg is
module _ (w : List ℕ) (l m : List Blank) (arg rest : List ℕ) where
  abbrev held : List ℕ
  held = arg ++ (blanks m ++ (41 ∷ rest))

  abbrev text : List ℕ
  text = w ++ (40 ∷ (blanks l ++ held))

  -- g of the white space after it is passed with it, and the rest of it with the bracket
  framed_past : (v : FilterValue) (g : List Blank) → run is_ascii_ident text ≡ length w → is_space (get_or held 0 0) ≡ false → (g ≡ m) ⊎ (g ≡ [])
      → (At text (length w + 1 + length l) held
      → argument_of (filter_name w) text 0 (length w + 1 + length l) ≡ read_on v (place (length w + 1 + length l + length arg + length g)))
      → parse_next text 0 ≡ read_on v (place (length w + 1 + length l + length arg + length m + 1))
  unfolding parse_argument part
  framed_past v g word sp past inner =
      let b = blanks m ++ (41 ∷ rest) in
      let a0 : At text 0 text = at_start text in
      let z : 0 + length w ≡ length w = omega arith in
      let a1 : At text (length w) (40 ∷ (blanks l ++ held)) = rw z at (at_step w (40 ∷ (blanks l ++ held)) a0) in
      let a2 : At text (length w + 1) (blanks l ++ held) = at_step (40 ∷ []) (blanks l ++ held) a1 in
      let a3 : At text (length w + 1 + length l) held = at_blanks l held a2 in
      let a4 : At text (length w + 1 + length l + length arg) b = at_step arg b a3 in
      let a5 : At text (length w + 1 + length l + length arg + length m) (41 ∷ rest) = at_blanks m (41 ∷ rest) a4 in
      let y : length w - 0 ≡ length w = omega arith in
      let c : length w + 1 + length l + length arg + 0 ≡ length w + 1 + length l + length arg = omega arith in
      next_is text (length w) (length w + 1 + length l) (length w + 1 + length l + length arg + length g) (length w + 1 + length l + length arg + length m) v
      (at_scan is_ascii_ident a0 ∙ rw word z) (at_still refl a1) (at_byte 40 (blanks l ++ held) a1) (at_spaces l held sp a2)
      (rw (y, take_at w (40 ∷ (blanks l ++ held)) (length w) refl) (inner a3))
      (⊎_elim (λ (e : g ≡ m). rw e (at_still refl a5)) (λ (e : g ≡ []). rw (e, c) (at_spaces m (41 ∷ rest) refl a4)) past)
      (at_byte 41 rest a5)

  framed : (v : FilterValue) → run is_ascii_ident text ≡ length w → is_space (get_or held 0 0) ≡ false
      → (At text (length w + 1 + length l) held
      → argument_of (filter_name w) text 0 (length w + 1 + length l) ≡ read_on v (place (length w + 1 + length l + length arg)))
      → parse_next text 0 ≡ read_on v (place (length w + 1 + length l + length arg + length m + 1))
  framed v word sp inner =
      let c : length w + 1 + length l + length arg + 0 ≡ length w + 1 + length l + length arg = omega arith in
      framed_past v [] word sp (inr refl) (λ h. rw c (inner h))

-- and so it is with nothing but white space there
blanks_join : (l m : List Blank) (b : List ℕ) → blanks (l ++ m) ++ b ≡ blanks l ++ (blanks m ++ b)
blanks_join l m b = rw (map-append blank l m) (append_assoc (blanks l) (blanks m) b)

framed_empty : (w : List ℕ) (l m : List Blank) (rest : List ℕ) (v : FilterValue) → ((x : List ℕ) → run is_ascii_ident (w ++ (40 ∷ x)) ≡ length w)
    → ((s : List ℕ) (i : ℕ) → At s i (41 ∷ rest) → argument_of (filter_name w) s 0 i ≡ read_on v (place i))
    → parse_next (text w l m [] rest) 0 ≡ read_on v (place (length w + 1 + length l + 0 + length m + 1))
framed_empty w l m rest v word inner =
    let e : length w + 1 + length (l ++ m) + 0 ≡ length w + 1 + length (l ++ m) = omega arith in
    let f : length w + 1 + length (l ++ m) + 0 + 0 + 1 ≡ length w + 1 + length l + 0 + length m + 1 = omega (arith, length-append l m) in
    let g = framed w (l ++ m) [] [] rest v (word (blanks (l ++ m) ++ (41 ∷ rest))) refl (λ h. rw e (inner (text w (l ++ m) [] [] rest) (length w + 1 + length (l ++ m)) h)) in
    rw (← blanks_join l m (41 ∷ rest), ← f) (g)

amount_first : (a : E.Amount) (b : List ℕ) → First (get_or (E.amount a ++ b) 0 0)
unfolding E.amount
amount_first (E.plain n) b = number_first n.of b
amount_first (E.percentage n) b = rw append_assoc (number_first n.of (37 ∷ b))

angle_first : (a : E.CssAngle) (b : List ℕ) → First (get_or (E.css_angle a ++ b) 0 0)
unfolding E.css_angle
angle_first (E.angle n u) b = rw append_assoc (number_first n (angle_unit u ++ b))
angle_first (E.zero n z) b = number_first n b

one_is : E.one ≡ d1
unfolding E.one double round of_bits
one_is = refl

simple_word : (f : Simple) (x : List ℕ) → run is_ascii_ident (simple_name f ++ (40 ∷ x)) ≡ length (simple_name f)
unfolding simple_name run within
simple_word brightness x = refl
simple_word contrast x = refl
simple_word grayscale x = refl
simple_word invert x = refl
simple_word opacity x = refl
simple_word saturate x = refl
simple_word sepia x = refl

url_is : (s : List ℕ) (i e n : ℕ) → consume_byte s i 35 ≡ Ok (place (i + 1)) → scan is_url_byte s (i + 1) ≡ e → leb e (i + 1) ≡ false → e - (i + 1) ≡ n
    → parse_url s 0 i ≡ read_on (G.Url (record { start = place (i + 1); len = n })) (place e)
unfolding parse_url
url_is s i e n a b c d = simp (a, b, c, d)

-- one of the seven: o says that the brackets are not empty, q what number was read, p that it is not negative
simple_is : (f : Simple) (s : List ℕ) (i : ℕ) (n : Number) (j : ℕ) → is_curr_byte_eq s i 41 ≡ false → parse_number_or_percent s i ≡ read_on n (place j) → sign_of n.value ≡ false
    → argument_of (filter_name (simple_name f)) s 0 i ≡ read_on (simple_value f n.value) (place j)
unfolding simple_name filter_name plain_name same parse_generic_color_func plain_value simple_value
simple_is brightness s i n j o q p = simp (o, q, p)
simple_is contrast s i n j o q p = simp (o, q, p)
simple_is grayscale s i n j o q p = simp (o, q, p)
simple_is invert s i n j o q p = simp (o, q, p)
simple_is opacity s i n j o q p = simp (o, q, p)
simple_is saturate s i n j o q p = simp (o, q, p)
simple_is sepia s i n j o q p = simp (o, q, p)

-- what the brackets hold, but a shadow
module _ {s : List ℕ} {i : ℕ} where
  simple_none : (f : Simple) (b : List ℕ) → At s i (41 ∷ b) → argument_of (filter_name (simple_name f)) s 0 i ≡ read_on (simple_value f E.one) (place i)
  unfolding simple_name filter_name plain_name same parse_generic_color_func plain_value simple_value
  simple_none brightness b h = simp (at_curr 41 b h, one_is)
  simple_none contrast b h = simp (at_curr 41 b h, one_is)
  simple_none grayscale b h = simp (at_curr 41 b h, one_is)
  simple_none invert b h = simp (at_curr 41 b h, one_is)
  simple_none opacity b h = simp (at_curr 41 b h, one_is)
  simple_none saturate b h = simp (at_curr 41 b h, one_is)
  simple_none sepia b h = simp (at_curr 41 b h, one_is)

  url_at : (c : UrlCharacter) (l : List UrlCharacter) (b : List ℕ) → is_url_byte (get_or b 0 0) ≡ false → At s i (35 ∷ (written (c ∷ l) ++ b))
      → parse_url s 0 i ≡ read_on (G.Url (record { start = place (i + 1); len = length (written (c ∷ l)) })) (place (i + length (35 ∷ written (c ∷ l))))
  url_at c l b e h =
      let t = written (c ∷ l) in
      let n = length t in
      let g : At s (i + 1) (t ++ b) = at_step (35 ∷ []) (t ++ b) h in
      let sc : scan is_url_byte s (i + 1) ≡ i + 1 + n = at_scan is_url_byte g ∙ rw (run_every is_url_byte t b (names_url (c ∷ l)) e) in
      let z : i + 1 + n ≡ i + length (35 ∷ t) = omega arith in
      url_is s i (i + length (35 ∷ t)) n (at_byte 35 (t ++ b) h) (sc ∙ z) (lt-leb (i + length (35 ∷ t)) (i + 1) (omega (arith, written_some c l))) (omega arith)

module _ (r : NumbersRead) {s : List ℕ} {i : ℕ} where
  blur_at : (l : CssLength) {b : List ℕ} → is_minus l.size.signed ≡ false → InDomain l.size → Closes b → At s i (css_length l ++ b)
      → parse_blur s 0 i ≡ read_on (G.Blur (measure_of (measure l))) (place (i + length (css_length l)))
  unfolding parse_blur parse_filter_positive_length measure
  blur_at l {b} p d c h =
      simp (at_other 41 (λ e. omega (arith, (length_first l b).low)) h, length_at r l d c h, positive l.size p, no_percent)

  hue_at : (a : E.CssAngle) {b : List ℕ} → InDomain (angle_number a) → Closes b → At s i (E.css_angle a ++ b)
      → parse_hue_rotate s 0 i ≡ read_on (G.HueRotate (turn_of (E.turned a))) (place (i + length (E.css_angle a)))
  unfolding parse_hue_rotate
  hue_at a {b} d c h = simp (at_other 41 (λ e. omega (arith, (angle_first a b).low)) h, angle_at r a 0 d c h)

  simple_at : (f : Simple) (a : E.Amount) {b : List ℕ} → InDomain (amount_number a) → Closes b → At s i (E.amount a ++ b)
      → argument_of (filter_name (simple_name f)) s 0 i ≡ read_on (simple_value f (E.share a)) (place (i + length (E.amount a)))
  simple_at f a {b} d c h = simple_is f s i _ (i + length (E.amount a)) (at_other 41 (λ e. omega (arith, (amount_first a b).low)) h) (amount_at r a d c h) (share_sign a)

passed : {Colour : Type 0} (d : E.Shadow Colour) (m : List Blank) → (passed_with d m ≡ m) ⊎ (passed_with d m ≡ [])
passed (E.bare o) m = inl refl
passed (E.colour_first c b l o) m = inl refl
passed (E.colour_last o b l c) m = inr refl

module _ (r : NumbersRead) {Colour : Type 0} {colour : Colour → List ℕ} {channels : Colour → Color} (coloured : Coloured colour channels) where
  content_read : (c : E.Content Colour) (l m : List Blank) (rest : List ℕ) → Taken c m
      → parse_next (text (E.name colour c) l m (E.argument colour c) rest) 0 ≡ read_on (value channels (4 + length l + 1) (E.effect c)) (place (length (E.name colour c) + 1 + length l + length (E.argument colour c) + length m + 1))
  unfolding E.name E.argument E.effect value run within filter_name same parse_blur parse_hue_rotate unit_marked angle_named
  content_read E.blur_default l m rest w = framed_empty (ascii "blur") l m rest (G.Blur (measure_of E.no_length)) (λ x. refl) (λ s i h. simp (at_curr 41 rest h, nought_is))
  content_read (E.blur t p) l m rest w =
      framed (ascii "blur") l m (css_length t) rest (G.Blur (measure_of (measure t))) refl (first_space (length_first t (blanks m ++ (41 ∷ rest)))) (λ h. blur_at r t p w (closes_after m rest) h)
  content_read (E.simple_default f) l m rest w = framed_empty (simple_name f) l m rest (simple_value f E.one) (simple_word f) (λ s i h. simple_none f rest h)
  content_read (E.simple f a) l m rest w =
      framed (simple_name f) l m (E.amount a) rest (simple_value f (E.share a)) (simple_word f _) (first_space (amount_first a (blanks m ++ (41 ∷ rest))))
      (λ h. simple_at r f a w (closes_after m rest) h)
  content_read E.hue_rotate_default l m rest w =
      framed_empty (ascii "hue-rotate") l m rest (G.HueRotate (turn_of (record { size = E.nought; mark = deg }))) (λ x. refl) (λ s i h. simp (at_curr 41 rest h, nought_is))
  content_read (E.hue_rotate a) l m rest w =
      framed (ascii "hue-rotate") l m (E.css_angle a) rest (G.HueRotate (turn_of (E.turned a))) refl (first_space (angle_first a (blanks m ++ (41 ∷ rest)))) (λ h. hue_at r a w (closes_after m rest) h)
  content_read (E.drop_shadow d) l m rest w =
      rw (shadow_says d)
      (framed_past (ascii "drop-shadow") l m (E.shadow_text colour d) rest (shadow_of channels d) (passed_with d m) refl (shadow_unspaced coloured d (blanks m ++ (41 ∷ rest))) (passed d m)
      (λ h. shadow_at r coloured d m rest w h))
  content_read (E.url c cs) l m rest w =
      framed (ascii "url") l m (35 ∷ written (c ∷ cs)) rest (value channels (4 + length l + 1) (E.referenced (written (c ∷ cs)))) refl refl
      (λ h. url_at c cs (blanks m ++ (41 ∷ rest)) (link_ends m rest w) h)

  -- THEOREM: each function of the grammar is read as its effect, whatever follows it
  pub function_read : (t : E.FilterFunction Colour) (rest : List ℕ) → Taken t.content t.after
      → parse_next (E.function_text colour t ++ rest) 0 ≡ read_on (value channels (link_place t) (E.meaning t)) (place (length (E.function_text colour t)))
  unfolding E.function_text
  function_read t rest w =
      let n = E.name colour t.content in
      let a = E.argument colour t.content in
      let l = t.before in
      let m = t.after in
      let e : length n + 1 + length l + length a + length m + 1 ≡ length (n ++ (40 ∷ (blanks l ++ (a ++ (blanks m ++ (41 ∷ [])))))) = simp (length-append, length-map) (omega arith) in
      simp append_assoc (rw e at (content_read t.content l m rest w))

-- THEOREM: the part of the text that a link's value tells is the identifier, wherever the function stands
module _ {Colour : Type 0} (colour : Colour → List ℕ) (l m : List Blank) (c : UrlCharacter) (cs : List UrlCharacter) where
  abbrev pub link_to : E.FilterFunction Colour
  link_to = record { before = l; content = E.url c cs; after = m }

  pub at_link : {s : List ℕ} {n : ℕ} (b : List ℕ) → At s n (E.function_text colour link_to ++ b)
      → part s (n + link_place link_to) (n + link_place link_to + length (written (c ∷ cs))) ≡ written (c ∷ cs)
  unfolding E.function_text E.name E.argument part
  at_link {s} {n} b h =
      let id = written (c ∷ cs) in
      let x = blanks m ++ (41 ∷ b) in
      let a0 : At s n (ascii "url(" ++ (blanks l ++ (35 ∷ (id ++ x)))) = simp append_assoc at h in
      let a1 = at_blanks l (35 ∷ (id ++ x)) (at_step (ascii "url(") (blanks l ++ (35 ∷ (id ++ x))) a0) in
      let a2 = at_step (35 ∷ []) (id ++ x) a1 in
      let y : n + 4 + length l + 1 ≡ n + (4 + length l + 1) = omega arith in
      let a3 : At s (n + (4 + length l + 1)) (id ++ x) = rw y at a2 in
      let z : n + (4 + length l + 1) + length id - (n + (4 + length l + 1)) ≡ length id = omega arith in
      rw (z, at_drop a3) (take_at id x (length id) refl)
