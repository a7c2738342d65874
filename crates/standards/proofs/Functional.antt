-- CSS Color 3's functional notations are what the reader of colours reads, whatever follows them.
use Prim.Native.Nat.{ℕ, ◌+◌, ◌<◌}
use mathlib.Core.Bool.{Bool, true, false, cond, not, ◌||◌}
use mathlib.Core.List.{List, [], ◌∷◌, ◌++◌, append_assoc}
use mathlib.Core.Path.{◌≡◌, refl, ap, ◌∙◌}
use native.Mathlib.Omega.{arith}
use lib.Dec.{T, eqb}
use lib.Ieee.{Float}
use lib.Ieee.Bits.{is_false}
use lib.ListN.{length, get_or, length-append, length-map}
use Rattle.text_bytes.specs.Bytes.{is_space, is_lower, within}
use Rattle.text_bytes.specs.Moves.{place}
use Rattle.stream.specs.Faults.{parse_list_separator}
use Rattle.text_bytes.specs.Flow.{◌>>=◌}
use Rattle.text_bytes.specs.Scan.{scan}
use Rattle.text_bytes.specs.Words.{ascii, same, lower_of}
use Rattle.text_bytes.specs.declared.Place.{Place}
use Rattle.text_bytes.proofs.Ranges.{all_from, across}
use Rattle.numbers.specs.Number.{parse_number, parse_number_or_percent, after_item, parse_list_number, parse_list_number_or_percent}
use Rattle.numbers.specs.Moves as R
use Rattle.floats.specs.Floats.{channel_of}
use Rattle.color.specs.Color.{scaled_channel, close_bracket, parse_alpha, rgb_marked, rgb_plain, rgb_rest, parse_rgb, hsl_rest, parse_hsl, is_rgb, is_hsl, named_color, parse_color}
use Rattle.color.specs.Hex.{rgba}
use Rattle.color.specs.Hsl.{hsl_color}
use Rattle.color.specs.declared.Color.{Color}
use Rattle.std.specs.Prelude.{Ok, Result}
use Rattle.stream.specs.declared.Fault.{Fault}
use Rattle.stream.specs.declared.Read.{Read}
use Rattle.standards.specs.Ieee754.{double}
use Rattle.standards.specs.CssValues3.{Blank, space, tab, line_feed, return, blank, blanks, Number, number, exactly, percentage}
use Rattle.standards.specs.CssColor3.{Spelling, spelling, Integer, as_number, integer, Spaced, spaced, Rgb, integers, percentages, Hsl, rgb_values, hsl_values, Functional, functional, channel}
use Rattle.standards.specs.CssColor3 as K
use Rattle.standards.specs.Domain.{InDomain, RgbInDomain, HslInDomain, AllInDomain}
use Rattle.standards.specs.Answers.{Ends, portion, hsl_of, read_on}
use Rattle.standards.proofs.Reading.{ends_comma, ends_bracket, ends_percent, ends_blank, NumbersRead, number_there, percent_there}
use Rattle.standards.proofs.Runs.{every, number_first}
use Rattle.standards.proofs.Cursors.{At, at_step, at_blanks, at_spaces, at_byte, at_curr, at_other, at_more, at_drop, curr_not}
use Rattle.standards.proofs.Spellings.{spelled_lower}
use Rattle.standards.proofs.Colours.{letters, word_first}
use Rattle.standards.proofs.Clipped.{integer_channel}

-- A number is read, and the text goes on with `rest` from the place after it.
record Reads (s : List ℕ) (x : Result (Read R.Number) Fault) (v : Float) (rest : List ℕ) : Type 0 where
  whole : Bool
  end : Place
  next : ℕ
  is : x ≡ read_on (record { value = v; whole = whole; end = end }) (place next)
  from : At s next rest

-- A colour is read, and the text goes on with `rest` from the place after it.
record Gives (s : List ℕ) (x : Result (Read Color) Fault) (c : Color) (rest : List ℕ) : Type 0 where
  next : ℕ
  is : x ≡ read_on c (place next)
  from : At s next rest

then_gives : {s : List ℕ} {x : Result (Read R.Number) Fault} {v : Float} {b : List ℕ} (r : Reads s x v b) {c : Color} {rest : List ℕ} (k : Read R.Number → Result (Read Color) Fault)
    → ((w : Bool) (e : Place) (j : ℕ) → At s j b → Gives s (k (record { value = record { value = v; whole = w; end = e }; next = place j })) c rest) → Gives s (x >>= k) c rest
then_gives r k h = rw r.is (h r.whole r.end r.next r.from)

-- white space at the front of a text is skipped
skipped : {s : List ℕ} {i : ℕ} (l : List Blank) {rest : List ℕ} → is_space (get_or rest 0 0) ≡ false → At s i (blanks l ++ rest) → At s (scan is_space s i) rest
skipped l {rest} e f = rw (at_spaces l rest e f) (at_blanks l rest f)

-- What may follow a value and its white space, and what is left when the value is read: the comma goes with it, the bracket stays.
data Stop : List ℕ → List ℕ → Type 0 where
  comma : {rest : List ℕ} → Stop (44 ∷ rest) rest
  bracket : {rest : List ℕ} → Stop (41 ∷ rest) (41 ∷ rest)

stop_unspaced : {b rest : List ℕ} → Stop b rest → is_space (get_or b 0 0) ≡ false
stop_unspaced comma = refl
stop_unspaced bracket = refl

stop_some : {b rest : List ℕ} → Stop b rest → 0 < length b
stop_some comma = omega arith
stop_some bracket = omega arith

separated : {s : List ℕ} {i : ℕ} {b rest : List ℕ} → Stop b rest → At s i b → At s (parse_list_separator s i) rest
unfolding parse_list_separator
separated {rest} comma f = rw (at_curr 44 rest f) (at_step (44 ∷ []) _ f)
separated {b} bracket f = rw (at_other 44 (λ e. omega arith) f) f

-- white space, and a comma if there is one
passed : {s : List ℕ} {i : ℕ} (l : List Blank) {b rest : List ℕ} → Stop b rest → At s i (blanks l ++ b) → At s (parse_list_separator s (scan is_space s i)) rest
passed l e f = separated e (skipped l (stop_unspaced e) f)

item_reads : {s : List ℕ} {x : Result (Read R.Number) Fault} {v : Float} (l : List Blank) {b rest : List ℕ} → Stop b rest → Reads s x v (blanks l ++ b) → Reads s (x >>= (λ read. Ok (record { value = read.value; next = place (after_item s read.next.0) }))) v rest
item_reads {s} l e r =
    record { whole = r.whole; end = r.end; next = after_item s r.next; is = rw r.is; from = passed l e r.from }

-- what may follow a number
stop_ends : (l : List Blank) {b rest : List ℕ} → Stop b rest → Ends (blanks l ++ b)
stop_ends [] comma = ends_comma _
stop_ends [] bracket = ends_bracket _
stop_ends (b ∷ l) e = ends_blank _ b

stop_unmarked : (l : List Blank) {b rest : List ℕ} → Stop b rest → eqb (get_or (blanks l ++ b) 0 0) 37 ≡ false
unfolding blank
stop_unmarked [] comma = refl
stop_unmarked [] bracket = refl
stop_unmarked (space ∷ l) e = refl
stop_unmarked (tab ∷ l) e = refl
stop_unmarked (line_feed ∷ l) e = refl
stop_unmarked (return ∷ l) e = refl

-- One value: white space, the number, and what follows it
module _ (r : NumbersRead) (t : Number) (ok : InDomain t) {s : List ℕ} {i : ℕ} (l : List Blank) where
  number_reads : {rest : List ℕ} → Ends rest → At s i (blanks l ++ (number t ++ rest)) → Reads s (parse_number s i) (double (exactly t)) rest
  number_reads {rest} e f =
      let z : i + length (blanks l) + length (number t) ≡ i + (length l + length (number t)) = simp length-map (omega arith) in
      record {
        whole = _;
        end = _;
        next = _;
        is = number_there r l t rest ok e f;
        from = rw z at (at_step (number t) _ (at_step (blanks l) _ f));
      }

  percent_reads : {rest : List ℕ} → At s i (blanks l ++ (number t ++ (37 ∷ rest))) → Reads s (parse_number_or_percent s i) (portion t) rest
  percent_reads {rest} f =
      let z : i + length (blanks l) + length (number t) + 1 ≡ i + (length l + length (number t) + 1) = simp length-map (omega arith) in
      record {
        whole = _;
        end = _;
        next = _;
        is = percent_there r l t rest ok f;
        from = rw z at (at_step (37 ∷ []) _ (at_step (number t) _ (at_step (blanks l) _ f)));
      }

-- the parts of a value in its white space
from_spaced : {A : Type 0} {s : List ℕ} {i : ℕ} (text : A → List ℕ) (v : Spaced A) (b : List ℕ) → At s i (spaced text v ++ b)
    → At s i (blanks v.before ++ (text v.value ++ (blanks v.after ++ b)))
unfolding spaced
from_spaced text v b f = simp append_assoc at f

-- A list number ends with its white space and a comma.
module _ (r : NumbersRead) (v : Spaced Number) (ok : InDomain v.value) {s : List ℕ} {i : ℕ} {b rest : List ℕ} (e : Stop b rest) where
  list_number_reads : At s i (spaced number v ++ b) → Reads s (parse_list_number s i) (double (exactly v.value)) rest
  unfolding parse_list_number
  list_number_reads f =
      let h : 0 < length (spaced number v ++ b) = simp length-append (omega (arith, stop_some e)) in
      rw (at_more h f) (item_reads v.after e (number_reads r v.value ok v.before (stop_ends v.after e) (from_spaced number v _ f)))

  list_percent_reads : At s i (spaced percentage v ++ b) → Reads s (parse_list_number_or_percent s i) (portion v.value) rest
  unfolding parse_list_number_or_percent
  list_percent_reads f =
      let h : 0 < length (spaced percentage v ++ b) = simp length-append (omega (arith, stop_some e)) in
      rw (at_more h f) (item_reads v.after e (percent_reads r v.value ok v.before (simp append_assoc at (from_spaced percentage v _ f))))

-- the first byte of a number is one of + to 9
number_none : (p : ℕ → Bool) → T (all_from (λ b. not (p b)) 43 15) → (t : Number) (rest : List ℕ) → p (get_or (number t ++ rest) 0 0) ≡ false
number_none p h t rest =
    let f = number_first t rest in
    is_false (p _) (across (λ c. not (p c)) 43 15 h (get_or (number t ++ rest) 0 0) f.low f.high)

close_gives : {s : List ℕ} {i : ℕ} (c : Color) {rest : List ℕ} → At s i (41 ∷ rest) → Gives s (close_bracket s i c) c rest
unfolding close_bracket
close_gives {s} {i} c f =
    let g = skipped [] refl f in
    record { next = scan is_space s i + 1; is = rw (at_byte 41 _ g); from = at_step (41 ∷ []) _ g }

-- no alpha
opaque_gives : {s : List ℕ} {i : ℕ} (c : Color) {rest : List ℕ} → At s i (41 ∷ rest) → Gives s (parse_alpha s i c) c rest
unfolding parse_alpha
opaque_gives c {rest} f =
    let g = skipped [] refl f in
    rw (at_curr 41 rest g) (close_gives c g)

module _ (r : NumbersRead) where
  alpha_gives : (v : Spaced Number) → InDomain v.value → {s : List ℕ} {i : ℕ} (c : Color) {rest : List ℕ} → At s i (spaced number v ++ (41 ∷ rest))
      → Gives s (parse_alpha s i c) (rgba c.red c.green c.blue (scaled_channel (double (exactly v.value)))) rest
  unfolding parse_alpha spaced
  alpha_gives v ok c {rest} f =
      let t = v.value in
      let after = blanks v.after ++ (41 ∷ rest) in
      let u : Spaced Number = record { before = []; value = t; after = v.after } in
      let g = skipped v.before (number_none is_space tt t after) (from_spaced number v _ f) in
      rw (curr_not _ _ (number t ++ after) (at_drop g) 41 (number_none (λ b. eqb b 41) tt t after))
      (then_gives (list_number_reads r u ok bracket (simp append_assoc g)) _ (λ w e j h. close_gives _ h))

  -- the three values, as the reader goes over them; `tail` reads what is left after them: the bracket, or alpha and the bracket
  module _ (x y z : Spaced Number) (xo : InDomain x.value) (yo : InDomain y.value) (zo : InDomain z.value) {s b rest all : List ℕ} (e : Stop b rest) (i : ℕ) (c : Color) where
    integers_give : At s i (40 ∷ (spaced number x ++ (44 ∷ (spaced number y ++ (44 ∷ (spaced number z ++ b))))))
        → ((j : ℕ) → At s j rest
        → Gives s (parse_alpha s j (rgba (channel_of (double (exactly x.value))) (channel_of (double (exactly y.value))) (channel_of (double (exactly z.value))) 255)) c all)
        → Gives s (parse_rgb s i) c all
    unfolding parse_rgb rgb_rest rgb_plain
    integers_give f tail =
        rw (at_byte 40 _ f)
        (then_gives (number_reads r x.value xo x.before (stop_ends x.after comma) (from_spaced number x _ (at_step (40 ∷ []) _ f))) _ (λ w o j g.
        rw (curr_not _ _ _ (at_drop g) 37 (stop_unmarked x.after comma))
        (then_gives (list_number_reads r y yo comma (passed x.after comma g)) _ (λ w o j g.
        then_gives (list_number_reads r z zo e g) _ (λ w o j g. tail j g)))))

    percentages_give : At s i (40 ∷ (spaced percentage x ++ (44 ∷ (spaced percentage y ++ (44 ∷ (spaced percentage z ++ b))))))
        → ((j : ℕ) → At s j rest
        → Gives s (parse_alpha s j (rgba (scaled_channel (portion x.value)) (scaled_channel (portion y.value)) (scaled_channel (portion z.value)) 255)) c all)
        → Gives s (parse_rgb s i) c all
    unfolding parse_rgb rgb_rest rgb_marked
    percentages_give f tail =
        rw (at_byte 40 _ f)
        (then_gives (number_reads r x.value xo x.before (ends_percent _) (simp append_assoc at (from_spaced percentage x _ (at_step (40 ∷ []) _ f)))) _ (λ w o j g.
        rw (at_curr 37 _ g)
        (then_gives (list_percent_reads r y yo comma (passed x.after comma (at_step (37 ∷ []) _ g))) _ (λ w o j g.
        then_gives (list_percent_reads r z zo e g) _ (λ w o j g. tail j g)))))

    hsl_gives : At s i (40 ∷ (spaced number x ++ (44 ∷ (spaced percentage y ++ (44 ∷ (spaced percentage z ++ b))))))
        → ((j : ℕ) → At s j rest → Gives s (parse_alpha s j (hsl_color (double (exactly x.value)) (portion y.value) (portion z.value))) c all)
        → Gives s (parse_hsl s i) c all
    unfolding parse_hsl hsl_rest
    hsl_gives f tail =
        rw (at_byte 40 _ f)
        (then_gives (list_number_reads r x xo comma (at_step (40 ∷ []) _ f)) _ (λ w o j g.
        then_gives (list_percent_reads r y yo comma g) _ (λ w o j g.
        then_gives (list_percent_reads r z zo e g) _ (λ w o j g. tail j g))))

-- a name and `(`: which of the two readers goes on, at the bracket
module _ {c : ℕ} {n : List ℕ} (w : Spelling (c ∷ n)) (l : every is_lower (c ∷ n) ≡ true) (more : List ℕ) where
  abbrev call : List ℕ
  call = spelling w ++ (40 ∷ more)

  abbrev opens : ℕ
  opens = length (spelling w)

  opened : At call opens (40 ∷ more)
  opened = record { before = spelling w; text = refl; here = refl }

  named : parse_color call 0 ≡ cond (is_rgb (spelling w)) (parse_rgb call opens) (cond (is_hsl (spelling w)) (parse_hsl call opens) (named_color (spelling w) opens))
  unfolding within
  named =
      let k : 0 < opens = omega (arith, length-map (spelling w) lower_of, ap length (spelled_lower w l)) in
      word_first (spelling w) (40 ∷ more) (letters (spelling w) (rw (spelled_lower w l) l)) k refl

  rgb_word : (same (c ∷ n) (ascii "rgb") || same (c ∷ n) (ascii "rgba")) ≡ true → parse_color call 0 ≡ parse_rgb call opens
  unfolding is_rgb
  rgb_word e = named ∙ simp (spelled_lower w l, e)

  hsl_word : (same (c ∷ n) (ascii "rgb") || same (c ∷ n) (ascii "rgba")) ≡ false → (same (c ∷ n) (ascii "hsl") || same (c ∷ n) (ascii "hsla")) ≡ true
      → parse_color call 0 ≡ parse_hsl call opens
  unfolding is_rgb is_hsl
  hsl_word d e = named ∙ simp (spelled_lower w l, d, e)

-- The colour of a notation: an integer is clipped as the document says; what a percentage, an alpha and a hue come to is the reader's, of the doubles nearest to what is written.
abbrev pub rgb_colour : Rgb → Color
rgb_colour (integers x y z) = rgba (channel x.value) (channel y.value) (channel z.value) 255
rgb_colour (percentages x y z) = rgba (scaled_channel (portion x.value)) (scaled_channel (portion y.value)) (scaled_channel (portion z.value)) 255

abbrev pub faded : Color → Spaced Number → Color
faded c a = rgba c.red c.green c.blue (scaled_channel (double (exactly a.value)))

abbrev pub colour : Functional → Color
colour (K.rgb w t) = rgb_colour t
colour (K.rgba w t a) = faded (rgb_colour t) a
colour (K.hsl w t) = hsl_of t
colour (K.hsla w t a) = faded (hsl_of t) a

abbrev pub numbered : Spaced Integer → Spaced Number
numbered v = record { before = v.before; value = as_number v.value; after = v.after }

as_number_spaced : (v : Spaced Integer) → spaced integer v ≡ spaced number (numbered v)
unfolding spaced
as_number_spaced v = refl

module _ (r : NumbersRead) {s b rest all : List ℕ} (e : Stop b rest) (i : ℕ) (c : Color) where
  rgb_gives : (t : Rgb) → RgbInDomain t → At s i (40 ∷ (rgb_values t ++ b)) → ((j : ℕ) → At s j rest → Gives s (parse_alpha s j (rgb_colour t)) c all) → Gives s (parse_rgb s i) c all
  unfolding rgb_values
  rgb_gives (integers x y z) ok f tail =
      integers_give r (numbered x) (numbered y) (numbered z) ok.0 ok.1.0 ok.1.1 e i c (simp (append_assoc, as_number_spaced) at f)
      (λ j g. simp (integer_channel x.value ok.0, integer_channel y.value ok.1.0, integer_channel z.value ok.1.1) (tail j g))
  rgb_gives (percentages x y z) ok f tail = percentages_give r x y z ok.0 ok.1.0 ok.1.1 e i c (simp append_assoc at f) tail

  hsl_all : (t : Hsl) → HslInDomain t → At s i (40 ∷ (hsl_values t ++ b)) → ((j : ℕ) → At s j rest → Gives s (parse_alpha s j (hsl_of t)) c all) → Gives s (parse_hsl s i) c all
  unfolding hsl_values
  hsl_all t ok f tail = hsl_gives r t.hue t.saturation t.lightness ok.0 ok.1.0 ok.1.1 e i c (simp append_assoc at f) tail

-- what goes on with `rest` has ended where the text did
ended : (text call rest : List ℕ) (c : Color) → text ++ rest ≡ call → Gives call (parse_color call 0) c rest → parse_color (text ++ rest) 0 ≡ read_on c (place (length text))
ended text call rest c q g =
    let n : g.next ≡ length text = omega (arith, g.from.here, ap length g.from.text, ap length q, length-append g.from.before rest, length-append text rest) in
    rw (q, ← n) g.is

-- THEOREM. Every text of the four notations, its numbers in the domain, is read as its colour, and reading goes on right after its bracket, whatever follows.
pub functional_read : NumbersRead → (t : Functional) → AllInDomain t → (rest : List ℕ) → parse_color (functional t ++ rest) 0 ≡ read_on (colour t) (place (length (functional t)))
unfolding functional within same
functional_read r (K.rgb w t) ok rest =
    let more = rgb_values t ++ (41 ∷ rest) in
    ended (functional (K.rgb w t)) (call w refl more) rest (rgb_colour t) (simp append_assoc)
    (rw (rgb_word w refl more refl) (rgb_gives r bracket _ _ t ok (opened w refl more) (λ j g. opaque_gives _ g)))
functional_read r (K.rgba w t a) ok rest =
    let more = rgb_values t ++ (44 ∷ (spaced number a ++ (41 ∷ rest))) in
    ended (functional (K.rgba w t a)) (call w refl more) rest (faded (rgb_colour t) a) (simp append_assoc)
    (rw (rgb_word w refl more refl) (rgb_gives r comma _ _ t ok.0 (opened w refl more) (λ j g. alpha_gives r a ok.1 (rgb_colour t) g)))
functional_read r (K.hsl w t) ok rest =
    let more = hsl_values t ++ (41 ∷ rest) in
    ended (functional (K.hsl w t)) (call w refl more) rest (hsl_of t) (simp append_assoc)
    (rw (hsl_word w refl more refl refl) (hsl_all r bracket _ _ t ok (opened w refl more) (λ j g. opaque_gives _ g)))
functional_read r (K.hsla w t a) ok rest =
    let more = hsl_values t ++ (44 ∷ (spaced number a ++ (41 ∷ rest))) in
    ended (functional (K.hsla w t a)) (call w refl more) rest (faded (hsl_of t) a) (simp append_assoc)
    (rw (hsl_word w refl more refl refl) (hsl_all r comma _ _ t ok.0 (opened w refl more) (λ j g. alpha_gives r a ok.1 (hsl_of t) g)))
