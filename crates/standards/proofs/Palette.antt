-- CSS's colours, of all notations, are what the reader of colours reads: at the front of a text, as a whole text, and where a paint or a shadow holds one.
use Prim.Native.Nat.{ℕ, zero, suc, ◌+◌, ◌-◌, ◌≤◌, ◌<◌}
use mathlib.Core.Bool.{Bool, true, false, ◌&&◌, ◌||◌, not}
use mathlib.Core.List.{List, [], ◌∷◌, ◌++◌, append_assoc, append-nil}
use mathlib.Core.Logic.{⊎_elim}
use mathlib.Core.Path.{◌≡◌, refl, sym}
use native.Mathlib.Omega.{arith}
use borrow.Author.Tests.{eqb-true, le-ltb, ltb-true}
use lib.Dec.{T, eqb, ltb}
use lib.ListN.{length, get_or, drop, length-append, length-map}
use lib.Seq.{drop_at}
use Rattle.utf8.specs.Blanks.{blank1}
use Rattle.text_bytes.specs.Bytes.{within, is_lower, is_hex_digit, is_space, is_ascii_ident}
use Rattle.text_bytes.specs.Moves.{place}
use Rattle.text_bytes.specs.Scan.{scan, run}
use Rattle.text_bytes.specs.Words.{ascii}
use Rattle.text_bytes.proofs.Ranges.{and_first, and_second, either, le_or_lt, within_high, within_ge, within_le, all_from}
use Rattle.numbers.specs.Number.{starts_number}
use Rattle.color.specs.Answer.{from_str}
use Rattle.color.specs.Color.{parse_color, parse_color_text}
use Rattle.color.specs.Hex.{rgba}
use Rattle.color.specs.declared.Color.{Color}
use Rattle.std.specs.Prelude.{Ok}
use Rattle.standards.specs.CssValues3.{Blank, blanks, Number, number, percentage}
use Rattle.standards.specs.CssColor3 as K
use Rattle.standards.specs.CssColor3.{Spelling, done, small, capital, spelling, integer, Spaced, spaced, Rgb, integers, percentages, Hsl, rgb_values, hsl_values, Functional, functional}
use Rattle.standards.specs.CssColor3Names.{keywords}
use Rattle.standards.specs.CssColor4 as X
use Rattle.standards.specs.CssColor4.{HexColor, hex_text}
use Rattle.standards.specs.Colors.{line, Colour, hex, keyword, transparent, function, colour}
use Rattle.standards.specs.Answers.{color_of, read_on}
use Rattle.standards.proofs.Numbers.{numbers_read}
use Rattle.standards.proofs.Runs.{every, every_map, blanks_end, Ascii, ascii_append, blanks_ascii, number_ascii}
use Rattle.standards.proofs.Tight.{Tight, tight_around}
use Rattle.standards.proofs.Spellings.{in_range, at_letter, spelled_lower}
use Rattle.standards.proofs.Colours.{color_text}
use Rattle.standards.proofs.Hex as H
use Rattle.standards.proofs.Keywords.{is_function, keyword_is_name, names_read, names_transparent}
use Rattle.standards.proofs.Functional as F
use Rattle.standards.proofs.Marked.{closes_word}
use Rattle.standards.proofs.Paints as P
use Rattle.standards.proofs.Shadows as S

-- the channels that are read: those of the hex digits, those of the table with alpha 255, all 0 for `transparent`, and those of the functional notations
abbrev pub channels : Colour → Color
channels (hex t) = color_of (X.channels t)
channels (keyword k h w) = rgba (line k).red (line k).green (line k).blue 255
channels (transparent w) = rgba 0 0 0 0
channels (function t d) = F.colour t

-- the keywords are names of small letters
letters_of : (k : ℕ) → k < length keywords → (every is_lower (ascii (line k).name) && ltb 0 (length (ascii (line k).name))) ≡ true
letters_of k l =
    let n = ascii (line k).name in
    let e = keyword_is_name k l in
    let r = and_second (every is_lower n) (ltb 0 (length n) && not (is_function n)) e in
    simp (and_first (every is_lower n) (ltb 0 (length n) && not (is_function n)) e, and_first (ltb 0 (length n)) (not (is_function n)) r)

-- Bytes that are seen, from `!` to `~`; and those that a colour starts with: `#`, and from `A` to `z`
abbrev is_seen : ℕ → Bool
is_seen b = within 33 126 b

abbrev is_first : ℕ → Bool
is_first b = eqb b 35 || within 65 122 b

seen_test : (p : ℕ → Bool) → T (all_from p 33 94) → (b : ℕ) → is_seen b ≡ true → p b ≡ true
seen_test p h b e = in_range p 33 94 h b (omega (arith, within_ge 33 126 b (sym e))) (omega (arith, within_le 33 126 b (sym e)))

seen_ascii : (s : List ℕ) → every is_seen s ≡ true → Ascii s
seen_ascii [] e = refl
seen_ascii (x ∷ xs) e =
    rw (seen_test (λ b. ltb b 128) tt x (and_first (is_seen x) (every is_seen xs) e)) (seen_ascii xs (and_second (is_seen x) (every is_seen xs) e))

every_at : (p : ℕ → Bool) (s : List ℕ) (i : ℕ) → every p s ≡ true → i < length s → p (get_or s i 0) ≡ true
every_at p [] i e h = absurd (omega arith)
every_at p (x ∷ xs) zero e h = and_first (p x) (every p xs) e
every_at p (x ∷ xs) (suc i) e h = every_at p xs i (and_second (p x) (every p xs) e) (omega arith)

turned : (t : Bool) → not t ≡ true → t ≡ false
turned true e = cc
turned false e = refl

seen_unblank : (b : ℕ) → is_seen b ≡ true → blank1 b ≡ false
unfolding blank1
seen_unblank b e = turned (blank1 b) (seen_test (λ c. not (blank1 c)) tt b e)

-- a text of them is tight
tight_seen : (s : List ℕ) → every is_seen s ≡ true → 0 < length s → Tight s
tight_seen s e h =
    record {
      some = h;
      in_ascii = seen_ascii s e;
      first = seen_unblank (get_or s 0 0) (every_at is_seen s 0 e h);
      last = seen_unblank (get_or s (length s - 1) 0) (every_at is_seen s (length s - 1) e (omega arith));
    }

-- spelt names are seen, and as long as they are
spelled_seen : {n : List ℕ} (w : Spelling n) → every is_lower n ≡ true → every is_seen (spelling w) ≡ true
unfolding spelling within
spelled_seen done e = refl
spelled_seen (small c {n} w) e = simp (at_letter is_seen tt c (and_first (is_lower c) (every is_lower n) e), spelled_seen w (and_second (is_lower c) (every is_lower n) e))
spelled_seen (capital c {n} w) e =
    simp (at_letter (λ b. is_seen (b - 32)) tt c (and_first (is_lower c) (every is_lower n) e), spelled_seen w (and_second (is_lower c) (every is_lower n) e))

spelled_length : {n : List ℕ} (w : Spelling n) → length (spelling w) ≡ length n
unfolding spelling
spelled_length done = refl
spelled_length (small c w) = simp (spelled_length w)
spelled_length (capital c w) = simp (spelled_length w)

module _ {n : List ℕ} (w : Spelling n) (e : (every is_lower n && ltb 0 (length n)) ≡ true) where
  letters : every is_lower n ≡ true
  letters = and_first (every is_lower n) (ltb 0 (length n)) e

  some : 0 < length n
  some = ltb-true 0 (length n) (and_second (every is_lower n) (ltb 0 (length n)) e)

  spelled_tight : Tight (spelling w)
  spelled_tight = tight_seen (spelling w) (spelled_seen w letters) (omega (arith, some, spelled_length w))

spelled_first : {n : List ℕ} (w : Spelling n) → (every is_lower n && ltb 0 (length n)) ≡ true → (x : List ℕ) → is_first (get_or (spelling w ++ x) 0 0) ≡ true
unfolding spelling within
spelled_first done e x = absurd (omega (arith, some done e))
spelled_first (small c {n} w) e x = at_letter is_first tt c (and_first (is_lower c) (every is_lower n) (letters (small c w) e))
spelled_first (capital c {n} w) e x = at_letter (λ b. is_first (b - 32)) tt c (and_first (is_lower c) (every is_lower n) (letters (small c w) e))

-- hex digits are seen
digit_seen : (d : X.Digit) → is_seen (X.character d) ≡ true
unfolding X.character within
digit_seen (X.numeral n h) = in_range is_seen 48 10 tt (48 + n) (omega arith) (omega arith)
digit_seen (X.small n h) = in_range is_seen 97 6 tt (97 + n) (omega arith) (omega arith)
digit_seen (X.capital n h) = in_range is_seen 65 6 tt (65 + n) (omega arith) (omega arith)

hex_tight : (t : HexColor) → Tight (hex_text t)
unfolding within
hex_tight t = tight_seen (hex_text t) (every_map is_seen X.character digit_seen (X.digits t)) (omega arith)

-- the values of a function are ASCII
spaced_ascii : {A : Type 0} (text : A → List ℕ) → ((x : A) → Ascii (text x)) → (v : Spaced A) → Ascii (spaced text v)
unfolding spaced
spaced_ascii text h v = ascii_append (blanks v.before) (text v.value ++ blanks v.after) (blanks_ascii v.before) (ascii_append (text v.value) (blanks v.after) (h v.value) (blanks_ascii v.after))

module _ {A B : Type 0} (f : A → List ℕ) (g : B → List ℕ) (p : (x : A) → Ascii (f x)) (q : (x : B) → Ascii (g x)) where
  listed_ascii : (x : Spaced A) (y z : Spaced B) → Ascii (spaced f x ++ (44 ∷ (spaced g y ++ (44 ∷ spaced g z))))
  listed_ascii x y z =
      ascii_append (spaced f x) (44 ∷ (spaced g y ++ (44 ∷ spaced g z))) (spaced_ascii f p x) (ascii_append (spaced g y) (44 ∷ spaced g z) (spaced_ascii g q y) (spaced_ascii g q z))

integer_ascii : (n : K.Integer) → Ascii (integer n)
integer_ascii n = number_ascii (K.as_number n)

percentage_ascii : (n : Number) → Ascii (percentage n)
percentage_ascii n = ascii_append (number n) (37 ∷ []) (number_ascii n) refl

rgb_ascii : (t : Rgb) → Ascii (rgb_values t)
unfolding rgb_values
rgb_ascii (integers r g b) = listed_ascii integer integer integer_ascii integer_ascii r g b
rgb_ascii (percentages r g b) = listed_ascii percentage percentage percentage_ascii percentage_ascii r g b

hsl_ascii : (t : Hsl) → Ascii (hsl_values t)
unfolding hsl_values
hsl_ascii t = listed_ascii number percentage number_ascii percentage_ascii t.hue t.saturation t.lightness

-- a name and brackets
module _ {n : List ℕ} (w : Spelling n) (e : (every is_lower n && ltb 0 (length n)) ≡ true) (values : List ℕ) (p : Ascii values) where
  called_tight : Tight (spelling w ++ (40 ∷ (values ++ (41 ∷ []))))
  unfolding within
  called_tight = tight_around (40 ∷ values) (spelled_tight w e) p (tight_seen (41 ∷ []) refl (omega arith))

  faded_tight : (a : Spaced Number) → Tight (spelling w ++ (40 ∷ (values ++ (44 ∷ (spaced number a ++ (41 ∷ []))))))
  unfolding within
  faded_tight a =
      simp append_assoc at
      (tight_around (40 ∷ (values ++ (44 ∷ spaced number a))) (spelled_tight w e) (ascii_append values (44 ∷ spaced number a) p (spaced_ascii number number_ascii a)) (tight_seen (41 ∷ []) refl (omega arith)))

functional_tight : (t : Functional) → Tight (functional t)
unfolding functional within
functional_tight (K.rgb w t) = called_tight w refl (rgb_values t) (rgb_ascii t)
functional_tight (K.rgba w t a) = faded_tight w refl (rgb_values t) (rgb_ascii t) a
functional_tight (K.hsl w t) = called_tight w refl (hsl_values t) (hsl_ascii t)
functional_tight (K.hsla w t a) = faded_tight w refl (hsl_values t) (hsl_ascii t) a

functional_first : (t : Functional) (rest : List ℕ) → is_first (get_or (functional t ++ rest) 0 0) ≡ true
unfolding functional within
functional_first (K.rgb w t) rest = rw append_assoc (spelled_first w refl _)
functional_first (K.rgba w t a) rest = rw append_assoc (spelled_first w refl _)
functional_first (K.hsl w t) rest = rw append_assoc (spelled_first w refl _)
functional_first (K.hsla w t a) rest = rw append_assoc (spelled_first w refl _)

-- a colour has no white space at its ends
pub colour_tight : (t : Colour) → Tight (colour t)
unfolding colour within
colour_tight (hex t) = hex_tight t
colour_tight (keyword k h w) = spelled_tight w (letters_of k h)
colour_tight (transparent w) = spelled_tight w refl
colour_tight (function t d) = functional_tight t

colour_first : (t : Colour) (rest : List ℕ) → is_first (get_or (colour t ++ rest) 0 0) ≡ true
unfolding colour within
colour_first (hex t) rest = refl
colour_first (keyword k h w) rest = spelled_first w (letters_of k h) rest
colour_first (transparent w) rest = spelled_first w refl rest
colour_first (function t d) rest = functional_first t rest

-- a hex digit is a word's byte
no_digit : (b : ℕ) → is_ascii_ident b ≡ false → is_hex_digit b ≡ false
unfolding within
no_digit b e =
    ⊎_elim (λ (h : 128 ≤ b). simp (← within_high 48 57 b (omega arith), ← within_high 65 70 b (omega arith), ← within_high 97 102 b (omega arith)))
    (λ (h : b < 128). turned (is_hex_digit b) (simp e at (in_range (λ c. is_ascii_ident c || not (is_hex_digit c)) 0 128 tt b (omega arith) (omega arith))))
    (le_or_lt 128 b)

-- THEOREM. Every colour is read with its channels, and reading goes on right after it, where no letter, digit, `-` or `_` follows: `)`, white space and the end of the text are none.
pub colour_read : (t : Colour) (rest : List ℕ) → is_ascii_ident (get_or rest 0 0) ≡ false → parse_color (colour t ++ rest) 0 ≡ read_on (channels t) (place (length (colour t)))
unfolding colour within
colour_read (hex t) rest e =
    let n : length (hex_text t) ≡ 1 + length (X.digits t) = omega (arith, length-map (X.digits t) X.character) in
    rw n (H.hex_read t rest (no_digit (get_or rest 0 0) e))
colour_read (keyword k h w) rest e = names_read k h (spelling w) rest (spelled_lower w (letters w (letters_of k h))) e
colour_read (transparent w) rest e = names_transparent (spelling w) rest (spelled_lower w refl) e
colour_read (function t d) rest e = F.functional_read numbers_read t d rest

-- THEOREM. A colour with white space about it, of at most 4,096 bytes in all, is answered with its channels.
pub colour_whole : (before after : List Blank) (t : Colour) → length (blanks before ++ (colour t ++ blanks after)) ≤ 4096 → from_str (blanks before ++ (colour t ++ blanks after)) ≡ Ok (channels t)
unfolding within
colour_whole before after t h =
    color_text before after (colour t) (channels t) (simp (length-append, length-map) at h) (colour_tight t).in_ascii
    (colour_read t (blanks after) (blanks_end is_ascii_ident refl refl refl refl refl after))

-- as a whole text with nothing about it
alone_read : (t : Colour) → parse_color_text (colour t) ≡ read_on (channels t) (place (length (colour t)))
unfolding parse_color_text scan run within
alone_read t =
    let s = colour t in
    let e : parse_color s 0 ≡ read_on (channels t) (place (length s)) = rw append-nil at (colour_read t [] refl) in
    let d : drop (length s) s ≡ [] = rw append-nil at (drop_at s [] (length s) refl) in
    simp (e, d, le-ltb (length s + 0) (length s) (omega arith))

-- the colours of a paint
pub paint_colours : P.Coloured colour channels
paint_colours = record { read = alone_read; tight = colour_tight }

-- the colours of a shadow
first_other : (p : ℕ → Bool) → p 35 ≡ false → T (all_from (λ b. not (p b)) 65 58) → (x : ℕ) → is_first x ≡ true → p x ≡ false
first_other p z h x e =
    either (eqb x 35) (λ q. rw (eqb-true x 35 q) z)
    (λ q.
    let f : within 65 122 x ≡ true = simp q at e in
    turned (p x) (in_range (λ b. not (p b)) 65 58 h x (omega (arith, within_ge 65 122 x (sym f))) (omega (arith, within_le 65 122 x (sym f)))))

first_begins : (x : ℕ) → is_first x ≡ true → S.Begins x
unfolding within
first_begins x e =
    record {
      unspaced = first_other is_space refl tt x e;
      no_number = first_other starts_number refl tt x e;
      no_bracket = λ q. let f : eqb x 41 ≡ false = first_other (λ b. eqb b 41) refl tt x e in let y : ◌≡◌ {A = ℕ} 0 1 = cc in omega arith;
    }

pub shadow_colours : S.Coloured colour channels
shadow_colours =
    record {
      front = λ t rest c. colour_read t rest (closes_word c);
      begins = λ t rest. first_begins (get_or (colour t ++ rest) 0 0) (colour_first t rest);
      plain = λ t. (colour_tight t).in_ascii;
    }
