-- What may not stand where a function's name and bracket should, by Filter Effects 1, is refused.
use Prim.Native.Nat.{ℕ, ◌+◌, ◌≤◌}
use mathlib.Core.Bool.{true, false}
use mathlib.Core.List.{List, [], ◌∷◌, ◌++◌}
use mathlib.Core.Path.{◌≡◌, refl, sym, ap, ◌∙◌}
use native.Mathlib.Omega.{arith}
use borrow.Author.Tests.{ne_eqb, le-leb, lt-leb, lt-ltb}
use lib.Dec.{eqb, lit≤}
use lib.ListN.{length, get_or, drop, length-map, length-drop}
use Rattle.text_bytes.specs.Bytes.{within, is_space, is_ascii_ident}
use Rattle.text_bytes.specs.Scan.{run, scan}
use Rattle.text_bytes.specs.Words.{ascii, starts_with}
use Rattle.text_bytes.proofs.Ranges.{either, and_first, and_second}
use Rattle.text_bytes.proofs.Wording.{begins_with, starts_first, word_byte}
use Rattle.stream.specs.Faults.{unexpected_end, unexpected_data, invalid_value, invalid_char, consume_byte}
use Rattle.std.specs.Prelude.{Ok, Err, None}
use Rattle.stream.specs.Refusals.{number_of, refusal_of, admit_place, reason_number}
use Rattle.stream.specs.declared.Fault.{Fault}
use Rattle.stream.specs.declared.Trouble.TheVariants as T
use Rattle.filter_functions.specs.Filters.{plain_name, filter_name, argument_of, parse_next, after_none, parse_step}
use Rattle.standards.specs.CssValues3.{Blank, blank, blanks, space, unsigned, whole, absent, spelt, joined, Number}
use Rattle.standards.specs.FilterEffects1.{brightness, contrast, grayscale, invert, opacity, saturate, sepia, simple_name, unmarked, CssLength, two, bare, Content, blur_default, simple_default, hue_rotate_default, drop_shadow, url, name}
use Rattle.standards.specs.Rfc3629.{utf8_1, scalar}
use Rattle.standards.specs.CssSyntax3.{is_url}
use Rattle.standards.specs.Colors.{Colour, colour}
use Rattle.standards.proofs.Cursors.{byte_here, past, blanks_past, blanks_scan, scan_on, inside, scanned_none, differs}
use Rattle.standards.proofs.Runs.{every, run_map, no_space, blanks_end, blanks_alone}
use Rattle.only.proofs.Cuts.{blank_of}
use Rattle.only.specs.Only.{Opens, name_at, position_at, Refuses, NameByte, name_byte, word, NotNone, NoBlank, Stands}
use Rattle.only.proofs.Steps.{edge, refuses, Reads, refused_at}

no_blank : (b : ℕ) → NoBlank b → is_space b ≡ false
no_blank b other = either (is_space b) (λ q. let k = blank_of b q in absurd (other k.0 (sym k.1))) (λ q. q)

-- THEOREM. `none` with anything but white space after it is refused by 5
pub none_alone : {s : List ℕ} {i : ℕ} (before after : List Blank) (c : ℕ) (rest : List ℕ) → NoBlank c
    → Stands s i (blanks before ++ (ascii "none" ++ (blanks after ++ (c ∷ rest)))) → Refuses s i 5 None
unfolding parse_step after_none starts_with refusal_of reason_number number_of
none_alone {s} {i} before after c rest other o =
    let h = o.text in
    let sp : is_space c ≡ false = no_blank c other in
    let x = blanks after ++ (c ∷ rest) in
    let start = i + length before in
    let e : drop start s ≡ ascii "none" ++ x = blanks_past s i before (ascii "none" ++ x) h in
    let f : drop (start + 4) s ≡ x = past s start (ascii "none") x e in
    let g : drop (start + 4 + length after) s ≡ c ∷ rest = blanks_past s (start + 4) after (c ∷ rest) f in
    let p : parse_step s i ≡ Err (invalid_value (start + 4 + length after)) =
    simp (
      blanks_scan s i before (ascii "none" ++ x) h refl,
      lt-leb (length s) start (inside s start (ascii "none" ++ x) e (omega arith)),
      e,
      blanks_scan s (start + 4) after (c ∷ rest) f sp,
      lt-ltb (start + 4 + length after) (length s) (inside s (start + 4 + length after) (c ∷ rest) g (omega arith)),
    ) in
    record { refusal = refusal_of s (invalid_value (start + 4 + length after)); answer = edge s i _ o.admitted p; numbered = refl; positioned = refl }

-- what begins a word and what follows it, and has bytes of a word alone, begins the word
begun : (v w y : List ℕ) → every is_ascii_ident v ≡ true → is_ascii_ident (get_or y 0 0) ≡ false → starts_with v (w ++ y) ≡ true → starts_with v w ≡ true
unfolding starts_with
begun [] w y n e h = refl
begun (a ∷ v) [] y n e h =
    let p : is_ascii_ident a ≡ true = and_first (is_ascii_ident a) (every is_ascii_ident v) n in
    let z : is_ascii_ident a ≡ false = rw (starts_first a v y h) at e in
    absurd (let x : true ≡ false = sym p ∙ z in let q : ◌≡◌ {A = ℕ} 0 1 = cc in omega arith)
begun (a ∷ v) (b ∷ w) y n e h =
    simp (and_first (eqb b a) (starts_with v (w ++ y)) h) (begun v w y (and_second (is_ascii_ident a) (every is_ascii_ident v) n) e (and_second (eqb b a) (starts_with v (w ++ y)) h))

name_byte_is : (c : NameByte) → is_ascii_ident (name_byte c) ≡ true
unfolding name_byte
name_byte_is c = c.named

-- one of each kind, for their names
unfoldable nought : Number
nought = record { signed = unsigned; digits_of = whole (record { is = 0; small = lit≤ tt }) []; exponent_part = absent }

length_nought : CssLength
unfolding joined spelt nought
length_nought = record { size = nought; mark = unmarked; zero = λ e. refl }

unfoldable shadow_none : Content Colour
shadow_none = drop_shadow (bare (two length_nought space [] length_nought))

unfoldable url_none : Content Colour
unfolding is_url scalar
url_none = url (record { is = utf8_1 (record { is = 97; from = lit≤ tt; to = lit≤ tt }); belongs = refl }) []

-- a word that does not begin with `none`, before anything that does not go on with it
module _ (c : NameByte) (cs : List NameByte) (none : NotNone (word (c ∷ cs))) where
  abbrev w : List ℕ
  w = word (c ∷ cs)

  module _ (y : List ℕ) (e : is_ascii_ident (get_or y 0 0) ≡ false) where
    w_run : run is_ascii_ident (w ++ y) ≡ length w
    w_run = run_map is_ascii_ident name_byte name_byte_is (c ∷ cs) y e ∙ sym (length-map (c ∷ cs) name_byte)

    w_none : starts_with (ascii "none") (w ++ y) ≡ false
    unfolding within
    w_none = either (starts_with (ascii "none") (w ++ y)) (λ b. absurd (none _ (begins_with (ascii "none") w (begun (ascii "none") w y refl e b)))) (λ b. b)

  w_unspaced : is_space (name_byte c) ≡ false
  w_unspaced = no_space (name_byte c) (omega (arith, (word_byte (name_byte c) (name_byte_is c)).low))

  w_reads : Reads w
  unfolding within
  w_reads = record { run_is = λ x. w_run (40 ∷ x) refl; unspaced = λ x. w_unspaced; no_none = λ x. w_none (40 ∷ x) refl }

  -- up to where its bracket should be
  module _ (s : List ℕ) (i : ℕ) (before : List Blank) (y : List ℕ) (e : is_ascii_ident (get_or y 0 0) ≡ false) (h : drop i s ≡ blanks before ++ (w ++ y)) where
    at_word : drop (i + length before) s ≡ w ++ y
    at_word = blanks_past s i before (w ++ y) h

    after_word : drop (i + length before + length w) s ≡ y
    after_word = past s (i + length before) w y at_word

    unopened : (at : ℕ) (f : Fault) → scan is_space s (i + length before + length w) ≡ at → consume_byte s at 40 ≡ Err f → parse_step s i ≡ Err f
    unfolding parse_step parse_next
    unopened at f q k =
        simp (
          blanks_scan s i before (w ++ y) h w_unspaced,
          lt-leb (length s) (i + length before) (inside s (i + length before) (w ++ y) at_word (omega arith)),
          at_word,
          w_none y e,
          scan_on s (i + length before) (w ++ y) at_word is_ascii_ident (length w) (w_run y e),
          q,
          k,
        )

-- THEOREM. A word that is no function's name is refused by 6
module _ {s : List ℕ} {i : ℕ} (c : NameByte) (cs : List NameByte) (held : List ℕ) (o : Opens s i (word (c ∷ cs)) held)
    (other : (f : Content Colour) → word (c ∷ cs) ≡ name colour f → ⊥) (none : NotNone (word (c ∷ cs))) where
  unknown : (name at : ℕ) → argument_of (filter_name (word (c ∷ cs))) s name at ≡ Err (unexpected_data s name)
  unfolding filter_name plain_name name simple_name shadow_none url_none
  unknown n at =
      simp (
        differs (word (c ∷ cs)) (ascii "blur") (λ e. other blur_default e),
        differs (word (c ∷ cs)) (ascii "drop-shadow") (λ e. other shadow_none e),
        differs (word (c ∷ cs)) (ascii "hue-rotate") (λ e. other hue_rotate_default e),
        differs (word (c ∷ cs)) (ascii "url") (λ e. other url_none e),
        differs (word (c ∷ cs)) (ascii "brightness") (λ e. other (simple_default brightness) e),
        differs (word (c ∷ cs)) (ascii "contrast") (λ e. other (simple_default contrast) e),
        differs (word (c ∷ cs)) (ascii "grayscale") (λ e. other (simple_default grayscale) e),
        differs (word (c ∷ cs)) (ascii "invert") (λ e. other (simple_default invert) e),
        differs (word (c ∷ cs)) (ascii "opacity") (λ e. other (simple_default opacity) e),
        differs (word (c ∷ cs)) (ascii "saturate") (λ e. other (simple_default saturate) e),
        differs (word (c ∷ cs)) (ascii "sepia") (λ e. other (simple_default sepia) e),
      )

  pub unknown_name : Refuses s i 6 (position_at s (name_at o))
  unfolding reason_number number_of
  unknown_name = refuses s i T.UnexpectedData (name_at o) (name_at o) (length s) refl o.stands.admitted (refused_at o (w_reads c cs none) _ _ refl (unknown (name_at o) _))

-- THEOREM. A name with no bracket after it is refused by 4 at the end of the text
pub name_alone : {s : List ℕ} {i : ℕ} (before after : List Blank) (c : NameByte) (cs : List NameByte) → NotNone (word (c ∷ cs))
    → Stands s i (blanks before ++ (word (c ∷ cs) ++ blanks after)) → Refuses s i 4 None
unfolding consume_byte refusal_of reason_number number_of within
name_alone {s} {i} before after c cs none o =
    let h = o.text in
    let y = blanks after in
    let e : is_ascii_ident (get_or y 0 0) ≡ false = blanks_end is_ascii_ident refl refl refl refl refl after in
    let at = i + length before + length (word (c ∷ cs)) in
    let g : drop at s ≡ blanks after = after_word c cs none s i before y e h in
    let q : scan is_space s at ≡ at + length after = scan_on s at y g is_space (length after) (blanks_alone after) in
    let z : length s ≤ at + length after = omega (arith, length-drop at s, ap length g, length-map after blank) in
    let p : parse_step s i ≡ Err (unexpected_end s) = unopened c cs none s i before y e h (at + length after) (unexpected_end s) q (simp (le-leb (length s) (at + length after) z)) in
    record { refusal = refusal_of s (unexpected_end s); answer = edge s i _ o.admitted p; numbered = refl; positioned = refl }

-- a byte (b) that is no bracket (40), where one should be
module _ (s : List ℕ) (at b : ℕ) (rest : List ℕ) (n : b ≡ 40 → ⊥) (h : drop at s ≡ b ∷ rest) where
  wrong_byte : consume_byte s at 40 ≡ Err (invalid_char at b 40)
  unfolding consume_byte
  wrong_byte = simp (lt-leb (length s) at (inside s at (b ∷ rest) h (omega arith)), byte_here s at (b ∷ rest) h, ne_eqb b 40 n)

char_refuses : (s : List ℕ) (i at b : ℕ) → admit_place s i ≡ Ok tt → parse_step s i ≡ Err (invalid_char at b 40) → Refuses s i 7 (position_at s at)
unfolding refusal_of reason_number number_of
char_refuses s i at b a h = record { refusal = refusal_of s (invalid_char at b 40); answer = edge s i (invalid_char at b 40) a h; numbered = refl; positioned = refl }

-- white space, if there is any, ends a word
spaced_word : (after : List Blank) (b : ℕ) (rest : List ℕ) → (after ≡ [] → is_ascii_ident b ≡ false) → is_ascii_ident (get_or (blanks after ++ (b ∷ rest)) 0 0) ≡ false
unfolding within
spaced_word [] b rest e = e refl
spaced_word (k ∷ after) b rest e = blanks_end is_ascii_ident refl refl refl refl refl (k ∷ after)

-- THEOREM. and by 7 at any other byte
pub name_unopened : {s : List ℕ} {i : ℕ} (before after : List Blank) (c : NameByte) (cs : List NameByte) (b : ℕ) (rest : List ℕ) → NotNone (word (c ∷ cs)) → NoBlank b
    → (after ≡ [] → is_ascii_ident b ≡ false) → (b ≡ 40 → ⊥) → Stands s i (blanks before ++ (word (c ∷ cs) ++ (blanks after ++ (b ∷ rest)))) → Refuses s i 7 (position_at s (i + length before + length (word (c ∷ cs)) + length after))
name_unopened {s} {i} before after c cs b rest none other end n o =
    let h = o.text in
    let y = blanks after ++ (b ∷ rest) in
    let e = spaced_word after b rest end in
    let at = i + length before + length (word (c ∷ cs)) in
    let g : drop at s ≡ y = after_word c cs none s i before y e h in
    let k : drop (at + length after) s ≡ b ∷ rest = blanks_past s at after (b ∷ rest) g in
    let q : scan is_space s at ≡ at + length after = blanks_scan s at after (b ∷ rest) g (no_blank b other) in
    char_refuses s i (at + length after) b o.admitted (unopened c cs none s i before y e h (at + length after) (invalid_char (at + length after) b 40) q (wrong_byte s (at + length after) b rest n k))

no_none_there : (y : List ℕ) → is_ascii_ident (get_or y 0 0) ≡ false → starts_with (ascii "none") y ≡ false
unfolding starts_with within
no_none_there y e = either (starts_with (ascii "none") y) (λ q. let z : false ≡ true = begun (ascii "none") [] y refl e q in q ∙ sym z) (λ q. q)

-- THEOREM. A byte that begins no name is refused by 7
pub no_name : {s : List ℕ} {i : ℕ} (before : List Blank) (b : ℕ) (rest : List ℕ) → NoBlank b → is_ascii_ident b ≡ false → (b ≡ 40 → ⊥) → Stands s i (blanks before ++ (b ∷ rest))
    → Refuses s i 7 (position_at s (i + length before))
unfolding parse_step parse_next
no_name {s} {i} before b rest other v n o =
    let h = o.text in
    let at = i + length before in
    let g : drop at s ≡ b ∷ rest = blanks_past s i before (b ∷ rest) h in
    let sp : is_space b ≡ false = no_blank b other in
    let z : starts_with (ascii "none") (b ∷ rest) ≡ false = no_none_there (b ∷ rest) v in
    let p : parse_step s i ≡ Err (invalid_char at b 40) =
    simp (
      blanks_scan s i before (b ∷ rest) h sp,
      lt-leb (length s) at (inside s at (b ∷ rest) g (omega arith)),
      g,
      z,
      scanned_none s at b rest g is_ascii_ident v,
      scanned_none s at b rest g is_space sp,
      wrong_byte s at b rest n g,
    ) in
    char_refuses s i at b o.admitted p
