-- Texts with no white space at their ends, of ASCII or not: white space around one is what trimming takes away, by the theorem of White_Space.
use Prim.Native.Nat.{ℕ, suc, ◌+◌, ◌-◌, ◌≤◌, ◌<◌}
use mathlib.Core.Bool.{true, false}
use mathlib.Core.List.{List, [], ◌∷◌, ◌++◌, append_assoc, append-nil}
use mathlib.Core.Path.{◌≡◌, refl, sym, ◌∙◌}
use native.Mathlib.Omega.{arith}
use lib.ListN.{length, get_or, length-append, length-map, get_or-append}
use lib.Seq.{get_or-append-add}
use Rattle.utf8.specs.Blanks.{blank1, trim_start, trim_end, trim_of}
use Rattle.utf8.specs.Characters.{utf8_of}
use Rattle.stream.specs.Refusals.{admit_text}
use Rattle.std.specs.Prelude.{Ok}
use Rattle.standards.specs.Rfc3629.{Octet, Char, utf8_1, octets, text, scalar}
use Rattle.standards.specs.Unicode.{is_white, white, ends_white, all_white, begins_white}
use Rattle.standards.specs.CssValues3.{Blank, space, tab, line_feed, return, blank, blanks}
use Rattle.standards.proofs.Runs.{Ascii, ascii_append, ascii_rest, ascii_byte, blanks_ascii, utf8_admitted}
use Rattle.standards.proofs.Trim.{white1, text_append, trim_start_is, trim_end_is, ends_append}
use Rattle.standards.proofs.Trim as T
use Rattle.standards.proofs.Utf8.{Written, utf8_accepts}

-- ASCII, with no white space at either end
pub record Tight (x : List ℕ) : Type 0 where
  pub some : 0 < length x
  pub in_ascii : Ascii x
  pub first : blank1 (get_or x 0 0) ≡ false
  pub last : blank1 (get_or x (length x - 1) 0) ≡ false

-- its characters
octet : (x : ℕ) → x < 128 → Octet 0x00 0x7f
octet x h = record { is = x; from = omega arith; to = omega arith }

abbrev chars : (s : List ℕ) → Ascii s → List Char
chars [] e = []
chars (x ∷ xs) e = utf8_1 (octet x (ascii_byte (x ∷ xs) 0 e)) ∷ chars xs (ascii_rest x xs e)

text_chars : (s : List ℕ) (e : Ascii s) → text (chars s e) ≡ s
unfolding text octets octet
text_chars [] e = refl
text_chars (x ∷ xs) e = rw (text_chars xs (ascii_rest x xs e)) refl

abbrev whites : List Blank → List Char
whites l = chars (blanks l) (blanks_ascii l)

blank_white : (b : Blank) → is_white (blank b) ≡ true
unfolding is_white blank
blank_white space = refl
blank_white tab = refl
blank_white line_feed = refl
blank_white return = refl

blanks_all_white : (l : List Blank) (e : Ascii (blanks l)) → all_white (chars (blanks l) e) ≡ true
unfolding all_white scalar octet
blanks_all_white [] e = refl
blanks_all_white (b ∷ l) e = rw (blank_white b) (blanks_all_white l (ascii_rest (blank b) (blanks l) e))

bare : (x : ℕ) (h : x < 128) → blank1 x ≡ false → is_white x ≡ false
unfolding octet
bare x h e = sym (white1 (octet x h)) ∙ e

begins_bare : (x : List ℕ) (e : Ascii x) (more : List Char) → 0 < length x → blank1 (get_or x 0 0) ≡ false → begins_white (chars x e ++ more) ≡ false
unfolding begins_white scalar octet
begins_bare [] e more h b = absurd (omega arith)
begins_bare (x ∷ xs) e more h b = bare x (ascii_byte (x ∷ xs) 0 e) b

ends_bare : (x : List ℕ) (e : Ascii x) → blank1 (get_or x (length x - 1) 0) ≡ false → ends_white (chars x e) ≡ false
unfolding ends_white scalar octet
ends_bare [] e b = refl
ends_bare (x ∷ []) e b = bare x (ascii_byte (x ∷ []) 0 e) b
ends_bare (x ∷ y ∷ ys) e b =
    let m : length (y ∷ ys) - 1 ≡ length ys = omega arith in
    let n : length (x ∷ y ∷ ys) - 1 ≡ suc (length ys) = omega arith in
    ends_bare (y ∷ ys) (ascii_rest x (y ∷ ys) e) (rw m (rw n at b))

-- characters, with no White_Space at either end
pub record Clean (x : List ℕ) : Type 0 where
  pub first : Char
  pub others : List Char
  pub same : text (first ∷ others) ≡ x
  pub bare_start : white first ≡ false
  pub bare_end : ends_white (first ∷ others) ≡ false

pub tight_clean : (x : List ℕ) → Tight x → Clean x
unfolding scalar octet
tight_clean [] t = absurd (omega (arith, t.some))
tight_clean (x ∷ xs) t =
    record {
      first = utf8_1 (octet x (ascii_byte (x ∷ xs) 0 t.in_ascii));
      others = chars xs (ascii_rest x xs t.in_ascii);
      same = text_chars (x ∷ xs) t.in_ascii;
      bare_start = bare x (ascii_byte (x ∷ xs) 0 t.in_ascii) t.first;
      bare_end = ends_bare (x ∷ xs) t.in_ascii t.last;
    }

module _ (before : List Blank) (x : List ℕ) (after : List Blank) (t : Clean x) where
  abbrev middle : List Char
  middle = t.first ∷ t.others

  parts_are : text (whites before ++ (middle ++ whites after)) ≡ blanks before ++ (x ++ blanks after)
  parts_are = simp (text_append, text_chars, t.same)

  pub start_is : trim_start (blanks before ++ (x ++ blanks after)) ≡ length before
  unfolding begins_white
  start_is = rw (← parts_are) (trim_start_is (whites before) (middle ++ whites after) (blanks_all_white before _) t.bare_start ∙ simp (text_chars, length-map))

  pub trim_is : trim_of (blanks before ++ (x ++ blanks after)) ≡ x
  unfolding begins_white
  trim_is =
      rw (← parts_are) (T.trim_is _ (record {
        before = whites before;
        middle = middle;
        after = whites after;
        whole = refl;
        white_before = blanks_all_white before _;
        bare_start = t.bare_start;
        bare_end = t.bare_end;
        white_after = blanks_all_white after _;
      }) ∙ t.same)

-- and without white space at its end nothing goes there
pub clean_end : (cs : List Char) → ends_white cs ≡ false → trim_end (text cs) ≡ length (text cs)
unfolding all_white
clean_end cs e = rw append-nil at (trim_end_is cs [] e refl)

-- a text is clean where its two ends are
pub clean_around : {a m w : List ℕ} → Clean a → Written m → Clean w → Clean (a ++ (m ++ w))
clean_around {a} {m} {w} t e u =
    record {
      first = t.first;
      others = t.others ++ (e.chars ++ (u.first ∷ u.others));
      same = text_append (t.first ∷ t.others) (e.chars ++ (u.first ∷ u.others)) ∙ rw (t.same, text_append e.chars (u.first ∷ u.others), e.same, u.same);
      bare_start = t.bare_start;
      bare_end = rw (← append_assoc) (ends_append (t.first ∷ t.others ++ e.chars) u.first u.others ∙ u.bare_end);
    }

-- ASCII is of characters, and so is what is joined of them
pub ascii_written : (x : List ℕ) → Ascii x → Written x
ascii_written x e = record { chars = chars x e; same = text_chars x e }

pub blanks_written : (l : List Blank) → Written (blanks l)
blanks_written l = ascii_written (blanks l) (blanks_ascii l)

pub written_append : {a b : List ℕ} → Written a → Written b → Written (a ++ b)
written_append x y = record { chars = x.chars ++ y.chars; same = text_append x.chars y.chars ∙ rw (x.same, y.same) }

pub clean_written : {x : List ℕ} → Clean x → Written x
clean_written t = record { chars = t.first ∷ t.others; same = t.same }

-- and if it is short enough it may be read
pub written_admitted : (s : List ℕ) → Written s → length s ≤ 4096 → admit_text s ≡ Ok tt
written_admitted s w h = let u : utf8_of s ≡ Ok tt = rw w.same at (utf8_accepts w.chars) in utf8_admitted s u h

-- a text is tight where its two ends are
pub tight_around : {a w : List ℕ} (m : List ℕ) → Tight a → Ascii m → Tight w → Tight (a ++ (m ++ w))
tight_around {a} {w} m t e u =
    let k = length w - 1 in
    let n : length (a ++ (m ++ w)) - 1 ≡ length (a ++ m) + k = simp length-append (omega (arith, u.some)) in
    let f : get_or (a ++ (m ++ w)) 0 0 ≡ get_or a 0 0 = get_or-append a (m ++ w) 0 0 t.some in
    let g : get_or ((a ++ m) ++ w) (length (a ++ m) + k) 0 ≡ get_or w k 0 = get_or-append-add (a ++ m) w k 0 in
    record {
      some = simp length-append (omega (arith, t.some));
      in_ascii = ascii_append a (m ++ w) t.in_ascii (ascii_append m w e u.in_ascii);
      first = rw f t.first;
      last = rw (n, ← append_assoc, g) u.last;
    }
