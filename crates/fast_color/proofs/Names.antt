-- A word that is a name, or none: as a whole text, and at a place.
use Prim.Native.Nat.{ℕ, suc, ◌-◌, ◌≤◌, ◌<◌}
use mathlib.Core.Bool.{Bool, true, false, ◌&&◌, ◌||◌, not}
use mathlib.Core.List.{List, [], ◌∷◌}
use mathlib.Core.Path.{◌≡◌, refl, sym, ap, ◌∙◌}
use native.Mathlib.Omega.{arith}
use borrow.Author.Tests.{not-true, leb-true, ltb-true, le-leb}
use lib.Dec.{leb, ltb}
use lib.ListN.{length, get_or, take, drop, length-map, length-take, length-drop}
use lib.Seq.{length-take-le}
use Rattle.std.specs.Prelude.{Ok, Err, Option, Some, None}
use Rattle.text_bytes.proofs.Ahead.{scan_bytes}
use Rattle.text_bytes.specs.Bytes.{within, is_digit, is_upper, is_space, is_ascii_ident}
use Rattle.utf8.specs.Characters.{is_ascii}
use Rattle.text_bytes.specs.Scan.{run, scan}
use Rattle.text_bytes.specs.Words.{ascii, same, lower_of, lowered, part}
use Rattle.text_bytes.proofs.Parts.{rest_part, byte_inside}
use Rattle.text_bytes.proofs.Ranges.{and_first, and_second, either}
use Rattle.text_bytes.proofs.Scans.{run_le, scan_le}
use Rattle.text_bytes.proofs.Wording.{word_byte, same_eq}
use Rattle.utf8.proofs.Walks.{ascii_all, ascii_utf8}
use Rattle.stream.proofs.Opening.{is_word}
use Rattle.stream.specs.Faults.{invalid_value}
use Rattle.stream.specs.Refusals.{empty_refusal, admit_utf8, admit_text}
use Rattle.stream.specs.declared.Reason.TheVariants as R
use Rattle.stream.specs.declared.Trouble.TheVariants as T
use Rattle.names.specs.Keywords.{Keyword, keywords}
use Rattle.names.specs.Look.{channels, look_up, named_of}
use Rattle.names.specs.declared.Named.{Named}
use Rattle.names.specs.declared.Named.TheVariants as N
use Rattle.color.specs.Answer.{from_str}
use Rattle.color.specs.Color.{is_rgb, is_hsl, named_read, named_color, parse_word, parse_color}
use Rattle.color.specs.Hex.{rgba, color_read}
use Rattle.color.specs.declared.Color.{Color}
use Rattle.packed.specs.Numbers.{color_number, number_color}
use Rattle.fast_names.specs.Named.{named_number}
use Rattle.fast_names.proofs.Bounds.{named_unnamed}
use Rattle.fast_color.specs.Told.{numbered, told_or, refused}
use Rattle.fast_color.proofs.Starts.{word_start, spaced_start, told_back}
use Rattle.fast_color.proofs.Told.{no_some, text_invalid, text_color}

-- a name in the table begins no function, is a word, and short
abbrev fit : List ℕ → Bool
fit w =
    is_word w && (leb 1 (length w) && (leb (length w) 4096
    && (not (same w (ascii "rgb") || same w (ascii "rgba")) && not (same w (ascii "hsl") || same w (ascii "hsla")))))

-- of what it names, if it names anything
abbrev fair : List ℕ → Option Named → Bool
fair w (Some (N.Keyword c)) = fit w
fair w (Some N.Transparent) = fit w
fair w None = true

abbrev fairs : List Keyword → Bool
fairs [] = fair (ascii "transparent") (Some N.Transparent)
fairs (e ∷ es) = fair e.name (Some (N.Keyword (channels e))) && fairs es

fairs_look : (w : List ℕ) (es : List Keyword) → fairs es ≡ true → fair w (look_up es w) ≡ true
unfolding look_up
fairs_look w [] h =
    either (same w (ascii "transparent")) (λ e. let q = same_eq w (ascii "transparent") e in simp e (rw q h)) (λ e. simp e)
fairs_look w (e ∷ es) h =
    either (same w e.name)
    (λ t. let q = same_eq w e.name t in simp t (rw q (and_first (fair e.name (Some (N.Keyword (channels e)))) (fairs es) h)))
    (λ t. simp t (fairs_look w es (and_second (fair e.name (Some (N.Keyword (channels e)))) (fairs es) h)))

named_fair : (w : List ℕ) → fair (lowered w) (named_of w) ≡ true
unfolding named_of keywords within same
named_fair w = fairs_look (lowered w) keywords refl

-- letter case is nothing to a word
word_lowered : (b : ℕ) → is_ascii_ident (lower_of b) ≡ true → is_ascii_ident b ≡ true
unfolding lower_of
word_lowered b e = either (is_upper b) (λ u. either (is_digit b) (λ d. simp d) (λ d. simp (d, u))) (λ u. simp u (simp u at e))

run_lowered : (w : List ℕ) → is_word (lowered w) ≡ true → run is_ascii_ident w ≡ length w
unfolding run
run_lowered [] e = refl
run_lowered (x ∷ xs) e =
    let f = word_lowered x (and_first (is_ascii_ident (lower_of x)) (is_word (lowered xs)) e) in
    simp f (ap suc (run_lowered xs (and_second (is_ascii_ident (lower_of x)) (is_word (lowered xs)) e)))

-- a word that begins no function
record Free (w : List ℕ) : Type 0 where
  some : 0 < length w
  rgb : is_rgb w ≡ false
  hsl : is_hsl w ≡ false

-- what a name is, and its colour
record Name (w : List ℕ) (v : ℕ) : Type 0 where
  free : Free w
  word : run is_ascii_ident w ≡ length w
  small : length w ≤ 4096
  color : Color
  read : (end : ℕ) → named_read (named_of w) end ≡ color_read color end
  number : v ≡ color_number color

module _ (w : List ℕ) (v : ℕ) (h : named_number (named_of w) ≡ Some v) where
  name : Name w v
  unfolding is_rgb is_hsl named_number
  name = go (named_of w) refl (named_fair w) h
    where
      made : fit (lowered w) ≡ true → (c : Color) → ((end : ℕ) → named_read (named_of w) end ≡ color_read c end) → v ≡ color_number c → Name w v
      made f c r n =
          let v = lowered w in
          let l : length v ≡ length w = length-map w lower_of in
          let rgb = same v (ascii "rgb") || same v (ascii "rgba") in
          let hsl = same v (ascii "hsl") || same v (ascii "hsla") in
          let a = not rgb && not hsl in
          let b = leb (length v) 4096 && a in
          let d = leb 1 (length v) && b in
          let e : d ≡ true = and_second (is_word v) d f in
          let g : b ≡ true = and_second (leb 1 (length v)) b e in
          let i : a ≡ true = and_second (leb (length v) 4096) a g in
          record {
            free = record {
              some = omega (arith, leb-true 1 (length v) (and_first (leb 1 (length v)) b e));
              rgb = not-true rgb (and_first (not rgb) (not hsl) i);
              hsl = not-true hsl (and_second (not rgb) (not hsl) i);
            };
            word = run_lowered w (and_first (is_word v) d f);
            small = omega (arith, leb-true (length v) 4096 (and_first (leb (length v) 4096) a g));
            color = c;
            read = r;
            number = n;
          }

      given : {n : ℕ} → Some n ≡ Some v → v ≡ n
      given e = cc

      go : (n : Option Named) → named_of w ≡ n → fair (lowered w) n ≡ true → named_number n ≡ Some v → Name w v
      go (Some (N.Keyword c)) e f h = made f (rgba c.red c.green c.blue 255) (λ end. rw e refl) (given h)
      go (Some N.Transparent) e f h = made f (rgba 0 0 0 0) (λ end. rw e refl) (given h)
      go None e f h = no_some h

-- a word w at i that begins no function is read as a name
word_name : (s : List ℕ) (i : ℕ) (w : List ℕ) → part s i (scan is_ascii_ident s i) ≡ w → Free w → parse_color s i ≡ named_read (named_of w) (scan is_ascii_ident s i)
unfolding parse_word named_color part scan
word_name s i w p f =
    let e = scan is_ascii_ident s i in
    let l : 0 < length (take (e - i) (drop i s)) = rw p f.some in
    let m : i < e = omega (arith, length-take (e - i) (drop i s)) in
    let n : i < length s = omega (arith, run_le is_ascii_ident (drop i s), length-drop i s) in
    let b = word_byte (get_or s i 0) (scan_bytes is_ascii_ident s i i (omega arith) (omega arith)) in
    word_start s i n (omega (arith, b.low)) ∙ simp (p, f.rgb, f.hsl)

-- at a place
name_here : (s : List ℕ) (i v : ℕ) → named_number (named_of (take (scan is_ascii_ident s i - i) (drop i s))) ≡ Some v
    → parse_color s i ≡ color_read (number_color v) (scan is_ascii_ident s i)
unfolding part
name_here s i v q =
    let e = scan is_ascii_ident s i in
    let w = take (e - i) (drop i s) in
    let n = name w v q in
    sym (told_back s i n.color e v (word_name s i w refl n.free ∙ n.read e) n.number)

-- and spaces before it
pub name_read : (s : List ℕ) (at v : ℕ)
    → named_number (named_of (take (scan is_ascii_ident s (scan is_space s at) - scan is_space s at) (drop (scan is_space s at) s))) ≡ Some v
    → (named_number (named_of (take (scan is_ascii_ident s (scan is_space s at) - scan is_space s at) (drop (scan is_space s at) s))) ≡ Some v)
    × (parse_color s at ≡ color_read (number_color v) (scan is_ascii_ident s (scan is_space s at)))
name_read s at v q = (q, sym (spaced_start s at) ∙ name_here s (scan is_space s at) v q)

-- the word is the whole text
module _ (s : List ℕ) (all : length s ≤ scan is_ascii_ident s 0) where
  ends : scan is_ascii_ident s 0 ≡ length s
  ends = omega (arith, all, scan_le is_ascii_ident s 0 (omega arith))

  word_admit : length s ≤ 4096 → admit_text s ≡ Ok tt
  unfolding admit_text admit_utf8
  word_admit small =
      let a : is_ascii s ≡ true = ascii_all s (λ j h. omega (arith, (word_byte (get_or s j 0) (scan_bytes is_ascii_ident s 0 j (omega arith) (omega arith))).high)) in
      simp (← ascii_utf8 s (sym a) refl, le-leb (length s) 4096 small)

  word_read : Free s → parse_color s 0 ≡ named_read (named_of s) (length s)
  unfolding part
  word_read f = rw ends at (word_name s 0 s (rw ends (rest_part s 0)) f)

module _ (s : List ℕ) where
  -- for the slice up to its end
  pub word_inside : length (take (scan is_ascii_ident s 0) s) ≡ scan is_ascii_ident s 0
  word_inside = length-take-le (scan is_ascii_ident s 0) s (scan_le is_ascii_ident s 0 (omega arith))

  pub name_told : (v : ℕ) → named_number (named_of s) ≡ Some v → (named_number (named_of s) ≡ Some v) × (numbered (from_str s) ≡ Ok v)
  unfolding scan numbered
  name_told v q =
      let n = name s v q in
      let all : length s ≤ scan is_ascii_ident s 0 = omega (arith, n.word) in
      let t : from_str s ≡ Ok n.color = text_color s (word_admit s all n.small) _ (word_read s all n.free ∙ n.read (length s)) (omega arith) in
      (q, ap numbered t ∙ ap Ok (sym n.number))

  -- another word, that begins no function
  pub name_none : named_number (named_of s) ≡ None → length s ≤ scan is_ascii_ident s 0 → is_rgb s ≡ false → is_hsl s ≡ false
      → (named_number (named_of s) ≡ None) × (told_or (refused s (scan is_ascii_ident s 0)) (numbered (from_str s)) ≡ numbered (from_str s))
  unfolding told_or refused numbered
  name_none q all a b = (
    q,
    either (ltb 0 (length s))
        (λ t. either (leb (length s) 4096)
        (λ u. let f : Free s = record { some = ltb-true 0 (length s) t; rgb = a; hsl = b } in
        let r : parse_color s 0 ≡ Err (invalid_value (length s)) = word_read s all f ∙ ap (λ m. named_read m (length s)) (named_unnamed s q) in
        simp (t, u, ends s all, text_invalid s (word_admit s all (leb-true (length s) 4096 u)) (length s) r))
        (λ u. simp (t, u)))
        (λ t. simp t),
  )

  -- a word that names no colour, with whatever follows it
  pub unnamed_told : 35 < get_or s 0 0 → is_rgb (take (scan is_ascii_ident s 0) s) ≡ false → is_hsl (take (scan is_ascii_ident s 0) s) ≡ false
      → named_number (named_of (take (scan is_ascii_ident s 0) s)) ≡ None → admit_text s ≡ Ok tt
      → (admit_text s ≡ Ok tt) × (numbered (from_str s) ≡ Err (empty_refusal (R.Unread T.InvalidValue) (scan is_ascii_ident s 0)))
  unfolding numbered parse_word named_color part
  unnamed_told first a b n admit =
      let some : 0 < length s = byte_inside s 0 (get_or s 0 0) refl (omega arith) in
      let z = named_unnamed (take (scan is_ascii_ident s 0) s) n in
      let k : scan is_ascii_ident s 0 - 0 ≡ scan is_ascii_ident s 0 = omega arith in
      (admit, ap numbered (text_invalid s admit (scan is_ascii_ident s 0) (word_start s 0 some first ∙ simp (k, a, b, z))))
