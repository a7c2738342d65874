-- SVG 2's paints are what the paint reader reads, given that the colours are read.
use Prim.Native.Nat.{ℕ, suc, ◌+◌, ◌-◌, ◌≤◌}
use mathlib.Core.Bool.{Bool, true, false}
use mathlib.Core.List.{List, [], ◌++◌, append_assoc, append-nil}
use mathlib.Core.Path.{◌≡◌, refl, sym, ap, ◌∙◌}
use native.Mathlib.Omega.{arith}
use borrow.Author.Tests.{ne_eqb, le-leb, lt-leb, ltb-true}
use lib.Dec.{eqb, leb, ltb}
use lib.ListN.{length, get_or, drop, length-append, length-map}
use lib.Seq.{drop_at, take_at}
use Rattle.utf8.specs.Blanks.{blank1}
use Rattle.text_bytes.specs.Bytes.{is_space, within}
use Rattle.text_bytes.specs.Moves.{place}
use Rattle.text_bytes.specs.Scan.{scan, run}
use Rattle.text_bytes.specs.Words.{ascii, starts_with, same, lower_of, part}
use Rattle.text_bytes.specs.declared.Part.{Part}
use Rattle.text_bytes.proofs.Ranges.{either}
use Rattle.names.specs.Keywords.{keywords}
use Rattle.names.specs.Look.{look_up, named_of}
use Rattle.color.specs.Color.{is_rgb, is_hsl, named_color, parse_word, parse_color, parse_color_text}
use Rattle.color.specs.declared.Color.{Color}
use Rattle.funciri.specs.Link.{link_at, link_bytes}
use Rattle.paint.specs.Answers.{parse_trimmed, from_str}
use Rattle.paint.specs.Moves.{move_paint}
use Rattle.paint.specs.Reading.{parse_fallback, parse_linked, parse_plain, parse_paint}
use Rattle.paint.specs.declared.Paint.TheVariants as P
use Rattle.paint.specs.declared.PaintFallback.{PaintFallback}
use Rattle.std.specs.Prelude.{Err, Ok, Result, Some, None}
use Rattle.stream.specs.declared.Fault.{Fault}
use Rattle.stream.specs.declared.Read.{Read}
use Rattle.standards.specs.CssValues3.{Blank, blanks}
use Rattle.standards.specs.Svg2 as S
use Rattle.standards.specs.Svg2.{Url, name, opening, closing, url_text, fallback_text, paint_text}
use Rattle.standards.specs.Domain.{Closes, PaintCloses}
use Rattle.standards.specs.Answers.{fallback_of, paint_of, read_on}
use Rattle.standards.proofs.Cursors.{differs, blanks_past, blanks_scan, drop_past}
use Rattle.standards.proofs.Links.{link_read, url_clean}
use Rattle.standards.proofs.Runs.{Ascii}
use Rattle.standards.proofs.Tight.{Tight, Clean, tight_clean, clean_around, clean_written, start_is, trim_is, blanks_written, written_append, written_admitted}
use Rattle.standards.proofs.Utf8.{Written}
use Rattle.text_bytes.proofs.Wording.{begins_with}

is_refused : Result (Read Color) Fault → Bool
is_refused (Ok r) = false
is_refused (Err e) = true

-- no colour is read where a word of SVG 2 stands, or a link
record Apart : Type 0 where
  none : is_refused (parse_color_text (ascii "none")) ≡ true
  inherit : is_refused (parse_color_text (ascii "inherit")) ≡ true
  current : is_refused (parse_color_text (ascii "currentColor")) ≡ true
  fill : is_refused (parse_color_text (ascii "context-fill")) ≡ true
  stroke : is_refused (parse_color_text (ascii "context-stroke")) ≡ true
  url : (rest : List ℕ) → is_refused (parse_color_text (ascii "url(" ++ rest)) ≡ true

apart : Apart
unfolding is_refused parse_color_text parse_color parse_word is_rgb is_hsl named_color named_of look_up keywords same lower_of part scan run within
apart =
    record {
      none = refl;
      inherit = refl;
      current = refl;
      fill = refl;
      stroke = refl;
      url = λ rest. let a : leb (suc (suc (suc (suc (length rest))))) 0 ≡ false = lt-leb (suc (suc (suc (suc (length rest))))) 0 (omega arith) in simp a;
    }

-- The colours that a paint may have: each is read as a whole text, is ASCII, and has no white space at its ends. That it is none of SVG 2's words follows
pub record Coloured {Colour : Type 0} (colour : Colour → List ℕ) (channels : Colour → Color) : Type 0 where
  pub read : (c : Colour) → parse_color_text (colour c) ≡ read_on (channels c) (place (length (colour c)))
  pub tight : (c : Colour) → Tight (colour c)

module _ {Colour : Type 0} {colour : Colour → List ℕ} {channels : Colour → Color} (k : Coloured colour channels) where
  no_text : (c : Colour) (w : List ℕ) → is_refused (parse_color_text w) ≡ true → colour c ≡ w → ⊥
  unfolding is_refused
  no_text c w r e =
      let a : is_refused (parse_color_text w) ≡ false = rw (← e, k.read c) in
      let z : false ≡ true = sym a ∙ r in
      let y : ◌≡◌ {A = ℕ} 0 1 = cc in
      omega arith

  not_word : (c : Colour) (w : List ℕ) → is_refused (parse_color_text w) ≡ true → same (colour c) w ≡ false
  not_word c w r = differs (colour c) w (no_text c w r)

  not_url : (c : Colour) → starts_with (ascii "url(") (colour c) ≡ false
  not_url c =
      either (starts_with (ascii "url(") (colour c))
      (λ e. absurd (no_text c _ (apart.url (drop 4 (colour c))) (begins_with (ascii "url(") (colour c) e)))
      (λ e. e)

  plain_read : (c : Colour) → parse_paint (colour c) ≡ Ok (P.Color (channels c))
  unfolding parse_paint parse_plain
  plain_read c =
      simp (
        not_word c (ascii "none") apart.none,
        not_word c (ascii "inherit") apart.inherit,
        not_word c (ascii "currentColor") apart.current,
        not_word c (ascii "context-fill") apart.fill,
        not_word c (ascii "context-stroke") apart.stroke,
        not_url c,
        k.read c,
      )

-- a byte that is no white space is no space
no_space : (b : ℕ) → blank1 b ≡ false → is_space b ≡ false
unfolding blank1
no_space b h = simp (other 32 refl, other 9 refl, other 10 refl, other 13 refl)
  where
    other : (n : ℕ) → blank1 n ≡ true → eqb b n ≡ false
    other n t =
        ne_eqb b n (λ e.
        let f : blank1 b ≡ true = rw e t in
        let z : true ≡ false = sym f ∙ h in
        let y : ◌≡◌ {A = ℕ} 0 1 = cc in
        omega arith)

link_of : Url → Part
link_of u = link_at (place (0 + length (opening u))) (length (name u))

module _ (u : Url) (c : Closes u) where
  -- a link, white space, and w
  linked_on : (l : List Blank) (w : List ℕ) → Tight w → {v : PaintFallback} → parse_fallback w ≡ Ok v → parse_linked (url_text u ++ (blanks l ++ w)) ≡ Ok (P.FuncIRI (link_of u) (Some v))
  unfolding parse_linked link_of
  linked_on l w t q =
      let n = length (url_text u) in
      let s = url_text u ++ (blanks l ++ w) in
      let d : drop n s ≡ blanks l ++ w = drop_at (url_text u) (blanks l ++ w) n refl in
      let e : scan is_space s n ≡ n + length l = blanks_scan s n l w d (no_space (get_or w 0 0) t.first) in
      let f : drop (n + length l) s ≡ w = blanks_past s n l w d in
      let g : leb (length s) (n + length l) ≡ false = lt-leb (length s) (n + length l) (simp (length-append, length-map) (omega (arith, t.some))) in
      let h : 0 + length (opening u) ≡ length (opening u) = omega arith in
      simp (link_read u c (blanks l ++ w), e, f, g, h, q)

  linked_alone : parse_linked (url_text u ++ []) ≡ Ok (P.FuncIRI (link_of u) None)
  unfolding parse_linked link_of scan run
  linked_alone =
      let n = length (url_text u) in
      let s = url_text u ++ [] in
      let d : drop n s ≡ [] = drop_at (url_text u) [] n refl in
      let g : leb (length s) (n + 0) ≡ true = le-leb (length s) (n + 0) (simp length-append (omega arith)) in
      let h : 0 + length (opening u) ≡ length (opening u) = omega arith in
      simp (link_read u c [], d, g, h)

  -- a text that begins with a link is judged as one
  url_judged : (rest : List ℕ) → parse_paint (url_text u ++ rest) ≡ parse_linked (url_text u ++ rest)
  unfolding parse_paint url_text opening same starts_with
  url_judged rest = refl

word_tight : (w : List ℕ) → ltb 0 (length w) ≡ true → Ascii w → blank1 (get_or w 0 0) ≡ false → blank1 (get_or w (length w - 1) 0) ≡ false → Tight w
word_tight w s a f l = record { some = ltb-true 0 (length w) s; in_ascii = a; first = f; last = l }

module _ {Colour : Type 0} {colour : Colour → List ℕ} {channels : Colour → Color} (k : Coloured colour channels) where
  linked_read : (u : Url) → Closes u → (f : S.Fallback Colour) → parse_linked (url_text u ++ fallback_text colour f) ≡ Ok (P.FuncIRI (link_of u) (fallback_of channels f))
  unfolding fallback_text fallback_of parse_fallback same blank1
  linked_read u c S.absent = linked_alone u c
  linked_read u c (S.no_paint l) = linked_on u c l (ascii "none") (word_tight _ refl refl refl refl) refl
  linked_read u c (S.current l) = linked_on u c l (ascii "currentColor") (word_tight _ refl refl refl refl) refl
  linked_read u c (S.coloured l d) =
      linked_on u c l (colour d) (k.tight d) (simp (not_word k d (ascii "none") apart.none, not_word k d (ascii "currentColor") apart.current, k.read d))

  paint_parsed : (t : S.Paint Colour) → PaintCloses t → parse_paint (paint_text colour t) ≡ Ok (paint_of channels 0 t)
  unfolding paint_text paint_of parse_paint same link_of
  paint_parsed S.none c = refl
  paint_parsed S.inherit c = refl
  paint_parsed S.current_color c = refl
  paint_parsed S.context_fill c = refl
  paint_parsed S.context_stroke c = refl
  paint_parsed (S.plain d) c = plain_read k d
  paint_parsed (S.linked u f) c = url_judged u c (fallback_text colour f) ∙ linked_read u c f

  pub paint_clean : (t : S.Paint Colour) → Clean (paint_text colour t)
  unfolding paint_text fallback_text blank1
  paint_clean S.none = tight_clean _ (word_tight _ refl refl refl refl)
  paint_clean S.inherit = tight_clean _ (word_tight _ refl refl refl refl)
  paint_clean S.current_color = tight_clean _ (word_tight _ refl refl refl refl)
  paint_clean S.context_fill = tight_clean _ (word_tight _ refl refl refl refl)
  paint_clean S.context_stroke = tight_clean _ (word_tight _ refl refl refl refl)
  paint_clean (S.plain c) = tight_clean _ (k.tight c)
  paint_clean (S.linked u S.absent) = rw append-nil (url_clean u)
  paint_clean (S.linked u (S.no_paint l)) = clean_around (url_clean u) (blanks_written l) (tight_clean (ascii "none") (word_tight _ refl refl refl refl))
  paint_clean (S.linked u (S.current l)) = clean_around (url_clean u) (blanks_written l) (tight_clean (ascii "currentColor") (word_tight _ refl refl refl refl))
  paint_clean (S.linked u (S.coloured l c)) = clean_around (url_clean u) (blanks_written l) (tight_clean _ (k.tight c))

  paint_moved : (n : ℕ) (t : S.Paint Colour) → move_paint n (paint_of channels 0 t) ≡ paint_of channels n t
  unfolding move_paint paint_of
  paint_moved n S.none = refl
  paint_moved n S.inherit = refl
  paint_moved n S.current_color = refl
  paint_moved n S.context_fill = refl
  paint_moved n S.context_stroke = refl
  paint_moved n (S.plain c) = refl
  paint_moved n (S.linked u f) =
      let e : 0 + length (opening u) ≡ length (opening u) = omega arith in
      rw e refl

  -- a paint, with white space around it
  pub paint_read : (before after : List Blank) (t : S.Paint Colour) → PaintCloses t → length (blanks before ++ (paint_text colour t ++ blanks after)) ≤ 4096
      → from_str (blanks before ++ (paint_text colour t ++ blanks after)) ≡ Ok (paint_of channels (length before) t)
  unfolding from_str parse_trimmed
  paint_read before after t c h =
      let x = paint_text colour t in
      let s = blanks before ++ (x ++ blanks after) in
      let w : Clean x = paint_clean t in
      let e : Written s = written_append (blanks_written before) (written_append (clean_written w) (blanks_written after)) in
      simp (written_admitted s e h, trim_is before x after w, paint_parsed t c, start_is before x after w) (ap Ok (paint_moved (length before) t))

  -- the part that a link is told by holds the bytes of its name
  pub link_bytes_of : (before after : List Blank) (u : Url) (f : S.Fallback Colour)
      → link_bytes (blanks before ++ (paint_text colour (S.linked u f) ++ blanks after)) (link_at (place (length before + length (opening u))) (length (name u))) ≡ name u
  unfolding link_bytes paint_text url_text
  link_bytes_of before after u f =
      let s = blanks before ++ (paint_text colour (S.linked u f) ++ blanks after) in
      let rest = closing u ++ (fallback_text colour f ++ blanks after) in
      let e : s ≡ blanks before ++ (opening u ++ (name u ++ rest)) = simp append_assoc in
      let i = length before + length (opening u) in
      let d : drop i s ≡ name u ++ rest = rw e (drop_past before (opening u) (name u ++ rest)) in
      let g : leb (i + length (name u)) (length s) ≡ true = le-leb (i + length (name u)) (length s) (rw e (simp (length-append, length-map) (omega arith))) in
      simp (g, d) (take_at (name u) rest (length (name u)) refl)
