-- SVG 2's link to an element of the same document is what the link reader reads.
use Prim.Native.Nat.{ℕ, ◌+◌, ◌-◌, ◌≤◌, ◌<◌}
use mathlib.Core.Bool.{Bool, true, false, ◌&&◌, ◌||◌, not, cond}
use mathlib.Core.List.{List, [], ◌∷◌, ◌++◌, append_assoc}
use mathlib.Core.Path.{◌≡◌, refl, sym, ◌∙◌}
use native.Mathlib.Nat.{add-zero}
use native.Mathlib.Omega.{arith}
use borrow.Author.Tests.{ne_eqb}
use lib.Dec.{eqb}
use lib.ListN.{length, get_or, take, drop, length-append, length-map}
use lib.Seq.{take_all}
use Rattle.utf8.specs.Blanks.{blank1, blank2, blank3, blank_end, blank_before, byte_before, back, trim_end}
use Rattle.text_bytes.specs.Bytes.{is_space, is_url_byte, is_other}
use Rattle.text_bytes.specs.Moves.{place}
use Rattle.stream.specs.Faults.{invalid_value, consume_byte, consume_string}
use Rattle.text_bytes.specs.Scan.{scan, run}
use Rattle.text_bytes.specs.Words.{ascii, starts_with, part}
use Rattle.text_bytes.specs.declared.Part.{Part}
use Rattle.text_bytes.proofs.Ranges.{and_first, and_second}
use Rattle.funciri.specs.Link.{is_quote, has_quote, is_link, link_at, close_link, close_quote, quoted_link, plain_link, parse_func_iri}
use Rattle.standards.specs.Answers.{read_on}
use Rattle.std.specs.Prelude.{Err, Ok}
use Rattle.standards.specs.Rfc3629.{Char, octets, text, scalar}
use Rattle.standards.specs.Unicode.{ends_white}
use Rattle.standards.specs.CssValues3.{Blank, space, tab, line_feed, return, blank, blanks}
use Rattle.standards.specs.CssSyntax3.{Of, characters, written, is_url, is_string, UrlCharacter}
use Rattle.standards.specs.Svg2.{Quotes, bare, single, twofold, quote, between, Url, name_characters, name, opening, closing, url_text}
use Rattle.standards.specs.Domain.{ends_link, unquoted, closed, Closes}
use Rattle.standards.proofs.Characters.{octets_every, written_every}
use Rattle.standards.proofs.Cursors.{past, byte_here, scan_on, consumed, consumed_word, blanks_scan, blanks_past, scanned_none, part_is}
use Rattle.standards.proofs.Runs.{every, every_append, run_every, Ascii, ascii_append, blanks_ascii}
use Rattle.standards.proofs.Tight.{Tight, Clean, tight_clean, clean_end, clean_around, ascii_written, written_append}
use Rattle.standards.proofs.Utf8.{Written, octets_some}

-- what a class does not have is no number of it
pub apart : (class : ℕ → Bool) (k : ℕ) → class k ≡ false → (n : ℕ) → class n ≡ true → eqb n k ≡ false
apart class k f n t = ne_eqb n k (λ e. let g : class k ≡ true = rw e at t in let z : false ≡ true = sym f ∙ g in let y : ◌≡◌ {A = ℕ} 0 1 = cc in omega arith)

-- nor is an ASCII byte one from 128 on
above : (n : ℕ) → 128 ≤ n → (k : ℕ) → k < 128 → eqb n k ≡ false
above n h k l = ne_eqb n k (λ e. omega arith)

-- the bytes of a name with no quotes around it, and of one with them
pub names_url : (l : List UrlCharacter) → every is_url_byte (written l) ≡ true
unfolding is_url
names_url l = written_every is_url_byte (λ n h. simp (above n h 32 (omega arith), above n h 41 (omega arith))) (λ n h. simp (apart is_url 32 refl n h, apart is_url 41 refl n h)) l

pub names_string : (q : ℕ) → q < 128 → (l : List (Of (is_string q))) → every (is_other q) (written l) ≡ true
unfolding is_string
names_string q s l = written_every (is_other q) (λ n h. simp (above n h q s)) (λ n h. and_first (not (eqb n q)) _ h) l

-- no quote is in them
pub url_unquoted : (l : List UrlCharacter) → unquoted (characters l) ≡ true
unfolding is_url unquoted characters
url_unquoted [] = refl
url_unquoted (c ∷ l) = simp (apart is_url 39 refl (scalar c.is) c.belongs, apart is_url 34 refl (scalar c.is) c.belongs, url_unquoted l)

abbrev pub no_quote : ℕ → Bool
no_quote n = not (is_quote n)

unquoted_bytes : (cs : List Char) → unquoted cs ≡ true → every no_quote (text cs) ≡ true
unfolding unquoted text
unquoted_bytes [] h = refl
unquoted_bytes (c ∷ cs) h =
    every_append no_quote (octets c) (text cs)
    (octets_every no_quote (λ n k. simp (above n k 39 (omega arith), above n k 34 (omega arith))) c (and_first (no_quote (scalar c)) (unquoted cs) h))
    (unquoted_bytes cs (and_second (no_quote (scalar c)) (unquoted cs) h))

without : (x : List ℕ) → every no_quote x ≡ true → has_quote x ≡ false
unfolding has_quote
without [] h = refl
without (b ∷ bs) h = or_not (is_quote b) (and_first (no_quote b) (every no_quote bs) h) (without bs (and_second (no_quote b) (every no_quote bs) h))
  where
    or_not : (t : Bool) {u : Bool} → not t ≡ true → u ≡ false → (t || u) ≡ false
    or_not true h k = sym h
    or_not false h k = k

pub name_link : (c : Char) (cs : List Char) → unquoted (c ∷ cs) ≡ true → is_link (text (c ∷ cs)) ≡ true
unfolding text is_link
name_link c cs h = go (octets c ++ text cs) (simp length-append (omega (arith, octets_some c))) (without (octets c ++ text cs) (unquoted_bytes (c ∷ cs) h))
  where
    go : (x : List ℕ) → 0 < length x → has_quote x ≡ false → is_link x ≡ true
    go [] s h = absurd (omega arith)
    go (b ∷ bs) s h = rw h

close_read : (s : List ℕ) (i : ℕ) (l : Part) (m : List Blank) (rest : List ℕ) → drop i s ≡ blanks m ++ (41 ∷ rest) → close_link s i l ≡ read_on l (place (i + length m + 1))
unfolding close_link
close_read s i l m rest e =
    let f : drop (i + length m) s ≡ 41 ∷ rest = blanks_past s i m (41 ∷ rest) e in
    simp (blanks_scan s i m (41 ∷ rest) e refl, consumed s (i + length m) 41 rest f)

module _ (x : List ℕ) (s : List ℕ) (i : ℕ) (m : List Blank) (rest : List ℕ) where
  plain_read : is_link x ≡ true → every is_url_byte x ≡ true → is_url_byte (get_or (blanks m ++ (41 ∷ rest)) 0 0) ≡ false → drop i s ≡ 35 ∷ (x ++ (blanks m ++ (41 ∷ rest)))
      → plain_link s i ≡ read_on (link_at (place (i + 1)) (length x)) (place (i + 1 + length x + length m + 1))
  unfolding plain_link
  plain_read link all stop e =
      let n = length x in
      let y = blanks m ++ (41 ∷ rest) in
      let f : drop (i + 1) s ≡ x ++ y = past s i (35 ∷ []) (x ++ y) e in
      let g : scan is_url_byte s (i + 1) ≡ i + 1 + n = scan_on s (i + 1) (x ++ y) f is_url_byte n (run_every is_url_byte x y all stop) in
      let h : part s (i + 1) (i + 1 + n) ≡ x = part_is s (i + 1) x y f n refl in
      let k : drop (i + 1 + n) s ≡ y = past s (i + 1) x y f in
      let d : i + 1 + n - (i + 1) ≡ n = omega arith in
      simp (consumed s i 35 (x ++ y) e, g, h, link, d, close_read s (i + 1 + n) (link_at (place (i + 1)) n) m rest k)

  pub quoted_is : (q : ℕ) → is_space q ≡ false → is_other q q ≡ false → every (is_other q) x ≡ true → drop i s ≡ 35 ∷ (x ++ (q ∷ (blanks m ++ (41 ∷ rest))))
      → quoted_link s i q
      ≡ cond (is_link (take (trim_end x) x)) (close_quote s (i + 1 + length x) q (link_at (place (i + 1)) (trim_end x))) (Err (invalid_value (i + 1 + length x)))
  unfolding quoted_link
  quoted_is q sp other all e =
      let n = length x in
      let y = q ∷ (blanks m ++ (41 ∷ rest)) in
      let f : drop (i + 1) s ≡ x ++ y = past s i (35 ∷ []) (x ++ y) e in
      let g : scan (is_other q) s (i + 1) ≡ i + 1 + n = scan_on s (i + 1) (x ++ y) f (is_other q) n (run_every (is_other q) x y all other) in
      let h : part s (i + 1) (i + 1 + n) ≡ x = part_is s (i + 1) x y f n refl in
      simp (scanned_none s i 35 (x ++ y) e is_space refl, consumed s i 35 (x ++ y) e, g, h)

  quoted_read : (q : ℕ) → is_space q ≡ false → is_other q q ≡ false → every (is_other q) x ≡ true → is_link x ≡ true → trim_end x ≡ length x
      → drop i s ≡ 35 ∷ (x ++ (q ∷ (blanks m ++ (41 ∷ rest))))
      → quoted_link s i q ≡ read_on (link_at (place (i + 1)) (length x)) (place (i + 1 + length x + 1 + length m + 1))
  unfolding close_quote
  quoted_read q sp other all link t e =
      let n = length x in
      let z = blanks m ++ (41 ∷ rest) in
      let k : drop (i + 1 + n) s ≡ q ∷ z = past s (i + 1) x (q ∷ z) (past s i (35 ∷ []) (x ++ (q ∷ z)) e) in
      let v : drop (i + 1 + n + 1) s ≡ z = past s (i + 1 + n) (q ∷ []) z k in
      quoted_is q sp other all e ∙ simp (
        t,
        take_all n x (omega arith),
        link,
        scanned_none s (i + 1 + n) q z k is_space sp,
        consumed s (i + 1 + n) q z k,
        close_read s (i + 1 + n + 1) (link_at (place (i + 1)) n) m rest v,
      )

-- what ends a link is no part of it
pub link_ends : (l : List Blank) (rest : List ℕ) → ends_link l ≡ true → is_url_byte (get_or (blanks l ++ (41 ∷ rest)) 0 0) ≡ false
unfolding ends_link blank
link_ends [] rest e = refl
link_ends (space ∷ l) rest e = refl
link_ends (tab ∷ l) rest e = sym e
link_ends (line_feed ∷ l) rest e = sym e
link_ends (return ∷ l) rest e = sym e

module _ (l : List Blank) (x : List ℕ) (m : List Blank) (rest : List ℕ) where
  -- after `url(`, white space and what is quoted or not
  unfoldable pub begun : Quotes → List ℕ
  begun q = quote q ++ (35 ∷ (x ++ (quote q ++ (blanks m ++ (41 ∷ rest)))))

  unfoldable pub spelt_out : Quotes → List ℕ
  spelt_out q = ascii "url(" ++ (blanks l ++ begun q)

  pub inner : (q : Quotes) → drop (4 + length l) (spelt_out q) ≡ begun q
  unfolding spelt_out
  inner q = blanks_past (spelt_out q) 4 l (begun q) refl

  pub opened : (q : Quotes) → is_space (get_or (begun q) 0 0) ≡ false → parse_func_iri (spelt_out q) 0
      ≡ (let c = get_or (begun q) 0 0 in cond (is_quote c) (quoted_link (spelt_out q) (4 + length l + 1) c) (plain_link (spelt_out q) (4 + length l)))
  unfolding parse_func_iri spelt_out
  opened q e =
      let s = spelt_out q in
      let a : scan is_space s 0 ≡ 0 = scanned_none s 0 117 (drop 1 s) refl is_space refl in
      let d : scan is_space s 4 ≡ 4 + length l = blanks_scan s 4 l (begun q) refl e in
      let f : drop (4 + length l) s ≡ begun q = inner q in
      let g : get_or s (4 + length l) 0 ≡ get_or (begun q) 0 0 = byte_here s (4 + length l) (begun q) f in
      let h : consume_string s 0 (ascii "url(") ≡ Ok (place 4) = consumed_word s 0 117 (114 ∷ 108 ∷ 40 ∷ []) (blanks l ++ begun q) refl in
      simp (a, h, d, g)

  -- with a quote k
  module _ (q : Quotes) (k : ℕ) (w : quote q ≡ k ∷ []) where
    begun_is : begun q ≡ k ∷ (35 ∷ (x ++ (k ∷ (blanks m ++ (41 ∷ rest)))))
    unfolding begun
    begun_is = rw w

    pub after_quote : drop (4 + length l + 1) (spelt_out q) ≡ 35 ∷ (x ++ (k ∷ (blanks m ++ (41 ∷ rest))))
    after_quote = past (spelt_out q) (4 + length l) (k ∷ []) (35 ∷ (x ++ (k ∷ (blanks m ++ (41 ∷ rest))))) (inner q ∙ begun_is)

    pub quote_opened : is_quote k ≡ true → is_space k ≡ false → parse_func_iri (spelt_out q) 0 ≡ quoted_link (spelt_out q) (4 + length l + 1) k
    quote_opened t sp = opened q (rw begun_is sp) ∙ simp (begun_is, t)

  -- the name's place, and the place after the closing bracket
  unfoldable pub name_start : Quotes → ℕ
  name_start q = 4 + length l + length (quote q) + 1

  unfoldable pub link_end : Quotes → ℕ
  link_end q = name_start q + length x + length (quote q) + length m + 1

-- a link with no quotes
bare_read : (l : List Blank) (b : UrlCharacter) (bs : List UrlCharacter) (m : List Blank) (rest : List ℕ) → ends_link m ≡ true
    → (let x = written (b ∷ bs) in
    parse_func_iri (spelt_out l x m rest bare) 0 ≡ read_on (link_at (place (name_start l x m rest bare)) (length x)) (place (link_end l x m rest bare)))
unfolding quote begun name_start link_end characters
bare_read l b bs m rest h =
    let x = written (b ∷ bs) in
    let k : is_link x ≡ true = name_link b.is (characters bs) (url_unquoted (b ∷ bs)) in
    simp (opened l x m rest bare refl, plain_read x (spelt_out l x m rest bare) (4 + length l) m rest k (names_url (b ∷ bs)) (link_ends m rest h) (inner l x m rest bare), add-zero)

-- a link in quotes, of either kind
module _ (l : List Blank) (c : Char) (cs : List Char) (m : List Blank) (rest : List ℕ) (h : (unquoted (c ∷ cs) && not (ends_white (c ∷ cs))) ≡ true) where
  in_quotes : (q : Quotes) (k : ℕ) → quote q ≡ k ∷ [] → is_quote k ≡ true → is_space k ≡ false → is_other k k ≡ false → every (is_other k) (text (c ∷ cs)) ≡ true
      → parse_func_iri (spelt_out l (text (c ∷ cs)) m rest q) 0
      ≡ read_on (link_at (place (name_start l (text (c ∷ cs)) m rest q)) (length (text (c ∷ cs)))) (place (link_end l (text (c ∷ cs)) m rest q))
  unfolding name_start link_end
  in_quotes q k w iq sp other all =
      let x = text (c ∷ cs) in
      let i = 4 + length l in
      let s = spelt_out l x m rest q in
      let u : unquoted (c ∷ cs) ≡ true = and_first (unquoted (c ∷ cs)) (not (ends_white (c ∷ cs))) h in
      let t : ends_white (c ∷ cs) ≡ false = negated (ends_white (c ∷ cs)) (and_second (unquoted (c ∷ cs)) (not (ends_white (c ∷ cs))) h) in
      quote_opened l x m rest q k w iq sp
      ∙ simp (w, quoted_read x s (i + 1) m rest k sp other all (name_link c cs u) (clean_end (c ∷ cs) t) (after_quote l x m rest q k w))
    where
      negated : (t : Bool) → not t ≡ true → t ≡ false
      negated true e = sym e
      negated false e = refl

named_read_is : (q : Quotes) (l : List Blank) (b : Of (between q)) (bs : List (Of (between q))) (m : List Blank) (rest : List ℕ) → closed q (characters (b ∷ bs)) m ≡ true
    → (let x = written (b ∷ bs) in
    parse_func_iri (spelt_out l x m rest q) 0 ≡ read_on (link_at (place (name_start l x m rest q)) (length x)) (place (link_end l x m rest q)))
unfolding between closed characters
named_read_is bare l b bs m rest h = bare_read l b bs m rest h
named_read_is single l b bs m rest h = in_quotes l b.is (characters bs) m rest h single 39 (unfold quote in refl) refl refl refl (names_string 39 (omega arith) (b ∷ bs))
named_read_is twofold l b bs m rest h = in_quotes l b.is (characters bs) m rest h twofold 34 (unfold quote in refl) refl refl refl (names_string 34 (omega arith) (b ∷ bs))

-- a link: the name's place and length, and the place after the closing bracket
pub link_read : (u : Url) → Closes u → (rest : List ℕ)
    → parse_func_iri (url_text u ++ rest) 0 ≡ read_on (link_at (place (length (opening u))) (length (name u))) (place (length (url_text u)))
unfolding url_text opening closing spelt_out begun name_start link_end
link_read u c rest =
    let l = u.before in
    let m = u.after in
    let q = u.quotes in
    let x = name u in
    let e : url_text u ++ rest ≡ spelt_out l x m rest q = simp append_assoc in
    let f : length (opening u) ≡ name_start l x m rest q = simp (length-append, length-map) (omega arith) in
    let g : length (url_text u) ≡ link_end l x m rest q = simp (length-append, length-map) (omega arith) in
    rw (e, f, g) (named_read_is q l u.first u.others m rest c)

-- The smallest links that are none of these: a tab before the bracket, the other quote, and a space before the quote
pub tab_kept : parse_func_iri (ascii "url(#a" ++ (9 ∷ 41 ∷ [])) 0 ≡ read_on (link_at (place 5) 2) (place 8)
unfolding parse_func_iri plain_link close_link is_link has_quote consume_byte consume_string starts_with scan run part
tab_kept = refl

pub quote_refused : parse_func_iri (ascii "url(\"#'\")") 0 ≡ Err (invalid_value 7)
unfolding parse_func_iri quoted_link close_link close_quote is_link has_quote consume_byte consume_string starts_with scan run part trim_end back blank_before blank_end byte_before blank1 blank2 blank3
quote_refused = refl

pub space_trimmed : parse_func_iri (ascii "url('#a ')") 0 ≡ read_on (link_at (place 6) 1) (place 10)
unfolding parse_func_iri quoted_link close_link close_quote is_link has_quote consume_byte consume_string starts_with scan run part trim_end back blank_before blank_end byte_before blank1 blank2 blank3
space_trimmed = refl

-- and beyond ASCII, U+00A0 there
pub no_break_trimmed : parse_func_iri (ascii "url('#a" ++ (0xc2 ∷ 0xa0 ∷ ascii "')")) 0 ≡ read_on (link_at (place 6) 1) (place 11)
unfolding parse_func_iri quoted_link close_link close_quote is_link has_quote consume_byte consume_string starts_with scan run part trim_end back blank_before blank_end byte_before blank1 blank2 blank3
no_break_trimmed = refl

quote_ascii : (q : Quotes) → Ascii (quote q)
unfolding quote
quote_ascii bare = refl
quote_ascii single = refl
quote_ascii twofold = refl

-- a link begins with `url(` and ends with `)`
pub url_clean : (u : Url) → Clean (url_text u)
unfolding url_text opening closing blank1
url_clean u =
    let q = quote u.quotes in
    let l = blanks u.before in
    let m = blanks u.after in
    let d : Ascii q = quote_ascii u.quotes in
    let before : Written (l ++ (q ++ ascii "#")) = ascii_written _ (ascii_append l (q ++ ascii "#") (blanks_ascii u.before) (ascii_append q (ascii "#") d refl)) in
    let after : Written (q ++ m) = ascii_written _ (ascii_append q m d (blanks_ascii u.after)) in
    let named : Written (name u) = record { chars = name_characters u; same = refl } in
    let f : Tight (ascii "url(") = record { some = omega arith; in_ascii = refl; first = refl; last = refl } in
    let g : Tight (ascii ")") = record { some = omega arith; in_ascii = refl; first = refl; last = refl } in
    let e : url_text u ≡ ascii "url(" ++ ((l ++ (q ++ ascii "#")) ++ (name u ++ (q ++ m)) ++ ascii ")") = simp append_assoc in
    rw e (clean_around (tight_clean _ f) (written_append before (written_append named after)) (tight_clean _ g))
