-- What `Closes` leaves out is what is read otherwise: a link that is answered as the document has it is one that it takes.
use Prim.Native.Nat.{ℕ, zero, suc, ◌+◌, ◌-◌, ◌≤◌, ◌<◌}
use mathlib.Core.Bool.{Bool, true, false, ◌&&◌, ◌||◌, not, cond}
use mathlib.Core.List.{List, [], ◌∷◌, ◌++◌, append_assoc}
use mathlib.Core.Path.{◌≡◌, refl, sym, ap, ◌∙◌}
use native.Mathlib.Omega.{arith}
use borrow.Author.Tests.{ne_eqb}
use lib.Dec.{eqb}
use lib.ListN.{length, take, drop, length-append, length-map}
use lib.Seq.{take_all}
use Rattle.utf8.specs.Blanks.{blank_before, back, trim_end}
use Rattle.text_bytes.specs.Bytes.{is_space, is_url_byte, is_other}
use Rattle.text_bytes.specs.Moves.{place}
use Rattle.text_bytes.specs.Scan.{scan, run}
use Rattle.text_bytes.specs.Words.{part}
use Rattle.text_bytes.specs.declared.Part.{Part}
use Rattle.text_bytes.specs.declared.Place.{Place}
use Rattle.text_bytes.proofs.Ranges.{either, and_first, and_second}
use Rattle.stream.specs.Faults.{invalid_value, consume_byte}
use Rattle.stream.specs.declared.Fault.{Fault}
use Rattle.funciri.specs.Link.{is_quote, has_quote, is_link, link_at, close_link, close_quote, plain_link, parse_func_iri}
use Rattle.stream.proofs.Binds.{bind_ok}
use Rattle.standards.specs.Answers.{read_on}
use Rattle.std.specs.Prelude.{Err, Result}
use Rattle.stream.specs.declared.Read.{Read}
use Rattle.standards.specs.Rfc3629.{Char, utf8_1, utf8_2, utf8_3_e0, utf8_3_e1, utf8_3_ed, utf8_3_ee, utf8_4_f0, utf8_4_f1, utf8_4_f4, octets, text, two, three, four, scalar}
use Rattle.standards.specs.Unicode.{white, ends_white, all_white}
use Rattle.standards.specs.CssValues3.{Blank, space, tab, line_feed, return, blank, blanks}
use Rattle.standards.specs.CssSyntax3.{Of, characters, written, UrlCharacter}
use Rattle.standards.specs.Svg2.{Quotes, bare, single, twofold, quote, between, Url, name, opening, closing, url_text}
use Rattle.standards.specs.Domain.{ends_link, unquoted, closed, Closes}
use Rattle.standards.proofs.Cursors.{one_value, past, consumed, scan_on}
use Rattle.standards.proofs.Links.{no_quote, names_url, names_string, quoted_is, begun, spelt_out, inner, opened, name_start, after_quote, quote_opened}
use Rattle.standards.proofs.Runs.{every}
use Rattle.standards.proofs.Trim.{text_append, ended}
use Rattle.standards.proofs.Utf8.{octets_some}

-- what closes a link leaves it as it is
close_keeps : (s : List ℕ) (i : ℕ) {l k : Part} {q : Place} → close_link s i l ≡ read_on k q → l ≡ k
unfolding close_link
close_keeps s i e = one_value (bind_ok (consume_byte s (scan is_space s i) 41) _ e).1.1

quote_keeps : (s : List ℕ) (i c : ℕ) {l k : Part} {q : Place} → close_quote s i c l ≡ read_on k q → l ≡ k
unfolding close_quote
quote_keeps s i c e = let v = bind_ok (consume_byte s (scan is_space s i) c) _ e in close_keeps s v.0.0 v.1.1

-- a link that is judged by a test, and closed, was not refused
judged : (t : Bool) (x : Result (Read Part) Fault) (f : Fault) {k : Part} {q : Place} → cond t x (Err f) ≡ read_on k q → (t ≡ true) × (x ≡ read_on k q)
judged true x f e = (refl, e)
judged false x f e = let z : ◌≡◌ {A = ℕ} 0 1 = cc in absurd (omega arith)

-- a byte more of the class makes the run longer
pub run_more : (p : ℕ → Bool) (x : List ℕ) (b : ℕ) (z : List ℕ) → every p x ≡ true → p b ≡ true → length x < run p (x ++ (b ∷ z))
unfolding run
run_more p [] b z e h = simp h (omega arith)
run_more p (y ∷ ys) b z e h = simp (and_first (p y) (every p ys) e) (omega (arith, run_more p ys b z (and_second (p y) (every p ys) e) h))

plain_more : (x : List ℕ) (s : List ℕ) (i b : ℕ) (z : List ℕ) → every is_url_byte x ≡ true → is_url_byte b ≡ true → drop i s ≡ 35 ∷ (x ++ (b ∷ z))
    → {q : Place} → plain_link s i ≡ read_on (link_at (place (i + 1)) (length x)) q → ⊥
unfolding plain_link
plain_more x s i b z all h e {q} r =
    let y = x ++ (b ∷ z) in
    let n = run is_url_byte y in
    let f : drop (i + 1) s ≡ y = past s i (35 ∷ []) y e in
    let g : scan is_url_byte s (i + 1) ≡ i + 1 + n = scan_on s (i + 1) y f is_url_byte n refl in
    let d : i + 1 + n - (i + 1) ≡ n = omega arith in
    let v = judged (is_link (part s (i + 1) (i + 1 + n))) (close_link s (i + 1 + n) (link_at (place (i + 1)) n)) (invalid_value (i + 1 + n)) (simp (consumed s i 35 y e, g, d) at r) in
    let k : link_at (place (i + 1)) n ≡ link_at (place (i + 1)) (length x) = close_keeps s (i + 1 + n) v.1 in
    let m : n ≡ length x = ap (λ (p : Part). p.len) k in
    omega (arith, run_more is_url_byte x b z all h)

-- White_Space at the end goes
record Last (cs : List Char) : Type 0 where
  init : List Char
  end : Char
  same : cs ≡ init ++ (end ∷ [])
  white_end : white end ≡ true

last : (cs : List Char) → ends_white cs ≡ true → Last cs
unfolding ends_white
last [] e = let z : ◌≡◌ {A = ℕ} 0 1 = cc in absurd (omega arith)
last (c ∷ []) e = record { init = []; end = c; same = refl; white_end = e }
last (c ∷ d ∷ cs) e = let l = last (d ∷ cs) e in record { init = c ∷ l.init; end = l.end; same = ap (λ (x : List Char). c ∷ x) l.same; white_end = l.white_end }

back_le : (s : List ℕ) (e k : ℕ) → back s e k ≤ e
unfolding back
back_le s zero k = omega arith
back_le s (suc e) (suc k) = omega (arith, back_le s e k)
back_le s (suc e) zero = go (eqb (blank_before s (suc e)) 0) (back_le s e (blank_before s (suc e) - 1))
  where
    go : (t : Bool) → back s e (blank_before s (suc e) - 1) ≤ e → cond t (suc e) (back s e (blank_before s (suc e) - 1)) ≤ suc e
    go true h = omega arith
    go false h = omega arith

trimmed : (cs : List Char) → ends_white cs ≡ true → trim_end (text cs) < length (text cs)
unfolding text all_white
trimmed cs e =
    let l = last cs e in
    let b = ended (text l.init) (l.end ∷ []) (rw l.white_end refl) in
    rw (l.same, text_append l.init (l.end ∷ []))
    (simp length-append (omega (arith, b.same, back_le (text l.init ++ text (l.end ∷ [])) (length (text l.init)) 0, octets_some l.end)))

-- a quote of the name is one of its bytes
or_first : (t u : Bool) → (t || u) ≡ false → t ≡ false
or_first true u e = e
or_first false u e = refl

or_second : (t u : Bool) → (t || u) ≡ false → u ≡ false
or_second true u e = let z : ◌≡◌ {A = ℕ} 0 1 = cc in absurd (omega arith)
or_second false u e = e

quoteless : (a b : List ℕ) → has_quote (a ++ b) ≡ false → has_quote b ≡ false
unfolding has_quote
quoteless [] b e = e
quoteless (x ∷ xs) b e = quoteless xs b (or_second (is_quote x) (has_quote (xs ++ b)) e)

far : (n : ℕ) → 128 ≤ n → no_quote n ≡ true
far n h = simp (ne_eqb n 39 (λ e. omega arith), ne_eqb n 34 (λ e. omega arith))

char_quote : (c : Char) (x : List ℕ) → has_quote (octets c ++ x) ≡ false → no_quote (scalar c) ≡ true
unfolding octets scalar has_quote
char_quote (utf8_1 a) x e = ap not (or_first (is_quote a.is) (has_quote x) e)
char_quote (utf8_2 a b) x e = far (two a.is b.is) (omega arith)
char_quote (utf8_3_e0 b c) x e = far (three 0xe0 b.is c.is) (omega arith)
char_quote (utf8_3_e1 a b c) x e = far (three a.is b.is c.is) (omega arith)
char_quote (utf8_3_ed b c) x e = far (three 0xed b.is c.is) (omega arith)
char_quote (utf8_3_ee a b c) x e = far (three a.is b.is c.is) (omega arith)
char_quote (utf8_4_f0 b c d) x e = far (four 0xf0 b.is c.is d.is) (omega arith)
char_quote (utf8_4_f1 a b c d) x e = far (four a.is b.is c.is d.is) (omega arith)
char_quote (utf8_4_f4 b c d) x e = far (four 0xf4 b.is c.is d.is) (omega arith)

unquoted_text : (cs : List Char) → has_quote (text cs) ≡ false → unquoted cs ≡ true
unfolding unquoted text
unquoted_text [] e = refl
unquoted_text (c ∷ cs) e = rw (char_quote c (text cs) e) (unquoted_text cs (quoteless (octets c) (text cs) e))

is_link_of : (x : List ℕ) → is_link x ≡ true → has_quote x ≡ false
unfolding is_link
is_link_of [] e = let z : ◌≡◌ {A = ℕ} 0 1 = cc in absurd (omega arith)
is_link_of (b ∷ bs) e = go (has_quote (b ∷ bs)) e
  where
    go : (t : Bool) → not t ≡ true → t ≡ false
    go true e = sym e
    go false e = refl

-- a link in quotes
module _ (l : List Blank) (c : Char) (cs : List Char) (m : List Blank) (rest : List ℕ) where
  quotes_only : (q : Quotes) (k : ℕ) → quote q ≡ k ∷ [] → is_quote k ≡ true → is_space k ≡ false → is_other k k ≡ false → every (is_other k) (text (c ∷ cs)) ≡ true
      → {i : ℕ} {p : Place} → parse_func_iri (spelt_out l (text (c ∷ cs)) m rest q) 0 ≡ read_on (link_at (place i) (length (text (c ∷ cs)))) p
      → (unquoted (c ∷ cs) && not (ends_white (c ∷ cs))) ≡ true
  quotes_only q k w iq sp other all {i} {p} r =
      let x = text (c ∷ cs) in
      let j = 4 + length l + 1 in
      let s = spelt_out l x m rest q in
      let e = sym (quoted_is x s j m rest k sp other all (after_quote l x m rest q k w)) ∙ sym (quote_opened l x m rest q k w iq sp) ∙ r in
      let v = judged (is_link (take (trim_end x) x)) (close_quote s (j + 1 + length x) k (link_at (place (j + 1)) (trim_end x))) (invalid_value (j + 1 + length x)) e in
      let n : trim_end x ≡ length x = ap (λ (p : Part). p.len) (quote_keeps s (j + 1 + length x) k v.1) in
      let t : take (trim_end x) x ≡ x = rw n (take_all (length x) x (omega arith)) in
      let u : unquoted (c ∷ cs) ≡ true = unquoted_text (c ∷ cs) (is_link_of x (rw t at v.0)) in
      let d : ends_white (c ∷ cs) ≡ false = either (ends_white (c ∷ cs)) (λ h. absurd (omega (arith, trimmed (c ∷ cs) h))) (λ h. h) in
      rw (u, d)

-- one with none
passes : (l : List Blank) (b : UrlCharacter) (bs : List UrlCharacter) (c : Blank) (m : List Blank) (rest : List ℕ) → is_url_byte (blank c) ≡ true → {p : Place}
    → (let x = written (b ∷ bs) in parse_func_iri (spelt_out l x (c ∷ m) rest bare) 0 ≡ read_on (link_at (place (name_start l x (c ∷ m) rest bare)) (length x)) p) → ⊥
unfolding begun quote name_start
passes l b bs c m rest h {p} r =
    let x = written (b ∷ bs) in
    let i = 4 + length l in
    let s = spelt_out l x (c ∷ m) rest bare in
    let z : i + 0 + 1 ≡ i + 1 = omega arith in
    let e : plain_link s i ≡ read_on (link_at (place (i + 1)) (length x)) p = rw z at (sym (opened l x (c ∷ m) rest bare refl) ∙ r) in
    plain_more x s i (blank c) (blanks m ++ (41 ∷ rest)) (names_url (b ∷ bs)) h (inner l x (c ∷ m) rest bare) e

bare_only : (l : List Blank) (b : UrlCharacter) (bs : List UrlCharacter) (m : List Blank) (rest : List ℕ) {p : Place}
    → (let x = written (b ∷ bs) in parse_func_iri (spelt_out l x m rest bare) 0 ≡ read_on (link_at (place (name_start l x m rest bare)) (length x)) p) → ends_link m ≡ true
unfolding ends_link blank
bare_only l b bs [] rest r = refl
bare_only l b bs (space ∷ m) rest r = refl
bare_only l b bs (tab ∷ m) rest r = absurd (passes l b bs tab m rest refl r)
bare_only l b bs (line_feed ∷ m) rest r = absurd (passes l b bs line_feed m rest refl r)
bare_only l b bs (return ∷ m) rest r = absurd (passes l b bs return m rest refl r)

named_only : (q : Quotes) (l : List Blank) (b : Of (between q)) (bs : List (Of (between q))) (m : List Blank) (rest : List ℕ) {p : Place}
    → (let x = written (b ∷ bs) in parse_func_iri (spelt_out l x m rest q) 0 ≡ read_on (link_at (place (name_start l x m rest q)) (length x)) p) → closed q (characters (b ∷ bs)) m ≡ true
unfolding between closed characters
named_only bare l b bs m rest r = bare_only l b bs m rest r
named_only single l b bs m rest r = quotes_only l b.is (characters bs) m rest single 39 (unfold quote in refl) refl refl refl (names_string 39 (omega arith) (b ∷ bs)) r
named_only twofold l b bs m rest r = quotes_only l b.is (characters bs) m rest twofold 34 (unfold quote in refl) refl refl refl (names_string 34 (omega arith) (b ∷ bs)) r

-- THEOREM: a link whose name is answered is closed as specs/Domain has it
pub link_only : (u : Url) (rest : List ℕ) {p : Place} → parse_func_iri (url_text u ++ rest) 0 ≡ read_on (link_at (place (length (opening u))) (length (name u))) p → Closes u
unfolding url_text opening closing spelt_out begun name_start
link_only u rest {p} r =
    let l = u.before in
    let m = u.after in
    let q = u.quotes in
    let x = name u in
    let e : url_text u ++ rest ≡ spelt_out l x m rest q = simp append_assoc in
    let f : length (opening u) ≡ name_start l x m rest q = simp (length-append, length-map) (omega arith) in
    named_only q l u.first u.others m rest (rw (e, f) at r)
