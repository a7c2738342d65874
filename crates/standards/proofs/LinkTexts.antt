-- References of RFC 3987 and links of SVG 2 are what the two link readers answer for a whole text.
use Prim.Native.Nat.{ℕ, suc, ◌+◌, ◌-◌, ◌≤◌, ◌<◌}
use mathlib.Core.Bool.{Bool, true, false, cond}
use mathlib.Core.List.{List, [], ◌∷◌, ◌++◌, append_assoc, append-nil}
use mathlib.Core.Path.{◌≡◌, refl, sym, ap, ◌∙◌}
use native.Mathlib.Nat.{zero-add}
use native.Mathlib.Omega.{arith}
use borrow.Author.Tests.{ne_eqb, le-leb, lt-leb, lt-ltb, le-ltb}
use lib.Dec.{leb, ltb}
use lib.ListN.{length, length-append, length-map}
use lib.Seq.{take_at}
use Rattle.text_bytes.specs.Bytes.{is_space, is_link_byte}
use Rattle.text_bytes.specs.Moves.{place, move_part}
use Rattle.text_bytes.specs.Scan.{scan, run}
use Rattle.text_bytes.proofs.Ahead.{scan_again}
use Rattle.text_bytes.proofs.Ranges.{and_first, and_second}
use Rattle.funciri.specs.Link.{link_at, link_bytes, parse_iri, parse_func_iri}
use Rattle.funciri.specs.Answers.{whole_link, iri_from_str, func_iri_from_str}
use Rattle.text_bytes.specs.declared.Part.{Part}
use Rattle.text_bytes.specs.declared.Place.{Place}
use Rattle.stream.specs.Faults.{unexpected_data}
use Rattle.stream.specs.Refusals.{at_edge}
use Rattle.funciri.proofs.Shifts.{func_iri_shift}
use Rattle.standards.specs.Answers.{read_on}
use Rattle.std.specs.Prelude.{Err, Ok, Result}
use Rattle.stream.specs.Moves.{move_read, moved}
use Rattle.stream.specs.declared.Fault.{Fault}
use Rattle.stream.specs.declared.Read.{Read}
use Rattle.standards.specs.Rfc3629.{octets, text}
use Rattle.standards.specs.Rfc3987.{is_ucschar, is_fragment, Piece, plain, pct_encoded, piece, fragment, Reference, target, reference_text}
use Rattle.standards.specs.CssValues3.{Blank, space, tab, line_feed, return, blank, blanks}
use Rattle.standards.specs.CssColor4.{Digit, numeral, small, capital, character}
use Rattle.standards.specs.Svg2.{Url, name, opening, closing, url_text}
use Rattle.standards.specs.Domain.{ends_link, Closes}
use Rattle.standards.proofs.Characters.{octets_every}
use Rattle.standards.proofs.Cursors.{one_value, At, at_start, at_step, at_blanks, at_read, at_spaces, at_scan, at_byte, at_drop, at_inside}
use Rattle.standards.proofs.Links.{apart, link_read, url_clean}
use Rattle.standards.proofs.LinksOnly.{run_more, link_only}
use Rattle.standards.proofs.Runs.{every, every_append, run_every, is_ascii}
use Rattle.standards.proofs.Tight.{ascii_written, blanks_written, written_append, clean_written, written_admitted}
use Rattle.standards.proofs.Utf8.{Written, octets_some}

-- what stands at a place is the link that is told by it
pub link_there : {s : List ℕ} {n : ℕ} (x b : List ℕ) → At s n (x ++ b) → link_bytes s (link_at (place n) (length x)) ≡ x
unfolding link_bytes
link_there {s} {n} x b h =
    let g : leb (n + length x) (length s) ≡ true = le-leb (n + length x) (length s) (omega (arith, at_inside h, length-append x b)) in
    simp (g, at_drop h) (take_at x b (length x) refl)

-- a link, and white space to the end
whole_is : {s : List ℕ} {n : ℕ} (m : List Blank) {i k : ℕ} → At s n (blanks m) → at_edge s (whole_link s (read_on (link_at (place i) k) (place n))) ≡ Ok (link_at (place i) k)
unfolding whole_link
whole_is {s} {n} m h =
    let e : scan is_space s n ≡ n + length m = at_spaces m [] refl (rw append-nil h) in
    let f : ltb (n + length m) (length s) ≡ false = le-ltb (n + length m) (length s) (omega (arith, at_inside h, length-map m blank)) in
    simp (e, f)

-- the bytes of a fragment: none of them is a space
digit_byte : (d : Digit) → is_link_byte (character d) ≡ true
unfolding character
digit_byte (numeral n h) = simp (ne_eqb (48 + n) 32 (λ e. omega arith))
digit_byte (small n h) = simp (ne_eqb (97 + n) 32 (λ e. omega arith))
digit_byte (capital n h) = simp (ne_eqb (65 + n) 32 (λ e. omega arith))

piece_bytes : (p : Piece) → every is_link_byte (piece p) ≡ true
unfolding piece is_fragment is_ucschar
piece_bytes (plain c) = octets_every is_link_byte (λ n h. simp (ne_eqb n 32 (λ e. omega arith))) c.is (rw (apart is_fragment 32 refl _ c.belongs))
piece_bytes (pct_encoded h l) = simp (digit_byte h, digit_byte l)

fragment_bytes : (ps : List Piece) → every is_link_byte (fragment ps) ≡ true
unfolding fragment
fragment_bytes [] = refl
fragment_bytes (p ∷ ps) = every_append is_link_byte (piece p) (fragment ps) (piece_bytes p) (fragment_bytes ps)

-- and it is of characters, one or more
piece_written : (p : Piece) → Written (piece p)
unfolding piece character
piece_written (plain c) = record { chars = c.is ∷ []; same = unfold text in append-nil (octets c.is) }
piece_written (pct_encoded h l) = ascii_written _ (simp (digit_ascii h, digit_ascii l))
  where
    digit_ascii : (d : Digit) → is_ascii (character d) ≡ true
    digit_ascii (numeral n h) = lt-ltb (48 + n) 128 (omega arith)
    digit_ascii (small n h) = lt-ltb (97 + n) 128 (omega arith)
    digit_ascii (capital n h) = lt-ltb (65 + n) 128 (omega arith)

fragment_written : (ps : List Piece) → Written (fragment ps)
unfolding fragment
fragment_written [] = ascii_written [] refl
fragment_written (p ∷ ps) = written_append (piece_written p) (fragment_written ps)

fragment_some : (p : Piece) (ps : List Piece) → 0 < length (fragment (p ∷ ps))
unfolding fragment piece
fragment_some (plain c) ps = simp length-append (omega (arith, octets_some c.is))
fragment_some (pct_encoded h l) ps = omega arith

-- a reference ends at a space, or with the text
reference_run : (x : List ℕ) (m : List Blank) → every is_link_byte x ≡ true → ends_link m ≡ true → run is_link_byte (x ++ blanks m) ≡ length x
unfolding ends_link blank run
reference_run [] [] e h = refl
reference_run (b ∷ bs) [] e h = simp (and_first (is_link_byte b) (every is_link_byte bs) e) (ap suc (reference_run bs [] (and_second (is_link_byte b) (every is_link_byte bs) e) h))
reference_run x (space ∷ m) e h = run_every is_link_byte x (blanks (space ∷ m)) e refl
reference_run x (tab ∷ m) e h = let z : ◌≡◌ {A = ℕ} 0 1 = cc in absurd (omega arith)
reference_run x (line_feed ∷ m) e h = let z : ◌≡◌ {A = ℕ} 0 1 = cc in absurd (omega arith)
reference_run x (return ∷ m) e h = let z : ◌≡◌ {A = ℕ} 0 1 = cc in absurd (omega arith)

module _ (t : Reference) where
  -- where the reference's name stands
  reference_at : At (reference_text t) (length t.before + 1) (target t ++ blanks t.after)
  unfolding reference_text
  reference_at =
      let x = target t ++ blanks t.after in
      let s = blanks t.before ++ (35 ∷ x) in
      rw zero-add at (at_step (35 ∷ []) x (at_blanks t.before (35 ∷ x) (at_start s)))

  reference_written : Written (reference_text t)
  unfolding reference_text
  reference_written =
      written_append (blanks_written t.before)
      (written_append (ascii_written (35 ∷ []) refl) (written_append (fragment_written (t.first ∷ t.others)) (blanks_written t.after)))

  -- THEOREM: a reference is answered as the place and the length of its name
  pub reference_read : ends_link t.after ≡ true → length (reference_text t) ≤ 4096 → iri_from_str (reference_text t) ≡ Ok (link_at (place (length t.before + 1)) (length (target t)))
  unfolding iri_from_str parse_iri
  reference_read w fits =
      let x = target t in
      let n = length t.before in
      let s = reference_text t in
      let y = x ++ blanks t.after in
      let h : At s 0 (blanks t.before ++ (35 ∷ y)) = unfold reference_text in at_start s in
      let a : scan is_space s 0 ≡ n = rw zero-add at (at_spaces t.before (35 ∷ y) refl h) in
      let b : At s n (35 ∷ y) = rw zero-add at (at_blanks t.before (35 ∷ y) h) in
      let e : scan is_link_byte s (n + 1) ≡ n + 1 + length x = at_scan is_link_byte reference_at ∙ rw (reference_run x t.after (fragment_bytes (t.first ∷ t.others)) w) in
      let f : leb (n + 1 + length x) (n + 1) ≡ false = lt-leb (n + 1 + length x) (n + 1) (omega (arith, fragment_some t.first t.others)) in
      let d : n + 1 + length x - (n + 1) ≡ length x = omega arith in
      let g = whole_is t.after {i = n + 1} {k = length x} (at_step x (blanks t.after) reference_at) in
      simp (written_admitted s reference_written fits, a, at_byte 35 y b, e, f, d, g)

  -- THEOREM: and these are its bytes
  pub reference_bytes : link_bytes (reference_text t) (link_at (place (length t.before + 1)) (length (target t))) ≡ target t
  reference_bytes = link_there (target t) (blanks t.after) reference_at

-- a <url>, with white space about it
module _ (before : List Blank) (u : Url) (after : List Blank) where
  abbrev pub url_whole : List ℕ
  url_whole = blanks before ++ (url_text u ++ blanks after)

  url_whole_at : At url_whole (length before) (url_text u ++ blanks after)
  url_whole_at = rw zero-add at (at_blanks before (url_text u ++ blanks after) (at_start url_whole))

  url_whole_written : Written url_whole
  url_whole_written = written_append (blanks_written before) (written_append (clean_written (url_clean u)) (blanks_written after))

  -- the white space before it is passed
  url_moved : parse_func_iri url_whole 0 ≡ moved (move_read move_part) (length before) (parse_func_iri (url_text u ++ blanks after) 0)
  unfolding parse_func_iri url_text opening
  url_moved =
      let y = url_text u ++ blanks after in
      let sp : scan is_space url_whole 0 ≡ length before = rw zero-add at (at_spaces before y refl (at_start url_whole)) in
      let p : parse_func_iri url_whole (length before) ≡ parse_func_iri url_whole 0 = rw (← sp) (rw (scan_again is_space url_whole 0)) in
      sym p ∙ at_read parse_func_iri (moved (move_read move_part)) (λ a b i. func_iri_shift a b i) url_whole_at

  -- THEOREM: it is answered as the place and the length of its name
  pub url_read : Closes u → length url_whole ≤ 4096 → func_iri_from_str url_whole ≡ Ok (link_at (place (length before + length (opening u))) (length (name u)))
  unfolding func_iri_from_str
  url_read c fits =
      simp (written_admitted url_whole url_whole_written fits, url_moved, link_read u c (blanks after))
      (whole_is after (at_step (url_text u) (blanks after) url_whole_at))

  -- THEOREM: and these are its bytes
  pub url_bytes : link_bytes url_whole (link_at (place (length before + length (opening u))) (length (name u))) ≡ name u
  unfolding url_text
  url_bytes =
      let rest = closing u ++ blanks after in
      let e : url_whole ≡ blanks before ++ (opening u ++ (name u ++ rest)) = simp append_assoc in
      let h : At url_whole (length before) (opening u ++ (name u ++ rest)) = rw e (rw zero-add at (at_blanks before (opening u ++ (name u ++ rest)) (at_start _))) in
      link_there (name u) rest (at_step (opening u) (name u ++ rest) h)

-- and nothing else is answered so: a whole text's link was read,
whole_only : (s : List ℕ) (r : Result (Read Part) Fault) {k : Part} → at_edge s (whole_link s r) ≡ Ok k → (p : Place) × (r ≡ read_on k p)
unfolding whole_link
whole_only s (Err f) e = let z : ◌≡◌ {A = ℕ} 0 1 = cc in absurd (omega arith)
whole_only s (Ok l) {k} e = go (ltb (scan is_space s l.next.0) (length s)) e
  where
    go : (t : Bool) → at_edge s (cond t (Err (unexpected_data s (scan is_space s l.next.0))) (Ok l.value)) ≡ Ok k → (q : Place) × (Ok l ≡ read_on k q)
    go true e = let z : ◌≡◌ {A = ℕ} 0 1 = cc in absurd (omega arith)
    go false e = let z : l.value ≡ k = cc in (l.next, ap (λ (x : Part). read_on x l.next) z)

-- and before it was moved it was a link, too
pub part_back : (n : ℕ) (x : Part) {i k : ℕ} → move_part n x ≡ link_at (place (n + i)) k → x ≡ link_at (place i) k
part_back n x {i} {k} z =
    let a : n + x.start.0 ≡ n + i = ap (λ (y : Part). y.start.0) z in
    let b : x.len ≡ k = ap (λ (y : Part). y.len) z in
    let c : x.start.0 ≡ i = omega arith in
    rw (← c, ← b) refl

moved_back : (n : ℕ) (r : Result (Read Part) Fault) {i k : ℕ} {p : Place} → moved (move_read move_part) n r ≡ read_on (link_at (place (n + i)) k) p → (q : Place) × (r ≡ read_on (link_at (place i) k) q)
moved_back n (Err f) e = let z : ◌≡◌ {A = ℕ} 0 1 = cc in absurd (omega arith)
moved_back n (Ok x) e = (x.next, ap (λ (y : Part). read_on y x.next) (part_back n x.value (one_value e)))

-- THEOREM: a <url> whose name is answered is closed as specs/Domain has it
pub url_only : (before : List Blank) (u : Url) (after : List Blank) → length (url_whole before u after) ≤ 4096
    → func_iri_from_str (url_whole before u after) ≡ Ok (link_at (place (length before + length (opening u))) (length (name u))) → Closes u
unfolding func_iri_from_str
url_only before u after fits e =
    let s = url_whole before u after in
    let r = whole_only s (parse_func_iri s 0) (rw (written_admitted s (url_whole_written before u after) fits) at e) in
    link_only u (blanks after) (moved_back (length before) (parse_func_iri (url_text u ++ blanks after) 0) (sym (url_moved before u after) ∙ r.1)).1

-- and a reference is
reference_more : (l : List Blank) (x : List ℕ) (c : Blank) (m : List Blank) → every is_link_byte x ≡ true → is_link_byte (blank c) ≡ true → {p : Place}
    → parse_iri (blanks l ++ (35 ∷ (x ++ blanks (c ∷ m)))) 0 ≡ read_on (link_at (place (length l + 1)) (length x)) p → ⊥
unfolding parse_iri
reference_more l x c m all h {p} r =
    let n = length l in
    let y = x ++ blanks (c ∷ m) in
    let k = run is_link_byte y in
    let s = blanks l ++ (35 ∷ y) in
    let a : scan is_space s 0 ≡ n = rw zero-add at (at_spaces l (35 ∷ y) refl (at_start s)) in
    let b : At s n (35 ∷ y) = rw zero-add at (at_blanks l (35 ∷ y) (at_start s)) in
    let e : scan is_link_byte s (n + 1) ≡ n + 1 + k = at_scan is_link_byte (at_step (35 ∷ []) y b) in
    let g : length x < k = run_more is_link_byte x (blank c) (blanks m) all h in
    let f : leb (n + 1 + k) (n + 1) ≡ false = lt-leb (n + 1 + k) (n + 1) (omega arith) in
    let d : n + 1 + k - (n + 1) ≡ k = omega arith in
    let z = one_value (simp (a, at_byte 35 y b, e, f, d) at r) in
    let w : k ≡ length x = ap (λ (q : Part). q.len) z in
    omega arith

after_only : (l : List Blank) (x : List ℕ) (m : List Blank) → every is_link_byte x ≡ true → {p : Place}
    → parse_iri (blanks l ++ (35 ∷ (x ++ blanks m))) 0 ≡ read_on (link_at (place (length l + 1)) (length x)) p → ends_link m ≡ true
unfolding ends_link blank
after_only l x [] all r = refl
after_only l x (space ∷ m) all r = refl
after_only l x (tab ∷ m) all r = absurd (reference_more l x tab m all refl r)
after_only l x (line_feed ∷ m) all r = absurd (reference_more l x line_feed m all refl r)
after_only l x (return ∷ m) all r = absurd (reference_more l x return m all refl r)

pub reference_only : (t : Reference) → length (reference_text t) ≤ 4096 → iri_from_str (reference_text t) ≡ Ok (link_at (place (length t.before + 1)) (length (target t)))
    → ends_link t.after ≡ true
unfolding iri_from_str reference_text
reference_only t fits e =
    let s = reference_text t in
    let r = whole_only s (parse_iri s 0) (rw (written_admitted s (reference_written t) fits) at e) in
    after_only t.before (target t) t.after (fragment_bytes (t.first ∷ t.others)) r.1
