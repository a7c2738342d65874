-- Of every link: where it lies and where reading goes on, both inside the text, and in `url(` right after the closing bracket; and where the stretch of a fault lies.
use Prim.Native.Nat.{ℕ, ◌+◌, ◌-◌, ◌≤◌}
use mathlib.Core.List.{List}
use mathlib.Core.Path.{◌≡◌, refl}
use native.Mathlib.Omega.{arith}
use borrow.Author.Tests.{eqb-true}
use lib.Dec.{leb, ltb}
use lib.ListN.{length, get_or, take, drop, length-take, length-drop}
use Rattle.std.specs.Prelude.{Result, Ok, Err, MatchResult}
use Rattle.utf8.specs.Blanks.{trim_end}
use Rattle.utf8.proofs.Trimming.{trim_end_le}
use Rattle.text_bytes.specs.Bytes.{is_space, is_link_byte, is_url_byte, is_other}
use Rattle.text_bytes.specs.Scan.{scan}
use Rattle.text_bytes.specs.Words.{ascii, part}
use Rattle.text_bytes.specs.declared.Part.{Part}
use Rattle.text_bytes.proofs.Ranges.{either}
use Rattle.text_bytes.proofs.Scans.{scan_ge, scan_le}
use Rattle.stream.specs.Faults.{consume_byte, consume_string}
use Rattle.stream.specs.Refusals.{Inside, admit_text}
use Rattle.stream.specs.declared.Fault.{Fault}
use Rattle.stream.specs.declared.Read.{Read}
use Rattle.stream.specs.declared.Refusal.{Refusal}
use Rattle.stream.proofs.Binds.{bind_holds, at_ok, at_err, weaker}
use Rattle.stream.proofs.Edges.{Admitted, admit_holds, edge_holds}
use Rattle.stream.proofs.Stretches.{Lies, LiesAt, LiesFrom, Took, TookWord, byte_taken, word_taken, value_lies, data_lies}
use Rattle.funciri.specs.Answers.{whole_link, iri_from_str, func_iri_from_str}
use Rattle.funciri.specs.Link.{is_quote, is_link, link_at, close_link, close_quote, quoted_link, plain_link, parse_iri, parse_func_iri}
use Rattle.funciri.proofs.Quotes.{quote_inside}

pub record Closed (s : List ℕ) (p : ℕ) : Type 0 where
  pub place : ℕ
  pub next : p ≡ place + 1
  pub byte : get_or s place 0 ≡ 41

pub record Held (s : List ℕ) (l : Part) : Type 0 where
  pub inside : l.start.0 + l.len ≤ length s

-- the link's part, and the place after it
pub record LinkTaken (s : List ℕ) (r : Read Part) : Type 0 where
  pub part : Held s r.value
  pub place : r.next.0 ≤ length s

pub record UrlTaken (s : List ℕ) (r : Read Part) : Type 0 where
  pub link : LinkTaken s r
  pub closed : Closed s r.next.0

module _ (s : List ℕ) where
  -- what is read further on, from a place inside
  onward : (P : Read Part → Type 0) (i j : ℕ) (r : Result (Read Part) Fault) → j ≤ length s → MatchResult r P (LiesFrom s j) → MatchResult r P (LiesFrom s i)
  onward P i j r h v = weaker P P (LiesFrom s j) (LiesFrom s i) r v (λ a x. x) (λ e x l. x h)

  -- a byte wanted after spaces
  spaced_taken : (i c : ℕ) → MatchResult (consume_byte s (scan is_space s i) c) (Took s (scan is_space s i) c) (LiesFrom s i)
  spaced_taken i c =
      let j = scan is_space s i in
      weaker (Took s j c) (Took s j c) (LiesFrom s j) (LiesFrom s i) (consume_byte s j c) (byte_taken s j c) (λ p t. t) (λ e v h. v (scan_le is_space s i h))

  pub iri_taken : (i : ℕ) → MatchResult (parse_iri s i) (LinkTaken s) (LiesFrom s i)
  unfolding parse_iri
  iri_taken i =
      let j = scan is_space s i in
      bind_holds (Took s j 35) (LinkTaken s) (LiesFrom s i) (consume_byte s j 35) _ (spaced_taken i 35)
      (λ p t.
      let b : p.0 ≤ length s = omega (arith, t.next, t.inside) in
      let e = scan is_link_byte s p.0 in
      let g : p.0 ≤ e = scan_ge is_link_byte s p.0 in
      let k : e ≤ length s = scan_le is_link_byte s p.0 b in
      either (leb e p.0) (λ q. simp q (λ h. value_lies p.0 b)) (λ q. simp q (record { part = record { inside = omega arith }; place = k })))

  module _ (l : Part) (m : Held s l) where
    close_taken : (i : ℕ) → MatchResult (close_link s i l) (UrlTaken s) (LiesFrom s i)
    unfolding close_link
    close_taken i =
        let j = scan is_space s i in
        bind_holds (Took s j 41) (UrlTaken s) (LiesFrom s i) (consume_byte s j 41) _ (spaced_taken i 41)
        (λ p t.
        record {
          link = record { part = m; place = omega (arith, t.next, t.inside) };
          closed = record { place = j; next = t.next; byte = eqb-true (get_or s j 0) 41 t.byte };
        })

    quote_taken : (i quote : ℕ) → MatchResult (close_quote s i quote l) (UrlTaken s) (LiesFrom s i)
    unfolding close_quote
    quote_taken i quote =
        let j = scan is_space s i in
        bind_holds (Took s j quote) (UrlTaken s) (LiesFrom s i) (consume_byte s j quote) _ (spaced_taken i quote)
        (λ p t. onward (UrlTaken s) i p.0 (close_link s p.0 l) (omega (arith, t.next, t.inside)) (close_taken p.0))

  -- the white space at the end of a part taken away leaves it inside
  trimmed_le : (i e : ℕ) → i ≤ length s → i + trim_end (part s i e) ≤ length s
  unfolding part
  trimmed_le i e h = omega (arith, trim_end_le (part s i e) (trim_end (part s i e)) refl, length-take (e - i) (drop i s), length-drop i s)

  quoted_taken : (i quote : ℕ) → MatchResult (quoted_link s i quote) (UrlTaken s) (LiesFrom s i)
  unfolding quoted_link
  quoted_taken i quote =
      let j = scan is_space s i in
      bind_holds (Took s j 35) (UrlTaken s) (LiesFrom s i) (consume_byte s j 35) _ (spaced_taken i 35)
      (λ p t.
      let b : p.0 ≤ length s = omega (arith, t.next, t.inside) in
      let e = scan (is_other quote) s p.0 in
      let k : e ≤ length s = scan_le (is_other quote) s p.0 b in
      let n = trim_end (part s p.0 e) in
      let l = link_at p n in
      either (is_link (take n (part s p.0 e)))
      (λ q. simp q (onward (UrlTaken s) i e (close_quote s e quote l) k (quote_taken l (record { inside = trimmed_le p.0 e b }) e quote)))
      (λ q. simp q (λ h. value_lies e k)))

  plain_taken : (i : ℕ) → MatchResult (plain_link s i) (UrlTaken s) (LiesFrom s i)
  unfolding plain_link
  plain_taken i =
      bind_holds (Took s i 35) (UrlTaken s) (LiesFrom s i) (consume_byte s i 35) _ (byte_taken s i 35)
      (λ p t.
      let b : p.0 ≤ length s = omega (arith, t.next, t.inside) in
      let e = scan is_url_byte s p.0 in
      let g : p.0 ≤ e = scan_ge is_url_byte s p.0 in
      let k : e ≤ length s = scan_le is_url_byte s p.0 b in
      let l = link_at p (e - p.0) in
      either (is_link (part s p.0 e))
      (λ q. simp q (onward (UrlTaken s) i e (close_link s e l) k (close_taken l (record { inside = omega arith }) e)))
      (λ q. simp q (λ h. value_lies e k)))

  pub func_iri_taken : (i : ℕ) → MatchResult (parse_func_iri s i) (UrlTaken s) (LiesFrom s i)
  unfolding parse_func_iri
  func_iri_taken i =
      let j = scan is_space s i in
      let w = ascii "url(" in
      bind_holds (TookWord s j w) (UrlTaken s) (LiesFrom s i) (consume_string s j w) _
      (weaker (TookWord s j w) (TookWord s j w) (LiesFrom s j) (LiesFrom s i) (consume_string s j w) (word_taken s j w) (λ p t. t) (λ e v h. v (scan_le is_space s i h)))
      (λ p t.
      let first = scan is_space s p.0 in
      let b = get_or s first 0 in
      either (is_quote b)
      (λ q. simp q (onward (UrlTaken s) i (first + 1) (quoted_link s (first + 1) b) (omega (arith, quote_inside s first q)) (quoted_taken (first + 1) b)))
      (λ q. simp q (onward (UrlTaken s) i first (plain_link s first) (scan_le is_space s p.0 (omega (arith, t.next, t.short))) (plain_taken first))))

module _ (s : List ℕ) (i : ℕ) where
  pub iri_link_inside : (r : Read Part) → parse_iri s i ≡ Ok r → LinkTaken s r
  iri_link_inside r e = at_ok (LinkTaken s) (LiesFrom s i) (parse_iri s i) r (iri_taken s i) e

  pub func_iri_link_inside : (r : Read Part) → parse_func_iri s i ≡ Ok r → LinkTaken s r
  func_iri_link_inside r e = (at_ok (UrlTaken s) (LiesFrom s i) (parse_func_iri s i) r (func_iri_taken s i) e).link

  -- a link that was read ends right after its closing bracket
  pub func_iri_closed : (r : Read Part) → parse_func_iri s i ≡ Ok r → Closed s r.next.0
  func_iri_closed r e = (at_ok (UrlTaken s) (LiesFrom s i) (parse_func_iri s i) r (func_iri_taken s i) e).closed

  pub iri_lies : (f : Fault) → i ≤ length s → parse_iri s i ≡ Err f → LiesAt (length s) f
  iri_lies f h e = at_err (LinkTaken s) (LiesFrom s i) (parse_iri s i) f (iri_taken s i) e h

  pub func_iri_lies : (f : Fault) → i ≤ length s → parse_func_iri s i ≡ Err f → LiesAt (length s) f
  func_iri_lies f h e = at_err (UrlTaken s) (LiesFrom s i) (parse_func_iri s i) f (func_iri_taken s i) e h

-- The link that a whole text is lies inside it too, so `link` gives its bytes; and a fault's stretch does
module _ (s : List ℕ) where
  whole_holds : (r : Result (Read Part) Fault) → MatchResult r (LinkTaken s) (LiesFrom s 0) → MatchResult (whole_link s r) (Held s) (Lies (length s))
  unfolding whole_link
  whole_holds r v =
      bind_holds (LinkTaken s) (Held s) (Lies (length s)) r _
      (weaker (LinkTaken s) (LinkTaken s) (LiesFrom s 0) (Lies (length s)) r v (λ x t. t) (λ f h. (h (omega arith)).lies))
      (λ x t.
      let e = scan is_space s x.next.0 in
      either (ltb e (length s)) (λ q. simp q (data_lies s e (scan_le is_space s x.next.0 t.place)).lies) (λ q. simp q t.part))

  iri_holds : MatchResult (iri_from_str s) (Held s) (Inside (length s))
  unfolding iri_from_str
  iri_holds =
      bind_holds (λ _. Admitted s) (Held s) (Inside (length s)) (admit_text s) _ (admit_holds s)
      (λ _ _. edge_holds (Held s) s (whole_link s (parse_iri s 0)) (whole_holds (parse_iri s 0) (iri_taken s 0)))

  func_iri_holds : MatchResult (func_iri_from_str s) (Held s) (Inside (length s))
  unfolding func_iri_from_str
  func_iri_holds =
      bind_holds (λ _. Admitted s) (Held s) (Inside (length s)) (admit_text s) _ (admit_holds s)
      (λ _ _. edge_holds (Held s) s (whole_link s (parse_func_iri s 0))
      (whole_holds (parse_func_iri s 0) (weaker (UrlTaken s) (LinkTaken s) (LiesFrom s 0) (LiesFrom s 0) (parse_func_iri s 0) (func_iri_taken s 0) (λ x t. t.link) (λ f h. h))))

  pub iri_inside : (l : Part) → iri_from_str s ≡ Ok l → l.start.0 + l.len ≤ length s
  iri_inside l e = (at_ok (Held s) (Inside (length s)) (iri_from_str s) l iri_holds e).inside

  pub func_iri_inside : (l : Part) → func_iri_from_str s ≡ Ok l → l.start.0 + l.len ≤ length s
  func_iri_inside l e = (at_ok (Held s) (Inside (length s)) (func_iri_from_str s) l func_iri_holds e).inside

  -- THEOREM. A refusal's stretch starts and ends in the lent text, and not before it starts
  pub iri_stretch_inside : (e : Refusal) → iri_from_str s ≡ Err e → Inside (length s) e
  iri_stretch_inside e q = at_err (Held s) (Inside (length s)) (iri_from_str s) e iri_holds q

  pub func_iri_stretch_inside : (e : Refusal) → func_iri_from_str s ≡ Err e → Inside (length s) e
  func_iri_stretch_inside e q = at_err (Held s) (Inside (length s)) (func_iri_from_str s) e func_iri_holds q
