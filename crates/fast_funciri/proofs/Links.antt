-- A link of bare bytes that is all of its text is what the definitions come to.
use Prim.Native.Nat.{ℕ, zero, suc, ◌+◌, ◌-◌, ◌≤◌, ◌<◌}
use mathlib.Core.Bool.{true}
use mathlib.Core.List.{List, ◌++◌}
use mathlib.Core.Logic.{⊎_elim}
use mathlib.Core.Path.{◌≡◌, refl, sym, ◌∙◌}
use native.Mathlib.Omega.{arith}
use borrow.Author.Tests.{lt-ltb, le-ltb, le-leb, lt-leb}
use lib.ListN.{length, get_or, drop, length-drop}
use Rattle.text_bytes.specs.Bytes.{is_space, is_link_byte, is_url_byte}
use Rattle.text_bytes.specs.Moves.{place}
use Rattle.stream.specs.Faults.{invalid_value, consume_byte, consume_string}
use Rattle.stream.specs.Refusals.{admit_text, admit_utf8}
use Rattle.text_bytes.specs.Scan.{run, scan}
use Rattle.text_bytes.specs.Words.{ascii, starts_with, is_curr_byte_eq, part}
use Rattle.text_bytes.proofs.Ahead.{scan_bytes}
use Rattle.text_bytes.proofs.Ranges.{lt_or_le, within_le}
use Rattle.stream.proofs.Sames.{curr_consumed}
use Rattle.text_bytes.proofs.Scans.{run_le, scan_start, scan_end, scan_here, run_wider}
use Rattle.utf8.proofs.Walks.{ascii_utf8, ascii_all}
use Rattle.text_bytes.proofs.Wording.{word_inside, curr_inside, curr_byte, begins_with}
use Rattle.funciri.specs.Answers.{whole_link, iri_from_str, func_iri_from_str}
use Rattle.funciri.specs.Link.{is_link, link_at, link_read, close_link, plain_link, parse_iri, parse_func_iri}
use Rattle.std.specs.Prelude.{Result, Ok, Err, if◌then◌else◌}
use Rattle.text_bytes.specs.declared.Part.{Part}
use Rattle.stream.specs.declared.Fault.{Fault}
use Rattle.stream.specs.declared.Read.{Read}
use Rattle.fast_funciri.specs.Bare.{is_bare_byte}
use Rattle.fast_funciri.proofs.Bare.{bare_space, plain_quick}

-- the bytes of a run are ASCII
pub bare_ascii : (s : List ℕ) (i j : ℕ) → i ≤ j → j < scan is_bare_byte s i → get_or s j 0 < 128
bare_ascii s i j h l = omega (arith, within_le 42 127 (get_or s j 0) (sym (scan_bytes is_bare_byte s i j h l)))

admitted : (s : List ℕ) → length s ≤ 4096 → ((j : ℕ) → j < length s → get_or s j 0 < 128) → admit_text s ≡ Ok tt
unfolding admit_text admit_utf8
admitted s h f = simp (le-leb (length s) 4096 h, sym (ascii_utf8 s (sym (ascii_all s f)) refl))

-- so that a run of bare bytes to the end of the text is one of a link's bytes
scan_on : (s : List ℕ) (i e : ℕ) → i ≤ length s → e ≡ scan is_bare_byte s i → e ≡ length s → scan is_link_byte s i ≡ e
unfolding scan
scan_on s i e l f h = omega (arith, run_wider is_bare_byte is_link_byte bare_space (drop i s), run_le is_link_byte (drop i s), length-drop i s)

-- a link that ends with its text
whole_link_is : (s : List ℕ) (a n e : ℕ) → length s ≤ e → whole_link s (Ok (link_read (link_at (place a) n) e)) ≡ Ok (link_at (place a) n)
unfolding whole_link
whole_link_is s a n e h =
    let g : scan is_space s e ≡ e = sym (scan_end (scan_start is_space s e) h) in
    simp (g, le-ltb e (length s) h)

-- what was seen lies inside, so that a run may follow it
pub hash_inside : (s : List ℕ) → is_curr_byte_eq s 0 35 ≡ true → (is_curr_byte_eq s 0 35 ≡ true) × (1 ≤ length s)
hash_inside s h = (h, omega (arith, curr_inside s 0 35 refl h))

pub url_inside : (s : List ℕ) → starts_with (ascii "url(#") s ≡ true → (starts_with (ascii "url(#") s ≡ true) × (5 ≤ length s)
url_inside s h = (h, word_inside 117 (ascii "rl(#") s 0 true refl (sym h))

-- `#` and a run
module _ (s : List ℕ) (small : length s ≤ 4096) (h : is_curr_byte_eq s 0 35 ≡ true) (past : 1 < scan is_bare_byte s 1) (whole : scan is_bare_byte s 1 ≡ length s) where
  abbrev e : ℕ
  e = scan is_bare_byte s 1

  iri_ascii : (j : ℕ) → j < length s → get_or s j 0 < 128
  iri_ascii zero l = omega (arith, curr_byte s 0 35 refl h)
  iri_ascii (suc j) l = bare_ascii s 1 (suc j) (omega arith) (omega (arith, whole))

  iri_read : parse_iri s 0 ≡ Ok (link_read (link_at (place 1) (e - 1)) e)
  unfolding parse_iri
  iri_read =
      let b : get_or s 0 0 ≡ 35 = curr_byte s 0 35 refl h in
      let o : scan is_space s 0 ≡ 0 = scan_here is_space s 0 (rw b refl) (curr_inside s 0 35 refl h) in
      let w : scan is_link_byte s 1 ≡ e = scan_on s 1 e (omega (arith, past, whole)) refl whole in
      simp (o, curr_consumed s 0 35 refl h, w, lt-leb e 1 past)

  pub iri_link : Ok (link_at (place 1) (scan is_bare_byte s 1 - 1)) ≡ iri_from_str s
  unfolding iri_from_str
  iri_link = sym (simp (admitted s small iri_ascii, iri_read, whole_link_is s 1 (e - 1) e (omega (arith, whole))))

-- after `url(#` the name is read
abbrev pub named : List ℕ → Result (Read Part) Fault
named s =
    let end = scan is_url_byte s 5 in
    if is_link (part s 5 end) then close_link s end (link_at (place 5) (end - 5)) else Err (invalid_value end)

url_opened : (t : List ℕ) → parse_func_iri (ascii "url(#" ++ t) 0 ≡ named (ascii "url(#" ++ t)
unfolding parse_func_iri plain_link consume_byte consume_string starts_with scan run
url_opened t =
    let s = ascii "url(#" ++ t in
    simp (lt-leb (length s) 0 (omega arith), lt-leb (length s) 4 (omega arith))

pub url_named : (s : List ℕ) → starts_with (ascii "url(#") s ≡ true → parse_func_iri s 0 ≡ named s
url_named s e = rw (begins_with (ascii "url(#") s e) (url_opened (drop 5 s))

url_bytes : (x : List ℕ) (j : ℕ) → j < 5 → get_or (ascii "url(#" ++ x) j 0 < 128
url_bytes x zero h = omega arith
url_bytes x (suc zero) h = omega arith
url_bytes x (suc (suc zero)) h = omega arith
url_bytes x (suc (suc (suc zero))) h = omega arith
url_bytes x (suc (suc (suc (suc zero)))) h = omega arith
url_bytes x (suc (suc (suc (suc (suc j))))) h = absurd (omega arith)

module _ (s : List ℕ) (small : length s ≤ 4096) (h : starts_with (ascii "url(#") s ≡ true) (past : 5 < scan is_bare_byte s 5)
    (c : get_or s (scan is_bare_byte s 5) 0 ≡ 41) (whole : scan is_bare_byte s 5 + 1 ≡ length s) where
  abbrev last : ℕ
  last = scan is_bare_byte s 5

  url_ascii : (j : ℕ) → j < length s → get_or s j 0 < 128
  url_ascii j l =
      ⊎_elim (λ (o : j < 5). rw (begins_with (ascii "url(#") s h) (url_bytes (drop 5 s) j o))
      (λ (o : 5 ≤ j).
      ⊎_elim (λ (m : j < last). bare_ascii s 5 j o m)
      (λ (m : last ≤ j). let q : j ≡ last = omega (arith, whole) in rw q (omega (arith, c)))
      (lt_or_le j last))
      (lt_or_le j 5)

  url_bracket : true ≡ is_curr_byte_eq s last 41
  unfolding is_curr_byte_eq
  url_bracket = simp (lt-ltb last (length s) (omega (arith, whole)), c)

  url_read : parse_func_iri s 0 ≡ Ok (link_read (link_at (place 5) (last - 5)) (last + 1))
  url_read = url_named s h ∙ sym (plain_quick s (place 5) last refl url_bracket (simp (lt-ltb 5 last past)))

  pub url_link : Ok (link_at (place 5) (scan is_bare_byte s 5 - 5)) ≡ func_iri_from_str s
  unfolding func_iri_from_str
  url_link = sym (simp (admitted s small url_ascii, url_read, whole_link_is s 5 (last - 5) (last + 1) (omega (arith, whole))))
