-- A link that is told, and its fallback, are what the plain reader reads.
use Prim.Native.Nat.{ℕ, zero, suc, ◌+◌, ◌-◌, ◌≤◌, ◌<◌}
use mathlib.Core.Bool.{true, false, ◌&&◌}
use mathlib.Core.List.{List, [], ◌∷◌, ◌++◌}
use mathlib.Core.Logic.{⊎_elim}
use mathlib.Core.Path.{◌≡◌, refl, sym, ap, ◌∙◌}
use native.Mathlib.Omega.{arith}
use borrow.Author.Tests.{eq-eqb, lt-leb, lt-ltb}
use lib.Dec.{eqb, ltb}
use lib.ListN.{length, get_or, take, drop, length-append}
use lib.Seq.{get_or-drop}
use Rattle.std.specs.Prelude.{Result, Ok, Err, Some, None, if◌then◌else◌}
use Rattle.text_bytes.specs.Bytes.{within, is_space, is_other}
use Rattle.text_bytes.specs.Flow.{◌>>=◌}
use Rattle.text_bytes.specs.Moves.{place}
use Rattle.text_bytes.specs.Scan.{run, scan}
use Rattle.text_bytes.specs.Words.{ascii, same, starts_with, is_curr_byte_eq, part}
use Rattle.text_bytes.specs.declared.Part.{Part}
use Rattle.text_bytes.specs.declared.Place.{Place}
use Rattle.text_bytes.proofs.Parts.{byte_inside}
use Rattle.text_bytes.proofs.Ranges.{and_first, and_second, either, lt_or_le}
use Rattle.text_bytes.proofs.Scans.{run_inside, scan_here}
use Rattle.text_bytes.proofs.Wording.{same_eq, begins_with, starts_first}
use Rattle.utf8.specs.Blanks.{trim_end}
use Rattle.utf8.specs.Characters.{keeps, row_of, len_at, char_len, walk, utf8_of}
use Rattle.stream.specs.Faults.{invalid_value, consume_byte, consume_string}
use Rattle.stream.specs.Refusals.{Inside, number_of, reason_number, empty_refusal, refusal_of, at_edge, admit_text}
use Rattle.stream.specs.declared.Fault.{Fault}
use Rattle.stream.specs.declared.Read.{Read}
use Rattle.stream.specs.declared.Reason.{Reason}
use Rattle.stream.specs.declared.Reason.TheVariants as R
use Rattle.stream.specs.declared.Refusal.{Refusal}
use Rattle.stream.specs.declared.Trouble.TheVariants as T
use Rattle.stream.proofs.Binds.{bind_ok, at_ok}
use Rattle.stream.proofs.Edges.{Admitted, admit_holds, admitted_utf8, edge_ok}
use Rattle.stream.proofs.Sames.{curr_consumed}
use Rattle.color.specs.Answer as color
use Rattle.color.specs.Color.{parse_color_text}
use Rattle.color.specs.declared.Color.{Color}
use Rattle.color.proofs.Stretches.{text_lies}
use Rattle.funciri.specs.Link.{is_quote, is_link, link_at, link_read, close_link, close_quote, quoted_link, parse_func_iri}
use Rattle.paint.specs.Reading.{parse_fallback, parse_linked, parse_paint}
use Rattle.paint.specs.declared.PaintFallback.{PaintFallback}
use Rattle.paint.specs.declared.PaintFallback.TheVariants as F
use Rattle.fast_color.proofs.Empty.{admit_low, fault_empty}
use Rattle.fast_funciri.specs.Bare.{is_bare_byte}
use Rattle.fast_funciri.proofs.Bare.{plain_quick, quoted_quick}
use Rattle.fast_funciri.proofs.Links.{bare_ascii, url_named}
use Rattle.fast_paint.specs.Links.{bare_link, told_link, fallback_refused, color_fallback, told_fallback}

-- what a word that was seen says of the text
pub word_inside : (w t : List ℕ) → starts_with w t ≡ true → (starts_with w t ≡ true) × (length w ≤ length t)
word_inside w t h = (h, omega (arith, ap (λ (x : List ℕ). length x) (begins_with w t h), length-append w (drop (length w) t)))

word_at : (w t : List ℕ) (q j : ℕ) → starts_with w (drop q t) ≡ true → get_or t (q + j) 0 ≡ get_or (w ++ drop (length w) (drop q t)) j 0
word_at w t q j h = rw (← begins_with w (drop q t) h, get_or-drop) refl

curr_is : (t : List ℕ) (i c : ℕ) → get_or t i 0 ≡ c → 0 < c → true ≡ is_curr_byte_eq t i c
unfolding is_curr_byte_eq
curr_is t i c e h = simp (lt-ltb i (length t) (byte_inside t i c (sym e) h), eq-eqb (get_or t i 0) c e)

no_some : {A : Type 0} {a : A} {C : Type 0} → None ≡ Some a → C
no_some e = let z : ◌≡◌ {A = ℕ} 0 1 = cc in absurd (omega arith)

given : {A : Type 0} {a b : A} → Some a ≡ Some b → a ≡ b
given e = cc

-- a link that begins a text: as it is read, behind ASCII alone
pub record Linked (t : List ℕ) (r : Read Part) : Type 0 where
  pub begins : starts_with (ascii "url(") t ≡ true
  pub read : parse_func_iri t 0 ≡ Ok r
  pub ascii : (j : ℕ) → j < r.next.0 → get_or t j 0 < 128
  pub start : r.value.start.0 ≤ 6
  pub len : r.value.len ≤ length t

-- the longer word begins with the word
url_more : (x : List ℕ) → starts_with (ascii "url(") (ascii "url(" ++ x) ≡ true
unfolding starts_with
url_more x = refl

url_bytes : (c : ℕ) (x : List ℕ) → c < 128 → (j : ℕ) → j < 5 → get_or (ascii "url(" ++ (c ∷ x)) j 0 < 128
url_bytes c x l zero h = omega arith
url_bytes c x l (suc zero) h = omega arith
url_bytes c x l (suc (suc zero)) h = omega arith
url_bytes c x l (suc (suc (suc zero))) h = omega arith
url_bytes c x l (suc (suc (suc (suc zero)))) h = l
url_bytes c x l (suc (suc (suc (suc (suc j))))) h = absurd (omega arith)

-- up to a link's bytes, these, and what closes them
front_ascii : (t : List ℕ) (a q p : ℕ) → q ≡ scan is_bare_byte t a → ((j : ℕ) → j < a → get_or t j 0 < 128) → ((j : ℕ) → q ≤ j → j < p → get_or t j 0 < 128)
    → (j : ℕ) → j < p → get_or t j 0 < 128
front_ascii t a q p n before after j h =
    ⊎_elim (λ (l : j < a). before j l)
    (λ (l : a ≤ j).
    ⊎_elim (λ (m : j < q). bare_ascii t a j l (rw n at m))
    (λ (m : q ≤ j). after j m h)
    (lt_or_le j q))
    (lt_or_le j a)

-- what is told of the bytes from a on
module _ (t : List ℕ) (a : ℕ) (close : List ℕ) (r : Read Part) (e : bare_link t a close ≡ Some r) where
  record Bare : Type 0 where
    past : ltb a (scan is_bare_byte t a) ≡ true
    closed : starts_with close (drop (scan is_bare_byte t a) t) ≡ true
    is : r ≡ link_read (link_at (place a) (scan is_bare_byte t a - a)) (scan is_bare_byte t a + length close)

  bare : Bare
  unfolding bare_link
  bare =
      let q = scan is_bare_byte t a in
      let u = starts_with close (drop q t) in
      either (ltb a q && u) (λ h. record { past = and_first (ltb a q) u h; closed = and_second (ltb a q) u h; is = sym (given (simp h at e)) }) (λ h. no_some (simp h at e))

-- `url(#name)`
plain_linked : (t : List ℕ) (r : Read Part) → starts_with (ascii "url(#") t ≡ true → bare_link t 5 (ascii ")") ≡ Some r → Linked t r
plain_linked t r b e =
    let q = scan is_bare_byte t 5 in
    let v = bare t 5 (ascii ")") r e in
    let z : q + 0 ≡ q = omega arith in
    let c : get_or t q 0 ≡ 41 = rw z at (word_at (ascii ")") t q 0 v.closed) in
    let w = begins_with (ascii "url(#") t b in
    rw v.is
    (record {
      begins = rw w (url_more (35 ∷ drop 5 t));
      read = url_named t b ∙ sym (plain_quick t (place 5) q refl (curr_is t q 41 c (omega arith)) (simp v.past));
      ascii = front_ascii t 5 q (q + 1) refl (λ j h. rw w (url_bytes 35 (drop 5 t) (omega arith) j h)) (λ j h l. let i : j ≡ q = omega arith in rw i (omega (arith, c)));
      start = omega arith;
      len = run_inside is_bare_byte t 5;
    })

-- after the quote and `#` the name is read
abbrev quoted_name : List ℕ → ℕ → Result (Read Part) Fault
quoted_name s c =
    let end = scan (is_other c) s 6 in
    let len = trim_end (part s 6 end) in
    if is_link (take len (part s 6 end)) then close_quote s end c (link_at (place 6) len) else Err (invalid_value end)

abbrev quoted : ℕ → List ℕ
quoted c = ascii "url(" ++ (c ∷ 35 ∷ [])

quoted_opened : (c : ℕ) (x : List ℕ) → is_quote c ≡ true → is_space c ≡ false → parse_func_iri (ascii "url(" ++ (c ∷ 35 ∷ x)) 0 ≡ quoted_name (ascii "url(" ++ (c ∷ 35 ∷ x)) c
unfolding parse_func_iri quoted_link consume_byte consume_string starts_with scan run
quoted_opened c x h e =
    let s = ascii "url(" ++ (c ∷ 35 ∷ x) in
    simp (e, h, lt-leb (length s) 0 (omega arith), lt-leb (length s) 5 (omega arith))

quoted_bytes : (c : ℕ) (x : List ℕ) → c < 128 → (j : ℕ) → j < 6 → get_or (ascii "url(" ++ (c ∷ 35 ∷ x)) j 0 < 128
quoted_bytes c x l j h =
    ⊎_elim (λ (m : j < 5). url_bytes c (35 ∷ x) l j m)
    (λ (m : 5 ≤ j). let i : j ≡ 5 = omega arith in rw i (omega arith))
    (lt_or_le j 5)

-- `url('#name')`
module _ (t : List ℕ) (r : Read Part) (c : ℕ) (h : is_quote c ≡ true) (o : is_space c ≡ false) (l : c < 128) (some : 0 < c)
    (b : starts_with (quoted c) t ≡ true) (e : bare_link t 6 (c ∷ 41 ∷ []) ≡ Some r) where
  abbrev q : ℕ
  q = scan is_bare_byte t 6

  quote_at : get_or t q 0 ≡ c
  quote_at =
      let z : q + 0 ≡ q = omega arith in
      rw z at (word_at (c ∷ 41 ∷ []) t q 0 (bare t 6 (c ∷ 41 ∷ []) r e).closed)

  bracket_at : get_or t (q + 1) 0 ≡ 41
  bracket_at = word_at (c ∷ 41 ∷ []) t q 1 (bare t 6 (c ∷ 41 ∷ []) r e).closed

  quoted_close : Ok (link_read (link_at (place 6) (q - 6)) (q + 2)) ≡ close_link t (q + 1) (link_at (place 6) (q - 6))
  unfolding close_link
  quoted_close =
      let g : scan is_space t (q + 1) ≡ q + 1 = scan_here is_space t (q + 1) (rw bracket_at refl) (byte_inside t (q + 1) 41 (sym bracket_at) (omega arith)) in
      let y : q + 1 + 1 ≡ q + 2 = omega arith in
      simp (g, curr_consumed t (q + 1) 41 (curr_is t (q + 1) 41 bracket_at (omega arith)) refl, y)

  quoted_linked : Linked t r
  quoted_linked =
      let v = bare t 6 (c ∷ 41 ∷ []) r e in
      let w = begins_with (quoted c) t b in
      rw v.is
      (record {
        begins = rw w (url_more (c ∷ 35 ∷ drop 6 t));
        read = rw w (quoted_opened c (drop 6 t) h o) ∙ sym (quoted_quick t (place 6) q c refl (sym h) (curr_is t q c quote_at some) (simp v.past) quoted_close);
        ascii = front_ascii t 6 q (q + 2) refl (λ j k. rw w (quoted_bytes c (drop 6 t) l j k)) after;
        start = omega arith;
        len = run_inside is_bare_byte t 6;
      })
    where
      after : (j : ℕ) → q ≤ j → j < q + 2 → get_or t j 0 < 128
      after j k m =
          ⊎_elim (λ (n : j < q + 1). let i : j ≡ q = omega arith in rw i (omega (arith, quote_at)))
          (λ (n : q + 1 ≤ j). let i : j ≡ q + 1 = omega arith in rw i (omega (arith, bracket_at)))
          (lt_or_le j (q + 1))

pub linked : (t : List ℕ) (r : Read Part) → told_link t ≡ Some r → Linked t r
unfolding told_link
linked t r e =
    either (starts_with (ascii "url(#") t) (λ b. plain_linked t r b (simp b at e))
    (λ a. either (starts_with (quoted 39) t) (λ b. quoted_linked t r 39 refl refl (omega arith) (omega arith) b (simp (a, b) at e))
    (λ b. either (starts_with (quoted 34) t) (λ d. quoted_linked t r 34 refl refl (omega arith) (omega arith) d (simp (a, b, d) at e))
    (λ d. no_some (simp (a, b, d) at e))))

-- the bounds of its number
pub link_inside : (t : List ℕ) (r : Read Part) → told_link t ≡ Some r → (told_link t ≡ Some r) × ((r.value.start.0 ≤ 6) × (r.value.len ≤ length t))
link_inside t r e = let v = linked t r e in (e, (v.start, v.len))

-- a text that begins with `url(` is no keyword
not_same : (s : List ℕ) (w : ℕ) (ws : List ℕ) → eqb (get_or s 0 0) w ≡ false → same s (w ∷ ws) ≡ false
unfolding same
not_same [] w ws e = refl
not_same (x ∷ xs) w ws e = simp e

pub linked_first : (s : List ℕ) → starts_with (ascii "url(") s ≡ true → parse_paint s ≡ parse_linked s
unfolding parse_paint
linked_first s f =
    let b : get_or s 0 0 ≡ 117 = starts_first 117 (ascii "rl(") s f in
    let n : (w : ℕ) (ws : List ℕ) → eqb 117 w ≡ false → same s (w ∷ ws) ≡ false = λ w ws k. not_same s w ws (rw b k) in
    simp (n 110 (ascii "one") refl, n 105 (ascii "nherit") refl, n 99 (ascii "urrentColor") refl, n 99 (ascii "ontext-fill") refl, n 99 (ascii "ontext-stroke") refl, f)

-- a fallback that is told: of a text that may be read
pub record Falls (x : List ℕ) (f : PaintFallback) : Type 0 where
  pub utf8 : utf8_of x ≡ Ok tt
  pub read : parse_fallback x ≡ Ok f

-- and one that is refused by 5 at p, a place of its own text
pub record Stops (x : List ℕ) (p : Place) : Type 0 where
  pub utf8 : utf8_of x ≡ Ok tt
  pub fault : Fault
  pub read : parse_fallback x ≡ Err fault
  pub empty : refusal_of x fault ≡ empty_refusal (R.Unread T.InvalidValue) p.0

-- what is told of a fallback's text
abbrev pub Tells : List ℕ → Result PaintFallback Place → Type 0
Tells x (Ok f) = Falls x f
Tells x (Err p) = Stops x p

-- what is told of a refusal is told of a 5
five_told : (r : Reason) (p : Place) (d : Result PaintFallback Place) → fallback_refused r p ≡ Some d → (reason_number r ≡ 5) × (Err p ≡ d)
unfolding reason_number number_of
five_told (R.Unread T.InvalidValue) p d h = (refl, given h)
five_told r p d h = no_some h

module _ (x : List ℕ) where
  -- a text that may be read, of which no keyword is told
  module _ (a : same x (ascii "none") ≡ false) (b : same x (ascii "currentColor") ≡ false) where
    color_falls : (c : Color) → color.from_str x ≡ Ok c → Falls x (F.Color c)
    unfolding parse_fallback color.from_str
    color_falls c k =
        let v = bind_ok (admit_text x) _ k in
        let w = bind_ok {A = Read Color} _ _ v.1.1 in
        let d = edge_ok x (parse_color_text x) w.1.0 in
        let z : w.0.value ≡ c = cc (w.1.1) in
        record {
          utf8 = (at_ok (λ _. Admitted x) (Inside (length x)) (admit_text x) v.0 (admit_holds x) v.1.0).utf8;
          read = simp (a, b, d) (ap (λ g. Ok (F.Color g)) z);
        }

    color_stops : (e : Refusal) → color.from_str x ≡ Err e → reason_number e.reason ≡ 5 → Stops x e.from
    unfolding parse_fallback color.from_str refusal_of reason_number
    color_stops e k n = go (admit_text x) refl (parse_color_text x) refl k
      where
        same_err : {g : Refusal} → ◌≡◌ {A = Result Color Refusal} (Err g) (Err e) → g ≡ e
        same_err h = cc

        go : (y : Result (Unit {0}) Refusal) → admit_text x ≡ y → (r : Result (Read Color) Fault) → parse_color_text x ≡ r
            → (y >>= (λ _. at_edge x r >>= (λ (c : Read Color). Ok c.value))) ≡ Err e → Stops x e.from
        go (Ok u) h (Ok c) l o = cc
        go (Ok u) h (Err f) l o =
            let z = same_err o in
            let m : number_of f.trouble ≡ 5 = rw (← z) at n in
            let w : Stops x f.from = record { utf8 = admitted_utf8 x h; fault = f; read = simp (a, b, l); empty = fault_empty x f (text_lies x f l) m } in
            rw (← z) w
        go (Err g) h r l o = absurd (omega (arith, n, admit_low x e (rw (same_err o) at h)))

    colored : (d : Result PaintFallback Place) → color_fallback (color.from_str x) ≡ Some d → Tells x d
    colored d = go (color.from_str x) refl
      where
        go : (y : Result Color Refusal) → color.from_str x ≡ y → color_fallback y ≡ Some d → Tells x d
        go (Ok c) k h = let z : Ok (F.Color c) ≡ d = given h in rw (← z) (color_falls c k)
        go (Err e) k h = let v = five_told e.reason e.from d h in rw (← v.1) (color_stops e k v.0)

  word_falls : (w : List ℕ) (g : PaintFallback) (d : Result PaintFallback Place) → same x w ≡ true → utf8_of w ≡ Ok tt → parse_fallback w ≡ Ok g → Some (Ok g) ≡ Some d → Tells x d
  word_falls w g d s u p h =
      let z : Ok g ≡ d = given h in
      rw (← z) (rw (same_eq x w s) (record { utf8 = u; read = p }))

  pub falls : (d : Result PaintFallback Place) → told_fallback x ≡ Some d → Tells x d
  unfolding told_fallback parse_fallback utf8_of walk char_len len_at row_of keeps within same
  falls d e =
      either (same x (ascii "none")) (λ a. word_falls (ascii "none") F.None d a refl refl (simp a at e))
      (λ a. either (same x (ascii "currentColor")) (λ b. word_falls (ascii "currentColor") F.CurrentColor d b refl refl (simp (a, b) at e))
      (λ b. colored a b d (simp (a, b) at e)))
