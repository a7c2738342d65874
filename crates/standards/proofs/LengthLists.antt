-- A list of lengths of SVG 2 hands out its lengths, in order, and then ends.
use Prim.Native.Nat.{ℕ, zero, suc, ◌+◌, ◌≤◌, ◌<◌}
use mathlib.Core.Bool.{false}
use mathlib.Core.List.{List, [], ◌∷◌, ◌++◌, append_assoc, append-nil}
use mathlib.Core.Path.{◌≡◌, refl, sym, ap, ◌∙◌}
use native.Mathlib.Nat.{zero-add}
use native.Mathlib.Omega.{arith}
use borrow.Author.Tests.{le-leb, lt-leb}
use lib.ListN.{length, get_or, length-append, length-map}
use Rattle.text_bytes.specs.Bytes.{is_space, within}
use Rattle.text_bytes.specs.Moves.{place}
use Rattle.stream.specs.Faults.{parse_list_separator}
use Rattle.stream.specs.Refusals.{admit_place}
use Rattle.length.specs.Lengths.{parse_length, parse_list_length, parse_step, next_length}
use Rattle.numbers.specs.Number.{after_item}
use Rattle.length.specs.Lengths.{value_step, end_step}
use Rattle.length.proofs.Shifts.{length_shift}
use Rattle.numbers.specs.Moves.{move_written}
use Rattle.stream.specs.Moves.{move_read, moved}
use Rattle.standards.specs.CssValues3.{Blank, blank, blanks, number}
use Rattle.standards.specs.Domain.{InDomain, PartedInDomain, LengthsInDomain}
use Rattle.standards.specs.Svg2.{Length, unitless, length_text}
use Rattle.standards.specs.LengthSteps.{follow, from, answers, passed, handed_lengths}
use Rattle.standards.specs.Svg2Lists as G
use Rattle.standards.specs.Svg2Lists.{Separator, separator, Parted, parted_text, LengthList, lengths_text}
use Rattle.standards.specs.Answers.{Stops, length_written, read_on}
use Rattle.standards.proofs.Reading.{NumbersRead, ends_comma}
use Rattle.standards.proofs.Cursors.{At, at_start, at_step, at_blanks, at_read, at_spaces, at_inside, at_curr, at_other}
use Rattle.standards.proofs.Runs.{Ascii, ascii_append, ascii_admitted, on_ascii, blanks_ascii, number_first, number_some}
use Rattle.standards.proofs.Marked.{gapped, closes_stops, first_space}
use Rattle.standards.proofs.Units.{stops_end}
use Rattle.standards.proofs.Measures.{length_read, length_ascii}

-- white space and commas go on neither as a number nor as a unit
stops_blanks : (l : List Blank) → Stops (blanks l)
stops_blanks [] = stops_end
stops_blanks (b ∷ l) = closes_stops (gapped b (blanks l))

stops_separator : (p : Separator) (x : List ℕ) → Stops (separator p ++ x)
unfolding separator within
stops_separator (G.space b l) x = closes_stops (gapped b (blanks l ++ x))
stops_separator (G.comma [] m) x = record { ends = ends_comma (blanks m ++ x); letter = refl; mark = refl }
stops_separator (G.comma (b ∷ l) m) x = closes_stops (gapped b ((blanks l ++ (44 ∷ blanks m)) ++ x))

-- of a separator, what is left to the next length
abbrev left : Separator → List Blank
left (G.space b l) = []
left (G.comma l m) = m

separator_is : (p : Separator) (x : List ℕ) → separator p ++ x ≡ passed p ++ (blanks (left p) ++ x)
unfolding separator
separator_is (G.space b l) x = refl
separator_is (G.comma l m) x = simp append_assoc

separator_long : (p : Separator) → length (separator p) ≡ length (passed p) + length (left p)
unfolding separator
separator_long (G.space b l) = simp length-map (omega arith)
separator_long (G.comma l m) = simp (length-append, length-map) (omega arith)

-- what may follow white space that parts two lengths, or ends the list
record Begins (x : List ℕ) : Type 0 where
  unspaced : is_space (get_or x 0 0) ≡ false
  no_comma : get_or x 0 0 ≡ 44 → ⊥

begins_length : (t : Length) (x : List ℕ) → Begins (length_text t ++ x)
unfolding length_text
begins_length t x =
    record {
      unspaced = rw append_assoc (first_space (number_first t.number_part _));
      no_comma = rw append_assoc (number_first t.number_part _).no_comma;
    }

length_some : (t : Length) → 0 < length (length_text t)
unfolding length_text
length_some t = simp length-append (omega (arith, number_some t.number_part))

begins_end : Begins []
begins_end = record { unspaced = refl; no_comma = λ e. omega arith }

module _ (r : NumbersRead) {s : List ℕ} {i : ℕ} where
  length_at : (l : List Blank) (t : Length) (rest : List ℕ) → InDomain t.number_part → (t.unit_part ≡ unitless → Stops rest) → At s i (blanks l ++ (length_text t ++ rest))
      → parse_length s i ≡ read_on (length_written t (i + (length l + length (number t.number_part)))) (place (i + (length l + length (length_text t))))
  length_at l t rest d e h = at_read parse_length (moved (move_read move_written)) (λ a b j. length_shift a b j) h ∙ ap (moved (move_read move_written) i) (length_read r l t rest d e)

module _ {s : List ℕ} {i : ℕ} where
  -- what the reader passes after a length
  spaces_passed : (l : List Blank) (x : List ℕ) → Begins x → At s i (blanks l ++ x) → after_item s i ≡ i + length l
  unfolding parse_list_separator
  spaces_passed l x b h = simp (at_spaces l x b.unspaced h, at_other 44 b.no_comma (at_blanks l x h))

  separator_passed : (p : Separator) (x : List ℕ) → Begins x → At s i (separator p ++ x) → after_item s i ≡ i + length (passed p)
  unfolding separator parse_list_separator
  separator_passed (G.space c l) x b h = rw length-map (spaces_passed (c ∷ l) x b h)
  separator_passed (G.comma l m) x b h =
      let y : List ℕ = 44 ∷ (blanks m ++ x) in
      let g : At s i (blanks l ++ y) = rw append_assoc at h in
      let e : i + length l + 1 ≡ i + length (blanks l ++ (44 ∷ [])) = simp (length-append, length-map) (omega arith) in
      simp (at_spaces l y refl g, at_curr 44 (blanks m ++ x) (at_blanks l y g)) e

module _ (r : NumbersRead) (s : List ℕ) (small : length s ≤ 4096) (plain : Ascii s) where
  -- a step, given what is read after the length, up to place e
  next_is : (i e : ℕ) (l : List Blank) (t : Length) (rest : List ℕ) → InDomain t.number_part → (t.unit_part ≡ unitless → Stops rest) → At s i (blanks l ++ (length_text t ++ rest))
      → (let j = i + (length l + length (length_text t)) in after_item s j ≡ e)
      → next_length s i ≡ value_step (length_written t (i + (length l + length (number t.number_part)))) (place e)
  unfolding next_length parse_step admit_place parse_list_length
  next_is i e l t rest d u h q =
      let n : i < length s = omega (arith, at_inside h, length-append (blanks l) (length_text t ++ rest), length-append (length_text t) rest, length_some t) in
      simp (ascii_admitted s plain small, on_ascii s i plain (omega arith), lt-leb (length s) i n, length_at r l t rest d u h, q)

module _ (last : Length) (after : List Blank) where
  -- the text of the lengths
  abbrev spelt : List Parted → List ℕ
  spelt ps = parted_text ps ++ (length_text last ++ blanks after)

  spelt_begins : (ps : List Parted) → Begins (spelt ps)
  unfolding parted_text
  spelt_begins [] = begins_length last (blanks after)
  spelt_begins (p ∷ ps) = rw append_assoc (begins_length p.length_part _)

  spelt_on : (p : Parted) (ps : List Parted) → spelt (p ∷ ps) ≡ length_text p.length_part ++ (separator p.parting ++ spelt ps)
  unfolding parted_text
  spelt_on p ps = simp append_assoc

module _ (r : NumbersRead) (last : Length) (after : List Blank) (d : InDomain last.number_part) (s : List ℕ) (small : length s ≤ 4096) (plain : Ascii s) where
  -- white space, and a length with a separator after it, or the last
  parted_at : (i : ℕ) (l : List Blank) (p : Parted) (ps : List Parted) → InDomain p.length_part.number_part → At s i (blanks l ++ spelt last after (p ∷ ps))
      → (let t = p.length_part in
      next_length s i
      ≡ value_step (length_written t (i + (length l + length (number t.number_part))))
      (place (i + (length l + length (length_text t)) + length (passed p.parting))))
  parted_at i l p ps c h =
      let t = p.length_part in
      let x = spelt last after ps in
      let rest = separator p.parting ++ x in
      let g : At s i (blanks l ++ (length_text t ++ rest)) = rw (spelt_on last after p ps) at h in
      let z : i + length l + length (length_text t) ≡ i + (length l + length (length_text t)) = omega arith in
      let k : At s (i + (length l + length (length_text t))) rest = rw z at (at_step (length_text t) rest (at_blanks l (length_text t ++ rest) g)) in
      next_is r s small plain i _ l t rest c (λ e. stops_separator p.parting x) g (separator_passed p.parting x (spelt_begins last after ps) k)

  last_at : (i : ℕ) (l : List Blank) → At s i (blanks l ++ spelt last after [])
      → next_length s i
      ≡ value_step (length_written last (i + (length l + length (number last.number_part)))) (place (i + (length l + length (length_text last)) + length after))
  unfolding parted_text
  last_at i l h =
      let t = last in
      let z : i + length l + length (length_text t) ≡ i + (length l + length (length_text t)) = omega arith in
      let k : At s (i + (length l + length (length_text t))) (blanks after) = rw z at (at_step (length_text t) (blanks after) (at_blanks l (length_text t ++ blanks after) h)) in
      next_is r s small plain i _ l t (blanks after) d (λ e. stops_blanks after) h (spaces_passed after [] begins_end (rw append-nil k))

  end_at : next_length s (length s) ≡ end_step (place (length s))
  unfolding next_length parse_step admit_place
  end_at = simp (ascii_admitted s plain small, on_ascii s (length s) plain (omega arith), le-leb (length s) (length s) (omega arith))

  ended : (k : ℕ) → from k s (length s) ≡ end_step (place (length s)) ∷ []
  unfolding from follow
  ended zero = rw end_at
  ended (suc k) = rw end_at

  -- the answers from place i on, where l of the white space is left
  list_from : (k i : ℕ) (l : List Blank) (ps : List Parted) → PartedInDomain ps → suc (length ps) ≤ k → At s i (blanks l ++ spelt last after ps)
      → from k s i ≡ handed_lengths last after (i + length l) ps ++ (end_step (place (length s)) ∷ [])
  unfolding from follow handed_lengths parted_text
  list_from zero i l ps w n h = absurd (omega arith)
  list_from (suc k) i l [] w n h =
      let a : i + (length l + length (number last.number_part)) ≡ i + length l + length (number last.number_part) = omega arith in
      let b : i + (length l + length (length_text last)) + length after ≡ i + length l + length (length_text last) + length after = omega arith in
      let e : i + length l + length (length_text last) + length after ≡ length s
      = omega (arith, at_inside h, length-append (blanks l) (length_text last ++ blanks after), length-append (length_text last) (blanks after), length-map l blank, length-map after blank) in
      rw (last_at i l h, a, b, e, ended k)
  list_from (suc k) i l (p ∷ ps) w n h =
      let t = p.length_part in
      let x = spelt last after ps in
      let q = passed p.parting in
      let m = left p.parting in
      let a : i + (length l + length (number t.number_part)) ≡ i + length l + length (number t.number_part) = omega arith in
      let b : i + (length l + length (length_text t)) + length q ≡ i + length l + length (length_text t) + length q = omega arith in
      let e : i + length l + length (length_text t) + length (separator p.parting) ≡ i + length l + length (length_text t) + length q + length m = omega (arith, separator_long p.parting) in
      let g : At s i (blanks l ++ (length_text t ++ (q ++ (blanks m ++ x)))) = rw (spelt_on last after p ps, separator_is p.parting x) at h in
      let j : At s (i + length l + length (length_text t) + length q) (blanks m ++ x)
      = at_step q (blanks m ++ x) (at_step (length_text t) (q ++ (blanks m ++ x)) (at_blanks l (length_text t ++ (q ++ (blanks m ++ x))) g)) in
      rw (parted_at i l p ps w.0 h, a, b, e, list_from k (i + length l + length (length_text t) + length q) m ps w.1 (omega arith) j)

parted_ascii : (ps : List Parted) → Ascii (parted_text ps)
unfolding parted_text separator
parted_ascii [] = refl
parted_ascii (p ∷ ps) =
    ascii_append (length_text p.length_part) (separator p.parting ++ parted_text ps) (length_ascii p.length_part)
    (ascii_append (separator p.parting) (parted_text ps) (separator_ascii p.parting) (parted_ascii ps))
  where
    separator_ascii : (p : Separator) → Ascii (separator p)
    separator_ascii (G.space b l) = blanks_ascii (b ∷ l)
    separator_ascii (G.comma l m) = ascii_append (blanks l) (44 ∷ blanks m) (blanks_ascii l) (blanks_ascii m)

parted_long : (ps : List Parted) → length ps ≤ length (parted_text ps)
unfolding parted_text
parted_long [] = omega arith
parted_long (p ∷ ps) = simp length-append (omega (arith, parted_long ps, length_some p.length_part))

parted_append : (ps qs : List Parted) → parted_text (ps ++ qs) ≡ parted_text ps ++ parted_text qs
unfolding parted_text
parted_append [] qs = refl
parted_append (p ∷ ps) qs = rw (parted_append ps qs) (simp append_assoc)

list_ascii : (t : LengthList) → Ascii (lengths_text t)
unfolding lengths_text
list_ascii t =
    let b = length_text t.last ++ blanks t.after in
    ascii_append (blanks t.before) (parted_text t.firsts ++ b) (blanks_ascii t.before)
    (ascii_append (parted_text t.firsts) b (parted_ascii t.firsts) (ascii_append (length_text t.last) (blanks t.after) (length_ascii t.last) (blanks_ascii t.after)))

parted_in : (ps : List Parted) (p : Parted) (qs : List Parted) → PartedInDomain (ps ++ (p ∷ qs)) → InDomain p.length_part.number_part
parted_in [] p qs w = w.0
parted_in (q ∷ ps) p qs w = parted_in ps p qs w.1

-- what stands after the first lengths
list_at : (t : LengthList) (ps qs : List Parted) → t.firsts ≡ ps ++ qs → At (lengths_text t) (length t.before + length (parted_text ps)) (spelt t.last t.after qs)
unfolding lengths_text
list_at t ps qs e =
    let x = spelt t.last t.after qs in
    let f : parted_text t.firsts ++ (length_text t.last ++ blanks t.after) ≡ parted_text ps ++ x = rw (e, parted_append ps qs) (simp append_assoc) in
    let z : 0 + length t.before ≡ length t.before = omega arith in
    rw f (at_step (parted_text ps) x (rw z at (at_blanks t.before (parted_text ps ++ x) (at_start (blanks t.before ++ (parted_text ps ++ x))))))

module _ (r : NumbersRead) (t : LengthList) (d : LengthsInDomain t) (small : length (lengths_text t) ≤ 4096) where
  -- THEOREM: a list of the grammar hands out its lengths, in order, and then ends
  pub lengths_read : answers (lengths_text t) 0 ≡ handed_lengths t.last t.after (length t.before) t.firsts ++ (end_step (place (length (lengths_text t))) ∷ [])
  unfolding answers lengths_text
  lengths_read =
      let ps = t.firsts in
      let s = blanks t.before ++ (parted_text ps ++ (length_text t.last ++ blanks t.after)) in
      let n : suc (length ps) ≤ length s = simp length-append (omega (arith, parted_long ps, length_some t.last)) in
      let z : 0 + length t.before ≡ length t.before = omega arith in
      rw z at (list_from r t.last t.after d.1 s small (list_ascii t) (length s) 0 t.before ps d.0 n (at_start s))

  -- THEOREM: from the place where a length starts it is answered, whatever lengths stand before and after it
  pub length_step : (ps : List Parted) (p : Parted) (qs : List Parted) → t.firsts ≡ ps ++ (p ∷ qs)
      → (let n = length t.before + length (parted_text ps) in
      let l = p.length_part in
      next_length (lengths_text t) n
      ≡ value_step (length_written l (n + length (number l.number_part))) (place (n + length (length_text l) + length (passed p.parting))))
  length_step ps p qs e =
      rw (zero-add, zero-add) at (parted_at r t.last t.after d.1 (lengths_text t) small (list_ascii t) (length t.before + length (parted_text ps)) [] p qs (parted_in ps p qs (rw e at d.0)) (list_at t ps (p ∷ qs) e))

  pub last_step : (let n = length t.before + length (parted_text t.firsts) in
      let l = t.last in
      next_length (lengths_text t) n
      ≡ value_step (length_written l (n + length (number l.number_part))) (place (n + length (length_text l) + length t.after)))
  last_step =
      rw (zero-add, zero-add) at (last_at r t.last t.after d.1 (lengths_text t) small (list_ascii t) (length t.before + length (parted_text t.firsts)) []
      (list_at t t.firsts [] (sym (append-nil t.firsts))))
