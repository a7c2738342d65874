-- The laws of the outside step, which admits the text and the list place first and numbers a fault.
use Prim.Native.Nat.{ℕ, ◌+◌, ◌≤◌, ◌<◌}
use mathlib.Core.Bool.{Bool, true, false, cond, not}
use mathlib.Core.List.{List, [], ◌∷◌, ◌++◌}
use mathlib.Core.Logic.{◌⊎◌, inl, inr, ⊎_elim}
use mathlib.Core.Path.{◌≡◌, refl, sym, ap, ◌∙◌}
use native.Mathlib.Omega.{arith}
use borrow.Author.Tests.{eqb-true, eqb-false, eq-eqb, ne_eqb, le-leb, leb-false}
use lib.Dec.{leb, eqb}
use lib.ListN.{length, get_or, length-append, get_or-append, get_or-eq_default}
use Rattle.std.specs.Prelude.{Result, Ok, Err, MatchResult, ⊤}
use Rattle.text_bytes.specs.Bytes.{within, is_space, is_tail}
use Rattle.text_bytes.specs.Moves.{place, move_place}
use Rattle.text_bytes.specs.Scan.{scan}
use Rattle.text_bytes.specs.declared.Place.{Place}
use Rattle.text_bytes.proofs.Ahead.{scan_again, scan_kept}
use Rattle.text_bytes.proofs.Ranges.{either, le_or_lt}
use Rattle.text_bytes.proofs.Scans.{scan_start, scan_end, scan_le, scan_shift}
use Rattle.text_bytes.proofs.Wording.{space_ascii}
use Rattle.utf8.specs.Characters.{utf8_of, characters, firsts, on_character}
use Rattle.utf8.proofs.Counting.{on_byte, on_end, on_shift}
use Rattle.utf8.proofs.Cuts.{after_ascii, scan_on}
use Rattle.utf8.proofs.Walks.{utf8_join}
use Rattle.stream.specs.Moves.{moved}
use Rattle.stream.specs.Refusals.{number_of, reason_number, refusal_of, bare_refusal, admit_utf8, admit_text, admit_place}
use Rattle.stream.specs.declared.Fault.{Fault}
use Rattle.stream.specs.declared.Read.{Read}
use Rattle.stream.specs.declared.Refusal.{Refusal}
use Rattle.stream.specs.declared.Reason.TheVariants as R
use Rattle.stream.proofs.Edges.{admitted_small, admitted_utf8, on_last, refusal_shift}
use Rattle.stream.specs.Steps.{edged, refused_step}
use Rattle.filter_functions.specs.Filters.{parse_step, next_filter, value_step, end_step, none_step}
use Rattle.filter_functions.specs.Filters.{FilterStep}
use Rattle.filter_functions.specs.Moves.{move_listed}
use Rattle.filter_functions.specs.declared.FilterValue.{FilterValue}
use Rattle.filter_functions.specs.declared.Listed.{Listed}
use Rattle.filter_functions.specs.declared.Listed.TheVariants as I
use Rattle.filter_functions.proofs.Kept.{step_more, step_seam}
use Rattle.filter_functions.proofs.Shifts.{move_step_read, step_shift}
use Rattle.filter_functions.proofs.Others.{judges, Other}
use Rattle.filter_functions.proofs.Values as V
use Rattle.filter_functions.proofs.Values.{Says, Stepped, StepFault, step_says, step_known, step_spaces}
use Rattle.joins.specs.Joins.{move_step, passing}

abbrev pub step : Result Listed Refusal → Place → FilterStep
step y p = record { item = y; place = p }

-- one that reads something
abbrev pub read_step : Listed → Place → FilterStep
read_step l p = step (Ok l) p

-- a text and a place that are admitted
pub record Admits (s : List ℕ) (i : ℕ) : Type 0 where
  pub small : length s ≤ 4096
  pub utf8 : utf8_of s ≡ Ok tt
  pub on : on_character s i ≡ true

-- or are refused, by 1 to 3, with the place as it came
pub record Bars (s : List ℕ) (i : ℕ) : Type 0 where
  pub refusal : Refusal
  pub few : reason_number refusal.reason ≤ 3
  pub same : next_filter s i ≡ refused_step refusal (place i)

abbrev Few : Refusal → Type 0
Few r = reason_number r.reason ≤ 3

few : (s : List ℕ) → MatchResult (admit_text s) (λ _. ⊤) Few
unfolding admit_text admit_utf8 reason_number
few s = either (leb (length s) 4096) (λ t. simp t (go (utf8_of s))) (λ t. simp t (let z : 1 ≤ 3 = omega arith in z))
  where
    go : (u : Result (Unit {0}) Place) → MatchResult (admit_utf8 u) (λ _. ⊤) Few
    go (Ok tt) = tt
    go (Err p) = let z : 2 ≤ 3 = omega arith in z

pub judged : (s : List ℕ) (i : ℕ) → Admits s i ⊎ Bars s i
unfolding next_filter admit_place reason_number
judged s i = go (admit_text s) refl (few s) (on_character s i) refl
  where
    go : (x : Result (Unit {0}) Refusal) → admit_text s ≡ x → MatchResult x (λ _. ⊤) Few → (t : Bool) → on_character s i ≡ t → Admits s i ⊎ Bars s i
    go (Ok u) q v true e = inl (record { small = admitted_small s q; utf8 = admitted_utf8 s q; on = e })
    go (Ok u) q v false e = inr (record { refusal = bare_refusal R.BadListPlace; few = omega arith; same = simp (q, e) })
    go (Err r) q v t e = inr (record { refusal = r; few = v; same = simp q })

admit_good : (s : List ℕ) → length s ≤ 4096 → utf8_of s ≡ Ok tt → admit_text s ≡ Ok tt
unfolding admit_text admit_utf8
admit_good s l u = simp (le-leb (length s) 4096 l, u)

-- of an admitted text, as far as the place goes
next_placed : (s : List ℕ) (i : ℕ) → length s ≤ 4096 → utf8_of s ≡ Ok tt
    → next_filter s i ≡ cond (on_character s i) (edged s (parse_step s i)) (refused_step (bare_refusal R.BadListPlace) (place i))
unfolding next_filter admit_place
next_placed s i l u = either (on_character s i) (λ t. simp (admit_good s l u, t)) (λ t. simp (admit_good s l u, t))

pub next_edged : {s : List ℕ} {i : ℕ} → Admits s i → next_filter s i ≡ edged s (parse_step s i)
next_edged {s} {i} h = rw (next_placed s i h.small h.utf8, h.on) refl

-- a place that is on a character is in the text
pub on_inside : {s : List ℕ} {i : ℕ} → Admits s i → i ≤ length s
on_inside {s} {i} h =
    ⊎_elim (λ (l : length s ≤ i). omega (arith, eqb-true i (length s) (sym (on_last s i h.utf8 l) ∙ h.on)))
    (λ (l : i < length s). omega arith)
    (le_or_lt (length s) i)

pub on_start : (s : List ℕ) → on_character s 0 ≡ true
unfolding on_character firsts
on_start [] = refl
on_start (x ∷ xs) = simp (ne_eqb 0 (length (x ∷ xs)) (λ e. omega arith))

-- what the outside step hands out, the inside step read
read_back : (s : List ℕ) (x : Result (Read Listed) Fault) (l : Listed) (p : Place) → edged s x ≡ read_step l p → x ≡ Ok (record { value = l; next = p })
read_back s (Ok r) l p e =
    let f : ◌≡◌ {A = Result Listed Refusal} (Ok r.value) (Ok l) = ap (λ (t : FilterStep). t.item) e in
    let g : r.next ≡ p = ap (λ (t : FilterStep). t.place) e in
    go r.value r.next (cc f) g
  where
    go : (v : Listed) (q : Place) → v ≡ l → q ≡ p → ◌≡◌ {A = Result (Read Listed) Fault} (Ok (record { value = v; next = q })) (Ok (record { value = l; next = p }))
    go v q f g = rw (f, g) refl
read_back s (Err f) l p e =
    let g : ◌≡◌ {A = Result Listed Refusal} (Err (refusal_of s f)) (Ok l) = ap (λ (t : FilterStep). t.item) e in
    let z : ◌≡◌ {A = ℕ} 0 1 = cc in
    absurd (omega arith)

-- a step that hands something out has been admitted, and the inside step says the same
module _ (s : List ℕ) (i : ℕ) (l : Listed) (p : Place) (e : next_filter s i ≡ read_step l p) where
  pub read_admits : Admits s i
  read_admits =
      ⊎_elim (λ (h : Admits s i). h)
      (λ (h : Bars s i).
      let f : ◌≡◌ {A = Result Listed Refusal} (Err h.refusal) (Ok l) = ap (λ (t : FilterStep). t.item) (sym h.same ∙ e) in
      let z : ◌≡◌ {A = ℕ} 0 1 = cc in
      absurd (omega arith))
      (judged s i)

  pub read_parsed : parse_step s i ≡ Ok (record { value = l; next = p })
  read_parsed = read_back s (parse_step s i) l p (sym (next_edged read_admits) ∙ e)

  pub read_says : Says s i l p
  read_says = step_known s i (record { value = l; next = p }) read_parsed

-- a place is on a character where its byte continues none, and the end is such a place
on_tail : {s : List ℕ} {i : ℕ} → Admits s i → is_tail (get_or s i 0) ≡ false
unfolding within
on_tail {s} {i} h =
    ⊎_elim (λ (l : length s ≤ i). rw (get_or-eq_default s 0 l) refl)
    (λ (l : i < length s). go (is_tail (get_or s i 0)) (sym (on_byte s i h.utf8 l) ∙ h.on))
    (le_or_lt (length s) i)
  where
    go : (t : Bool) → not t ≡ true → t ≡ false
    go true e = sym e
    go false e = refl

tail_on : {s : List ℕ} (i : ℕ) → length s ≤ 4096 → utf8_of s ≡ Ok tt → i ≤ length s → is_tail (get_or s i 0) ≡ false → Admits s i
tail_on {s} i l u k e =
    record {
      small = l;
      utf8 = u;
      on = ⊎_elim (λ (m : length s ≤ i). let q : i ≡ length s = omega arith in rw q (on_end s)) (λ (m : i < length s). rw (on_byte s i u m, e) refl) (le_or_lt (length s) i);
    }

-- the places of two admitted texts joined
module _ (a b : List ℕ) (u : utf8_of a ≡ Ok tt) (w : utf8_of b ≡ Ok tt) (l : length (a ++ b) ≤ 4096) where
  utf8_both : utf8_of (a ++ b) ≡ Ok tt
  utf8_both = rw (utf8_join a b u, w) refl

  -- a place of A
  admits_kept : {i : ℕ} → Admits a i → Admits (a ++ b) i
  admits_kept {i} h =
      record {
        small = l;
        utf8 = utf8_both;
        on = ⊎_elim (λ (k : length a ≤ i). let e : i ≡ length a + 0 = omega (arith, on_inside h) in rw e (on_shift a b u 0 ∙ on_start b))
            (λ (k : i < length a). rw (on_byte (a ++ b) i utf8_both (omega (arith, length-append a b)), get_or-append a b 0 i k) (sym (on_byte a i u k) ∙ h.on))
            (le_or_lt (length a) i);
      }

  -- the end of A, where B begins
  admits_seam : Admits (a ++ b) (length a + 0)
  admits_seam = record { small = l; utf8 = utf8_both; on = on_shift a b u 0 ∙ on_start b }

  -- shift: a text put in front moves every answer,
  edge_shift : (i : ℕ) (t : Bool) (x : Result (Read Listed) Fault)
      → cond t (edged (a ++ b) (moved move_step_read (length a) x)) (refused_step (bare_refusal R.BadListPlace) (place (length a + i)))
      ≡ move_step (length a) (characters a) (cond t (edged b x) (refused_step (bare_refusal R.BadListPlace) (place i)))
  unfolding move_step reason_number
  edge_shift i true (Ok r) = listed r.value r.next
    where
      listed : (y : Listed) (p : Place) → read_step (move_listed (length a) y) (move_place (length a) p) ≡ move_step (length a) (characters a) (read_step y p)
      listed (I.Value v) p = refl
      listed I.End p = refl
      listed I.NoneWord p = refl
  edge_shift i true (Err f) = rw (length-append a b, refusal_shift a b f u) refl
  edge_shift i false x = refl

  -- and a place of b that is refused too
  pub next_shift : (i : ℕ) → next_filter (a ++ b) (length a + i) ≡ move_step (length a) (characters a) (next_filter b i)
  next_shift i =
      rw (next_placed (a ++ b) (length a + i) l utf8_both, next_placed b i (omega (arith, length-append a b)) w, on_shift a b u i, step_shift a b i)
      (edge_shift i (on_character b i) (parse_step b i))

module _ (s : List ℕ) (i : ℕ) (v : FilterValue) (p : Place) (e : next_filter s i ≡ value_step v p) where
  stepped : Stepped s i p
  stepped = read_says s i (I.Value v) p e

  pub next_six : i + 6 ≤ p.0
  next_six = stepped.six

  pub next_inside : p.0 ≤ length s
  next_inside = stepped.inside

  -- the list place that comes with a value is admitted again
  pub next_on : Admits s p.0
  next_on =
      let h : Admits s i = read_admits s i (I.Value v) p e in
      let c : Stepped s i p = stepped in
      let t : is_tail (get_or s (c.close + 1) 0) ≡ false = after_ascii s c.close h.utf8 c.short (omega (arith, c.shut)) in
      tail_on p.0 h.small h.utf8 next_inside (rw c.next (scan_on is_space space_ascii s (c.close + 1) h.utf8 t))

next_spaces : {s : List ℕ} {i : ℕ} → Admits s i → next_filter s (scan is_space s i) ≡ next_filter s i
next_spaces {s} {i} h =
    let k : Admits s (scan is_space s i) = tail_on (scan is_space s i) h.small h.utf8 (scan_le is_space s i (on_inside h)) (scan_on is_space space_ascii s i h.utf8 (on_tail h)) in
    rw (next_edged k, next_edged h, step_spaces s i) refl

module _ (a b : List ℕ) (u : utf8_of a ≡ Ok tt) (w : utf8_of b ≡ Ok tt) (l : length (a ++ b) ≤ 4096) (i : ℕ) where
  module _ (v : FilterValue) (p : Place) (e : next_filter a i ≡ value_step v p) where
    -- a value of A, in A followed by B
    pub next_more : next_filter (a ++ b) i ≡ value_step v (place (scan is_space (a ++ b) p.0))
    next_more = rw (next_edged (admits_kept a b u w l (read_admits a i (I.Value v) p e)), step_more a b i v p (read_parsed a i (I.Value v) p e)) refl

    -- its list place is another only where it is the end of A
    pub next_passing : passing (length a) (scan is_space b 0) (value_step v p) ≡ value_step v (place (scan is_space (a ++ b) p.0))
    unfolding passing
    next_passing =
        ⊎_elim
        (λ (k : length a ≤ p.0).
        let q : p.0 ≡ length a + 0 = omega (arith, next_inside a i v p e) in
        rw (eq-eqb p.0 (length a) (omega arith), q, scan_shift is_space a b 0) refl)
        (λ (k : p.0 < length a).
        let c : Stepped a i p = stepped a i v p e in
        let q : scan is_space a p.0 ≡ p.0 = rw c.next (scan_again is_space a (c.close + 1)) in
        rw (ne_eqb p.0 (length a) (λ f. omega arith), scan_kept is_space a b p.0 (omega arith), q) refl)
        (le_or_lt (length a) p.0)

    -- and the list goes on as from the place that A alone gives
    pub next_again : next_filter (a ++ b) (scan is_space (a ++ b) p.0) ≡ next_filter (a ++ b) p.0
    next_again = next_spaces (admits_kept a b u w l (next_on a i v p e))

  -- where nothing is left of A, B is read
  pub next_seam : (p : Place) → next_filter a i ≡ end_step p → next_filter (a ++ b) i ≡ next_filter (a ++ b) (length a + 0)
  next_seam p e =
      let h : Admits a i = read_admits a i I.End p e in
      rw (next_edged (admits_kept a b u w l h), next_edged (admits_seam a b u w l), step_seam a b i (on_inside h) (read_says a i I.End p e).spaces) refl

-- the end that a step answers is that of its text
pub next_end : (s : List ℕ) (i : ℕ) (p : Place) → next_filter s i ≡ end_step p → p ≡ place (length s)
next_end s i p e = (read_says s i I.End p e).end

-- a refusal of an admitted step is a fault's
record Fails (s : List ℕ) (r : Refusal) (p : Place) : Type 0 where
  fault : Fault
  other : Other fault
  same : r ≡ refusal_of s fault
  end : p ≡ place (length s)

fails : {s : List ℕ} {i : ℕ} → Admits s i → (r : Refusal) (p : Place) → next_filter s i ≡ refused_step r p → Fails s r p
fails {s} {i} h r p e = go (parse_step s i) (step_says s i) (sym (next_edged h) ∙ e)
  where
    go : (x : Result (Read Listed) Fault) → V.Steps s i x → edged s x ≡ refused_step r p → Fails s r p
    go (Ok x) o f =
        let g : ◌≡◌ {A = Result Listed Refusal} (Ok x.value) (Err r) = ap (λ (t : FilterStep). t.item) f in
        let z : ◌≡◌ {A = ℕ} 0 1 = cc in
        absurd (omega arith)
    go (Err x) o f =
        let g : ◌≡◌ {A = Result Listed Refusal} (Err (refusal_of s x)) (Err r) = ap (λ (t : FilterStep). t.item) f in
        let k : refusal_of s x ≡ r = cc g in
        record { fault = x; other = o.other; same = sym k; end = sym (ap (λ (t : FilterStep). t.place) f) }

-- of a text and a place that are admitted, a refusal is of what is read: by 4 or more, and not by 8
pub next_number : {s : List ℕ} {i : ℕ} → Admits s i → (r : Refusal) (p : Place) → next_filter s i ≡ refused_step r p → (4 ≤ reason_number r.reason) × (reason_number r.reason ≡ 8 → ⊥)
unfolding refusal_of reason_number
next_number {s} {i} h r p e =
    let w : Fails s r p = fails h r p e in
    rw w.same (go (number_of w.fault.trouble) w.other)
  where
    go : (n : ℕ) → judges n ≡ false → (4 ≤ n) × (n ≡ 8 → ⊥)
    go n h =
        either (leb n 3) (λ t. let y : true ≡ false = rw t at h in let z : ◌≡◌ {A = ℕ} 0 1 = cc in absurd (omega arith))
        (λ t. either (eqb n 8) (λ u. let y : true ≡ false = rw (t, u) at h in let z : ◌≡◌ {A = ℕ} 0 1 = cc in absurd (omega arith))
        (λ u. (leb-false n 3 t, eqb-false n 8 u)))

-- the end of a text that may be read is a list's end
at_the_end : {s : List ℕ} {i : ℕ} → Admits s i → next_filter s (length s) ≡ end_step (place (length s))
unfolding parse_step
at_the_end {s} h =
    let k : Admits s (length s) = record { small = h.small; utf8 = h.utf8; on = on_end s } in
    let m : scan is_space s (length s) ≡ length s = sym (scan_end (scan_start is_space s (length s)) (omega arith)) in
    rw (next_edged k, m, le-leb (length s) (length s) (omega arith)) refl

-- after an end, by `none` or not, the list is at its end
pub next_ends : (s : List ℕ) (i : ℕ) (p : Place) → (next_filter s i ≡ end_step p) ⊎ (next_filter s i ≡ none_step p) → next_filter s p.0 ≡ end_step p
next_ends s i p e =
    ⊎_elim
    (λ (f : next_filter s i ≡ end_step p). go (read_admits s i I.End p f) (read_says s i I.End p f).end)
    (λ (f : next_filter s i ≡ none_step p). go (read_admits s i I.NoneWord p f) (read_says s i I.NoneWord p f))
    e
  where
    go : Admits s i → p ≡ place (length s) → next_filter s p.0 ≡ end_step p
    go h q = rw q (at_the_end h)

-- and after a refusal of a value
pub next_ended : (s : List ℕ) (i : ℕ) (r : Refusal) (p : Place) → next_filter s i ≡ refused_step r p → 4 ≤ reason_number r.reason → next_filter s p.0 ≡ end_step p
next_ended s i r p e l =
    ⊎_elim (λ (h : Admits s i). let w : Fails s r p = fails h r p e in rw w.end (at_the_end h))
    (λ (h : Bars s i).
    let g : ◌≡◌ {A = Result Listed Refusal} (Err h.refusal) (Err r) = ap (λ (t : FilterStep). t.item) (sym h.same ∙ e) in
    let k : h.refusal ≡ r = cc g in
    absurd (omega (arith, ap (λ (x : Refusal). reason_number x.reason) k, h.few)))
    (judged s i)
