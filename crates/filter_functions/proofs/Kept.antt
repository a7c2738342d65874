-- An accepted value stays when a text is appended. A shadow's first colour may pass a bracket, so that there the bracket ahead is known only from where the whole ends.
use Prim.Native.Nat.{ℕ, ◌+◌, ◌≤◌}
use mathlib.Core.List.{List, ◌++◌}
use mathlib.Core.Path.{◌≡◌, refl, sym, ap, ◌∙◌}
use native.Mathlib.Omega.{arith}
use borrow.Author.Tests.{eqb-true}
use lib.Dec.{leb, ltb}
use lib.ListN.{length, drop}
use Rattle.std.specs.Prelude.{Result, Ok, Err, Option, Some, None}
use Rattle.text_bytes.specs.Bytes.{is_space, is_ascii_ident}
use Rattle.text_bytes.specs.Flow.{◌>>=◌}
use Rattle.text_bytes.specs.Moves.{place}
use Rattle.text_bytes.specs.Scan.{scan}
use Rattle.text_bytes.specs.Words.{ascii, starts_with, is_curr_byte_eq, part}
use Rattle.text_bytes.specs.declared.Place.{Place}
use Rattle.text_bytes.proofs.Ahead.{Ahead, ahead_back, ahead_scan, scan_more, starts_more, end_more, part_more, word_stop, scan_through, scan_seam}
use Rattle.text_bytes.proofs.Ranges.{either}
use Rattle.text_bytes.proofs.Scans.{scan_ge}
use Rattle.stream.specs.Faults.{consume_byte}
use Rattle.stream.specs.declared.Fault.{Fault}
use Rattle.stream.specs.declared.Read.{Read}
use Rattle.stream.proofs.Binds.{at_ok}
use Rattle.stream.proofs.Sames.{curr_more, consume_more}
use Rattle.stream.proofs.Stretches.{Took, LiesFrom, byte_taken}
use Rattle.color.specs.declared.Color.{Color}
use Rattle.filter_functions.specs.Shadow.{ColorRead, try_parse_color, shadow_after, shadow_on, parse_drop_shadow_func}
use Rattle.filter_functions.specs.Filters.{filter_name, argument_of, parse_argument, close_bracket, parse_next, after_none, parse_step}
use Rattle.filter_functions.specs.declared.FilterName.{FilterName}
use Rattle.filter_functions.specs.declared.FilterName.TheVariants as N
use Rattle.filter_functions.specs.declared.FilterValue.{FilterValue}
use Rattle.filter_functions.specs.declared.Listed.{Listed}
use Rattle.filter_functions.specs.declared.Listed.TheVariants as I
use Rattle.filter_functions.proofs.Values.{after_least, argument_least}
use Rattle.filter_functions.proofs.Sames.{blur_more, hue_rotate_more, generic_more, url_more, tried_more, after_more, before_more}

-- y, read in a and more, is x, read in a, if x is a value with a bracket ahead of its end
record Kept (a : List ℕ) (x y : Result (Read FilterValue) Fault) : Type 0 where
  same : (r : Read FilterValue) → x ≡ Ok r → Ahead a r.next.0 → y ≡ Ok r

module _ {a : List ℕ} where
  kept_same : {x y : Result (Read FilterValue) Fault} → y ≡ x → Kept a x y
  kept_same e = record { same = λ r f h. e ∙ f }

  kept_refused : {e : Fault} {y : Result (Read FilterValue) Fault} → Kept a (Err e) y
  kept_refused = record { same = λ r f h. let z : ◌≡◌ {A = ℕ} 0 1 = cc in absurd (omega arith) }

  -- a bracket may be taken to be ahead of any place that x ends after
  kept_from : {x y : Result (Read FilterValue) Fault} (n : ℕ) → ((r : Read FilterValue) → x ≡ Ok r → n ≤ r.next.0) → (Ahead a n → Kept a x y) → Kept a x y
  kept_from n l f = record { same = λ r e h. (f (ahead_back h (l r e))).same r e h }

-- a block that came to a value: its first step did, and the rest
record Came {A B : Type 0} (r : Result A Fault) (f : A → Result B Fault) (b : B) : Type 0 where
  value : A
  taken : r ≡ Ok value
  rest : f value ≡ Ok b

came : {A B : Type 0} (r : Result A Fault) (f : A → Result B Fault) (b : B) → (r >>= f) ≡ Ok b → Came r f b
came (Ok x) f b e = record { value = x; taken = refl; rest = e }
came (Err x) f b e = let z : ◌≡◌ {A = ℕ} 0 1 = cc in absurd (omega arith)

module _ (a b : List ℕ) where
  spaced_kept : (name : ℕ) (c : Option Color) (p : Place) → Kept a (shadow_after a name (scan is_space a p.0) c) (shadow_after (a ++ b) name (scan is_space (a ++ b) p.0) c)
  spaced_kept name c p =
      let i = scan is_space a p.0 in
      kept_from p.0 (λ r e. omega (arith, scan_ge is_space a p.0, after_least a name i r c e))
      (λ h. kept_same (rw (scan_more is_space a b p.0 h refl) (after_more a b name i c (ahead_scan is_space p.0 h refl))))

  shadow_kept : (name at : ℕ) → Ahead a at → Kept a (parse_drop_shadow_func a name at) (parse_drop_shadow_func (a ++ b) name at)
  unfolding parse_drop_shadow_func
  shadow_kept name at h =
      either (is_curr_byte_eq a at 41) (λ e. simp (curr_more a b at 41 h, e) kept_refused)
      (λ e. simp (curr_more a b at 41 h, tried_more a b at h, e) (go (try_parse_color a at)))
    where
      go : (x : Result ColorRead Fault) → Kept a (x >>= shadow_on a name at) (x >>= shadow_on (a ++ b) name at)
      go (Ok (Some c)) = spaced_kept name c.value c.next
      go (Ok None) = kept_same (before_more a b name at h)
      go (Err e) = kept_refused

  -- an unknown name's fault tells the length of the text, and is not kept
  argument_kept : (name end at : ℕ) → name ≤ end → Ahead a end → Kept a (parse_argument a name end at) (parse_argument (a ++ b) name end at)
  unfolding parse_argument
  argument_kept name end at l k = kept_from at (λ r e. argument_least a name at r end e) (λ h. inner h)
    where
      go : Ahead a at → (f : Option FilterName) → Kept a (argument_of f a name at) (argument_of f (a ++ b) name at)
      go h (Some N.Blur) = kept_same (blur_more a b name at h)
      go h (Some N.DropShadow) = shadow_kept name at h
      go h (Some N.HueRotate) = kept_same (hue_rotate_more a b name at h)
      go h (Some (N.Plain f)) = kept_same (generic_more a b name at f h)
      go h (Some N.Url) = kept_same (url_more a b name at h)
      go h None = kept_refused

      inner : Ahead a at → Kept a (parse_argument a name end at) (parse_argument (a ++ b) name end at)
      inner h = rw (part_more a b name end l k) (go h (filter_name (part a name end)))

-- an accepted value ends with a bracket, so that all before it is read alike
record Stays (a b : List ℕ) (start : ℕ) (r : Read FilterValue) : Type 0 where
  ahead : Ahead a start
  inside : r.next.0 ≤ length a
  same : parse_next (a ++ b) start ≡ Ok r

value_stays : (a b : List ℕ) (start : ℕ) (r : Read FilterValue) → parse_next a start ≡ Ok r → Stays a b start r
unfolding parse_next close_bracket
value_stays a b start r e =
    let end = scan is_ascii_ident a start in
    let left = scan is_space a end in
    let l = came (consume_byte a left 40) _ r e in
    let at = scan is_space a l.value.0 in
    let m = came (parse_argument a start end at) _ r l.rest in
    let right = scan is_space a m.value.next.0 in
    let q = came (consume_byte a right 41) _ r m.rest in
    let f = at_ok (Took a left 40) (LiesFrom a left) (consume_byte a left 40) l.value (byte_taken a left 40) l.taken in
    let g = at_ok (Took a right 41) (LiesFrom a right) (consume_byte a right 41) q.value (byte_taken a right 41) q.taken in
    let h : Ahead a right = record { place = right; far = omega arith; byte = eqb-true _ _ g.byte } in
    let e1 : start ≤ end = scan_ge is_ascii_ident a start in
    let e2 : end ≤ left = scan_ge is_space a end in
    let e3 : l.value.0 ≤ at = scan_ge is_space a l.value.0 in
    let e4 : at ≤ m.value.next.0 = argument_least a start at m.value end m.taken in
    let e5 : m.value.next.0 ≤ right = scan_ge is_space a m.value.next.0 in
    let h1 : Ahead a start = ahead_back h (omega (arith, f.next)) in
    let h2 : Ahead a end = ahead_back h (omega (arith, f.next)) in
    let h3 : Ahead a left = ahead_back h (omega (arith, f.next)) in
    let h4 : Ahead a l.value.0 = ahead_back h (omega arith) in
    let h5 : Ahead a m.value.next.0 = ahead_back h e5 in
    let s : parse_argument (a ++ b) start end at ≡ Ok m.value = (argument_kept a b start end at e1 h2).same m.value m.taken h5 in
    let o : consume_byte (a ++ b) left 40 ≡ Ok l.value = consume_more a b left 40 h3 ∙ l.taken in
    let c : consume_byte (a ++ b) right 41 ≡ Ok q.value = consume_more a b right 41 h ∙ q.taken in
    let t : q.value ≡ r.next = cc q.rest in
    record {
      ahead = h1;
      inside = rw (← t) (omega (arith, g.next, g.inside));
      same = simp (scan_more, word_stop, o, s, c) q.rest;
    }

abbrev pub value_at : FilterValue → Place → Result (Read Listed) Fault
value_at v p = Ok (record { value = I.Value v; next = p })

pub value_is : (v w : FilterValue) (p q : Place) → value_at v p ≡ value_at w q → (v ≡ w) × (p ≡ q)
value_is v w p q e =
    let f : ◌≡◌ {A = Read Listed} (record { value = I.Value v; next = p }) (record { value = I.Value w; next = q }) = cc in
    let g : I.Value v ≡ I.Value w = ap (λ (r : Read Listed). r.value) f in
    (cc, ap (λ (r : Read Listed). r.next) f)

abbrev hands : Listed → Type 0
hands (I.Value v) = Unit {0}
hands I.End = ⊥
hands I.NoneWord = ⊥

-- it stays, but for the spaces that are passed after it
pub step_more : (a b : List ℕ) (i : ℕ) (v : FilterValue) (p : Place) → parse_step a i ≡ value_at v p → parse_step (a ++ b) i ≡ value_at v (place (scan is_space (a ++ b) p.0))
unfolding parse_step after_none
step_more a b i v p e =
    let start = scan is_space a i in
    either (leb (length a) start) (λ l. absurd (handed _ (simp l at e)))
    (λ l. either (starts_with (ascii "none") (drop start a))
    (λ n. either (ltb (scan is_space a (start + 4)) (length a))
    (λ m. let z : ◌≡◌ {A = ℕ} 0 1 = cc (simp (l, n, m) at e) in absurd (omega arith))
    (λ m. absurd (handed _ (simp (l, n, m) at e))))
    (λ n.
    let m = came (parse_next a start) _ (record { value = I.Value v; next = p }) (simp (l, n) at e) in
    let w = value_stays a b start m.value m.taken in
    let k : Ahead a start = w.ahead in
    let h : Ahead a i = ahead_back k (scan_ge is_space a i) in
    let y = value_is m.value.value v (place (scan is_space a m.value.next.0)) p m.rest in
    let t : scan is_space a m.value.next.0 ≡ p.0 = ap (λ (x : Place). x.0) y.1 in
    let u : scan is_space (a ++ b) m.value.next.0 ≡ scan is_space (a ++ b) p.0 = sym (scan_through is_space a b m.value.next.0 w.inside) ∙ ap (λ (x : ℕ). scan is_space (a ++ b) x) t in
    simp (scan_more, end_more, starts_more, l, n, w.same, u, y.0)))
  where
    Hands : Result (Read Listed) Fault → Type 0
    Hands (Ok r) = hands r.value
    Hands (Err f) = ⊥

    handed : (x : Result (Read Listed) Fault) → x ≡ value_at v p → Hands x
    handed x f = rw f tt

-- where only spaces are left, the step is that of what is appended
pub step_seam : (a b : List ℕ) (i : ℕ) → i ≤ length a → length a ≤ scan is_space a i → parse_step (a ++ b) i ≡ parse_step (a ++ b) (length a + 0)
unfolding parse_step
step_seam a b i h l = rw (scan_seam is_space a b i h l) refl
