-- pass, least, and where a fault lies: where the reading of a step's parts goes on, and what is known of a step.
use Prim.Native.Nat.{ℕ, ◌+◌, ◌-◌, ◌≤◌, ◌<◌}
use mathlib.Core.Bool.{true, false, cond, ◌||◌}
use mathlib.Core.List.{List}
use mathlib.Core.Path.{◌≡◌, refl, sym, ap}
use native.Mathlib.Omega.{arith}
use borrow.Author.Tests.{leb-true, leb-false, eqb-true}
use lib.Dec.{T, leb, ltb, leb→le}
use lib.Ieee.{eq}
use lib.ListN.{length, get_or, drop, length-take}
use Rattle.std.specs.Prelude.{Result, Ok, Err, Option, Some, None, MatchResult, MatchOption, ⊤}
use Rattle.text_bytes.specs.Bytes.{is_space, is_ascii_ident, is_url_byte}
use Rattle.text_bytes.specs.Flow.{◌>>=◌}
use Rattle.text_bytes.specs.Moves.{place}
use Rattle.text_bytes.specs.Scan.{scan}
use Rattle.text_bytes.specs.Words.{ascii, same, starts_with, part, is_curr_byte_eq}
use Rattle.text_bytes.specs.declared.Place.{Place}
use Rattle.text_bytes.proofs.Ahead.{scan_again, word_stop}
use Rattle.text_bytes.proofs.Ranges.{either}
use Rattle.text_bytes.proofs.Scans.{scan_ge, scan_le}
use Rattle.text_bytes.proofs.Wording.{same_eq, word_inside}
use Rattle.stream.specs.Faults.{trouble_at, invalid_value, consume_byte}
use Rattle.stream.specs.Refusals.{Inside, number_of, is_outside_domain, admit_place}
use Rattle.stream.specs.declared.Fault.{Fault}
use Rattle.stream.specs.declared.Read.{Read}
use Rattle.stream.specs.declared.Refusal.{Refusal}
use Rattle.stream.specs.declared.Trouble.{Trouble}
use Rattle.stream.specs.declared.Trouble.TheVariants as R
use Rattle.stream.proofs.Binds.{bind_holds, at_ok, at_err, weaker}
use Rattle.stream.proofs.Edges.{Placed, place_holds, refusal_inside}
use Rattle.stream.proofs.Goes.{Goes, goes_trans, goes_here, goes_scan, Past}
use Rattle.stream.proofs.Stretches.{Lies, LiesFrom, Took, byte_taken, trouble_lies, data_lies, value_lies}
use Rattle.floats.specs.Floats.{d0, sign_of}
use Rattle.numbers.specs.Moves.{Number}
use Rattle.numbers.specs.Number.{parse_number, parse_number_or_percent}
use Rattle.numbers.specs.declared.Written.{Written}
use Rattle.numbers.proofs.Values.{Taken, number_taken, percent_taken}
use Rattle.length.specs.Lengths.{parse_length}
use Rattle.length.specs.declared.Length.{Length}
use Rattle.length.proofs.Values.{LengthTaken, length_taken}
use Rattle.angle.specs.Angles.{parse_unit}
use Rattle.angle.specs.declared.AngleUnit.{AngleUnit}
use Rattle.angle.proofs.Values.{UnitTaken, unit_taken}
use Rattle.color.specs.Color.{parse_color}
use Rattle.color.specs.declared.Color.{Color}
use Rattle.color.proofs.Values.{Ended, color_taken}
use Rattle.filter_functions.specs.Values.{is_percent, parse_filter_length, parse_filter_positive_length, marked, parse_filter_angle, parse_blur, parse_hue_rotate, parse_generic_color_func, parse_url}
use Rattle.filter_functions.specs.Shadow.{ColorRead, color_or, try_parse_color, deviation_or, parse_deviation, parse_shadow_lengths, shadow_after, or_none, shadow_before, shadow_on, parse_drop_shadow_func}
use Rattle.stream.specs.Steps.{placed, edged}
use Rattle.filter_functions.specs.Filters.{plain_name, plain_or, filter_name, argument_of, parse_argument, close_bracket, parse_next, after_none, parse_step, next_filter}
use Rattle.filter_functions.specs.declared.FilterName.{FilterName}
use Rattle.filter_functions.specs.declared.FilterName.TheVariants as N
use Rattle.filter_functions.specs.declared.FilterValue.{FilterValue}
use Rattle.filter_functions.specs.declared.Listed.{Listed}
use Rattle.filter_functions.specs.declared.Listed.TheVariants as I
use Rattle.filter_functions.specs.declared.Plain.{Plain}
use Rattle.filter_functions.specs.declared.Plain.TheVariants as P
use Rattle.filter_functions.proofs.Others.{judges, Other, Others, outside_other, consume_other, number_other, percent_other, length_other}

-- from i a reader went n bytes or more, to j, and stayed inside. A shadow's first colour may pass a bracket, so that this is all that holds of every filter
pub record Far (s : List ℕ) (n i j : ℕ) : Type 0 where
  pub far : i + n ≤ j
  pub inside : i ≤ length s → j ≤ length s

pub far_goes : {s : List ℕ} {i j : ℕ} → Goes s i j → Far s 0 i j
far_goes g = record { far = omega (arith, g.passes.grows); inside = g.inside }

pub far_trans : {s : List ℕ} {n i j k : ℕ} → Far s 0 i j → Far s n j k → Far s n i k
far_trans v w = record { far = omega (arith, v.far, w.far); inside = λ h. w.inside (v.inside h) }

far_scan : {s : List ℕ} {n i : ℕ} {p : Place} → Far s n i p.0 → Far s n i (scan is_space s p.0)
far_scan {s} {n} {i} {p} v = record { far = omega (arith, v.far, scan_ge is_space s p.0); inside = λ h. scan_le is_space s p.0 (v.inside h) }

past_goes : {s : List ℕ} {i : ℕ} {p : Place} → Past s i p → Goes s i p.0
past_goes t = record { passes = t.passes; inside = λ h. t.inside }

goes_spaces : {s : List ℕ} {i : ℕ} {p : Place} → Goes s i p.0 → Goes s i (scan is_space s p.0)
goes_spaces {s} {i} {p} g = goes_trans g (goes_scan s p.0 is_space refl)

-- a fault of reading at i in the brackets of the filter at `name`
pub record FilterFault (s : List ℕ) (name i : ℕ) (e : Fault) : Type 0 where
  pub lies : name ≤ i → i ≤ length s → Lies (length s) e
  pub other : Other e

-- the same, where reading went on from i
fault_on : {s : List ℕ} {name i j : ℕ} {e : Fault} → Far s 0 i j → FilterFault s name j e → FilterFault s name i e
fault_on g w = record { lies = λ n l. w.lies (omega (arith, g.far)) (g.inside l); other = w.other }

-- how many bytes the brackets hold at the least: a link two. What an unknown name's hold is never read, so that any number is right
abbrev holds : Option FilterName → ℕ
holds (Some N.Blur) = 0
holds (Some N.DropShadow) = 0
holds (Some N.HueRotate) = 0
holds (Some (N.Plain f)) = 0
holds (Some N.Url) = 2
holds None = 4

module _ (s : List ℕ) (name : ℕ) where
  -- a fault of a reader that knows no name
  lower : {A : Type 0} (P : A → Type 0) (i : ℕ) (r : Result A Fault) → MatchResult r P (LiesFrom s i) → Others r → MatchResult r P (FilterFault s name i)
  lower P i (Ok x) v o = v
  lower P i (Err e) v o = record { lies = λ n l. (v l).lies; other = o }

  -- what is refused from the name on
  named_lies : (t : Trouble) (at p : ℕ) {i : ℕ} → leb (number_of t) 5 ≡ false → judges (number_of t) ≡ false → Far s 0 i p → FilterFault s name i (trouble_at t at name p)
  named_lies t at p q o g = record { lies = λ n l. trouble_lies t at name p q (omega (arith, g.far)) (g.inside l); other = o }

  -- a step from j, to which reading has gone from i
  step : {A B : Type 0} (P : A → Type 0) (Q : B → Type 0) (i : ℕ) {j : ℕ} (r : Result A Fault) (f : A → Result B Fault) → Far s 0 i j
      → MatchResult r P (FilterFault s name j) → ((x : A) → P x → MatchResult (f x) Q (FilterFault s name i)) → MatchResult (r >>= f) Q (FilterFault s name i)
  step P Q i {j} r f g v k =
      bind_holds P Q (FilterFault s name i) r f (weaker P P (FilterFault s name j) (FilterFault s name i) r v (λ x p. p) (λ e w. fault_on g w)) k

  module _ (i : ℕ) where
    here : Far s 0 i i
    here = record { far = omega arith; inside = λ h. h }

    abbrev pub Went : {A : Type 0} → Result (Read A) Fault → Type 0
    Went x = MatchResult x (λ r. Goes s i r.next.0) (FilterFault s name i)

    abbrev pub Reached : ℕ → Result (Read FilterValue) Fault → Type 0
    Reached n x = MatchResult x (λ r. Far s n i r.next.0) (FilterFault s name i)

    pub filter_length_went : Went (parse_filter_length s name i)
    unfolding parse_filter_length number_of
    filter_length_went =
        step (LengthTaken s i) (λ r. Goes s i r.next.0) i (parse_length s i) _ here (lower (LengthTaken s i) i (parse_length s i) (length_taken s i) (length_other s i))
        (λ r t. let g = past_goes t.past in
        either (is_percent r.value.value.unit) (λ e. simp e (named_lies R.PercentageValue i r.next.0 refl refl (far_goes g))) (λ e. simp e g))

    positive_went : Went (parse_filter_positive_length s name i)
    unfolding parse_filter_positive_length number_of
    positive_went =
        step (LengthTaken s i) (λ r. Goes s i r.next.0) i (parse_length s i) _ here (lower (LengthTaken s i) i (parse_length s i) (length_taken s i) (length_other s i))
        (λ r t. let g = past_goes t.past in
        either (sign_of r.value.value.number) (λ e. simp e (named_lies R.NegativeValue i r.next.0 refl refl (far_goes g)))
        (λ e. either (is_percent r.value.value.unit) (λ f. simp (e, f) (named_lies R.PercentageValue i r.next.0 refl refl (far_goes g))) (λ f. simp (e, f) g)))

    filter_angle_went : Went (parse_filter_angle s name i)
    unfolding parse_filter_angle number_of
    filter_angle_went =
        let start = scan is_space s i in
        let k : Goes s i start = goes_scan s i is_space refl in
        step (Taken s start) (λ r. Goes s i r.next.0) i (parse_number s start) _ (far_goes k) (lower (Taken s start) start (parse_number s start) (number_taken s start) (number_other s start))
        (λ r t. let g = goes_trans k (past_goes t.past) in go start r g (parse_unit s r.next.0) (unit_taken s r.next.0))
      where
        go : (start : ℕ) (r : Read Number) → Goes s i r.next.0 → (u : Option (Read AngleUnit)) → MatchOption u ⊤ (UnitTaken s r.next.0) → Went (marked start name r u)
        go start r g None v = either (eq r.value.value d0) (λ e. simp e g) (λ e. simp e (named_lies R.InvalidAngle start r.next.0 refl refl (far_goes g)))
        go start r g (Some u) v = goes_trans g (past_goes v.past)

    pub tried_holds : MatchResult (try_parse_color s i) (λ o. MatchOption o ⊤ (λ c. Far s 0 i c.next.0)) (FilterFault s name i)
    unfolding try_parse_color
    tried_holds = go (parse_color s i) (color_taken s i)
      where
        go : (x : Result (Read Color) Fault) → MatchResult x (λ r. Ended s i r.next) (LiesFrom s i) → MatchResult (color_or s i x) (λ o. MatchOption o ⊤ (λ c. Far s 0 i c.next.0)) (FilterFault s name i)
        go (Ok c) v = record { far = omega (arith, v.least); inside = λ h. v.inside }
        go (Err e) v =
            either (is_outside_domain e) (λ t. let w : FilterFault s name i e = record { lies = λ n l. (v l).lies; other = outside_other e t } in simp t w)
            (λ t. either (starts_with (ascii "currentColor") (drop i s))
            (λ u. let w : Far s 0 i (i + 12) = record { far = omega arith; inside = λ h. word_inside 99 _ s i true refl (sym u) } in simp (t, u) w)
            (λ u. simp (t, u) tt))

    pub deviation_went : Went (parse_deviation s i)
    unfolding parse_deviation
    deviation_went = go (parse_length s i) (lower (LengthTaken s i) i (parse_length s i) (length_taken s i) (length_other s i))
      where
        go : (x : Result (Read (Written Length)) Fault) → MatchResult x (LengthTaken s i) (FilterFault s name i) → Went (deviation_or s i x)
        go (Ok r) t =
            let g = past_goes t.past in
            either (sign_of r.value.value.number || is_percent r.value.value.unit) (λ e. simp e g) (λ e. simp e (goes_spaces g))
        go (Err e) v = either (is_outside_domain e) (λ t. simp t v) (λ t. simp t (goes_here s i))

module _ (s : List ℕ) (name i : ℕ) where
  pub lengths_went : Went s name i (parse_shadow_lengths s name i)
  unfolding parse_shadow_lengths
  lengths_went =
      step s name (λ r. Goes s i r.next.0) (λ r. Goes s i r.next.0) i (parse_filter_length s name i) _ (here s name i) (filter_length_went s name i) (λ dx t.
      let second = scan is_space s dx.next.0 in
      let g : Goes s i second = goes_spaces t in
      step s name (λ r. Goes s second r.next.0) (λ r. Goes s i r.next.0) i (parse_filter_length s name second) _ (far_goes g) (filter_length_went s name second) (λ dy u.
      let third = scan is_space s dy.next.0 in
      let h : Goes s i third = goes_trans g (goes_spaces u) in
      step s name (λ r. Goes s third r.next.0) (λ r. Goes s i r.next.0) i (parse_deviation s third) _ (far_goes h) (deviation_went s name third) (λ d v. goes_trans h v)))

  blur_reached : Reached s name i 0 (parse_blur s name i)
  unfolding parse_blur
  blur_reached =
      either (is_curr_byte_eq s i 41) (λ e. simp e (here s name i))
      (λ e. simp e
      (step s name (λ r. Goes s i r.next.0) (λ r. Far s 0 i r.next.0) i (parse_filter_positive_length s name i) _ (here s name i) (positive_went s name i) (λ r g. far_goes g)))

  hue_reached : Reached s name i 0 (parse_hue_rotate s name i)
  unfolding parse_hue_rotate
  hue_reached =
      either (is_curr_byte_eq s i 41) (λ e. simp e (here s name i))
      (λ e. simp e
      (step s name (λ r. Goes s i r.next.0) (λ r. Far s 0 i r.next.0) i (parse_filter_angle s name i) _ (here s name i) (filter_angle_went s name i) (λ r g. far_goes g)))

  plain_reached : (f : Plain) → Reached s name i 0 (parse_generic_color_func s name i f)
  unfolding parse_generic_color_func number_of
  plain_reached f =
      either (is_curr_byte_eq s i 41) (λ e. simp e (here s name i))
      (λ e. simp e
      (step s name (Taken s i) (λ r. Far s 0 i r.next.0) i (parse_number_or_percent s i) _ (here s name i) (lower s name (Taken s i) i (parse_number_or_percent s i) (percent_taken s i) (percent_other s i))
      (λ r t. let g = far_goes (past_goes t.past) in
      either (sign_of r.value.value) (λ u. simp u (named_lies s name R.NegativeValue i r.next.0 refl refl g)) (λ u. simp u g))))

  -- `#` and a byte at the least
  url_reached : Reached s name i 2 (parse_url s name i)
  unfolding parse_url number_of
  url_reached =
      step s name (Took s i 35) (λ r. Far s 2 i r.next.0) i (consume_byte s i 35) _ (here s name i) (lower s name (Took s i 35) i (consume_byte s i 35) (byte_taken s i 35) (consume_other s i 35))
      (λ p t.
      let end = scan is_url_byte s p.0 in
      let g : Far s 0 i p.0 = record { far = omega (arith, t.next); inside = λ h. omega (arith, t.next, t.inside) } in
      either (leb end p.0) (λ e. simp e (named_lies s name R.InvalidUrl name p.0 refl refl g))
      (λ e.
      let w : Far s 2 i end = record { far = omega (arith, t.next, leb-false end p.0 e); inside = λ h. scan_le is_url_byte s p.0 (g.inside h) } in
      simp e w))

  after_reached : (c : Option Color) → Reached s name i 0 (shadow_after s name i c)
  unfolding shadow_after
  after_reached c =
      step s name (λ r. Goes s i r.next.0) (λ r. Far s 0 i r.next.0) i (parse_shadow_lengths s name i) _ (here s name i) lengths_went (λ r g. far_goes g)

  before_reached : Reached s name i 0 (shadow_before s name i)
  unfolding shadow_before
  before_reached =
      step s name (λ r. Goes s i r.next.0) (λ r. Far s 0 i r.next.0) i (parse_shadow_lengths s name i) _ (here s name i) lengths_went (λ r g.
      step s name (λ o. MatchOption o ⊤ (λ c. Far s 0 r.next.0 c.next.0)) (λ r. Far s 0 i r.next.0) i (try_parse_color s r.next.0) _ (far_goes g) (tried_holds s name r.next.0) (go r.next (far_goes g)))
    where
      go : (p : Place) → Far s 0 i p.0 → (c : ColorRead) → MatchOption c ⊤ (λ d. Far s 0 p.0 d.next.0) → Far s 0 i (or_none p c).next.0
      go p g None v = g
      go p g (Some c) v = far_trans g v

module _ (s : List ℕ) (name i : ℕ) where
  shadow_reached : Reached s name i 0 (parse_drop_shadow_func s name i)
  unfolding parse_drop_shadow_func number_of
  shadow_reached =
      either (is_curr_byte_eq s i 41) (λ e. simp e (named_lies s name R.MissingDropShadowOffset i i refl refl (here s name i)))
      (λ e. simp e
      (step s name (λ o. MatchOption o ⊤ (λ c. Far s 0 i c.next.0)) (λ r. Far s 0 i r.next.0) i (try_parse_color s i) _ (here s name i) (tried_holds s name i) go))
    where
      go : (c : ColorRead) → MatchOption c ⊤ (λ d. Far s 0 i d.next.0) → Reached s name i 0 (shadow_on s name i c)
      go None v = before_reached s name i
      go (Some c) v =
          let at = scan is_space s c.next.0 in
          let g : Far s 0 i at = far_scan v in
          weaker (λ r. Far s 0 at r.next.0) (λ r. Far s 0 i r.next.0) (FilterFault s name at) (FilterFault s name i) (shadow_after s name at c.value) (after_reached s name at c.value)
          (λ r w. far_trans g w) (λ e w. fault_on g w)

  argument_of_reached : (f : Option FilterName) → Reached s name i (holds f) (argument_of f s name i)
  unfolding number_of
  argument_of_reached (Some N.Blur) = blur_reached s name i
  argument_of_reached (Some N.DropShadow) = shadow_reached
  argument_of_reached (Some N.HueRotate) = hue_reached s name i
  argument_of_reached (Some (N.Plain f)) = plain_reached s name i f
  argument_of_reached (Some N.Url) = url_reached s name i
  argument_of_reached None = record { lies = λ n l. (data_lies s name (omega arith)).lies; other = refl }

  argument_reached : (end : ℕ) → Reached s name i (holds (filter_name (part s name end))) (parse_argument s name end i)
  unfolding parse_argument
  argument_reached end = argument_of_reached (filter_name (part s name end))

module _ (w : List ℕ) where
  -- a word that is tried, else y
  name_try : (word : List ℕ) (f : FilterName) (y : Option FilterName) → T (leb 4 (length word + holds (Some f))) → 4 ≤ length w + holds y → 4 ≤ length w + holds (cond (same w word) (Some f) y)
  name_try word f y t h =
      either (same w word)
      (λ e. let k : length w ≡ length word = ap length (same_eq w word e) in simp e (omega (arith, leb→le 4 (length word + holds (Some f)) t)))
      (λ e. simp e h)

  plain_try : (word : List ℕ) (f : Plain) (y : Option Plain) → T (leb 4 (length word)) → 4 ≤ length w + holds (plain_or y) → 4 ≤ length w + holds (plain_or (cond (same w word) (Some f) y))
  plain_try word f y t h =
      either (same w word)
      (λ e. let k : length w ≡ length word = ap length (same_eq w word e) in simp e (omega (arith, leb→le 4 (length word) t)))
      (λ e. simp e h)

  plain_holds : 4 ≤ length w + holds (plain_or (plain_name w))
  unfolding plain_name
  plain_holds =
      plain_try (ascii "brightness") P.Brightness _ tt
      (plain_try (ascii "contrast") P.Contrast _ tt
      (plain_try (ascii "grayscale") P.Grayscale _ tt
      (plain_try (ascii "invert") P.Invert _ tt
      (plain_try (ascii "opacity") P.Opacity _ tt
      (plain_try (ascii "saturate") P.Saturate _ tt
      (plain_try (ascii "sepia") P.Sepia None tt (omega arith)))))))

  name_holds : 4 ≤ length w + holds (filter_name w)
  unfolding filter_name
  name_holds =
      name_try (ascii "blur") N.Blur _ tt
      (name_try (ascii "drop-shadow") N.DropShadow _ tt
      (name_try (ascii "hue-rotate") N.HueRotate _ tt
      (name_try (ascii "url") N.Url (plain_or (plain_name w)) tt plain_holds)))

part_le : (s : List ℕ) (i e : ℕ) → length (part s i e) ≤ e - i
unfolding part
part_le s i e = simp length-take (omega arith)

-- the same, of what is known
module _ (s : List ℕ) (name i : ℕ) (r : Read FilterValue) where
  pub after_least : (c : Option Color) → shadow_after s name i c ≡ Ok r → i ≤ r.next.0
  after_least c e = let v = at_ok (λ x. Far s 0 i x.next.0) (FilterFault s name i) (shadow_after s name i c) r (after_reached s name i c) e in omega (arith, v.far)

  pub argument_least : (end : ℕ) → parse_argument s name end i ≡ Ok r → i ≤ r.next.0
  argument_least end e =
      let n = holds (filter_name (part s name end)) in
      let v = at_ok (λ x. Far s n i x.next.0) (FilterFault s name i) (parse_argument s name end i) r (argument_reached s name i end) e in
      omega (arith, v.far)

-- A value read at i ends at p, right after its closing bracket; it has at least the six bytes of `blur()`
record Closed (s : List ℕ) (i : ℕ) (p : Place) : Type 0 where
  close : ℕ
  five : i + 5 ≤ close
  shut : get_or s close 0 ≡ 41
  short : close < length s
  after : p.0 ≡ close + 1

next_closed : (s : List ℕ) (i : ℕ) → MatchResult (parse_next s i) (λ r. Closed s i r.next) (FilterFault s i i)
unfolding parse_next close_bracket
next_closed s i =
    let end = scan is_ascii_ident s i in
    let left = scan is_space s end in
    let f = filter_name (part s i end) in
    let g : Far s 0 i left = far_goes (goes_trans (goes_scan s i is_ascii_ident word_stop) (goes_scan s end is_space refl)) in
    step s i (Took s left 40) (λ r. Closed s i r.next) i (consume_byte s left 40) _ g (lower s i (Took s left 40) left (consume_byte s left 40) (byte_taken s left 40) (consume_other s left 40)) (λ p t.
    let at = scan is_space s p.0 in
    let h : Far s 0 i at = record { far = omega (arith, g.far, t.next, scan_ge is_space s p.0); inside = λ l. scan_le is_space s p.0 (omega (arith, t.next, t.inside)) } in
    step s i (λ r. Far s (holds f) at r.next.0) (λ r. Closed s i r.next) i (parse_argument s i end at) _ h (argument_reached s i at end) (λ r v.
    let close = scan is_space s r.next.0 in
    let k : Far s 0 i close = record { far = omega (arith, h.far, v.far, scan_ge is_space s r.next.0); inside = λ l. scan_le is_space s r.next.0 (v.inside (h.inside l)) } in
    step s i (Took s close 41) (λ x. Closed s i x.next) i (consume_byte s close 41) _ k (lower s i (Took s close 41) close (consume_byte s close 41) (byte_taken s close 41) (consume_other s close 41)) (λ q u.
    record {
      close = close;
      five = omega (arith, name_holds (part s i end), part_le s i end, scan_ge is_ascii_ident s i, scan_ge is_space s end, t.next, scan_ge is_space s p.0, v.far, scan_ge is_space s r.next.0);
      shut = eqb-true (get_or s close 0) 41 u.byte;
      short = u.inside;
      after = u.next;
    })))

-- A step's value read at i, and the spaces after its closing bracket
pub record Stepped (s : List ℕ) (i : ℕ) (p : Place) : Type 0 where
  pub six : i + 6 ≤ p.0
  pub inside : p.0 ≤ length s
  pub close : ℕ
  pub shut : get_or s close 0 ≡ 41
  pub short : close < length s
  pub next : p.0 ≡ scan is_space s (close + 1)

-- where a step says that nothing is left, at most spaces are; and the list place is the end of the text
pub record Ends (s : List ℕ) (i : ℕ) (p : Place) : Type 0 where
  pub spaces : length s ≤ scan is_space s i
  pub end : p ≡ place (length s)

abbrev pub Says : List ℕ → ℕ → Listed → Place → Type 0
Says s i (I.Value v) p = Stepped s i p
Says s i I.End p = Ends s i p
Says s i I.NoneWord p = p ≡ place (length s)

-- Its fault: none by 1 to 3 and none by 8, and inside
pub record StepFault (s : List ℕ) (i : ℕ) (e : Fault) : Type 0 where
  pub lies : i ≤ length s → Lies (length s) e
  pub other : Other e

module _ (s : List ℕ) (i : ℕ) where
  -- of what a step comes to
  abbrev pub Steps : Result (Read Listed) Fault → Type 0
  Steps x = MatchResult x (λ r. Says s i r.value r.next) (StepFault s i)

  none_steps : (at : ℕ) → (i ≤ length s → at ≤ length s) → Steps (after_none s at)
  unfolding after_none number_of
  none_steps at g =
      let j = scan is_space s at in
      either (ltb j (length s))
      (λ e. let w : StepFault s i (invalid_value j) = record { lies = λ l. (value_lies j (scan_le is_space s at (g l))).lies; other = refl } in simp e w)
      (λ e. simp e refl)

  stepped : (p : Place) → Closed s (scan is_space s i) p → Stepped s i (place (scan is_space s p.0))
  stepped p c =
      let l : p.0 ≤ length s = omega (arith, c.short, c.after) in
      record {
        six = omega (arith, c.five, c.after, scan_ge is_space s i, scan_ge is_space s p.0);
        inside = scan_le is_space s p.0 l;
        close = c.close;
        shut = c.shut;
        short = c.short;
        next = ap (λ (x : ℕ). scan is_space s x) c.after;
      }

  pub step_says : Steps (parse_step s i)
  unfolding parse_step
  step_says =
      let start = scan is_space s i in
      either (leb (length s) start)
      (λ e. let w : Ends s i (place (length s)) = record { spaces = leb-true (length s) start e; end = refl } in simp e w)
      (λ e. either (starts_with (ascii "none") (drop start s))
      (λ f. simp (e, f) (none_steps (start + 4) (λ l. word_inside 110 _ s start true refl (sym f))))
      (λ f. simp (e, f)
      (bind_holds (λ r. Closed s start r.next) (λ r. Says s i r.value r.next) (StepFault s i) (parse_next s start) _
      (weaker (λ r. Closed s start r.next) (λ r. Closed s start r.next) (FilterFault s start start) (StepFault s i) (parse_next s start) (next_closed s start)
      (λ r c. c) (λ e v. record { lies = λ l. v.lies (omega arith) (scan_le is_space s i l); other = v.other }))
      (λ r c. stepped r.next c))))

  pub step_known : (r : Read Listed) → parse_step s i ≡ Ok r → Says s i r.value r.next
  step_known r e = at_ok (λ x. Says s i x.value x.next) (StepFault s i) (parse_step s i) r step_says e

  -- a step passes spaces first
  pub step_spaces : parse_step s (scan is_space s i) ≡ parse_step s i
  unfolding parse_step
  step_spaces = rw (scan_again is_space s i) refl

-- THEOREM. A refusal's stretch starts and ends in the lent text, and not before it starts
pub stretch_inside : (s : List ℕ) (i : ℕ) (e : Refusal) → (next_filter s i).item ≡ Err e → Inside (length s) e
unfolding next_filter
stretch_inside s i e q = at_err (λ x. ⊤) (Inside (length s)) (next_filter s i).item e (go (admit_place s i) (parse_step s i) (place_holds s i) (step_says s i)) q
  where
    go : (x : Result (Unit {0}) Refusal) (y : Result (Read Listed) Fault) → MatchResult x (λ u. Placed s i) (Inside (length s)) → Steps s i y → MatchResult (placed i x (edged s y)).item (λ l. ⊤) (Inside (length s))
    go (Ok u) (Ok r) v w = tt
    go (Ok u) (Err f) v w = refusal_inside s (w.lies v.inside)
    go (Err f) y v w = v
