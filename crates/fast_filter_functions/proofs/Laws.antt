-- What is told between brackets is what the definitions read there.
use Prim.Native.Nat.{ℕ, ◌+◌, ◌-◌, ◌<◌}
use mathlib.Core.Bool.{Bool, true, false}
use mathlib.Core.List.{List, [], ◌∷◌, ◌++◌}
use mathlib.Core.Path.{◌≡◌, refl, ◌∙◌}
use native.Mathlib.Omega.{arith}
use borrow.Author.Tests.{lt-leb, ltb-true}
use lib.Dec.{ltb, eqb}
use lib.Ieee.{binary64, div}
use lib.ListN.{length, drop}
use lib.Seq.{drop-drop}
use Rattle.std.specs.Prelude.{Result, Ok, Err, Option, Some, None, if◌then◌else◌}
use Rattle.std.specs.Result.{result_ok}
use Rattle.text_bytes.specs.Bytes.{within, is_space, is_url_byte}
use Rattle.text_bytes.specs.Moves.{place}
use Rattle.text_bytes.specs.Scan.{scan}
use Rattle.text_bytes.specs.Words.{ascii, starts_with, same, is_curr_byte_eq}
use Rattle.text_bytes.proofs.Ahead.{Passes, scan_again}
use Rattle.text_bytes.proofs.Ranges.{and_first, and_second, either}
use Rattle.text_bytes.proofs.Wording.{curr_byte}
use Rattle.stream.specs.declared.Fault.{Fault}
use Rattle.stream.specs.declared.Read.{Read}
use Rattle.stream.proofs.Opening.{bracketed}
use Rattle.stream.proofs.Sames.{curr_consumed}
use Rattle.floats.specs.Floats.{sign_of}
use Rattle.numbers.specs.Moves.{Number}
use Rattle.numbers.specs.Number.{parse_number, parse_number_or_percent}
use Rattle.numbers.specs.Powers.{hundred}
use Rattle.numbers.specs.declared.Written.{Written}
use Rattle.numbers.proofs.Values.{number_known, percent_known}
use Rattle.length.specs.Lengths.{parse_length}
use Rattle.length.specs.declared.Length.{Length}
use Rattle.length.proofs.Values.{length_known}
use Rattle.angle.specs.Angles.{parse_unit}
use Rattle.angle.specs.declared.AngleUnit.TheVariants as W
use Rattle.filter_functions.specs.Filters.{plain_name, filter_name, argument_of, parse_step}
use Rattle.filter_functions.specs.Values.{is_percent, plain_value, parse_filter_positive_length, parse_filter_angle, parse_blur, parse_hue_rotate, parse_generic_color_func, parse_url}
use Rattle.filter_functions.specs.declared.FilterValue.{FilterValue}
use Rattle.filter_functions.specs.declared.FilterValue.TheVariants as G
use Rattle.filter_functions.specs.declared.Plain.{Plain}
use Rattle.filter_functions.specs.declared.Plain.TheVariants as P
use Rattle.fast_numbers.specs.Told.{told_number}
use Rattle.fast_numbers.proofs.Told.{told_read, told_unread}
use Rattle.fast_numbers.proofs.Told.{told_ok}
use Rattle.fast_filter_functions.specs.Told.{and_then, closed_or, offset_at, radius_at, blur_at, degrees_at, told_value, plain_at, url_at}
use Rattle.fast_filter_functions.proofs.Names.{is_name, starts_curr, curr_still, closed}

-- what came to a value had a first step that did
pub then_some : {A B : Type 0} (x : Option A) (f : A → Option B) (b : B) → and_then x f ≡ Some b → (a : A) × ((x ≡ Some a) × (f a ≡ Some b))
then_some None f b e = absurd (let z : ◌≡◌ {A = ℕ} 0 1 = cc in omega arith)
then_some (Some a) f b e = (a, (refl, e))

pub else_some : {B : Type 0} (t : Bool) (b c : B) → (if t then None else Some b) ≡ Some c → (t ≡ false) × (b ≡ c)
else_some true b c e = absurd (let z : ◌≡◌ {A = ℕ} 0 1 = cc in omega arith)
else_some false b c e = (refl, cc)

pub if_some : {B : Type 0} (t : Bool) (b c : B) → (if t then Some b else None) ≡ Some c → (t ≡ true) × (b ≡ c)
if_some true b c e = (refl, cc)
if_some false b c e = absurd (let z : ◌≡◌ {A = ℕ} 0 1 = cc in omega arith)

-- spaces before a number are passed by its reader, too
number_still : (s : List ℕ) (i : ℕ) → parse_number s (scan is_space s i) ≡ parse_number s i
unfolding parse_number
number_still s i = rw (scan_again is_space s i) refl

pub length_still : (s : List ℕ) (i : ℕ) → parse_length s (scan is_space s i) ≡ parse_length s i
unfolding parse_length
length_still s i = rw (number_still s i) refl

percent_still : (s : List ℕ) (i : ℕ) → parse_number_or_percent s (scan is_space s i) ≡ parse_number_or_percent s i
unfolding parse_number_or_percent
percent_still s i = rw (number_still s i) refl

-- what a value is read from begins with no bracket
unclosed : (s : List ℕ) (i j : ℕ) → Passes s i j → i < j → is_curr_byte_eq s i 41 ≡ false
unclosed s i j p h = either (is_curr_byte_eq s i 41) (λ e. absurd (p.bytes i (omega arith) h (curr_byte s i 41 refl e))) (λ e. e)

-- lengths that are told, from any place in the spaces before them
pub record Offset (s : List ℕ) (i : ℕ) (r : Read Length) : Type 0 where
  pub length : Read (Written Length)
  pub is : parse_length s (scan is_space s i) ≡ Ok length
  pub value : length.value.value ≡ r.value
  pub next : length.next ≡ r.next
  pub unit : is_percent r.value.unit ≡ false

pub offset_is : (s : List ℕ) (i : ℕ) (r : Read Length) → offset_at s i ≡ Some r → Offset s i r
unfolding offset_at
offset_is s i r e =
    let v = then_some (result_ok (parse_length s i)) _ r e in
    let w = else_some (is_percent v.0.value.value.unit) (record { value = v.0.value.value; next = v.0.next }) r v.1.1 in
    rw (← w.1) (record { length = v.0; is = length_still s i ∙ (told_ok (parse_length s i) v.0 v.1.0).1; value = refl; next = refl; unit = w.0 })

pub record Radius (s : List ℕ) (i : ℕ) (r : Read Length) : Type 0 where
  pub offset : Offset s i r
  pub sign : sign_of r.value.number ≡ false

pub radius_is : (s : List ℕ) (i : ℕ) (r : Read Length) → radius_at s i ≡ Some r → Radius s i r
unfolding radius_at
radius_is s i r e =
    let v = then_some (offset_at s i) _ r e in
    let w = else_some (sign_of v.0.value.number) v.0 r v.1.1 in
    rw (← w.1) (record { offset = offset_is s i v.0 v.1.0; sign = w.0 })

-- a blur's length, from any place in the spaces before it
blur_read : (s : List ℕ) (name i : ℕ) (r : Read Length) → Radius s i r → parse_blur s name (scan is_space s i) ≡ Ok (record { value = G.Blur r.value; next = r.next })
unfolding parse_blur parse_filter_positive_length
blur_read s name i r d =
    let o = d.offset in
    let x = (length_known s _ o.length o.is).past in
    simp (unclosed s (scan is_space s i) o.length.next.0 x.passes (omega (arith, x.least)), o.is, o.value, o.next, d.sign, o.unit)

pub ok_is : {A : Type 0} {a b : A} → a ≡ b → ◌≡◌ {A = Result A Fault} (Ok a) (Ok b)
ok_is e = cc

pub some_is : {A : Type 0} (a b : A) → ◌≡◌ {A = Option A} (Some a) (Some b) → a ≡ b
some_is a b e = cc

-- a word in two parts: the second stands after the first
record Parted (u v l : List ℕ) : Type 0 where
  front : starts_with u l ≡ true
  back : starts_with v (drop (length u) l) ≡ true

parted : (u v l : List ℕ) → starts_with (u ++ v) l ≡ true → Parted u v l
unfolding starts_with
parted [] v l e = record { front = refl; back = e }
parted (x ∷ u) v [] e = let z : ◌≡◌ {A = ℕ} 0 1 = cc in absurd (omega arith)
parted (x ∷ u) v (y ∷ l) e =
    let same : eqb y x ≡ true = and_first (eqb y x) _ e in
    let p = parted u v l (and_second (eqb y x) _ e) in
    record { front = simp (same, p.front); back = p.back }

-- the number of a plain function, from any place in the spaces before it
plain_read : (s : List ℕ) (name i : ℕ) (f : Plain) (v : Read FilterValue) → plain_at s i f ≡ Some v → parse_generic_color_func s name (scan is_space s i) f ≡ Ok v
unfolding plain_at parse_generic_color_func
plain_read s name i f v q = go (parse_number_or_percent s i) refl q
  where
    go : (x : Result (Read Number) Fault) → parse_number_or_percent s i ≡ x
        → and_then (told_value x) (λ n. if sign_of n.value then None else Some (record { value = plain_value f n.value; next = n.next })) ≡ Some v
        → parse_generic_color_func s name (scan is_space s i) f ≡ Ok v
    go (Err e) k u = absurd (let z : ◌≡◌ {A = ℕ} 0 1 = cc in omega arith)
    go (Ok m) k u =
        let j = scan is_space s i in
        let r : parse_number_or_percent s j ≡ Ok m = percent_still s i ∙ k in
        let t = (percent_known s j m r).past in
        let w = else_some (sign_of m.value.value) (record { value = plain_value f m.value.value; next = m.next }) v u in
        simp (unclosed s j m.next.0 t.passes (omega (arith, t.least)), r, w.0) (ok_is w.1)

module _ (s : List ℕ) (at : ℕ) where
  pub blur_told : starts_with (ascii "blur(") (drop at s) ≡ true → closed_or s (parse_step s at) (blur_at s (at + 5)) ≡ parse_step s at
  unfolding filter_name plain_name same within blur_at
  blur_told e =
      closed (ascii "blur") s at 5 refl e refl (blur_at s (at + 5))
      (λ v q c.
      let t = then_some (radius_at s (at + 5)) _ v q in
      blur_read s at (at + 5) t.0 (radius_is s (at + 5) t.0 t.1.0) ∙ ok_is (some_is _ _ t.1.1))

  pub degrees_told : starts_with (ascii "hue-rotate(") (drop at s) ≡ true → closed_or s (parse_step s at) (degrees_at s (at + 11)) ≡ parse_step s at
  unfolding filter_name plain_name same within degrees_at parse_hue_rotate parse_filter_angle parse_unit
  degrees_told e =
      closed (ascii "hue-rotate") s at 11 refl e refl (degrees_at s (at + 11))
      (λ v q c.
      let i = at + 11 in
      let j = scan is_space s i in
      let t = then_some (told_number (parse_number s i)) _ v q in
      let n = t.0 in
      let w = if_some (starts_with (ascii "deg") (drop n.end.0 s)) (record { value = G.HueRotate (record { number = n.value; unit = W.Degrees }); next = place (n.end.0 + 3) }) v t.1.1 in
      let read : parse_number s j ≡ Ok (record { value = n; next = n.end }) = number_still s i ∙ told_read s i n t.1.0 in
      let x = (number_known s j _ read).past in
      simp (unclosed s j n.end.0 x.passes (omega (arith, x.least)), scan_again is_space s i, read, w.0) (ok_is w.1))

  -- a link, behind its `#`
  pub url_told : starts_with (ascii "url(#") (drop at s) ≡ true → closed_or s (parse_step s at) (url_at s (at + 5)) ≡ parse_step s at
  unfolding filter_name plain_name same within url_at parse_url
  url_told e =
      let u = parted (ascii "url(") (ascii "#") (drop at s) e in
      let hash : is_curr_byte_eq s (at + 4) 35 ≡ true = starts_curr 35 [] s (at + 4) (rw drop-drop at u.back) in
      let five : at + 4 + 1 ≡ at + 5 = omega arith in
      let i = at + 5 in
      let d = scan is_url_byte s i in
      closed (ascii "url") s at 4 refl u.front refl (url_at s i)
      (λ v q c.
      let w = if_some (ltb i d) (record { value = G.Url (record { start = place i; len = d - i }); next = place d }) v q in
      simp (curr_still s (at + 4) 35 refl hash, curr_consumed s (at + 4) 35 refl hash, five, lt-leb d i (ltb-true i d w.0)) (ok_is w.1))

  module _ (f : Plain) (w : List ℕ) (n : ℕ) (name : is_name w ≡ true) (wide : n ≡ length w + 1)
      (named : (i : ℕ) → argument_of (filter_name w) s at i ≡ parse_generic_color_func s at i f) where
    plain_told : starts_with (bracketed w) (drop at s) ≡ true → closed_or s (parse_step s at) (plain_at s (at + n) f) ≡ parse_step s at
    plain_told e = closed w s at n name e wide (plain_at s (at + n) f) (λ v q c. named _ ∙ plain_read s at (at + n) f v q)

  pub brightness_told : starts_with (ascii "brightness(") (drop at s) ≡ true → closed_or s (parse_step s at) (plain_at s (at + 11) P.Brightness) ≡ parse_step s at
  unfolding filter_name plain_name same within
  brightness_told e = plain_told P.Brightness (ascii "brightness") 11 refl refl (λ i. refl) e

  pub contrast_told : starts_with (ascii "contrast(") (drop at s) ≡ true → closed_or s (parse_step s at) (plain_at s (at + 9) P.Contrast) ≡ parse_step s at
  unfolding filter_name plain_name same within
  contrast_told e = plain_told P.Contrast (ascii "contrast") 9 refl refl (λ i. refl) e

  pub grayscale_told : starts_with (ascii "grayscale(") (drop at s) ≡ true → closed_or s (parse_step s at) (plain_at s (at + 10) P.Grayscale) ≡ parse_step s at
  unfolding filter_name plain_name same within
  grayscale_told e = plain_told P.Grayscale (ascii "grayscale") 10 refl refl (λ i. refl) e

  pub invert_told : starts_with (ascii "invert(") (drop at s) ≡ true → closed_or s (parse_step s at) (plain_at s (at + 7) P.Invert) ≡ parse_step s at
  unfolding filter_name plain_name same within
  invert_told e = plain_told P.Invert (ascii "invert") 7 refl refl (λ i. refl) e

  pub opacity_told : starts_with (ascii "opacity(") (drop at s) ≡ true → closed_or s (parse_step s at) (plain_at s (at + 8) P.Opacity) ≡ parse_step s at
  unfolding filter_name plain_name same within
  opacity_told e = plain_told P.Opacity (ascii "opacity") 8 refl refl (λ i. refl) e

  pub saturate_told : starts_with (ascii "saturate(") (drop at s) ≡ true → closed_or s (parse_step s at) (plain_at s (at + 9) P.Saturate) ≡ parse_step s at
  unfolding filter_name plain_name same within
  saturate_told e = plain_told P.Saturate (ascii "saturate") 9 refl refl (λ i. refl) e

  pub sepia_told : starts_with (ascii "sepia(") (drop at s) ≡ true → closed_or s (parse_step s at) (plain_at s (at + 6) P.Sepia) ≡ parse_step s at
  unfolding filter_name plain_name same within
  sepia_told e = plain_told P.Sepia (ascii "sepia") 6 refl refl (λ i. refl) e

  -- a number with the `%` after it, or none
  pub percent_none : told_number (parse_number s at) ≡ None → told_value (parse_number_or_percent s at) ≡ None
  unfolding parse_number_or_percent
  percent_none h = simp (told_unread s at h).is

  module _ (n : Number) (h : told_number (parse_number s at) ≡ Some n) where
    pub percent_marked : is_curr_byte_eq s n.end.0 37 ≡ true → (told_number (parse_number s at) ≡ Some n)
        × (told_value (parse_number_or_percent s at) ≡ Some (record { value = div binary64 n.value hundred; next = place (n.end.0 + 1) }))
    unfolding parse_number_or_percent
    percent_marked m = (h, simp (told_read s at n h, m))

    pub percent_plain : is_curr_byte_eq s n.end.0 37 ≡ false
        → (told_number (parse_number s at) ≡ Some n) × (told_value (parse_number_or_percent s at) ≡ Some (record { value = n.value; next = n.end }))
    unfolding parse_number_or_percent
    percent_plain m = (h, simp (told_read s at n h, m))
