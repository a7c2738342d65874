-- shift: reading at `length a + i` of `a ++ b` is reading at i of b, with every place moved by `length a`.
use Prim.Native.Nat.{ℕ, ◌+◌}
use mathlib.Core.List.{List, ◌++◌}
use mathlib.Core.Path.{◌≡◌, refl}
use lib.Ieee.{Float}
use lib.Dec.{leb}
use lib.ListN.{length, drop}
use Rattle.std.specs.Prelude.{Result, Ok, Err, Option, Some, None}
use Rattle.text_bytes.specs.Bytes.{is_space, is_ascii_ident}
use Rattle.text_bytes.specs.Moves.{move_place}
use Rattle.text_bytes.specs.Scan.{scan}
use Rattle.text_bytes.specs.Words.{ascii, starts_with, is_curr_byte_eq, part}
use Rattle.text_bytes.proofs.Scans.{scan_shift}
use Rattle.text_bytes.proofs.Shifts.{shifts, cond_push, same_else, curr_shift, part_shift}
use Rattle.stream.specs.Faults.{consume_byte}
use Rattle.stream.specs.Moves.{moved, move_read, move_fault, stays}
use Rattle.stream.specs.Refusals.{is_outside_domain}
use Rattle.stream.specs.declared.Fault.{Fault}
use Rattle.stream.specs.declared.Read.{Read}
use Rattle.stream.proofs.Binds.{bind_moved}
use Rattle.stream.proofs.Shifts.{byte_shift}
use Rattle.numbers.specs.Moves.{Number, move_written}
use Rattle.numbers.specs.Number.{parse_number, parse_number_or_percent}
use Rattle.numbers.specs.declared.Written.{Written}
use Rattle.numbers.proofs.Shifts.{number_shift, percent_shift}
use Rattle.length.specs.Lengths.{parse_length}
use Rattle.length.specs.declared.Length.{Length}
use Rattle.length.proofs.Shifts.{length_shift}
use Rattle.angle.specs.Angles.{parse_unit}
use Rattle.angle.specs.Moves.{move_unit}
use Rattle.angle.specs.declared.Angle.{Angle}
use Rattle.angle.specs.declared.AngleUnit.{AngleUnit}
use Rattle.angle.proofs.Shifts.{unit_shift}
use Rattle.color.specs.Color.{parse_color}
use Rattle.color.specs.declared.Color.{Color}
use Rattle.color.proofs.Shifts.{move_color, color_shift}
use Rattle.filter_functions.specs.Moves.{move_filter_value, move_listed}
use Rattle.filter_functions.specs.Values.{parse_filter_length, parse_filter_positive_length, marked, parse_filter_angle, parse_blur, parse_hue_rotate, plain_value, parse_generic_color_func, parse_url}
use Rattle.filter_functions.specs.Shadow.{ColorRead, color_or, try_parse_color, deviation_or, parse_deviation, parse_shadow_lengths, shadow, shadow_after, or_none, shadow_before, shadow_on, parse_drop_shadow_func}
use Rattle.filter_functions.specs.Filters.{filter_name, argument_of, parse_argument, close_bracket, parse_next, after_none, parse_step}
use Rattle.filter_functions.specs.declared.FilterName.{FilterName}
use Rattle.filter_functions.specs.declared.FilterName.TheVariants as N
use Rattle.filter_functions.specs.declared.FilterValue.{FilterValue}
use Rattle.filter_functions.specs.declared.Listed.{Listed}
use Rattle.filter_functions.specs.declared.Plain.{Plain}
use Rattle.filter_functions.specs.declared.Plain.TheVariants as P
use Rattle.filter_functions.specs.declared.ShadowLengths.{ShadowLengths}

-- of a value that knows no place, its own place moves
abbrev move_stay : {A : Type 0} → ℕ → Read A → Read A
move_stay = move_read stays

abbrev move_filter : ℕ → Read FilterValue → Read FilterValue
move_filter = move_read move_filter_value

abbrev pub move_step_read : ℕ → Read Listed → Read Listed
move_step_read = move_read move_listed

abbrev move_tried : ℕ → ColorRead → ColorRead
move_tried n None = None
move_tried n (Some c) = Some (move_stay n c)

-- a plain function's value has no place
plain_move : (n : ℕ) (f : Plain) (x : Float) → move_filter_value n (plain_value f x) ≡ plain_value f x
unfolding plain_value
plain_move n P.Brightness x = refl
plain_move n P.Contrast x = refl
plain_move n P.Grayscale x = refl
plain_move n P.Invert x = refl
plain_move n P.Opacity x = refl
plain_move n P.Saturate x = refl
plain_move n P.Sepia x = refl

outside_move : (n : ℕ) (e : Fault) → is_outside_domain (move_fault n e) ≡ is_outside_domain e
unfolding is_outside_domain
outside_move n e = refl

module _ (a b : List ℕ) where
  filter_length_shift : (name i : ℕ) → parse_filter_length (a ++ b) (length a + name) (length a + i) ≡ moved move_stay (length a) (parse_filter_length b name i)
  unfolding parse_filter_length
  filter_length_shift name i =
      bind_moved (move_read move_written) move_stay (length a) (parse_length b i) _ _ _ (length_shift a b i) (λ r. simp (cond_push (moved (move_stay {A = Length}) (length a))))

  positive_shift : (name i : ℕ) → parse_filter_positive_length (a ++ b) (length a + name) (length a + i) ≡ moved move_stay (length a) (parse_filter_positive_length b name i)
  unfolding parse_filter_positive_length
  positive_shift name i =
      bind_moved (move_read move_written) move_stay (length a) (parse_length b i) _ _ _ (length_shift a b i) (λ r. simp (cond_push (moved (move_stay {A = Length}) (length a))))

  filter_angle_shift : (name i : ℕ) → parse_filter_angle (a ++ b) (length a + name) (length a + i) ≡ moved move_stay (length a) (parse_filter_angle b name i)
  unfolding parse_filter_angle
  filter_angle_shift name i =
      let start = scan is_space b i in
      simp scan_shift
      (bind_moved (move_read move_written) move_stay (length a) (parse_number b start) _ _ _ (number_shift a b start) (λ r. simp unit_shift (go start r (parse_unit b r.next.0))))
    where
      go : (start : ℕ) (r : Read Number) (u : Option (Read AngleUnit))
          → marked (length a + start) (length a + name) (move_read move_written (length a) r) (move_unit (length a) u) ≡ moved move_stay (length a) (marked start name r u)
      go start r None = simp (cond_push (moved (move_stay {A = Angle}) (length a)))
      go start r (Some u) = refl

  blur_shift : (name i : ℕ) → parse_blur (a ++ b) (length a + name) (length a + i) ≡ moved move_filter (length a) (parse_blur b name i)
  unfolding parse_blur
  blur_shift name i =
      simp (curr_shift, cond_push (moved move_filter (length a)))
      (same_else (is_curr_byte_eq b i 41) _ _ _ (bind_moved move_stay move_filter (length a) (parse_filter_positive_length b name i) _ _ _ (positive_shift name i) (λ r. refl)))

  hue_shift : (name i : ℕ) → parse_hue_rotate (a ++ b) (length a + name) (length a + i) ≡ moved move_filter (length a) (parse_hue_rotate b name i)
  unfolding parse_hue_rotate
  hue_shift name i =
      simp (curr_shift, cond_push (moved move_filter (length a)))
      (same_else (is_curr_byte_eq b i 41) _ _ _ (bind_moved move_stay move_filter (length a) (parse_filter_angle b name i) _ _ _ (filter_angle_shift name i) (λ r. refl)))

  plain_shift : (name i : ℕ) (f : Plain) → parse_generic_color_func (a ++ b) (length a + name) (length a + i) f ≡ moved move_filter (length a) (parse_generic_color_func b name i f)
  unfolding parse_generic_color_func
  plain_shift name i f =
      simp (curr_shift, plain_move, cond_push (moved move_filter (length a)))
      (same_else (is_curr_byte_eq b i 41) _ _ _
      (bind_moved (move_read move_written) move_filter (length a) (parse_number_or_percent b i) _ _ _ (percent_shift a b i) (λ r. simp (plain_move, cond_push (moved move_filter (length a))))))

  url_shift : (name i : ℕ) → parse_url (a ++ b) (length a + name) (length a + i) ≡ moved move_filter (length a) (parse_url b name i)
  unfolding parse_url
  url_shift name i =
      bind_moved move_place move_filter (length a) (consume_byte b i 35) _ _ _ (byte_shift a b i 35) (λ p. simp (shifts, cond_push (moved move_filter (length a))))

  try_shift : (i : ℕ) → try_parse_color (a ++ b) (length a + i) ≡ moved move_tried (length a) (try_parse_color b i)
  unfolding try_parse_color
  try_shift i = rw (color_shift a b i) (go (parse_color b i))
    where
      go : (x : Result (Read Color) Fault) → color_or (a ++ b) (length a + i) (moved move_color (length a) x) ≡ moved move_tried (length a) (color_or b i x)
      go (Ok c) = refl
      go (Err e) = simp (shifts, outside_move, cond_push (moved move_tried (length a)))

  deviation_shift : (i : ℕ) → parse_deviation (a ++ b) (length a + i) ≡ moved move_stay (length a) (parse_deviation b i)
  unfolding parse_deviation
  deviation_shift i = rw (length_shift a b i) (go (parse_length b i))
    where
      go : (x : Result (Read (Written Length)) Fault) → deviation_or (a ++ b) (length a + i) (moved (move_read move_written) (length a) x) ≡ moved move_stay (length a) (deviation_or b i x)
      go (Ok r) = simp (shifts, cond_push (moved (move_stay {A = Length}) (length a)))
      go (Err e) = simp (outside_move, cond_push (moved (move_stay {A = Length}) (length a)))

  lengths_shift : (name i : ℕ) → parse_shadow_lengths (a ++ b) (length a + name) (length a + i) ≡ moved move_stay (length a) (parse_shadow_lengths b name i)
  unfolding parse_shadow_lengths
  lengths_shift name i =
      bind_moved move_stay move_stay (length a) (parse_filter_length b name i) _ _ _ (filter_length_shift name i) (λ dx.
      let second = scan is_space b dx.next.0 in
      simp scan_shift
      (bind_moved move_stay move_stay (length a) (parse_filter_length b name second) _ _ _ (filter_length_shift name second) (λ dy.
      let third = scan is_space b dy.next.0 in
      simp scan_shift (bind_moved move_stay move_stay (length a) (parse_deviation b third) _ _ _ (deviation_shift third) (λ d. refl)))))

  after_shift : (name i : ℕ) (c : Option Color) → shadow_after (a ++ b) (length a + name) (length a + i) c ≡ moved move_filter (length a) (shadow_after b name i c)
  unfolding shadow_after
  after_shift name i c = bind_moved move_stay move_filter (length a) (parse_shadow_lengths b name i) _ _ _ (lengths_shift name i) (λ r. refl)

  before_shift : (name i : ℕ) → shadow_before (a ++ b) (length a + name) (length a + i) ≡ moved move_filter (length a) (shadow_before b name i)
  unfolding shadow_before
  before_shift name i =
      bind_moved move_stay move_filter (length a) (parse_shadow_lengths b name i) _ _ _ (lengths_shift name i) (λ r.
      bind_moved move_tried move_filter (length a) (try_parse_color b r.next.0) _ _ _ (try_shift r.next.0) (go r))
    where
      go : (r : Read ShadowLengths) (c : ColorRead)
          → ◌≡◌ {A = Result (Read FilterValue) Fault}
          (Ok (record { value = shadow (or_none (move_place (length a) r.next) (move_tried (length a) c)).value r.value; next = (or_none (move_place (length a) r.next) (move_tried (length a) c)).next }))
          (Ok (move_filter (length a) (record { value = shadow (or_none r.next c).value r.value; next = (or_none r.next c).next })))
      go r None = refl
      go r (Some c) = refl

  shadow_shift : (name i : ℕ) → parse_drop_shadow_func (a ++ b) (length a + name) (length a + i) ≡ moved move_filter (length a) (parse_drop_shadow_func b name i)
  unfolding parse_drop_shadow_func
  shadow_shift name i =
      simp (curr_shift, cond_push (moved move_filter (length a)))
      (same_else (is_curr_byte_eq b i 41) _ _ _ (bind_moved move_tried move_filter (length a) (try_parse_color b i) _ _ _ (try_shift i) go))
    where
      go : (c : ColorRead) → shadow_on (a ++ b) (length a + name) (length a + i) (move_tried (length a) c) ≡ moved move_filter (length a) (shadow_on b name i c)
      go None = before_shift name i
      go (Some c) = rw (scan_shift is_space a b c.next.0) (after_shift name (scan is_space b c.next.0) c.value)

  argument_shift : (name end i : ℕ) → parse_argument (a ++ b) (length a + name) (length a + end) (length a + i) ≡ moved move_filter (length a) (parse_argument b name end i)
  unfolding parse_argument
  argument_shift name end i = rw (part_shift a b name end) (go (filter_name (part b name end)))
    where
      go : (x : Option FilterName) → argument_of x (a ++ b) (length a + name) (length a + i) ≡ moved move_filter (length a) (argument_of x b name i)
      go (Some N.Blur) = blur_shift name i
      go (Some N.DropShadow) = shadow_shift name i
      go (Some N.HueRotate) = hue_shift name i
      go (Some (N.Plain f)) = plain_shift name i f
      go (Some N.Url) = url_shift name i
      go None = simp shifts

  close_shift : (i : ℕ) (v : FilterValue) → close_bracket (a ++ b) (length a + i) (move_filter_value (length a) v) ≡ moved move_filter (length a) (close_bracket b i v)
  unfolding close_bracket
  close_shift i v =
      let right = scan is_space b i in
      simp scan_shift (bind_moved move_place move_filter (length a) (consume_byte b right 41) _ _ _ (byte_shift a b right 41) (λ p. refl))

  next_shift : (i : ℕ) → parse_next (a ++ b) (length a + i) ≡ moved move_filter (length a) (parse_next b i)
  unfolding parse_next
  next_shift i =
      let end = scan is_ascii_ident b i in
      let left = scan is_space b end in
      simp scan_shift
      (bind_moved move_place move_filter (length a) (consume_byte b left 40) _ _ _ (byte_shift a b left 40) (λ p.
      let at = scan is_space b p.0 in
      simp scan_shift (bind_moved move_filter move_filter (length a) (parse_argument b i end at) _ _ _ (argument_shift i end at) (λ r. close_shift r.next.0 r.value))))

  none_shift : (i : ℕ) → after_none (a ++ b) (length a + i) ≡ moved move_step_read (length a) (after_none b i)
  unfolding after_none
  none_shift i = simp (shifts, cond_push (moved move_step_read (length a)))

  pub step_shift : (i : ℕ) → parse_step (a ++ b) (length a + i) ≡ moved move_step_read (length a) (parse_step b i)
  unfolding parse_step
  step_shift i =
      let start = scan is_space b i in
      simp (shifts, none_shift, cond_push (moved move_step_read (length a)))
      (same_else (leb (length b) start) _ _ _ (same_else (starts_with (ascii "none") (drop start b)) _ _ _
      (bind_moved move_filter move_step_read (length a) (parse_next b start) _ _ _ (next_shift start) (λ r. simp scan_shift))))
