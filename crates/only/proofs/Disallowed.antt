-- What the brackets of a function may not hold, by Filter Effects 1, is refused.
use Prim.Native.Nat.{ℕ, ◌+◌}
use mathlib.Core.Bool.{true, false, cond}
use mathlib.Core.List.{List, [], ◌∷◌, ◌++◌, append_assoc}
use mathlib.Core.Path.{◌≡◌, refl, sym, ◌∙◌}
use native.Mathlib.Nat.{add-zero}
use native.Mathlib.Omega.{arith}
use borrow.Author.Tests.{ne_eqb}
use lib.Ieee.{eq}
use lib.ListN.{length, get_or, drop}
use Rattle.text_bytes.specs.Bytes.{within, is_space}
use Rattle.text_bytes.specs.Moves.{place}
use Rattle.text_bytes.specs.Scan.{run}
use Rattle.text_bytes.specs.Words.{ascii, starts_with, same, is_curr_byte_eq}
use Rattle.text_bytes.proofs.Ranges.{either}
use Rattle.text_bytes.proofs.Wording.{begins_with}
use Rattle.stream.specs.Faults.{trouble_at}
use Rattle.stream.specs.Refusals.{number_of, reason_number}
use Rattle.stream.specs.declared.Trouble.TheVariants as T
use Rattle.floats.specs.Floats.{d0, sign_of}
use Rattle.numbers.specs.Number.{parse_number, parse_number_or_percent}
use Rattle.length.specs.Lengths.{unit_at, unit_width, parse_length}
use Rattle.length.specs.declared.LengthUnit.TheVariants as U
use Rattle.angle.specs.Angles.{parse_unit}
use Rattle.filter_functions.specs.Filters.{plain_name, filter_name, argument_of}
use Rattle.filter_functions.specs.Values.{is_percent, parse_filter_positive_length, parse_filter_angle, parse_blur, parse_hue_rotate, parse_generic_color_func}
use Rattle.filter_functions.specs.Shadow.{parse_drop_shadow_func}
use Rattle.filter_functions.specs.declared.Plain.{Plain}
use Rattle.filter_functions.specs.declared.FilterValue.{FilterValue}
use Rattle.stream.specs.declared.Fault.{Fault}
use Rattle.stream.specs.declared.Read.{Read}
use Rattle.std.specs.Prelude.{Result, Err, None}
use Rattle.standards.specs.Ieee754.{double}
use Rattle.standards.specs.CssValues3.{is_minus, joined, Number, number, exactly, is_integer, percentage, AngleUnit, deg, grad, rad, turn, angle_unit}
use Rattle.standards.specs.Domain.{InDomain}
use Rattle.standards.specs.FilterEffects1.{Simple, brightness, contrast, grayscale, invert, opacity, saturate, sepia, simple_name, name}
use Rattle.standards.specs.Answers.{Apart, read_on}
use Rattle.standards.proofs.Cursors.{blanks_scan, curr_is, curr_not, spaced_past}
use Rattle.standards.proofs.Numbers.{number_at}
use Rattle.standards.proofs.Reading.{ends_percent, ends_apart}
use Rattle.standards.proofs.Runs.{no_space, number_first}
use Rattle.standards.proofs.Signs.{double_sign, hundredth_sign}
use Rattle.only.proofs.Nonzero.{not_zero}
use Rattle.only.specs.Only.{Opens, name_at, held_at, position_at, Refuses}
use Rattle.only.proofs.Steps.{refuses, Reads, at_held, refused}

-- the names
blur_reads : Reads (ascii "blur")
unfolding run within starts_with
blur_reads = record { run_is = λ x. refl; unspaced = λ x. refl; no_none = λ x. refl }

hue_reads : Reads (ascii "hue-rotate")
unfolding run within starts_with
hue_reads = record { run_is = λ x. refl; unspaced = λ x. refl; no_none = λ x. refl }

shadow_reads : Reads (ascii "drop-shadow")
unfolding run within starts_with
shadow_reads = record { run_is = λ x. refl; unspaced = λ x. refl; no_none = λ x. refl }

simple_reads : (f : Simple) → Reads (simple_name f)
unfolding simple_name run within starts_with
simple_reads brightness = record { run_is = λ x. refl; unspaced = λ x. refl; no_none = λ x. refl }
simple_reads contrast = record { run_is = λ x. refl; unspaced = λ x. refl; no_none = λ x. refl }
simple_reads grayscale = record { run_is = λ x. refl; unspaced = λ x. refl; no_none = λ x. refl }
simple_reads invert = record { run_is = λ x. refl; unspaced = λ x. refl; no_none = λ x. refl }
simple_reads opacity = record { run_is = λ x. refl; unspaced = λ x. refl; no_none = λ x. refl }
simple_reads saturate = record { run_is = λ x. refl; unspaced = λ x. refl; no_none = λ x. refl }
simple_reads sepia = record { run_is = λ x. refl; unspaced = λ x. refl; no_none = λ x. refl }

number_unspaced : (t : Number) (rest : List ℕ) → is_space (get_or (number t ++ rest) 0 0) ≡ false
number_unspaced t rest = no_space (get_or (number t ++ rest) 0 0) (omega (arith, (number_first t rest).low))

signed : (t : Number) → sign_of (double (exactly t)) ≡ is_minus t.signed
unfolding exactly
signed t = double_sign (exactly t)

-- a number where something is read, not a closing bracket (41)
module _ (s : List ℕ) (name at : ℕ) (t : Number) (rest : List ℕ) (d : InDomain t) (e : Apart t rest) (h : drop at s ≡ number t ++ rest) where
  open_still : is_curr_byte_eq s at 41 ≡ false
  open_still = curr_not s at (number t ++ rest) h 41 (ne_eqb (get_or (number t ++ rest) 0 0) 41 (λ q. omega (arith, (number_first t rest).low)))

  abbrev end : ℕ
  end = at + (0 + length (number t))

  read : parse_number s at ≡ read_on (record { value = double (exactly t); whole = is_integer t; end = place end }) (place end)
  read = number_at s at [] t rest d e h

  blur_negative : is_minus t.signed ≡ true → parse_blur s name at ≡ Err (trouble_at T.NegativeValue at name (end + unit_width (unit_at s end)))
  unfolding parse_blur parse_filter_positive_length parse_length
  blur_negative m = simp (open_still, read, signed t, m)

  amount_negative : (f : Plain) → is_minus t.signed ≡ true
      → parse_generic_color_func s name at f ≡ Err (trouble_at T.NegativeValue at name (cond (is_curr_byte_eq s end 37) (end + 1) end))
  unfolding parse_generic_color_func parse_number_or_percent
  amount_negative f m = either (is_curr_byte_eq s end 37) (λ q. simp (open_still, read, q, hundredth_sign, signed t, m)) (λ q. simp (open_still, read, q, signed t, m))

  blur_percentage : is_minus t.signed ≡ false → unit_at s end ≡ U.Percent → parse_blur s name at ≡ Err (trouble_at T.PercentageValue at name (end + 1))
  unfolding parse_blur parse_filter_positive_length parse_length is_percent unit_width
  blur_percentage m u = simp (open_still, read, signed t, m, u)

  hue_unmarked : eq (double (exactly t)) d0 ≡ false → parse_unit s end ≡ None → parse_hue_rotate s name at ≡ Err (trouble_at T.InvalidAngle at name end)
  unfolding parse_hue_rotate parse_filter_angle
  hue_unmarked z u = simp (open_still, blanks_scan s at [] (number t ++ rest) h (number_unspaced t rest) ∙ add-zero at, read, u, z)

percent_there : (s : List ℕ) (i : ℕ) (rest : List ℕ) → drop i s ≡ 37 ∷ rest → unit_at s i ≡ U.Percent
unfolding unit_at starts_with
percent_there s i rest h = simp h

-- where no unit of an angle stands, none is read
no_angle_unit : (s : List ℕ) (i : ℕ) → ((u : AngleUnit) (r : List ℕ) → drop i s ≡ angle_unit u ++ r → ⊥) → parse_unit s i ≡ None
unfolding parse_unit angle_unit
no_angle_unit s i none = simp (never (ascii "deg") deg refl, never (ascii "grad") grad refl, never (ascii "rad") rad refl, never (ascii "turn") turn refl)
  where
    never : (w : List ℕ) (u : AngleUnit) → angle_unit u ≡ w → starts_with w (drop i s) ≡ false
    never w u q = either (starts_with w (drop i s)) (λ b. absurd (none u (drop (length w) (drop i s)) (begins_with w (drop i s) b ∙ rw q refl))) (λ b. b)

-- the seven names are those of the plain functions
plain_is : (f : Simple) (s : List ℕ) (name at : ℕ) (x : Result (Read FilterValue) Fault) → ((g : Plain) → parse_generic_color_func s name at g ≡ x) → argument_of (filter_name (simple_name f)) s name at ≡ x
unfolding simple_name filter_name plain_name same
plain_is brightness s name at x h = h Plain.Brightness
plain_is contrast s name at x h = h Plain.Contrast
plain_is grayscale s name at x h = h Plain.Grayscale
plain_is invert s name at x h = h Plain.Invert
plain_is opacity s name at x h = h Plain.Opacity
plain_is saturate s name at x h = h Plain.Saturate
plain_is sepia s name at x h = h Plain.Sepia

module _ {s : List ℕ} {i : ℕ} (t : Number) (rest : List ℕ) where
  -- THEOREM. A blur of a number with a minus sign is refused by 12
  pub negative_blur : (o : Opens s i (ascii "blur") (number t ++ rest)) → InDomain t → is_minus t.signed ≡ true → Apart t rest → Refuses s i 12 (position_at s (held_at o))
  unfolding filter_name same reason_number number_of
  negative_blur o d m e =
      let sp = number_unspaced t rest in
      refuses s i T.NegativeValue (held_at o) (name_at o) _ refl o.stands.admitted
      (refused o blur_reads sp _ (blur_negative s (name_at o) (held_at o) t rest d e (at_held o blur_reads) m))

  -- THEOREM. So is each of the seven plain functions, of a number and of a percentage
  pub negative_amount : (f : Simple) (o : Opens s i (simple_name f) (number t ++ rest)) → InDomain t → is_minus t.signed ≡ true → Apart t rest → Refuses s i 12 (position_at s (held_at o))
  unfolding reason_number number_of
  negative_amount f o d m e =
      let sp = number_unspaced t rest in
      refuses s i T.NegativeValue (held_at o) (name_at o) _ refl o.stands.admitted
      (refused o (simple_reads f) sp _ (plain_is f s (name_at o) (held_at o) _ (λ g. amount_negative s (name_at o) (held_at o) t rest d e (at_held o (simple_reads f)) g m)))

  -- THEOREM. A hue-rotate of a number that is not zero, with no unit, is refused by 13
  pub unmarked_angle : (o : Opens s i (ascii "hue-rotate") (number t ++ rest)) → InDomain t → (joined t.digits_of ≡ 0 → ⊥) → Apart t rest
      → ((u : AngleUnit) (r : List ℕ) → rest ≡ angle_unit u ++ r → ⊥) → Refuses s i 13 (position_at s (held_at o))
  unfolding filter_name same reason_number number_of
  unmarked_angle o d z e none =
      let sp = number_unspaced t rest in
      let h = at_held o hue_reads in
      let at = held_at o in
      let p : drop (at + (0 + length (number t))) s ≡ rest = spaced_past s at [] (number t) rest h in
      refuses s i T.InvalidAngle at (name_at o) _ refl o.stands.admitted
      (refused o hue_reads sp _ (hue_unmarked s (name_at o) at t rest d e h (not_zero t d z) (no_angle_unit s _ (λ u r q. none u r (sym p ∙ q)))))

-- THEOREM. A blur of a percentage is refused by 11
pub percentage_blur : {s : List ℕ} {i : ℕ} (t : Number) (rest : List ℕ) (o : Opens s i (ascii "blur") (percentage t ++ rest)) → InDomain t → is_minus t.signed ≡ false
    → Refuses s i 11 (position_at s (held_at o))
unfolding filter_name same reason_number number_of
percentage_blur {s} {i} t rest o d m =
    let after : List ℕ = 37 ∷ rest in
    let q : percentage t ++ rest ≡ number t ++ after = append_assoc (number t) (37 ∷ []) rest in
    let sp : is_space (get_or (percentage t ++ rest) 0 0) ≡ false = rw q (number_unspaced t after) in
    let at = held_at o in
    let h : drop at s ≡ number t ++ after = at_held o blur_reads ∙ q in
    let p : drop (at + (0 + length (number t))) s ≡ after = spaced_past s at [] (number t) after h in
    refuses s i T.PercentageValue at (name_at o) _ refl o.stands.admitted
    (refused o blur_reads sp _ (blur_percentage s (name_at o) at t after d (ends_apart t (ends_percent rest)) h m (percent_there s _ rest p)))

-- THEOREM. drop-shadow() is refused by 14
pub empty_shadow : {s : List ℕ} {i : ℕ} (rest : List ℕ) (o : Opens s i (ascii "drop-shadow") (41 ∷ rest)) → Refuses s i 14 (position_at s (held_at o))
unfolding filter_name same reason_number number_of parse_drop_shadow_func
empty_shadow {s} {i} rest o =
    refuses s i T.MissingDropShadowOffset (held_at o) (name_at o) (held_at o) refl o.stands.admitted
    (refused o shadow_reads refl (trouble_at T.MissingDropShadowOffset (held_at o) (name_at o) (held_at o)) (simp (curr_is s (held_at o) 41 rest (at_held o shadow_reads))))
