-- shift: reading at `length a + i` of `a ++ b` is reading at i of b, with every place moved by `length a`.
use Prim.Native.Nat.{ℕ, ◌+◌}
use mathlib.Core.Bool.{Bool, true, false, cond, ◌||◌}
use mathlib.Core.List.{List, ◌++◌}
use mathlib.Core.Path.{◌≡◌, refl}
use lib.Dec.{eqb, leb}
use lib.ListN.{length, get_or}
use Rattle.text_bytes.specs.Bytes.{is_digit}
use Rattle.text_bytes.specs.Moves.{move_place}
use Rattle.stream.specs.Moves.{moved, move_read}
use Rattle.stream.proofs.Binds.{bind_moved}
use native.Mathlib.Nat.{add_assoc}
use Rattle.text_bytes.specs.Scan.{scan}
use Rattle.text_bytes.proofs.Scans.{scan_shift}
use Rattle.text_bytes.proofs.Shifts.{shifts, cond_push, same_else, curr_shift}
use Rattle.stream.proofs.Shifts.{separator_shift}
use Rattle.numbers.specs.Moves.{Number, move_written}
use Rattle.numbers.specs.Number.{Mantissa, Exponent, after_sign, mantissa_at, mantissa_dot, exponent_at, exponent_from, finished, scaled, number_from, parse_number, parse_number_or_percent, after_item, parse_list_number, parse_list_number_or_percent}

abbrev move_mantissa : ℕ → Mantissa → Mantissa
move_mantissa k m = record { ok = m.ok; value = m.value; fraction = m.fraction; dotted = m.dotted; end = move_place k m.end }

abbrev move_exponent : ℕ → Exponent → Exponent
move_exponent k e = record { ok = e.ok; minus = e.minus; value = e.value; written = e.written; end = move_place k e.end }

-- the other way round than `cond_push`, for two structs
cond_pull : {A B : Type 0} (f : A → B) (t : Bool) (x y : A) → cond t (f x) (f y) ≡ f (cond t x y)
cond_pull f true x y = refl
cond_pull f false x y = refl

cond_pulls : {A B : Type 0} (f : A → B) (t u : Bool) (x y z : A) → cond t (cond u (f x) (f y)) (f z) ≡ f (cond t (cond u x y) z)
cond_pulls f true u x y z = cond_pull f u x y
cond_pulls f false u x y z = refl

module _ (a b : List ℕ) where
  sign_shift : (i : ℕ) → after_sign (a ++ b) (length a + i) ≡ length a + after_sign b i
  unfolding after_sign
  sign_shift i = simp (shifts, cond_push (λ (n : ℕ). length a + n))

  dot_shift : (at dot : ℕ) → mantissa_dot (a ++ b) (length a + at) (length a + dot) ≡ move_mantissa (length a) (mantissa_dot b at dot)
  unfolding mantissa_dot
  dot_shift at dot = simp shifts (cond_pull (move_mantissa (length a)) (eqb (get_or b dot 0) 46) _ _)

  mantissa_shift : (at : ℕ) → mantissa_at (a ++ b) (length a + at) ≡ move_mantissa (length a) (mantissa_at b at)
  unfolding mantissa_at
  mantissa_shift at = simp scan_shift (dot_shift at (scan is_digit b at))

  from_shift : (from : ℕ) (minus : Bool) → exponent_from (a ++ b) (length a + from) minus ≡ move_exponent (length a) (exponent_from b from minus)
  unfolding exponent_from
  from_shift from minus = simp shifts

  exponent_shift : (at : ℕ) → exponent_at (a ++ b) (length a + at) ≡ move_exponent (length a) (exponent_at b at)
  unfolding exponent_at
  exponent_shift at =
      simp (shifts, sign_shift, from_shift)
      (cond_pulls (move_exponent (length a)) (eqb (get_or b at 0) 101 || eqb (get_or b at 0) 69) (eqb (get_or b (at + 1) 0) 109 || eqb (get_or b (at + 1) 0) 120) _ _ _)

  finished_shift : (minus : Bool) (m : Mantissa) (e : Exponent) (start : ℕ)
      → finished minus (move_mantissa (length a) m) (move_exponent (length a) e) (length a + start) ≡ moved (move_read move_written) (length a) (finished minus m e start)
  unfolding finished scaled
  finished_shift minus m e start = simp (cond_push (moved (move_read {A = Number} move_written) (length a)))

  from_start_shift : (start : ℕ) → number_from (a ++ b) (length a + start) ≡ moved (move_read move_written) (length a) (number_from b start)
  unfolding number_from
  from_start_shift start = simp (shifts, sign_shift, mantissa_shift, exponent_shift, finished_shift)

  pub number_shift : (i : ℕ) → parse_number (a ++ b) (length a + i) ≡ moved (move_read move_written) (length a) (parse_number b i)
  unfolding parse_number
  number_shift i = simp (shifts, from_start_shift, cond_push (moved (move_read {A = Number} move_written) (length a)))

  pub percent_shift : (i : ℕ) → parse_number_or_percent (a ++ b) (length a + i) ≡ moved (move_read move_written) (length a) (parse_number_or_percent b i)
  unfolding parse_number_or_percent
  percent_shift i =
      bind_moved (move_read move_written) (move_read move_written) (length a) (parse_number b i) _ _ _ (number_shift i)
      (λ r. simp (curr_shift, add_assoc, cond_push (move_read {A = Number} move_written (length a))))

  pub item_shift : (i : ℕ) → after_item (a ++ b) (length a + i) ≡ length a + after_item b i
  item_shift i = simp (scan_shift, separator_shift)

  pub list_number_shift : (i : ℕ) → parse_list_number (a ++ b) (length a + i) ≡ moved (move_read move_written) (length a) (parse_list_number b i)
  unfolding parse_list_number
  list_number_shift i =
      simp (shifts, cond_push (moved (move_read {A = Number} move_written) (length a)))
      (same_else (leb (length b) i) _ _ _
      (bind_moved (move_read move_written) (move_read move_written) (length a) (parse_number b i) _ _ _ (number_shift i) (λ r. simp item_shift)))

  pub list_percent_shift : (i : ℕ) → parse_list_number_or_percent (a ++ b) (length a + i) ≡ moved (move_read move_written) (length a) (parse_list_number_or_percent b i)
  unfolding parse_list_number_or_percent
  list_percent_shift i =
      simp (shifts, cond_push (moved (move_read {A = Number} move_written) (length a)))
      (same_else (leb (length b) i) _ _ _
      (bind_moved (move_read move_written) (move_read move_written) (length a) (parse_number_or_percent b i) _ _ _ (percent_shift i) (λ r. simp item_shift)))

pub ruleset number_shifts = (number_shift, percent_shift, list_number_shift, list_percent_shift)
