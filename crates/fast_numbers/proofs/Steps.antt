-- What digits make where no exponent follows is what the plain reader reads.
use Prim.Native.Nat.{ℕ, zero, suc, ◌+◌, ◌-◌, ◌≤◌, ◌<◌, min}
use mathlib.Core.Bool.{Bool, true, false, ◌&&◌, ◌||◌, not, true≢false}
use mathlib.Core.List.{List}
use mathlib.Core.Logic.{⊎_elim}
use mathlib.Core.Path.{◌≡◌, refl, sym, ◌∙◌}
use native.Mathlib.Omega.{arith}
use borrow.Author.Tests.{ne_eqb, lt-leb, lt-ltb, le-ltb, ltb-true, leb-true}
use lib.Dec.{eqb, leb, ltb, lit<}
use lib.ListN.{length, get_or, drop, get_or-eq_default}
use Rattle.std.specs.Prelude.{Option, Some, None, if◌then◌else◌}
use Rattle.text_bytes.specs.Bytes.{within, is_digit, is_sign, is_space}
use Rattle.text_bytes.specs.Moves.{place}
use Rattle.text_bytes.specs.Scan.{scan}
use Rattle.text_bytes.proofs.Parts.{byte_inside}
use Rattle.text_bytes.proofs.Ranges.{and_true, either, lt_or_le, within_ge}
use Rattle.text_bytes.proofs.Scans.{scan_start, scan_end, scan_here}
use Rattle.numbers.proofs.Sums.{capped}
use Rattle.numbers.specs.Digits.{value, cap}
use Rattle.numbers.specs.Moves.{Number}
use Rattle.numbers.specs.Number.{starts_number, after_sign, mantissa_at, mantissa_dot, exponent_at, exponent_from, no_exponent, scale_of, value_of, scaled, finished, number_from, parse_number}
use Rattle.fast_numbers.specs.Leads.{lead_at}
use Rattle.fast_numbers.specs.Told.{told_number}

-- Where the digits start. A digit is neither a space nor a sign
pub lead_digit : (s : List ℕ) (at : ℕ) → is_digit (get_or s at 0) ≡ true → lead_at s at ≡ record { from = place at; minus = false }
unfolding lead_at after_sign
lead_digit s at e =
    let low : 48 ≤ get_or s at 0 = within_ge 48 57 (get_or s at 0) (sym e) in
    let other : (c : ℕ) → c < 48 → eqb (get_or s at 0) c ≡ false = λ c l. ne_eqb (get_or s at 0) c (λ e. omega arith) in
    let there : at < length s = byte_inside s at (get_or s at 0) refl (omega arith) in
    let still = scan_here is_space s at (simp (other 32 (lit< tt), other 9 (lit< tt), other 10 (lit< tt), other 13 (lit< tt))) there in
    simp (still, other 43 (lit< tt), other 45 (lit< tt))

unwritten : (s : List ℕ) (at : ℕ) → (exponent_at s at).written ≡ false → exponent_at s at ≡ no_exponent at
unfolding exponent_at exponent_from
unwritten s at e =
    either (eqb (get_or s at 0) 101 || eqb (get_or s at 0) 69)
    (λ f. either (eqb (get_or s (at + 1) 0) 109 || eqb (get_or s (at + 1) 0) 120)
    (λ g. simp (f, g))
    (λ g. absurd (true≢false (simp (f, g) at e))))
    (λ f. simp f)

-- What does not start as a number has no digits, so that it need not be looked at first
or_false : (a b : Bool) → (a || b) ≡ false → (a ≡ false) × (b ≡ false)
or_false true b e = absurd (true≢false e)
or_false false b e = (refl, e)

unformed : (s : List ℕ) (i : ℕ) → starts_number (get_or s i 0) ≡ false → (mantissa_at s (after_sign s i)).ok ≡ false
unfolding after_sign mantissa_at mantissa_dot
unformed s i e =
    let first = or_false (is_digit (get_or s i 0)) _ e in
    let rest = or_false (is_sign (get_or s i 0)) _ first.1 in
    let none : scan is_digit s i ≡ i =
    ⊎_elim
    (λ (h : i < length s). scan_here is_digit s i first.0 h)
    (λ (h : length s ≤ i). sym (scan_end (scan_start is_digit s i) h))
    (lt_or_le i (length s)) in
    simp (rest.0, none, rest.1, le-ltb i i (omega arith))

unread : (s : List ℕ) (i : ℕ) → starts_number (get_or s i 0) ≡ false → None ≡ told_number (number_from s i)
unfolding number_from finished told_number
unread s i f = simp (unformed s i f)

begins : (s : List ℕ) (at : ℕ) → told_number (parse_number s at) ≡ told_number (number_from s (scan is_space s at))
unfolding parse_number told_number within
begins s at =
    let i = scan is_space s at in
    either (leb (length s) i)
    (λ e. simp e (unread s i (simp (get_or-eq_default s 0 (leb-true (length s) i e)))))
    (λ e. either (starts_number (get_or s i 0)) (λ f. simp (e, f)) (λ f. simp (e, f) (unread s i f)))

-- The number that digits make: M, and how many of its digits are a fraction
abbrev made : Bool → Bool → Bool → ℕ → ℕ → ℕ → Option Number
made minus ok dotted m f end = if ok && (ltb m cap && leb f 22) then Some (record { value = value_of minus m (ltb 0 f) f; whole = not dotted; end = place end }) else None

unscaled : (f : ℕ) → scale_of false 0 f ≡ record { down = ltb 0 f; by = f }
unfolding scale_of
unscaled zero = refl
unscaled (suc f) =
    let all : suc f - 0 ≡ suc f = omega arith in
    simp (lt-leb (suc f) 0 (omega arith), lt-ltb 0 (suc f) (omega arith), all)

-- M that is held at the cap is refused as M is
held : (minus ok dotted : Bool) (m f end : ℕ) → made minus ok dotted m f end ≡ made minus ok dotted (min cap m) f end
held minus ok dotted m f end =
    ⊎_elim
    (λ (l : m < cap). let e : min cap m ≡ m = omega arith in rw e refl)
    (λ (l : cap ≤ m). simp (le-ltb m cap l, le-ltb (min cap m) cap (omega arith)) (either ok (λ a. simp a) (λ a. simp a)))
    (lt_or_le m cap)

module _ (s : List ℕ) (at : ℕ) where
  abbrev from : ℕ
  from = (lead_at s at).from.0

  abbrev minus : Bool
  minus = (lead_at s at).minus

  number_made : {ok dotted : Bool} {m f end : ℕ} → mantissa_at s from ≡ record { ok = ok; value = m; fraction = f; dotted = dotted; end = place end }
      → (exponent_at s end).written ≡ false → told_number (parse_number s at) ≡ made minus ok dotted (min cap m) f end
  unfolding lead_at number_from finished scaled told_number
  number_made {ok} {dotted} {m} {f} {end} q x =
      let none = unwritten s end x in
      rw (begins s at)
      (either ok
      (λ a. either (ltb m cap)
      (λ b. either (leb f 22) (λ c. either dotted (λ d. simp (q, none, a, b, unscaled, c, d)) (λ d. simp (q, none, a, b, unscaled, c, d))) (λ c. simp (q, none, a, b, unscaled, c)))
      (λ b. simp (q, none, a, b)))
      (λ a. simp (q, a)))
      ∙ held minus ok dotted m f end

  abbrev dot : ℕ
  dot = scan is_digit s from

  abbrev digits : ℕ
  digits = min cap (value 0 (drop from s))

  -- digits alone
  pub whole_told : (get_or s dot 0 ≡ 46 → ⊥) → (exponent_at s dot).written ≡ false
      → told_number (parse_number s at) ≡ (if ltb from dot && ltb digits cap then Some (record { value = value_of minus digits false 0; whole = true; end = place dot }) else None)
  unfolding mantissa_at mantissa_dot
  whole_told h x =
      let m : mantissa_at s from ≡ record { ok = ltb from dot; value = value 0 (drop from s); fraction = 0; dotted = false; end = place dot } = simp (ne_eqb (get_or s dot 0) 46 h) in
      number_made m x ∙ simp and_true

  abbrev end : ℕ
  end = scan is_digit s (dot + 1)

  abbrev all : ℕ
  all = min cap (value digits (drop (dot + 1) s))

  -- digits, a dot and the digits after it
  pub fraction_told : get_or s dot 0 ≡ 46 → (exponent_at s end).written ≡ false
      → told_number (parse_number s at) ≡ (if ltb (dot + 1) end && (ltb all cap && leb (end - (dot + 1)) 22)
      then Some (record { value = value_of minus all true (end - (dot + 1)); whole = false; end = place end }) else None)
  unfolding mantissa_at mantissa_dot
  fraction_told h x =
      let m : mantissa_at s from
      ≡ record { ok = ltb (dot + 1) end; value = value (value 0 (drop from s)) (drop (dot + 1) s); fraction = end - (dot + 1); dotted = true; end = place end } =
      simp h in
      number_made m x
      ∙ rw (← capped cap (value 0 (drop from s)) (drop (dot + 1) s))
      (either (ltb (dot + 1) end)
      (λ e. let some : ltb 0 (end - (dot + 1)) ≡ true = lt-ltb 0 (end - (dot + 1)) (omega (arith, ltb-true (dot + 1) end e)) in simp (e, some))
      (λ e. simp e))
