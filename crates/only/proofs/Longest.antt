-- No number of CSS Values 3 that begins where the reader begins goes further than the reader.
use Prim.Native.Nat.{ℕ, suc, ◌+◌, ◌≤◌}
use mathlib.Core.Bool.{true, false, ◌||◌}
use mathlib.Core.List.{List, [], ◌∷◌, ◌++◌, append_assoc}
use mathlib.Core.Path.{◌≡◌, refl}
use native.Mathlib.Omega.{arith}
use lib.Dec.{eqb}
use lib.ListN.{length, get_or, drop, length-append, length-map}
use Rattle.text_bytes.specs.Bytes.{within, is_digit}
use Rattle.text_bytes.specs.Scan.{run, scan}
use Rattle.text_bytes.proofs.Ranges.{either}
use Rattle.text_bytes.proofs.Scans.{scan_ge}
use Rattle.numbers.specs.Number.{after_sign, mantissa_dot, mantissa_at, exponent_from, exponent_at}
use Rattle.numbers.proofs.Values.{sign_goes}
use Rattle.standards.specs.CssValues3.{Digit, numerals, Sign, sign, Digits, whole, dotted, digits, Exponent, absent, small, capital, exponent, Number, number}
use Rattle.standards.proofs.Cursors.{past, scan_on}
use Rattle.standards.proofs.Numbers.{numeral_is, begins, sign_is, dotted_apart, mantissa_is, raised, exponent_opens}

run_least : (ds : List Digit) (r : List ℕ) → length ds ≤ run is_digit (numerals ds ++ r)
unfolding run
run_least [] r = omega arith
run_least (d ∷ ds) r = simp (numeral_is d) (omega (arith, run_least ds r))

scan_least : (s : List ℕ) (at : ℕ) (ds : List Digit) (r : List ℕ) → drop at s ≡ numerals ds ++ r → at + length ds ≤ scan is_digit s at
scan_least s at ds r h = rw (scan_on s at (numerals ds ++ r) h is_digit _ refl) (omega (arith, run_least ds r))

-- the digits
far : (s : List ℕ) (at : ℕ) (m : Digits) (r : List ℕ) → drop at s ≡ digits m ++ r → at + length (digits m) ≤ (mantissa_at s at).end.0
unfolding digits mantissa_at mantissa_dot
far s at (whole d ds) r h =
    let dot = scan is_digit s at in
    let k : at + suc (length ds) ≤ dot = scan_least s at (d ∷ ds) r h in
    either (eqb (get_or s dot 0) 46) (λ e. simp (e, length-map) (omega (arith, k, scan_ge is_digit s (dot + 1)))) (λ e. simp (e, length-map) k)
far s at (dotted ds d fs) r h =
    let w = dotted_apart s at ds d fs r h in
    simp (w.0.scanned, w.0.next, length-append, length-map) (omega (arith, scan_least s (at + length ds + 1) (d ∷ fs) r w.1))

-- the exponent
least : (s : List ℕ) (at : ℕ) → at ≤ (exponent_at s at).end.0
unfolding exponent_at exponent_from
least s at =
    either (eqb (get_or s at 0) 101 || eqb (get_or s at 0) 69)
    (λ e. either (eqb (get_or s (at + 1) 0) 109 || eqb (get_or s (at + 1) 0) 120) (λ f. simp (e, f) (omega arith))
    (λ f. simp (e, f) (omega (arith, (sign_goes s (at + 1)).passes.grows, scan_ge is_digit s (after_sign s (at + 1))))))
    (λ e. simp e (omega arith))

module _ (s : List ℕ) (at : ℕ) (m : Digits) (r : List ℕ) where
  raised_far : (c : ℕ) (g : Sign) (d : Digit) (ds : List Digit) → is_digit c ≡ false → eqb c 46 ≡ false → (eqb c 101 || eqb c 69) ≡ true
      → drop at s ≡ digits m ++ ((c ∷ (sign g ++ numerals (d ∷ ds))) ++ r)
      → at + (length (digits m) + suc (length (sign g ++ numerals (d ∷ ds)))) ≤ (exponent_at s (mantissa_at s at).end.0).end.0
  unfolding exponent_from
  raised_far c g d ds p q l h =
      let w = c ∷ (sign g ++ numerals (d ∷ ds)) in
      let mid = at + length (digits m) in
      let k : drop mid s ≡ w ++ r = past s at (digits m) (w ++ r) h in
      simp (mantissa_is s at m (w ++ r) p (λ e. q) h, exponent_opens s mid c g d ds r l k, length-append, length-map)
      (omega (arith, scan_least s (mid + 1 + length (sign g)) (d ∷ ds) r (raised s mid c g d ds r l k)))

  onward : (x : Exponent) → drop at s ≡ digits m ++ (exponent x ++ r) → at + (length (digits m) + length (exponent x)) ≤ (exponent_at s (mantissa_at s at).end.0).end.0
  unfolding exponent within
  onward absent h = omega (arith, far s at m r h, least s (mantissa_at s at).end.0)
  onward (small g d ds) h = raised_far 101 g d ds refl refl refl h
  onward (capital g d ds) h = raised_far 69 g d ds refl refl refl h

pub reaches : (s : List ℕ) (at : ℕ) (t : Number) (r : List ℕ) → drop at s ≡ number t ++ r → at + length (number t) ≤ (exponent_at s (mantissa_at s (after_sign s at)).end.0).end.0
unfolding number
reaches s at t r h =
    let g = sign t.signed in
    let m = digits t.digits_of in
    let x = exponent t.exponent_part in
    let k : drop at s ≡ g ++ (m ++ (x ++ r)) = simp append_assoc at h in
    rw (sign_is s at t.signed (m ++ (x ++ r)) (begins t.digits_of (x ++ r)) k, length-append g (m ++ x), length-append m x)
    (omega (arith, onward s (at + length g) t.digits_of r t.exponent_part (past s at g (m ++ (x ++ r)) k)))
