-- Every number of CSS Values 3 that keeps to the domain, and with which what follows does not go on, is read as the double nearest to it, with its end.
use Prim.Native.Nat.{ℕ, suc, ◌+◌, ◌-◌, ◌*◌, ◌≤◌, ◌<◌}
use mathlib.Core.Bool.{Bool, true, false, ◌||◌, ◌&&◌, not}
use mathlib.Core.List.{List, [], ◌∷◌, ◌++◌, append_assoc}
use mathlib.Core.Path.{◌≡◌, refl, sym, ap, ◌∙◌}
use native.Mathlib.Omega.{arith}
use native.Mathlib.Nat.{zero-add}
use borrow.Author.Tests.{ne_eqb, lt-ltb, le-leb, lt-leb}
use lib.Dec.{eqb, leb, lit≤}
use lib.Ieee.{Float}
use lib.ListN.{length, get_or, drop, length-append, length-map}
use Rattle.text_bytes.specs.Bytes.{within, is_digit, is_sign, is_space}
use Rattle.text_bytes.specs.Moves.{place}
use Rattle.text_bytes.specs.Scan.{scan}
use Rattle.text_bytes.proofs.Ranges.{either, within_yes}
use Rattle.numbers.specs.Decimal.{written, nearest}
use Rattle.numbers.specs.Digits.{value, cap}
use Rattle.numbers.specs.Number.{starts_number, after_sign, mantissa_dot, mantissa_at, exponent_from, exponent_at, scale_of, value_of, scaled, finished, number_from, parse_number, parse_number_or_percent}
use Rattle.numbers.proofs.Nearest.{number_nearest}
use Rattle.standards.specs.Ieee754.{double}
use Rattle.standards.specs.CssValues3.{Blank, blanks, Digit, numeral, numerals, spelt, Sign, unsigned, plus, minus, sign, is_minus, Digits, whole, dotted, digits, Exponent, absent, small, capital, exponent, Number, number, joined, fraction_digits, power, falls, exactly, is_whole, is_absent, is_integer}
use Rattle.standards.specs.Domain.{Near, InDomain}
use Rattle.standards.specs.Answers.{Apart, number_of, portion, read_on}
use Rattle.standards.proofs.Reading.{ends_percent, ends_apart, NumbersRead}
use Rattle.standards.proofs.Runs.{no_space, number_first, number_some}
use Rattle.standards.proofs.Cursors.{byte_here, byte_on, drop_on, inside, curr_is, past, map_past, map_scan, blanks_past, blanks_scan, spaced_past}

pub numeral_is : (d : Digit) → is_digit (numeral d) ≡ true
unfolding numeral
numeral_is d = sym (within_yes 48 57 (48 + d.is) (omega arith) (omega (arith, d.small)))

-- the value of digits is the number that they spell
spelt_is : (a : ℕ) (ds : List Digit) (rest : List ℕ) → is_digit (get_or rest 0 0) ≡ false → value a (numerals ds ++ rest) ≡ spelt a ds
unfolding value spelt
spelt_is a [] [] e = refl
spelt_is a [] (x ∷ xs) e = simp e
spelt_is a (d ∷ ds) rest e =
    let n : numeral d - 48 ≡ d.is = unfold numeral in omega arith in
    simp (numeral_is d, n, spelt_is (a * 10 + d.is) ds rest e)

or_second : (t u : Bool) → (t || u) ≡ false → u ≡ false
or_second true u e = absurd (let z : ◌≡◌ {A = ℕ} 0 1 = cc in omega arith)
or_second false u e = e

-- ds are all the digits at a place, and rest what follows them
pub record Figures (s : List ℕ) (at : ℕ) (ds : List Digit) (rest : List ℕ) : Type 0 where
  pub scanned : scan is_digit s at ≡ at + length ds
  pub spells : (a : ℕ) → value a (drop at s) ≡ spelt a ds
  pub past : drop (at + length ds) s ≡ rest
  pub next : get_or s (at + length ds) 0 ≡ get_or rest 0 0

pub figures_are : (s : List ℕ) (at : ℕ) (ds : List Digit) (rest : List ℕ) → is_digit (get_or rest 0 0) ≡ false → drop at s ≡ numerals ds ++ rest → Figures s at ds rest
figures_are s at ds rest e h =
    let p : drop (at + length ds) s ≡ rest = map_past s at numeral ds rest h in
    record {
      scanned = map_scan s at numeral ds rest h is_digit numeral_is e;
      spells = λ a. ap (λ (y : List ℕ). value a y) h ∙ spelt_is a ds rest e;
      past = p;
      next = byte_here s (at + length ds) rest p;
    }

-- a numeral is none of the other bytes of a number
below : (d : Digit) (k : ℕ) → k < 48 → eqb (numeral d) k ≡ false
unfolding numeral
below d k h = ne_eqb (48 + d.is) k (λ e. omega arith)

above : (d : Digit) (k : ℕ) → 57 < k → eqb (numeral d) k ≡ false
unfolding numeral
above d k h = ne_eqb (48 + d.is) k (λ e. omega (arith, d.small))

no_sign : (d : Digit) → is_sign (numeral d) ≡ false
no_sign d = simp (below d 43 (lit≤ tt), below d 45 (lit≤ tt))

pub begins : (m : Digits) (r : List ℕ) → is_sign (get_or (digits m ++ r) 0 0) ≡ false
unfolding digits
begins (whole d ds) r = no_sign d
begins (dotted [] d fs) r = refl
begins (dotted (d ∷ ds) f fs) r = no_sign d

no_dot : is_digit 46 ≡ false
unfolding within
no_dot = refl

module _ (s : List ℕ) (at : ℕ) where
  -- the sign
  pub sign_is : (g : Sign) (r : List ℕ) → is_sign (get_or r 0 0) ≡ false → drop at s ≡ sign g ++ r → after_sign s at ≡ at + length (sign g)
  unfolding after_sign sign
  sign_is unsigned r e h = simp (byte_here s at r h, e) (omega arith)
  sign_is plus r e h = simp (byte_here s at (43 ∷ r) h)
  sign_is minus r e h = simp (byte_here s at (45 ∷ r) h)

  minus_is : (g : Sign) (r : List ℕ) → is_sign (get_or r 0 0) ≡ false → drop at s ≡ sign g ++ r → eqb (get_or s at 0) 45 ≡ is_minus g
  unfolding sign is_minus
  minus_is unsigned r e h = rw (byte_here s at r h) (or_second (eqb (get_or r 0 0) 43) (eqb (get_or r 0 0) 45) e)
  minus_is plus r e h = rw (byte_here s at (43 ∷ r) h) refl
  minus_is minus r e h = rw (byte_here s at (45 ∷ r) h) refl

  -- the digits, the dot
  pub dotted_apart : (ds : List Digit) (d : Digit) (fs : List Digit) (r : List ℕ) → drop at s ≡ digits (dotted ds d fs) ++ r
      → (Figures s at ds (46 ∷ (numerals (d ∷ fs) ++ r))) × (drop (at + length ds + 1) s ≡ numerals (d ∷ fs) ++ r)
  unfolding digits
  dotted_apart ds d fs r h =
      let after = numerals (d ∷ fs) ++ r in
      let f = figures_are s at ds (46 ∷ after) no_dot (simp append_assoc at h) in
      (f, drop_on s (at + length ds) (46 ∷ after) f.past 1)

  pub mantissa_is : (m : Digits) (r : List ℕ) → is_digit (get_or r 0 0) ≡ false → (is_whole m ≡ true → eqb (get_or r 0 0) 46 ≡ false) → drop at s ≡ digits m ++ r
      → mantissa_at s at ≡ record { ok = true; value = joined m; fraction = fraction_digits m; dotted = not (is_whole m); end = place (at + length (digits m)) }
  unfolding mantissa_at mantissa_dot digits joined fraction_digits is_whole
  mantissa_is (whole d ds) r e f h =
      let w = figures_are s at (d ∷ ds) r e h in
      simp (w.scanned, w.next, f refl, w.spells 0, lt-ltb at (at + suc (length ds)) (omega arith)) (simp length-map)
  mantissa_is (dotted ds d fs) r e f h =
      let w = dotted_apart ds d fs r h in
      let dot = at + length ds in
      let v = figures_are s (dot + 1) (d ∷ fs) r e w.1 in
      let end = at + (length ds + suc (suc (length fs))) in
      let y : dot + 1 + suc (length fs) ≡ end = omega arith in
      let z : end - (dot + 1) ≡ suc (length fs) = omega arith in
      simp (w.0.scanned, w.0.next, w.0.spells 0, v.scanned, v.spells (spelt 0 ds), y, z, lt-ltb (dot + 1) end (omega arith)) (simp (length-append, length-map))

  -- the exponent's letter, after which stands no m and no x (109, 120)
  no_unit : (g : Sign) (d : Digit) (r : List ℕ) → drop (at + 1) s ≡ sign g ++ (numeral d ∷ r) → (eqb (get_or s (at + 1) 0) 109 || eqb (get_or s (at + 1) 0) 120) ≡ false
  unfolding sign
  no_unit unsigned d r h = simp (byte_here s (at + 1) (numeral d ∷ r) h, above d 109 (lit≤ tt), above d 120 (lit≤ tt))
  no_unit plus d r h = simp (byte_here s (at + 1) (43 ∷ (numeral d ∷ r)) h)
  no_unit minus d r h = simp (byte_here s (at + 1) (45 ∷ (numeral d ∷ r)) h)

-- and what follows the letter c
module _ (s : List ℕ) (at c : ℕ) (g : Sign) (d : Digit) (ds : List Digit) (r : List ℕ) (l : (eqb c 101 || eqb c 69) ≡ true) (h : drop at s ≡ (c ∷ (sign g ++ numerals (d ∷ ds))) ++ r) where
  abbrev after : List ℕ
  after = numerals (d ∷ ds) ++ r

  lettered : drop at s ≡ c ∷ (sign g ++ after)
  lettered = h ∙ ap (λ (y : List ℕ). c ∷ y) (append_assoc (sign g) (numerals (d ∷ ds)) r)

  signed : drop (at + 1) s ≡ sign g ++ after
  signed = drop_on s at (c ∷ (sign g ++ after)) lettered 1

  pub raised : drop (at + 1 + length (sign g)) s ≡ after
  raised = past s (at + 1) (sign g) after signed

  pub exponent_opens : exponent_at s at ≡ exponent_from s (at + 1 + length (sign g)) (is_minus g)
  unfolding exponent_at
  exponent_opens =
      simp (
        byte_here s at (c ∷ (sign g ++ after)) lettered,
        l,
        no_unit s at g d (numerals ds ++ r) signed,
        sign_is s (at + 1) g after (no_sign d) signed,
        minus_is s (at + 1) g after (no_sign d) signed,
      )

  exponent_ends : is_digit (get_or r 0 0) ≡ false
      → exponent_at s at ≡ record { ok = true; minus = is_minus g; value = spelt 0 (d ∷ ds); written = true; end = place (at + suc (length (sign g ++ numerals (d ∷ ds)))) }
  unfolding exponent_from
  exponent_ends e =
      let from = at + 1 + length (sign g) in
      let end = at + suc (length (sign g) + suc (length ds)) in
      let y : from + suc (length ds) ≡ end = omega arith in
      let v = figures_are s from (d ∷ ds) r e raised in
      exponent_opens ∙ simp (v.scanned, v.spells 0, y, lt-ltb from end (omega arith)) (simp (length-append, length-map))

module _ (s : List ℕ) (at : ℕ) where
  pub exponent_is : (x : Exponent) (r : List ℕ) → is_digit (get_or r 0 0) ≡ false
      → (is_absent x ≡ true → ((eqb (get_or r 0 0) 101 || eqb (get_or r 0 0) 69) && not (eqb (get_or r 1 0) 109 || eqb (get_or r 1 0) 120)) ≡ false) → drop at s ≡ exponent x ++ r
      → exponent_at s at ≡ record { ok = true; minus = falls x; value = power x; written = not (is_absent x); end = place (at + length (exponent x)) }
  unfolding exponent_at exponent falls power is_absent
  exponent_is absent r e f h =
      let z : at + 0 ≡ at = omega arith in
      either (eqb (get_or r 0 0) 101 || eqb (get_or r 0 0) 69)
      (λ p. either (eqb (get_or r 1 0) 109 || eqb (get_or r 1 0) 120) (λ q. simp (byte_here s at r h, byte_on s at r h 1, p, q, z))
      (λ q. let y : true ≡ false = simp (p, q) at (f refl) in cc))
      (λ p. simp (byte_here s at r h, p, z))
  exponent_is (small g d ds) r e f h = exponent_ends s at 101 g d ds r refl h e
  exponent_is (capital g d ds) r e f h = exponent_ends s at 69 g d ds r refl h e

-- what follows the digits is no digit, and no dot after whole ones
after_digit : (x : Exponent) (r : List ℕ) → is_digit (get_or r 0 0) ≡ false → is_digit (get_or (exponent x ++ r) 0 0) ≡ false
unfolding exponent within
after_digit absent r e = e
after_digit (small g d ds) r e = refl
after_digit (capital g d ds) r e = refl

after_dot : (b : Bool) (x : Exponent) (r : List ℕ) → ((b && is_absent x) ≡ true → eqb (get_or r 0 0) 46 ≡ false) → b ≡ true → eqb (get_or (exponent x ++ r) 0 0) 46 ≡ false
unfolding exponent is_absent
after_dot b absent r e q = e (rw q refl)
after_dot b (small g d ds) r e q = refl
after_dot b (capital g d ds) r e q = refl

near_is : (down : Bool) (e f : ℕ) → Near down e f → (scale_of down e f).by ≤ 22
unfolding scale_of
near_is true e f n = n
near_is false e f n = either (leb f e) (λ q. simp q (omega (arith, n.0))) (λ q. simp q (omega (arith, n.1)))

whole_is : (a b : Bool) → not (not a || not b) ≡ (a && b)
whole_is true true = refl
whole_is true false = refl
whole_is false b = refl

numeral_starts : (d : Digit) → starts_number (numeral d) ≡ true
numeral_starts d = simp (numeral_is d)

starts_number_is : (t : Number) (r : List ℕ) → starts_number (get_or (number t ++ r) 0 0) ≡ true
unfolding number sign digits within
starts_number_is t r = go t.signed t.digits_of
  where
    go : (g : Sign) (m : Digits) → starts_number (get_or ((sign g ++ (digits m ++ exponent t.exponent_part)) ++ r) 0 0) ≡ true
    go plus m = refl
    go minus m = refl
    go unsigned (whole d ds) = numeral_starts d
    go unsigned (dotted [] d fs) = refl
    go unsigned (dotted (d ∷ ds) f fs) = numeral_starts d

-- A number at a place of a text, after white space
module _ (s : List ℕ) (i : ℕ) (l : List Blank) (t : Number) (rest : List ℕ) (dom : InDomain t) (e : Apart t rest) (h : drop i s ≡ blanks l ++ (number t ++ rest)) where
  abbrev g : List ℕ
  g = sign t.signed

  abbrev m : List ℕ
  m = digits t.digits_of

  abbrev x : List ℕ
  x = exponent t.exponent_part

  abbrev start : ℕ
  start = i + length l

  abbrev end : ℕ
  end = i + (length l + length (number t))

  spaces_are : scan is_space s i ≡ start
  spaces_are = blanks_scan s i l (number t ++ rest) h (no_space (get_or (number t ++ rest) 0 0) (omega (arith, (number_first t rest).low)))

  at_start : drop start s ≡ number t ++ rest
  at_start = blanks_past s i l (number t ++ rest) h

  parted : drop start s ≡ g ++ (m ++ (x ++ rest))
  unfolding number
  parted = simp append_assoc at at_start

  at_digits : drop (start + length g) s ≡ m ++ (x ++ rest)
  at_digits = past s start g (m ++ (x ++ rest)) parted

  negative : eqb (get_or s start 0) 45 ≡ is_minus t.signed
  negative = minus_is s start t.signed (m ++ (x ++ rest)) (begins t.digits_of (x ++ rest)) parted

  sign_read : after_sign s start ≡ start + length g
  sign_read = sign_is s start t.signed (m ++ (x ++ rest)) (begins t.digits_of (x ++ rest)) parted

  mantissa_read : mantissa_at s (start + length g)
      ≡ record { ok = true; value = joined t.digits_of; fraction = fraction_digits t.digits_of; dotted = not (is_whole t.digits_of); end = place (start + length g + length m) }
  mantissa_read =
      mantissa_is s (start + length g) t.digits_of (x ++ rest) (after_digit t.exponent_part rest e.digit) (after_dot (is_whole t.digits_of) t.exponent_part rest e.dot) at_digits

  end_is : start + length g + length m + length x ≡ end
  unfolding number
  end_is = omega (arith, length-append g (m ++ x), length-append m x)

  exponent_read : exponent_at s (start + length g + length m)
      ≡ record { ok = true; minus = falls t.exponent_part; value = power t.exponent_part; written = not (is_absent t.exponent_part); end = place end }
  exponent_read =
      rw end_is at (exponent_is s (start + length g + length m) t.exponent_part rest e.digit e.letter (past s (start + length g) m (x ++ rest) at_digits))

  abbrev found : Float
  found = let sc = scale_of (falls t.exponent_part) (power t.exponent_part) (fraction_digits t.digits_of) in value_of (is_minus t.signed) (joined t.digits_of) sc.down sc.by

  value_read : parse_number s i ≡ read_on (record { value = found; whole = is_integer t; end = place end }) (place end)
  unfolding parse_number number_from finished scaled
  value_read =
      let sc = scale_of (falls t.exponent_part) (power t.exponent_part) (fraction_digits t.digits_of) in
      let some : start < length s = inside s start (number t ++ rest) at_start (omega (arith, length-append (number t) rest, number_some t)) in
      let starts : starts_number (get_or s start 0) ≡ true = ap starts_number (byte_here s start (number t ++ rest) at_start) ∙ starts_number_is t rest in
      simp (spaces_are, lt-leb (length s) start some, starts)
      (simp (
        negative,
        sign_read,
        mantissa_read,
        exponent_read,
        lt-ltb (joined t.digits_of) cap dom.small,
        le-leb sc.by 22 (near_is (falls t.exponent_part) (power t.exponent_part) (fraction_digits t.digits_of) dom.near),
        whole_is (is_whole t.digits_of) (is_absent t.exponent_part),
      ))

  found_is : found ≡ double (exactly t)
  unfolding written nearest double exactly
  found_is = number_nearest s i _ value_read ∙ simp (spaces_are, negative, sign_read, mantissa_read, exponent_read)

  -- THEOREM. The double nearest to what is written, whether it is written as an integer, and its end
  pub number_at : parse_number s i ≡ read_on (number_of t end) (place end)
  number_at = rw found_is at value_read

  -- where the reader's own steps end
  pub reach : (exponent_at s (mantissa_at s (after_sign s start)).end.0).end.0 ≡ end
  reach = rw (sign_read, mantissa_read, exponent_read) refl

module _ (s : List ℕ) (i : ℕ) (l : List Blank) (t : Number) (rest : List ℕ) (dom : InDomain t) (h : drop i s ≡ blanks l ++ (number t ++ (37 ∷ rest))) where
  -- THEOREM. A percentage: that double, divided by 100 and rounded again
  pub percent_at : parse_number_or_percent s i
      ≡ read_on (record { value = portion t; whole = is_integer t; end = place (i + (length l + length (number t))) })
      (place (i + (length l + length (number t)) + 1))
  unfolding parse_number_or_percent
  percent_at =
      simp (number_at s i l t (37 ∷ rest) dom (ends_apart t (ends_percent rest)) h, curr_is s (i + (length l + length (number t))) 37 rest (spaced_past s i l (number t) (37 ∷ rest) h))

-- THEOREM. Both, at the front of a text
pub numbers_read : NumbersRead
numbers_read =
    record {
      number_front = λ l t rest dom e. rw zero-add at (number_at (blanks l ++ (number t ++ rest)) 0 l t rest dom (ends_apart t e) refl);
      percent_front = λ l t rest dom. rw zero-add at (percent_at (blanks l ++ (number t ++ (37 ∷ rest))) 0 l t rest dom refl);
    }
