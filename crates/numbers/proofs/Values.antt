-- Of every number: where reading goes on, how far that is, how large the value can be, and where the stretch of a fault lies.
use Prim.Native.Nat.{ℕ, ◌+◌, ◌≤◌, ◌<◌}
use mathlib.Core.Bool.{Bool, true, ◌||◌, not}
use mathlib.Core.List.{List}
use mathlib.Core.Path.{◌≡◌, refl}
use native.Mathlib.Omega.{arith}
use borrow.Author.Tests.{ltb-true, leb-true, leb-false}
use lib.Dec.{eqb, ltb, leb}
use lib.ListN.{length, get_or}
use Rattle.std.specs.Prelude.{Ok, MatchResult}
use Rattle.text_bytes.specs.Bytes.{is_digit, is_sign, is_space}
use Rattle.text_bytes.specs.Scan.{scan}
use Rattle.text_bytes.specs.Words.{is_curr_byte_eq}
use Rattle.text_bytes.proofs.Ahead.{pass_trans, pass_scan, digit_stop}
use Rattle.text_bytes.proofs.Ranges.{either}
use Rattle.text_bytes.proofs.Scans.{scan_ge, scan_le}
use Rattle.text_bytes.proofs.Wording.{curr_inside}
use Rattle.stream.specs.Refusals.{number_of}
use Rattle.stream.specs.declared.Read.{Read}
use Rattle.stream.specs.declared.Trouble.TheVariants as R
use Rattle.stream.proofs.Binds.{bind_holds, at_ok, weaker}
use Rattle.stream.proofs.Goes.{Goes, goes_trans, goes_here, goes_scan, goes_one, goes_item, Past, past_on}
use Rattle.stream.proofs.Sames.{curr_pass}
use Rattle.stream.proofs.Stretches.{LiesAt, LiesFrom, end_lies, shown_lies}
use Rattle.floats.proofs.Bounds.{Within, percent_within}
use Rattle.numbers.specs.Digits.{cap}
use Rattle.numbers.specs.Moves.{Number}
use Rattle.numbers.specs.Number.{Mantissa, Exponent, starts_number, after_sign, mantissa_at, mantissa_dot, exponent_at, exponent_from, scale_of, value_of, finished, scaled, number_from, parse_number, parse_number_or_percent, after_item, parse_list_number, parse_list_number_or_percent}
use Rattle.numbers.proofs.Bounds.{value_within}

abbrev pub is_e : ℕ → Bool
is_e c = eqb c 101 || eqb c 69

abbrev pub is_dot : ℕ → Bool
is_dot c = eqb c 46

module _ (s : List ℕ) where
  pub sign_goes : (i : ℕ) → Goes s i (after_sign s i)
  unfolding after_sign
  sign_goes i = either (is_sign (get_or s i 0)) (λ e. simp e (goes_one s i is_sign refl refl e)) (λ e. simp e (goes_here s i))

  pub mantissa_goes : (at : ℕ) → Goes s at (mantissa_at s at).end.0
  unfolding mantissa_at mantissa_dot
  mantissa_goes at =
      let v : Goes s at (scan is_digit s at) = goes_scan s at is_digit digit_stop in
      either (is_dot (get_or s (scan is_digit s at) 0))
      (λ e. simp e (goes_trans v (goes_trans (goes_one s _ is_dot refl refl e) (goes_scan s _ is_digit digit_stop))))
      (λ e. simp e v)

  pub mantissa_least : (at : ℕ) → (mantissa_at s at).ok ≡ true → at + 1 ≤ (mantissa_at s at).end.0
  unfolding mantissa_at mantissa_dot
  mantissa_least at ok =
      let dot = scan is_digit s at in
      either (is_dot (get_or s dot 0))
      (λ e.
      let q : ltb (dot + 1) (scan is_digit s (dot + 1)) ≡ true = simp e at ok in
      simp e (omega (arith, scan_ge is_digit s at, ltb-true (dot + 1) (scan is_digit s (dot + 1)) q)))
      (λ e.
      let q : ltb at dot ≡ true = simp e at ok in
      simp e (omega (arith, ltb-true at dot q)))

  -- an exponent ends where it is looked for, or after its digits
  exponent_ends : (at : ℕ) (P : ℕ → Type 0) → P at → (is_e (get_or s at 0) ≡ true → P (scan is_digit s (after_sign s (at + 1)))) → P (exponent_at s at).end.0
  unfolding exponent_at exponent_from
  exponent_ends at P f g =
      either (is_e (get_or s at 0))
      (λ e. either (eqb (get_or s (at + 1) 0) 109 || eqb (get_or s (at + 1) 0) 120) (λ m. simp (e, m) f) (λ m. simp (e, m) (g e)))
      (λ e. simp e f)

  exponent_goes : (at : ℕ) → Goes s at (exponent_at s at).end.0
  exponent_goes at =
      exponent_ends at (λ x. Goes s at x) (goes_here s at)
      (λ e. goes_trans (goes_one s at is_e refl refl e) (goes_trans (sign_goes (at + 1)) (goes_scan s _ is_digit digit_stop)))

-- the number that a mantissa and an exponent make
abbrev pub made : Bool → Mantissa → Exponent → Read Number
made minus m e =
    let sc = scale_of e.minus e.value m.fraction in
    record { value = record { value = value_of minus m.value sc.down sc.by; whole = not (m.dotted || e.written); end = e.end }; next = e.end }

-- and what was judged before it was made
pub record Judged (m : Mantissa) (e : Exponent) : Type 0 where
  pub mantissa : m.ok ≡ true
  pub small : m.value < cap
  pub near : (scale_of e.minus e.value m.fraction).by ≤ 22

-- where the three ends of a number stand
record Ends (n : ℕ) (m : Mantissa) (e : Exponent) (start : ℕ) : Type 0 where
  first : start ≤ m.end.0
  second : m.end.0 ≤ e.end.0
  third : e.end.0 ≤ n

finished_holds : (P : Read Number → Type 0) (n : ℕ) (minus : Bool) (m : Mantissa) (e : Exponent) (start : ℕ)
    → (Judged m e → P (made minus m e)) → MatchResult (finished minus m e start) P (λ f. Ends n m e start → LiesAt n f)
unfolding finished scaled number_of
finished_holds P n minus m e start g =
    either m.ok
    (λ x. either e.ok
    (λ y. either (ltb m.value cap)
    (λ z. either (leb (scale_of e.minus e.value m.fraction).by 22)
    (λ w. simp (x, y, z, w) (g (record { mantissa = x; small = ltb-true m.value cap z; near = leb-true (scale_of e.minus e.value m.fraction).by 22 w })))
    (λ w. simp (x, y, z, w) (λ h. shown_lies R.ScaleOutOfRange start e.end.0 refl (omega (arith, h.first, h.second)) h.third)))
    (λ z. simp (x, y, z) (λ h. shown_lies R.TooLarge start e.end.0 refl (omega (arith, h.first, h.second)) h.third)))
    (λ y. simp (x, y) (λ h. shown_lies R.WrongForm start e.end.0 refl (omega (arith, h.first, h.second)) h.third)))
    (λ x. simp x (λ h. shown_lies R.WrongForm start m.end.0 refl h.first (omega (arith, h.second, h.third))))

-- Of the number at i: its mantissa, its exponent, and what is made of them
module _ (s : List ℕ) (i : ℕ) where
  abbrev pub mantissa_of : Mantissa
  mantissa_of = mantissa_at s (after_sign s (scan is_space s i))

  abbrev pub exponent_of : Exponent
  exponent_of = exponent_at s mantissa_of.end.0

  -- from its first byte to its end
  pub number_goes : Goes s (scan is_space s i) exponent_of.end.0
  number_goes =
      let start = scan is_space s i in
      goes_trans (sign_goes s start) (goes_trans (mantissa_goes s (after_sign s start)) (exponent_goes s mantissa_of.end.0))

  number_stops : i ≤ length s → Ends (length s) mantissa_of exponent_of (scan is_space s i)
  number_stops h =
      let start = scan is_space s i in
      record {
        first = omega (arith, (sign_goes s start).passes.grows, (mantissa_goes s (after_sign s start)).passes.grows);
        second = (exponent_goes s mantissa_of.end.0).passes.grows;
        third = number_goes.inside (scan_le is_space s i h);
      }

  pub number_holds : (P : Read Number → Type 0)
      → (scan is_space s i < length s → Judged mantissa_of exponent_of → P (made (eqb (get_or s (scan is_space s i) 0) 45) mantissa_of exponent_of))
      → MatchResult (parse_number s i) P (LiesFrom s i)
  unfolding parse_number number_from number_of
  number_holds P g =
      let start = scan is_space s i in
      either (leb (length s) start) (λ x. simp x (λ h. shown_lies R.TextEnded start start refl (omega arith) (scan_le is_space s i h)))
      (λ x. either (starts_number (get_or s start 0))
      (λ y. simp (x, y)
      (weaker P P (λ f. Ends (length s) mantissa_of exponent_of start → LiesAt (length s) f) (LiesFrom s i) _
      (finished_holds P (length s) (eqb (get_or s start 0) 45) mantissa_of exponent_of start (g (leb-false (length s) start x)))
      (λ r v. v) (λ e v h. v (number_stops h))))
      (λ y. simp (x, y) (λ h. shown_lies R.WrongByte start start refl (omega arith) (scan_le is_space s i h))))

-- Of a number read at i: where reading goes on, and that its value is at most 2 ^ 127 in size
pub record Taken (s : List ℕ) (i : ℕ) (r : Read Number) : Type 0 where
  pub past : Past s i r.next
  pub within : Within 127 r.value.value

module _ (s : List ℕ) (i : ℕ) where
  pub number_taken : MatchResult (parse_number s i) (Taken s i) (LiesFrom s i)
  number_taken =
      let start = scan is_space s i in
      let m = mantissa_of s i in
      let e = exponent_of s i in
      let v : Goes s start e.end.0 = number_goes s i in
      number_holds s i (Taken s i)
      (λ l j.
      let sc = scale_of e.minus e.value m.fraction in
      record {
        past = record {
          passes = pass_trans (pass_scan s i is_space refl) v.passes;
          least = omega (arith, scan_ge is_space s i, (sign_goes s start).passes.grows, mantissa_least s (after_sign s start) j.mantissa, (exponent_goes s m.end.0).passes.grows);
          inside = v.inside (omega arith);
        };
        within = value_within (eqb (get_or s start 0) 45) m.value sc.down sc.by j.small (omega (arith, j.near));
      })

  pub percent_taken : MatchResult (parse_number_or_percent s i) (Taken s i) (LiesFrom s i)
  unfolding parse_number_or_percent
  percent_taken =
      bind_holds (Taken s i) (Taken s i) (LiesFrom s i) (parse_number s i) _ number_taken
      (λ r t. either (is_curr_byte_eq s r.next.0 37)
      (λ e.
      let g : Goes s r.next.0 (r.next.0 + 1) = record { passes = curr_pass s r.next.0 37 e refl; inside = λ h. omega (arith, curr_inside s r.next.0 37 refl e) } in
      simp e (record { past = past_on t.past g; within = percent_within 127 r.value.value (omega arith) t.within }))
      (λ e. simp e t))

  -- past the end of an item still
  item_taken : (r : Read Number) → Taken s i r → Taken s i (record { value = r.value; next = record { 0 = after_item s r.next.0 } })
  item_taken r t = record { past = past_on t.past (goes_item s r.next.0); within = t.within }

  pub list_number_taken : MatchResult (parse_list_number s i) (Taken s i) (LiesFrom s i)
  unfolding parse_list_number
  list_number_taken =
      either (leb (length s) i) (λ e. simp e (λ h. end_lies s))
      (λ e. simp e (bind_holds (Taken s i) (Taken s i) (LiesFrom s i) (parse_number s i) _ number_taken item_taken))

  pub list_percent_taken : MatchResult (parse_list_number_or_percent s i) (Taken s i) (LiesFrom s i)
  unfolding parse_list_number_or_percent
  list_percent_taken =
      either (leb (length s) i) (λ e. simp e (λ h. end_lies s))
      (λ e. simp e (bind_holds (Taken s i) (Taken s i) (LiesFrom s i) (parse_number_or_percent s i) _ percent_taken item_taken))

-- the same, of a number that is known
module _ (s : List ℕ) (i : ℕ) (r : Read Number) where
  pub number_known : parse_number s i ≡ Ok r → Taken s i r
  number_known e = at_ok (Taken s i) (LiesFrom s i) (parse_number s i) r (number_taken s i) e

  pub percent_known : parse_number_or_percent s i ≡ Ok r → Taken s i r
  percent_known e = at_ok (Taken s i) (LiesFrom s i) (parse_number_or_percent s i) r (percent_taken s i) e

  pub list_number_known : parse_list_number s i ≡ Ok r → Taken s i r
  list_number_known e = at_ok (Taken s i) (LiesFrom s i) (parse_list_number s i) r (list_number_taken s i) e

  pub list_percent_known : parse_list_number_or_percent s i ≡ Ok r → Taken s i r
  list_percent_known e = at_ok (Taken s i) (LiesFrom s i) (parse_list_number_or_percent s i) r (list_percent_taken s i) e
