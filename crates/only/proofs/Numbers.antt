-- What is read as a number is a number of CSS Values 3, the longest that begins there.
use Prim.Native.Nat.{ℕ, ◌+◌, ◌-◌, ◌≤◌}
use mathlib.Core.Bool.{Bool, true, false, not}
use mathlib.Core.List.{List, [], ◌++◌, append_assoc}
use mathlib.Core.Path.{◌≡◌, refl, sym, ap, ◌∙◌}
use native.Mathlib.Omega.{arith}
use borrow.Author.Tests.{leb-true, leb-false}
use lib.Dec.{eqb, leb}
use lib.ListN.{length, get_or, drop}
use Rattle.text_bytes.specs.Bytes.{is_digit, is_space}
use Rattle.text_bytes.specs.Moves.{place}
use Rattle.text_bytes.specs.Scan.{scan}
use Rattle.text_bytes.specs.declared.Place.{Place}
use Rattle.text_bytes.proofs.Ranges.{either, and_first, and_second}
use Rattle.stream.specs.declared.Fault.{Fault}
use Rattle.numbers.specs.Number.{starts_number, mantissa_at, exponent_at, scale_of, finished, number_from, parse_number}
use Rattle.numbers.specs.Moves.{Number}
use Rattle.std.specs.Prelude.{Result, Ok, Err}
use Rattle.stream.specs.declared.Read.{Read}
use Rattle.stream.proofs.Binds.{at_ok}
use Rattle.stream.proofs.Stretches.{LiesFrom}
use Rattle.numbers.proofs.Values.{Judged, mantissa_of, exponent_of, number_holds}
use Rattle.standards.specs.CssValues3 as Css
use Rattle.standards.specs.CssValues3.{blank, blanks, sign, digits, exponent, absent, small, capital, number, joined, fraction_digits, power, falls, is_whole, is_absent, is_integer}
use Rattle.standards.specs.Domain.{Near, InDomain}
use Rattle.standards.specs.Answers.{Apart, read_on}
use Rattle.standards.proofs.Cursors.{one_value, byte_here, past, blanks_past, scan_on}
use Rattle.standards.proofs.Numbers.{mantissa_is, exponent_is, number_at, reach}
use Rattle.only.specs.Only.{NumberThere}
use Rattle.only.proofs.Cuts.{Cut, spaces}
use Rattle.only.proofs.Parts.{Signed, signed_at, Mantissed, mantissa_at_is, Raised, raised_at}
use Rattle.only.proofs.Longest.{reaches}

near_of : (down : Bool) (e f : ℕ) → (scale_of down e f).by ≤ 22 → Near down e f
unfolding scale_of
near_of true e f n = n
near_of false e f n =
    either (leb f e)
    (λ q. let k : e - f ≤ 22 = simp q at n in (omega (arith, k), omega (arith, leb-true f e q)))
    (λ q. let k : f - e ≤ 22 = simp q at n in (omega (arith, leb-false f e q), omega (arith, k)))

none : {B : Type 0} {e : Fault} {n : Number} {p : Place} → Err e ≡ read_on n p → B
none h = absurd (let z : ◌≡◌ {A = ℕ} 0 1 = cc h in omega arith)

-- what was read goes on at one place
abbrev next_or : {A : Type 0} → Place → Result (Read A) Fault → Place
next_or p (Ok r) = r.next
next_or p (Err e) = p

pub one_place : {A : Type 0} {a b : A} {p q : Place} → read_on a p ≡ read_on b q → p ≡ q
one_place {A} {a} {b} {p} e = ap (λ r. next_or p r) e

absent_none : (y : Css.Exponent) → is_absent y ≡ true → exponent y ≡ []
unfolding exponent is_absent
absent_none absent e = refl
absent_none (small g d ds) e = absurd (let z : ◌≡◌ {A = ℕ} 0 1 = cc in omega arith)
absent_none (capital g d ds) e = absurd (let z : ◌≡◌ {A = ℕ} 0 1 = cc in omega arith)

-- of a number that is read
module _ (s : List ℕ) (i : ℕ) (n : Number) (p : Place) (h : parse_number s i ≡ read_on n p) where
  -- what was judged of its parts
  judged : Judged (mantissa_of s i) (exponent_of s i)
  judged = at_ok (λ _. Judged (mantissa_of s i) (exponent_of s i)) (LiesFrom s i) (parse_number s i) _ (number_holds s i (λ _. Judged (mantissa_of s i) (exponent_of s i)) (λ l j. j)) h

  exponent_ok : (exponent_of s i).ok ≡ true
  unfolding parse_number number_from finished
  exponent_ok =
      let start = scan is_space s i in
      either (exponent_of s i).ok (λ e. e)
      (λ e. either (leb (length s) start) (λ x. none (simp x at h))
      (λ x. either (starts_number (get_or s start 0))
      (λ y. either (mantissa_of s i).ok (λ z. none (simp (x, y, z, e) at h)) (λ z. none (simp (x, y, z) at h)))
      (λ y. none (simp (x, y) at h))))

  abbrev cut_here : Cut is_space blank (drop i s)
  cut_here = spaces (drop i s)

  abbrev start : ℕ
  start = i + length cut_here.taken

  starts : scan is_space s i ≡ start
  starts = scan_on s i (drop i s) refl is_space (length cut_here.taken) cut_here.counted

  abbrev g : Signed s start
  g = signed_at s start

  abbrev from : ℕ
  from = start + length (sign g.tree)

  mantissa_here : mantissa_of s i ≡ mantissa_at s from
  mantissa_here = rw (starts, g.after) refl

  m : Mantissed s from
  m = mantissa_at_is s from (rw mantissa_here at judged.mantissa)

  abbrev mid : ℕ
  mid = from + length (digits m.tree)

  m_read : mantissa_at s from
      ≡ record { ok = true; value = joined m.tree; fraction = fraction_digits m.tree; dotted = not (is_whole m.tree); end = place mid }
  m_read = mantissa_is s from m.tree m.rest m.digit m.dot m.text

  exponent_here : exponent_of s i ≡ exponent_at s mid
  exponent_here = rw (starts, g.after, m_read) refl

  x : Raised s mid
  x = raised_at s mid (rw exponent_here at exponent_ok)

  at_mid : drop mid s ≡ m.rest
  at_mid = past s from (digits m.tree) m.rest m.text

  x_digit : is_digit (get_or x.rest 0 0) ≡ false
  x_digit = x.digit (rw (byte_here s mid m.rest at_mid) m.digit)

  x_read : exponent_at s mid
      ≡ record { ok = true; minus = falls x.tree; value = power x.tree; written = not (is_absent x.tree); end = place (mid + length (exponent x.tree)) }
  x_read = exponent_is s mid x.tree x.rest x_digit x.letter x.text

  abbrev tree : Css.Number
  tree = record { signed = g.tree; digits_of = m.tree; exponent_part = x.tree }

  there : drop start s ≡ number tree ++ x.rest
  unfolding number
  there =
      let a = sign g.tree in
      let b = digits m.tree in
      let k : drop start s ≡ a ++ (b ++ (exponent x.tree ++ x.rest)) = g.text ∙ ap (λ (y : List ℕ). a ++ y) (m.text ∙ ap (λ (y : List ℕ). b ++ y) (sym at_mid ∙ x.text)) in
      simp append_assoc k

  text : drop i s ≡ blanks cut_here.taken ++ (number tree ++ x.rest)
  text = cut_here.text ∙ ap (λ (y : List ℕ). blanks cut_here.taken ++ y) (sym (blanks_past s i cut_here.taken cut_here.rest cut_here.text) ∙ there)

  domain : InDomain tree
  domain =
      record {
        small = rw (mantissa_here, m_read) at judged.small;
        near = near_of _ _ _ (rw (exponent_here, x_read, mantissa_here, m_read) at judged.near);
      }

  -- after whole digits and no exponent stands what follows the digits
  no_dot : is_integer tree ≡ true → eqb (get_or x.rest 0 0) 46 ≡ false
  no_dot w =
      let a = is_whole m.tree in
      let b = is_absent x.tree in
      let z : m.rest ≡ x.rest = sym at_mid ∙ x.text ∙ rw (absent_none x.tree (and_second a b w)) refl in
      rw (← z) (m.dot (and_first a b w))

  apart : Apart tree x.rest
  apart = record { digit = x_digit; letter = x.letter; dot = no_dot }

  -- THEOREM. What is read as a number is one
  pub number_there : NumberThere s i n p
  number_there =
      let r = sym h ∙ number_at s i cut_here.taken tree x.rest domain apart text in
      record {
        before = cut_here.taken;
        tree = tree;
        rest = x.rest;
        text = text;
        domain = domain;
        apart = apart;
        meant = one_value r;
        after = one_place r;
      }

-- of a number that stands there
module _ (s : List ℕ) (i : ℕ) (n : Number) (p : Place) (r : NumberThere s i n p) where
  -- THEOREM. It is read
  pub there_read : parse_number s i ≡ read_on n p
  there_read =
      number_at s i r.before r.tree r.rest r.domain r.apart r.text ∙ rw (← r.meant, ← r.after) refl

  -- THEOREM. It is the longest that begins there
  pub longest : (t : Css.Number) (rest : List ℕ) → number t ++ rest ≡ number r.tree ++ r.rest → length (number t) ≤ length (number r.tree)
  longest t rest e =
      let start = i + length r.before in
      let k = reaches s start t rest (blanks_past s i r.before (number r.tree ++ r.rest) r.text ∙ sym e) in
      let z = reach s i r.before r.tree r.rest r.domain r.apart r.text in
      omega (arith, k, z)
