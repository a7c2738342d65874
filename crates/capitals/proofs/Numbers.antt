-- A number in texts that are alike. Case tells in one place: an `e` before a small `m` or `x` is no exponent. Where no `e` stands behind the number, both texts give it.
use Prim.Native.Nat.{ℕ, ◌+◌, ◌≤◌, ◌<◌}
use mathlib.Core.Bool.{Bool, true, false, cond, ◌||◌}
use mathlib.Core.List.{List}
use mathlib.Core.Logic.{⊎_elim}
use mathlib.Core.Path.{◌≡◌, refl, sym, ap, ◌∙◌}
use native.Mathlib.Omega.{arith}
use borrow.Author.Tests.{eqb-true, le-ltb, lt-leb}
use lib.Dec.{eqb, leb, ltb}
use lib.ListN.{length, get_or, drop, get_or-eq_default}
use Rattle.text_bytes.specs.Bytes.{within, is_digit, is_sign, is_space}
use Rattle.text_bytes.specs.Flow.{◌>>=◌}
use Rattle.text_bytes.specs.Moves.{place}
use Rattle.text_bytes.specs.Scan.{scan}
use Rattle.text_bytes.specs.Words.{lowered, is_curr_byte_eq}
use Rattle.text_bytes.proofs.Ranges.{either, le_or_lt, and_false}
use Rattle.text_bytes.proofs.Scans.{scan_here, scan_start, scan_end}
use Rattle.text_bytes.proofs.Wording.{curr_byte}
use Rattle.shapes.proofs.Fair.{never, never_ok}
use Rattle.stream.specs.Faults.{unexpected_end, parse_list_separator}
use Rattle.std.specs.Prelude.{Result, Ok, Err}
use Rattle.stream.specs.declared.Fault.{Fault}
use Rattle.stream.specs.declared.Read.{Read}
use Rattle.stream.specs.declared.Trouble.TheVariants as T
use Rattle.numbers.specs.Digits.{value, cap}
use Rattle.numbers.specs.Number.{starts_number, after_sign, mantissa_dot, mantissa_at, exponent_from, exponent_at, scale_of, scaled, finished, number_from, parse_number, parse_number_or_percent, after_item, parse_list_number, parse_list_number_or_percent, refused_at}
use Rattle.numbers.specs.Moves.{Number}
use Rattle.capitals.proofs.Cases.{Caseless, by_tests, byte_case, space_case, sign_case, digit_case, byte_alike, length_alike, scan_alike, value_alike, curr_alike}

-- an `e` or `E`
abbrev pub is_e : ℕ → Bool
is_e b = eqb b 101 || eqb b 69

-- the small letters that make it none
abbrev is_unit : ℕ → Bool
is_unit b = eqb b 109 || eqb b 120

e_case : Caseless is_e
e_case = by_tests is_e tt

starts_case : Caseless starts_number
unfolding within
starts_case = by_tests starts_number tt

-- where reading goes on
next_is : {q r : Read Number} → ◌≡◌ {A = Result (Read Number) Fault} (Ok q) (Ok r) → q.next.0 ≡ r.next.0
next_is {q} {r} e = let f : q ≡ r = cc in ap (λ (x : Read Number). x.next.0) f

-- a class that has neither of two bytes does not have a byte that is one of them
pub neither : (x y : ℕ) (f : ℕ → Bool) → f x ≡ false → f y ≡ false → (b : ℕ) → (eqb b x || eqb b y) ≡ true → f b ≡ false
neither x y f g k b e = go (eqb b x) refl e
  where
    go : (v : Bool) → eqb b x ≡ v → (v || eqb b y) ≡ true → f b ≡ false
    go true q r = rw (eqb-true b x q) g
    go false q r = rw (eqb-true b y r) k

scan_stays : (p : ℕ → Bool) (s : List ℕ) (i : ℕ) → p (get_or s i 0) ≡ false → scan p s i ≡ i
scan_stays p s i e =
    ⊎_elim (λ (l : length s ≤ i). sym (scan_end (scan_start p s i) l)) (λ (l : i < length s). scan_here p s i e l) (le_or_lt (length s) i)

-- a number that is read ends where its exponent does
module _ (s : List ℕ) (start : ℕ) {r : Read Number} (q : number_from s start ≡ Ok r) where
  number_parts : ((exponent_at s (mantissa_at s (after_sign s start)).end.0).ok ≡ true) × ((exponent_at s (mantissa_at s (after_sign s start)).end.0).end.0 ≡ r.next.0)
  unfolding number_from finished scaled
  number_parts =
      let m = mantissa_at s (after_sign s start) in
      let x = exponent_at s m.end.0 in
      either m.ok
      (λ a. either x.ok
      (λ b. either (ltb m.value cap)
      (λ c. either (leb (scale_of x.minus x.value m.fraction).by 22) (λ d. (b, next_is (simp (a, b, c, d) at q))) (λ d. never_ok (simp (a, b, c, d) at q)))
      (λ c. never_ok (simp (a, b, c) at q)))
      (λ b. never_ok (simp (a, b) at q)))
      (λ a. never_ok (simp a at q))

unit_digit : (b : ℕ) → is_unit b ≡ true → is_digit b ≡ false
unfolding within
unit_digit b e = neither 109 120 is_digit refl refl b e

-- neither a sign nor a digit: no exponent begins so
no_digits : (s : List ℕ) (i : ℕ) (minus : Bool) → is_sign (get_or s i 0) ≡ false → is_digit (get_or s i 0) ≡ false → (exponent_from s (after_sign s i) minus).ok ≡ false
unfolding exponent_from after_sign
no_digits s i minus a b = simp (a, scan_stays is_digit s i b) (le-ltb i i (omega arith))

module _ (s t : List ℕ) (h : lowered s ≡ lowered t) where
  sign_alike : (i : ℕ) → after_sign t i ≡ after_sign s i
  unfolding after_sign
  sign_alike i = rw (byte_alike s t h is_sign sign_case i) refl

  dot_alike : (at dot : ℕ) → mantissa_dot t at dot ≡ mantissa_dot s at dot
  unfolding mantissa_dot
  dot_alike at dot =
      rw (byte_alike s t h (λ b. eqb b 46) (byte_case 46 tt) dot, scan_alike s t h is_digit digit_case (dot + 1), value_alike s t h 0 at, value_alike s t h (value 0 (drop at s)) (dot + 1)) refl

  mantissa_alike : (at : ℕ) → mantissa_at t at ≡ mantissa_at s at
  unfolding mantissa_at
  mantissa_alike at = rw (scan_alike s t h is_digit digit_case at) (dot_alike at (scan is_digit s at))

  from_alike : (from : ℕ) (minus : Bool) → exponent_from t from minus ≡ exponent_from s from minus
  unfolding exponent_from
  from_alike from minus = rw (scan_alike s t h is_digit digit_case from, value_alike s t h 0 from) refl

  -- an exponent that is one, or none where no `e` stands
  exponent_alike : (at : ℕ) → (exponent_at s at).ok ≡ true → is_e (get_or s (exponent_at s at).end.0 0) ≡ false → exponent_at t at ≡ exponent_at s at
  unfolding exponent_at
  exponent_alike at o n =
      either (is_e (get_or s at 0))
      (λ e. either (is_unit (get_or s (at + 1) 0)) (λ u. never (sym (simp (e, u) at n)))
      (λ u. either (is_unit (get_or t (at + 1) 0))
      (λ v.
      let a : is_sign (get_or s (at + 1) 0) ≡ false = sym (byte_alike s t h is_sign sign_case (at + 1)) ∙ neither 109 120 is_sign refl refl (get_or t (at + 1) 0) v in
      let b : is_digit (get_or s (at + 1) 0) ≡ false = sym (byte_alike s t h is_digit digit_case (at + 1)) ∙ unit_digit (get_or t (at + 1) 0) v in
      never (sym (no_digits s (at + 1) (eqb (get_or s (at + 1) 0) 45) a b) ∙ (simp (e, u) at o)))
      (λ v. simp (byte_alike s t h is_e e_case at, e, u, v, sign_alike (at + 1), byte_alike s t h (λ b. eqb b 45) (byte_case 45 tt) (at + 1)) (from_alike (after_sign s (at + 1)) (eqb (get_or s (at + 1) 0) 45)))))
      (λ e. simp (byte_alike s t h is_e e_case at, e))

  from_kept : (start : ℕ) (r : Read Number) → number_from s start ≡ Ok r → is_e (get_or s r.next.0 0) ≡ false → number_from t start ≡ Ok r
  unfolding number_from
  from_kept start r q g =
      let m = mantissa_at s (after_sign s start) in
      let w = number_parts s start q in
      rw (sign_alike start, mantissa_alike (after_sign s start), byte_alike s t h (λ b. eqb b 45) (byte_case 45 tt) start, exponent_alike m.end.0 w.0 (rw w.1 g)) q

  -- the law of a number with no `e` behind it
  number_kept : (i : ℕ) (r : Read Number) → parse_number s i ≡ Ok r → is_e (get_or s r.next.0 0) ≡ false → parse_number t i ≡ Ok r
  unfolding parse_number
  number_kept i r q g =
      let start = scan is_space s i in
      either (leb (length s) start) (λ a. never_ok (simp a at q))
      (λ a. either (starts_number (get_or s start 0))
      (λ b. simp (scan_alike s t h is_space space_case i, length_alike s t h, byte_alike s t h starts_number starts_case start, a, b) (from_kept start r (simp (a, b) at q) g))
      (λ b. never_ok (simp (a, b) at q)))

-- where an `e` stands no number is read, and neither a space nor a comma is passed
module _ (s : List ℕ) (i : ℕ) (e : is_e (get_or s i 0) ≡ true) where
  pub e_inside : i < length s
  e_inside =
      ⊎_elim (λ (l : length s ≤ i). never (rw (get_or-eq_default s 0 l) at e)) (λ (l : i < length s). l) (le_or_lt (length s) i)

  pub e_scan : scan is_space s i ≡ i
  e_scan = scan_stays is_space s i (neither 101 69 is_space refl refl (get_or s i 0) e)

  pub e_curr : (c : ℕ) → eqb 101 c ≡ false → eqb 69 c ≡ false → is_curr_byte_eq s i c ≡ false
  unfolding is_curr_byte_eq
  e_curr c f g = rw (neither 101 69 (λ b. eqb b c) f g (get_or s i 0) e) (and_false (ltb i (length s)))

  pub e_separator : parse_list_separator s i ≡ i
  unfolding parse_list_separator
  e_separator = simp (e_curr 44 refl refl)

  e_number : parse_number s i ≡ Err (refused_at T.WrongByte i i)
  unfolding parse_number within
  e_number = simp (e_scan, lt-leb (length s) i e_inside, neither 101 69 starts_number refl refl (get_or s i 0) e)

-- two readers of a number: what the first reads of s, with no `e` behind it, the second reads of t; and the first reads none where an `e` stands
pub record Keeps (s : List ℕ) (x y : ℕ → Result (Read Number) Fault) : Type 0 where
  pub same : (i : ℕ) (r : Read Number) → x i ≡ Ok r → is_e (get_or s r.next.0 0) ≡ false → y i ≡ Ok r
  pub none : (i : ℕ) (r : Read Number) → is_e (get_or s i 0) ≡ true → x i ≡ Ok r → ⊥

-- what is read and gone on from is read
pub shut_first : {B : Type 0} (x : Result (Read Number) Fault) (f : Read Number → Result B Fault) {b : B} → ((r : Read Number) → x ≡ Ok r → ⊥) → (x >>= f) ≡ Ok b → ⊥
shut_first (Ok r) f n q = n r refl
shut_first (Err e) f n q = never_ok q

module _ (s t : List ℕ) (h : lowered s ≡ lowered t) where
  pub numbers : Keeps s (parse_number s) (parse_number t)
  numbers = record { same = number_kept s t h; none = λ i r e q. never_ok (sym (e_number s i e) ∙ q) }

  -- a `%` is no `e`
  percents : Keeps s (parse_number_or_percent s) (parse_number_or_percent t)
  unfolding parse_number_or_percent
  percents =
      record {
        same = λ i r q g. go i r (parse_number s i) refl q g;
        none = λ i r e q. shut_first (parse_number s i) _ (λ m f. (numbers).none i m e f) q;
      }
    where
      go : (i : ℕ) (r : Read Number) (x : Result (Read Number) Fault) → parse_number s i ≡ x → parse_number_or_percent s i ≡ Ok r → is_e (get_or s r.next.0 0) ≡ false → parse_number_or_percent t i ≡ Ok r
      go i r (Err f) k q g = never_ok (simp k at q)
      go i r (Ok m) k q g =
          either (is_curr_byte_eq s m.next.0 37)
          (λ c. simp (number_kept s t h i m k (rw (curr_byte s m.next.0 37 (sym c) refl) refl), curr_alike s t h m.next.0 37 (byte_case 37 tt), c) (simp (k, c) at q))
          (λ c.
          let j : m.next.0 ≡ r.next.0 = next_is (simp (k, c) at q) in
          simp (number_kept s t h i m k (rw j g), curr_alike s t h m.next.0 37 (byte_case 37 tt), c) (simp (k, c) at q))

  -- spaces and a comma after it
  separator_alike : (i : ℕ) → parse_list_separator t i ≡ parse_list_separator s i
  unfolding parse_list_separator
  separator_alike i = rw (curr_alike s t h i 44 (byte_case 44 tt)) refl

  pub item_alike : (i : ℕ) → after_item t i ≡ after_item s i
  item_alike i = rw (scan_alike s t h is_space space_case i) (separator_alike (scan is_space s i))

  module _ (x y : ℕ → Result (Read Number) Fault) (k : Keeps s x y) where
    abbrev with_item : List ℕ → Read Number → Result (Read Number) Fault
    with_item u r = Ok (record { value = r.value; next = place (after_item u r.next.0) })

    item_kept : (i : ℕ) (r : Read Number) → (x i >>= with_item s) ≡ Ok r → is_e (get_or s r.next.0 0) ≡ false → (y i >>= with_item t) ≡ Ok r
    item_kept i r q g = go (x i) refl
      where
        go : (z : Result (Read Number) Fault) → x i ≡ z → (y i >>= with_item t) ≡ Ok r
        go (Err f) e = never_ok (simp e at q)
        go (Ok m) e =
            let j = m.next.0 in
            let w : after_item s j ≡ r.next.0 = next_is (simp e at q) in
            either (is_e (get_or s j 0)) (λ f. never (sym (rw (← w, e_scan s j f, e_separator s j f) at g) ∙ f))
            (λ f. rw (k.same i m e f, item_alike j) (rw e at q))

    listed : Keeps s (λ i. cond (leb (length s) i) (Err (unexpected_end s)) (x i >>= with_item s)) (λ i. cond (leb (length t) i) (Err (unexpected_end t)) (y i >>= with_item t))
    listed =
        record {
          same = λ i r q g. either (leb (length s) i) (λ l. never_ok (simp l at q)) (λ l. simp (length_alike s t h, l) (item_kept i r (simp l at q) g));
          none = λ i r e q. shut_first (x i) (with_item s) (λ m f. k.none i m e f) (simp (lt-leb (length s) i (e_inside s i e)) at q);
        }

  pub list_numbers : Keeps s (parse_list_number s) (parse_list_number t)
  unfolding parse_list_number
  list_numbers = listed (parse_number s) (parse_number t) numbers

  pub list_percents : Keeps s (parse_list_number_or_percent s) (parse_list_number_or_percent t)
  unfolding parse_list_number_or_percent
  list_percents = listed (parse_number_or_percent s) (parse_number_or_percent t) percents
