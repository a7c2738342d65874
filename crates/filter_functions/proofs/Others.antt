-- By which numbers the parts of a filter are not refused: 1 to 3, which judge the text and the place, and 8.
use Prim.Native.Nat.{ℕ}
use mathlib.Core.Bool.{Bool, true, false, ◌||◌}
use mathlib.Core.List.{List}
use mathlib.Core.Path.{◌≡◌, refl}
use borrow.Author.Tests.{eqb-true}
use lib.Dec.{eqb, leb, ltb}
use lib.ListN.{length, get_or}
use Rattle.std.specs.Prelude.{Result, MatchResult, ⊤}
use Rattle.text_bytes.specs.Bytes.{is_space}
use Rattle.text_bytes.specs.Flow.{◌>>=◌}
use Rattle.text_bytes.specs.Scan.{scan}
use Rattle.text_bytes.proofs.Ranges.{either}
use Rattle.stream.specs.Faults.{consume_byte}
use Rattle.stream.specs.Refusals.{number_of, is_outside_domain}
use Rattle.stream.specs.declared.Fault.{Fault}
use Rattle.stream.proofs.Binds.{bind_holds}
use Rattle.numbers.specs.Digits.{cap}
use Rattle.numbers.specs.Number.{starts_number, after_sign, mantissa_at, exponent_at, scale_of, scaled, finished, number_from, parse_number, parse_number_or_percent}
use Rattle.length.specs.Lengths.{parse_length}

abbrev pub judges : ℕ → Bool
judges n = leb n 3 || eqb n 8

-- a fault by none of these
abbrev pub Other : Fault → Type 0
Other f = judges (number_of f.trouble) ≡ false

-- of what a reader comes to
abbrev pub Others : {A : Type 0} → Result A Fault → Type 0
Others x = MatchResult x (λ _. ⊤) Other

-- going on with a step
on : {A B : Type 0} (r : Result A Fault) (f : A → Result B Fault) → Others r → ((x : A) → Others (f x)) → Others (r >>= f)
on r f v k = bind_holds (λ _. ⊤) (λ _. ⊤) Other r f v (λ x _. k x)

-- a number outside the domain is 10, 23 or 24
pub outside_other : (e : Fault) → is_outside_domain e ≡ true → Other e
unfolding is_outside_domain number_of
outside_other e q = go (number_of e.trouble) q
  where
    go : (n : ℕ) → (eqb n 10 || (eqb n 23 || eqb n 24)) ≡ true → judges n ≡ false
    go n h =
        either (eqb n 10) (λ t. rw (eqb-true n 10 t) refl)
        (λ t. either (eqb n 23) (λ u. rw (eqb-true n 23 u) refl)
        (λ u. let v : eqb n 24 ≡ true = rw (t, u) at h in rw (eqb-true n 24 v) refl))

module _ (s : List ℕ) where
  pub consume_other : (at c : ℕ) → Others (consume_byte s at c)
  unfolding consume_byte number_of
  consume_other at c = either (leb (length s) at) (λ e. simp e refl) (λ e. either (eqb (get_or s at 0) c) (λ q. simp (e, q) tt) (λ q. simp (e, q) refl))

  pub number_other : (at : ℕ) → Others (parse_number s at)
  unfolding parse_number number_from finished scaled number_of
  number_other at =
      let start = scan is_space s at in
      let m = mantissa_at s (after_sign s start) in
      let e = exponent_at s m.end.0 in
      either (leb (length s) start) (λ a. simp a refl)
      (λ a. either (starts_number (get_or s start 0))
      (λ b. either m.ok
      (λ x. either e.ok
      (λ y. either (ltb m.value cap)
      (λ z. either (leb (scale_of e.minus e.value m.fraction).by 22) (λ w. simp (a, b, x, y, z, w) tt) (λ w. simp (a, b, x, y, z, w) refl))
      (λ z. simp (a, b, x, y, z) refl))
      (λ y. simp (a, b, x, y) refl))
      (λ x. simp (a, b, x) refl))
      (λ b. simp (a, b) refl))

  pub percent_other : (at : ℕ) → Others (parse_number_or_percent s at)
  unfolding parse_number_or_percent
  percent_other at = on (parse_number s at) _ (number_other at) (λ r. tt)

  pub length_other : (at : ℕ) → Others (parse_length s at)
  unfolding parse_length
  length_other at = on (parse_number s at) _ (number_other at) (λ r. tt)
