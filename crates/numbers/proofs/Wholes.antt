-- Whether a number is whole, told by its bytes; and where it ends.
use Prim.Native.Nat.{ℕ, ◌+◌, ◌≤◌, ◌<◌}
use mathlib.Core.Bool.{Bool, true, false, ◌||◌, not}
use mathlib.Core.Logic.{◌↔◌, ⊎_elim}
use mathlib.Core.List.{List}
use mathlib.Core.Path.{◌≡◌, refl, sym, ap, ◌∙◌}
use native.Mathlib.Omega.{arith}
use borrow.Author.Tests.{eqb-true, ne_eqb, not-true}
use lib.Dec.{eqb}
use lib.ListN.{length, get_or}
use Rattle.text_bytes.specs.Bytes.{is_digit, is_sign, is_space}
use Rattle.text_bytes.specs.Scan.{scan}
use Rattle.text_bytes.specs.declared.Place.{Place}
use Rattle.text_bytes.proofs.Ahead.{scan_bytes}
use Rattle.text_bytes.proofs.Ranges.{either, le_or_lt, within_ge, within_le}
use Rattle.text_bytes.proofs.Scans.{scan_ge}
use Rattle.numbers.specs.Number.{is_plain, after_sign, mantissa_at, mantissa_dot, exponent_at, exponent_from, parse_number}
use Rattle.std.specs.Prelude.{Ok}
use Rattle.stream.specs.declared.Read.{Read}
use Rattle.stream.proofs.Binds.{at_ok}
use Rattle.stream.proofs.Stretches.{LiesFrom}
use Rattle.numbers.specs.Moves.{Number}
use Rattle.numbers.proofs.Values.{is_e, is_dot, mantissa_least, mantissa_of, exponent_of, number_holds, number_known}

-- all bytes from i to j are plain
abbrev Plain : List ℕ → ℕ → ℕ → Type 0
Plain s i j = (k : ℕ) → i ≤ k → k < j → is_plain (get_or s k 0) ≡ true

-- From i a reader went to j; `marked` says whether one of the bytes is not plain
record Marks (s : List ℕ) (i j : ℕ) (marked : Bool) : Type 0 where
  grows : i ≤ j
  plain : marked ≡ false → Plain s i j
  back : Plain s i j → marked ≡ false

marks_trans : {s : List ℕ} {i j k : ℕ} {b c : Bool} → Marks s i j b → Marks s j k c → Marks s i k (b || c)
marks_trans {s} {i} {j} {k} {b = true} v w =
    record { grows = omega arith; plain = λ e. let z : ◌≡◌ {A = ℕ} 0 1 = cc in absurd (omega arith); back = λ f. v.back (λ m p q. f m p (omega arith)) }
marks_trans {s} {i} {j} {k} {b = false} v w =
    record {
      grows = omega arith;
      plain = λ e m p q. ⊎_elim (λ (l : j ≤ m). w.plain e m l q) (λ (l : m < j). v.plain refl m p l) (le_or_lt j m);
      back = λ f. w.back (λ m p q. f m (omega arith) q);
    }

marks_whole : {s : List ℕ} {i j : ℕ} {b : Bool} → Marks s i j b → (not b ≡ true) ↔ Plain s i j
marks_whole {b = b} v = (λ w. v.plain (not-true b w), λ f. ap not (v.back f))

digit_plain : (b : ℕ) → true ≡ is_digit b → is_plain b ≡ true
digit_plain b d =
    let l : 48 ≤ b = within_ge 48 57 b d in
    let h : b ≤ 57 = within_le 48 57 b d in
    simp (ne_eqb b 46 (λ e. omega arith), ne_eqb b 101 (λ e. omega arith), ne_eqb b 69 (λ e. omega arith))

sign_plain : (b : ℕ) → is_sign b ≡ true → is_plain b ≡ true
sign_plain b e = either (eqb b 43) (λ x. rw (eqb-true b 43 x)) (λ x. rw (eqb-true b 45 (simp x at e)))

module _ (s : List ℕ) (i : ℕ) where
  marks_here : Marks s i i false
  marks_here = record { grows = omega arith; plain = λ e m p q. absurd (omega arith); back = λ f. refl }

  marks_one : (b : Bool) → is_plain (get_or s i 0) ≡ not b → Marks s i (i + 1) b
  marks_one b e =
      record {
        grows = omega arith;
        plain = λ x m p q. let k : m ≡ i = omega arith in rw (k, e, x);
        back = λ f. not-true b (sym e ∙ f i (omega arith) (omega arith));
      }

  marks_digits : Marks s i (scan is_digit s i) false
  marks_digits = record { grows = scan_ge is_digit s i; plain = λ x m p q. digit_plain (get_or s m 0) (sym (scan_bytes is_digit s i m p q)); back = λ f. refl }

  marks_sign : Marks s i (after_sign s i) false
  unfolding after_sign
  marks_sign = either (is_sign (get_or s i 0)) (λ e. simp e (marks_one false (sign_plain (get_or s i 0) e))) (λ e. simp e marks_here)

module _ (s : List ℕ) (at : ℕ) where
  marks_mantissa : Marks s at (mantissa_at s at).end.0 (mantissa_at s at).dotted
  unfolding mantissa_at mantissa_dot
  marks_mantissa =
      let v = marks_digits s at in
      either (is_dot (get_or s (scan is_digit s at) 0))
      (λ e. simp e (marks_trans v (marks_trans (marks_one s _ true (simp e)) (marks_digits s _))))
      (λ e. simp e v)

  marks_exponent : Marks s at (exponent_at s at).end.0 (exponent_at s at).written
  unfolding exponent_at exponent_from
  marks_exponent =
      either (is_e (get_or s at 0))
      (λ e. either (eqb (get_or s (at + 1) 0) 109 || eqb (get_or s (at + 1) 0) 120) (λ f. simp (e, f) (marks_here s at))
      (λ f.
      let v = marks_one s at true (either (is_dot (get_or s at 0)) (λ d. simp d) (λ d. simp (d, e))) in
      simp (e, f) (marks_trans v (marks_trans (marks_sign s (at + 1)) (marks_digits s _)))))
      (λ e. simp e (marks_here s at))

-- what is shown of a number that was read
module _ (s : List ℕ) (at : ℕ) where
  record Ends (r : Read Number) : Type 0 where
    whole : (r.value.whole ≡ true) ↔ Plain s (scan is_space s at) r.value.end.0
    least : scan is_space s at < r.value.end.0
    same : r.value.end ≡ r.next

  number_ends : (r : Read Number) → parse_number s at ≡ Ok r → Ends r
  number_ends r e =
      let start = scan is_space s at in
      let m = mantissa_of s at in
      let x = exponent_of s at in
      let a = marks_sign s start in
      let b = marks_mantissa s (after_sign s start) in
      let c = marks_exponent s m.end.0 in
      let v : Marks s start x.end.0 (m.dotted || x.written) = marks_trans a (marks_trans b c) in
      at_ok Ends (LiesFrom s at) (parse_number s at) r
      (number_holds s at Ends (λ l j. record { whole = marks_whole v; least = omega (arith, a.grows, mantissa_least s (after_sign s start) j.mantissa, c.grows); same = refl })) e

-- THEOREM: a number is `whole` exactly if no byte from its first to its end is a dot, `e` or `E`
pub number_whole : (s : List ℕ) (at : ℕ) (r : Read Number) → parse_number s at ≡ Ok r
    → (r.value.whole ≡ true) ↔ ((j : ℕ) → scan is_space s at ≤ j → j < r.value.end.0 → is_plain (get_or s j 0) ≡ true)
number_whole s at r e = (number_ends s at r e).whole

-- THEOREM: its end lies after its first byte and inside the text, and reading goes on there
pub number_end : (s : List ℕ) (at : ℕ) (r : Read Number) → parse_number s at ≡ Ok r
    → (scan is_space s at < r.value.end.0) × ((r.value.end.0 ≤ length s) × (r.value.end ≡ r.next))
number_end s at r e =
    let v = number_ends s at r e in
    (v.least, (omega (arith, (number_known s at r e).past.inside, ap (λ (q : Place). q.0) v.same), v.same))
