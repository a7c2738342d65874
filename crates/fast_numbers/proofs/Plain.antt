-- The bytes of a number are ASCII, so that a text that is one is UTF-8.
use Prim.Native.Nat.{ℕ, zero, suc, ◌+◌, ◌-◌, ◌≤◌, ◌<◌}
use mathlib.Core.Bool.{Bool, true, false, ◌||◌}
use mathlib.Core.List.{List, [], ◌∷◌}
use mathlib.Core.Logic.{⊎_elim}
use mathlib.Core.Path.{◌≡◌, refl, sym}
use native.Mathlib.Omega.{arith}
use borrow.Author.Tests.{lt-ltb, ltb-true, eqb-true}
use lib.Dec.{eqb, ltb}
use lib.ListN.{length, get_or, drop}
use lib.Seq.{get_or-drop}
use Rattle.text_bytes.specs.Bytes.{is_digit, is_sign, is_space}
use Rattle.utf8.specs.Characters.{is_ascii}
use Rattle.text_bytes.specs.Scan.{scan}
use Rattle.text_bytes.specs.Words.{starts_with}
use Rattle.text_bytes.proofs.Ahead.{run_bytes}
use Rattle.text_bytes.proofs.Ranges.{either, and_first, and_second, le_or_lt, within_le}
use Rattle.numbers.specs.Number.{after_sign, mantissa_at, mantissa_dot, exponent_at, exponent_from, parse_number}
use Rattle.numbers.specs.Moves.{Number}
use Rattle.numbers.proofs.Values.{is_e, is_dot, number_holds}
use Rattle.stream.specs.declared.Read.{Read}
use Rattle.stream.proofs.Binds.{at_ok}
use Rattle.stream.proofs.Stretches.{LiesFrom}
use Rattle.std.specs.Prelude.{Ok, MatchResult}

-- from i to j a reader went forward and passed ASCII alone
pub record Plain (s : List ℕ) (i j : ℕ) : Type 0 where
  pub grows : i ≤ j
  pub bytes : (m : ℕ) → i ≤ m → m < j → get_or s m 0 < 128

pub plain_here : (s : List ℕ) (i : ℕ) → Plain s i i
plain_here s i = record { grows = omega arith; bytes = λ m p q. absurd (omega arith) }

pub plain_trans : {s : List ℕ} {i j k : ℕ} → Plain s i j → Plain s j k → Plain s i k
plain_trans {s} {i} {j} {k} v w =
    record { grows = omega arith; bytes = λ m p q. ⊎_elim (λ (l : j ≤ m). w.bytes m l q) (λ (l : m < j). v.bytes m p l) (le_or_lt j m) }

-- a class of ASCII bytes
abbrev Low : (ℕ → Bool) → Type 0
Low p = (b : ℕ) → p b ≡ true → b < 128

low_is : (k : ℕ) → ltb k 128 ≡ true → Low (λ b. eqb b k)
low_is k l b e = omega (arith, eqb-true b k e, ltb-true k 128 l)

low_or : (p q : ℕ → Bool) → Low p → Low q → Low (λ b. p b || q b)
low_or p q v w b e = go (p b) refl e
  where
    go : (t : Bool) → p b ≡ t → (t || q b) ≡ true → b < 128
    go true f e = v b f
    go false f e = w b e

low_digit : Low is_digit
low_digit b e = omega (arith, within_le 48 57 b (sym e))

low_sign : Low is_sign
low_sign = low_or _ _ (low_is 43 refl) (low_is 45 refl)

low_space : Low is_space
low_space = low_or _ _ (low_is 32 refl) (low_or _ _ (low_is 9 refl) (low_or _ _ (low_is 10 refl) (low_is 13 refl)))

low_e : Low is_e
low_e = low_or _ _ (low_is 101 refl) (low_is 69 refl)

plain_one : (s : List ℕ) (i : ℕ) (t : ℕ → Bool) → Low t → t (get_or s i 0) ≡ true → Plain s i (i + 1)
plain_one s i t l e =
    record { grows = omega arith; bytes = λ m p q. let k : m ≡ i = omega arith in rw k (l (get_or s i 0) e) }

plain_scan : (s : List ℕ) (i : ℕ) (p : ℕ → Bool) → Low p → Plain s i (scan p s i)
unfolding scan
plain_scan s i p l =
    record {
      grows = omega arith;
      bytes = λ m h q.
          let f : p (get_or (drop i s) (m - i) 0) ≡ true = run_bytes p (drop i s) (m - i) (omega arith) in
          let k : i + (m - i) ≡ m = omega arith in
          l (get_or s m 0) (rw (get_or-drop, k) at f);
    }

module _ (s : List ℕ) where
  sign_plain : (i : ℕ) → Plain s i (after_sign s i)
  unfolding after_sign
  sign_plain i = either (is_sign (get_or s i 0)) (λ e. simp e (plain_one s i is_sign low_sign e)) (λ e. simp e (plain_here s i))

  mantissa_plain : (at : ℕ) → Plain s at (mantissa_at s at).end.0
  unfolding mantissa_at mantissa_dot
  mantissa_plain at =
      let v : Plain s at (scan is_digit s at) = plain_scan s at is_digit low_digit in
      either (is_dot (get_or s (scan is_digit s at) 0))
      (λ e. simp e (plain_trans v (plain_trans (plain_one s _ is_dot (low_is 46 refl) e) (plain_scan s _ is_digit low_digit))))
      (λ e. simp e v)

  exponent_plain : (at : ℕ) → Plain s at (exponent_at s at).end.0
  unfolding exponent_at exponent_from
  exponent_plain at =
      either (is_e (get_or s at 0))
      (λ e. either (eqb (get_or s (at + 1) 0) 109 || eqb (get_or s (at + 1) 0) 120) (λ f. simp (e, f) (plain_here s at))
      (λ f. simp (e, f) (plain_trans (plain_one s at is_e low_e e) (plain_trans (sign_plain (at + 1)) (plain_scan s _ is_digit low_digit)))))
      (λ e. simp e (plain_here s at))

  -- of a number that is read at i, spaces before it included
  number_plain : (i : ℕ) → MatchResult (parse_number s i) (λ r. Plain s i r.next.0) (LiesFrom s i)
  number_plain i =
      let start = scan is_space s i in
      number_holds s i (λ r. Plain s i r.next.0)
      (λ l j. plain_trans (plain_scan s i is_space low_space) (plain_trans (sign_plain start) (plain_trans (mantissa_plain (after_sign s start)) (exponent_plain _))))

  pub plain_known : (i : ℕ) (r : Read Number) → parse_number s i ≡ Ok r → Plain s i r.next.0
  plain_known i r e = at_ok (λ r. Plain s i r.next.0) (LiesFrom s i) (parse_number s i) r (number_plain i) e

-- the bytes of a word
starts_low : (w l : List ℕ) → starts_with w l ≡ true → is_ascii w ≡ true → (k : ℕ) → k < length w → get_or l k 0 < 128
unfolding starts_with is_ascii
starts_low [] l e f k h = absurd (omega arith)
starts_low (w ∷ ws) [] e f k h = omega arith
starts_low (w ∷ ws) (x ∷ xs) e f zero h = omega (arith, eqb-true x w (and_first _ _ e), ltb-true w 128 (and_first _ _ f))
starts_low (w ∷ ws) (x ∷ xs) e f (suc k) h = starts_low ws xs (and_second (eqb x w) _ e) (and_second (ltb w 128) _ f) k (omega arith)

-- a word of ASCII that stands at a place
pub word_plain : (s : List ℕ) (i : ℕ) (w : List ℕ) → is_ascii w ≡ true → starts_with w (drop i s) ≡ true → Plain s i (i + length w)
word_plain s i w f e =
    record {
      grows = omega arith;
      bytes = λ m h q.
          let k : i + (m - i) ≡ m = omega arith in
          let x : get_or (drop i s) (m - i) 0 < 128 = starts_low w (drop i s) e f (m - i) (omega arith) in
          rw (get_or-drop, k) at x;
    }

-- a text of which no byte is left
pub plain_text : (s : List ℕ) (j : ℕ) → Plain s 0 j → length s ≤ j → is_ascii s ≡ true
unfolding is_ascii
plain_text s j v h = go s (λ m l. v.bytes m (omega arith) (omega arith))
  where
    go : (l : List ℕ) → ((m : ℕ) → m < length l → get_or l m 0 < 128) → is_ascii l ≡ true
    go [] f = refl
    go (x ∷ xs) f = simp (lt-ltb x 128 (f 0 (omega arith))) (go xs (λ m h. f (suc m) (omega arith)))
