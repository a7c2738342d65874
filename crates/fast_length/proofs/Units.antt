-- A unit by its two bytes, and that both are ASCII.
use Prim.Native.Nat.{ℕ, suc, ◌+◌, ◌≤◌, ◌<◌}
use mathlib.Core.Bool.{true, ◌&&◌, cond}
use mathlib.Core.List.{List, [], ◌∷◌}
use mathlib.Core.Logic.{⊎_elim}
use mathlib.Core.Path.{◌≡◌, refl, sym, ◌∙◌}
use native.Mathlib.Nat.{add-zero}
use native.Mathlib.Omega.{arith}
use borrow.Author.Tests.{eqb-true, ne_eqb, leb-true}
use lib.Dec.{eqb, leb}
use lib.ListN.{length, get_or, drop, drop_of_length-le, get_or-eq_default}
use lib.Seq.{drop-cons}
use Rattle.utf8.specs.Characters.{is_ascii}
use Rattle.text_bytes.specs.Words.{starts_with}
use Rattle.text_bytes.proofs.Ranges.{and_true, either, lt_or_le}
use Rattle.length.specs.Lengths.{unit_at, unit_width}
use Rattle.length.proofs.Units.{unit_cases}
use Rattle.length.specs.declared.LengthUnit.{LengthUnit}
use Rattle.length.specs.declared.LengthUnit.TheVariants as U
use Rattle.fast_numbers.proofs.Plain.{Plain, plain_here, word_plain}

-- a word of one byte, and of two: past the end is no byte of a word
starts_one : (s : List ℕ) (i v : ℕ) → leb 1 v ≡ true → starts_with (v ∷ []) (drop i s) ≡ eqb (get_or s i 0) v
unfolding starts_with
starts_one s i v k =
    ⊎_elim
    (λ (h : i < length s). simp (drop-cons s i 0 h, and_true))
    (λ (h : length s ≤ i). simp (drop_of_length-le s h, get_or-eq_default s 0 h) (sym (ne_eqb 0 v (λ e. omega (arith, leb-true 1 v k)))))
    (lt_or_le i (length s))

starts_two : (s : List ℕ) (i v w : ℕ) → leb 1 v ≡ true → leb 1 w ≡ true → starts_with (v ∷ w ∷ []) (drop i s) ≡ (eqb (get_or s i 0) v && eqb (get_or s (i + 1) 0) w)
unfolding starts_with
starts_two s i v w k l =
    ⊎_elim
    (λ (h : i < length s).
    let k : i + 1 ≡ suc i = omega arith in
    let e : starts_with (w ∷ []) (drop (suc i) s) ≡ eqb (get_or s (suc i) 0) w = starts_one s (suc i) w l in
    simp (drop-cons s i 0 h, k, ← e))
    (λ (h : length s ≤ i). simp (drop_of_length-le s h, get_or-eq_default s 0 h, ne_eqb 0 v (λ e. omega (arith, leb-true 1 v k))))
    (lt_or_le i (length s))

-- the unit of two bytes, in the order of the code
abbrev unit_of : ℕ → ℕ → LengthUnit
unit_of b c =
    cond (eqb b 37) U.Percent
    (cond (eqb b 112) (cond (eqb c 120) U.Px (cond (eqb c 116) U.Pt (cond (eqb c 99) U.Pc U.None)))
    (cond (eqb b 101) (cond (eqb c 109) U.Em (cond (eqb c 120) U.Ex U.None))
    (cond (eqb b 105) (cond (eqb c 110) U.In U.None)
    (cond (eqb b 99) (cond (eqb c 109) U.Cm U.None)
    (cond (eqb b 109) (cond (eqb c 109) U.Mm U.None) U.None)))))

-- and of the definition
abbrev unit_by : ℕ → ℕ → LengthUnit
unit_by b c =
    cond (eqb b 37) U.Percent
    (cond (eqb b 101 && eqb c 109) U.Em
    (cond (eqb b 101 && eqb c 120) U.Ex
    (cond (eqb b 112 && eqb c 120) U.Px
    (cond (eqb b 105 && eqb c 110) U.In
    (cond (eqb b 99 && eqb c 109) U.Cm
    (cond (eqb b 109 && eqb c 109) U.Mm
    (cond (eqb b 112 && eqb c 116) U.Pt
    (cond (eqb b 112 && eqb c 99) U.Pc U.None))))))))

orders : (b c : ℕ) → unit_of b c ≡ unit_by b c
orders b c =
    either (eqb b 37) (λ e. simp e)
    (λ p. either (eqb b 112) (λ e. simp (eqb-true b 112 e))
    (λ q. either (eqb b 101) (λ e. simp (eqb-true b 101 e))
    (λ r. either (eqb b 105) (λ e. simp (eqb-true b 105 e))
    (λ t. either (eqb b 99) (λ e. simp (eqb-true b 99 e))
    (λ u. either (eqb b 109) (λ e. simp (eqb-true b 109 e))
    (λ v. simp (p, q, r, t, u, v)))))))

pub unit_is : (s : List ℕ) (i : ℕ) → unit_at s i ≡ unit_of (get_or s i 0) (get_or s (i + 1) 0)
unfolding unit_at
unit_is s i = simp (starts_one, starts_two) (sym (orders (get_or s i 0) (get_or s (i + 1) 0)))

-- no unit begins with another byte
pub unit_none : (s : List ℕ) (i : ℕ) → (get_or s i 0 ≡ 37 → ⊥) → (get_or s i 0 ≡ 112 → ⊥) → (get_or s i 0 ≡ 101 → ⊥) → (get_or s i 0 ≡ 105 → ⊥)
    → (get_or s i 0 ≡ 99 → ⊥) → (get_or s i 0 ≡ 109 → ⊥) → unit_at s i ≡ U.None
unit_none s i a b c d e f =
    let b0 = get_or s i 0 in
    unit_is s i ∙ simp (ne_eqb b0 37 a, ne_eqb b0 112 b, ne_eqb b0 101 c, ne_eqb b0 105 d, ne_eqb b0 99 e, ne_eqb b0 109 f)

module _ (s : List ℕ) (i : ℕ) where
  plain_none : Plain s i (i + 0)
  plain_none = let v : Plain s i i = plain_here s i in simp add-zero v

  pub unit_plain : Plain s i (i + unit_width (unit_at s i))
  unfolding unit_width is_ascii
  unit_plain =
      unit_cases (λ u. Plain s i (i + unit_width u)) s i (word_plain s i _ refl) (word_plain s i _ refl) (word_plain s i _ refl) (word_plain s i _ refl) (word_plain s i _ refl)
      (word_plain s i _ refl) (word_plain s i _ refl) (word_plain s i _ refl) (word_plain s i _ refl) plain_none
