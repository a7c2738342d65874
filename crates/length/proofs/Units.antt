-- How far a unit goes.
use Prim.Native.Nat.{ℕ, ◌-◌, ◌≤◌}
use mathlib.Core.Bool.{Bool, true, false, cond}
use mathlib.Core.List.{List}
use mathlib.Core.Path.{◌≡◌, refl}
use native.Mathlib.Omega.{arith}
use lib.ListN.{length, drop}
use Rattle.text_bytes.specs.Words.{ascii, starts_with}
use Rattle.text_bytes.proofs.Wording.{word_ends}
use Rattle.length.specs.Lengths.{unit_at, unit_width}
use Rattle.length.specs.declared.LengthUnit.{LengthUnit}
use Rattle.length.specs.declared.LengthUnit.TheVariants as U

-- what holds of each unit where its word stands, and of none, holds of the unit
pub unit_cases : (P : LengthUnit → Type 0) (s : List ℕ) (i : ℕ)
    → (starts_with (ascii "%") (drop i s) ≡ true → P U.Percent) → (starts_with (ascii "em") (drop i s) ≡ true → P U.Em)
    → (starts_with (ascii "ex") (drop i s) ≡ true → P U.Ex) → (starts_with (ascii "px") (drop i s) ≡ true → P U.Px)
    → (starts_with (ascii "in") (drop i s) ≡ true → P U.In) → (starts_with (ascii "cm") (drop i s) ≡ true → P U.Cm)
    → (starts_with (ascii "mm") (drop i s) ≡ true → P U.Mm) → (starts_with (ascii "pt") (drop i s) ≡ true → P U.Pt)
    → (starts_with (ascii "pc") (drop i s) ≡ true → P U.Pc) → P U.None → P (unit_at s i)
unfolding unit_at
unit_cases P s i a b c d e f g h j z =
    case _ _ _ a (case _ _ _ b (case _ _ _ c (case _ _ _ d (case _ _ _ e (case _ _ _ f (case _ _ _ g (case _ _ _ h (case _ _ _ j z))))))))
  where
    case : (t : Bool) (u v : LengthUnit) → (t ≡ true → P u) → P v → P (cond t u v)
    case true u v h k = h refl
    case false u v h k = k

pub unit_ends : (s : List ℕ) (i : ℕ) → unit_width (unit_at s i) ≤ length s - i
unfolding unit_width
unit_ends s i =
    unit_cases (λ u. unit_width u ≤ length s - i) s i (λ e. (word_ends _ s i e).1) (λ e. (word_ends _ s i e).1) (λ e. (word_ends _ s i e).1) (λ e. (word_ends _ s i e).1) (λ e. (word_ends _ s i e).1)
    (λ e. (word_ends _ s i e).1) (λ e. (word_ends _ s i e).1) (λ e. (word_ends _ s i e).1) (λ e. (word_ends _ s i e).1) (omega arith)
