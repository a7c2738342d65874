-- Why the code may hold digits, and what it takes as an f64.
use Prim.Native.Nat.{ℕ, ◌+◌, ◌-◌, ◌≤◌, ◌<◌, min}
use mathlib.Core.Bool.{Bool, true, false, cond}
use mathlib.Core.List.{List}
use mathlib.Core.Path.{◌≡◌, refl}
use mathlib.Core.Logic.{⊎_elim}
use lib.Dec.{T, ltb, eqb, le→leb}
use lib.IntN.{pos}
use lib.Ieee.{binary64, in_float}
use lib.ListN.{length, get_or, drop}
use native.Mathlib.Omega.{arith}
use borrow.Author.Tests.{le-leb}
use Rattle.text_bytes.specs.Bytes.{is_digit}
use Rattle.text_bytes.specs.Moves.{place}
use Rattle.text_bytes.specs.Scan.{scan}
use Rattle.text_bytes.proofs.Ranges.{lt_or_le}
use Rattle.text_bytes.proofs.Scans.{run_inside}
use Rattle.numbers.specs.Digits.{value, cap}
use Rattle.numbers.specs.Held.{top}
use Rattle.numbers.specs.Number.{Mantissa, mantissa_at, mantissa_dot, scale_of}

-- what stays below 2 ^ 53 is exact as an f64
pub whole_in_float : (m : ℕ) → m < cap → T (in_float binary64 (pos m))
unfolding in_float
whole_in_float m h = le→leb m cap (omega arith)

-- the fraction is a part of the text
pub fraction_le : (s : List ℕ) (at : ℕ) → (mantissa_at s at).fraction ≤ length s
unfolding mantissa_at mantissa_dot
fraction_le s at =
    let dot = scan is_digit s at in
    elim (eqb (get_or s dot 0) 46) as (λ t. (cond {A = Mantissa} t
    (record { ok = ltb (dot + 1) (scan is_digit s (dot + 1)); value = value (value 0 (drop at s)) (drop (dot + 1) s); fraction = scan is_digit s (dot + 1) - (dot + 1); dotted = true; end = place (scan is_digit s (dot + 1)) })
    (record { ok = ltb at dot; value = value 0 (drop at s); fraction = 0; dotted = false; end = place dot })).fraction ≤ length s)
    [ true ↦ run_inside is_digit s (dot + 1) | false ↦ omega arith ]

-- An exponent that the code holds is as far out of range as the true one, since a fraction is shorter than 2 ^ 63
pub far : (minus : Bool) (e f : ℕ) → f < 9223372036854775808 → 22 < (scale_of minus (min top e) f).by → 22 < (scale_of minus e f).by
unfolding scale_of
far true e f l h = omega arith
far false e f l h =
    ⊎_elim
    (λ (k : e < top). let q : min top e ≡ e = omega arith in rw q at h)
    (λ (k : top ≤ e). simp (le-leb f e (omega arith)) (omega arith))
    (lt_or_le e top)

-- and in range it is the true one
pub near : (minus : Bool) (e f : ℕ) → f < 9223372036854775808 → (scale_of minus (min top e) f).by ≤ 22 → scale_of minus (min top e) f ≡ scale_of minus e f
unfolding scale_of
near true e f l h = let q : min top e ≡ e = omega arith in rw q refl
near false e f l h =
    ⊎_elim
    (λ (k : e < top). let q : min top e ≡ e = omega arith in rw q refl)
    (λ (k : top ≤ e). let g : min top e - f ≤ 22 = simp (le-leb f (min top e) (omega arith)) at h in absurd (omega arith))
    (lt_or_le e top)
