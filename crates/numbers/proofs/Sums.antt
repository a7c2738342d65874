-- The loop that reads a run of digits. The code holds the value at the cap, the definition does not.
use Prim.Native.Nat.{ℕ, ◌+◌, ◌-◌, ◌*◌, ◌≤◌, ◌<◌, min}
use mathlib.Core.Bool.{Bool, true, false, cond}
use mathlib.Core.List.{List, [], ◌∷◌}
use mathlib.Core.Path.{◌≡◌, refl}
use mathlib.Core.Logic.{⊎_elim}
use native.Mathlib.Omega.{arith}
use lib.ListN.{length, get_or, drop, drop_of_length-le}
use lib.Seq.{drop-cons}
use Rattle.text_bytes.specs.Bytes.{is_digit}
use Rattle.text_bytes.specs.Scan.{scan}
use Rattle.text_bytes.proofs.Ranges.{le_or_lt}
use native.Mathlib.Numerals.{add-one}
use Rattle.text_bytes.proofs.Scans.{scan_on, scan_off, scan_past}
use Rattle.numbers.specs.Digits.{value}

pub value_ge : (a : ℕ) (l : List ℕ) → a ≤ value a l
unfolding value
value_ge a [] = omega arith
value_ge a (x ∷ xs) = go (is_digit x) (value_ge (a * 10 + (x - 48)) xs)
  where
    go : (t : Bool) → a * 10 + (x - 48) ≤ value (a * 10 + (x - 48)) xs → a ≤ cond t (value (a * 10 + (x - 48)) xs) a
    go true h = omega arith
    go false h = omega arith

-- what is held stays held
pub capped : (most a : ℕ) (l : List ℕ) → min most (value (min most a) l) ≡ min most (value a l)
capped most a l =
    ⊎_elim
    (λ (h : a ≤ most). let e : min most a ≡ a = omega arith in rw e refl)
    (λ (h : most < a). omega (arith, value_ge a l, value_ge (min most a) l))
    (le_or_lt a most)

-- One turn of the loop that reads a run of digits: a digit is read on, and any other byte, or the end, ends the run
pub value_on : (a : ℕ) (s : List ℕ) (i : ℕ) → i < length s → is_digit (get_or s i 0) ≡ true → value a (drop i s) ≡ value (a * 10 + (get_or s i 0 - 48)) (drop (i + 1) s)
unfolding value
value_on a s i h e = simp (drop-cons s i 0 h, e, add-one)

pub value_off : (a : ℕ) (s : List ℕ) (i : ℕ) → i < length s → is_digit (get_or s i 0) ≡ false → value a (drop i s) ≡ a
unfolding value
value_off a s i h e = simp (drop-cons s i 0 h, e)

pub value_past : (a : ℕ) (s : List ℕ) (i : ℕ) → length s ≤ i → value a (drop i s) ≡ a
unfolding value
value_past a s i h = simp (drop_of_length-le s h)

-- the invariant: from i on, with acc so far, the digits come to what they come to from `at` on, with a so far
pub record Summing (s : List ℕ) (most a at i acc : ℕ) : Type 0 where
  pub scans : scan is_digit s i ≡ scan is_digit s at
  pub sum : min most (value acc (drop i s)) ≡ min most (value a (drop at s))
  pub small : acc ≤ most

pub ruleset summed = (value_on, value_off, value_past, value_ge, capped, scan_on, scan_off, scan_past)
