-- Names of small letters, in letters of either case, and tests that hold of a range of bytes.
use Prim.Native.Nat.{ℕ, ◌+◌, ◌-◌, ◌≤◌, ◌<◌}
use mathlib.Core.Bool.{Bool, true}
use mathlib.Core.List.{List}
use mathlib.Core.Path.{◌≡◌, refl, sym}
use native.Mathlib.Omega.{arith}
use borrow.Author.Tests.{eqb-true}
use lib.Dec.{T, eqb}
use Rattle.text_bytes.specs.Bytes.{within, is_lower}
use Rattle.text_bytes.specs.Words.{lower_of, lowered}
use Rattle.text_bytes.proofs.Ranges.{and_first, and_second, within_ge, within_le, all_from, across}
use Rattle.names.proofs.Tables.{holds_true}
use Rattle.standards.specs.CssColor3.{Spelling, done, small, capital, spelling}
use Rattle.standards.proofs.Runs.{every}

-- a test that holds of the bytes lo to lo + n - 1
pub in_range : (t : ℕ → Bool) (lo n : ℕ) → T (all_from t lo n) → (b : ℕ) → lo ≤ b → b < lo + n → t b ≡ true
in_range t lo n h b p q = sym (holds_true (t b) (across t lo n h b p q))

-- a small letter, and the capital that stands 32 before it
pub at_letter : (t : ℕ → Bool) → T (all_from t 97 26) → (c : ℕ) → is_lower c ≡ true → t c ≡ true
at_letter t h c e = in_range t 97 26 h c (omega (arith, within_ge 97 122 c (sym e))) (omega (arith, within_le 97 122 c (sym e)))

pub lower_small : (c : ℕ) → is_lower c ≡ true → lower_of c ≡ c
unfolding lower_of within
lower_small c e = eqb-true (lower_of c) c (at_letter (λ b. eqb (lower_of b) b) tt c e)

pub lower_capital : (c : ℕ) → is_lower c ≡ true → lower_of (c - 32) ≡ c
unfolding lower_of within
lower_capital c e = eqb-true (lower_of (c - 32)) c (at_letter (λ b. eqb (lower_of (b - 32)) b) tt c e)

-- a name of small letters, in letters of either case
pub spelled_lower : {n : List ℕ} (w : Spelling n) → every is_lower n ≡ true → lowered (spelling w) ≡ n
unfolding spelling
spelled_lower done e = refl
spelled_lower (small c {n} w) e = simp (lower_small c (and_first (is_lower c) (every is_lower n) e), spelled_lower w (and_second (is_lower c) (every is_lower n) e))
spelled_lower (capital c {n} w) e = simp (lower_capital c (and_first (is_lower c) (every is_lower n) e), spelled_lower w (and_second (is_lower c) (every is_lower n) e))
