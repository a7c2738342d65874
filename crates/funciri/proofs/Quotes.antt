-- Where a quote is.
use Prim.Native.Nat.{ℕ, zero, suc, ◌<◌}
use mathlib.Core.Bool.{Bool, true, false, ◌||◌}
use mathlib.Core.List.{List, [], ◌∷◌}
use mathlib.Core.Path.{◌≡◌, refl}
use native.Mathlib.Omega.{arith}
use lib.Dec.{eqb}
use lib.ListN.{length, get_or}
use Rattle.std.specs.List.{list_any}
use Rattle.text_bytes.proofs.Parts.{byte_inside}
use Rattle.funciri.specs.Link.{is_quote, has_quote}

either_or : (a b p q : Bool) {h : Bool} → (p || q) ≡ h → ((a || p) || (b || q)) ≡ ((a || b) || h)
either_or true b p q e = refl
either_or false true true q e = refl
either_or false true false q e = refl
either_or false false p q e = e

-- std's `contains`, of the one quote and of the other
abbrev pub holds : ℕ → List ℕ → Bool
holds q s = list_any (λ x. eqb x q) s

pub quotes : (s : List ℕ) → (holds 39 s || holds 34 s) ≡ has_quote s
unfolding has_quote
quotes [] = refl
quotes (x ∷ xs) = either_or (eqb x 39) (eqb x 34) (holds 39 xs) (holds 34 xs) (quotes xs)

quote_byte : (b : ℕ) → is_quote b ≡ true → 0 < b
quote_byte zero e = let z : ◌≡◌ {A = ℕ} 0 1 = cc in absurd (omega arith)
quote_byte (suc b) e = omega arith

-- past the end is no quote
pub quote_inside : (s : List ℕ) (i : ℕ) → is_quote (get_or s i 0) ≡ true → i < length s
quote_inside s i e = byte_inside s i (get_or s i 0) refl (quote_byte (get_or s i 0) e)
