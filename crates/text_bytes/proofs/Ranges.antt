-- Tests of a byte against a range, in the form in which a `match` makes them; and a test that is computed at each number of a range.
use Prim.Native.Nat.{ℕ, zero, suc, ◌+◌, ◌≤◌, ◌<◌}
use mathlib.Core.Bool.{Bool, true, false, ◌&&◌}
use mathlib.Core.Path.{◌≡◌, refl, subst}
use mathlib.Core.Logic.{◌⊎◌, inl, inr, ⊎_elim}
use native.Mathlib.Nat.{eq-or-lt_of_le}
use native.Mathlib.Omega.{arith}
use lib.Dec.{T, leb}
use borrow.Author.Tests.{le-leb, lt-leb, leb-true, leb-false}
use Rattle.text_bytes.specs.Bytes.{within}

-- the two orders, as a sum that can be taken apart
pub le_or_lt : (a b : ℕ) → (a ≤ b) ⊎ (b < a)
le_or_lt a b = go (leb a b) refl
  where
    go : (t : Bool) → leb a b ≡ t → (a ≤ b) ⊎ (b < a)
    go true e = inl (leb-true a b e)
    go false e = inr (leb-false a b e)

pub lt_or_le : (a b : ℕ) → (a < b) ⊎ (b ≤ a)
lt_or_le a b = ⊎_elim (λ (h : b ≤ a). inr h) (λ (h : a < b). inl h) (le_or_lt b a)

-- a proof by a test: in each arm `simp e` makes a definition compute
pub either : {C : Type 0} (t : Bool) → (t ≡ true → C) → (t ≡ false → C) → C
either true f g = f refl
either false f g = g refl

pub and_false : (t : Bool) → (t && false) ≡ false
and_false true = refl
and_false false = refl

pub and_true : (t : Bool) → (t && true) ≡ t
and_true true = refl
and_true false = refl

pub and_first : (t u : Bool) → (t && u) ≡ true → t ≡ true
and_first true u e = refl
and_first false u e = e

pub and_second : (t u : Bool) → (t && u) ≡ true → u ≡ true
and_second true u e = e
and_second false u e = let z : ◌≡◌ {A = ℕ} 0 1 = cc in absurd (omega arith)

module _ (lo hi b : ℕ) where
  pub within_yes : lo ≤ b → b < suc hi → true ≡ within lo hi b
  unfolding within
  within_yes p q = simp (le-leb lo b p, le-leb b hi (omega arith))

  pub within_low : b < lo → false ≡ within lo hi b
  unfolding within
  within_low p = simp (lt-leb lo b p)

  pub within_high : suc hi ≤ b → false ≡ within lo hi b
  unfolding within
  within_high p = simp (lt-leb b hi (omega arith), and_false)

pub ruleset ranged = (within_yes, within_low, within_high)

-- and back, as rules for `omega`
pub within_ge : (lo hi b : ℕ) → true ≡ within lo hi b → lo ≤ b
unfolding within
within_ge lo hi b e = go (leb lo b) refl e
  where
    go : (t : Bool) → leb lo b ≡ t → true ≡ (t && leb b hi) → lo ≤ b
    go true q e = leb-true lo b q
    go false q e = let z : ◌≡◌ {A = ℕ} 0 1 = cc in omega arith

pub within_le : (lo hi b : ℕ) → true ≡ within lo hi b → b ≤ hi
unfolding within
within_le lo hi b e = go (leb lo b) (leb b hi) refl e
  where
    go : (t u : Bool) → leb b hi ≡ u → true ≡ (t && u) → b ≤ hi
    go true true q e = leb-true b hi q
    go true false q e = let z : ◌≡◌ {A = ℕ} 0 1 = cc in omega arith
    go false u q e = let z : ◌≡◌ {A = ℕ} 0 1 = cc in omega arith

abbrev pub all_from : (ℕ → Bool) → ℕ → ℕ → Bool
all_from t lo zero = true
all_from t lo (suc n) = t lo && all_from t (suc lo) n

and_left : (a b : Bool) → T (a && b) → T a
and_left true b h = tt
and_left false b h = h

and_right : (a b : Bool) → T (a && b) → T b
and_right true b h = h
and_right false b h = absurd h

pub across : (t : ℕ → Bool) (lo n : ℕ) → T (all_from t lo n) → (b : ℕ) → lo ≤ b → b < lo + n → T (t b)
across t lo zero h b p q = absurd (omega arith)
across t lo (suc n) h b p q =
    ⊎_elim (λ (e : lo ≡ b). subst (λ (k : ℕ). T (t k)) e (and_left (t lo) (all_from t (suc lo) n) h))
    (λ (l : lo < b). across t (suc lo) n (and_right (t lo) (all_from t (suc lo) n) h) b l (omega arith))
    (eq-or-lt_of_le p)
