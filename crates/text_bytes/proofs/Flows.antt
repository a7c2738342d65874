-- The rules by which a return that follows tests is the branch that a definition picks: `search (flow, needs) depth 20` under `unfolding` of the definition.
use Prim.Native.Nat.{ℕ, ◌≤◌, ◌<◌}
use mathlib.Core.Bool.{Bool, true, false, cond, not}
use mathlib.Core.Path.{◌≡◌, refl, ap}
use mathlib.Core.List.{List}
use native.Mathlib.Nat.{lt_irrefl}
use lib.ListN.{length, get_or, get_or-eq_default}
use borrow.Author.Tests.{lt-ltb, le-ltb, le-leb, lt-leb, eq-eqb, ne_eqb}
use lib.Dec.{T, ltb, leb, eqb, ltb→lt}
use Rattle.text_bytes.specs.Flow.{bind}

module _ {A : Type 0} (x a b : A) where
  -- a flag that is the test itself
  pub pick_true : (t : Bool) → t ≡ true → x ≡ a → x ≡ cond t a b
  pick_true t e h = rw e h

  pub pick_false : (t : Bool) → t ≡ false → x ≡ b → x ≡ cond t a b
  pick_false t e h = rw e h

  -- a flag that a call answered
  pub pick_yes : (t r : Bool) → r ≡ t → r ≡ true → x ≡ a → x ≡ cond t a b
  pick_yes t r q e h = rw (← q, e) h

  pub pick_no : (t r : Bool) → r ≡ t → r ≡ false → x ≡ b → x ≡ cond t a b
  pick_no t r q e h = rw (← q, e) h

  -- tests of numbers
  pub pick_lt : (m n : ℕ) → m < n → x ≡ a → x ≡ cond (ltb m n) a b
  pick_lt m n p h = rw (lt-ltb m n p) h

  pub pick_ge : (m n : ℕ) → n ≤ m → x ≡ b → x ≡ cond (ltb m n) a b
  pick_ge m n p h = rw (le-ltb m n p) h

  pub pick_le : (m n : ℕ) → m ≤ n → x ≡ a → x ≡ cond (leb m n) a b
  pick_le m n p h = rw (le-leb m n p) h

  pub pick_gt : (m n : ℕ) → n < m → x ≡ b → x ≡ cond (leb m n) a b
  pick_gt m n p h = rw (lt-leb m n p) h

  pub pick_eq : (m n : ℕ) → m ≡ n → x ≡ a → x ≡ cond (eqb m n) a b
  pick_eq m n p h = rw (eq-eqb m n p) h

  pub pick_ne : (m n : ℕ) → (m ≡ n → ⊥) → x ≡ b → x ≡ cond (eqb m n) a b
  pick_ne m n p h = rw (ne_eqb m n p) h

  -- an arm of a `match` on single numbers knows its own number alone
  pub pick_key : (m n k : ℕ) → m ≡ k → T (not (eqb k n)) → x ≡ b → x ≡ cond (eqb m n) a b
  pick_key m n k p t h = rw (p, not-true (eqb k n) t) h
    where
      not-true : (u : Bool) → T (not u) → u ≡ false
      not-true true t = absurd t
      not-true false t = refl

  -- a byte past the end is none that is looked for
  pub pick_past : (s : List ℕ) (i n : ℕ) → length s ≤ i → T (ltb 0 n) → x ≡ b → x ≡ cond (eqb (get_or s i 0) n) a b
  pick_past s i n l t h = pick_ne (get_or s i 0) n (λ e. lt_irrefl 0 (rw (← get_or-eq_default s 0 l, e) (ltb→lt 0 n t))) h

pub ruleset picks = (pick_past, pick_true, pick_false, pick_yes, pick_no, pick_lt, pick_ge, pick_le, pick_gt, pick_eq, pick_key, pick_ne)

-- `bind` is shut, so that `search` sees it: the rule puts the code's own answer r for the name, and the tests that follow speak of r, as the code's do
pub bind_is : {A B : Type 0} (x : B) (a r : A) (k : A → B) → r ≡ a → x ≡ k r → x ≡ bind a k
unfolding bind
bind_is x a r k q h = rw (← q) h

pub ruleset flow = (bind_is, picks)

-- an answer, and what is made of it, such as its record
pub also : {A B : Type 0} (f : A → B) {r a : A} → r ≡ a → (r ≡ a) × (f r ≡ f a)
also f h = (h, ap f h)
