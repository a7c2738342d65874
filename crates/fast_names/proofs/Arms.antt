-- The arms of a `match` on the letters of a word: each is what the table has at its number, and the last what it has at none.
use Prim.Native.Nat.{ℕ}
use mathlib.Core.Bool.{Bool, true, false, ◌&&◌, ◌||◌, not, cond}
use mathlib.Core.List.{List, [], ◌∷◌}
use mathlib.Core.Path.{◌≡◌, refl, sym, ◌∙◌}
use native.Mathlib.Omega.{arith}
use borrow.Author.Tests.{eqb-true, ne_eqb}
use lib.Dec.{T, eqb}
use lib.ListN.{length}
use Rattle.text_bytes.specs.Words.{ascii}
use Rattle.text_bytes.proofs.Ranges.{and_first, and_second, either}
use Rattle.names.specs.Keywords.{Keyword, keywords}
use Rattle.fast_names.specs.Named.{named_number}
use Rattle.std.specs.Prelude.{Option, None}
use Rattle.fast_names.specs.Letters.{three, short, head, tail, found, of_length, of_three, of_short, of_long}
use Rattle.names.proofs.Tables.{holds_true}

-- an arm's number k is the constant m
module _ {k m : ℕ} {r : Option ℕ} (e : k ≡ m) where
  pub three_at : r ≡ of_three m → r ≡ of_three k
  three_at h = rw e h

  pub short_at : (n : ℕ) → r ≡ of_short n m → r ≡ of_short n k
  short_at n h = rw e h

  pub long_at : (n l : ℕ) → r ≡ of_long n m l → r ≡ of_long n k l
  long_at n l h = rw e h

  -- an arm of the `match` on the other number
  pub long_both : (n : ℕ) {l j : ℕ} → l ≡ j → r ≡ of_long n m j → r ≡ of_long n k l
  long_both n i h = rw (e, i) h

-- k is none of some numbers, the last told first: what the last arm knows
abbrev pub NoneOf : ℕ → List ℕ → Type 0
NoneOf k [] = Unit
NoneOf k (m ∷ ms) = NoneOf k ms × (k ≡ m → ⊥)

abbrev pub is_one_of : List ℕ → ℕ → Bool
is_one_of [] x = false
is_one_of (m ∷ ms) x = eqb x m || is_one_of ms x

pub none_of : {k : ℕ} (ms : List ℕ) → NoneOf k ms → (x : ℕ) → is_one_of ms x ≡ true → k ≡ x → ⊥
none_of [] u x h e = let z : ◌≡◌ {A = ℕ} 0 1 = cc in omega arith
none_of (m ∷ ms) u x h e = either (eqb x m) (λ q. u.1 (e ∙ eqb-true x m q)) (λ q. none_of ms u.0 x (simp q at h) e)

module _ (f : List ℕ → ℕ) (n : ℕ) where
  -- the numbers of the names of n letters, the last first; one that comes again is not told again
  abbrev told : List ℕ → List ℕ → List ℕ
  told ms a = cond (eqb (length a) n && not (is_one_of ms (f a))) (f a ∷ ms) ms

  abbrev numbers_from : List ℕ → List Keyword → List ℕ
  numbers_from ms [] = told ms (ascii "transparent")
  numbers_from ms (e ∷ es) = numbers_from (told ms e.name) es

  abbrev pub numbers : List ℕ
  numbers = numbers_from [] keywords

  abbrev is_told : List ℕ → List ℕ → Bool
  is_told ms a = not (eqb (length a) n) || is_one_of ms (f a)

  abbrev pub all_told : List ℕ → List Keyword → Bool
  all_told ms [] = is_told ms (ascii "transparent")
  all_told ms (e ∷ es) = is_told ms e.name && all_told ms es

  -- a test that fails at each of the numbers that are told
  module _ {k : ℕ} (t : List ℕ → Bool) (g : (a : List ℕ) → (k ≡ f a → ⊥) → t a ≡ false) (ms : List ℕ) (u : NoneOf k ms) where
    fails : (a : List ℕ) → is_told ms a ≡ true → (eqb (length a) n && t a) ≡ false
    fails a h =
        either (eqb (length a) n) (λ e. rw (e, g a (none_of ms u (f a) (simp e at h))) refl) (λ e. simp e)

    found_none : (es : List Keyword) → all_told ms es ≡ true → found (λ a. eqb (length a) n && t a) es ≡ None
    unfolding found named_number
    found_none [] h = simp (fails (ascii "transparent") h)
    found_none (e ∷ es) h =
        simp (fails e.name (and_first (is_told ms e.name) (all_told ms es) h)) (found_none es (and_second (is_told ms e.name) (all_told ms es) h))

pub three_none : (k : ℕ) → NoneOf k (numbers three 3) → T (all_told three 3 (numbers three 3) keywords) → None ≡ of_three k
unfolding of_three of_length
three_none k u h = sym (found_none three 3 (λ a. eqb k (three a)) (λ a z. ne_eqb _ _ z) (numbers three 3) u keywords (sym (holds_true _ h)))

pub short_none : (n k : ℕ) → NoneOf k (numbers short n) → T (all_told short n (numbers short n) keywords) → None ≡ of_short n k
unfolding of_short of_length
short_none n k u h = sym (found_none short n (λ a. eqb k (short a)) (λ a z. ne_eqb _ _ z) (numbers short n) u keywords (sym (holds_true _ h)))

pub long_none : (n k l : ℕ) → NoneOf k (numbers head n) → T (all_told head n (numbers head n) keywords) → None ≡ of_long n k l
unfolding of_long of_length
long_none n k l u h =
    sym (found_none head n (λ a. eqb k (head a) && eqb l (tail a)) (λ a z. rw (ne_eqb _ _ z)) (numbers head n) u keywords (sym (holds_true _ h)))

-- what each arm of a `match` on letters goes by
pub ruleset arms = (three_at, short_at, long_at, long_both)
