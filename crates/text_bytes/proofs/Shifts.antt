-- shift: reading at `length a + i` of `a ++ b` is reading at i of b, with every place moved by `length a`.
use Prim.Native.Nat.{ℕ, ◌+◌, ◌-◌}
use mathlib.Core.Bool.{Bool, true, false, cond}
use mathlib.Core.List.{List, ◌++◌}
use mathlib.Core.Path.{◌≡◌, refl}
use native.Mathlib.Nat.{add_assoc}
use native.Mathlib.Omega.{arith}
use borrow.Author.Tests.{ltb-true, ltb-false, lt-ltb, le-ltb, leb-true, leb-false, le-leb, lt-leb, eqb-true, eqb-false, eq-eqb, ne_eqb}
use lib.Dec.{ltb, leb, eqb}
use lib.ListN.{length, length-append}
use lib.Seq.{get_or-append-add, drop-append-add}
use Rattle.text_bytes.specs.Words.{is_curr_byte_eq, part}
use Rattle.text_bytes.proofs.Scans.{scan_shift}

-- a function goes into the arms of a choice
pub cond_push : {A B : Type 0} (f : A → B) (t : Bool) (x y : A) → f (cond t x y) ≡ cond t (f x) (f y)
cond_push f true x y = refl
cond_push f false x y = refl

pub ltb_shift : (k a b : ℕ) → ltb (k + a) (k + b) ≡ ltb a b
ltb_shift k a b = go (ltb a b) refl
  where
    go : (t : Bool) → ltb a b ≡ t → ltb (k + a) (k + b) ≡ t
    go true e = lt-ltb (k + a) (k + b) (omega (arith, ltb-true a b e))
    go false e = le-ltb (k + a) (k + b) (omega (arith, ltb-false a b e))

pub leb_shift : (k a b : ℕ) → leb (k + a) (k + b) ≡ leb a b
leb_shift k a b = go (leb a b) refl
  where
    go : (t : Bool) → leb a b ≡ t → leb (k + a) (k + b) ≡ t
    go true e = le-leb (k + a) (k + b) (omega (arith, leb-true a b e))
    go false e = lt-leb (k + a) (k + b) (omega (arith, leb-false a b e))

pub eqb_shift : (k a b : ℕ) → eqb (k + a) (k + b) ≡ eqb a b
eqb_shift k a b = go (eqb a b) refl
  where
    go : (t : Bool) → eqb a b ≡ t → eqb (k + a) (k + b) ≡ t
    go true e = eq-eqb (k + a) (k + b) (omega (arith, eqb-true a b e))
    go false e = ne_eqb (k + a) (k + b) (λ f. eqb-false a b e (omega arith))

pub sub_shift : (k a b : ℕ) → k + a - (k + b) ≡ a - b
sub_shift k a b = omega arith

-- two tests with one answer, where the first arm is the same
pub same_else : {A : Type 0} (t : Bool) (x y z : A) → y ≡ z → cond t x y ≡ cond t x z
same_else t x y z e = rw e refl

pub ruleset shifts = (get_or-append-add, add_assoc, scan_shift, drop-append-add, length-append, ltb_shift, leb_shift, sub_shift)

module _ (a b : List ℕ) where
  pub curr_shift : (i c : ℕ) → is_curr_byte_eq (a ++ b) (length a + i) c ≡ is_curr_byte_eq b i c
  unfolding is_curr_byte_eq
  curr_shift i c = simp shifts

  pub part_shift : (i j : ℕ) → part (a ++ b) (length a + i) (length a + j) ≡ part b i j
  unfolding part
  part_shift i j = simp shifts
