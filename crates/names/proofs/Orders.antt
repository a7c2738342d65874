-- The laws of the order of words, and of the loop that compares.
use Rattle.std.proofs.Common.{ℕ, zero, suc, ◌≡◌, ◌<◌, ◌≤◌, true, false, List, [], ◌∷◌, length, get_or, drop, min, refl, sym, ap, ◌∙◌, arith}
use Rattle.std.specs.Ordering.{nat_cmp, is_eq, is_ne, ordering_index, ordering_then}
use Rattle.std.specs.declared.cmp.Ordering.{Ordering}
use Rattle.std.specs.declared.cmp.Ordering.TheVariants.{Less, Equal, Greater}
use Rattle.std.specs.Cmp.Lexicographic.{texts_ties, same_text}
use Rattle.std.proofs.lemmas.Cmp.{nat_list_cmp_total, tied_itself, alike_right}
use Rattle.std.proofs.lemmas.Bool.Decides.{nat_tests}
use Rattle.text_bytes.specs.Words.{lower_of, lowered}
use Rattle.names.specs.Order.{order}

pub order_trans : (a b c : List ℕ) → order a b ≡ Less → order b c ≡ Less → order a c ≡ Less
order_trans a b c p q = nat_list_cmp_total.trans a b c p q

pub order_same : (a b : List ℕ) → order a b ≡ Equal → a ≡ b
order_same a b e = same_text a b (sym (texts_ties a b ∙ ap is_eq e))

-- two orders that are told apart
apart : {o p : Ordering} → ordering_index o < ordering_index p → o ≡ p → ⊥
apart h e = let z = ap ordering_index e in omega (arith, z)

-- of two words in order, the first is not the second
pub before_other : (a b : List ℕ) → order a b ≡ Less → a ≡ b → ⊥
before_other a b p e = apart (omega arith) (sym p ∙ (ap (order a) (sym e) ∙ tied_itself nat_list_cmp_total a))

pub after_other : (a b : List ℕ) → order a b ≡ Greater → a ≡ b → ⊥
after_other a b p e = apart (omega arith) (sym (tied_itself nat_list_cmp_total a) ∙ (ap (order a) e ∙ p))

-- how two words in order stand to a third
pub order_rises : (a b w : List ℕ) → order a b ≡ Less → ordering_index (order a w) ≤ ordering_index (order b w)
order_rises a b w h = go (order a w) (order b w) refl refl
  where
    go : (o p : Ordering) → order a w ≡ o → order b w ≡ p → ordering_index o ≤ ordering_index p
    go Less p q r = omega arith
    go o Greater q r = upto o
      where
        upto : (o : Ordering) → ordering_index o ≤ 2
        upto Less = omega arith
        upto Equal = omega arith
        upto Greater = omega arith
    go Equal Equal q r = omega arith
    go Equal Less q r = absurd (apart (omega arith) (sym (order_trans a b w h r) ∙ q))
    go Greater Less q r = absurd (apart (omega arith) (sym (order_trans a b w h r) ∙ q))
    go Greater Equal q r = absurd (apart (omega arith) (sym h ∙ (alike_right nat_list_cmp_total b w a r ∙ q)))

-- the loop's turn k: its two bytes, and the rest
turn : (k : ℕ) (a b : List ℕ) → k < length a → k < length b
    → order (drop k a) (drop k (lowered b)) ≡ ordering_then (nat_cmp (get_or a k 0) (lower_of (get_or b k 0))) (order (drop (suc k) a) (drop (suc k) (lowered b)))
turn zero (x ∷ a) (y ∷ b) h g = refl
turn (suc k) (x ∷ a) (y ∷ b) h g = turn k a b (omega arith) (omega arith)
turn k [] b h g = absurd (omega arith)
turn k (x ∷ a) [] h g = absurd (omega arith)

then_told : (o p : Ordering) → is_ne o ≡ true → ordering_then o p ≡ o
then_told Less p e = refl
then_told Equal p e = absurd (let z : ◌≡◌ {A = ℕ} 0 1 = cc in omega arith)
then_told Greater p e = refl

then_on : (o p : Ordering) → is_ne o ≡ false → ordering_then o p ≡ p
then_on Less p e = absurd (let z : ◌≡◌ {A = ℕ} 0 1 = cc in omega arith)
then_on Equal p e = refl
then_on Greater p e = absurd (let z : ◌≡◌ {A = ℕ} 0 1 = cc in omega arith)

-- o is how the two bytes stand
module _ (k : ℕ) (a b : List ℕ) (h : k < length a) (g : k < length b) (o : Ordering) (e : o ≡ nat_cmp (get_or a k 0) (lower_of (get_or b k 0)))
    (v : order (drop k a) (drop k (lowered b)) ≡ order a (lowered b)) where
  turned : ordering_then o (order (drop (suc k) a) (drop (suc k) (lowered b))) ≡ order a (lowered b)
  turned = rw e (sym (turn k a b h g) ∙ v)

  pub turn_told : is_ne o ≡ true → o ≡ order a (lowered b)
  turn_told t = sym (then_told o (order (drop (suc k) a) (drop (suc k) (lowered b))) t) ∙ turned

  pub turn_on : is_ne o ≡ false → order (drop (suc k) a) (drop (suc k) (lowered b)) ≡ order a (lowered b)
  turn_on t = sym (then_on o (order (drop (suc k) a) (drop (suc k) (lowered b))) t) ∙ turned

-- one of the two is at its end: the lengths tell
pub lengths_tell : (k : ℕ) (a b : List ℕ) → k ≡ min (length a) (length b) → order (drop k a) (drop k (lowered b)) ≡ nat_cmp (length a) (length b)
lengths_tell zero [] [] e = refl
lengths_tell zero [] (y ∷ b) e = grind (arith, nat_tests)
lengths_tell zero (x ∷ a) [] e = grind (arith, nat_tests)
lengths_tell zero (x ∷ a) (y ∷ b) e = absurd (omega (arith, e))
lengths_tell (suc k) [] b e = absurd (omega (arith, e))
lengths_tell (suc k) (x ∷ a) [] e = absurd (omega (arith, e))
lengths_tell (suc k) (x ∷ a) (y ∷ b) e = lengths_tell k a b (omega (arith, e)) ∙ grind (arith, nat_tests)
