-- What a word names: the laws of the definition.
use Prim.Native.Nat.{ℕ, zero, suc, ◌<◌}
use mathlib.Core.Bool.{false}
use mathlib.Core.List.{List, [], ◌∷◌}
use mathlib.Core.Path.{◌≡◌, refl, sym, ap, ◌∙◌}
use native.Mathlib.Omega.{arith}
use lib.ListN.{length, get_or}
use Rattle.text_bytes.specs.Words.{ascii, same, lower_of, lowered}
use Rattle.text_bytes.proofs.Wording.{same_refl, same_eq}
use Rattle.text_bytes.specs.Bytes.{within}
use Rattle.text_bytes.proofs.Ranges.{either, within_ge}
use Rattle.std.specs.Prelude.{Some, None}
use Rattle.names.specs.Keywords.{Keyword, entry, keywords}
use Rattle.names.specs.Look.{channels, look_up, named_of}
use Rattle.names.specs.Search.{nth}
use Rattle.names.specs.declared.Named.TheVariants as N
use Rattle.names.proofs.Orders.{before_other}
use Rattle.names.proofs.Tables.{table_count, table_order, table_letter}

same_not : (a b : List ℕ) → (b ≡ a → ⊥) → same a b ≡ false
same_not a b f = either (same a b) (λ e. absurd (f (sym (same_eq a b e)))) (λ e. e)

-- the laws of going through any table
abbrev pub at : List Keyword → ℕ → Keyword
at es k = get_or es k (entry "" 0 0 0)

module _ (w : List ℕ) where
  look_at : (es : List Keyword) (m : ℕ) → m < length es → (at es m).name ≡ w → ((j : ℕ) → j < m → (at es j).name ≡ w → ⊥)
      → look_up es w ≡ Some (N.Keyword (channels (at es m)))
  unfolding look_up
  look_at [] m h e f = absurd (omega arith)
  look_at (x ∷ xs) zero h e f = simp (e, same_refl w)
  look_at (x ∷ xs) (suc m) h e f =
      simp (same_not w x.name (f 0 (omega arith))) (look_at xs m (omega arith) e (λ j l. f (suc j) (omega arith)))

  look_none : (es : List Keyword) → ((j : ℕ) → j < length es → (at es j).name ≡ w → ⊥) → look_up es w ≡ look_up [] w
  unfolding look_up
  look_none [] f = refl
  look_none (x ∷ xs) f = simp (same_not w x.name (f 0 (omega arith))) (look_none xs (λ j l. f (suc j) (omega arith)))

module _ (w : List ℕ) where
  -- an entry's name, in letters of either case, is its colour
  pub named_keyword : (k : ℕ) → k < 147 → (nth k).name ≡ lowered w → named_of w ≡ Some (N.Keyword (channels (nth k)))
  unfolding named_of
  named_keyword k h e =
      look_at (lowered w) keywords k (omega (arith, table_count)) e
      (λ j l f. before_other (nth j).name (nth k).name (table_order j k l h) (f ∙ sym e))

  -- no entry's name: what is left is `transparent`
  pub named_unlisted : ((k : ℕ) → k < 147 → (nth k).name ≡ lowered w → ⊥) → named_of w ≡ look_up [] (lowered w)
  unfolding named_of
  named_unlisted f = look_none (lowered w) keywords (λ j l. f j (omega (arith, table_count)))

  -- no entry's name, and not `transparent`: no colour
  pub named_unknown : ((k : ℕ) → k < 147 → (nth k).name ≡ lowered w → ⊥) → (ascii "transparent" ≡ lowered w → ⊥) → named_of w ≡ None
  unfolding look_up
  named_unknown f g = named_unlisted f ∙ simp (same_not (lowered w) (ascii "transparent") g)

  pub named_transparent : lowered w ≡ ascii "transparent" → named_of w ≡ Some N.Transparent
  unfolding named_of look_up keywords same
  named_transparent e = rw e refl

-- letter case is ignored
pub named_case : (v w : List ℕ) → lowered v ≡ lowered w → named_of v ≡ named_of w
unfolding named_of
named_case v w e = ap (look_up keywords) e

head_lowered : (w : List ℕ) → get_or (lowered w) 0 0 ≡ lower_of (get_or w 0 0)
unfolding lower_of within
head_lowered [] = refl
head_lowered (x ∷ xs) = refl

-- c is the first byte of a word, in lower case: so it is that of any name that the word is
pub first_letter : (w : List ℕ) {b c : ℕ} → b ≡ get_or w 0 0 → c ≡ lower_of b → (a : List ℕ) → a ≡ lowered w → get_or a 0 0 ≡ c
first_letter w p q a e = ap (λ l. get_or l 0 0) e ∙ (head_lowered w ∙ (ap lower_of (sym p) ∙ sym q))

-- a word that begins below the letters names no colour
module _ (w : List ℕ) {b c : ℕ} (p : b ≡ get_or w 0 0) (q : c ≡ lower_of b) where
  pub named_low : c < 97 → None ≡ named_of w
  named_low h =
      sym (named_unknown w
      (λ k l e. let f : get_or (nth k).name 0 0 ≡ c = first_letter w p q (nth k).name e in omega (arith, within_ge 97 122 _ (table_letter k l)))
      (λ e. let f : 116 ≡ c = first_letter w p q (ascii "transparent") e in omega arith))
