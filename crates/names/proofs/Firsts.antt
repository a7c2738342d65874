-- The first keyword with a colour: which entry it is, and where there is none.
use Prim.Native.Nat.{ℕ, zero, suc, ◌≤◌, ◌<◌}
use mathlib.Core.Bool.{Bool, true, false, ◌&&◌}
use mathlib.Core.List.{List, [], ◌∷◌}
use mathlib.Core.Logic.{◌⊎◌, inl, inr, ⊎_elim}
use mathlib.Core.Path.{◌≡◌, refl, sym}
use native.Mathlib.Nat.{eq-or-lt_of_le}
use native.Mathlib.Omega.{arith}
use borrow.Author.Tests.{eq-eqb, eqb-true}
use lib.Dec.{T, eqb}
use lib.ListN.{length}
use Rattle.text_bytes.proofs.Ranges.{either}
use Rattle.std.specs.Prelude.{Option, Some, None}
use Rattle.names.specs.Back.{same_colour, first_named}
use Rattle.names.specs.Keywords.{Keyword, keywords}
use Rattle.names.specs.Look.{channels}
use Rattle.names.specs.Order.{before}
use Rattle.names.specs.Search.{nth}
use Rattle.names.specs.declared.Rgb.{Rgb}
use Rattle.names.proofs.Naming.{at}
use Rattle.names.proofs.Tables.{table_count, table_order}

three : (r g b x y z : ℕ) → T (eqb r x && (eqb g y && eqb b z)) → ◌≡◌ {A = Rgb} (record { red = r; green = g; blue = b }) (record { red = x; green = y; blue = z })
three r g b x y z h = go (eqb r x) (eqb g y) (eqb b z) (eqb-true r x) (eqb-true g y) (eqb-true b z) h
  where
    go : (t u v : Bool) → (t ≡ true → r ≡ x) → (u ≡ true → g ≡ y) → (v ≡ true → b ≡ z) → T (t && (u && v))
        → ◌≡◌ {A = Rgb} (record { red = r; green = g; blue = b }) (record { red = x; green = y; blue = z })
    go true true true p q s h = rw (p refl, q refl, s refl) refl
    go true true false p q s h = absurd h
    go true false v p q s h = absurd h
    go false u v p q s h = absurd h

module _ (a b : Rgb) where
  same_colour_is : same_colour a b ≡ true → a ≡ b
  unfolding same_colour
  same_colour_is e = three a.red a.green a.blue b.red b.green b.blue (rw e tt)

  colour_same : a ≡ b → same_colour a b ≡ true
  unfolding same_colour
  colour_same e = let r : a.red ≡ b.red = cc in let g : a.green ≡ b.green = cc in let u : a.blue ≡ b.blue = cc in simp (eq-eqb _ _ r, eq-eqb _ _ g, eq-eqb _ _ u)

-- w is the name of entry `which`, which has the colour, and no entry before it has
pub record First (es : List Keyword) (x : Rgb) (w : List ℕ) : Type 0 where
  pub which : ℕ
  pub inside : which < length es
  pub named : (at es which).name ≡ w
  pub coloured : channels (at es which) ≡ x
  pub least : (j : ℕ) → j < length es → channels (at es j) ≡ x → which ≤ j

first_of : (es : List Keyword) (x : Rgb) (w : List ℕ) → first_named es x ≡ Some w → First es x w
unfolding first_named
first_of [] x w e = let z : ◌≡◌ {A = ℕ} 0 1 = cc in absurd (omega arith)
first_of (y ∷ es) x w e =
    either (same_colour (channels y) x)
    (λ t. let n : ◌≡◌ {A = Option (List ℕ)} (Some y.name) (Some w) = simp t at e in
    record { which = 0; inside = omega arith; named = cc; coloured = same_colour_is (channels y) x t; least = λ j h q. omega arith })
    (λ f. later f (first_of es x w (simp f at e)))
  where
    later : same_colour (channels y) x ≡ false → First es x w → First (y ∷ es) x w
    later f v =
        record {
          which = suc v.which;
          inside = omega (arith, v.inside);
          named = v.named;
          coloured = v.coloured;
          least = ordered;
        }
      where
        ordered : (j : ℕ) → j < length (y ∷ es) → channels (at (y ∷ es) j) ≡ x → suc v.which ≤ j
        ordered zero h q = let z : true ≡ false = cc (colour_same (channels y) x q) in let o : ◌≡◌ {A = ℕ} 0 1 = cc in absurd (omega arith)
        ordered (suc j) h q = omega (arith, v.least j (omega arith) q)

first_nameless : (es : List Keyword) (x : Rgb) → ((j : ℕ) → j < length es → channels (at es j) ≡ x → ⊥) → first_named es x ≡ None
unfolding first_named
first_nameless [] x f = refl
first_nameless (y ∷ es) x f =
    either (same_colour (channels y) x) (λ t. absurd (f 0 (omega arith) (same_colour_is (channels y) x t)))
    (λ e. simp e (first_nameless es x (λ j h. f (suc j) (omega arith))))

nameless_first : (es : List Keyword) (x : Rgb) → first_named es x ≡ None → (j : ℕ) → j < length es → channels (at es j) ≡ x → ⊥
unfolding first_named
nameless_first [] x e j h q = omega arith
nameless_first (y ∷ es) x e zero h q = let n : ◌≡◌ {A = Option (List ℕ)} (Some y.name) None = simp (colour_same (channels y) x q) at e in let z : ◌≡◌ {A = ℕ} 0 1 = cc in omega arith
nameless_first (y ∷ es) x e (suc j) h q =
    either (same_colour (channels y) x)
    (λ t. let n : ◌≡◌ {A = Option (List ℕ)} (Some y.name) None = simp t at e in let z : ◌≡◌ {A = ℕ} 0 1 = cc in omega arith)
    (λ f. nameless_first es x (simp f at e) j (omega arith) q)

-- of the standard's table
module _ (x : Rgb) where
  pub first_entry : (w : List ℕ) → first_named keywords x ≡ Some w → First keywords x w
  first_entry w e = first_of keywords x w e

  -- the first is the first in the alphabet
  pub first_before : (w : List ℕ) → first_named keywords x ≡ Some w → (k : ℕ) → k < 147 → channels (nth k) ≡ x → (w ≡ (nth k).name) ⊎ T (before w (nth k).name)
  unfolding before
  first_before w e k h q =
      let v = first_entry w e in
      ⊎_elim
      (λ (p : v.which ≡ k). inl (rw p at (sym v.named)))
      (λ (p : v.which < k). inr (rw (← v.named, table_order v.which k p h) tt))
      (eq-or-lt_of_le (v.least k (omega (arith, table_count)) q))

  pub first_none : ((k : ℕ) → k < 147 → channels (nth k) ≡ x → ⊥) → first_named keywords x ≡ None
  first_none f = first_nameless keywords x (λ j h. f j (omega (arith, table_count)))

  pub none_first : first_named keywords x ≡ None → (k : ℕ) → k < 147 → channels (nth k) ≡ x → ⊥
  none_first e k h = nameless_first keywords x e k (omega (arith, table_count))
