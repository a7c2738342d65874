-- The two shapes of hex digits spell the strict trees of CSS Color 4.
use Prim.Native.Nat.{ℕ, ◌+◌, ◌-◌, ◌≤◌}
use mathlib.Core.Bool.{true, false}
use mathlib.Core.List.{List, [], ◌∷◌, ◌++◌}
use mathlib.Core.Path.{◌≡◌, refl, sym, ap}
use native.Mathlib.Omega.{arith}
use lib.Dec.{lit≤}
use Rattle.text_bytes.specs.Bytes.{within, is_hex_digit}
use Rattle.text_bytes.proofs.Ranges.{either, within_ge, within_le, within_yes, within_high}
use Rattle.std.specs.Prelude.{Ok}
use Rattle.shapes.specs.Walk.{act, ends, walk}
use Rattle.strict.specs.Shapes as S
use Rattle.shapes.specs.declared.Atom.TheVariants as A
use Rattle.shapes.specs.declared.Act.TheVariants as D
use Rattle.shapes.proofs.Fair.{never}
use Rattle.shapes.proofs.Parts.{Takes, stop, last, more, walk_parts, parts_walk}
use Rattle.strict.proofs.Shaped.{three_well, six_well}
use Rattle.standards.specs.CssValues3.{Blank, blanks}
use Rattle.standards.specs.CssColor3.{Spaced, spaced}
use Rattle.standards.specs.CssColor4.{Digit, numeral, small, capital, character, HexColor, three, six, hex_text, digits}
use Rattle.standards.specs.Colors.{hex, colour}
use Rattle.strict_trees.specs.StrictColors.{Opaque, Strict}
use Rattle.strict_trees.proofs.Spells.{Spells, atom, both, change, about, byte}

hex_is : (d : Digit) → is_hex_digit (character d) ≡ true
unfolding character
hex_is (numeral n h) = simp (← within_yes 48 57 (48 + n) (omega arith) (omega arith))
hex_is (small n h) = simp (← within_high 48 57 (97 + n) (omega arith), ← within_high 65 70 (97 + n) (omega arith), ← within_yes 97 102 (97 + n) (omega arith) (omega arith))
hex_is (capital n h) = simp (← within_high 48 57 (65 + n) (omega arith), ← within_yes 65 70 (65 + n) (omega arith) (omega arith))

is_hex : (b : ℕ) → is_hex_digit b ≡ true → (d : Digit) × (b ≡ character d)
unfolding character
is_hex b e =
    either (within 48 57 b) (λ p. let l : 48 ≤ b = within_ge 48 57 b (sym p) in let h : b ≤ 57 = within_le 48 57 b (sym p) in (numeral (b - 48) (omega arith), omega arith))
    (λ p. either (within 65 70 b) (λ q. let l : 65 ≤ b = within_ge 65 70 b (sym q) in let h : b ≤ 70 = within_le 65 70 b (sym q) in (capital (b - 65) (omega arith), omega arith))
    (λ q. either (within 97 102 b) (λ r. let l : 97 ≤ b = within_ge 97 102 b (sym r) in let h : b ≤ 102 = within_le 97 102 b (sym r) in (small (b - 97) (omega arith), omega arith))
    (λ r. never (simp (p, q, r) at e))))

hex_takes : (d : Digit) → Takes A.Hex (character d ∷ [])
unfolding act
hex_takes d = let f : act A.Hex (character d) ≡ D.Next = simp (hex_is d) in last f

taken_hex : (l : List ℕ) → Takes A.Hex l → (d : Digit) × (l ≡ character d ∷ [])
unfolding act ends
taken_hex [] (stop e) = never e
taken_hex (b ∷ l) (last e) =
    either (is_hex_digit b) (λ f. let d : (d : Digit) × (b ≡ character d) = is_hex b f in (d.0, ap (λ (x : ℕ). x ∷ []) d.1))
    (λ f. never (let q : D.Lost ≡ D.Next = rw f at e in let z : false ≡ true = cc in z))
taken_hex (b ∷ l) (more {x} e t) =
    either (is_hex_digit b) (λ f. never (let q : D.Next ≡ D.Stay x = rw f at e in let z : false ≡ true = cc in z))
    (λ f. never (let q : D.Lost ≡ D.Stay x = rw f at e in let z : false ≡ true = cc in z))

one : Spells (A.Hex ∷ []) Digit (λ d. character d ∷ [])
one = atom A.Hex (λ (d : Digit). character d ∷ []) hex_takes taken_hex

abbrev Triple : Type 0
Triple = Digit × (Digit × Digit)

triple : Spells (A.Hex ∷ A.Hex ∷ A.Hex ∷ []) Triple (λ p. character p.0 ∷ character p.1.0 ∷ character p.1.1 ∷ [])
triple = both one (both one one)

pub three_spells : Spells S.hex_three (Spaced Triple) (spaced (λ p. hex_text (three p.0 p.1.0 p.1.1)))
unfolding digits
three_spells =
    about (λ (p : Triple). hex_text (three p.0 p.1.0 p.1.1))
    (change (λ (p : Triple). hex_text (three p.0 p.1.0 p.1.1)) (both (byte 35 (lit≤ tt)) triple) (λ p. (tt, p)) (λ p. refl) (λ p. p.1) (λ p. refl))

abbrev six_of : Triple × Triple → HexColor
six_of p = six p.0.0 p.0.1.0 p.0.1.1 p.1.0 p.1.1.0 p.1.1.1

pub six_spells : Spells S.hex_six (Spaced (Triple × Triple)) (spaced (λ p. hex_text (six_of p)))
unfolding digits
six_spells =
    about (λ (p : Triple × Triple). hex_text (six_of p))
    (change (λ (p : Triple × Triple). hex_text (six_of p)) (both (byte 35 (lit≤ tt)) (both triple triple)) (λ p. (tt, p)) (λ p. refl) (λ p. p.1) (λ p. refl))

-- THEOREM. The texts of three and of six digits, in white space, are walked to their ends.
module _ (before after : List Blank) where
  pub three_walks : (r g b : Digit) → walk 0 S.hex_three (blanks before ++ (hex_text (three r g b) ++ blanks after)) ≡ Ok tt
  unfolding spaced
  three_walks r g b = parts_walk S.hex_three three_well _ (three_spells.to (record { before = before; value = (r, (g, b)); after = after })) 0

  pub six_walks : (r r' g g' b b' : Digit) → walk 0 S.hex_six (blanks before ++ (hex_text (six r r' g g' b b') ++ blanks after)) ≡ Ok tt
  unfolding spaced
  six_walks r r' g g' b b' = parts_walk S.hex_six six_well _ (six_spells.to (record { before = before; value = ((r, (r', g)), (g', (b, b'))); after = after })) 0

-- THEOREM. And what they walk to the end is such a text.
hex_strict : {X : Type 0} (s : List ℕ) (tree : X → HexColor) → ((x : X) → Opaque (tree x)) → ((v : Spaced X) × (s ≡ spaced (λ x. hex_text (tree x)) v)) → Strict s
unfolding spaced colour
hex_strict s tree p r = record { before = r.0.before; tree = hex (tree r.0.value); after = r.0.after; house = p r.0.value; is = r.1 }

module _ (s : List ℕ) where
  pub three_tree : walk 0 S.hex_three s ≡ Ok tt → Strict s
  three_tree e = hex_strict s (λ p. three p.0 p.1.0 p.1.1) (λ p. tt) (three_spells.from s (walk_parts s 0 S.hex_three e))

  pub six_tree : walk 0 S.hex_six s ≡ Ok tt → Strict s
  six_tree e = hex_strict s six_of (λ p. tt) (six_spells.from s (walk_parts s 0 S.hex_six e))
