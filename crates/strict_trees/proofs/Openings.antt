-- A text that begins as a shape does: that shape goes past the beginning, and so does every text that agrees with it as far as the shapes go.
use Prim.Native.Nat.{ℕ, zero, suc, ◌+◌, ◌≤◌}
use mathlib.Core.Bool.{true, false, ◌&&◌}
use mathlib.Core.List.{List, [], ◌∷◌, ◌++◌, append_assoc}
use mathlib.Core.Path.{◌≡◌, refl, sym, ap, ◌∙◌}
use native.Mathlib.Omega.{arith}
use lib.Dec.{eqb}
use lib.ListN.{length, get_or, take, length-map, length-append}
use Rattle.text_bytes.specs.Bytes.{within, is_space}
use Rattle.std.specs.Prelude.{Result, Err, Option, Some, None}
use Rattle.text_bytes.specs.Moves.{place}
use Rattle.text_bytes.specs.declared.Place.{Place}
use Rattle.text_bytes.specs.Words.{lower_of}
use Rattle.text_bytes.proofs.Ranges.{and_first, and_second}
use Rattle.text_bytes.proofs.Ranges.{either, and_false}
use Rattle.shapes.specs.Walk.{act, ends, step, all_end, walk}
use Rattle.strict.specs.Shapes as S
use Rattle.strict.specs.Answer.{furthest, shapes, marked, marked_at, is_shaped}
use Rattle.shapes.specs.declared.Atom.{Atom}
use Rattle.shapes.specs.declared.Atom.TheVariants as A
use Rattle.shapes.specs.declared.Act.TheVariants as D
use Rattle.shapes.proofs.Fair.{never, never_ok}
use Rattle.shapes.proofs.Walks.{turn_pass, turn_stay, turn_next, turn_end}
use Rattle.strict.proofs.Furthest.{All, Short, all_short}
use Rattle.standards.specs.CssValues3.{Blank, blank, blanks}
use Rattle.standards.proofs.Runs.{blank_is}
use Rattle.strict_trees.proofs.Takings.{space_blank}
use Rattle.strict_trees.proofs.Words.{shaped_after}

lost_at : {i : ℕ} {p : Place} → ◌≡◌ {A = Result (Unit {0}) Place} (Err (place i)) (Err p) → i ≤ p.0
lost_at {i} {p} e = let q : place i ≡ p = cc in rw (← q) (omega arith)

far_least : (s : List ℕ) (i : ℕ) (xs : List Atom) (p : Place) → walk i xs s ≡ Err p → i ≤ p.0
unfolding walk
far_least [] i xs p e = either (all_end xs) (λ f. never_ok (sym (rw f at e))) (λ f. lost_at (rw f at e))
far_least (b ∷ bs) i xs p e = go (λ ys f. far_least bs (i + 1) ys p f) (step xs b) refl
  where
    go : ((ys : List Atom) → walk (i + 1) ys bs ≡ Err p → i + 1 ≤ p.0) → (r : Option (List Atom)) → step xs b ≡ r → i ≤ p.0
    go h None q = lost_at (rw q at e)
    go h (Some ys) q = omega (arith, h ys (rw q at e))

blanks_walk : (l : List Blank) (xs : List Atom) (r : List ℕ) → is_space (get_or r 0 0) ≡ false → (i j : ℕ) → j ≡ i + length l → walk i (A.Spaces ∷ xs) (blanks l ++ r) ≡ walk j xs r
unfolding act ends
blanks_walk [] xs [] e i j q = let f : j ≡ i = omega arith in rw f (turn_end i A.Spaces xs refl)
blanks_walk [] xs (b ∷ r) e i j q = let f : j ≡ i = omega arith in rw f (turn_pass i A.Spaces xs b r (simp e))
blanks_walk (b ∷ l) xs r e i j q = turn_stay i A.Spaces xs (blank b) (blanks l ++ r) A.Spaces (simp (blank_is b)) ∙ blanks_walk l xs r e (i + 1) j (omega arith)

byte_next : (a c : ℕ) → eqb (lower_of a) c ≡ true → act (A.Byte c) a ≡ D.Next
unfolding act
byte_next a c e = simp e

-- white space, and the rest
pub split_blanks : (s : List ℕ) → (l : List Blank) × (r : List ℕ) × (s ≡ blanks l ++ r) × (is_space (get_or r 0 0) ≡ false)
split_blanks [] = ([], [], refl, refl)
split_blanks (b ∷ bs) =
    either (is_space b)
    (λ e. let x : (y : Blank) × (b ≡ blank y) = space_blank b e in
    let r : (l : List Blank) × (r : List ℕ) × (bs ≡ blanks l ++ r) × (is_space (get_or r 0 0) ≡ false) = split_blanks bs in
    (x.0 ∷ r.0, r.1, cc (x.1, r.2), r.3))
    (λ e. ([], b ∷ bs, refl, e))

take_past : (p r : List ℕ) (n : ℕ) → length p ≤ n → (k : ℕ) × (take n (p ++ r) ≡ p ++ take k r)
take_past [] r n h = (n, refl)
take_past (x ∷ p) r zero h = absurd (omega arith)
take_past (x ∷ p) r (suc n) h = let e : (k : ℕ) × (take n (p ++ r) ≡ p ++ take k r) = take_past p r n (omega arith) in (e.0, ap (λ (l : List ℕ). x ∷ l) e.1)

-- the bytes that mark a text, and how far the shapes go with them
record Opening (l : List Blank) (r : List ℕ) : Type 0 where
  these : List ℕ
  rest : List ℕ
  is : r ≡ these ++ rest
  marks : (y : List ℕ) → marked_at (these ++ y) 0 ≡ true
  first : (y : List ℕ) → is_space (get_or (these ++ y) 0 0) ≡ false
  far : (p : Place) → furthest shapes (blanks l ++ r) 0 ≡ Err p → length l + length these ≤ p.0

module _ (l : List Blank) (a : ℕ) (r : List ℕ) (f : is_space a ≡ false) where
  hash : eqb (lower_of a) 35 ≡ true → Opening l (a ∷ r)
  unfolding marked_at marked
  hash e = record { these = a ∷ []; rest = r; is = refl; marks = λ y. simp e; first = λ y. f; far = far }
    where
      s : List ℕ
      s = blanks l ++ (a ∷ r)

      on : walk 0 S.hex_three s ≡ walk (length l + 1) (A.Hex ∷ A.Hex ∷ A.Hex ∷ A.Spaces ∷ []) r
      on = blanks_walk l _ (a ∷ r) f 0 (length l) (omega arith) ∙ turn_next (length l) (A.Byte 35) _ a r (byte_next a 35 e)

      far : (p : Place) → furthest shapes s 0 ≡ Err p → length l + 1 ≤ p.0
      far p q =
          let v : Short s p S.hex_three = (all_short s shapes 0 p q).0 in
          omega (arith, far_least r (length l + 1) (A.Hex ∷ A.Hex ∷ A.Hex ∷ A.Spaces ∷ []) v.0 (sym on ∙ v.1.0), v.1.1)

  module _ (b c : ℕ) (t : List ℕ) where
    abbrev text : List ℕ
    text = blanks l ++ (a ∷ b ∷ c ∷ t)

    three_on : (p : Place) (x y z : ℕ) (zs : List Atom) → eqb (lower_of a) x ≡ true → eqb (lower_of b) y ≡ true → eqb (lower_of c) z ≡ true
        → Short text p (A.Spaces ∷ A.Byte x ∷ A.Byte y ∷ A.Byte z ∷ zs) → length l + 3 ≤ p.0
    three_on p x y z zs e g h v =
        let q : walk 0 (A.Spaces ∷ A.Byte x ∷ A.Byte y ∷ A.Byte z ∷ zs) text ≡ walk (length l + 1 + 1 + 1) zs t =
        blanks_walk l _ (a ∷ b ∷ c ∷ t) f 0 (length l) (omega arith) ∙ (turn_next (length l) (A.Byte x) _ a _ (byte_next a x e)
        ∙ (turn_next (length l + 1) (A.Byte y) _ b _ (byte_next b y g) ∙ turn_next (length l + 1 + 1) (A.Byte z) _ c _ (byte_next c z h))) in
        omega (arith, far_least t (length l + 1 + 1 + 1) zs v.0 (sym q ∙ v.1.0), v.1.1)

    letters_open : marked (lower_of a) (lower_of b) (lower_of c) ≡ true → ((p : Place) → furthest shapes text 0 ≡ Err p → length l + 3 ≤ p.0) → Opening l (a ∷ b ∷ c ∷ t)
    unfolding marked_at
    letters_open e h = record { these = a ∷ b ∷ c ∷ []; rest = t; is = refl; marks = λ y. e; first = λ y. f; far = h }

    three_far : marked (lower_of a) (lower_of b) (lower_of c) ≡ true → eqb (lower_of a) 35 ≡ false → (p : Place) → furthest shapes text 0 ≡ Err p → length l + 3 ≤ p.0
    unfolding marked
    three_far e n p q =
        let all : All (Short text p) shapes = all_short text shapes 0 p q in
        either (eqb (lower_of a) 114 && (eqb (lower_of b) 103 && eqb (lower_of c) 98))
        (λ u. let v : eqb (lower_of b) 103 && eqb (lower_of c) 98 ≡ true = and_second (eqb (lower_of a) 114) (eqb (lower_of b) 103 && eqb (lower_of c) 98) u in
        three_on p 114 103 98 _ (and_first (eqb (lower_of a) 114) (eqb (lower_of b) 103 && eqb (lower_of c) 98) u)
        (and_first (eqb (lower_of b) 103) (eqb (lower_of c) 98) v) (and_second (eqb (lower_of b) 103) (eqb (lower_of c) 98) v) all.1.1.0)
        (λ u. let k : eqb (lower_of a) 104 && (eqb (lower_of b) 115 && eqb (lower_of c) 108) ≡ true = rw (n, u) at e in
        let v : eqb (lower_of b) 115 && eqb (lower_of c) 108 ≡ true = and_second (eqb (lower_of a) 104) (eqb (lower_of b) 115 && eqb (lower_of c) 108) k in
        three_on p 104 115 108 _ (and_first (eqb (lower_of a) 104) (eqb (lower_of b) 115 && eqb (lower_of c) 108) k)
        (and_first (eqb (lower_of b) 115) (eqb (lower_of c) 108) v) (and_second (eqb (lower_of b) 115) (eqb (lower_of c) 108) v) all.1.1.1.1.1.1.0)

opening : (l : List Blank) (r : List ℕ) → is_space (get_or r 0 0) ≡ false → marked_at r 0 ≡ true → Opening l r
unfolding marked_at marked lower_of within
opening l [] f e = never e
opening l (a ∷ []) f e = either (eqb (lower_of a) 35) (λ u. hash l a [] f u) (λ u. never (simp (u, and_false) at e))
opening l (a ∷ b ∷ []) f e = either (eqb (lower_of a) 35) (λ u. hash l a (b ∷ []) f u) (λ u. never (simp (u, and_false) at e))
opening l (a ∷ b ∷ c ∷ t) f e = either (eqb (lower_of a) 35) (λ u. hash l a (b ∷ c ∷ t) f u) (λ u. letters_open l a t f b c t e (three_far l a t f b c t e u))

-- so a text that agrees one byte further than the shapes go begins so too
pub still_shaped : (s : List ℕ) → is_shaped s ≡ true → (p : Place) → furthest shapes s 0 ≡ Err p → (n : ℕ) → p.0 ≤ n → (t : List ℕ) → is_shaped (take n s ++ t) ≡ true
still_shaped s e p w n h t =
    let d : (l : List Blank) × (r : List ℕ) × (s ≡ blanks l ++ r) × (is_space (get_or r 0 0) ≡ false) = split_blanks s in
    let o : Opening d.0 d.1 = opening d.0 d.1 d.3 (sym (shaped_after d.0 d.1 d.3) ∙ (sym (ap is_shaped d.2) ∙ e)) in
    go d.0 d.1 d.2 o
  where
    go : (l : List Blank) (r : List ℕ) → s ≡ blanks l ++ r → Opening l r → is_shaped (take n s ++ t) ≡ true
    go l r q o =
        let k : furthest shapes (blanks l ++ r) 0 ≡ Err p = rw q at w in
        let m : length (blanks l ++ o.these) ≤ n = simp (length-append, length-map) (omega (arith, o.far p k)) in
        let x : (j : ℕ) × (take n ((blanks l ++ o.these) ++ o.rest) ≡ (blanks l ++ o.these) ++ take j o.rest) = take_past (blanks l ++ o.these) o.rest n m in
        let y : s ≡ (blanks l ++ o.these) ++ o.rest = q ∙ (ap (λ (z : List ℕ). blanks l ++ z) o.is ∙ sym (append_assoc (blanks l) o.these o.rest)) in
        let z : take n s ++ t ≡ blanks l ++ (o.these ++ (take x.0 o.rest ++ t)) = ap (λ (u : List ℕ). take n u ++ t) y ∙ (ap (λ (u : List ℕ). u ++ t) x.1
        ∙ (append_assoc (blanks l ++ o.these) (take x.0 o.rest) t ∙ append_assoc (blanks l) o.these (take x.0 o.rest ++ t))) in
        rw z (shaped_after l (o.these ++ (take x.0 o.rest ++ t)) (o.first (take x.0 o.rest ++ t)) ∙ o.marks (take x.0 o.rest ++ t))
