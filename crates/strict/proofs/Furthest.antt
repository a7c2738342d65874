-- Of several shapes: one that walks a text to its end is enough; else, as far as the furthest goes some shape can go on, and one byte further none.
use Prim.Native.Nat.{ℕ, suc, ◌+◌, ◌≤◌, ◌<◌, max}
use mathlib.Core.Bool.{true}
use mathlib.Core.List.{List, [], ◌∷◌, ◌++◌, map}
use mathlib.Core.Logic.{◌⊎◌, inl, inr, ⊎_elim}
use mathlib.Core.Path.{◌≡◌, refl, sym}
use native.Mathlib.Numerals.{add-one}
use native.Mathlib.Omega.{arith}
use lib.ListN.{length, get_or, take, drop}
use lib.Seq.{drop-cons}
use Rattle.std.specs.Prelude.{Result, Ok, Err}
use Rattle.text_bytes.specs.Moves.{place}
use Rattle.text_bytes.specs.declared.Place.{Place}
use Rattle.text_bytes.proofs.Ranges.{le_or_lt}
use Rattle.shapes.specs.Walk.{walk}
use Rattle.strict.specs.Answer.{or_further, furthest}
use Rattle.shapes.specs.declared.Atom.{Atom}
use Rattle.shapes.proofs.Fair.{never_ok}
use Rattle.shapes.proofs.Parts.{well}
use Rattle.shapes.proofs.Going.{Goes, goes, finish_all, finish_walk}

-- One turn of the loop over the shapes as they are written
module _ {R : Type 0} (f : R → List Atom) (items : List R) (k : ℕ) (d : R) (s : List ℕ) (far : ℕ) (h : k < length items) where
  pub furthest_done : walk 0 (f (get_or items k d)) s ≡ Ok tt → furthest (map f (drop k items)) s far ≡ Ok tt
  unfolding furthest
  furthest_done e = rw (drop-cons items k d h, e) refl

  pub furthest_on : (p : Place) → walk 0 (f (get_or items k d)) s ≡ Err p → furthest (map f (drop k items)) s far ≡ furthest (map f (drop (k + 1) items)) s (max far p.0)
  unfolding furthest
  furthest_on p e = rw (drop-cons items k d h, e, add-one k) refl

abbrev pub Some : (List Atom → Type 0) → List (List Atom) → Type 0
Some P [] = ⊥
Some P (x ∷ xs) = P x ⊎ Some P xs

abbrev pub All : (List Atom → Type 0) → List (List Atom) → Type 0
All P [] = Unit
All P (x ∷ xs) = P x × All P xs

abbrev pub Walks : List ℕ → List Atom → Type 0
Walks s x = walk 0 x s ≡ Ok tt

-- a text that goes on with `t` after n bytes of s
abbrev pub GoesOn : List ℕ → ℕ → List Atom → Type 0
GoesOn s n x = (t : List ℕ) × (walk 0 x (take n s ++ t) ≡ Ok tt)

abbrev pub Stuck : List ℕ → ℕ → List Atom → Type 0
Stuck s n x = (t : List ℕ) → walk 0 x (take (suc n) s ++ t) ≡ Ok tt → ⊥

abbrev pub AllWell : List (List Atom) → Type 0
AllWell xs = All (λ x. well x ≡ true) xs

module _ (s : List ℕ) where
  pub some_whole : (xs : List (List Atom)) (far : ℕ) → Some (Walks s) xs → furthest xs s far ≡ Ok tt
  unfolding furthest
  some_whole [] far e = absurd e
  some_whole (x ∷ xs) far (inl e) = rw e refl
  some_whole (x ∷ xs) far (inr e) = go (walk 0 x s) (λ n. some_whole xs n e)
    where
      go : (r : Result (Unit {0}) Place) → ((n : ℕ) → furthest xs s n ≡ Ok tt) → or_further r far (λ n. furthest xs s n) ≡ Ok tt
      go (Ok u) later = refl
      go (Err p) later = later (max far p.0)

  pub whole_some : (xs : List (List Atom)) (far : ℕ) → furthest xs s far ≡ Ok tt → Some (Walks s) xs
  unfolding furthest
  whole_some [] far e = never_ok e
  whole_some (x ∷ xs) far e = go (walk 0 x s) refl (λ n f. whole_some xs n f)
    where
      go : (r : Result (Unit {0}) Place) → walk 0 x s ≡ r → ((n : ℕ) → furthest xs s n ≡ Ok tt → Some (Walks s) xs) → Walks s x ⊎ Some (Walks s) xs
      go (Ok u) q later = inl q
      go (Err p) q later = inr (later (max far p.0) (rw q at e))

  -- no shape goes further than the furthest
  abbrev pub Short : Place → List Atom → Type 0
  Short p x = (q : Place) × ((walk 0 x s ≡ Err q) × (q.0 ≤ p.0))

  far_least : (xs : List (List Atom)) (far : ℕ) (p : Place) → furthest xs s far ≡ Err p → far ≤ p.0
  unfolding furthest
  far_least [] far p e = let q : place far ≡ p = cc in rw (← q) (omega arith)
  far_least (x ∷ xs) far p e = go (walk 0 x s) refl (λ n f. far_least xs n p f)
    where
      go : (r : Result (Unit {0}) Place) → walk 0 x s ≡ r → ((n : ℕ) → furthest xs s n ≡ Err p → n ≤ p.0) → far ≤ p.0
      go (Ok u) q later = never_ok (sym (rw q at e))
      go (Err j) q later = omega (arith, later (max far j.0) (rw q at e))

  pub all_short : (xs : List (List Atom)) (far : ℕ) (p : Place) → furthest xs s far ≡ Err p → All (Short p) xs
  unfolding furthest
  all_short [] far p e = tt
  all_short (x ∷ xs) far p e = go (walk 0 x s) refl (λ n f. all_short xs n p f)
    where
      go : (r : Result (Unit {0}) Place) → walk 0 x s ≡ r → ((n : ℕ) → furthest xs s n ≡ Err p → All (Short p) xs) → Short p x × All (Short p) xs
      go (Ok u) q later = never_ok (sym (rw q at e))
      go (Err j) q later = ((j, (q, omega (arith, far_least xs (max far j.0) p (rw q at e)))), later (max far j.0) (rw q at e))

  -- How far the shapes go that walk s to no end: to where they began, or where one of them can go on; and none goes further
  pub record Lost (xs : List (List Atom)) (far : ℕ) (p : Place) : Type 0 where
    pub least : far ≤ p.0
    pub on : (p.0 ≡ far) ⊎ Some (GoesOn s p.0) xs
    pub off : (n : ℕ) → p.0 ≤ n → n < length s → All (Stuck s n) xs

  same_place : (far : ℕ) (p : Place) → ◌≡◌ {A = Result (Unit {0}) Place} (Err (place far)) (Err p) → p.0 ≡ far
  same_place far p e = let q : place far ≡ p = cc in rw (← q) refl

  on_from : (x : List Atom) → well x ≡ true → (p : Place) → walk 0 x s ≡ Err p → (n : ℕ) → n ≡ p.0 → GoesOn s n x
  on_from x h p e n q = let g : Goes 0 x s p = goes s 0 x p h e in let z : n ≡ g.count = omega (arith, g.far) in (g.rest, rw z g.on)

  off_from : (x : List Atom) → well x ≡ true → (p : Place) → walk 0 x s ≡ Err p → (n : ℕ) → p.0 ≤ n → n < length s → Stuck s n x
  off_from x h p e n l k t = let g : Goes 0 x s p = goes s 0 x p h e in g.off (omega (arith, g.far)) n (omega (arith, g.far)) t

  pub lost : (xs : List (List Atom)) (far : ℕ) (p : Place) → AllWell xs → furthest xs s far ≡ Err p → Lost xs far p
  unfolding furthest
  lost [] far p h e = let q : p.0 ≡ far = same_place far p e in record { least = omega arith; on = inl q; off = λ n l k. tt }
  lost (x ∷ xs) far p h e = go (walk 0 x s) refl (λ n f. lost xs n p h.1 f)
    where
      go : (r : Result (Unit {0}) Place) → walk 0 x s ≡ r → ((n : ℕ) → furthest xs s n ≡ Err p → Lost xs n p) → Lost (x ∷ xs) far p
      go (Ok u) q later = never_ok (sym (rw q at e))
      go (Err j) q later =
          let v : Lost xs (max far j.0) p = later (max far j.0) (rw q at e) in
          record {
            least = omega (arith, v.least);
            on = ⊎_elim
                (λ (m : p.0 ≡ max far j.0). ⊎_elim (λ (l : j.0 ≤ far). inl (omega arith)) (λ (l : far < j.0). inr (inl (on_from x h.0 j q p.0 (omega arith)))) (le_or_lt j.0 far))
                (λ (m : Some (GoesOn s p.0) xs). inr (inr m))
                v.on;
            off = λ n l k. (off_from x h.0 j q n (omega (arith, v.least)) k, v.off n l k);
          }

  -- so from the text's beginning some shape can go on as far
  pub some_on : (x : List Atom) (xs : List (List Atom)) (p : Place) → AllWell (x ∷ xs) → furthest (x ∷ xs) s 0 ≡ Err p → Some (GoesOn s p.0) (x ∷ xs)
  some_on x xs p h e =
      ⊎_elim (λ (m : p.0 ≡ 0). inl (rw m (finish_all x, finish_walk 0 x h.0))) (λ (m : Some (GoesOn s p.0) (x ∷ xs)). m) (lost (x ∷ xs) 0 p h e).on

  pub all_stuck : (xs : List (List Atom)) (p : Place) → AllWell xs → furthest xs s 0 ≡ Err p → (n : ℕ) → p.0 ≤ n → n < length s → All (Stuck s n) xs
  all_stuck xs p h e n l k = (lost xs 0 p h e).off n l k
