-- Lost stays lost; and what is not lost can go on to its end: `finish` is how.
use Prim.Native.Nat.{ℕ, zero, suc, ◌+◌, ◌≤◌, ◌<◌}
use mathlib.Core.Bool.{true, false, ◌&&◌}
use mathlib.Core.List.{List, [], ◌∷◌, ◌++◌}
use mathlib.Core.Path.{◌≡◌, refl, sym}
use native.Mathlib.Omega.{arith}
use lib.ListN.{length, take}
use Rattle.std.specs.Prelude.{Option, Some, None, Result, Ok, Err}
use Rattle.text_bytes.specs.Bytes.{within}
use Rattle.text_bytes.specs.Moves.{place}
use Rattle.text_bytes.specs.declared.Place.{Place}
use Rattle.text_bytes.proofs.Ranges.{either, and_first, and_second}
use Rattle.shapes.specs.Walk.{push, signed, dot, act, ends, step, all_end, walk}
use Rattle.shapes.specs.declared.Atom.{Atom}
use Rattle.shapes.specs.declared.Atom.TheVariants as A
use Rattle.shapes.specs.declared.Act.{Act}
use Rattle.shapes.specs.declared.Act.TheVariants as D
use Rattle.shapes.proofs.Fair.{kind, never, never_ok, able, stay_kind, stay_able}
use Rattle.shapes.proofs.Parts.{Takes, stop, last, more, Parts, apart, well, parts_walk}

-- the shortest that brings an atom to its end
unfoldable pub finish : Atom → List ℕ
finish A.Spaces = []
finish A.Hex = 48 ∷ []
finish (A.Byte c) = c ∷ []
finish (A.Number d) = 48 ∷ []
finish (A.Signed d) = 48 ∷ []
finish (A.Digits d m) = []
finish (A.Dot m) = 48 ∷ []
finish (A.Fraction m k) = []

unfoldable pub finish_all : List Atom → List ℕ
finish_all [] = []
finish_all (a ∷ xs) = finish a ++ finish_all xs

finishes : (a : Atom) → able a ≡ true → Takes a (finish a)
unfolding finish able act ends signed dot within
finishes A.Spaces e = stop refl
finishes A.Hex e = last refl
finishes (A.Byte c) e = let f : act (A.Byte c) c ≡ D.Next = simp e in last f
finishes (A.Number d) e = more refl (stop refl)
finishes (A.Signed d) e = more refl (stop refl)
finishes (A.Digits d m) e = stop refl
finishes (A.Dot m) e = let f : act (A.Dot m) 48 ≡ D.Stay (A.Fraction (push m 48) 1) = simp e in more f (stop refl)
finishes (A.Fraction m k) e = stop refl

module _ (a : Atom) (xs : List Atom) (h : well (a ∷ xs) ≡ true) where
  well_both : apart (kind a) xs && able a ≡ true
  unfolding well
  well_both = and_first (apart (kind a) xs && able a) (well xs) h

  well_apart : apart (kind a) xs ≡ true
  well_apart = and_first (apart (kind a) xs) (able a) well_both

  well_able : able a ≡ true
  well_able = and_second (apart (kind a) xs) (able a) well_both

  well_rest : well xs ≡ true
  unfolding well
  well_rest = and_second (apart (kind a) xs && able a) (well xs) h

finish_parts : (xs : List Atom) → well xs ≡ true → Parts xs (finish_all xs)
unfolding finish_all
finish_parts [] h = refl
finish_parts (a ∷ xs) h =
    record { first = finish a; rest = finish_all xs; is = refl; takes = finishes a (well_able a xs h); others = finish_parts xs (well_rest a xs h) }

pub finish_walk : (i : ℕ) (xs : List Atom) → well xs ≡ true → walk i xs (finish_all xs) ≡ Ok tt
finish_walk i xs h = parts_walk xs h (finish_all xs) (finish_parts xs h) i

stay_well : (a x : Atom) (xs : List Atom) (b : ℕ) → act a b ≡ D.Stay x → well (a ∷ xs) ≡ true → well (x ∷ xs) ≡ true
unfolding well
stay_well a x xs b q h = simp (stay_kind a b x q, well_apart a xs h, stay_able a b x q, well_rest a xs h)

-- what is left of a good shape is one
none_some : {C : Type 0} {ys : List Atom} → None ≡ Some ys → C
none_some q = never (let z : false ≡ true = cc in z)

pub step_well : (xs ys : List Atom) (b : ℕ) → step xs b ≡ Some ys → well xs ≡ true → well ys ≡ true
unfolding step
step_well [] ys b e h = none_some e
step_well (a ∷ xs) ys b e h = go (λ f. step_well xs ys b f (well_rest a xs h)) (act a b) refl
  where
    go : (step xs b ≡ Some ys → well ys ≡ true) → (r : Act) → act a b ≡ r → well ys ≡ true
    go later D.Pass q = later (rw q at e)
    go later (D.Stay x) q = let f : Some (x ∷ xs) ≡ Some ys = rw q at e in let g : x ∷ xs ≡ ys = cc in rw (← g) (stay_well a x xs b q h)
    go later D.Next q = let f : Some xs ≡ Some ys = rw q at e in let g : xs ≡ ys = cc in rw (← g) (well_rest a xs h)
    go later D.Lost q = none_some (rw q at e)

-- How far a text goes that is not walked to its end: so far it can be gone on with to the end of the shape, and one byte further nothing can.
pub record Goes (i : ℕ) (xs : List Atom) (s : List ℕ) (p : Place) : Type 0 where
  pub count : ℕ
  pub rest : List ℕ
  pub far : p.0 ≡ i + count
  pub on : walk i xs (take count s ++ rest) ≡ Ok tt
  pub off : count < length s → (n : ℕ) → count ≤ n → (t : List ℕ) → walk i xs (take (suc n) s ++ t) ≡ Ok tt → ⊥

off_one : (i : ℕ) (ys : List Atom) (bs : List ℕ) (p : Place) (g : Goes i ys bs p) → g.count < length bs → (n : ℕ) → suc g.count ≤ n → (t : List ℕ) → walk i ys (take n bs ++ t) ≡ Ok tt → ⊥
off_one i ys bs p g k zero h t = absurd (omega arith)
off_one i ys bs p g k (suc n) h t = g.off k n (omega arith) t

stopped : {i : ℕ} {p : Place} → ◌≡◌ {A = Result (Unit {0}) Place} (Err (place i)) (Err p) → p.0 ≡ i + 0
stopped {i} {p} e = let q : place i ≡ p = cc in rw (← q) (omega arith)

pub goes : (s : List ℕ) (i : ℕ) (xs : List Atom) (p : Place) → well xs ≡ true → walk i xs s ≡ Err p → Goes i xs s p
unfolding walk
goes [] i xs p h e =
    either (all_end xs) (λ f. never_ok (sym (rw f at e)))
    (λ f. record { count = 0; rest = finish_all xs; far = stopped (rw f at e); on = finish_walk i xs h; off = λ k n h t. absurd (omega arith) })
goes (b ∷ bs) i xs p h e = go (λ ys f g. goes bs (i + 1) ys p f g) (step xs b) refl
  where
    go : ((ys : List Atom) → well ys ≡ true → walk (i + 1) ys bs ≡ Err p → Goes (i + 1) ys bs p) → (r : Option (List Atom)) → step xs b ≡ r → Goes i xs (b ∷ bs) p
    go later None q = record { count = 0; rest = finish_all xs; far = stopped (rw q at e); on = finish_walk i xs h; off = λ k n h t f. never_ok (rw q at f) }
    go later (Some ys) q = let g : Goes (i + 1) ys bs p = later ys (step_well xs ys b q h) (rw q at e) in
        record { count = suc g.count; rest = g.rest; far = omega (arith, g.far); on = rw q g.on; off = λ k n h t f. off_one (i + 1) ys bs p g (omega arith) n h t (rw q at f) }
