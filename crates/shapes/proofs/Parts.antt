-- The walk of a whole text, and the text's parts, one for each atom: the one from the other. No grammar is here.
use Prim.Native.Nat.{ℕ, ◌+◌}
use mathlib.Core.Bool.{Bool, true, cond, ◌&&◌}
use mathlib.Core.List.{List, [], ◌∷◌, ◌++◌}
use mathlib.Core.Path.{◌≡◌, refl, ap}
use lib.ListN.{get_or}
use Rattle.std.specs.Prelude.{Ok}
use Rattle.text_bytes.specs.Bytes.{within}
use Rattle.text_bytes.proofs.Ranges.{either, and_first, and_second}
use Rattle.shapes.specs.Walk.{act, ends, step, all_end, walk}
use Rattle.shapes.specs.declared.Atom.{Atom}
use Rattle.shapes.specs.declared.Act.{Act}
use Rattle.shapes.specs.declared.Act.TheVariants as D
use Rattle.shapes.proofs.Fair.{Kind, blank, single, numeric, kind, never_ok, able, pass_ends, stay_kind, follows, hands_on, clear, first_clear}
use Rattle.shapes.proofs.Walks.{turn_pass, turn_stay, turn_next, turn_lost, turn_end}

-- the bytes bring the atom to its end
pub data Takes : Atom → List ℕ → Type 0 where
  stop : {a : Atom} → ends a ≡ true → Takes a []
  last : {a : Atom} {b : ℕ} → act a b ≡ D.Next → Takes a (b ∷ [])
  more : {a x : Atom} {b : ℕ} {l : List ℕ} → act a b ≡ D.Stay x → Takes x l → Takes a (b ∷ l)

pub record Part (a : Atom) (P : List ℕ → Type 0) (s : List ℕ) : Type 0 where
  pub first : List ℕ
  pub rest : List ℕ
  pub is : s ≡ first ++ rest
  pub takes : Takes a first
  pub others : P rest

abbrev pub Parts : List Atom → List ℕ → Type 0
Parts [] s = s ≡ []
Parts (a ∷ xs) s = Part a (Parts xs) s

-- what is walked to its end has parts
ended_parts : (xs : List Atom) → all_end xs ≡ true → Parts xs []
unfolding all_end
ended_parts [] e = refl
ended_parts (a ∷ xs) e =
    record { first = []; rest = []; is = refl; takes = stop (and_first (ends a) (all_end xs) e); others = ended_parts xs (and_second (ends a) (all_end xs) e) }

pub walk_parts : (s : List ℕ) (i : ℕ) (xs : List Atom) → walk i xs s ≡ Ok tt → Parts xs s
unfolding walk step
walk_parts [] i xs e = ended_parts xs (either (all_end xs) (λ f. f) (λ f. never_ok (rw f at e)))
walk_parts (b ∷ bs) i [] e = never_ok e
walk_parts (b ∷ bs) i (a ∷ xs) e = go (λ f. walk_parts (b ∷ bs) i xs f) (λ ys f. walk_parts bs (i + 1) ys f) (act a b) refl
  where
    go : (walk i xs (b ∷ bs) ≡ Ok tt → Parts xs (b ∷ bs)) → ((ys : List Atom) → walk (i + 1) ys bs ≡ Ok tt → Parts ys bs)
        → (r : Act) → act a b ≡ r → Part a (Parts xs) (b ∷ bs)
    go same next D.Pass q =
        record {
          first = [];
          rest = b ∷ bs;
          is = refl;
          takes = stop (pass_ends a b q);
          others = same (rw (turn_pass i a xs b bs q) at e);
        }
    go same next (D.Stay x) q = let p : Part x (Parts xs) bs = next (x ∷ xs) (rw (turn_stay i a xs b bs x q) at e) in
        record { first = b ∷ p.first; rest = p.rest; is = ap (λ (l : List ℕ). b ∷ l) p.is; takes = more q p.takes; others = p.others }
    go same next D.Next q = record { first = b ∷ []; rest = bs; is = refl; takes = last q; others = next xs (rw (turn_next i a xs b bs q) at e) }
    go same next D.Lost q = never_ok (rw (turn_lost i a xs b bs q) at e)

-- A shape whose neighbours are apart: what comes after an atom begins with no byte with which it would go on. It is computed.
unfoldable pub apart : Kind → List Atom → Bool
apart k [] = true
apart k (x ∷ xs) = clear k x && cond (ends x) (apart k xs) true

unfoldable pub well : List Atom → Bool
well [] = true
well (a ∷ xs) = (apart (kind a) xs && able a) && well xs

zero_follows : (k : Kind) → follows k 0 ≡ true
unfolding follows within
zero_follows blank = refl
zero_follows single = refl
zero_follows numeric = refl

pub parts_first : (k : Kind) (xs : List Atom) → apart k xs ≡ true → (s : List ℕ) → Parts xs s → follows k (get_or s 0 0) ≡ true
unfolding apart
parts_first k [] h s p = rw p (zero_follows k)
parts_first k (x ∷ xs) h s p = go (λ f. parts_first k xs f p.rest p.others) p.first p.takes p.is
  where
    c : clear k x ≡ true
    c = and_first (clear k x) (cond (ends x) (apart k xs) true) h

    go : (apart k xs ≡ true → follows k (get_or p.rest 0 0) ≡ true) → (l : List ℕ) → Takes x l → s ≡ l ++ p.rest → follows k (get_or s 0 0) ≡ true
    go later [] (stop e) q = rw q (later (rw e at (and_second (clear k x) (cond (ends x) (apart k xs) true) h)))
    go later (b ∷ l) (last e) q = rw q (first_clear k x b (rw e refl) c)
    go later (b ∷ l) (more e t) q = rw q (first_clear k x b (rw e refl) c)

takes_walk : {a : Atom} {l : List ℕ} → Takes a l → (i : ℕ) (xs : List Atom) (r : List ℕ) → follows (kind a) (get_or r 0 0) ≡ true
    → ((j : ℕ) → walk j xs r ≡ Ok tt) → walk i (a ∷ xs) (l ++ r) ≡ Ok tt
takes_walk {a} (stop e) i xs [] f h = rw (turn_end i a xs e) (h i)
takes_walk {a} (stop e) i xs (b ∷ r) f h = rw (turn_pass i a xs b r (hands_on a b e f)) (h i)
takes_walk {a} (last {b} e) i xs r f h = rw (turn_next i a xs b r e) (h (i + 1))
takes_walk {a} (more {x} {b} {l} e t) i xs r f h = rw (turn_stay i a xs b (l ++ r) x e) (takes_walk t (i + 1) xs r (rw (stay_kind a b x e) f) h)

-- and a text with parts is walked to its end
pub parts_walk : (xs : List Atom) → well xs ≡ true → (s : List ℕ) → Parts xs s → (i : ℕ) → walk i xs s ≡ Ok tt
unfolding well walk all_end
parts_walk [] h s p i = rw p (empty_whole i)
  where
    empty_whole : (i : ℕ) → walk i [] [] ≡ Ok tt
    empty_whole i = refl
parts_walk (a ∷ xs) h s p i =
    let g : apart (kind a) xs && able a ≡ true = and_first (apart (kind a) xs && able a) (well xs) h in
    rw p.is (takes_walk p.takes i xs p.rest (parts_first (kind a) xs (and_first (apart (kind a) xs) (able a) g) p.rest p.others)
    (λ j. parts_walk xs (and_second (apart (kind a) xs && able a) (well xs) h) p.rest p.others j))
