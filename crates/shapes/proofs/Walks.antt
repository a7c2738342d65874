-- The walk's laws: a turn takes a byte or leaves an atom; an atom is gone on with to its end; and so on through the shape.
use Prim.Native.Nat.{ℕ, suc, ◌+◌, ◌≤◌, ◌<◌}
use mathlib.Core.Bool.{true, false, cond}
use mathlib.Core.List.{List, [], ◌∷◌, map}
use mathlib.Core.Path.{◌≡◌, refl, sym, ap, ◌∙◌}
use native.Mathlib.Numerals.{add-one}
use native.Mathlib.Omega.{arith}
use lib.ListN.{length, get_or, drop, length-drop, drop_of_length-le}
use lib.Seq.{drop-cons, drop-drop}
use Rattle.std.specs.Prelude.{Result, Ok, Err, MatchResult}
use Rattle.text_bytes.specs.Moves.{place}
use Rattle.text_bytes.specs.declared.Place.{Place}
use Rattle.text_bytes.proofs.Ranges.{either}
use Rattle.stream.proofs.Binds.{at_ok, at_err}
use Rattle.shapes.specs.Walk.{act, ends, step, all_end, walk, atom_of}
use Rattle.shapes.specs.Consume.{onward, consumed, consume}
use Rattle.shapes.specs.declared.Atom.{Atom}
use Rattle.shapes.specs.declared.Act.{Act}
use Rattle.shapes.specs.declared.Act.TheVariants as D

-- one turn
module _ (i : ℕ) (a : Atom) (xs : List Atom) where
  pub turn_pass : (b : ℕ) (bs : List ℕ) → act a b ≡ D.Pass → walk i (a ∷ xs) (b ∷ bs) ≡ walk i xs (b ∷ bs)
  unfolding walk step
  turn_pass b bs e = simp e

  pub turn_stay : (b : ℕ) (bs : List ℕ) (x : Atom) → act a b ≡ D.Stay x → walk i (a ∷ xs) (b ∷ bs) ≡ walk (i + 1) (x ∷ xs) bs
  unfolding walk step
  turn_stay b bs x e = simp e

  pub turn_next : (b : ℕ) (bs : List ℕ) → act a b ≡ D.Next → walk i (a ∷ xs) (b ∷ bs) ≡ walk (i + 1) xs bs
  unfolding walk step
  turn_next b bs e = simp e

  pub turn_lost : (b : ℕ) (bs : List ℕ) → act a b ≡ D.Lost → walk i (a ∷ xs) (b ∷ bs) ≡ Err (place i)
  unfolding walk step
  turn_lost b bs e = simp e

  pub turn_end : ends a ≡ true → walk i (a ∷ xs) [] ≡ walk i xs []
  unfolding walk all_end
  turn_end e = simp e

  pub turn_stuck : ends a ≡ false → walk i (a ∷ xs) [] ≡ Err (place i)
  unfolding walk all_end
  turn_stuck e = simp e

-- One turn of the loop that goes on with an atom, for `grind`
module _ (a : Atom) (s : List ℕ) (i : ℕ) where
  pub consume_pass : i < length s → act a (get_or s i 0) ≡ D.Pass → consume a s i ≡ Ok (place i)
  unfolding consume consumed
  consume_pass h e = simp (drop-cons s i 0 h, e)

  pub consume_stay : i < length s → (x : Atom) → act a (get_or s i 0) ≡ D.Stay x → consume a s i ≡ consume x s (i + 1)
  unfolding consume consumed
  consume_stay h x e = simp (drop-cons s i 0 h, e, add-one)

  pub consume_next : i < length s → act a (get_or s i 0) ≡ D.Next → consume a s i ≡ Ok (place (i + 1))
  unfolding consume consumed
  consume_next h e = simp (drop-cons s i 0 h, e)

  pub consume_lost : i < length s → act a (get_or s i 0) ≡ D.Lost → consume a s i ≡ Err (place i)
  unfolding consume consumed
  consume_lost h e = simp (drop-cons s i 0 h, e)

  pub consume_end : length s ≤ i → consume a s i ≡ cond (ends a) (Ok (place i)) (Err (place i))
  unfolding consume consumed
  consume_end h = simp (drop_of_length-le s {i = i} h)

-- what is walked after an atom, where reading goes on at p
pub record On (s : List ℕ) (i : ℕ) (a : Atom) (xs : List Atom) (p : Place) : Type 0 where
  pub inside : p.0 ≤ length s
  pub same : walk i (a ∷ xs) (drop i s) ≡ walk p.0 xs (drop p.0 s)

module _ (s : List ℕ) (xs : List Atom) where
  abbrev Goes_on : ℕ → Atom → List ℕ → Type 0
  Goes_on i a l = MatchResult (consumed i a l) (On s i a xs) (λ p. walk i (a ∷ xs) l ≡ Err p)

  goes_on : (l : List ℕ) (i : ℕ) (a : Atom) → drop i s ≡ l → i ≤ length s → Goes_on i a l
  unfolding consumed
  goes_on [] i a q h =
      either (ends a) (λ e. simp e (record { inside = h; same = rw q (turn_end i a xs e) })) (λ e. simp e (turn_stuck i a xs e))
  goes_on (b ∷ bs) i a q h = go (λ x f l. goes_on bs (i + 1) x f l) (act a b) refl
    where
      k : i < length s
      k = let n : length (drop i s) ≡ suc (length bs) = ap length q in omega (arith, length-drop i s)

      tail : drop (i + 1) s ≡ bs
      tail = sym (drop-drop 1 i s) ∙ ap (drop 1) q

      go : ((x : Atom) → drop (i + 1) s ≡ bs → i + 1 ≤ length s → Goes_on (i + 1) x bs)
          → (r : Act) → act a b ≡ r → MatchResult (onward i r (λ x. consumed (i + 1) x bs)) (On s i a xs) (λ p. walk i (a ∷ xs) (b ∷ bs) ≡ Err p)
      go later D.Pass e = record { inside = h; same = rw q (turn_pass i a xs b bs e) }
      go later (D.Stay x) e = further (consumed (i + 1) x bs) (later x tail (omega (arith, k)))
        where
          further : (c : Result Place Place) → MatchResult c (On s (i + 1) x xs) (λ p. walk (i + 1) (x ∷ xs) bs ≡ Err p) → MatchResult c (On s i a xs) (λ p. walk i (a ∷ xs) (b ∷ bs) ≡ Err p)
          further (Ok p) v = record { inside = v.inside; same = rw q (turn_stay i a xs b bs x e) ∙ (ap (walk (i + 1) (x ∷ xs)) (sym tail) ∙ v.same) }
          further (Err p) v = turn_stay i a xs b bs x e ∙ v
      go later D.Next e = record { inside = omega (arith, k); same = rw (q, tail) (turn_next i a xs b bs e) }
      go later D.Lost e = turn_lost i a xs b bs e

  module _ (i : ℕ) (a : Atom) (h : i ≤ length s) where
    pub on_ok : (p : Place) → consume a s i ≡ Ok p → On s i a xs p
    unfolding consume
    on_ok p e = at_ok (On s i a xs) _ (consumed i a (drop i s)) p (goes_on (drop i s) i a refl h) e

    pub on_err : (p : Place) → consume a s i ≡ Err p → walk i (a ∷ xs) (drop i s) ≡ Err p
    unfolding consume
    on_err p e = at_err (On s i a xs) _ (consumed i a (drop i s)) p (goes_on (drop i s) i a refl h) e

-- The loop over a shape: what is left at its code k, and at the place of the text
pub record Walking (codes s : List ℕ) (k : ℕ) (at : Place) : Type 0 where
  pub inside : at.0 ≤ length s
  pub same : walk at.0 (map atom_of (drop k codes)) (drop at.0 s) ≡ walk 0 (map atom_of codes) s

pub walking_start : (codes s : List ℕ) → Walking codes s 0 (place 0)
walking_start codes s = record { inside = omega arith; same = refl }

module _ {codes s : List ℕ} {k : ℕ} {at : Place} (v : Walking codes s k at) where
  module _ (h : k < length codes) (p : Place) where
    pub walking_on : consume (atom_of (get_or codes k 0)) s at.0 ≡ Ok p → Walking codes s (k + 1) p
    walking_on e =
        let w : On s at.0 (atom_of (get_or codes k 0)) (map atom_of (drop (suc k) codes)) p = on_ok s _ at.0 _ v.inside p e in
        record { inside = w.inside; same = rw (add-one k) (sym w.same ∙ rw (drop-cons codes k 0 h) at v.same) }

    pub walking_off : consume (atom_of (get_or codes k 0)) s at.0 ≡ Err p → Err p ≡ walk 0 (map atom_of codes) s
    walking_off e =
        let w : walk at.0 (atom_of (get_or codes k 0) ∷ map atom_of (drop (suc k) codes)) (drop at.0 s) ≡ Err p = on_err s _ at.0 _ v.inside p e in
        sym w ∙ rw (drop-cons codes k 0 h) at v.same

  module _ (h : length codes ≤ k) where
    nothing_left : walk at.0 [] (drop at.0 s) ≡ walk 0 (map atom_of codes) s
    nothing_left = simp (drop_of_length-le codes {i = k} h) at v.same

    pub walking_short : at.0 < length s → Err at ≡ walk 0 (map atom_of codes) s
    unfolding walk step
    walking_short l = simp (drop-cons s at.0 0 l) at nothing_left

    pub walking_done : length s ≤ at.0 → Ok tt ≡ walk 0 (map atom_of codes) s
    unfolding walk all_end
    walking_done l = simp (drop_of_length-le s {i = at.0} l) at nothing_left

pub ruleset walked = (walking_start, walking_on, walking_off, walking_short, walking_done)
