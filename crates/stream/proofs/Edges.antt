-- The edge: what an admitted text is, where a refusal's stretch lies, and shift.
use Prim.Native.Nat.{ℕ, zero, suc, ◌+◌, ◌-◌, ◌≤◌, ◌<◌}
use mathlib.Core.Bool.{Bool, true, false, cond, not, ◌||◌}
use mathlib.Core.List.{List, [], ◌∷◌, ◌++◌}
use mathlib.Core.Logic.{⊎_elim}
use mathlib.Core.Path.{◌≡◌, refl, sym, ◌∙◌}
use native.Mathlib.Omega.{arith}
use borrow.Author.Tests.{leb-true, le-leb, eqb-true}
use lib.Dec.{leb, eqb}
use lib.ListN.{length, get_or, get_or-eq_default}
use Rattle.std.specs.Prelude.{Result, Ok, Err, MatchResult}
use Rattle.text_bytes.specs.Bytes.{is_tail}
use Rattle.text_bytes.specs.declared.Place.{Place}
use Rattle.text_bytes.proofs.Ranges.{either, le_or_lt}
use Rattle.utf8.specs.Characters.{char_len, walk, utf8_of, on_character, firsts, heads, characters}
use Rattle.utf8.proofs.Counting.{firsts_are, heads_length, on_byte, position_shift}
use Rattle.stream.specs.Moves.{move_fault, move_refusal}
use Rattle.stream.specs.Refusals.{Inside, is_outside_domain, number_of, reason_number, empty_refusal, bare_refusal, refusal_of, at_edge, admit_utf8, admit_text, admit_place}
use Rattle.stream.specs.declared.Trouble.{Trouble}
use Rattle.stream.specs.declared.Trouble.TheVariants as T
use Rattle.stream.specs.declared.Reason.{Reason}
use Rattle.stream.specs.declared.Reason.TheVariants as R
use Rattle.stream.specs.declared.Fault.{Fault}
use Rattle.stream.specs.declared.Refusal.{Refusal}
use Rattle.text_bytes.specs.Flow.{◌>>=◌}
use Rattle.stream.proofs.Binds.{bind_holds, at_ok, bind_ok}
use Rattle.stream.proofs.Stretches.{Lies}
use Rattle.text_bytes.specs.Moves.{place}

-- whether a UTF-8 text has a character's first byte at a place inside, or at its end
pub on_first : (s : List ℕ) (i : ℕ) → utf8_of s ≡ Ok tt → i < length s → on_character s i ≡ not (is_tail (get_or s i 0))
on_first s i u h = on_byte s i u h

pub on_last : (s : List ℕ) (i : ℕ) → utf8_of s ≡ Ok tt → length s ≤ i → on_character s i ≡ eqb i (length s)
unfolding on_character
on_last s i u h =
    let f : get_or (firsts 0 s) i false ≡ false = rw (firsts_are s u) (get_or-eq_default (heads s) false (omega (arith, heads_length s))) in
    rw f (choice (eqb i (length s)))
  where
    choice : (t : Bool) → cond t true false ≡ t
    choice true = refl
    choice false = refl

-- the refusals that the edge makes lie inside
ill_inside : (i k : ℕ) (s : List ℕ) (p : Place) → walk i k s ≡ Err p → p.0 ≤ i + length s
unfolding walk
ill_inside i k [] p e = let z : ◌≡◌ {A = ℕ} 0 1 = cc in absurd (omega arith)
ill_inside i (suc k) (x ∷ xs) p e = omega (arith, ill_inside (i + 1) k xs p e)
ill_inside i zero (x ∷ xs) p e = go (eqb (char_len (x ∷ xs)) 0) (char_len (x ∷ xs) - 1) e (λ k. ill_inside (i + 1) k xs p)
  where
    go : (t : Bool) (k : ℕ) → cond t (Err (place i)) (walk (i + 1) k xs) ≡ Err p
        → ((k : ℕ) → walk (i + 1) k xs ≡ Err p → p.0 ≤ i + 1 + length xs) → p.0 ≤ i + suc (length xs)
    go true k e ih = let z : ◌≡◌ {A = Place} (record { 0 = i }) p = cc in rw (← z) (omega arith)
    go false k e ih = omega (arith, ih k e)

pub bare_inside : (n : ℕ) (r : Reason) → Inside n (bare_refusal r)
bare_inside n r = record { ordered = omega arith; ends = omega arith }

-- what an admitted text is
pub record Admitted (s : List ℕ) : Type 0 where
  pub small : length s ≤ 4096
  pub utf8 : utf8_of s ≡ Ok tt

-- and that i is a place of it
pub record Placed (s : List ℕ) (i : ℕ) : Type 0 where
  pub text : Admitted s
  pub inside : i ≤ length s

pub admit_holds : (s : List ℕ) → MatchResult (admit_text s) (λ _. Admitted s) (Inside (length s))
unfolding admit_text admit_utf8 utf8_of
admit_holds s =
    either (leb (length s) 4096) (λ t. simp t (go (walk 0 0 s) refl (leb-true (length s) 4096 t))) (λ t. simp t (bare_inside (length s) R.TextTooLong))
  where
    go : (u : Result (Unit {0}) Place) → walk 0 0 s ≡ u → length s ≤ 4096 → MatchResult (admit_utf8 u) (λ _. Admitted s) (Inside (length s))
    go (Ok tt) w l = record { small = l; utf8 = w }
    go (Err p) w l = record { ordered = omega arith; ends = omega (arith, ill_inside 0 0 s p w) }

place_inside : (s : List ℕ) (i : ℕ) → utf8_of s ≡ Ok tt → on_character s i ≡ true → i ≤ length s
place_inside s i u q =
    ⊎_elim (λ (l : length s ≤ i). omega (arith, eqb-true i (length s) (sym (on_last s i u l) ∙ q)))
    (λ (l : i < length s). omega arith)
    (le_or_lt (length s) i)

pub place_holds : (s : List ℕ) (i : ℕ) → MatchResult (admit_place s i) (λ _. Placed s i) (Inside (length s))
unfolding admit_place
place_holds s i =
    bind_holds (λ _. Admitted s) (λ _. Placed s i) (Inside (length s)) (admit_text s) _ (admit_holds s)
    (λ _ a. either (on_character s i)
    (λ t. let p : Placed s i = record { text = a; inside = place_inside s i a.utf8 t } in simp t p)
    (λ t. simp t (bare_inside (length s) R.BadListPlace)))

-- the same for `grind`
pub admitted_small : (s : List ℕ) → admit_text s ≡ Ok tt → length s ≤ 4096
admitted_small s e = (at_ok (λ _. Admitted s) (Inside (length s)) (admit_text s) tt (admit_holds s) e).small

pub admitted_utf8 : (s : List ℕ) → admit_text s ≡ Ok tt → utf8_of s ≡ Ok tt
admitted_utf8 s e = (at_ok (λ _. Admitted s) (Inside (length s)) (admit_text s) tt (admit_holds s) e).utf8

pub placed_small : (s : List ℕ) (i : ℕ) → admit_place s i ≡ Ok tt → (admit_place s i ≡ Ok tt) × (length s ≤ 4096)
placed_small s i e = (e, (at_ok (λ _. Placed s i) (Inside (length s)) (admit_place s i) tt (place_holds s i) e).text.small)

pub placed_utf8 : (s : List ℕ) (i : ℕ) → admit_place s i ≡ Ok tt → (admit_place s i ≡ Ok tt) × (utf8_of s ≡ Ok tt)
placed_utf8 s i e = (e, (at_ok (λ _. Placed s i) (Inside (length s)) (admit_place s i) tt (place_holds s i) e).text.utf8)

-- a fault's refusal lies where the fault does
pub refusal_inside : (s : List ℕ) {n : ℕ} {f : Fault} → Lies n f → Inside n (refusal_of s f)
unfolding refusal_of
refusal_inside s h = record { ordered = h.ordered; ends = h.inside }

-- so at the edge, what holds of what was read holds still
pub edge_holds : {A : Type 0} (P : A → Type 0) (s : List ℕ) (r : Result A Fault) → MatchResult r P (Lies (length s)) → MatchResult (at_edge s r) P (Inside (length s))
edge_holds P s (Ok a) v = v
edge_holds P s (Err e) v = refusal_inside s v

-- 4 and 5 tell nothing but an empty stretch
pub refusal_empty : (s : List ℕ) {n : ℕ} {f : Fault} → Lies n f → number_of f.trouble ≤ 5 → refusal_of s f ≡ empty_refusal (R.Unread f.trouble) f.from.0
unfolding refusal_of
refusal_empty s {n} {f} h l =
    let e : leb (number_of f.trouble) 5 ≡ true = le-leb (number_of f.trouble) 5 l in
    simp (e, h.empty e)

-- a number outside the domain is exactly 10, 23 or 24
pub outside_is : (f : Fault) → is_outside_domain f ≡ (let n = number_of f.trouble in eqb n 10 || (eqb n 23 || eqb n 24))
unfolding is_outside_domain
outside_is f = refl

-- no fault has a number of 1 to 3
pub past_three : (t : Trouble) → leb (number_of t) 3 ≡ false
unfolding number_of
past_three T.UnexpectedEndOfStream = refl
past_three t = refl

-- shift: the same fault behind a UTF-8 text
pub refusal_shift : (a b : List ℕ) (f : Fault) → utf8_of a ≡ Ok tt → refusal_of (a ++ b) (move_fault (length a) f) ≡ move_refusal (length a) (characters a) (refusal_of b f)
unfolding refusal_of reason_number
refusal_shift a b f u =
    let p = position_shift a b u f.at.0 in
    let g : leb (number_of f.trouble) 3 ≡ false = past_three f.trouble in
    either (leb (number_of f.trouble) 5) (λ e. simp (g, e)) (λ e. simp (g, e, p))

-- what is answered at the edge was read
pub edge_ok : {A : Type 0} (s : List ℕ) (r : Result A Fault) {a : A} → at_edge s r ≡ Ok a → r ≡ Ok a
edge_ok s (Ok b) {a} e = let z : b ≡ a = cc in rw z refl
edge_ok s (Err x) e = let z : ◌≡◌ {A = ℕ} 0 1 = cc in absurd (omega arith)

-- and the text was admitted, so that it is short
pub edge_read : {A B : Type 0} (s : List ℕ) (r : Result A Fault) (f : A → Result B Refusal) {b : B} → (admit_text s >>= (λ _. at_edge s r >>= f)) ≡ Ok b
    → (length s ≤ 4096) × ((a : A) × ((r ≡ Ok a) × (f a ≡ Ok b)))
edge_read s r f e =
    let v = bind_ok (admit_text s) _ e in
    let w = bind_ok (at_edge s r) f v.1.1 in
    ((at_ok (λ _. Admitted s) (Inside (length s)) (admit_text s) v.0 (admit_holds s) v.1.0).small, (w.0, (edge_ok s r w.1.0, w.1.1)))

pub edge_whole : {A : Type 0} (s : List ℕ) (r : Result A Fault) {a : A} → (admit_text s >>= (λ _. at_edge s r)) ≡ Ok a → (length s ≤ 4096) × (r ≡ Ok a)
edge_whole s r e =
    let v = bind_ok (admit_text s) _ e in
    ((at_ok (λ _. Admitted s) (Inside (length s)) (admit_text s) v.0 (admit_holds s) v.1.0).small, edge_ok s r v.1.1)
