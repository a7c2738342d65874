-- A shape spells the texts of a tree: each tree's text has the shape's parts, and each text with them is a tree's. Shapes are put together, and trees with them.
use Prim.Native.Nat.{ℕ, ◌+◌, ◌-◌, ◌<◌}
use mathlib.Core.Bool.{true, false}
use mathlib.Core.List.{List, [], ◌∷◌, ◌++◌, append-nil, append_assoc}
use mathlib.Core.Path.{◌≡◌, refl, sym, ◌∙◌}
use native.Mathlib.Omega.{arith}
use borrow.Author.Tests.{eqb-true, eq-eqb}
use lib.Dec.{eqb}
use Rattle.text_bytes.specs.Bytes.{is_upper, is_lower}
use Rattle.text_bytes.specs.Words.{lower_of}
use Rattle.text_bytes.proofs.Ranges.{and_first, and_second}
use Rattle.text_bytes.proofs.Ranges.{either, within_ge, within_low}
use Rattle.shapes.specs.Walk.{act, ends}
use Rattle.strict.specs.Shapes.{word, around}
use Rattle.shapes.specs.declared.Atom.{Atom}
use Rattle.shapes.specs.declared.Atom.TheVariants as A
use Rattle.shapes.specs.declared.Act.TheVariants as D
use Rattle.shapes.proofs.Fair.{never}
use Rattle.shapes.proofs.Parts.{Takes, stop, last, more, Parts}
use Rattle.standards.specs.CssValues3.{Blank, blanks}
use Rattle.standards.specs.CssColor3.{Spelling, done, small, capital, spelling, Spaced, spaced}
use Rattle.standards.proofs.Runs.{every}
use Rattle.standards.proofs.Spellings.{lower_small, lower_capital}
use Rattle.strict_trees.proofs.Takings.{blanks_take, take_blanks}

glue : {s a b c d : List ℕ} → s ≡ a ++ b → a ≡ c → b ≡ d → s ≡ c ++ d
glue e f g = rw (← f, ← g) e

pub record Spells (xs : List Atom) (A : Type 0) (text : A → List ℕ) : Type 0 where
  pub to : (a : A) → Parts xs (text a)
  pub from : (s : List ℕ) → Parts xs s → (a : A) × (s ≡ text a)

-- one atom
pub atom : {A : Type 0} (a : Atom) (text : A → List ℕ) → ((x : A) → Takes a (text x)) → ((l : List ℕ) → Takes a l → (x : A) × (l ≡ text x)) → Spells (a ∷ []) A text
atom {A} a text f g =
    record {
      to = λ x. record { first = text x; rest = []; is = sym (append-nil (text x)); takes = f x; others = refl };
      from = λ s p. let r : (x : A) × (p.first ≡ text x) = g p.first p.takes in
          let q : s ≡ p.first = p.is ∙ rw p.others (append-nil p.first) in (r.0, q ∙ r.1);
    }

-- shapes one after the other
record Split (xs ys : List Atom) (s : List ℕ) : Type 0 where
  before : List ℕ
  after : List ℕ
  is : s ≡ before ++ after
  here : Parts xs before
  there : Parts ys after

join : (xs ys : List Atom) (a b : List ℕ) → Parts xs a → Parts ys b → Parts (xs ++ ys) (a ++ b)
join [] ys a b p q = rw p q
join (x ∷ xs) ys a b p q =
    record {
      first = p.first;
      rest = p.rest ++ b;
      is = rw p.is (append_assoc p.first p.rest b);
      takes = p.takes;
      others = join xs ys p.rest b p.others q;
    }

split : (xs ys : List Atom) (s : List ℕ) → Parts (xs ++ ys) s → Split xs ys s
split [] ys s p = record { before = []; after = s; is = refl; here = refl; there = p }
split (x ∷ xs) ys s p =
    let r : Split xs ys p.rest = split xs ys p.rest p.others in
    record {
      before = p.first ++ r.before;
      after = r.after;
      is = glue {a = p.first} p.is refl r.is ∙ sym (append_assoc p.first r.before r.after);
      here = record { first = p.first; rest = r.before; is = refl; takes = p.takes; others = r.here };
      there = r.there;
    }

pub both : {xs ys : List Atom} {A B : Type 0} {f : A → List ℕ} {g : B → List ℕ} → Spells xs A f → Spells ys B g → Spells (xs ++ ys) (A × B) (λ p. f p.0 ++ g p.1)
both {xs} {ys} {A} {B} {f} {g} u v =
    record {
      to = λ p. join xs ys (f p.0) (g p.1) (u.to p.0) (v.to p.1);
      from = λ s p. let r : Split xs ys s = split xs ys s p in
          let a : (x : A) × (r.before ≡ f x) = u.from r.before r.here in
          let b : (y : B) × (r.after ≡ g y) = v.from r.after r.there in
          ((a.0, b.0), glue r.is a.1 b.1);
    }

-- the same texts, of other trees
pub change : {xs : List Atom} {A B : Type 0} {f : A → List ℕ} (g : B → List ℕ) → Spells xs A f → (h : B → A) → ((b : B) → f (h b) ≡ g b) → (k : A → B) → ((a : A) → g (k a) ≡ f a) → Spells xs B g
change {xs} {A} {f} g u h e k d =
    record {
      to = λ b. rw (e b) at (u.to (h b));
      from = λ s p. let r : (a : A) × (s ≡ f a) = u.from s p in (k r.0, r.1 ∙ sym (d r.0));
    }

-- white space, and what stands in it
pub spaces : Spells (A.Spaces ∷ []) (List Blank) blanks
spaces = atom A.Spaces blanks blanks_take take_blanks

pub about : {xs : List Atom} {X : Type 0} (text : X → List ℕ) → Spells xs X text → Spells (around xs) (Spaced X) (spaced text)
unfolding spaced
about {X} text u =
    change (spaced text) (both spaces (both u spaces)) (λ (v : Spaced X). (v.before, (v.value, v.after))) (λ v. refl)
    (λ p. record { before = p.0; value = p.1.0; after = p.1.1 }) (λ p. refl)

pub in_spaces : {xs : List Atom} {X : Type 0} {P : X → Type 0} (text : X → List ℕ) → Spells xs ((x : X) × P x) (λ p. text p.0)
    → Spells (around xs) ((v : Spaced X) × P v.value) (λ p. spaced text p.0)
unfolding spaced
in_spaces {X} {P} text u =
    change (λ (p : (v : Spaced X) × P v.value). spaced text p.0) (about (λ (p : (x : X) × P x). text p.0) u)
    (λ p. record { before = p.0.before; value = (p.0.value, p.1); after = p.0.after }) (λ p. refl)
    (λ v. (record { before = v.before; value = v.value.0; after = v.after }, v.value.1)) (λ v. refl)

-- a byte that is no letter
byte_takes : (c : ℕ) → lower_of c ≡ c → Takes (A.Byte c) (c ∷ [])
unfolding act
byte_takes c e = let f : act (A.Byte c) c ≡ D.Next = simp (eq-eqb (lower_of c) c e) in last f

pub taken_byte : (c : ℕ) (l : List ℕ) → Takes (A.Byte c) l → (b : ℕ) × (l ≡ b ∷ []) × (lower_of b ≡ c)
unfolding act ends
taken_byte c [] (stop e) = never e
taken_byte c (b ∷ l) (last e) = (b, refl, eqb-true (lower_of b) c (either (eqb (lower_of b) c) (λ f. f) (λ f. never (let q : D.Lost ≡ D.Next = rw f at e in let z : false ≡ true = cc in z))))
taken_byte c (b ∷ l) (more {x} e t) =
    either (eqb (lower_of b) c) (λ f. never (let q : D.Next ≡ D.Stay x = rw f at e in let z : false ≡ true = cc in z))
    (λ f. never (let q : D.Lost ≡ D.Stay x = rw f at e in let z : false ≡ true = cc in z))

same_byte : (b c : ℕ) → c < 65 → lower_of b ≡ c → b ≡ c
unfolding lower_of
same_byte b c h e = either (is_upper b) (λ u. let q : b + 32 ≡ c = rw u at e in absurd (omega (arith, within_ge 65 90 b (sym u)))) (λ u. rw u at e)

low_byte : (c : ℕ) → c < 65 → lower_of c ≡ c
unfolding lower_of
low_byte c h = rw (← within_low 65 90 c h) refl

pub byte : (c : ℕ) → c < 65 → Spells (A.Byte c ∷ []) Unit (λ u. c ∷ [])
byte c h =
    atom (A.Byte c) (λ (u : Unit). c ∷ []) (λ u. byte_takes c (low_byte c h))
    (λ l t. let r : (b : ℕ) × (l ≡ b ∷ []) × (lower_of b ≡ c) = taken_byte c l t in (tt, r.1 ∙ rw (same_byte r.0 c h r.2) refl))

-- a name in letters of either case
name_parts : {n : List ℕ} (w : Spelling n) → every is_lower n ≡ true → Parts (word n) (spelling w)
unfolding spelling act
name_parts done e = refl
name_parts (small c {n} w) e =
    record { first = c ∷ []; rest = spelling w; is = refl; takes = byte_takes c (lower_small c (and_first (is_lower c) (every is_lower n) e)); others = name_parts w (and_second (is_lower c) (every is_lower n) e) }
name_parts (capital c {n} w) e =
    let f : act (A.Byte c) (c - 32) ≡ D.Next = simp (eq-eqb (lower_of (c - 32)) c (lower_capital c (and_first (is_lower c) (every is_lower n) e))) in
    record { first = (c - 32) ∷ []; rest = spelling w; is = refl; takes = last f; others = name_parts w (and_second (is_lower c) (every is_lower n) e) }

letter : {n : List ℕ} (b c : ℕ) → lower_of b ≡ c → (w : Spelling n) → (v : Spelling (c ∷ n)) × (spelling v ≡ b ∷ spelling w)
unfolding lower_of spelling
letter b c e w =
    either (is_upper b) (λ u. let q : b + 32 ≡ c = rw u at e in let z : c - 32 ≡ b = omega arith in (capital c w, rw z refl))
    (λ u. let q : b ≡ c = rw u at e in (small c w, rw q refl))

parts_name : (n : List ℕ) (s : List ℕ) → Parts (word n) s → (w : Spelling n) × (s ≡ spelling w)
unfolding spelling
parts_name [] s p = (done, p)
parts_name (c ∷ n) s p =
    let b : (b : ℕ) × (p.first ≡ b ∷ []) × (lower_of b ≡ c) = taken_byte c p.first p.takes in
    let w : (w : Spelling n) × (p.rest ≡ spelling w) = parts_name n p.rest p.others in
    let v : (v : Spelling (c ∷ n)) × (spelling v ≡ b.0 ∷ spelling w.0) = letter b.0 c b.2 w.0 in
    (v.0, glue p.is b.1 w.1 ∙ sym v.1)

pub name : (n : List ℕ) → every is_lower n ≡ true → Spells (word n) (Spelling n) spelling
name n e = record { to = λ w. name_parts w e; from = parts_name n }
