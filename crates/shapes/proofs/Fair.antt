-- What an atom does with a byte: it hands on only where it may end; it stays of its kind, and can come to its end; and which bytes it never takes.
use Prim.Native.Nat.{ℕ, ◌≤◌, ◌<◌}
use mathlib.Core.Bool.{Bool, true, false, not, ◌&&◌}
use mathlib.Core.Path.{◌≡◌, refl, sym, ◌∙◌}
use native.Mathlib.Omega.{arith}
use borrow.Author.Tests.{ne_eqb, eqb-true}
use lib.Dec.{eqb, ltb}
use Rattle.std.specs.Prelude.{Ok, Err}
use Rattle.text_bytes.specs.Bytes.{within, is_sign, is_digit, is_hex_digit, is_space, is_upper}
use Rattle.text_bytes.specs.Words.{lower_of}
use Rattle.text_bytes.proofs.Ranges.{either, within_ge, within_le}
use Rattle.numbers.specs.Digits.{cap}
use Rattle.shapes.specs.Walk.{push, signed, digits, dot, fraction, act, ends}
use Rattle.shapes.specs.declared.Atom.{Atom}
use Rattle.shapes.specs.declared.Atom.TheVariants as A
use Rattle.shapes.specs.declared.Act.{Act}
use Rattle.shapes.specs.declared.Act.TheVariants as D

-- runs of spaces, one byte, numbers
pub data Kind : Type 0 where
  blank : Kind
  single : Kind
  numeric : Kind

abbrev pub kind : Atom → Kind
kind A.Spaces = blank
kind A.Hex = single
kind (A.Byte c) = single
kind (A.Number d) = numeric
kind (A.Signed d) = numeric
kind (A.Digits d m) = numeric
kind (A.Dot m) = numeric
kind (A.Fraction m k) = numeric

pub never : {C : Type 0} → false ≡ true → C
never e = absurd (let z : ◌≡◌ {A = ℕ} 0 1 = cc in omega arith)

-- an answer is a value or a refusal
pub never_ok : {A E C : Type 0} {e : E} {a : A} → Err e ≡ Ok a → C
never_ok q = absurd (let z : ◌≡◌ {A = ℕ} 0 1 = cc in omega arith)

-- an atom that can come to its end: after a dot a 0 can follow, and a byte is its own small letter
unfoldable pub able : Atom → Bool
able A.Spaces = true
able A.Hex = true
able (A.Byte c) = eqb (lower_of c) c
able (A.Number d) = true
able (A.Signed d) = true
able (A.Digits d m) = true
able (A.Dot m) = ltb (push m 48) cap
able (A.Fraction m k) = true

fair : Atom → Act → Type 0
fair a D.Pass = ends a ≡ true
fair a (D.Stay x) = (kind x ≡ kind a) × (able x ≡ true)
fair a D.Next = kind a ≡ single
fair a D.Lost = Unit

signed_fair : (a : Atom) → kind a ≡ numeric → (d : Bool) (b : ℕ) → fair a (signed d b)
unfolding fair signed able
signed_fair a q d b = either (is_digit b) (λ e. rw e (sym q, refl)) (λ e. rw e (either (d && eqb b 46) (λ f. rw f (sym q, refl)) (λ f. rw f tt)))

act_fair : (a : Atom) (b : ℕ) → fair a (act a b)
unfolding fair act ends able digits dot fraction
act_fair A.Spaces b = either (is_space b) (λ e. rw e (refl, refl)) (λ e. rw e refl)
act_fair A.Hex b = either (is_hex_digit b) (λ e. rw e refl) (λ e. rw e tt)
act_fair (A.Byte c) b = either (eqb (lower_of b) c) (λ e. rw e refl) (λ e. rw e tt)
act_fair (A.Number d) b = either (is_sign b) (λ e. rw e (refl, refl)) (λ e. rw e (signed_fair (A.Number d) refl d b))
act_fair (A.Signed d) b = signed_fair (A.Signed d) refl d b
act_fair (A.Digits d m) b =
    either (is_digit b) (λ e. rw e (either (ltb (push m b) cap) (λ f. rw f (refl, refl)) (λ f. rw f tt)))
    (λ e. rw e (either (d && eqb b 46) (λ f. rw f (either (ltb (push m 48) cap) (λ g. rw g (refl, g)) (λ g. rw g tt))) (λ f. rw f refl)))
act_fair (A.Dot m) b = either (is_digit b) (λ e. rw e (either (ltb (push m b) cap) (λ f. rw f (refl, refl)) (λ f. rw f tt))) (λ e. rw e tt)
act_fair (A.Fraction m k) b =
    either (is_digit b) (λ e. rw e (either (ltb k 22) (λ f. rw f (either (ltb (push m b) cap) (λ g. rw g (refl, refl)) (λ g. rw g tt))) (λ f. rw f tt)))
    (λ e. rw e refl)

module _ (a : Atom) (b : ℕ) where
  pub pass_ends : act a b ≡ D.Pass → ends a ≡ true
  unfolding fair
  pass_ends e = rw e at (act_fair a b)

  pub next_single : act a b ≡ D.Next → kind a ≡ single
  unfolding fair
  next_single e = rw e at (act_fair a b)

  module _ (x : Atom) (e : act a b ≡ D.Stay x) where
    stay_fair : (kind x ≡ kind a) × (able x ≡ true)
    unfolding fair
    stay_fair = rw e at (act_fair a b)

    pub stay_kind : kind x ≡ kind a
    stay_kind = stay_fair.0

    pub stay_able : able x ≡ true
    stay_able = stay_fair.1

-- a byte with which an atom of the kind does not go on
unfoldable pub follows : Kind → ℕ → Bool
follows blank b = not (is_space b)
follows single b = true
follows numeric b = not (is_digit b) && not (eqb b 46)

-- it is handed on, where the atom may end
pub hands_on : (a : Atom) (b : ℕ) → ends a ≡ true → follows (kind a) b ≡ true → act a b ≡ D.Pass
unfolding follows act ends digits fraction
hands_on A.Spaces b e f = either (is_space b) (λ g. never (rw g at f)) (λ g. simp g)
hands_on A.Hex b e f = never e
hands_on (A.Byte c) b e f = never e
hands_on (A.Number d) b e f = never e
hands_on (A.Signed d) b e f = never e
hands_on (A.Digits d m) b e f = either (is_digit b) (λ g. never (rw g at f)) (λ g. either (eqb b 46) (λ h. never (rw (g, h) at f)) (λ h. simp (g, h, and_no)))
  where
    and_no : d && false ≡ false
    and_no = either d (λ q. simp q) (λ q. simp q)
hands_on (A.Dot m) b e f = never e
hands_on (A.Fraction m k) b e f = either (is_digit b) (λ g. never (rw g at f)) (λ g. simp g)

-- An atom of a shape, none of whose first bytes is one with which the kind goes on
unfoldable pub clear : Kind → Atom → Bool
clear single x = true
clear blank A.Spaces = false
clear blank A.Hex = true
clear blank (A.Byte c) = follows blank c
clear blank (A.Number d) = true
clear blank (A.Signed d) = false
clear blank (A.Digits d m) = false
clear blank (A.Dot m) = false
clear blank (A.Fraction m k) = false
clear numeric A.Spaces = true
clear numeric A.Hex = false
clear numeric (A.Byte c) = follows numeric c
clear numeric (A.Number d) = false
clear numeric (A.Signed d) = false
clear numeric (A.Digits d m) = false
clear numeric (A.Dot m) = false
clear numeric (A.Fraction m k) = false

abbrev pub taken : Act → Bool
taken D.Pass = false
taken (D.Stay x) = true
taken D.Next = true
taken D.Lost = false

single_follows : (b : ℕ) → follows single b ≡ true
unfolding follows
single_follows b = refl

above : (b : ℕ) → 32 < b → follows blank b ≡ true
unfolding follows
above b h = simp (ne_eqb b 32 (λ e. omega arith), ne_eqb b 9 (λ e. omega arith), ne_eqb b 10 (λ e. omega arith), ne_eqb b 13 (λ e. omega arith))

beside : (b : ℕ) → (is_digit b ≡ true → ⊥) → (b ≡ 46 → ⊥) → follows numeric b ≡ true
unfolding follows
beside b h k = either (is_digit b) (λ e. absurd (h e)) (λ e. simp (e, ne_eqb b 46 k))

digit_from : (lo hi b : ℕ) → within lo hi b ≡ true → (lo ≤ b) × (b ≤ hi)
digit_from lo hi b e = (within_ge lo hi b (sym e), within_le lo hi b (sym e))

-- a capital is of no kind's bytes, and any other byte is its own small letter
lower_clear : (k : Kind) (b c : ℕ) → lower_of b ≡ c → follows k c ≡ true → follows k b ≡ true
unfolding lower_of
lower_clear k b c e f = either (is_upper b) (λ u. capital k (digit_from 65 90 b u)) (λ u. let q : b ≡ c = rw u at e in rw q f)
  where
    capital : (k : Kind) → (65 ≤ b) × (b ≤ 90) → follows k b ≡ true
    capital blank h = above b (omega arith)
    capital single h = single_follows b
    capital numeric h = beside b (λ e. let d : (48 ≤ b) × (b ≤ 57) = digit_from 48 57 b e in omega arith) (λ e. omega arith)

pub first_clear : (k : Kind) (x : Atom) (b : ℕ) → taken (act x b) ≡ true → clear k x ≡ true → follows k b ≡ true
unfolding clear act signed
first_clear single x b t c = single_follows b
first_clear blank A.Spaces b t c = never c
first_clear blank A.Hex b t c = hex (is_hex_digit b) refl (either (is_hex_digit b) (λ e. e) (λ e. never (rw e at t)))
  where
    hex : (u : Bool) → is_hex_digit b ≡ u → u ≡ true → follows blank b ≡ true
    hex u q e =
        either (within 48 57 b) (λ d. let h : (48 ≤ b) × (b ≤ 57) = digit_from 48 57 b d in above b (omega arith))
        (λ d. either (within 65 70 b) (λ f. let h : (65 ≤ b) × (b ≤ 70) = digit_from 65 70 b f in above b (omega arith))
        (λ f. either (within 97 102 b) (λ g. let h : (97 ≤ b) × (b ≤ 102) = digit_from 97 102 b g in above b (omega arith))
        (λ g. never (simp (d, f, g) at (q ∙ e)))))
first_clear blank (A.Byte c) b t e = either (eqb (lower_of b) c) (λ q. lower_clear blank b c (eqb-true (lower_of b) c q) e) (λ q. never (rw q at t))
first_clear blank (A.Number d) b t c =
    either (is_sign b) (λ e. either (eqb b 43) (λ f. let h : b ≡ 43 = eqb-true b 43 f in above b (omega arith))
    (λ f. either (eqb b 45) (λ g. let h : b ≡ 45 = eqb-true b 45 g in above b (omega arith)) (λ g. never (simp (f, g) at e))))
    (λ e. either (is_digit b) (λ f. let h : (48 ≤ b) × (b ≤ 57) = digit_from 48 57 b f in above b (omega arith))
    (λ f. either (eqb b 46) (λ g. let h : b ≡ 46 = eqb-true b 46 g in above b (omega arith)) (λ g. never (simp (e, f, g, and_no) at t))))
  where
    and_no : d && false ≡ false
    and_no = either d (λ q. simp q) (λ q. simp q)
first_clear blank (A.Signed d) b t c = never c
first_clear blank (A.Digits d m) b t c = never c
first_clear blank (A.Dot m) b t c = never c
first_clear blank (A.Fraction m k) b t c = never c
first_clear numeric A.Spaces b t c =
    either (is_space b) (λ e. beside b (λ f. let h : (48 ≤ b) × (b ≤ 57) = digit_from 48 57 b f in never (spaced h e)) (λ f. never (simp f at e))) (λ e. never (rw e at t))
  where
    spaced : (48 ≤ b) × (b ≤ 57) → is_space b ≡ true → false ≡ true
    spaced h e = simp (ne_eqb b 32 (λ e. omega arith), ne_eqb b 9 (λ e. omega arith), ne_eqb b 10 (λ e. omega arith), ne_eqb b 13 (λ e. omega arith)) at e
first_clear numeric A.Hex b t c = never c
first_clear numeric (A.Byte c) b t e = either (eqb (lower_of b) c) (λ q. lower_clear numeric b c (eqb-true (lower_of b) c q) e) (λ q. never (rw q at t))
first_clear numeric (A.Number d) b t c = never c
first_clear numeric (A.Signed d) b t c = never c
first_clear numeric (A.Digits d m) b t c = never c
first_clear numeric (A.Dot m) b t c = never c
first_clear numeric (A.Fraction m k) b t c = never c
