-- What is answered as a length or as an angle is one of SVG 2, after white space, and nothing else.
use Prim.Native.Nat.{ℕ, ◌+◌, ◌≤◌}
use mathlib.Core.Bool.{Bool, true, false, cond}
use mathlib.Core.List.{List, ◌++◌, append-nil}
use mathlib.Core.Path.{◌≡◌, refl, sym, ap, ◌∙◌}
use native.Mathlib.Nat.{add-zero}
use native.Mathlib.Omega.{arith}
use borrow.Author.Tests.{ltb-false}
use lib.Dec.{T, ltb}
use lib.ListN.{length, drop, drop_of_length-le}
use lib.Seq.{drop-drop}
use Rattle.text_bytes.specs.Moves.{place}
use Rattle.text_bytes.specs.Words.{ascii, starts_with}
use Rattle.text_bytes.specs.declared.Place.{Place}
use Rattle.text_bytes.proofs.Ranges.{either}
use Rattle.text_bytes.proofs.Wording.{begins_with}
use Rattle.stream.specs.declared.Read.{Read}
use Rattle.stream.proofs.Binds.{bind_known, at_ok, bind_ok}
use Rattle.stream.proofs.Edges.{edge_whole}
use Rattle.std.specs.Prelude.{Result, Ok, Err, Option, Some, None, MatchResult, MatchOption}
use Rattle.numbers.specs.Number.{parse_number}
use Rattle.numbers.specs.Moves as Numbers
use Rattle.numbers.specs.declared.Written.{Written}
use Rattle.length.specs.Lengths as Lengths
use Rattle.length.specs.Lengths.{unit_at, unit_width, parse_length}
use Rattle.length.specs.declared.Length.{Length}
use Rattle.length.specs.declared.LengthUnit.{LengthUnit}
use Rattle.length.specs.declared.LengthUnit.TheVariants as U
use Rattle.angle.specs.Angles as Angles
use Rattle.angle.specs.Angles.{parse_unit, or_degrees, parse_angle}
use Rattle.angle.specs.declared.Angle.{Angle}
use Rattle.angle.specs.declared.AngleUnit.{AngleUnit}
use Rattle.angle.specs.declared.AngleUnit.TheVariants as W
use Rattle.standards.specs.CssValues3.{Blank, blanks, Number, number}
use Rattle.standards.specs.CssValues3 as Css
use Rattle.standards.specs.Domain.{InDomain}
use Rattle.standards.specs.Svg2 as S
use Rattle.standards.specs.Svg2.{length_unit, length_text, angle_unit, angle_text}
use Rattle.standards.proofs.Cursors.{spaced_past}
use Rattle.only.specs.Only.{NumberThere, limit}
use Rattle.only.proofs.Numbers.{number_there}

-- a number and a unit that is read up to q, where the text has ended, are the whole text
whole_text : (s : List ℕ) (n : Numbers.Number) (p : Place) (t : NumberThere s 0 n p) (u : List ℕ) (q : ℕ) → drop p.0 s ≡ u ++ drop q s → length s ≤ q
    → s ≡ blanks t.before ++ (number t.tree ++ u)
whole_text s n p t u q h e =
    let z : t.rest ≡ u = sym (spaced_past s 0 t.before (number t.tree) t.rest t.text) ∙ rw (ap (λ (k : Place). k.0) t.after, drop_of_length-le s {i = q} e, append-nil) at h in
    t.text ∙ rw z refl

-- the unit of a length
record UnitThere (s : List ℕ) (i : ℕ) : Type 0 where
  tree : S.LengthUnit
  text : drop i s ≡ length_unit tree ++ drop (i + unit_width (unit_at s i)) s

module _ (s : List ℕ) (i : ℕ) where
  tried : (w : List ℕ) (t : S.LengthUnit) (u : LengthUnit) → length_unit t ≡ w → unit_width u ≡ length w → starts_with w (drop i s) ≡ true → unit_at s i ≡ u → UnitThere s i
  tried w t u e k b a = record { tree = t; text = rw (e, a, k) (begins_with w (drop i s) b ∙ ap (λ (y : List ℕ). w ++ y) (drop-drop (length w) i s)) }

  unit_there : UnitThere s i
  unfolding unit_at unit_width length_unit Css.length_unit
  unit_there =
      either (starts_with (ascii "%") (drop i s)) (λ x. tried (ascii "%") S.percent U.Percent refl refl x (simp x))
      (λ a. either (starts_with (ascii "em") (drop i s)) (λ x. tried (ascii "em") (S.unit Css.em) U.Em refl refl x (simp (a, x)))
      (λ b. either (starts_with (ascii "ex") (drop i s)) (λ x. tried (ascii "ex") (S.unit Css.ex) U.Ex refl refl x (simp (a, b, x)))
      (λ c. either (starts_with (ascii "px") (drop i s)) (λ x. tried (ascii "px") (S.unit Css.px) U.Px refl refl x (simp (a, b, c, x)))
      (λ d. either (starts_with (ascii "in") (drop i s)) (λ x. tried (ascii "in") (S.unit Css.inch) U.In refl refl x (simp (a, b, c, d, x)))
      (λ e. either (starts_with (ascii "cm") (drop i s)) (λ x. tried (ascii "cm") (S.unit Css.cm) U.Cm refl refl x (simp (a, b, c, d, e, x)))
      (λ f. either (starts_with (ascii "mm") (drop i s)) (λ x. tried (ascii "mm") (S.unit Css.mm) U.Mm refl refl x (simp (a, b, c, d, e, f, x)))
      (λ g. either (starts_with (ascii "pt") (drop i s)) (λ x. tried (ascii "pt") (S.unit Css.pt) U.Pt refl refl x (simp (a, b, c, d, e, f, g, x)))
      (λ h. either (starts_with (ascii "pc") (drop i s)) (λ x. tried (ascii "pc") (S.unit Css.pc) U.Pc refl refl x (simp (a, b, c, d, e, f, g, h, x)))
      (λ k. record { tree = S.unitless; text = simp (a, b, c, d, e, f, g, h, k, add-zero) })))))))))

-- a whole text of white space and a tree
pub record Shape {Tree : Type 0} (written : Tree → List ℕ) (numbered : Tree → Number) (s : List ℕ) : Type 0 where
  pub before : List Blank
  pub tree : Tree
  pub text : s ≡ blanks before ++ written tree
  pub domain : InDomain (numbered tree)
  pub short : length s ≤ limit

abbrev pub LengthShape : List ℕ → Type 0
LengthShape s = Shape length_text (λ t. t.number_part) s

abbrev pub AngleShape : List ℕ → Type 0
AngleShape s = Shape angle_text (λ t. t.number_part) s

-- a tree after which reading goes on at q: if the text has ended there, it is all of it
record Front {Tree : Type 0} (written : Tree → List ℕ) (numbered : Tree → Number) (s : List ℕ) (q : Place) : Type 0 where
  before : List Blank
  tree : Tree
  domain : InDomain (numbered tree)
  text : length s ≤ q.0 → s ≡ blanks before ++ written tree

ended : {Tree : Type 0} {written : Tree → List ℕ} {numbered : Tree → Number} (s : List ℕ) (q : Place) → Front written numbered s q → length s ≤ q.0 → length s ≤ limit → Shape written numbered s
ended s q f e short = record { before = f.before; tree = f.tree; text = f.text e; domain = f.domain; short = short }

abbrev LengthFront : List ℕ → Place → Type 0
LengthFront s q = Front length_text (λ t. t.number_part) s q

abbrev AngleFront : List ℕ → Place → Type 0
AngleFront s q = Front angle_text (λ t. t.number_part) s q

length_front : (s : List ℕ) → MatchResult (parse_length s 0) (λ r. LengthFront s r.next) (λ _. T true)
unfolding parse_length length_text
length_front s =
    bind_known (λ r. LengthFront s r.next) (λ _. T true) (parse_number s 0) _ (λ x e. tt)
    (λ r e.
    let t = number_there s 0 r.value r.next e in
    let u = unit_there s r.next.0 in
    record {
      before = t.before;
      tree = record { number_part = t.tree; unit_part = u.tree };
      domain = t.domain;
      text = λ h. whole_text s r.value r.next t (length_unit u.tree) _ u.text h;
    })

pub same_value : {A E : Type 0} {a b : A} → ◌≡◌ {A = Result A E} (Ok a) (Ok b) → a ≡ b
same_value e = cc

-- what is refused where bytes remain was answered at the end alone
pub at_end : {A E : Type 0} (t : Bool) (x : E) (y : Result A E) {a : A} → cond t (Err x) y ≡ Ok a → t ≡ false
at_end true x y e = let z : ◌≡◌ {A = ℕ} 0 1 = cc in absurd (omega arith)
at_end false x y e = refl

-- a text that is answered as a length is one
pub length_shape : (s : List ℕ) (v : Written Length) → Lengths.from_str s ≡ Ok v → LengthShape s
unfolding Lengths.from_str Lengths.parse_whole
length_shape s v e =
    let w = edge_whole s (Lengths.parse_whole s) e in
    let k = bind_ok (parse_length s 0) _ w.1 in
    let f = at_ok (λ r. LengthFront s r.next) (λ _. T true) (parse_length s 0) k.0 (length_front s) k.1.0 in
    ended s k.0.next f (ltb-false k.0.next.0 (length s) (at_end (ltb k.0.next.0 (length s)) _ _ k.1.1)) w.0

-- the unit of an angle, after which reading goes on at q
record AngleUnitThere (s : List ℕ) (i : ℕ) (q : Place) : Type 0 where
  tree : S.AngleUnit
  text : drop i s ≡ angle_unit tree ++ drop q.0 s

module _ (s : List ℕ) (i : ℕ) where
  abbrev Units : Option (Read AngleUnit) → Type 0
  Units x = MatchOption x (T true) (λ u. AngleUnitThere s i u.next)

  unit_tried : (w : List ℕ) (t : Css.AngleUnit) (u : AngleUnit) (y : Option (Read AngleUnit)) → Css.angle_unit t ≡ w → Units y
      → Units (cond (starts_with w (drop i s)) (Some (record { value = u; next = place (i + length w) })) y)
  unfolding angle_unit
  unit_tried w t u y e h =
      either (starts_with w (drop i s))
      (λ b. simp b (record { tree = S.marked t; text = rw e (begins_with w (drop i s) b ∙ ap (λ (z : List ℕ). w ++ z) (drop-drop (length w) i s)) }))
      (λ b. simp b h)

  angle_units : Units (parse_unit s i)
  unfolding parse_unit Css.angle_unit
  angle_units =
      unit_tried (ascii "deg") Css.deg W.Degrees _ refl
      (unit_tried (ascii "grad") Css.grad W.Gradians _ refl (unit_tried (ascii "rad") Css.rad W.Radians _ refl (unit_tried (ascii "turn") Css.turn W.Turns _ refl tt)))

-- or of none
unit_after : (s : List ℕ) (p : Place) (x : Option (Read AngleUnit)) → Units s p.0 x → AngleUnitThere s p.0 (or_degrees p x).next
unfolding angle_unit
unit_after s p None v = record { tree = S.unmarked; text = refl }
unit_after s p (Some u) v = v

angle_fronts : (s : List ℕ) (n : Numbers.Number) (p q : Place) → NumberThere s 0 n p → AngleUnitThere s p.0 q → AngleFront s q
unfolding angle_text
angle_fronts s n p q t u =
    record {
      before = t.before;
      tree = record { number_part = t.tree; unit_part = u.tree };
      domain = t.domain;
      text = λ h. whole_text s n p t (angle_unit u.tree) q.0 u.text h;
    }

angle_front : (s : List ℕ) → MatchResult (parse_angle s 0) (λ r. AngleFront s r.next) (λ _. T true)
unfolding parse_angle
angle_front s =
    bind_known (λ r. AngleFront s r.next) (λ _. T true) (parse_number s 0) _ (λ x e. tt)
    (λ r e. angle_fronts s r.value r.next _ (number_there s 0 r.value r.next e) (unit_after s r.next (parse_unit s r.next.0) (angle_units s r.next.0)))

-- a text that is answered as an angle is one
pub angle_shape : (s : List ℕ) (v : Written Angle) → Angles.from_str s ≡ Ok v → AngleShape s
unfolding Angles.from_str Angles.parse_whole
angle_shape s v e =
    let w = edge_whole s (Angles.parse_whole s) e in
    let k = bind_ok (parse_angle s 0) _ w.1 in
    let f = at_ok (λ r. AngleFront s r.next) (λ _. T true) (parse_angle s 0) k.0 (angle_front s) k.1.0 in
    ended s k.0.next f (ltb-false k.0.next.0 (length s) (at_end (ltb k.0.next.0 (length s)) _ _ k.1.1)) w.0
