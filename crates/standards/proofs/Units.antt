-- The units of CSS Values 3, as the readers of lengths and angles read them, and numbers with none.
use Prim.Native.Nat.{ℕ, ◌+◌}
use mathlib.Core.Bool.{true, false}
use mathlib.Core.List.{List, [], ◌++◌}
use mathlib.Core.Path.{◌≡◌, refl, sym, ◌∙◌}
use native.Mathlib.Omega.{arith}
use borrow.Author.Tests.{ne_eqb}
use lib.Dec.{eqb}
use lib.ListN.{length, get_or, drop}
use Rattle.text_bytes.specs.Bytes.{within, is_lower}
use Rattle.text_bytes.specs.Moves.{place}
use Rattle.std.specs.Prelude.{Some, None}
use Rattle.text_bytes.specs.Words.{starts_with}
use Rattle.length.specs.Lengths.{unit_at, unit_width}
use Rattle.length.specs.declared.LengthUnit.TheVariants as U
use Rattle.angle.specs.Angles.{parse_unit}
use Rattle.filter_functions.specs.Values.{is_percent}
use Rattle.standards.specs.CssValues3.{LengthUnit, em, ex, px, inch, cm, mm, pt, pc, length_unit, AngleUnit, deg, grad, rad, turn, angle_unit}
use Rattle.standards.specs.Answers.{Ends, Stops, unit_named, angle_named}
use Rattle.standards.proofs.Runs.{Ascii}
use Rattle.standards.proofs.Cursors.{no_word}
use Rattle.standards.proofs.Reading.{ends_none}

-- a unit may follow a number
pub unit_ends : (u : LengthUnit) (rest : List ℕ) → Ends (length_unit u ++ rest)
unfolding length_unit within
unit_ends em rest = record { digit = refl; dot = refl; letter = refl }
unit_ends ex rest = record { digit = refl; dot = refl; letter = refl }
unit_ends px rest = record { digit = refl; dot = refl; letter = refl }
unit_ends inch rest = record { digit = refl; dot = refl; letter = refl }
unit_ends cm rest = record { digit = refl; dot = refl; letter = refl }
unit_ends mm rest = record { digit = refl; dot = refl; letter = refl }
unit_ends pt rest = record { digit = refl; dot = refl; letter = refl }
unit_ends pc rest = record { digit = refl; dot = refl; letter = refl }

pub angle_ends : (u : AngleUnit) (rest : List ℕ) → Ends (angle_unit u ++ rest)
unfolding angle_unit within
angle_ends deg rest = record { digit = refl; dot = refl; letter = refl }
angle_ends grad rest = record { digit = refl; dot = refl; letter = refl }
angle_ends rad rest = record { digit = refl; dot = refl; letter = refl }
angle_ends turn rest = record { digit = refl; dot = refl; letter = refl }

-- and is read
module _ (s : List ℕ) (i : ℕ) where
  pub unit_there : (u : LengthUnit) (rest : List ℕ) → drop i s ≡ length_unit u ++ rest → unit_at s i ≡ unit_named u
  unfolding unit_at unit_named length_unit starts_with
  unit_there em rest h = simp h
  unit_there ex rest h = simp h
  unit_there px rest h = simp h
  unit_there inch rest h = simp h
  unit_there cm rest h = simp h
  unit_there mm rest h = simp h
  unit_there pt rest h = simp h
  unit_there pc rest h = simp h

  pub angle_there : (u : AngleUnit) (rest : List ℕ) → drop i s ≡ angle_unit u ++ rest → parse_unit s i ≡ Some (record { value = angle_named u; next = place (i + length (angle_unit u)) })
  unfolding parse_unit angle_named angle_unit starts_with
  angle_there deg rest h = simp h
  angle_there grad rest h = simp h
  angle_there rad rest h = simp h
  angle_there turn rest h = simp h

pub unit_width_is : (u : LengthUnit) → unit_width (unit_named u) ≡ length (length_unit u)
unfolding unit_width unit_named length_unit
unit_width_is em = refl
unit_width_is ex = refl
unit_width_is px = refl
unit_width_is inch = refl
unit_width_is cm = refl
unit_width_is mm = refl
unit_width_is pt = refl
unit_width_is pc = refl

pub unit_no_percent : (u : LengthUnit) → is_percent (unit_named u) ≡ false
unfolding is_percent unit_named
unit_no_percent em = refl
unit_no_percent ex = refl
unit_no_percent px = refl
unit_no_percent inch = refl
unit_no_percent cm = refl
unit_no_percent mm = refl
unit_no_percent pt = refl
unit_no_percent pc = refl

pub unit_ascii : (u : LengthUnit) → Ascii (length_unit u)
unfolding length_unit
unit_ascii em = refl
unit_ascii ex = refl
unit_ascii px = refl
unit_ascii inch = refl
unit_ascii cm = refl
unit_ascii mm = refl
unit_ascii pt = refl
unit_ascii pc = refl

pub angle_unit_ascii : (u : AngleUnit) → Ascii (angle_unit u)
unfolding angle_unit
angle_unit_ascii deg = refl
angle_unit_ascii grad = refl
angle_unit_ascii rad = refl
angle_unit_ascii turn = refl

-- the end of the text may
pub stops_end : Stops []
unfolding within
stops_end = record { ends = ends_none; letter = refl; mark = refl }

no_letter : (rest : List ℕ) (w : ℕ) → Stops rest → is_lower w ≡ true → eqb (get_or rest 0 0) w ≡ false
no_letter rest w h e = ne_eqb (get_or rest 0 0) w (λ q. let z : true ≡ false = sym e ∙ rw q at h.letter in let y : ◌≡◌ {A = ℕ} 0 1 = cc in omega arith)

module _ (s : List ℕ) (i : ℕ) (rest : List ℕ) (h : Stops rest) (q : drop i s ≡ rest) where
  pub no_unit : unit_at s i ≡ U.None
  unfolding unit_at within
  no_unit =
      let a : eqb (get_or rest 0 0) 37 ≡ false = h.mark in
      let b : eqb (get_or rest 0 0) 99 ≡ false = no_letter rest 99 h refl in
      let c : eqb (get_or rest 0 0) 101 ≡ false = no_letter rest 101 h refl in
      let d : eqb (get_or rest 0 0) 105 ≡ false = no_letter rest 105 h refl in
      let e : eqb (get_or rest 0 0) 109 ≡ false = no_letter rest 109 h refl in
      let f : eqb (get_or rest 0 0) 112 ≡ false = no_letter rest 112 h refl in
      simp (q, no_word)

  pub no_angle_unit : parse_unit s i ≡ None
  unfolding parse_unit within
  no_angle_unit =
      let a : eqb (get_or rest 0 0) 100 ≡ false = no_letter rest 100 h refl in
      let b : eqb (get_or rest 0 0) 103 ≡ false = no_letter rest 103 h refl in
      let c : eqb (get_or rest 0 0) 114 ≡ false = no_letter rest 114 h refl in
      let d : eqb (get_or rest 0 0) 116 ≡ false = no_letter rest 116 h refl in
      simp (q, no_word)
