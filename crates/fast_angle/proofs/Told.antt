-- An angle whose number is told is what the definitions come to.
use Prim.Native.Nat.{ℕ, ◌≤◌, ◌<◌}
use mathlib.Core.Bool.{Bool, true, false, cond}
use mathlib.Core.List.{List}
use mathlib.Core.Path.{◌≡◌, refl, sym, ap}
use native.Mathlib.Omega.{arith}
use borrow.Author.Tests.{le-leb, le-ltb, lt-leb, lt-ltb, ltb-false, eqb-true, eqb-false}
use lib.Dec.{eqb, ltb}
use lib.ListN.{length, drop_of_length-le}
use Rattle.std.specs.Prelude.{Result, Ok, Err, Option, Some, None, if◌then◌else◌}
use Rattle.std.specs.Result.{result_ok}
use Rattle.text_bytes.specs.Words.{starts_with}
use Rattle.text_bytes.specs.declared.Place.{Place}
use Rattle.text_bytes.proofs.Ranges.{either}
use Rattle.utf8.specs.Characters.{is_ascii, utf8_of}
use Rattle.utf8.proofs.Walks.{ascii_utf8}
use Rattle.stream.specs.Faults.{unexpected_data}
use Rattle.stream.specs.Refusals.{bare_refusal, admit_utf8, admit_text}
use Rattle.stream.specs.declared.Fault.{Fault}
use Rattle.stream.specs.declared.Read.{Read}
use Rattle.stream.specs.declared.Reason.TheVariants as R
use Rattle.stream.proofs.Binds.{bind_ok}
use Rattle.numbers.specs.Moves.{Number}
use Rattle.numbers.specs.Number.{parse_number}
use Rattle.numbers.proofs.Values.{number_known}
use Rattle.numbers.specs.declared.Written.{Written}
use Rattle.angle.specs.Angles.{or_degrees, with_unit, parse_unit, parse_angle, parse_whole, from_str}
use Rattle.angle.specs.declared.Angle.{Angle}
use Rattle.angle.specs.declared.AngleUnit.{AngleUnit}
use Rattle.fast_angle.specs.Units.{ending, last_unit, angled}
use Rattle.fast_angle.specs.Units as E
use Rattle.fast_numbers.specs.Told.{told_number}
use Rattle.fast_numbers.proofs.Plain.{Plain, plain_here, plain_known, plain_text, plain_trans, word_plain}
use Rattle.fast_numbers.proofs.Told.{told_ok, told_read, told_unread}

module _ (s : List ℕ) where
  pub none_told : told_number (parse_number s 0) ≡ None → result_ok (parse_whole s) ≡ None
  unfolding parse_whole parse_angle
  none_told e = rw (told_unread s 0 e).is refl

  module _ (n : Number) (e : told_number (parse_number s 0) ≡ Some n) where
    unmarked : length s ≤ n.end.0 → parse_unit s n.end.0 ≡ None
    unfolding parse_unit starts_with
    unmarked l = simp (drop_of_length-le s l)

    -- a number is an angle with the unit after it that ends the text
    pub angle_told : (told_number (parse_number s 0) ≡ Some n) × (result_ok (parse_whole s) ≡ angled s n)
    unfolding parse_whole parse_angle last_unit angled
    angle_told =
        let i : n.end.0 ≤ length s = (number_known s 0 _ (told_read s 0 n e)).past.inside in (
          e,
          either (eqb n.end.0 (length s))
              (λ h. let l : n.end.0 ≡ length s = eqb-true n.end.0 (length s) h in simp (told_read s 0 n e, h, unmarked (omega arith), le-ltb n.end.0 (length s) (omega arith)))
              (λ h. simp (told_read s 0 n e, h) (go (lt-ltb n.end.0 (length s) (omega (arith, eqb-false n.end.0 (length s) h))) (parse_unit s n.end.0))),
        )
      where
        go : ltb n.end.0 (length s) ≡ true → (u : Option (Read AngleUnit))
            → result_ok (let r = with_unit n (or_degrees n.end u) in if ltb r.next.0 (length s) then Err (unexpected_data s r.next.0) else Ok r.value)
            ≡ E.with_unit n (ending s u)
        go h None = simp h
        go h (Some u) = either (ltb u.next.0 (length s)) (λ h. simp h) (λ h. simp h)

pub long : (s : List ℕ) → 4096 < length s → from_str s ≡ Err (bare_refusal R.TextTooLong)
unfolding from_str admit_text
long s h = simp (lt-leb (length s) 4096 h)

module _ (s : List ℕ) where
  unit_plain : (p : Place) → Plain s p.0 (or_degrees p (parse_unit s p.0)).next.0
  unfolding parse_unit is_ascii
  unit_plain p =
      case _ _ _ (word_plain s p.0 _ refl) (case _ _ _ (word_plain s p.0 _ refl) (case _ _ _ (word_plain s p.0 _ refl) (case _ _ _ (word_plain s p.0 _ refl) (plain_here s p.0))))
    where
      case : (t : Bool) (a b : Option (Read AngleUnit)) → (t ≡ true → Plain s p.0 (or_degrees p a).next.0) → Plain s p.0 (or_degrees p b).next.0
          → Plain s p.0 (or_degrees p (cond t a b)).next.0
      case true a b h k = h refl
      case false a b h k = k

  angle_plain : (r : Read (Written Angle)) → parse_angle s 0 ≡ Ok r → Plain s 0 r.next.0
  unfolding parse_angle
  angle_plain r q =
      let v = bind_ok (parse_number s 0) _ q in
      let w : Plain s 0 (or_degrees v.0.next (parse_unit s v.0.next.0)).next.0 = plain_trans (plain_known s 0 v.0 v.1.0) (unit_plain v.0.next) in
      let e : (or_degrees v.0.next (parse_unit s v.0.next.0)).next.0 ≡ r.next.0 = ap (λ (x : Result (Read (Written Angle)) Fault). next_of x) v.1.1 in
      rw e at w
    where
      next_of : Result (Read (Written Angle)) Fault → ℕ
      next_of (Ok a) = a.next.0
      next_of (Err e) = 0

  -- an angle that fills the text: its bytes are ASCII
  whole_plain : (a : Written Angle) → parse_whole s ≡ Ok a → Ok tt ≡ utf8_of s
  unfolding parse_whole
  whole_plain a q =
      let v = bind_ok (parse_angle s 0) _ q in
      either (ltb v.0.next.0 (length s))
      (λ h. let z : Err (unexpected_data s v.0.next.0) ≡ Ok a = simp h at v.1.1 in let y : ◌≡◌ {A = ℕ} 0 1 = cc in absurd (omega arith))
      (λ h. ascii_utf8 s (sym (plain_text s v.0.next.0 (angle_plain v.0 v.1.0) (ltb-false v.0.next.0 (length s) h))) refl)

  pub filled : (a : Written Angle) → length s ≤ 4096 → result_ok (parse_whole s) ≡ Some a → (result_ok (parse_whole s) ≡ Some a) × (from_str s ≡ Ok a)
  unfolding from_str admit_text admit_utf8
  filled a l e =
      let q = (told_ok (parse_whole s) a e).1 in
      (e, simp (le-leb (length s) 4096 l, sym (whole_plain a q), q))
