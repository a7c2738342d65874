-- Of a whole text: how the number of its angle was written, and where the stretch of its refusal lies.
use Prim.Native.Nat.{ℕ, ◌≤◌, ◌<◌}
use mathlib.Core.Bool.{true}
use mathlib.Core.List.{List}
use mathlib.Core.Logic.{◌↔◌}
use mathlib.Core.Path.{◌≡◌, refl}
use native.Mathlib.Omega.{arith}
use lib.Dec.{ltb}
use lib.ListN.{length, get_or}
use Rattle.std.specs.Prelude.{Ok, Err, MatchResult}
use Rattle.text_bytes.specs.Bytes.{is_space}
use Rattle.text_bytes.specs.Scan.{scan}
use Rattle.text_bytes.proofs.Ranges.{either}
use Rattle.stream.specs.Refusals.{Inside, admit_text}
use Rattle.stream.specs.declared.Read.{Read}
use Rattle.stream.specs.declared.Refusal.{Refusal}
use Rattle.stream.proofs.Binds.{bind_holds, bind_known, at_ok, at_err, weaker}
use Rattle.stream.proofs.Edges.{Admitted, admit_holds, edge_holds}
use Rattle.stream.proofs.Stretches.{Lies, LiesAt, LiesFrom, data_lies}
use Rattle.numbers.specs.Moves.{Number}
use Rattle.numbers.specs.Number.{is_plain, parse_number}
use Rattle.numbers.specs.declared.Written.{Written}
use Rattle.numbers.proofs.Values.{number_taken}
use Rattle.numbers.proofs.Wholes.{number_whole, number_end}
use Rattle.angle.specs.Angles.{parse_unit, parse_angle, parse_whole, from_str, or_degrees, with_unit}
use Rattle.angle.specs.declared.Angle.{Angle}
use Rattle.angle.proofs.Values.{AngleTaken, angle_taken}

-- Of an angle at i
pub record Says (s : List ℕ) (i : ℕ) (w : Written Angle) : Type 0 where
  -- THEOREM. It is `whole` exactly if no byte from its number's first to its end is a dot, `e` or `E`
  pub whole : (w.whole ≡ true) ↔ ((j : ℕ) → scan is_space s i ≤ j → j < w.end.0 → is_plain (get_or s j 0) ≡ true)
  -- THEOREM. Where it ended lies after its first byte and inside the text
  pub some : scan is_space s i < w.end.0
  pub inside : w.end.0 ≤ length s
  -- THEOREM. The angle has the number that is read there, and the unit that stands where it ended, degrees where none does
  pub number : (n : Read Number) × ((parse_number s i ≡ Ok n) × (w.value.number ≡ n.value.value))
  pub unit : w.value.unit ≡ (or_degrees w.end (parse_unit s w.end.0)).value

module _ (s : List ℕ) (i : ℕ) where
  says_at : (n : Read Number) → parse_number s i ≡ Ok n → Says s i (with_unit n.value (or_degrees n.next (parse_unit s n.next.0))).value
  says_at n e =
      let k = number_end s i n e in
      record { whole = number_whole s i n e; some = k.0; inside = k.1.0; number = (n, (e, refl)); unit = rw k.1.1 refl }

  angle_says : MatchResult (parse_angle s i) (λ r. Says s i r.value) (LiesFrom s i)
  unfolding parse_angle
  angle_says =
      bind_known (λ r. Says s i r.value) (LiesFrom s i) (parse_number s i) _
      (λ f e. at_err _ (LiesFrom s i) (parse_number s i) f (number_taken s i) e) (λ n e. says_at n e)

-- of an angle and nothing after it
pub whole-says : (s : List ℕ) → MatchResult (parse_whole s) (Says s 0) (LiesAt (length s))
unfolding parse_whole
whole-says s =
    bind_known (Says s 0) (LiesAt (length s)) (parse_angle s 0) _
    (λ f e. at_err _ (LiesFrom s 0) (parse_angle s 0) f (angle_taken s 0) e (omega arith))
    (λ r e.
    let t = at_ok (AngleTaken s 0) (LiesFrom s 0) (parse_angle s 0) r (angle_taken s 0) e in
    let v = at_ok (λ x. Says s 0 x.value) (LiesFrom s 0) (parse_angle s 0) r (angle_says s 0) e in
    either (ltb r.next.0 (length s)) (λ q. simp q (data_lies s r.next.0 t.past.inside)) (λ q. simp q v))

-- THEOREM. So of a whole text; and a refusal's stretch starts and ends in the lent text, and not before it starts
pub text_says : (s : List ℕ) → MatchResult (from_str s) (Says s 0) (Inside (length s))
unfolding from_str
text_says s =
    bind_holds (λ _. Admitted s) (Says s 0) (Inside (length s)) (admit_text s) _ (admit_holds s)
    (λ _ _. edge_holds (Says s 0) s (parse_whole s) (weaker (Says s 0) (Says s 0) (LiesAt (length s)) (Lies (length s)) (parse_whole s) (whole-says s) (λ w v. v) (λ f v. v.lies)))

pub whole_says : (s : List ℕ) (w : Written Angle) → from_str s ≡ Ok w → Says s 0 w
whole_says s w q = at_ok (Says s 0) (Inside (length s)) (from_str s) w (text_says s) q

pub stretch_inside : (s : List ℕ) (e : Refusal) → from_str s ≡ Err e → Inside (length s) e
stretch_inside s e q = at_err (Says s 0) (Inside (length s)) (from_str s) e (text_says s) q
