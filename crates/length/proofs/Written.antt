-- Of a whole text, and of a list's step: how the number of a length was written, and where the stretch of a refusal lies.
use Prim.Native.Nat.{ℕ, ◌+◌, ◌≤◌, ◌<◌}
use mathlib.Core.Bool.{true}
use mathlib.Core.List.{List}
use mathlib.Core.Logic.{◌↔◌}
use mathlib.Core.Path.{◌≡◌, refl, ap}
use native.Mathlib.Omega.{arith}
use borrow.Author.Tests.{ltb-false}
use lib.Dec.{leb, ltb}
use lib.ListN.{length, get_or}
use Rattle.std.specs.Prelude.{Result, Ok, Err, MatchResult, MatchOption, ⊤, Some}
use Rattle.text_bytes.specs.Bytes.{is_space}
use Rattle.text_bytes.specs.Scan.{scan}
use Rattle.text_bytes.specs.declared.Place.{Place}
use Rattle.text_bytes.proofs.Ranges.{either}
use Rattle.stream.specs.Refusals.{Inside, admit_text, admit_place}
use Rattle.stream.specs.Steps.{placed, edged, refused_step}
use Rattle.stream.specs.declared.Read.{Read}
use Rattle.stream.specs.declared.Refusal.{Refusal}
use Rattle.stream.proofs.Binds.{bind_holds, bind_known, at_ok, at_err, weaker}
use Rattle.stream.proofs.Edges.{Admitted, Placed, admit_holds, place_holds, edge_holds, refusal_inside}
use Rattle.text_bytes.specs.Flow.{◌>>=◌}
use Rattle.stream.specs.declared.Fault.{Fault}
use Rattle.stream.proofs.Stretches.{Lies, LiesAt, LiesFrom, end_lies, data_lies}
use Rattle.numbers.specs.Number.{is_plain, parse_number}
use Rattle.numbers.specs.declared.Written.{Written}
use Rattle.numbers.proofs.Values.{Taken, number_taken}
use Rattle.numbers.proofs.Wholes.{number_whole, number_end}
use Rattle.length.specs.Lengths.{unit_at, unit_width, with_unit, parse_length, parse_list_length, parse_whole, from_str, next_length, LengthStep, value_step, parse_step}
use Rattle.length.specs.declared.Length.{Length}
use Rattle.length.proofs.Values.{LengthTaken, length_taken, length_known}

-- Of a length at i
pub record Says (s : List ℕ) (i : ℕ) (w : Written Length) : Type 0 where
  -- THEOREM. It is `whole` exactly if no byte from its number's first to its end is a dot, `e` or `E`
  pub whole : (w.whole ≡ true) ↔ ((j : ℕ) → scan is_space s i ≤ j → j < w.end.0 → is_plain (get_or s j 0) ≡ true)
  -- THEOREM. Where it ended lies after its first byte, and the unit after that is inside the text
  pub some : scan is_space s i < w.end.0
  pub inside : w.end.0 + unit_width w.value.unit ≤ length s
  -- THEOREM. The length has the number that is read there, and the unit that stands where it ended
  pub number : (n : Read _) × ((parse_number s i ≡ Ok n) × (w.value.number ≡ n.value.value))
  pub unit : w.value.unit ≡ unit_at s w.end.0

module _ (s : List ℕ) (i : ℕ) where
  -- and reading goes on after the unit
  record Ends (r : Read (Written Length)) : Type 0 where
    says : Says s i r.value
    after : r.value.end.0 + unit_width r.value.value.unit ≡ r.next.0

  length_ends : MatchResult (parse_length s i) Ends (LiesFrom s i)
  unfolding parse_length
  length_ends =
      bind_known Ends (LiesFrom s i) (parse_number s i) _
      (λ f e. at_err (Taken s i) (LiesFrom s i) (parse_number s i) f (number_taken s i) e)
      (λ n e.
      let k = number_end s i n e in
      let q : n.value.end.0 ≡ n.next.0 = ap (λ (x : Place). x.0) k.1.1 in
      let u = unit_at s n.next.0 in
      let t = length_known s i (record { value = with_unit n.value u; next = record { 0 = n.next.0 + unit_width u } }) (rw e refl) in
      record {
        says = record { whole = number_whole s i n e; some = k.0; inside = rw q t.past.inside; number = (n, (e, refl)); unit = rw q refl };
        after = rw q refl;
      })

  list_says : MatchResult (parse_list_length s i) (λ r. Says s i r.value) (LiesFrom s i)
  unfolding parse_list_length
  list_says =
      either (leb (length s) i) (λ e. simp e (λ h. end_lies s))
      (λ e. simp e (bind_holds Ends (λ r. Says s i r.value) (LiesFrom s i) (parse_length s i) _ length_ends (λ r v. v.says)))

abbrev Whole : List ℕ → Written Length → Type 0
Whole s w = Says s 0 w × (w.end.0 + unit_width w.value.unit ≡ length s)

whole_ends : (s : List ℕ) → MatchResult (parse_whole s) (Whole s) (LiesAt (length s))
unfolding parse_whole
whole_ends s =
    bind_known (Whole s) (LiesAt (length s)) (parse_length s 0) _
    (λ f e. at_err (LengthTaken s 0) (LiesFrom s 0) (parse_length s 0) f (length_taken s 0) e (omega arith))
    (λ r e.
    let t = length_known s 0 r e in
    let v = at_ok (Ends s 0) (LiesFrom s 0) (parse_length s 0) r (length_ends s 0) e in
    either (ltb r.next.0 (length s)) (λ q. simp q (data_lies s r.next.0 t.past.inside))
    (λ q. simp q (v.says, omega (arith, v.after, t.past.inside, ltb-false r.next.0 (length s) q))))

-- THEOREM. So of a whole text, which ends with the unit; and a refusal's stretch starts and ends in the lent text, and not before it starts
pub text_says : (s : List ℕ) → MatchResult (from_str s) (Whole s) (Inside (length s))
unfolding from_str
text_says s =
    bind_holds (λ _. Admitted s) (Whole s) (Inside (length s)) (admit_text s) _ (admit_holds s)
    (λ _ _. edge_holds (Whole s) s (parse_whole s) (weaker (Whole s) (Whole s) (LiesAt (length s)) (Lies (length s)) (parse_whole s) (whole_ends s) (λ w v. v) (λ f v. v.lies)))

pub whole_says : (s : List ℕ) (w : Written Length) → from_str s ≡ Ok w → Says s 0 w × (w.end.0 + unit_width w.value.unit ≡ length s)
whole_says s w q = at_ok (Whole s) (Inside (length s)) (from_str s) w (text_says s) q

pub stretch_inside : (s : List ℕ) (e : Refusal) → from_str s ≡ Err e → Inside (length s) e
stretch_inside s e q = at_err (Whole s) (Inside (length s)) (from_str s) e (text_says s) q

-- what is said of a step
abbrev Steps : List ℕ → ℕ → LengthStep → Type 0
Steps s i t = MatchResult t.item (λ o. MatchOption o ⊤ (Says s i)) (Inside (length s))

steps_of : (s : List ℕ) (i : ℕ) (r : Result (Read (Written Length)) Fault) → MatchResult r (λ x. Says s i x.value) (Lies (length s))
    → Steps s i (edged s (r >>= (λ (x : Read (Written Length)). Ok (record { value = Some x.value; next = x.next }))))
steps_of s i (Ok r) v = v
steps_of s i (Err e) v = refusal_inside s v

steps_from : (s : List ℕ) (i : ℕ) (r : Result (Unit {0}) Refusal) (k : LengthStep) → MatchResult r (λ _. Placed s i) (Inside (length s)) → (Placed s i → Steps s i k) → Steps s i (placed i r k)
steps_from s i (Ok u) k v f = f v
steps_from s i (Err e) k v f = v

-- THEOREM. And so of a list's step
pub next_says : (s : List ℕ) (i : ℕ) → Steps s i (next_length s i)
unfolding next_length parse_step
next_says s i =
    steps_from s i (admit_place s i) _ (place_holds s i)
    (λ p. either (leb (length s) i) (λ t. simp t tt)
    (λ t. simp t
    (steps_of s i (parse_list_length s i)
    (weaker (λ x. Says s i x.value) (λ x. Says s i x.value) (LiesFrom s i) (Lies (length s)) (parse_list_length s i) (list_says s i) (λ w v. v) (λ f v. (v p.inside).lies)))))

-- so of a length that a step hands out, and of a step that refuses
pub step_says : (s : List ℕ) (i : ℕ) (w : Written Length) (p : Place) → next_length s i ≡ value_step w p → Says s i w
step_says s i w p q = let v = next_says s i in rw q at v

pub step_inside : (s : List ℕ) (i : ℕ) (e : Refusal) (p : Place) → next_length s i ≡ refused_step e p → Inside (length s) e
step_inside s i e p q = let v = next_says s i in rw q at v
