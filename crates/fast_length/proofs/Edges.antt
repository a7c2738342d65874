-- A whole text and a step of a list, by what is told at a place.
use Prim.Native.Nat.{ℕ, ◌+◌, ◌≤◌, ◌<◌}
use mathlib.Core.List.{List}
use native.Mathlib.Omega.{arith}
use mathlib.Core.Path.{◌≡◌, refl, sym, ap, ◌∙◌}
use borrow.Author.Tests.{le-leb, lt-leb, le-ltb, lt-ltb}
use lib.Dec.{ltb, leb}
use lib.ListN.{length}
use Rattle.std.specs.Prelude.{Result, Ok, Err, Option, Some, None, if◌then◌else◌}
use Rattle.std.specs.Result.{result_ok}
use Rattle.text_bytes.specs.Flow.{◌>>=◌}
use Rattle.text_bytes.specs.Moves.{place}
use Rattle.text_bytes.proofs.Ranges.{either}
use Rattle.utf8.proofs.Walks.{ascii_utf8}
use Rattle.stream.specs.Faults.{unexpected_data}
use Rattle.stream.specs.Refusals.{bare_refusal, refusal_of, at_edge, admit_utf8, admit_text, admit_place}
use Rattle.stream.specs.Steps.{refused_step, placed, edged}
use Rattle.stream.specs.declared.Fault.{Fault}
use Rattle.stream.specs.declared.Read.{Read}
use Rattle.stream.specs.declared.Reason.TheVariants as R
use Rattle.stream.specs.declared.Refusal.{Refusal}
use Rattle.stream.proofs.Binds.{bind_ok}
use Rattle.numbers.specs.Number.{parse_number, after_item}
use Rattle.numbers.specs.declared.Written.{Written}
use Rattle.length.specs.Lengths.{LengthStep, end_step, unit_at, unit_width, parse_length, parse_list_length, parse_step, parse_whole, from_str, next_length}
use Rattle.length.specs.declared.Length.{Length}
use Rattle.fast_numbers.proofs.Plain.{Plain, plain_known, plain_text, plain_trans}
use Rattle.fast_numbers.proofs.Told.{told_ok}
use Rattle.fast_length.proofs.Units.{unit_plain}
use Rattle.fast_length.specs.Left.{refused_or, left}

pub long : (s : List ℕ) → 4096 < length s → from_str s ≡ Err (bare_refusal R.TextTooLong)
unfolding from_str admit_text
long s h = simp (lt-leb (length s) 4096 h)

pub length_plain : (s : List ℕ) (at : ℕ) (r : Read (Written Length)) → parse_length s at ≡ Ok r → Plain s at r.next.0
unfolding parse_length
length_plain s at r q =
    let v = bind_ok (parse_number s at) _ q in
    let w : Plain s at (v.0.next.0 + unit_width (unit_at s v.0.next.0)) = plain_trans (plain_known s at v.0 v.1.0) (unit_plain s v.0.next.0) in
    let e : v.0.next.0 + unit_width (unit_at s v.0.next.0) ≡ r.next.0 = ap (λ (x : Result (Read (Written Length)) Fault). next_of x) v.1.1 in
    rw e at w
  where
    next_of : Result (Read (Written Length)) Fault → ℕ
    next_of (Ok a) = a.next.0
    next_of (Err e) = 0

-- a length that fills the text: its bytes are ASCII
pub filled : (s : List ℕ) (r : Read (Written Length)) → length s ≤ 4096 → result_ok (parse_length s 0) ≡ Some r → length s ≤ r.next.0
    → (result_ok (parse_length s 0) ≡ Some r) × (from_str s ≡ Ok r.value)
unfolding from_str parse_whole admit_text admit_utf8
filled s r l e h =
    let q = (told_ok (parse_length s 0) r e).1 in
    let u = sym (ascii_utf8 s (sym (plain_text s r.next.0 (length_plain s 0 r q) h)) refl) in
    (e, simp (le-leb (length s) 4096 l, u, q, le-ltb r.next.0 (length s) h))

-- else what is read at the edge, and nothing left after it
pub whole : (s : List ℕ) → from_str s ≡ (do
  _ ← admit_text s
  r ← at_edge s (parse_length s 0)
  if ltb r.next.0 (length s) then Err (refusal_of s (unexpected_data s r.next.0)) else Ok r.value)
unfolding from_str parse_whole
whole s = go (admit_text s) (parse_length s 0)
  where
    ends : Read (Written Length) → Result (Written Length) Fault
    ends r = if ltb r.next.0 (length s) then Err (unexpected_data s r.next.0) else Ok r.value

    last : Read (Written Length) → Result (Written Length) Refusal
    last r = if ltb r.next.0 (length s) then Err (refusal_of s (unexpected_data s r.next.0)) else Ok r.value

    go : (a : Result (Unit {0}) Refusal) (x : Result (Read (Written Length)) Fault) → (a >>= (λ _. at_edge s (x >>= ends))) ≡ (a >>= (λ _. at_edge s x >>= last))
    go (Ok u) (Ok r) = either (ltb r.next.0 (length s)) (λ h. simp h) (λ h. simp h)
    go (Ok u) (Err f) = refl
    go (Err e) x = refl

-- bytes left after a length
pub left_over : (s : List ℕ) (r : Read (Written Length)) → result_ok (parse_length s 0) ≡ Some r → r.next.0 < length s
    → (result_ok (parse_length s 0) ≡ Some r) × (from_str s ≡ Err (left s r.next.0))
unfolding from_str parse_whole left
left_over s r e h =
    let q = (told_ok (parse_length s 0) r e).1 in
    (e, simp (q, lt-ltb r.next.0 (length s) h) (go (admit_text s)))
  where
    more : Unit {0} → Result (Written Length) Refusal
    more u = at_edge s (Err (unexpected_data s r.next.0))

    go : (a : Result (Unit {0}) Refusal) → (a >>= more) ≡ Err (refused_or a (refusal_of s (unexpected_data s r.next.0)))
    go (Ok u) = refl
    go (Err x) = refl

-- no length
pub none_read : (s : List ℕ) → result_ok (parse_length s 0) ≡ None → from_str s ≡ (do
  _ ← admit_text s
  r ← at_edge s (parse_length s 0)
  Ok r.value)
none_read s e = whole s ∙ go (parse_length s 0) e
  where
    go : (x : Result (Read (Written Length)) Fault) → result_ok x ≡ None → (do
      _ ← admit_text s
      r ← at_edge s x
      if ltb r.next.0 (length s) then Err (refusal_of s (unexpected_data s r.next.0)) else Ok r.value) ≡ (do
        _ ← admit_text s
        r ← at_edge s x
        Ok r.value)
    go (Ok r) q = absurd (let z : ◌≡◌ {A = ℕ} 0 1 = cc in omega arith)
    go (Err f) q = refl

abbrev stepped : List ℕ → Result (Read (Written Length)) Refusal → LengthStep
stepped s (Ok r) = record { item = Ok (Some r.value); place = place (after_item s r.next.0) }
stepped s (Err e) = refused_step e (place (length s))

pub list_step : (s : List ℕ) (i : ℕ)
    → next_length s i ≡ placed i (admit_place s i) (if leb (length s) i then end_step (place (length s)) else stepped s (at_edge s (parse_length s i)))
unfolding next_length parse_step parse_list_length
list_step s i = ap (placed i (admit_place s i)) (either (leb (length s) i) (λ h. simp h) (λ h. simp h (go (parse_length s i))))
  where
    listed : Read (Written Length) → Result (Read (Written Length)) Fault
    listed r = Ok (record { value = r.value; next = place (after_item s r.next.0) })

    some : Read (Written Length) → Result (Read (Option (Written Length))) Fault
    some r = Ok (record { value = Some r.value; next = r.next })

    go : (x : Result (Read (Written Length)) Fault) → edged s ((x >>= listed) >>= some) ≡ stepped s (at_edge s x)
    go (Ok r) = refl
    go (Err f) = refl
