-- What a told number says to a caller.
use Prim.Native.Nat.{ℕ, ◌-◌}
use mathlib.Core.List.{List}
use mathlib.Core.Path.{◌≡◌, refl, ◌∙◌}
use native.Mathlib.Omega.{arith}
use lib.ListN.{length, take, drop}
use Rattle.text_bytes.proofs.Parts.{rest_part}
use Rattle.std.specs.Prelude.{Result, Ok, Err, Some, None, MatchResult}
use Rattle.std.specs.Result.{result_ok}
use Rattle.stream.specs.declared.Fault.{Fault}
use Rattle.stream.specs.declared.Read.{Read}
use Rattle.stream.proofs.Binds.{at_ok}
use Rattle.stream.proofs.Stretches.{LiesFrom}
use Rattle.numbers.specs.Moves.{Number}
use Rattle.numbers.specs.Number.{parse_number}
use Rattle.numbers.proofs.Values.{number_holds}
use Rattle.fast_numbers.specs.Told.{told_number}

-- what is told of an answer is its value
pub told_ok : {A E : Type 0} (r : Result A E) (a : A) → result_ok r ≡ Some a → (result_ok r ≡ Some a) × (r ≡ Ok a)
told_ok (Ok b) a e = (e, cc)
told_ok (Err x) a e = let z : ◌≡◌ {A = ℕ} 0 1 = cc in absurd (omega arith)

-- the plain reader read none
pub record Unread (s : List ℕ) (at : ℕ) : Type 0 where
  pub fault : Fault
  pub is : parse_number s at ≡ Err fault

module _ (s : List ℕ) (at : ℕ) where
  -- a number's text ends where reading goes on
  ended : MatchResult (parse_number s at) (λ r. r.next ≡ r.value.end) (LiesFrom s at)
  ended = number_holds s at (λ r. r.next ≡ r.value.end) (λ l j. refl)

  -- so the plain reader read what is told
  pub told_read : (n : Number) → told_number (parse_number s at) ≡ Some n → parse_number s at ≡ Ok (record { value = n; next = n.end })
  unfolding told_number
  told_read n q = go (parse_number s at) refl q
    where
      go : (x : Result (Read Number) Fault) → parse_number s at ≡ x → told_number x ≡ Some n → parse_number s at ≡ Ok (record { value = n; next = n.end })
      go (Ok r) e f =
          let same : r.next ≡ r.value.end = at_ok (λ r. r.next ≡ r.value.end) (LiesFrom s at) (parse_number s at) r ended e in
          let told : record { value = r.value.value; whole = r.value.whole; end = r.next } ≡ n = cc in
          let kept : r.value ≡ n = rw same at told in
          e ∙ rw (← kept, same) refl
      go (Err x) e f = absurd (let z : ◌≡◌ {A = ℕ} 0 1 = cc in omega arith)

  pub told_unread : told_number (parse_number s at) ≡ None → Unread s at
  unfolding told_number
  told_unread q = go (parse_number s at) refl q
    where
      go : (x : Result (Read Number) Fault) → parse_number s at ≡ x → told_number x ≡ None → Unread s at
      go (Ok r) e f = absurd (let z : ◌≡◌ {A = ℕ} 0 1 = cc in omega arith)
      go (Err x) e f = record { fault = x; is = e }

-- `&text[0..]` is the text
pub all_text : (s : List ℕ) → take (length s - 0) (drop 0 s) ≡ s
all_text s = rest_part s 0
