-- What is told of a whole text is its answer.
use Prim.Native.Nat.{ℕ, ◌≤◌, ◌<◌}
use mathlib.Core.Bool.{false}
use mathlib.Core.List.{List}
use mathlib.Core.Path.{◌≡◌, refl, ap}
use native.Mathlib.Omega.{arith}
use borrow.Author.Tests.{le-leb, le-ltb}
use lib.Dec.{ltb}
use lib.ListN.{length}
use Rattle.std.specs.Prelude.{Result, Ok, Err, Option, Some, None}
use Rattle.std.specs.Result.{result_ok}
use Rattle.text_bytes.specs.Bytes.{is_space}
use Rattle.text_bytes.specs.Scan.{scan}
use Rattle.text_bytes.specs.declared.Place.{Place}
use Rattle.text_bytes.proofs.Scans.{scan_past}
use Rattle.utf8.specs.Characters.{utf8_of}
use Rattle.stream.specs.Faults.{invalid_value}
use Rattle.stream.specs.Refusals.{number_of, empty_refusal, refusal_of, admit_utf8, admit_text}
use Rattle.stream.specs.declared.Read.{Read}
use Rattle.stream.specs.declared.Reason.TheVariants as R
use Rattle.stream.specs.declared.Refusal.{Refusal}
use Rattle.stream.specs.declared.Trouble.TheVariants as T
use Rattle.color.specs.Answer.{from_str}
use Rattle.color.specs.Color.{parse_color, parse_color_text}
use Rattle.color.specs.declared.Color.{Color}
use Rattle.packed.specs.Numbers.{no_color, places, color_number, number_color}
use Rattle.packed.proofs.Decoding.{color_back, color_fits}
use Rattle.packed.proofs.Digits.{color_below}
use Rattle.fast_color.specs.Told.{numbered, told_or}
use Rattle.fast_color.proofs.Near.{color_near}

pub no_some : {A : Type 0} {a : A} {C : Type 0} → None ≡ Some a → C
no_some e = let z : ◌≡◌ {A = ℕ} 0 1 = cc in absurd (omega arith)

-- a text that may be read
module _ (s : List ℕ) (admit : admit_text s ≡ Ok tt) where
  pub text_invalid : (n : ℕ) → parse_color s 0 ≡ Err (invalid_value n) → from_str s ≡ Err (empty_refusal (R.Unread T.InvalidValue) n)
  unfolding from_str parse_color_text refusal_of number_of
  text_invalid n p = simp (admit, p)

  -- and ends with its colour
  pub text_color : (r : Read Color) → parse_color s 0 ≡ Ok r → length s ≤ r.next.0 → from_str s ≡ Ok r.value
  unfolding from_str parse_color_text
  text_color r p l =
      let e : scan is_space s r.next.0 ≡ r.next.0 = scan_past is_space s r.next.0 l in
      let k : ltb r.next.0 (length s) ≡ false = le-ltb r.next.0 (length s) l in
      simp (admit, p, e, k)

pub ok_read : {A E : Type 0} (x : Result A E) {a : A} → result_ok x ≡ Some a → x ≡ Ok a
ok_read (Ok b) {a} e = let z : b ≡ a = cc in rw z refl
ok_read (Err x) e = no_some e

-- a test that is passed
passed : {E : Type 0} (x : Result (Unit {0}) E) → (result_ok x ≡ None → ⊥) → (result_ok x ≡ Some tt) × (x ≡ Ok tt)
passed (Ok tt) h = (refl, refl)
passed (Err e) h = absurd (h refl)

pub admit_ok : (s : List ℕ) → (result_ok (admit_text s) ≡ None → ⊥) → (result_ok (admit_text s) ≡ Some tt) × (admit_text s ≡ Ok tt)
admit_ok s h = passed (admit_text s) h

-- of a short text UTF-8 alone is in question
pub utf8_ok : (s : List ℕ) → length s ≤ 4096 → (result_ok (utf8_of s) ≡ None → ⊥) → (result_ok (utf8_of s) ≡ Some tt) × (admit_text s ≡ Ok tt)
unfolding admit_text admit_utf8
utf8_ok s l h = let k = passed (utf8_of s) h in (k.0, simp (le-leb (length s) 4096 l, k.1))

-- a function that ends the text
pub function_told : (s : List ℕ) (r : Read Color) → result_ok (parse_color s 0) ≡ Some r → length s ≤ r.next.0 → admit_text s ≡ Ok tt
    → (result_ok (parse_color s 0) ≡ Some r) × (numbered (from_str s) ≡ Ok (color_number r.value))
unfolding numbered
function_told s r e l a = (e, ap numbered (text_color s a r (ok_read (parse_color s 0) e) l))

-- what was told
module _ (s : List ℕ) (r : Option (Result ℕ Place)) (h : told_or r (numbered (from_str s)) ≡ numbered (from_str s)) where
  pub color_told : (v : ℕ) → r ≡ Some (Ok v) → (r ≡ Some (Ok v)) × ((from_str s ≡ Ok (number_color v)) × (v < no_color))
  unfolding numbered told_or
  color_told v e = (e, go (from_str s) refl (simp e at h))
    where
      go : (x : Result Color Refusal) → from_str s ≡ x → Ok v ≡ numbered x → (x ≡ Ok (number_color v)) × (v < no_color)
      go (Ok c) q k =
          let z : v ≡ color_number c = cc in
          let b = color_fits s c q in
          (rw (z, color_back c b) refl, omega (arith, color_below c b))
      go (Err f) q k = let z : ◌≡◌ {A = ℕ} 0 1 = cc in absurd (omega arith)

  pub color_small : (v : ℕ) → r ≡ Some (Ok v) → (r ≡ Some (Ok v)) × (v < no_color)
  color_small v e = (e, (color_told v e).1.1)

  pub color_refused : (p : Place) → r ≡ Some (Err p) → (r ≡ Some (Err p)) × ((from_str s ≡ Err (empty_refusal (R.Unread T.InvalidValue) p.0)) × (p.0 < places))
  unfolding numbered told_or
  color_refused p e = (e, go (from_str s) refl (simp e at h))
    where
      go : (x : Result Color Refusal) → from_str s ≡ x → Err (empty_refusal (R.Unread T.InvalidValue) p.0) ≡ numbered x
          → (x ≡ Err (empty_refusal (R.Unread T.InvalidValue) p.0)) × (p.0 < places)
      go (Ok c) q k = let z : ◌≡◌ {A = ℕ} 0 1 = cc in absurd (omega arith)
      go (Err f) q k =
          let z : empty_refusal (R.Unread T.InvalidValue) p.0 ≡ f = cc in
          let n = (color_near s f q).1 in
          (rw z refl, rw (← z) at n)
