-- Digits after spaces, with neither a sign before them nor a dot or an exponent behind.
use Prim.Native.Nat.{ℕ, ◌<◌, min}
use mathlib.Core.Bool.{true, false, ◌||◌}
use mathlib.Core.List.{List}
use mathlib.Core.Path.{◌≡◌, sym, ap, ◌∙◌}
use native.Mathlib.Omega.{arith}
use borrow.Author.Tests.{lt-ltb}
use lib.Dec.{eqb}
use lib.ListN.{get_or, drop}
use Rattle.std.specs.Prelude.{Ok, Some}
use Rattle.text_bytes.specs.Bytes.{is_digit, is_space}
use Rattle.text_bytes.specs.Moves.{place}
use Rattle.text_bytes.specs.Scan.{scan}
use Rattle.text_bytes.proofs.Ahead.{scan_again, scan_bytes}
use Rattle.numbers.specs.Digits.{value, cap}
use Rattle.numbers.specs.Number.{value_of, exponent_at, parse_number}
use Rattle.fast_numbers.specs.Leads.{lead_at}
use Rattle.fast_numbers.specs.declared.Lead.{Lead}
use Rattle.fast_numbers.specs.Told.{told_number}
use Rattle.fast_numbers.proofs.Steps.{lead_digit, whole_told}
use Rattle.fast_numbers.proofs.Told.{told_read}

module _ (s : List ℕ) (at : ℕ) where
  abbrev from : ℕ
  from = scan is_space s at

  abbrev digits : ℕ
  digits = min cap (value 0 (drop from s))

  lead_alone : from < scan is_digit s from → lead_at s at ≡ record { from = place from; minus = false }
  unfolding lead_at
  lead_alone h =
      let x = lead_digit s from (scan_bytes is_digit s from from (omega arith) (omega arith)) in
      rw (scan_again is_space s at) at x

  -- b is the byte behind them
  pub digits_alone : (e b : ℕ) → e ≡ scan is_digit s from → b ≡ get_or s e 0 → (b ≡ 46 → ⊥) → (eqb b 101 || eqb b 69) ≡ false → from < e → digits < cap
      → parse_number s at ≡ Ok (record { value = record { value = value_of false digits false 0; whole = true; end = place e }; next = place e })
  unfolding exponent_at
  digits_alone e b d p h x long small =
      let lead = lead_alone (rw d at long) in
      let f : (lead_at s at).from.0 ≡ from = ap (λ (l : Lead). l.from.0) lead in
      let g : (lead_at s at).minus ≡ false = ap (λ (l : Lead). l.minus) lead in
      let q : scan is_digit s (lead_at s at).from.0 ≡ e = rw f (sym d) in
      let none : (exponent_at s e).written ≡ false = simp (← p, x) in
      let told : told_number (parse_number s at) ≡ Some (record { value = value_of false digits false 0; whole = true; end = place e }) =
      whole_told s at (rw (q, ← p) h) (rw q none) ∙ simp (f, g, ← d, lt-ltb from e long, lt-ltb digits cap small) in
      told_read s at _ told
