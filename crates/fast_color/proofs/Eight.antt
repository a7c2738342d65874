-- Eight digits that are tested together are those that are tested one by one.
use Prim.Native.Nat.{ℕ, ◌+◌, ◌*◌}
use mathlib.Core.Bool.{Bool, ◌&&◌}
use mathlib.Core.List.{List}
use mathlib.Core.Path.{◌≡◌}
use borrow.Author.Tests.{lt-ltb}
use lib.Dec.{ltb}
use lib.ListN.{get_or}
use Rattle.std.specs.Prelude.{Some, None, if◌then◌else◌}
use Rattle.text_bytes.specs.Bytes.{is_hex_digit}
use Rattle.text_bytes.proofs.Ranges.{either}
use Rattle.color.specs.Hex.{rgba, from_hex}
use Rattle.packed.specs.Numbers.{color_number}
use Rattle.packed.proofs.Channels.{digit_low}
use Rattle.fast_color.specs.Digits.{digit, value, pair, color_of}

digit_value : (c : ℕ) → digit c ≡ (if ltb (value c) 16 then Some (value c) else None)
unfolding digit value
digit_value c = either (is_hex_digit c) (λ t. simp (t, lt-ltb (from_hex c) 16 (digit_low c))) (λ t. simp t)

abbrev two : ℕ → ℕ → ℕ
two a b = value a * 16 + value b

abbrev fit : ℕ → Bool
fit c = ltb (value c) 16

pair_value : (a b : ℕ) → pair a b ≡ (if fit a && fit b then Some (two a b) else None)
unfolding pair
pair_value a b =
    either (fit a) (λ t. either (fit b) (λ u. simp (digit_value a, digit_value b, t, u)) (λ u. simp (digit_value a, digit_value b, t, u)))
    (λ t. simp (digit_value a, t))

-- the eight, each after the others
module _ (d : List ℕ) where
  abbrev fa : Bool
  fa = fit (get_or d 0 0)

  abbrev fb : Bool
  fb = fit (get_or d 1 0)

  abbrev fc : Bool
  fc = fit (get_or d 2 0)

  abbrev fd : Bool
  fd = fit (get_or d 3 0)

  abbrev fe : Bool
  fe = fit (get_or d 4 0)

  abbrev ff : Bool
  ff = fit (get_or d 5 0)

  abbrev fg : Bool
  fg = fit (get_or d 6 0)

  abbrev fh : Bool
  fh = fit (get_or d 7 0)

  pub color_by : color_of d ≡ (if (((((((fa && fb) && fc) && fd) && fe) && ff) && fg) && fh)
      then Some (color_number (rgba (two (get_or d 0 0) (get_or d 1 0)) (two (get_or d 2 0) (get_or d 3 0)) (two (get_or d 4 0) (get_or d 5 0)) (two (get_or d 6 0) (get_or d 7 0)))) else None)
  unfolding color_of
  color_by =
      let p = pair_value (get_or d 0 0) (get_or d 1 0) in
      let q = pair_value (get_or d 2 0) (get_or d 3 0) in
      let r = pair_value (get_or d 4 0) (get_or d 5 0) in
      let z = pair_value (get_or d 6 0) (get_or d 7 0) in
      either fa
      (λ t0. either fb
      (λ t1. either fc
      (λ t2. either fd
      (λ t3. either fe
      (λ t4. either ff
      (λ t5. either fg
      (λ t6. either fh
      (λ t7. simp (p, q, r, z, t0, t1, t2, t3, t4, t5, t6, t7))
      (λ u. simp (p, q, r, z, t0, t1, t2, t3, t4, t5, t6, u)))
      (λ u. simp (p, q, r, z, t0, t1, t2, t3, t4, t5, u)))
      (λ u. simp (p, q, r, z, t0, t1, t2, t3, t4, u)))
      (λ u. simp (p, q, r, z, t0, t1, t2, t3, u)))
      (λ u. simp (p, q, r, z, t0, t1, t2, u)))
      (λ u. simp (p, q, r, z, t0, t1, u)))
      (λ u. simp (p, q, r, z, t0, u)))
      (λ u. simp (p, q, r, z, u))
