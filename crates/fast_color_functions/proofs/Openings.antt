-- `rgb` or `hsl` with its bracket: its numbers are read next.
use Prim.Native.Nat.{ℕ, suc, ◌+◌}
use mathlib.Core.Bool.{true, false}
use mathlib.Core.List.{List, ◌∷◌}
use mathlib.Core.Path.{◌≡◌, refl}
use native.Mathlib.Nat.{add-zero}
use native.Mathlib.Omega.{arith}
use borrow.Author.Tests.{lt-leb}
use lib.Dec.{eqb, leb}
use lib.ListN.{length, get_or, drop}
use lib.Seq.{get_or-drop}
use Rattle.std.specs.Prelude.{if◌then◌else◌}
use Rattle.text_bytes.specs.Bytes.{within, is_space}
use Rattle.text_bytes.specs.Scan.{scan}
use Rattle.text_bytes.specs.Words.{ascii, starts_with, same, lower_of}
use Rattle.text_bytes.proofs.Wording.{starts_first}
use Rattle.stream.proofs.Opening.{bracketed, is_word, opens, word_ends, word_bytes, word_opened, word_before}
use Rattle.color.specs.Color.{parse_rgb, parse_hsl, is_rgb, is_hsl, named_color, parse_word, parse_color}
use Rattle.fast_color_functions.specs.Told.{rgb_numbers, hsl_numbers}

module _ (s : List ℕ) (at : ℕ) where
  abbrev start : ℕ
  start = scan is_space s at

  -- x and xs are the bytes of a word
  opened : (x : ℕ) (xs : List ℕ) → is_word (x ∷ xs) ≡ true → eqb x 35 ≡ false → starts_with (bracketed (x ∷ xs)) (drop start s) ≡ true
      → parse_color s at ≡ (if is_rgb (x ∷ xs) then rgb_numbers s (start + suc (length (x ∷ xs)))
      else (if is_hsl (x ∷ xs) then hsl_numbers s (start + suc (length (x ∷ xs))) else named_color (x ∷ xs) (start + length (x ∷ xs))))
  unfolding parse_color parse_word parse_rgb parse_hsl rgb_numbers hsl_numbers
  opened x xs h f e =
      let w = x ∷ xs in
      let o = opens w (drop start s) h e in
      let l : leb (length s) start ≡ false = lt-leb (length s) start (omega (arith, word_before w s start o)) in
      let b : get_or s start 0 ≡ x = rw (get_or-drop, add-zero) at (starts_first x (bracketed xs) (drop start s) e) in
      let z : start + suc (length w) ≡ start + length w + 1 = omega arith in
      simp (l, b, f, word_ends w s start o, word_bytes w s start o, word_opened w s start o, z)

  pub open_rgb : starts_with (ascii "rgb(") (drop start s) ≡ true → parse_color s at ≡ rgb_numbers s (start + 4)
  unfolding is_rgb same lower_of within
  open_rgb e = opened 114 (ascii "gb") refl refl e

  pub open_rgba : starts_with (ascii "rgba(") (drop start s) ≡ true → parse_color s at ≡ rgb_numbers s (start + 5)
  unfolding is_rgb same lower_of within
  open_rgba e = opened 114 (ascii "gba") refl refl e

  pub open_hsl : starts_with (ascii "hsl(") (drop start s) ≡ true → parse_color s at ≡ hsl_numbers s (start + 4)
  unfolding is_rgb is_hsl same lower_of within
  open_hsl e = opened 104 (ascii "sl") refl refl e

  pub open_hsla : starts_with (ascii "hsla(") (drop start s) ≡ true → parse_color s at ≡ hsl_numbers s (start + 5)
  unfolding is_rgb is_hsl same lower_of within
  open_hsla e = opened 104 (ascii "sla") refl refl e
