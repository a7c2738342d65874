-- What a colour's first byte decides, at any place.
use Prim.Native.Nat.{ℕ, ◌+◌, ◌<◌}
use mathlib.Core.Bool.{false}
use mathlib.Core.List.{List}
use mathlib.Core.Path.{◌≡◌, refl, sym}
use native.Mathlib.Omega.{arith}
use borrow.Author.Tests.{lt-leb, ne_eqb}
use lib.ListN.{length, get_or}
use Rattle.std.specs.Prelude.{Ok, Some}
use Rattle.std.specs.Result.{result_ok}
use Rattle.text_bytes.specs.Bytes.{is_space}
use Rattle.text_bytes.specs.Scan.{scan}
use Rattle.text_bytes.proofs.Ahead.{scan_again}
use Rattle.text_bytes.proofs.Scans.{scan_here}
use Rattle.stream.specs.declared.Read.{Read}
use Rattle.stream.proofs.Binds.{at_ok}
use Rattle.color.specs.Color.{parse_word, parse_color}
use Rattle.color.specs.Hex.{color_read, parse_hex}
use Rattle.color.specs.declared.Color.{Color}
use Rattle.packed.specs.Fits.{Bytes}
use Rattle.packed.specs.Numbers.{color_number, number_color}
use Rattle.packed.proofs.Channels.{color_bytes}
use Rattle.packed.proofs.Decoding.{color_back}
use Rattle.fast_color.proofs.Told.{ok_read}

unspaced : (b : ℕ) → 32 < b → is_space b ≡ false
unspaced b h =
    simp (ne_eqb b 32 (λ e. omega arith), ne_eqb b 9 (λ e. omega arith), ne_eqb b 10 (λ e. omega arith), ne_eqb b 13 (λ e. omega arith))

module _ (s : List ℕ) (i : ℕ) (h : i < length s) where
  pub word_start : 35 < get_or s i 0 → parse_color s i ≡ parse_word s i
  unfolding parse_color
  word_start l =
      let a : scan is_space s i ≡ i = scan_here is_space s i (unspaced (get_or s i 0) (omega arith)) h in
      simp (a, lt-leb (length s) i h, ne_eqb (get_or s i 0) 35 (λ e. omega arith))

  pub hash_start : get_or s i 0 ≡ 35 → parse_color s i ≡ parse_hex s (i + 1)
  unfolding parse_color
  hash_start e =
      let a : scan is_space s i ≡ i = scan_here is_space s i (unspaced (get_or s i 0) (omega arith)) h in
      simp (a, lt-leb (length s) i h, e)

-- spaces before it are nothing to it
pub spaced_start : (s : List ℕ) (at : ℕ) → parse_color s (scan is_space s at) ≡ parse_color s at
unfolding parse_color
spaced_start s at = rw (scan_again is_space s at) refl

-- a colour that is read comes back from its number
pub told_back : (s : List ℕ) (i : ℕ) (c : Color) (e v : ℕ) → parse_color s i ≡ color_read c e → v ≡ color_number c → color_read (number_color v) e ≡ parse_color s i
told_back s i c e v r q =
    let b : Bytes c = at_ok (λ r. Bytes r.value) _ (parse_color s i) _ (color_bytes s i) r in
    rw (q, color_back c b) (sym r)

-- a function that is told
pub function_read : (s : List ℕ) (i : ℕ) (r : Read Color) → result_ok (parse_color s i) ≡ Some r → (result_ok (parse_color s i) ≡ Some r) × (parse_color s i ≡ Ok r)
function_read s i r e = (e, ok_read (parse_color s i) e)
