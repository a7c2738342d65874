-- shift, of bytes wanted.
use Prim.Native.Nat.{ℕ, zero, suc, ◌+◌}
use mathlib.Core.List.{List, ◌++◌}
use mathlib.Core.Path.{◌≡◌, refl}
use native.Mathlib.Nat.{add_assoc}
use lib.ListN.{length, drop}
use lib.Seq.{drop-append-add}
use Rattle.utf8.specs.Characters.{char_len, skip_chars}
use Rattle.stream.specs.Faults.{consume_byte, consume_string, parse_list_separator}
use Rattle.text_bytes.specs.Moves.{move_place}
use Rattle.stream.specs.Moves.{moved}
use Rattle.text_bytes.proofs.Shifts.{cond_push, shifts, curr_shift}

module _ (a b : List ℕ) where
  pub separator_shift : (i : ℕ) → parse_list_separator (a ++ b) (length a + i) ≡ length a + parse_list_separator b i
  unfolding parse_list_separator
  separator_shift i = simp (curr_shift, add_assoc, cond_push (λ (n : ℕ). length a + n))

  pub chars_shift : (n i : ℕ) → skip_chars n (a ++ b) (length a + i) ≡ length a + skip_chars n b i
  unfolding skip_chars
  chars_shift zero i = refl
  chars_shift (suc n) i = simp (drop-append-add, add_assoc) (chars_shift n (i + char_len (drop i b)))

  pub byte_shift : (i c : ℕ) → consume_byte (a ++ b) (length a + i) c ≡ moved move_place (length a) (consume_byte b i c)
  unfolding consume_byte
  byte_shift i c = simp (shifts, cond_push (moved move_place (length a)))

  pub string_shift : (i : ℕ) (w : List ℕ) → consume_string (a ++ b) (length a + i) w ≡ moved move_place (length a) (consume_string b i w)
  unfolding consume_string
  string_shift i w = simp (shifts, chars_shift, cond_push (moved move_place (length a)))
