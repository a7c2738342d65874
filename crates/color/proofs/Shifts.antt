-- shift: reading at `length a + i` of `a ++ b` is reading at i of b, with every place moved by `length a`.
use Prim.Native.Nat.{ℕ, ◌+◌}
use mathlib.Core.List.{List, ◌++◌}
use mathlib.Core.Path.{◌≡◌, refl}
use lib.Ieee.{Float}
use lib.ListN.{length}
use Rattle.std.specs.Prelude.{Option, Some, None}
use Rattle.text_bytes.specs.Bytes.{is_space}
use Rattle.text_bytes.specs.Moves.{move_place}
use Rattle.text_bytes.specs.Scan.{scan}
use Rattle.text_bytes.specs.Words.{is_curr_byte_eq}
use Rattle.text_bytes.proofs.Ranges.{either}
use Rattle.text_bytes.proofs.Scans.{scan_shift}
use Rattle.text_bytes.proofs.Shifts.{shifts, cond_push, curr_shift, part_shift}
use Rattle.stream.specs.Faults.{consume_byte}
use Rattle.stream.specs.Moves.{moved, move_read, stays}
use Rattle.stream.proofs.Binds.{bind_moved}
use Rattle.stream.proofs.Shifts.{separator_shift, byte_shift}
use Rattle.stream.specs.declared.Read.{Read}
use Rattle.numbers.specs.Moves.{move_written}
use Rattle.numbers.specs.Number.{parse_number, parse_list_number, parse_list_number_or_percent}
use Rattle.numbers.proofs.Shifts.{number_shift, list_number_shift, list_percent_shift}
use Rattle.names.specs.Look.{named_of}
use Rattle.names.specs.declared.Named.{Named}
use Rattle.names.specs.declared.Named.TheVariants as N
use Rattle.color.specs.Hex.{short_hex, hex_pair, short_color, long_color, parse_hex}
use Rattle.color.specs.Color.{close_bracket, parse_alpha, rgb_marked, rgb_plain, rgb_rest, parse_rgb, hsl_rest, parse_hsl, named_read, named_color, parse_word, parse_color}
use Rattle.color.specs.declared.Color.{Color}

-- its place moves, and not the colour
abbrev pub move_color : ℕ → Read Color → Read Color
move_color = move_read stays

module _ (a b : List ℕ) where
  short_hex_shift : (i : ℕ) → short_hex (a ++ b) (length a + i) ≡ short_hex b i
  unfolding short_hex
  short_hex_shift i = simp shifts

  pair_shift : (i : ℕ) → hex_pair (a ++ b) (length a + i) ≡ hex_pair b i
  unfolding hex_pair
  pair_shift i = simp shifts

  short_shift : (i n : ℕ) → short_color (a ++ b) (length a + i) n ≡ short_color b i n
  unfolding short_color
  short_shift i n = simp (shifts, short_hex_shift)

  long_shift : (i n : ℕ) → long_color (a ++ b) (length a + i) n ≡ long_color b i n
  unfolding long_color
  long_shift i n = simp (shifts, pair_shift)

  hex_shift : (i : ℕ) → parse_hex (a ++ b) (length a + i) ≡ moved move_color (length a) (parse_hex b i)
  unfolding parse_hex
  hex_shift i = simp (shifts, short_hex_shift, pair_shift, short_shift, long_shift, cond_push (moved move_color (length a)))

  close_shift : (i : ℕ) (c : Color) → close_bracket (a ++ b) (length a + i) c ≡ moved move_color (length a) (close_bracket b i c)
  unfolding close_bracket
  close_shift i c =
      simp scan_shift
      (bind_moved move_place move_color (length a) (consume_byte b (scan is_space b i) 41) _ _ _ (byte_shift a b (scan is_space b i) 41) (λ p. refl))

  alpha_shift : (i : ℕ) (c : Color) → parse_alpha (a ++ b) (length a + i) c ≡ moved move_color (length a) (parse_alpha b i c)
  unfolding parse_alpha
  alpha_shift i c =
      let start = scan is_space b i in
      either (is_curr_byte_eq b start 41) (λ e. simp (scan_shift, curr_shift, e) (close_shift start c))
      (λ e. simp (scan_shift, curr_shift, e)
      (bind_moved (move_read move_written) move_color (length a) (parse_list_number b start) _ _ _ (list_number_shift a b start) (λ r. close_shift r.next.0 _)))

  marked_shift : (i : ℕ) (n : Float) → rgb_marked (a ++ b) (length a + i) n ≡ moved move_color (length a) (rgb_marked b i n)
  unfolding rgb_marked
  marked_shift i n =
      bind_moved (move_read move_written) move_color (length a) (parse_list_number_or_percent b i) _ _ _ (list_percent_shift a b i) (λ g.
      bind_moved (move_read move_written) move_color (length a) (parse_list_number_or_percent b g.next.0) _ _ _ (list_percent_shift a b g.next.0) (λ r.
      alpha_shift r.next.0 _))

  plain_shift : (i : ℕ) (n : Float) → rgb_plain (a ++ b) (length a + i) n ≡ moved move_color (length a) (rgb_plain b i n)
  unfolding rgb_plain
  plain_shift i n =
      bind_moved (move_read move_written) move_color (length a) (parse_list_number b i) _ _ _ (list_number_shift a b i) (λ g.
      bind_moved (move_read move_written) move_color (length a) (parse_list_number b g.next.0) _ _ _ (list_number_shift a b g.next.0) (λ r.
      alpha_shift r.next.0 _))

  rgb_rest_shift : (i : ℕ) (n : Float) → rgb_rest (a ++ b) (length a + i) n ≡ moved move_color (length a) (rgb_rest b i n)
  unfolding rgb_rest
  rgb_rest_shift i n = simp (shifts, curr_shift, separator_shift, marked_shift, plain_shift, cond_push (moved move_color (length a)))

  rgb_shift : (i : ℕ) → parse_rgb (a ++ b) (length a + i) ≡ moved move_color (length a) (parse_rgb b i)
  unfolding parse_rgb
  rgb_shift i =
      bind_moved move_place move_color (length a) (consume_byte b i 40) _ _ _ (byte_shift a b i 40) (λ p.
      bind_moved (move_read move_written) move_color (length a) (parse_number b p.0) _ _ _ (number_shift a b p.0) (λ r.
      rgb_rest_shift r.next.0 r.value.value))

  hsl_rest_shift : (i : ℕ) (hue : Float) → hsl_rest (a ++ b) (length a + i) hue ≡ moved move_color (length a) (hsl_rest b i hue)
  unfolding hsl_rest
  hsl_rest_shift i hue =
      bind_moved (move_read move_written) move_color (length a) (parse_list_number_or_percent b i) _ _ _ (list_percent_shift a b i) (λ g.
      bind_moved (move_read move_written) move_color (length a) (parse_list_number_or_percent b g.next.0) _ _ _ (list_percent_shift a b g.next.0) (λ r.
      alpha_shift r.next.0 _))

  hsl_shift : (i : ℕ) → parse_hsl (a ++ b) (length a + i) ≡ moved move_color (length a) (parse_hsl b i)
  unfolding parse_hsl
  hsl_shift i =
      bind_moved move_place move_color (length a) (consume_byte b i 40) _ _ _ (byte_shift a b i 40) (λ p.
      bind_moved (move_read move_written) move_color (length a) (parse_list_number b p.0) _ _ _ (list_number_shift a b p.0) (λ r.
      hsl_rest_shift r.next.0 r.value.value))

  named_shift : (w : List ℕ) (end : ℕ) → named_color w (length a + end) ≡ moved move_color (length a) (named_color w end)
  unfolding named_color
  named_shift w end = go (named_of w)
    where
      go : (x : Option Named) → named_read x (length a + end) ≡ moved move_color (length a) (named_read x end)
      go (Some (N.Keyword c)) = refl
      go (Some N.Transparent) = refl
      go None = refl

  word_shift : (i : ℕ) → parse_word (a ++ b) (length a + i) ≡ moved move_color (length a) (parse_word b i)
  unfolding parse_word
  word_shift i = simp (shifts, part_shift, rgb_shift, hsl_shift, named_shift, cond_push (moved move_color (length a)))

  pub color_shift : (i : ℕ) → parse_color (a ++ b) (length a + i) ≡ moved move_color (length a) (parse_color b i)
  unfolding parse_color
  color_shift i = simp (shifts, hex_shift, word_shift, cond_push (moved move_color (length a)))
