-- The channels of every colour that is read are bytes.
use Prim.Native.Nat.{ℕ, ◌+◌, ◌-◌, ◌*◌, ◌/◌, ◌<◌}
use native.Mathlib.Nat.{min-le_left}
use mathlib.Core.Bool.{Bool, true, false, ◌&&◌}
use mathlib.Core.List.{List, [], ◌∷◌}
use mathlib.Core.Path.{◌≡◌, refl, sym}
use native.Mathlib.Omega.{arith}
use borrow.Author.Tests.{ltb-true}
use lib.Dec.{eqb, leb, ltb}
use lib.Ieee.{Float, nan, inf, fin, up, down}
use lib.ListN.{length, get_or}
use Rattle.std.specs.Prelude.{Result, Ok, Err, MatchResult, ⊤, if◌then◌else◌}
use Rattle.text_bytes.specs.Bytes.{within, is_space, is_hex_digit, is_ascii_ident}
use Rattle.text_bytes.specs.Flow.{◌>>=◌}
use Rattle.text_bytes.specs.Scan.{scan}
use Rattle.text_bytes.specs.Words.{ascii, same, lowered, part, is_curr_byte_eq}
use Rattle.text_bytes.proofs.Ranges.{and_first, and_second, either, within_le}
use Rattle.stream.specs.Faults.{consume_byte, unexpected_data}
use Rattle.stream.specs.Refusals.{admit_text, at_edge}
use Rattle.stream.specs.declared.Fault.{Fault}
use Rattle.stream.specs.declared.Read.{Read}
use Rattle.stream.specs.declared.Refusal.{Refusal}
use Rattle.floats.specs.Floats.{channel_of}
use Rattle.numbers.specs.Moves.{Number}
use Rattle.numbers.specs.Number.{parse_number, parse_list_number, parse_list_number_or_percent, after_item}
use Rattle.names.specs.Keywords.{Keyword, keywords}
use Rattle.names.specs.Look.{look_up, named_of}
use Rattle.color.specs.Answer.{from_str}
use Rattle.color.specs.Color.{close_bracket, parse_alpha, rgb_marked, rgb_plain, rgb_rest, parse_rgb, hsl_rest, parse_hsl, is_rgb, is_hsl, named_read, named_color, parse_word, parse_color, parse_color_text}
use Rattle.color.specs.Hex.{rgba, color_read, from_hex, short_hex, hex_pair, short_color, long_color, parse_hex}
use Rattle.color.specs.Hsl.{hsl_to_rgb, hsl_color}
use Rattle.color.specs.declared.Color.{Color}
use Rattle.packed.specs.Fits.{Bytes}
use Rattle.packed.specs.Numbers.{channels}

-- a colour that is read, if one is
abbrev pub Low : {E : Type 0} → Result (Read Color) E → Type 0
Low x = MatchResult x (λ r. Bytes r.value) (λ _. ⊤)

-- whatever came before it
step : {A E : Type 0} (r : Result A E) (f : A → Result (Read Color) E) → ((x : A) → Low (f x)) → Low (r >>= f)
step (Ok a) f k = k a
step (Err e) f k = tt

channel_byte : (x : Float) → channel_of x < channels
unfolding channel_of
channel_byte nan = omega arith
channel_byte (inf true) = omega arith
channel_byte (inf false) = omega arith
channel_byte (fin true m e) = omega arith
channel_byte (fin false m e) = omega (arith, min-le_left 255 ((2 * (m * up e) + down e) / (2 * down e)))

opaque : (x y z : Float) → Bytes (rgba (channel_of x) (channel_of y) (channel_of z) 255)
opaque x y z = record { red = channel_byte x; green = channel_byte y; blue = channel_byte z; alpha = omega arith }

pub digit_low : (b : ℕ) → from_hex b < 16
unfolding from_hex
digit_low b =
    either (within 48 57 b) (λ e. simp e (omega (arith, within_le 48 57 b (sym e))))
    (λ d. either (within 97 102 b) (λ e. simp (d, e) (omega (arith, within_le 97 102 b (sym e))))
    (λ f. either (within 65 70 b) (λ e. simp (d, f, e) (omega (arith, within_le 65 70 b (sym e)))) (λ g. simp (d, f, g) (omega arith))))

module _ (s : List ℕ) where
  pub pair_byte : (i : ℕ) → hex_pair s i < channels
  unfolding hex_pair
  pair_byte i = omega (arith, digit_low (get_or s i 0), digit_low (get_or s (i + 1) 0))

  pub short_byte : (i : ℕ) → short_hex s i < channels
  unfolding short_hex
  short_byte i = omega (arith, digit_low (get_or s i 0))

  hex_bytes : (at : ℕ) → Low (parse_hex s at)
  unfolding parse_hex long_color short_color
  hex_bytes at =
      let n = scan is_hex_digit s at - at in
      let long : (a : ℕ) → a < channels → Bytes (long_color s at a) = λ a h. record { red = pair_byte at; green = pair_byte (at + 2); blue = pair_byte (at + 4); alpha = h } in
      let short : (a : ℕ) → a < channels → Bytes (short_color s at a) = λ a h. record { red = short_byte at; green = short_byte (at + 1); blue = short_byte (at + 2); alpha = h } in
      either (eqb n 6) (λ e. simp e (long 255 (omega arith)))
      (λ d. either (eqb n 8) (λ e. simp (d, e) (long (hex_pair s (at + 6)) (pair_byte (at + 6))))
      (λ f. either (eqb n 3) (λ e. simp (d, f, e) (short 255 (omega arith)))
      (λ g. either (eqb n 4) (λ e. simp (d, f, g, e) (short (short_hex s (at + 3)) (short_byte (at + 3)))) (λ e. simp (d, f, g, e) tt))))

  close_bytes : (at : ℕ) (c : Color) → Bytes c → Low (close_bracket s at c)
  unfolding close_bracket
  close_bytes at c h = step (consume_byte s (scan is_space s at) 41) _ (λ p. h)

  alpha_bytes : (at : ℕ) (c : Color) → Bytes c → Low (parse_alpha s at c)
  unfolding parse_alpha
  alpha_bytes at c h =
      let i = scan is_space s at in
      either (is_curr_byte_eq s i 41) (λ e. simp e (close_bytes i c h))
      (λ e. simp e (step (parse_list_number s i) _
      (λ r. close_bytes r.next.0 _ (record { red = h.red; green = h.green; blue = h.blue; alpha = channel_byte _ }))))

  -- two numbers or percents, and alpha
  percents_bytes : (at : ℕ) (c : Number → Number → Color) → ((g b : Number) → Bytes (c g b))
      → Low (parse_list_number_or_percent s at >>= (λ (g : Read Number). parse_list_number_or_percent s g.next.0 >>= (λ (b : Read Number). parse_alpha s b.next.0 (c g.value b.value))))
  percents_bytes at c h =
      step (parse_list_number_or_percent s at) _
      (λ g. step (parse_list_number_or_percent s g.next.0) _ (λ b. alpha_bytes b.next.0 (c g.value b.value) (h g.value b.value)))

  marked_bytes : (at : ℕ) (n : Float) → Low (rgb_marked s at n)
  unfolding rgb_marked
  marked_bytes at n = percents_bytes at _ (λ g b. opaque _ _ _)

  plain_bytes : (at : ℕ) (n : Float) → Low (rgb_plain s at n)
  unfolding rgb_plain
  plain_bytes at n =
      step (parse_list_number s at) _
      (λ g. step (parse_list_number s g.next.0) _ (λ b. alpha_bytes b.next.0 _ (opaque _ _ _)))

  rgb_rest_bytes : (at : ℕ) (n : Float) → Low (rgb_rest s at n)
  unfolding rgb_rest
  rgb_rest_bytes at n =
      either (is_curr_byte_eq s at 37) (λ e. simp e (marked_bytes (after_item s (at + 1)) n)) (λ e. simp e (plain_bytes (after_item s at) n))

  rgb_bytes : (at : ℕ) → Low (parse_rgb s at)
  unfolding parse_rgb
  rgb_bytes at =
      step (consume_byte s at 40) _ (λ p. step (parse_number s p.0) _ (λ n. rgb_rest_bytes n.next.0 n.value.value))

  hsl_rest_bytes : (at : ℕ) (hue : Float) → Low (hsl_rest s at hue)
  unfolding hsl_rest hsl_color hsl_to_rgb
  hsl_rest_bytes at hue = percents_bytes at _ (λ g b. opaque _ _ _)

  hsl_bytes : (at : ℕ) → Low (parse_hsl s at)
  unfolding parse_hsl
  hsl_bytes at =
      step (consume_byte s at 40) _ (λ p. step (parse_list_number s p.0) _ (λ n. hsl_rest_bytes n.next.0 n.value.value))

-- the table, computed once over the whole
unfoldable low : List Keyword → Bool
low [] = true
low (e ∷ es) = ltb e.red channels && (ltb e.green channels && (ltb e.blue channels && low es))

look_bytes : (es : List Keyword) (w : List ℕ) (end : ℕ) → low es ≡ true → Low (named_read (look_up es w) end)
unfolding look_up low
look_bytes [] w end h =
    either (same w (ascii "transparent")) (λ t. simp t (record { red = omega arith; green = omega arith; blue = omega arith; alpha = omega arith })) (λ t. simp t tt)
look_bytes (e ∷ es) w end h =
    let r = ltb e.red channels in
    let g = ltb e.green channels in
    let b = ltb e.blue channels in
    let i : (g && (b && low es)) ≡ true = and_second r (g && (b && low es)) h in
    let j : (b && low es) ≡ true = and_second g (b && low es) i in
    let k : Bytes (rgba e.red e.green e.blue 255) =
    record {
      red = ltb-true e.red channels (and_first r (g && (b && low es)) h);
      green = ltb-true e.green channels (and_first g (b && low es) i);
      blue = ltb-true e.blue channels (and_first b (low es) j);
      alpha = omega arith;
    } in
    either (same w e.name) (λ t. simp t k) (λ t. simp t (look_bytes es w end (and_second b (low es) j)))

-- of a word as it is written, and with letter case ignored
pub written_bytes : (w : List ℕ) (end : ℕ) → Low (named_read (look_up keywords w) end)
unfolding keywords low
written_bytes w end = look_bytes keywords w end refl

named_bytes : (w : List ℕ) (end : ℕ) → Low (named_color w end)
unfolding named_color named_of
named_bytes w end = written_bytes (lowered w) end

module _ (s : List ℕ) where
  word_bytes : (at : ℕ) → Low (parse_word s at)
  unfolding parse_word
  word_bytes at =
      let end = scan is_ascii_ident s at in
      let w = part s at end in
      either (is_rgb w) (λ e. simp e (rgb_bytes s end))
      (λ d. either (is_hsl w) (λ e. simp (d, e) (hsl_bytes s end)) (λ e. simp (d, e) (named_bytes w end)))

  pub color_bytes : (at : ℕ) → Low (parse_color s at)
  unfolding parse_color
  color_bytes at =
      let i = scan is_space s at in
      either (leb (length s) i) (λ e. simp e tt)
      (λ d. either (eqb (get_or s i 0) 35) (λ e. simp (d, e) (hex_bytes s (i + 1))) (λ e. simp (d, e) (word_bytes i)))

  pub text_bytes : Low (parse_color_text s)
  unfolding parse_color_text
  text_bytes = go (parse_color s 0) (color_bytes 0)
    where
      go : (x : Result (Read Color) Fault) → Low x
          → Low (x >>= (λ r. if ltb (scan is_space s r.next.0) (length s) then Err (unexpected_data s (scan is_space s r.next.0)) else color_read r.value (length s)))
      go (Ok r) h = either (ltb (scan is_space s r.next.0) (length s)) (λ e. simp e tt) (λ e. simp e h)
      go (Err e) h = tt

-- as a whole text
pub answer_bytes : (s : List ℕ) (c : Color) → from_str s ≡ Ok c → Bytes c
unfolding from_str
answer_bytes s c = go (admit_text s) (parse_color_text s) (text_bytes s)
  where
    go : (x : Result (Unit {0}) Refusal) (r : Result (Read Color) Fault) → Low r → (x >>= (λ _. at_edge s r >>= (λ (d : Read Color). Ok d.value))) ≡ Ok c → Bytes c
    go (Ok u) (Ok d) h q =
        let z : d.value ≡ c = cc in
        rw z at h
    go (Ok u) (Err f) h q = cc
    go (Err f) r h q = cc
