-- CSS Color 3's worked examples, and chosen colours of its algorithm for hsl(), computed from the definitions.
use Prim.Native.Nat.{ℕ, ◌*◌, ◌<◌}
use mathlib.Core.Bool.{Bool, false, ◌&&◌}
use mathlib.Core.Path.{◌≡◌, refl, ◌∙◌}
use native.Mathlib.Omega.{arith}
use lib.Dec.{T, eqb, eqb→eq}
use lib.Ieee.Fits.{and_l, and_r}
use lib.Ieee.{binary64, round, of_bits, of_int, lt, le, add, sub, mul, div, rem, neg}
use Rattle.text_bytes.specs.Bytes.{within}
use Rattle.stream.specs.Faults.{consume_byte, parse_list_separator}
use Rattle.text_bytes.specs.Scan.{scan, run}
use Rattle.text_bytes.specs.Words.{same, lower_of, part, is_curr_byte_eq}
use Rattle.floats.specs.Floats.{narrowed, channel_of}
use Rattle.numbers.specs.Digits.{value}
use Rattle.numbers.specs.Powers.{power_of, power_bits, hundred}
use Rattle.numbers.specs.Number.{parse_number, parse_number_or_percent, parse_list_number, parse_list_number_or_percent, number_from, finished, scaled, value_of, signed, scale_of, exponent_at, exponent_from, mantissa_at, mantissa_dot, after_sign}
use Rattle.color.specs.Hsl.{hue_to_rgb, hsl_to_rgb, hsl_color}
use Rattle.color.specs.Color.{close_bracket, parse_alpha, rgb_marked, rgb_plain, rgb_rest, parse_rgb, hsl_rest, parse_hsl, is_rgb, is_hsl, parse_word, parse_color}
use Rattle.color.specs.Hex.{rgba}
use Rattle.text_bytes.proofs.Ranges.{all_from, across}
use Rattle.color.specs.declared.Color.{Color}
use Rattle.standards.specs.CssColor3 as K
use Rattle.standards.specs.CssColor3.{Integer, as_number, size, degrees, Channels, hue_channel, document_hsl}
use Rattle.standards.specs.Ieee754.{double}
use Rattle.standards.specs.CssValues3.{is_minus, exactly}
use Rattle.standards.specs.Domain.{InDomain}
use Rattle.standards.specs.Answers.{portion}
use Rattle.standards.proofs.Clipped.{integer_double, hue_as}
use Rattle.standards.specs.Worked.{Examples, Algorithm}

pub examples : Examples
unfolding parse_color parse_word part same lower_of within is_rgb is_hsl parse_rgb rgb_rest rgb_marked rgb_plain parse_hsl hsl_rest parse_alpha close_bracket consume_byte hsl_color hsl_to_rgb hue_to_rgb narrowed channel_of parse_number parse_number_or_percent parse_list_number parse_list_number_or_percent parse_list_separator number_from finished scaled value_of signed scale_of exponent_at exponent_from mantissa_at mantissa_dot after_sign value scan run is_curr_byte_eq power_of power_bits round mul div add sub rem neg lt le of_int of_bits
examples =
    record {
      integers = refl;
      percentages = refl;
      above = refl;
      below = refl;
      above_percent = refl;
      solid = refl;
      half = refl;
      tenth = refl;
      nothing = refl;
      hsl_half = refl;
      hsl_tenth = refl;
      red = refl;
      lime = refl;
      dark_green = refl;
      light_green = refl;
      pastel_green = refl;
    }

pub algorithm : Algorithm
unfolding hue_channel K.scaled
algorithm = record { red = refl; lime = refl; dark_green = refl; light_green = refl; pastel_green = refl }

-- hues of whole twelfths of the circle, saturations and lightnesses of whole quarters
abbrev chosen : ℕ → ℕ → ℕ → Color
chosen k i j = hsl_color (round binary64 false (30 * k) 1) (div binary64 (round binary64 false (25 * i) 1) hundred) (div binary64 (round binary64 false (25 * j) 1) hundred)

abbrev agrees : Color → Channels → Bool
agrees c d = eqb c.red d.red && (eqb c.green d.green && (eqb c.blue d.blue && eqb c.alpha 255))

all_agree : T (all_from (λ k. all_from (λ i. all_from (λ j. agrees (chosen k i j) (document_hsl (30 * k) (25 * i) (25 * j))) 0 5) 0 5) 0 12)
unfolding hsl_color hsl_to_rgb hue_to_rgb narrowed channel_of round mul div add sub rem neg lt le of_bits hue_channel K.scaled
all_agree = tt

agree : (c : Color) (d : Channels) → T (agrees c d) → c ≡ rgba d.red d.green d.blue 255
agree c d t =
    let u = and_r (eqb c.red d.red) _ t in
    let v = and_r (eqb c.green d.green) _ u in
    let r : c.red ≡ d.red = eqb→eq c.red d.red (and_l (eqb c.red d.red) _ t) in
    let g : c.green ≡ d.green = eqb→eq c.green d.green (and_l (eqb c.green d.green) _ u) in
    let b : c.blue ≡ d.blue = eqb→eq c.blue d.blue (and_l (eqb c.blue d.blue) _ v) in
    let a : c.alpha ≡ 255 = eqb→eq c.alpha 255 (and_r (eqb c.blue d.blue) _ v) in
    rw (← r, ← g, ← b, ← a)

-- THEOREM. At the hues of whole twelfths of the circle and the saturations and lightnesses of whole quarters, the colour is that of the document's algorithm.
pub hsl_chosen : (h s l : Integer) → InDomain (as_number h) → is_minus s.signed ≡ false → is_minus l.signed ≡ false
    → (k i j : ℕ) → k < 12 → i < 5 → j < 5 → degrees h ≡ 30 * k → size s ≡ 25 * i → size l ≡ 25 * j
    → let c = document_hsl (30 * k) (25 * i) (25 * j) in
    hsl_color (double (exactly (as_number h))) (portion (as_number s)) (portion (as_number l)) ≡ rgba c.red c.green c.blue 255
hsl_chosen h s l ok sp lp k i j kh ih jh hq sq lq =
    let a = across (λ k. all_from (λ i. all_from (λ j. agrees (chosen k i j) (document_hsl (30 * k) (25 * i) (25 * j))) 0 5) 0 5) 0 12 all_agree k (omega arith) (omega arith) in
    let b = across (λ i. all_from (λ j. agrees (chosen k i j) (document_hsl (30 * k) (25 * i) (25 * j))) 0 5) 0 5 a i (omega arith) (omega arith) in
    let c = across (λ j. agrees (chosen k i j) (document_hsl (30 * k) (25 * i) (25 * j))) 0 5 b j (omega arith) (omega arith) in
    hue_as h ok _ _ ∙ rw (integer_double s, integer_double l, sp, lp, hq, sq, lq) (agree (chosen k i j) (document_hsl (30 * k) (25 * i) (25 * j)) c)
