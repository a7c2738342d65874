-- Numbers and colours, as far as Documents does not have them: whatever is read, what is refused, and which channel is the nearest.
use Rattle.std.specs.Prelude.{ℕ, ◌+◌, ◌*◌, ◌≤◌, ◌<◌, true, false, List, ◌∷◌, ◌++◌, map, ◌⊎◌, ◌≡◌, Float, length, get_or, drop, Ok, Err}
use Rattle.std.specs.Float.{binary64}
use Rattle.std.specs.Float.Ieee.{of_bits}
use Rattle.text_bytes.specs.Bytes.{is_space, is_hex_digit, is_ascii_ident}
use Rattle.text_bytes.specs.Moves.{place}
use Rattle.text_bytes.specs.Scan.{run, scan}
use Rattle.text_bytes.specs.Words.{is_curr_byte_eq, lowered}
use Rattle.text_bytes.specs.declared.Place.{Place}
use Rattle.stream.specs.Faults.{invalid_value}
use Rattle.stream.specs.Refusals.{empty_refusal, admit_text}
use Rattle.stream.specs.declared.Trouble.TheVariants as T
use Rattle.stream.specs.declared.Reason.TheVariants as R
use Rattle.floats.specs.Floats.{channel_of, d0, d1}
use Rattle.numbers.specs.Decimal as Decimals
use Rattle.numbers.specs.Decimal.{written}
use Rattle.numbers.specs.Moves as N
use Rattle.numbers.specs.Number.{parse_number, parse_number_or_percent}
use Rattle.color.specs.Answer.{from_str}
use Rattle.color.specs.Color.{scaled_channel, parse_color}
use Rattle.color.specs.Hex.{rgba}
use Rattle.color.specs.Hsl.{hsl_color}
use Rattle.color.specs.declared.Color.{Color}
use Rattle.standards.specs.Written.{ascii, every}
use Rattle.standards.specs.Ieee754.{Fraction, parameters, RoundsTo, double, gain}
use Rattle.standards.specs.CssValues3.{Blank, blanks, Number, number, exactly, is_integer, is_minus}
use Rattle.standards.specs.CssColor3.{Integer, as_number, size, degrees, channel, scaled, hundredths, percent, alpha, document_hsl}
use Rattle.standards.specs.CssColor3Names.{keywords}
use Rattle.standards.specs.CssColor4.{Digit, character, hashed, HexColor, digits, hex_text, channels}
use Rattle.standards.specs.Svg2.{radian_below, radian_above}
use Rattle.standards.specs.Nearest.{NearestUp, Grained, OffHalf, Share, fine, coarse, Decimals}
use Rattle.standards.specs.Domain.{InDomain}
use Rattle.standards.specs.Colors.{line}
use Rattle.standards.specs.Answers.{Apart, read_on, number_of, portion, Hundredth, color_of}

-- what is written at a place of a text, as a fraction
abbrev pub fraction : Decimals.Decimal → Fraction
fraction d = record { minus = d.minus; over = d.over; under = d.under }

-- CSS Values 3, sections 4.2 and 4.3
pub record WrittenNumbers : Type 0 where
  -- A number of the grammar at any place, after white space, and with which what follows does not go on, is the double nearest to it
  pub numbers : (s : List ℕ) (i : ℕ) (l : List Blank) (t : Number) (rest : List ℕ) → InDomain t → Apart t rest → drop i s ≡ blanks l ++ (number t ++ rest)
      → (let end = i + (length l + length (number t)) in parse_number s i ≡ read_on (number_of t end) (place end))
  -- and a percentage (37 is `%`) that, divided by 100
  pub percentages : (s : List ℕ) (i : ℕ) (l : List Blank) (t : Number) (rest : List ℕ) → InDomain t → drop i s ≡ blanks l ++ (number t ++ (37 ∷ rest))
      → (let end = i + (length l + length (number t)) in parse_number_or_percent s i ≡ read_on (record { value = portion t; whole = is_integer t; end = place end }) (place (end + 1)))
  -- Whatever number is read is the double nearest to the decimal that is written, and with a `%` after it the hundredth
  pub nearest : (s : List ℕ) (i : ℕ) (n : N.Number) (p : Place) → parse_number s i ≡ read_on n p → RoundsTo (parameters binary64) (fraction (written s (scan is_space s i))) n.value
  pub hundredth : (s : List ℕ) (i : ℕ) (n : N.Number) (p : Place) → parse_number s i ≡ read_on n p → is_curr_byte_eq s p.0 37 ≡ true
      → (x : N.Number) × (parse_number_or_percent s i ≡ read_on x (place (p.0 + 1))) × Hundredth (fraction (written s (scan is_space s i))) x.value
  -- The reader's 57.29577951308232, by which radians are multiplied, is the double nearest to 180 / π, which lies between the two fractions
  pub radian_below_is : double radian_below ≡ of_bits binary64 0x404c_a5dc_1a63_c1f8
  pub radian_above_is : double radian_above ≡ of_bits binary64 0x404c_a5dc_1a63_c1f8

-- a number of digits that no text of the grammar has
pub record Unfit (n : ℕ) : Type 0 where
  pub not_3 : n ≡ 3 → ⊥
  pub not_4 : n ≡ 4 → ⊥
  pub not_6 : n ≡ 6 → ⊥
  pub not_8 : n ≡ 8 → ⊥

-- a text as a run of the standard's digits, all that the scan takes, and what follows it
pub record Split (s : List ℕ) : Type 0 where
  pub taken : List Digit
  pub rest : List ℕ
  pub joined : map character taken ++ rest ≡ s
  pub counted : run is_hex_digit s ≡ length taken
  pub ended : is_hex_digit (get_or rest 0 0) ≡ false

-- a text of the grammar, with its channels, at the front of a text
pub record Hexed (s : List ℕ) (c : Color) : Type 0 where
  pub tree : HexColor
  pub rest : List ℕ
  pub text : hex_text tree ++ rest ≡ s
  pub ended : is_hex_digit (get_or rest 0 0) ≡ false
  pub read : c ≡ color_of (channels tree)

-- CSS Color 4, the hex notations
pub record HexColors : Type 0 where
  -- three, four, six or eight digits are read with exactly these channels, and reading goes on after them
  pub read : (t : HexColor) (rest : List ℕ) → is_hex_digit (get_or rest 0 0) ≡ false → parse_color (hex_text t ++ rest) 0 ≡ read_on (color_of (channels t)) (place (1 + length (digits t)))
  pub whole : (l m : List Blank) (t : HexColor) → length l + (1 + length (digits t) + length m) ≤ 4096 → from_str (blanks l ++ (hex_text t ++ blanks m)) ≡ Ok (color_of (channels t))
  -- any other run of digits is 5 where it ends,
  pub refused : (ds : List Digit) (rest : List ℕ) → is_hex_digit (get_or rest 0 0) ≡ false → Unfit (length ds) → parse_color (hashed ds ++ rest) 0 ≡ Err (invalid_value (1 + length ds))
  pub refused_whole : (ds : List Digit) (rest : List ℕ) → is_hex_digit (get_or rest 0 0) ≡ false → Unfit (length ds) → admit_text (hashed ds ++ rest) ≡ Ok tt
      → from_str (hashed ds ++ rest) ≡ Err (empty_refusal (R.Unread T.InvalidValue) (1 + length ds))
  -- nothing else that begins with `#` (35) is a colour,
  pub only : (s : List ℕ) (c : Color) (p : Place) → parse_color (35 ∷ s) 0 ≡ read_on c p → Hexed (35 ∷ s) c
  -- and no text is left out: each is a run of digits, of some length, and what follows it
  pub all : (s : List ℕ) → Split s

-- a word in lower case that is no keyword of the standard, not `transparent`, and no function's
pub record Other (n : List ℕ) : Type 0 where
  pub no_keyword : (k : ℕ) → k < length keywords → n ≡ ascii (line k).name → ⊥
  pub no_transparent : n ≡ ascii "transparent" → ⊥
  pub no_rgb : n ≡ ascii "rgb" → ⊥
  pub no_rgba : n ≡ ascii "rgba" → ⊥
  pub no_hsl : n ≡ ascii "hsl" → ⊥
  pub no_hsla : n ≡ ascii "hsla" → ⊥

-- CSS Color 3, section 4.3, and `transparent`: words in any letter case, which no letter, digit, `-` or `_` follows
pub record ColourNames : Type 0 where
  pub count : length keywords ≡ 147
  pub read : (k : ℕ) → k < length keywords → (w rest : List ℕ) → lowered w ≡ ascii (line k).name → is_ascii_ident (get_or rest 0 0) ≡ false
      → parse_color (w ++ rest) 0 ≡ read_on (rgba (line k).red (line k).green (line k).blue 255) (place (length w))
  pub whole : (l m : List Blank) (k : ℕ) → k < length keywords → (w : List ℕ) → lowered w ≡ ascii (line k).name → length l + (length w + length m) ≤ 4096
      → from_str (blanks l ++ (w ++ blanks m)) ≡ Ok (rgba (line k).red (line k).green (line k).blue 255)
  pub transparent : (w rest : List ℕ) → lowered w ≡ ascii "transparent" → is_ascii_ident (get_or rest 0 0) ≡ false → parse_color (w ++ rest) 0 ≡ read_on (rgba 0 0 0 0) (place (length w))
  -- no other word is a colour: it is 5 at its end
  pub other : (w rest : List ℕ) → every is_ascii_ident w ≡ true → 0 < length w → is_ascii_ident (get_or rest 0 0) ≡ false → Other (lowered w)
      → parse_color (w ++ rest) 0 ≡ Err (invalid_value (length w))
  pub other_whole : (w rest : List ℕ) → every is_ascii_ident w ≡ true → 0 < length w → is_ascii_ident (get_or rest 0 0) ≡ false → Other (lowered w)
      → admit_text (w ++ rest) ≡ Ok tt → from_str (w ++ rest) ≡ Err (empty_refusal (R.Unread T.InvalidValue) (length w))

-- CSS Color 3, sections 4.2.1 and 4.2.2: what the channels of rgb() and rgba() are
pub record NearestChannels : Type 0 where
  -- an integer is clipped; a percentage and an alpha, of any sign, size and number of decimals, is its share
  pub integers : (i : Integer) → InDomain (as_number i) → channel_of (double (exactly (as_number i))) ≡ channel i
  pub percentages : (t : Number) → Share fine (hundredths (exactly t)) (scaled_channel (portion t))
  pub alphas : (t : Number) → Share fine (exactly t) (scaled_channel (double (exactly t)))
  -- Where that is the nearest channel, of two as near it is the greater
  pub percentages_up : (t : Number) → Grained fine (hundredths (exactly t)) ⊎ OffHalf fine (hundredths (exactly t)) → scaled_channel (portion t) ≡ percent t
  pub alphas_up : (t : Number) → Grained fine (exactly t) ⊎ OffHalf fine (exactly t) → scaled_channel (double (exactly t)) ≡ alpha t
  -- and it is for every percentage of at most 12 decimals and every alpha of at most 14
  pub twelve : (t : Number) → Decimals 12 t → Grained fine (hundredths (exactly t))
  pub fourteen : (t : Number) → Decimals 14 t → Grained fine (exactly t)
  -- There is one such channel
  pub one : (q : Fraction) → q.minus ≡ false → 0 < q.under → NearestUp (scaled q) q.over q.under
  pub no_other : (q : Fraction) → q.minus ≡ false → 0 < q.under → (c : ℕ) → NearestUp c q.over q.under → c ≡ scaled q

-- CSS Color 3, section 4.2.4: what is fixed of the channels of hsl(). The readers take the hue, the saturation and the lightness as doubles
pub record HslScales : Type 0 where
  -- a lightness of 0% or below is black, of 100% or above white, whatever the hue and the saturation
  pub black : (l : Number) → gain (exactly l) ≡ 0 → (hue s : Float) → hsl_color hue s (portion l) ≡ rgba 0 0 0 255
  pub white : (h s l : Number) → InDomain h → InDomain s → 100 * (exactly l).under ≤ gain (exactly l) → hsl_color (double (exactly h)) (portion s) (portion l) ≡ rgba 255 255 255 255
  -- with a saturation of 0% or below it is the grey that is nearest to the lightness, where that has at most 3 decimals
  pub grey : (h s l : Number) → InDomain h → InDomain l → gain (exactly s) ≡ 0 → Grained coarse (hundredths (exactly l)) ⊎ OffHalf coarse (hundredths (exactly l))
      → hsl_color (double (exactly h)) (portion s) (portion l) ≡ rgba (percent l) (percent l) (percent l) 255
  pub three : (t : Number) → Decimals 3 t → Grained coarse (hundredths (exactly t))
  -- whole hues a whole number of turns apart are one colour
  pub turns : (i j : Integer) → InDomain (as_number i) → InDomain (as_number j) → degrees i ≡ degrees j → (s l : Float)
      → hsl_color (double (exactly (as_number i))) s l ≡ hsl_color (double (exactly (as_number j))) s l
  -- a saturation or a lightness below 0% is as 0%, above 100% as 100%
  pub saturation_below : (t : Number) → InDomain t → (exactly t).minus ≡ true → 0 < (exactly t).over → (hue l : Float) → hsl_color hue (portion t) l ≡ hsl_color hue d0 l
  pub lightness_below : (t : Number) → InDomain t → (exactly t).minus ≡ true → 0 < (exactly t).over → (hue s : Float) → hsl_color hue s (portion t) ≡ hsl_color hue s d0
  pub saturation_above : (t : Number) → (exactly t).minus ≡ false → 100 * (exactly t).under ≤ (exactly t).over → (hue l : Float) → hsl_color hue (portion t) l ≡ hsl_color hue d1 l
  pub lightness_above : (t : Number) → (exactly t).minus ≡ false → 100 * (exactly t).under ≤ (exactly t).over → (hue s : Float) → hsl_color hue s (portion t) ≡ hsl_color hue s d1
  -- at the hues of whole twelfths of the circle and the saturations and lightnesses of whole quarters it is the colour of the section's algorithm
  pub chosen : (h s l : Integer) → InDomain (as_number h) → is_minus s.signed ≡ false → is_minus l.signed ≡ false
      → (k i j : ℕ) → k < 12 → i < 5 → j < 5 → degrees h ≡ 30 * k → size s ≡ 25 * i → size l ≡ 25 * j
      → let c = document_hsl (30 * k) (25 * i) (25 * j) in
      hsl_color (double (exactly (as_number h))) (portion (as_number s)) (portion (as_number l)) ≡ rgba c.red c.green c.blue 255
