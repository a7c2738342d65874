-- more: with a closing bracket ahead, what is appended to the text changes no colour, accepted or refused.
use Prim.Native.Nat.{ℕ, ◌+◌, ◌-◌}
use mathlib.Core.Bool.{false}
use mathlib.Core.List.{List, ◌++◌}
use mathlib.Core.Path.{◌≡◌, refl}
use native.Mathlib.Omega.{arith}
use borrow.Author.Tests.{lt-leb, eqb-true}
use lib.Dec.{eqb, leb}
use lib.Ieee.{Float}
use lib.ListN.{length, get_or}
use Rattle.std.specs.Prelude.{Result, MatchResult}
use Rattle.text_bytes.specs.Bytes.{is_space, is_hex_digit, is_ascii_ident}
use Rattle.text_bytes.specs.Flow.{◌>>=◌}
use Rattle.text_bytes.specs.Scan.{scan}
use Rattle.text_bytes.specs.Words.{is_curr_byte_eq}
use Rattle.text_bytes.proofs.Ahead.{Ahead, ahead_back, ahead_inside, ahead_pass, ahead_scan, get_or_more, scan_more, end_more, part_more, hex_stop, word_stop}
use Rattle.text_bytes.proofs.Ranges.{either}
use Rattle.text_bytes.proofs.Scans.{scan_ge}
use Rattle.stream.specs.declared.Fault.{Fault}
use Rattle.stream.specs.declared.Read.{Read}
use Rattle.stream.proofs.Binds.{bind_same}
use Rattle.stream.proofs.Goes.{goes_item, past_ahead}
use Rattle.stream.proofs.Sames.{curr_more, curr_ahead, next_ahead, same_byte, same_closed}
use Rattle.stream.proofs.Stretches.{LiesFrom}
use Rattle.numbers.specs.Moves.{Number}
use Rattle.numbers.specs.Number.{after_item}
use Rattle.numbers.proofs.Sames.{number_more, list_number_more, list_percent_more, item_more}
use Rattle.numbers.proofs.Values.{Taken, number_taken, list_number_taken, list_percent_taken}
use Rattle.color.specs.Hex.{short_hex, hex_pair, short_color, long_color, parse_hex}
use Rattle.color.specs.Color.{close_bracket, parse_alpha, rgb_marked, rgb_plain, rgb_rest, parse_rgb, hsl_rest, parse_hsl, parse_word, parse_color}
use Rattle.color.specs.declared.Color.{Color}

-- a number that is read alike is gone on with alike
same_number : {B : Type 0} {a : List ℕ} {i : ℕ} {r s : Result (Read Number) Fault} (f g : Read Number → Result B Fault) → Ahead a i
    → s ≡ r → MatchResult r (Taken a i) (LiesFrom a i) → ((x : Read Number) → Ahead a x.next.0 → g x ≡ f x) → (s >>= g) ≡ (r >>= f)
same_number {B} {a} {i} {r} {s} f g h e v k = bind_same (Taken a i) (LiesFrom a i) r s f g e v (λ x t. k x (past_ahead t.past h))

item_ahead : {a : List ℕ} (i : ℕ) → Ahead a i → Ahead a (after_item a i)
item_ahead {a} i h = ahead_pass h (goes_item a i).passes

module _ (a b : List ℕ) where
  -- the digits of a run that ends before the bracket
  short_hex_more : (i : ℕ) → Ahead a i → short_hex (a ++ b) i ≡ short_hex a i
  unfolding short_hex
  short_hex_more i h = simp get_or_more

  pair_more : (i : ℕ) → Ahead a (i + 1) → hex_pair (a ++ b) i ≡ hex_pair a i
  unfolding hex_pair
  pair_more i h = let k : Ahead a i = ahead_back h (omega arith) in simp get_or_more

  short_more : (i n : ℕ) → Ahead a (i + 2) → short_color (a ++ b) i n ≡ short_color a i n
  unfolding short_color
  short_more i n h =
      let j : Ahead a i = ahead_back h (omega arith) in
      let k : Ahead a (i + 1) = ahead_back h (omega arith) in
      simp short_hex_more

  long_more : (i n : ℕ) → Ahead a (i + 5) → long_color (a ++ b) i n ≡ long_color a i n
  unfolding long_color
  long_more i n h =
      simp (pair_more i (ahead_back h (omega arith)), pair_more (i + 2) (ahead_back h (omega arith)), pair_more (i + 4) (ahead_back h (omega arith)))

  hex_more : (at : ℕ) → Ahead a at → parse_hex (a ++ b) at ≡ parse_hex a at
  unfolding parse_hex
  hex_more at h =
      let end = scan is_hex_digit a at in
      let s : scan is_hex_digit (a ++ b) at ≡ end = scan_more is_hex_digit a b at h hex_stop in
      let k : Ahead a end = ahead_scan is_hex_digit at h hex_stop in
      either (eqb (end - at) 6) (λ e. simp (s, e, long_more at 255 (ahead_back k (omega (arith, eqb-true (end - at) 6 e)))))
      (λ e. either (eqb (end - at) 8)
      (λ f.
      let p : hex_pair (a ++ b) (at + 6) ≡ hex_pair a (at + 6) = pair_more (at + 6) (ahead_back k (omega (arith, eqb-true (end - at) 8 f))) in
      simp (s, e, f, p, long_more at (hex_pair a (at + 6)) (ahead_back k (omega (arith, eqb-true (end - at) 8 f)))))
      (λ f. either (eqb (end - at) 3) (λ g. simp (s, e, f, g, short_more at 255 (ahead_back k (omega (arith, eqb-true (end - at) 3 g)))))
      (λ g. either (eqb (end - at) 4)
      (λ j.
      let p : short_hex (a ++ b) (at + 3) ≡ short_hex a (at + 3) = short_hex_more (at + 3) (ahead_back k (omega (arith, eqb-true (end - at) 4 j))) in
      simp (s, e, f, g, j, p, short_more at (short_hex a (at + 3)) (ahead_back k (omega (arith, eqb-true (end - at) 4 j)))))
      (λ j. simp (s, e, f, g, j)))))

  close_more : (at : ℕ) (c : Color) → Ahead a at → close_bracket (a ++ b) at c ≡ close_bracket a at c
  unfolding close_bracket
  close_more at c h = rw (scan_more is_space a b at h refl) (same_closed a b (scan is_space a at) (ahead_scan is_space at h refl) _ _ (λ p. refl))

  alpha_more : (at : ℕ) (c : Color) → Ahead a at → parse_alpha (a ++ b) at c ≡ parse_alpha a at c
  unfolding parse_alpha
  alpha_more at c h =
      let j = scan is_space a at in
      let k : Ahead a j = ahead_scan is_space at h refl in
      let s : scan is_space (a ++ b) at ≡ j = scan_more is_space a b at h refl in
      either (is_curr_byte_eq a j 41) (λ e. simp (s, curr_more a b j 41 k, e) (close_more j c k))
      (λ e. simp (s, curr_more a b j 41 k, e) (same_number _ _ k (list_number_more a b j k) (list_number_taken a j) (λ r l. close_more r.next.0 _ l)))

  marked_more : (at : ℕ) (n : Float) → Ahead a at → rgb_marked (a ++ b) at n ≡ rgb_marked a at n
  unfolding rgb_marked
  marked_more at n h =
      same_number _ _ h (list_percent_more a b at h) (list_percent_taken a at) (λ g k.
      same_number _ _ k (list_percent_more a b g.next.0 k) (list_percent_taken a g.next.0) (λ r l. alpha_more r.next.0 _ l))

  plain_more : (at : ℕ) (n : Float) → Ahead a at → rgb_plain (a ++ b) at n ≡ rgb_plain a at n
  unfolding rgb_plain
  plain_more at n h =
      same_number _ _ h (list_number_more a b at h) (list_number_taken a at) (λ g k.
      same_number _ _ k (list_number_more a b g.next.0 k) (list_number_taken a g.next.0) (λ r l. alpha_more r.next.0 _ l))

  rgb_rest_more : (at : ℕ) (n : Float) → Ahead a at → rgb_rest (a ++ b) at n ≡ rgb_rest a at n
  unfolding rgb_rest
  rgb_rest_more at n h =
      either (is_curr_byte_eq a at 37)
      (λ e.
      let k : Ahead a (at + 1) = curr_ahead 37 e h refl in
      simp (curr_more a b at 37 h, e, item_more a b (at + 1) k) (marked_more (after_item a (at + 1)) n (item_ahead (at + 1) k)))
      (λ e. simp (curr_more a b at 37 h, e, item_more a b at h) (plain_more (after_item a at) n (item_ahead at h)))

  rgb_more : (at : ℕ) → Ahead a at → parse_rgb (a ++ b) at ≡ parse_rgb a at
  unfolding parse_rgb
  rgb_more at h =
      same_byte a b at 40 h refl _ _ (λ p k.
      same_number _ _ k (number_more a b p.0 k) (number_taken a p.0) (λ r l. rgb_rest_more r.next.0 r.value.value l))

  hsl_rest_more : (at : ℕ) (hue : Float) → Ahead a at → hsl_rest (a ++ b) at hue ≡ hsl_rest a at hue
  unfolding hsl_rest
  hsl_rest_more at hue h =
      same_number _ _ h (list_percent_more a b at h) (list_percent_taken a at) (λ g k.
      same_number _ _ k (list_percent_more a b g.next.0 k) (list_percent_taken a g.next.0) (λ r l. alpha_more r.next.0 _ l))

  hsl_more : (at : ℕ) → Ahead a at → parse_hsl (a ++ b) at ≡ parse_hsl a at
  unfolding parse_hsl
  hsl_more at h =
      same_byte a b at 40 h refl _ _ (λ p k.
      same_number _ _ k (list_number_more a b p.0 k) (list_number_taken a p.0) (λ r l. hsl_rest_more r.next.0 r.value.value l))

  word_more : (at : ℕ) → Ahead a at → parse_word (a ++ b) at ≡ parse_word a at
  unfolding parse_word
  word_more at h =
      let end = scan is_ascii_ident a at in
      let k : Ahead a end = ahead_scan is_ascii_ident at h word_stop in
      simp (scan_more is_ascii_ident a b at h word_stop, part_more a b at end (scan_ge is_ascii_ident a at) k, rgb_more end k, hsl_more end k)

  pub color_more : (i : ℕ) → Ahead a i → parse_color (a ++ b) i ≡ parse_color a i
  unfolding parse_color
  color_more i h =
      let start = scan is_space a i in
      let k : Ahead a start = ahead_scan is_space i h refl in
      let l : leb (length a) start ≡ false = lt-leb (length a) start (ahead_inside k) in
      let s : scan is_space (a ++ b) i ≡ start = scan_more is_space a b i h refl in
      let m : leb (length (a ++ b)) start ≡ false = rw (end_more a b start k) l in
      either (eqb (get_or a start 0) 35)
      (λ e. simp (s, m, l, get_or_more a b start k, e, hex_more (start + 1) (next_ahead 35 e k refl)))
      (λ e. simp (s, m, l, get_or_more a b start k, e, word_more start k))
