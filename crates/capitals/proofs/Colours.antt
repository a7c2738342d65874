-- A colour in texts that are alike: what is accepted of the one is accepted of the other. Behind a number of an accepted colour no `e` stands: every continuation refuses it.
use Prim.Native.Nat.{ℕ, ◌+◌}
use mathlib.Core.Bool.{Bool, true, false, cond}
use mathlib.Core.List.{List}
use mathlib.Core.Path.{◌≡◌, refl, sym, ◌∙◌}
use borrow.Author.Tests.{lt-leb}
use lib.Dec.{eqb, leb, ltb}
use lib.Ieee.{Float}
use Rattle.std.specs.Prelude.{Result, Ok, Err}
use lib.ListN.{length, get_or}
use Rattle.text_bytes.specs.Bytes.{within, is_space, is_hex_digit, is_ascii_ident}
use Rattle.text_bytes.specs.Flow.{◌>>=◌}
use Rattle.text_bytes.specs.Scan.{scan}
use Rattle.text_bytes.specs.Words.{lowered, part, is_curr_byte_eq}
use Rattle.text_bytes.proofs.Ranges.{either}
use Rattle.stream.specs.Faults.{unexpected_data, consume_byte}
use Rattle.stream.specs.declared.Fault.{Fault}
use Rattle.stream.specs.declared.Read.{Read}
use Rattle.numbers.specs.Moves.{Number}
use Rattle.numbers.specs.Number.{parse_number, parse_list_number, parse_list_number_or_percent, after_item}
use Rattle.names.proofs.Naming.{named_case}
use Rattle.color.specs.Hex.{color_read, from_hex, short_hex, hex_pair, short_color, long_color, parse_hex}
use Rattle.color.specs.Color.{close_bracket, parse_alpha, rgb_marked, rgb_plain, rgb_rest, parse_rgb, hsl_rest, parse_hsl, is_rgb, is_hsl, named_color, parse_word, parse_color, parse_color_text}
use Rattle.color.specs.declared.Color.{Color}
use Rattle.shapes.proofs.Fair.{never_ok}
use Rattle.capitals.proofs.Cases.{Caseless, byte_case, by_values, space_case, hex_case, word_case, byte_alike, length_alike, scan_alike, part_alike, curr_alike}
use Rattle.capitals.proofs.Numbers.{is_e, neither, shut_first, Keeps, numbers, list_numbers, list_percents, item_alike, e_inside, e_scan, e_curr, e_separator}

-- what x accepts y accepts
pub record Kept {A E : Type 0} (x y : Result A E) : Type 0 where
  pub same : (a : A) → x ≡ Ok a → y ≡ Ok a

-- x accepts nothing
abbrev Shut : Result (Read Color) Fault → Type 0
Shut x = (r : Read Color) → x ≡ Ok r → ⊥

pub kept_equal : {A E : Type 0} {x y : Result A E} → y ≡ x → Kept x y
kept_equal e = record { same = λ a q. e ∙ q }

kept_cond : {A E : Type 0} (v : Bool) {a b x y : Result A E} → Kept a x → Kept b y → Kept (cond v a b) (cond v x y)
kept_cond true f g = f
kept_cond false f g = g

pub kept_err : {A E : Type 0} {e : E} {y : Result A E} → Kept (Err e) y
kept_err = record { same = λ a q. never_ok q }

-- the law of a block: what is known of a step that is accepted may be used after it
pub kept_known : {A B E : Type 0} (x y : Result A E) (f g : A → Result B E) → Kept x y → ((a : A) → x ≡ Ok a → Kept (f a) (g a)) → Kept (x >>= f) (y >>= g)
kept_known (Ok a) y f g k h = rw (k.same a refl) (h a refl)
kept_known (Err e) y f g k h = kept_err

pub kept_bind : {A B E : Type 0} (x y : Result A E) (f g : A → Result B E) → Kept x y → ((a : A) → Kept (f a) (g a)) → Kept (x >>= f) (y >>= g)
kept_bind x y f g k h = kept_known x y f g k (λ a _. h a)

-- whether a text ends behind a colour
abbrev ended_at : List ℕ → Read Color → Result (Read Color) Fault
ended_at s r = cond (ltb (scan is_space s r.next.0) (length s)) (Err (unexpected_data s (scan is_space s r.next.0))) (color_read r.value (length s))

module _ (s t : List ℕ) (h : lowered s ≡ lowered t) where
  -- one byte that is no letter
  byte_kept : (i c : ℕ) → Caseless (λ b. eqb b c) → Kept (consume_byte s i c) (consume_byte t i c)
  unfolding consume_byte
  byte_kept i c f =
      either (leb (length s) i) (λ a. simp a kept_err)
      (λ a. either (eqb (get_or s i 0) c) (λ b. simp (length_alike s t h, byte_alike s t h (λ x. eqb x c) f i, a, b) (kept_equal refl))
      (λ b. simp (a, b) kept_err))

  -- a number, and what is read after it: that is shut where an `e` stands
  module _ (x y : ℕ → Result (Read Number) Fault) (w : Keeps s x y) (i : ℕ) (k : Read Number → Result (Read Color) Fault) where
    kept_number : (m : Read Number → Result (Read Color) Fault) → ((r : Read Number) → is_e (get_or s r.next.0 0) ≡ true → Shut (k r)) → ((r : Read Number) → Kept (k r) (m r))
        → Kept (x i >>= k) (y i >>= m)
    kept_number m f g = record { same = λ c q. go c (x i) refl q }
      where
        go : (c : Read Color) (z : Result (Read Number) Fault) → x i ≡ z → (x i >>= k) ≡ Ok c → (y i >>= m) ≡ Ok c
        go c (Err e) r q = never_ok (rw r at q)
        go c (Ok n) r q =
            let v : k n ≡ Ok c = rw r at q in
            either (is_e (get_or s n.next.0 0)) (λ e. absurd (f n e c v)) (λ e. rw (w.same i n r e) ((g n).same c v))

    shut_number : is_e (get_or s i 0) ≡ true → Shut (x i >>= k)
    shut_number e c q = shut_first (x i) k (λ n r. w.none i n e r) q

  -- the closing bracket, and the alpha before it
  close_kept : (i : ℕ) (c : Color) → Kept (close_bracket s i c) (close_bracket t i c)
  unfolding close_bracket
  close_kept i c =
      rw (scan_alike s t h is_space space_case i) (kept_bind _ _ _ _ (byte_kept (scan is_space s i) 41 (byte_case 41 tt)) (λ p. kept_equal refl))

  close_shut : (i : ℕ) (c : Color) → is_e (get_or s i 0) ≡ true → Shut (close_bracket s i c)
  unfolding close_bracket consume_byte
  close_shut i c e r q =
      never_ok (simp (e_scan s i e, lt-leb (length s) i (e_inside s i e), neither 101 69 (λ b. eqb b 41) refl refl (get_or s i 0) e) at q)

  alpha_kept : (i : ℕ) (c : Color) → Kept (parse_alpha s i c) (parse_alpha t i c)
  unfolding parse_alpha
  alpha_kept i c =
      rw (scan_alike s t h is_space space_case i, curr_alike s t h (scan is_space s i) 41 (byte_case 41 tt))
      (kept_cond (is_curr_byte_eq s (scan is_space s i) 41) (close_kept (scan is_space s i) c)
      (kept_number (parse_list_number s) (parse_list_number t) (list_numbers s t h) (scan is_space s i) _ _ (λ r. close_shut r.next.0 _) (λ r. close_kept r.next.0 _)))

  alpha_shut : (i : ℕ) (c : Color) → is_e (get_or s i 0) ≡ true → Shut (parse_alpha s i c)
  unfolding parse_alpha
  alpha_shut i c e =
      simp (e_scan s i e, e_curr s i e 41 refl refl) (shut_number (parse_list_number s) (parse_list_number t) (list_numbers s t h) i _ e)

  -- the two numbers before it: x reads them of s, y of t
  two_kept : (x y : ℕ → Result (Read Number) Fault) → Keeps s x y → (i : ℕ) (k : Number → Number → Color)
      → Kept (x i >>= (λ (m : Read Number). x m.next.0 >>= (λ (n : Read Number). parse_alpha s n.next.0 (k m.value n.value))))
      (y i >>= (λ (m : Read Number). y m.next.0 >>= (λ (n : Read Number). parse_alpha t n.next.0 (k m.value n.value))))
  two_kept x y w i k =
      kept_number x y w i _ _ (λ m e. shut_number x y w m.next.0 _ e)
      (λ m. kept_number x y w m.next.0 _ _ (λ n. alpha_shut n.next.0 _) (λ n. alpha_kept n.next.0 _))

  marked_kept : (i : ℕ) (n : Float) → Kept (rgb_marked s i n) (rgb_marked t i n)
  unfolding rgb_marked
  marked_kept i n = two_kept (parse_list_number_or_percent s) (parse_list_number_or_percent t) (list_percents s t h) i _

  plain_kept : (i : ℕ) (n : Float) → Kept (rgb_plain s i n) (rgb_plain t i n)
  unfolding rgb_plain
  plain_kept i n = two_kept (parse_list_number s) (parse_list_number t) (list_numbers s t h) i _

  rest_kept : (i : ℕ) (n : Float) → Kept (rgb_rest s i n) (rgb_rest t i n)
  unfolding rgb_rest
  rest_kept i n =
      rw (curr_alike s t h i 37 (byte_case 37 tt), item_alike s t h (i + 1), item_alike s t h i)
      (kept_cond (is_curr_byte_eq s i 37) (marked_kept (after_item s (i + 1)) n) (plain_kept (after_item s i) n))

  rest_shut : (i : ℕ) (n : Float) → is_e (get_or s i 0) ≡ true → Shut (rgb_rest s i n)
  unfolding rgb_rest rgb_plain
  rest_shut i n e =
      simp (e_curr s i e 37 refl refl, e_scan s i e, e_separator s i e) (shut_number (parse_list_number s) (parse_list_number t) (list_numbers s t h) i _ e)

  rgb_kept : (i : ℕ) → Kept (parse_rgb s i) (parse_rgb t i)
  unfolding parse_rgb
  rgb_kept i =
      kept_bind _ _ _ _ (byte_kept i 40 (byte_case 40 tt))
      (λ p. kept_number (parse_number s) (parse_number t) (numbers s t h) p.0 _ _ (λ r. rest_shut r.next.0 r.value.value) (λ r. rest_kept r.next.0 r.value.value))

  hsl_rest_kept : (i : ℕ) (hue : Float) → Kept (hsl_rest s i hue) (hsl_rest t i hue)
  unfolding hsl_rest
  hsl_rest_kept i hue = two_kept (parse_list_number_or_percent s) (parse_list_number_or_percent t) (list_percents s t h) i _

  hsl_rest_shut : (i : ℕ) (hue : Float) → is_e (get_or s i 0) ≡ true → Shut (hsl_rest s i hue)
  unfolding hsl_rest
  hsl_rest_shut i hue e = shut_number (parse_list_number_or_percent s) (parse_list_number_or_percent t) (list_percents s t h) i _ e

  hsl_kept : (i : ℕ) → Kept (parse_hsl s i) (parse_hsl t i)
  unfolding parse_hsl
  hsl_kept i =
      kept_bind _ _ _ _ (byte_kept i 40 (byte_case 40 tt))
      (λ p. kept_number (parse_list_number s) (parse_list_number t) (list_numbers s t h) p.0 _ _ (λ r. hsl_rest_shut r.next.0 r.value.value) (λ r. hsl_rest_kept r.next.0 r.value.value))

  -- hex digits and words
  from_hex_case : Caseless from_hex
  unfolding from_hex within
  from_hex_case = by_values from_hex tt

  short_hex_alike : (i : ℕ) → short_hex t i ≡ short_hex s i
  unfolding short_hex
  short_hex_alike i = rw (byte_alike s t h from_hex from_hex_case i) refl

  pair_alike : (i : ℕ) → hex_pair t i ≡ hex_pair s i
  unfolding hex_pair
  pair_alike i = rw (byte_alike s t h from_hex from_hex_case i, byte_alike s t h from_hex from_hex_case (i + 1)) refl

  hex_alike : (i : ℕ) → parse_hex t i ≡ parse_hex s i
  unfolding parse_hex short_color long_color
  hex_alike i = simp (scan_alike s t h is_hex_digit hex_case i, short_hex_alike, pair_alike)

  word_kept : (i : ℕ) → Kept (parse_word s i) (parse_word t i)
  unfolding parse_word is_rgb is_hsl named_color
  word_kept i =
      let end = scan is_ascii_ident s i in
      rw (scan_alike s t h is_ascii_ident word_case i, ← part_alike s t h i end, named_case (part t i end) (part s i end) (sym (part_alike s t h i end)))
      (kept_cond (is_rgb (part s i end)) (rgb_kept end) (kept_cond (is_hsl (part s i end)) (hsl_kept end) (kept_equal refl)))

  colour_kept : (i : ℕ) → Kept (parse_color s i) (parse_color t i)
  unfolding parse_color
  colour_kept i =
      let j = scan is_space s i in
      rw (scan_alike s t h is_space space_case i, length_alike s t h, byte_alike s t h (λ b. eqb b 35) (byte_case 35 tt) j)
      (kept_cond (leb (length s) j) (kept_equal refl) (kept_cond (eqb (get_or s j 0) 35) (kept_equal (hex_alike (j + 1))) (word_kept j)))

  pub text_kept : Kept (parse_color_text s) (parse_color_text t)
  unfolding parse_color_text
  text_kept = kept_bind _ _ _ _ (colour_kept 0) (λ r. ended r)
    where
      ended : (r : Read Color) → Kept (ended_at s r) (ended_at t r)
      ended r =
          rw (scan_alike s t h is_space space_case r.next.0, length_alike s t h)
          (kept_cond (ltb (scan is_space s r.next.0) (length s)) kept_err (kept_equal refl))
