-- A colour that is told step by step is the one that the plain reader reads, and is untold where that refuses.
use Prim.Native.Nat.{ℕ, ◌+◌}
use mathlib.Core.Bool.{Bool, true, false}
use mathlib.Core.List.{List}
use mathlib.Core.Path.{◌≡◌, refl, ◌∙◌}
use borrow.Author.Tests.{lt-leb, leb-false}
use lib.Dec.{eqb, leb}
use lib.Ieee.{Float, binary64, div, mul}
use lib.ListN.{length, get_or}
use Rattle.std.specs.Prelude.{Result, Ok, Err, Option, Some, None, if◌then◌else◌}
use Rattle.std.specs.Result.{result_ok}
use Rattle.text_bytes.specs.Bytes.{is_space}
use Rattle.text_bytes.specs.Flow.{◌>>=◌}
use Rattle.text_bytes.specs.Moves.{place}
use Rattle.text_bytes.specs.Scan.{scan}
use Rattle.text_bytes.specs.Words.{is_curr_byte_eq}
use Rattle.text_bytes.proofs.Ahead.{scan_again}
use Rattle.text_bytes.proofs.Ranges.{either}
use Rattle.text_bytes.proofs.Wording.{curr_there, curr_inside, curr_byte}
use Rattle.stream.specs.Faults.{consume_byte}
use Rattle.stream.specs.declared.Fault.{Fault}
use Rattle.stream.specs.declared.Read.{Read}
use Rattle.floats.specs.Floats.{channel_of}
use Rattle.numbers.specs.Moves.{Number}
use Rattle.numbers.specs.Number.{parse_number, after_item, parse_list_number, parse_list_number_or_percent}
use Rattle.numbers.specs.Powers.{hundred}
use Rattle.color.specs.Color.{d255, scaled_channel, channel, close_bracket, parse_alpha, rgb_plain, rgb_marked, rgb_rest, hsl_rest}
use Rattle.color.specs.Hex.{rgba}
use Rattle.color.specs.Hsl.{hsl_color}
use Rattle.color.specs.declared.Color.{Color}
use Rattle.fast_numbers.specs.Told.{told_number}
use Rattle.fast_numbers.proofs.Told.{told_read, told_unread}
use Rattle.fast_color_functions.specs.Told.{told_item, whole_at, rgb_numbers, hsl_numbers}
use Rattle.fast_color_functions.proofs.Items.{whole_known}

abbrev and_then : {A B : Type 0} → Option A → (A → Option B) → Option B
and_then None f = None
and_then (Some a) f = f a

-- going on with a number that is told, or not
told_then : {B : Type 0} (r : Result (Read Number) Fault) (f : Read Number → Result B Fault) (g : Read Float → Option B)
    → ((x : Read Number) → result_ok (f x) ≡ g (record { value = x.value.value; next = x.next })) → result_ok (r >>= f) ≡ and_then (told_item r) g
told_then (Ok x) f g h = h x
told_then (Err e) f g h = refl

-- the same for a value that is made of what is read
made_then : {A B C : Type 0} (r : Result A Fault) (k : A → C) (f : A → Result B Fault) (g : C → Option B)
    → ((x : A) → result_ok (f x) ≡ g (k x)) → result_ok (r >>= f) ≡ and_then (result_ok (r >>= (λ x. Ok (k x)))) g
made_then (Ok x) k f g h = h x
made_then (Err e) k f g h = refl

module _ (s : List ℕ) (at : ℕ) where
  pub channel_is : (m : Bool) → result_ok (channel s at m)
      ≡ and_then (told_item (if m then parse_list_number_or_percent s at else parse_list_number s at)) (λ r.
      Some (record { value = channel_of (if m then mul binary64 r.value d255 else r.value); next = r.next }))
  unfolding channel
  channel_is true = told_then (parse_list_number_or_percent s at) _ _ (λ x. refl)
  channel_is false = told_then (parse_list_number s at) _ _ (λ x. refl)

  pub rest_is : (n : Float) (m : Bool) → result_ok (if m then rgb_marked s at n else rgb_plain s at n)
      ≡ and_then (result_ok (channel s at m)) (λ green.
      and_then (result_ok (channel s green.next.0 m)) (λ blue.
      result_ok (parse_alpha s blue.next.0 (rgba (channel_of (if m then mul binary64 (div binary64 n hundred) d255 else n)) green.value blue.value 255))))
  unfolding channel rgb_marked rgb_plain
  rest_is n true = made_then (parse_list_number_or_percent s at) _ _ _ (λ x. made_then (parse_list_number_or_percent s x.next.0) _ _ _ (λ y. refl))
  rest_is n false = made_then (parse_list_number s at) _ _ _ (λ x. made_then (parse_list_number s x.next.0) _ _ _ (λ y. refl))

  pub hsl_is : result_ok (hsl_numbers s at)
      ≡ and_then (told_item (parse_list_number s at)) (λ hue.
      and_then (told_item (parse_list_number_or_percent s hue.next.0)) (λ saturation.
      and_then (told_item (parse_list_number_or_percent s saturation.next.0)) (λ lightness.
      result_ok (parse_alpha s lightness.next.0 (hsl_color hue.value saturation.value lightness.value)))))
  unfolding hsl_numbers hsl_rest
  hsl_is =
      told_then (parse_list_number s at) _ _ (λ x.
      told_then (parse_list_number_or_percent s x.next.0) _ _ (λ y. told_then (parse_list_number_or_percent s y.next.0) _ _ (λ z. refl)))

  -- the first number of `rgb`
  pub first_whole : (r : Read Float) → whole_at s at ≡ Some r → (whole_at s at ≡ Some r) × (rgb_numbers s at ≡ rgb_plain s r.next.0 r.value)
  unfolding rgb_numbers rgb_rest
  first_whole r q = let w = whole_known s at r q in (q, simp (w.is, w.unmarked, w.next))

  pub first_none : told_number (parse_number s at) ≡ None → result_ok (rgb_numbers s at) ≡ None
  unfolding rgb_numbers
  first_none h = simp (told_unread s at h).is

  module _ (n : Number) (h : told_number (parse_number s at) ≡ Some n) where
    pub first_marked : is_curr_byte_eq s n.end.0 37 ≡ true
        → (told_number (parse_number s at) ≡ Some n) × (rgb_numbers s at ≡ rgb_marked s (after_item s (n.end.0 + 1)) n.value)
    unfolding rgb_numbers rgb_rest
    first_marked m = (h, simp (told_read s at n h, m))

    pub first_plain : is_curr_byte_eq s n.end.0 37 ≡ false → (told_number (parse_number s at) ≡ Some n) × (rgb_numbers s at ≡ rgb_plain s (after_item s n.end.0) n.value)
    unfolding rgb_numbers rgb_rest
    first_plain m = (h, simp (told_read s at n h, m))

  module _ (c : Color) where
    pub close_is : result_ok (close_bracket s at c)
        ≡ (let i = scan is_space s at in if is_curr_byte_eq s i 41 then Some (record { value = c; next = place (i + 1) }) else None)
    unfolding close_bracket consume_byte
    close_is =
        let i = scan is_space s at in
        either (is_curr_byte_eq s i 41)
        (λ t. simp (t, lt-leb (length s) i (curr_inside s i 41 refl t), curr_byte s i 41 refl t))
        (λ t. either (leb (length s) i) (λ f. simp (t, f))
        (λ f.
        let g : eqb (get_or s i 0) 41 ≡ false = curr_there s i 41 (leb-false (length s) i f) ∙ t in
        simp (t, f, g)))

    pub alpha_is : result_ok (parse_alpha s at c)
        ≡ (let i = scan is_space s at in if is_curr_byte_eq s i 41 then Some (record { value = c; next = place (i + 1) })
        else and_then (told_item (parse_list_number s i)) (λ r. result_ok (close_bracket s r.next.0 (rgba c.red c.green c.blue (scaled_channel r.value)))))
    unfolding parse_alpha close_bracket consume_byte
    alpha_is =
        let i = scan is_space s at in
        let again = scan_again is_space s at in
        either (is_curr_byte_eq s i 41) (λ t. simp (t, again, lt-leb (length s) i (curr_inside s i 41 refl t), curr_byte s i 41 refl t))
        (λ t. simp t (told_then (parse_list_number s i) _ _ (λ x. refl)))
