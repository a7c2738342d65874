-- CSS Color 4's hex notations are what the reader of colours reads after `#`.
use Prim.Native.Nat.{ℕ, ◌+◌, ◌-◌, ◌≤◌, ◌<◌}
use mathlib.Core.Bool.{Bool, true, false, ◌||◌, not}
use mathlib.Core.List.{List, [], ◌∷◌, ◌++◌, map, append-nil}
use mathlib.Core.Path.{◌≡◌, refl, sym, ap, ◌∙◌}
use native.Mathlib.Omega.{arith}
use borrow.Author.Tests.{ne_eqb}
use lib.Dec.{T, eqb, eqb→eq}
use lib.ListN.{length, get_or, length-map}
use Rattle.text_bytes.specs.Bytes.{within, is_hex_digit}
use Rattle.text_bytes.specs.Moves.{place}
use Rattle.stream.specs.Faults.{invalid_value}
use Rattle.text_bytes.specs.Scan.{run, scan}
use Rattle.stream.specs.Refusals.{empty_refusal, admit_text}
use Rattle.text_bytes.specs.declared.Place.{Place}
use Rattle.text_bytes.proofs.Ranges.{either, all_from, across, within_ge, within_le}
use Rattle.names.proofs.Tables.{holds_true}
use Rattle.color.specs.Answer.{from_str}
use Rattle.color.specs.Color.{parse_color}
use Rattle.color.specs.Hex.{from_hex, short_hex, hex_pair, short_color, long_color, parse_hex}
use Rattle.color.specs.declared.Color.{Color}
use Rattle.std.specs.Prelude.{Err, Ok}
use Rattle.stream.specs.Moves.{move_read, moved, stays}
use Rattle.stream.specs.declared.Trouble.TheVariants as T
use Rattle.stream.specs.declared.Reason.TheVariants as R
use Rattle.standards.specs.CssValues3.{Blank, blanks}
use Rattle.standards.specs.CssColor4.{Digit, numeral, small, capital, character, value, hashed, HexColor, three, four, six, eight, digits, hex_text, channels}
use Rattle.standards.specs.Answers.{color_of, read_on}
use Rattle.standards.proofs.Runs.{every_map, run_map, is_ascii, blanks_end}
use Rattle.standards.proofs.Cursors.{one_value}
use Rattle.standards.proofs.Colours.{after_blanks, hash_first, color_text, refused_text}
use Rattle.standards.specs.Notations.{Unfit, Split, Hexed}

-- a test that holds of the characters of 0 to 9, of a to f and of A to F holds of each digit's
by_digit : (t : ℕ → Bool) → T (all_from t 48 10) → T (all_from t 97 6) → T (all_from t 65 6) → (d : Digit) → t (character d) ≡ true
unfolding character
by_digit t p q r (numeral n h) = sym (holds_true _ (across t 48 10 p (48 + n) (omega arith) (omega arith)))
by_digit t p q r (small n h) = sym (holds_true _ (across t 97 6 q (97 + n) (omega arith) (omega arith)))
by_digit t p q r (capital n h) = sym (holds_true _ (across t 65 6 r (65 + n) (omega arith) (omega arith)))

is_hex : (d : Digit) → is_hex_digit (character d) ≡ true
unfolding within
is_hex d = by_digit is_hex_digit tt tt tt d

digit_is_ascii : (d : Digit) → is_ascii (character d) ≡ true
digit_is_ascii d = by_digit is_ascii tt tt tt d

-- the value of a byte of a run is computed
value_at : (f : ℕ → ℕ) (from n : ℕ) → T (all_from (λ b. eqb (f b) (from_hex b)) from n) → (b : ℕ) → from ≤ b → b < from + n → f b ≡ from_hex b
value_at f from n t b l h = eqb→eq (f b) (from_hex b) (across (λ c. eqb (f c) (from_hex c)) from n t b l h)

has_value : (d : Digit) → from_hex (character d) ≡ value d
unfolding character value from_hex within
has_value (numeral n h) = omega (arith, value_at (λ b. b - 48) 48 10 tt (48 + n) (omega arith) (omega arith))
has_value (small n h) = omega (arith, value_at (λ b. b - 97 + 10) 97 6 tt (97 + n) (omega arith) (omega arith))
has_value (capital n h) = omega (arith, value_at (λ b. b - 65 + 10) 65 6 tt (65 + n) (omega arith) (omega arith))

module _ (rest : List ℕ) (e : is_hex_digit (get_or rest 0 0) ≡ false) where
  -- the run of digits is all of them
  run_is : (ds : List Digit) → scan is_hex_digit (hashed ds ++ rest) 1 ≡ 1 + length ds
  unfolding scan
  run_is ds = simp (run_map is_hex_digit character is_hex ds rest e)

  digits_read : (t : HexColor) → parse_hex (hex_text t ++ rest) 1 ≡ read_on (color_of (channels t)) (place (1 + length (digits t)))
  unfolding parse_hex digits channels short_color long_color short_hex hex_pair
  digits_read (three r g b) = simp (run_is (r ∷ g ∷ b ∷ []), has_value)
  digits_read (four r g b a) = simp (run_is (r ∷ g ∷ b ∷ a ∷ []), has_value)
  digits_read (six r r' g g' b b') = simp (run_is (r ∷ r' ∷ g ∷ g' ∷ b ∷ b' ∷ []), has_value)
  digits_read (eight r r' g g' b b' a a') = simp (run_is (r ∷ r' ∷ g ∷ g' ∷ b ∷ b' ∷ a ∷ a' ∷ []), has_value)

-- THEOREM. Every text of the grammar is read with its channels, and reading goes on after it
pub hex_read : (t : HexColor) (rest : List ℕ) → is_hex_digit (get_or rest 0 0) ≡ false
    → parse_color (hex_text t ++ rest) 0 ≡ read_on (color_of (channels t)) (place (1 + length (digits t)))
hex_read t rest e = hash_first (map character (digits t) ++ rest) ∙ digits_read rest e t

-- and so after white space
pub hex_spaced : (l : List Blank) (t : HexColor) (rest : List ℕ) → is_hex_digit (get_or rest 0 0) ≡ false
    → parse_color (blanks l ++ (hex_text t ++ rest)) 0 ≡ read_on (color_of (channels t)) (place (length l + (1 + length (digits t))))
hex_spaced l t rest e = after_blanks l (hex_text t ++ rest) ∙ ap (moved (move_read stays) (length l)) (hex_read t rest e)

hashed_length : (ds : List Digit) → length (hashed ds) ≡ 1 + length ds
hashed_length ds = omega (arith, length-map ds character)

-- and as a whole text with white space about it
pub hex_text_is : (l m : List Blank) (t : HexColor) → length l + (1 + length (digits t) + length m) ≤ 4096
    → from_str (blanks l ++ (hex_text t ++ blanks m)) ≡ Ok (color_of (channels t))
unfolding within
hex_text_is l m t h =
    color_text l m (hex_text t) (color_of (channels t)) (rw (hashed_length (digits t)) h) (every_map is_ascii character digit_is_ascii (digits t))
    (rw (hashed_length (digits t)) (hex_read t (blanks m) (blanks_end is_hex_digit refl refl refl refl refl m)))

few : (t : HexColor) → length (digits t) ≤ 8
unfolding digits
few (three r g b) = omega arith
few (four r g b a) = omega arith
few (six r r' g g' b b') = omega arith
few (eight r r' g g' b b' a a') = omega arith

pub hex_whole : (t : HexColor) → from_str (hex_text t) ≡ Ok (color_of (channels t))
hex_whole t = rw append-nil at (hex_text_is [] [] t (omega (arith, few t)))

-- THEOREM. Every other run of digits is refused by 5
pub hex_refused : (ds : List Digit) (rest : List ℕ) → is_hex_digit (get_or rest 0 0) ≡ false → Unfit (length ds)
    → parse_color (hashed ds ++ rest) 0 ≡ Err (invalid_value (1 + length ds))
unfolding parse_hex
hex_refused ds rest e u =
    let n : 1 + length ds - 1 ≡ length ds = omega arith in
    hash_first (map character ds ++ rest)
    ∙ simp (run_is rest e ds, n, ne_eqb (length ds) 3 u.not_3, ne_eqb (length ds) 4 u.not_4, ne_eqb (length ds) 6 u.not_6, ne_eqb (length ds) 8 u.not_8)

-- and so as a whole text that may be read
pub hex_refused_text : (ds : List Digit) (rest : List ℕ) → is_hex_digit (get_or rest 0 0) ≡ false → Unfit (length ds)
    → admit_text (hashed ds ++ rest) ≡ Ok tt → from_str (hashed ds ++ rest) ≡ Err (empty_refusal (R.Unread T.InvalidValue) (1 + length ds))
hex_refused_text ds rest e u t = refused_text (hashed ds ++ rest) (1 + length ds) t (hex_refused ds rest e u)

-- every byte that the reader takes for a digit is one of the standard's
digit_of : (b : ℕ) → is_hex_digit b ≡ true → (d : Digit) × (character d ≡ b)
unfolding character
digit_of b e = go (within 48 57 b) (within 65 70 b) (within 97 102 b) refl refl refl e
  where
    go : (x y z : Bool) → within 48 57 b ≡ x → within 65 70 b ≡ y → within 97 102 b ≡ z → (x || (y || z)) ≡ true → (d : Digit) × (character d ≡ b)
    go true y z p q r f = (numeral (b - 48) (omega (arith, within_le 48 57 b (sym p), within_ge 48 57 b (sym p))), omega (arith, within_ge 48 57 b (sym p)))
    go false true z p q r f = (capital (b - 65) (omega (arith, within_le 65 70 b (sym q), within_ge 65 70 b (sym q))), omega (arith, within_ge 65 70 b (sym q)))
    go false false true p q r f = (small (b - 97) (omega (arith, within_le 97 102 b (sym r), within_ge 97 102 b (sym r))), omega (arith, within_ge 97 102 b (sym r)))
    go false false false p q r f = absurd (let z : ◌≡◌ {A = ℕ} 0 1 = cc in omega arith)

-- THEOREM. Every text is such, so that `hex_read` and `hex_refused` leave out no text that begins with `#`
pub every_run : (s : List ℕ) → Split s
unfolding within run
every_run [] = record { taken = []; rest = []; joined = refl; counted = refl; ended = refl }
every_run (x ∷ xs) =
    either (is_hex_digit x) (λ e. go e (digit_of x e) (every_run xs)) (λ e. record { taken = []; rest = x ∷ xs; joined = refl; counted = simp e; ended = e })
  where
    go : is_hex_digit x ≡ true → (d : Digit) × (character d ≡ x) → Split xs → Split (x ∷ xs)
    go e d v = record { taken = d.0 ∷ v.taken; rest = v.rest; joined = cc (d.1, v.joined); counted = simp (e, v.counted); ended = v.ended }

unfit : (n : ℕ) → T (not (eqb n 3 || (eqb n 4 || (eqb n 6 || eqb n 8)))) → Unfit n
unfit n t = record { not_3 = λ q. rw q at t; not_4 = λ q. rw q at t; not_6 = λ q. rw q at t; not_8 = λ q. rw q at t }

-- digits that are read as a colour are those of a tree
module _ (c : Color) (p : Place) (rest : List ℕ) (e : is_hex_digit (get_or rest 0 0) ≡ false) where
  none : {B : Type 0} (ds : List Digit) → parse_color (hashed ds ++ rest) 0 ≡ read_on c p → Unfit (length ds) → B
  none ds v u = let z : ◌≡◌ {A = ℕ} 0 1 = cc (hex_refused ds rest e u) in absurd (omega arith)

  tree_of : (ds : List Digit) → parse_color (hashed ds ++ rest) 0 ≡ read_on c p → (t : HexColor) × (digits t ≡ ds)
  unfolding digits
  tree_of [] v = none [] v (unfit 0 tt)
  tree_of (a ∷ []) v = none (a ∷ []) v (unfit 1 tt)
  tree_of (a ∷ b ∷ []) v = none (a ∷ b ∷ []) v (unfit 2 tt)
  tree_of (a ∷ b ∷ c ∷ []) v = (three a b c, refl)
  tree_of (a ∷ b ∷ c ∷ d ∷ []) v = (four a b c d, refl)
  tree_of (a ∷ b ∷ c ∷ d ∷ e ∷ []) v = none (a ∷ b ∷ c ∷ d ∷ e ∷ []) v (unfit 5 tt)
  tree_of (a ∷ b ∷ c ∷ d ∷ e ∷ f ∷ []) v = (six a b c d e f, refl)
  tree_of (a ∷ b ∷ c ∷ d ∷ e ∷ f ∷ g ∷ []) v = none (a ∷ b ∷ c ∷ d ∷ e ∷ f ∷ g ∷ []) v (unfit 7 tt)
  tree_of (a ∷ b ∷ c ∷ d ∷ e ∷ f ∷ g ∷ h ∷ []) v = (eight a b c d e f g h, refl)
  tree_of (a ∷ b ∷ c ∷ d ∷ e ∷ f ∷ g ∷ h ∷ i ∷ ds) v = none (a ∷ b ∷ c ∷ d ∷ e ∷ f ∷ g ∷ h ∷ i ∷ ds) v (record { not_3 = λ q. omega arith; not_4 = λ q. omega arith; not_6 = λ q. omega arith; not_8 = λ q. omega arith })

-- THEOREM. What begins with `#` and is read as a colour is of the grammar
pub hex_only : (s : List ℕ) (c : Color) (p : Place) → parse_color (35 ∷ s) 0 ≡ read_on c p → Hexed (35 ∷ s) c
hex_only s c p e = go (every_run s)
  where
    go : Split s → Hexed (35 ∷ s) c
    go v =
        let t = tree_of c p v.rest v.ended v.taken (rw v.joined e) in
        let j : hex_text t.0 ++ v.rest ≡ 35 ∷ s = rw (t.1, v.joined) refl in
        let r : parse_color (35 ∷ s) 0 ≡ read_on (color_of (channels t.0)) (place (1 + length (digits t.0))) = rw j at (hex_read t.0 v.rest v.ended) in
        record { tree = t.0; rest = v.rest; text = j; ended = v.ended; read = one_value (sym e ∙ r) }
