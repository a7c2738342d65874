-- `#` and digits: as a whole text, and at a place.
use Prim.Native.Nat.{ℕ, zero, suc, ◌+◌, ◌*◌, ◌-◌, ◌≤◌, ◌<◌}
use mathlib.Core.Bool.{true, false}
use mathlib.Core.List.{List, [], ◌∷◌}
use mathlib.Core.Logic.{⊎_elim}
use mathlib.Core.Path.{◌≡◌, refl, sym, ap, ◌∙◌}
use native.Mathlib.Omega.{arith}
use borrow.Author.Tests.{eqb-true, ne_eqb, le-leb, lt-ltb, leb-true}
use lib.Dec.{eqb, leb}
use lib.ListN.{length, get_or}
use Rattle.std.specs.Prelude.{Ok, Err, Option, Some, None}
use Rattle.text_bytes.specs.Bytes.{within, is_hex_digit}
use Rattle.text_bytes.specs.Scan.{scan}
use Rattle.text_bytes.proofs.Ahead.{scan_bytes}
use Rattle.text_bytes.proofs.Parts.{byte_inside}
use Rattle.text_bytes.proofs.Ranges.{either, lt_or_le, le_or_lt, within_high}
use Rattle.text_bytes.proofs.Scans.{scan_on, scan_past, scan_le}
use Rattle.utf8.proofs.Walks.{ascii_utf8, ascii_all}
use Rattle.stream.specs.Faults.{invalid_value}
use Rattle.stream.specs.Refusals.{admit_utf8, admit_text}
use Rattle.color.specs.Answer.{from_str}
use Rattle.color.specs.Hex.{rgba, color_read, from_hex, short_hex, hex_pair, short_color, long_color, parse_hex}
use Rattle.color.specs.declared.Color.{Color}
use Rattle.packed.specs.Numbers.{color_number}
use Rattle.fast_color.specs.Digits.{then_on, digit, pair, color_of, digits_alone}
use Rattle.fast_color.specs.Told.{numbered, told_or, refused}
use Rattle.fast_color.proofs.Starts.{hash_start}
use Rattle.fast_color.proofs.Told.{no_some, text_invalid, text_color}

-- a block that was gone through
came : {A B : Type 0} (x : Option A) (f : A → Option B) {b : B} → then_on x f ≡ Some b → (a : A) × ((x ≡ Some a) × (f a ≡ Some b))
came (Some a) f e = (a, (refl, e))
came None f e = no_some e

abbrev two : ℕ → ℕ → ℕ
two a b = from_hex a * 16 + from_hex b

record Pair (a b x : ℕ) : Type 0 where
  high : is_hex_digit a ≡ true
  low : is_hex_digit b ≡ true
  is : x ≡ two a b

pair_is : (a b x : ℕ) → pair a b ≡ Some x → Pair a b x
unfolding pair digit
pair_is a b x e =
    either (is_hex_digit a)
    (λ t. either (is_hex_digit b)
    (λ u. let f : Some (two a b) ≡ Some x = simp (t, u) at e in let z : x ≡ two a b = cc in record { high = t; low = u; is = z })
    (λ u. let f : None ≡ Some x = simp (t, u) at e in no_some f))
    (λ t. let f : None ≡ Some x = simp t at e in no_some f)

record Eight (a b c d e f g h v : ℕ) : Type 0 where
  red : (is_hex_digit a ≡ true) × (is_hex_digit b ≡ true)
  green : (is_hex_digit c ≡ true) × (is_hex_digit d ≡ true)
  blue : (is_hex_digit e ≡ true) × (is_hex_digit f ≡ true)
  alpha : (is_hex_digit g ≡ true) × (is_hex_digit h ≡ true)
  is : v ≡ color_number (rgba (two a b) (two c d) (two e f) (two g h))

eight : (a b c d e f g h v : ℕ) → color_of (a ∷ b ∷ c ∷ d ∷ e ∷ f ∷ g ∷ h ∷ []) ≡ Some v → Eight a b c d e f g h v
unfolding color_of
eight a b c d e f g h v q =
    let x = came (pair a b) _ q in
    let y = came (pair c d) _ x.1.1 in
    let z = came (pair e f) _ y.1.1 in
    let w = came (pair g h) _ z.1.1 in
    let i = pair_is a b x.0 x.1.0 in
    let j = pair_is c d y.0 y.1.0 in
    let k = pair_is e f z.0 z.1.0 in
    let l = pair_is g h w.0 w.1.0 in
    let u : color_number (rgba x.0 y.0 z.0 w.0) ≡ v = given w.1.1 in
    record {
      red = (i.high, i.low);
      green = (j.high, j.low);
      blue = (k.high, k.low);
      alpha = (l.high, l.low);
      is = same i.is j.is k.is l.is u;
    }
  where
    given : {n : ℕ} → Some n ≡ Some v → n ≡ v
    given e = cc

    same : {x y z w p q r t : ℕ} → x ≡ p → y ≡ q → z ≡ r → w ≡ t → color_number (rgba x y z w) ≡ v → v ≡ color_number (rgba p q r t)
    same e f g h u = sym u ∙ rw (e, f, g, h) refl

module _ (s : List ℕ) where
  on : (k : ℕ) → k < length s → is_hex_digit (get_or s k 0) ≡ true → scan is_hex_digit s k ≡ scan is_hex_digit s (k + 1)
  on k l t = scan_on is_hex_digit s k l t

  past : (k : ℕ) → length s ≡ k → scan is_hex_digit s k ≡ length s
  past k e = scan_past is_hex_digit s k (omega arith) ∙ sym e

  -- what digits tell: they are a run to the end, and its colour
  record Alone (v : ℕ) : Type 0 where
    color : Color
    number : v ≡ color_number color
    read : scan is_hex_digit s 1 ≡ length s → parse_hex s 1 ≡ color_read color (length s)
    all : scan is_hex_digit s 1 ≡ length s

  six_alone : (v : ℕ) → length s ≡ 7 → digits_alone s ≡ Some v → Alone v
  unfolding digits_alone parse_hex long_color hex_pair from_hex within
  six_alone v n q =
      let k = eight (get_or s 1 0) (get_or s 2 0) (get_or s 3 0) (get_or s 4 0) (get_or s 5 0) (get_or s 6 0) 102 102 v (simp n at q) in
      record { color = _; number = k.is; read = λ h. simp (h, n); all = on 1 (omega arith) k.red.0 ∙ on 2 (omega arith) k.red.1 ∙ on 3 (omega arith) k.green.0 ∙ on 4 (omega arith) k.green.1 ∙ on 5 (omega arith) k.blue.0 ∙ on 6 (omega arith) k.blue.1 ∙ past 7 n }

  three_alone : (v : ℕ) → length s ≡ 4 → digits_alone s ≡ Some v → Alone v
  unfolding digits_alone parse_hex short_color short_hex from_hex within
  three_alone v n q =
      let k = eight (get_or s 1 0) (get_or s 1 0) (get_or s 2 0) (get_or s 2 0) (get_or s 3 0) (get_or s 3 0) 102 102 v (simp n at q) in
      record { color = _; number = k.is; read = λ h. simp (h, n); all = on 1 (omega arith) k.red.0 ∙ on 2 (omega arith) k.green.0 ∙ on 3 (omega arith) k.blue.0 ∙ past 4 n }

  eight_alone : (v : ℕ) → length s ≡ 9 → digits_alone s ≡ Some v → Alone v
  unfolding digits_alone parse_hex long_color hex_pair from_hex within
  eight_alone v n q =
      let k = eight (get_or s 1 0) (get_or s 2 0) (get_or s 3 0) (get_or s 4 0) (get_or s 5 0) (get_or s 6 0) (get_or s 7 0) (get_or s 8 0) v (simp n at q) in
      record { color = _; number = k.is; read = λ h. simp (h, n); all = on 1 (omega arith) k.red.0 ∙ on 2 (omega arith) k.red.1 ∙ on 3 (omega arith) k.green.0 ∙ on 4 (omega arith) k.green.1 ∙ on 5 (omega arith) k.blue.0 ∙ on 6 (omega arith) k.blue.1 ∙ on 7 (omega arith) k.alpha.0 ∙ on 8 (omega arith) k.alpha.1 ∙ past 9 n }

  four_alone : (v : ℕ) → length s ≡ 5 → digits_alone s ≡ Some v → Alone v
  unfolding digits_alone parse_hex short_color short_hex from_hex within
  four_alone v n q =
      let k = eight (get_or s 1 0) (get_or s 1 0) (get_or s 2 0) (get_or s 2 0) (get_or s 3 0) (get_or s 3 0) (get_or s 4 0) (get_or s 4 0) v (simp n at q) in
      record { color = _; number = k.is; read = λ h. simp (h, n); all = on 1 (omega arith) k.red.0 ∙ on 2 (omega arith) k.green.0 ∙ on 3 (omega arith) k.blue.0 ∙ on 4 (omega arith) k.alpha.0 ∙ past 5 n }

  alone : (v : ℕ) → digits_alone s ≡ Some v → Alone v
  unfolding digits_alone
  alone v q =
      either (eqb (length s) 7) (λ a. six_alone v (eqb-true (length s) 7 a) q)
      (λ a. either (eqb (length s) 4) (λ b. three_alone v (eqb-true (length s) 4 b) q)
      (λ b. either (eqb (length s) 9) (λ c. eight_alone v (eqb-true (length s) 9 c) q)
      (λ c. either (eqb (length s) 5) (λ d. four_alone v (eqb-true (length s) 5 d) q)
      (λ d. let f : None ≡ Some v = simp (a, b, c, d) at q in no_some f))))

-- a digit is ASCII
digit_ascii : (b : ℕ) → is_hex_digit b ≡ true → b < 128
digit_ascii b e =
    ⊎_elim (λ (h : b < 128). h)
    (λ (h : 128 ≤ b).
    let f : is_hex_digit b ≡ false = simp (← within_high 48 57 b (omega arith), ← within_high 65 70 b (omega arith), ← within_high 97 102 b (omega arith)) in
    let g : false ≡ true = sym f ∙ e in
    let z : ◌≡◌ {A = ℕ} 0 1 = cc in
    absurd (omega arith))
    (lt_or_le b 128)

module _ (s : List ℕ) (hash : get_or s 0 0 ≡ 35) where
  some : 0 < length s
  some = byte_inside s 0 35 (sym hash) (omega arith)

  -- digits alone are ASCII
  digits_admit : length s ≤ scan is_hex_digit s 1 → length s ≤ 4096 → admit_text s ≡ Ok tt
  unfolding admit_text admit_utf8
  digits_admit all small = simp (← ascii_utf8 s (sym (ascii_all s ascii)) refl, le-leb (length s) 4096 small)
    where
      ascii : (j : ℕ) → j < length s → get_or s j 0 < 128
      ascii zero h = omega (arith, hash)
      ascii (suc j) h = digit_ascii (get_or s (suc j) 0) (scan_bytes is_hex_digit s 1 (suc j) (omega arith) (omega arith))

  module _ (v : ℕ) (q : digits_alone s ≡ Some v) where
    nine : length s ≤ 9
    unfolding digits_alone
    nine =
        ⊎_elim (λ (h : length s ≤ 9). h)
        (λ (h : 9 < length s).
        let f : None ≡ Some v = simp (ne_eqb (length s) 7 (λ e. omega arith), ne_eqb (length s) 4 (λ e. omega arith), ne_eqb (length s) 9 (λ e. omega arith), ne_eqb (length s) 5 (λ e. omega arith)) at q in
        no_some f)
        (le_or_lt (length s) 9)

    -- the whole text
    pub hex_told : (digits_alone s ≡ Some v) × (numbered (from_str s) ≡ Ok v)
    unfolding numbered
    hex_told =
        let a = alone s v q in
        let m = digits_admit (omega (arith, a.all)) (omega (arith, nine)) in
        let t : from_str s ≡ Ok a.color = text_color s m _ (hash_start s 0 some hash ∙ a.read a.all) (omega arith) in
        (q, ap numbered t ∙ ap Ok (sym a.number))

  -- a run of another number that is the whole text is refused
  module _ (q : digits_alone s ≡ None) (all : length s ≤ scan is_hex_digit s 1) where
    digit_at : (k : ℕ) → 0 < k → k < length s → is_hex_digit (get_or s k 0) ≡ true
    digit_at k l h = scan_bytes is_hex_digit s 1 k (omega arith) (omega arith)

    ends : scan is_hex_digit s 1 ≡ length s
    ends = omega (arith, all, scan_le is_hex_digit s 1 (omega (arith, some)))

    other : parse_hex s 1 ≡ Err (invalid_value (scan is_hex_digit s 1))
    unfolding parse_hex digits_alone color_of pair digit within
    other =
        simp (
          ne_eqb (scan is_hex_digit s 1 - 1) 6 (λ e. let n : length s ≡ 7 = omega (arith, ends) in
              some_no (simp (n, digit_at 1 (omega arith) (omega arith), digit_at 2 (omega arith) (omega arith), digit_at 3 (omega arith) (omega arith), digit_at 4 (omega arith) (omega arith), digit_at 5 (omega arith) (omega arith), digit_at 6 (omega arith) (omega arith)) at q)),
          ne_eqb (scan is_hex_digit s 1 - 1) 8 (λ e. let n : length s ≡ 9 = omega (arith, ends) in
              some_no (simp (n, digit_at 1 (omega arith) (omega arith), digit_at 2 (omega arith) (omega arith), digit_at 3 (omega arith) (omega arith), digit_at 4 (omega arith) (omega arith), digit_at 5 (omega arith) (omega arith), digit_at 6 (omega arith) (omega arith), digit_at 7 (omega arith) (omega arith), digit_at 8 (omega arith) (omega arith)) at q)),
          ne_eqb (scan is_hex_digit s 1 - 1) 3 (λ e. let n : length s ≡ 4 = omega (arith, ends) in
              some_no (simp (n, digit_at 1 (omega arith) (omega arith), digit_at 2 (omega arith) (omega arith), digit_at 3 (omega arith) (omega arith)) at q)),
          ne_eqb (scan is_hex_digit s 1 - 1) 4 (λ e. let n : length s ≡ 5 = omega (arith, ends) in
              some_no (simp (n, digit_at 1 (omega arith) (omega arith), digit_at 2 (omega arith) (omega arith), digit_at 3 (omega arith) (omega arith), digit_at 4 (omega arith) (omega arith)) at q)),
        )
      where
        some_no : {A C : Type 0} {a : A} → Some a ≡ None → C
        some_no e = let z : ◌≡◌ {A = ℕ} 0 1 = cc in absurd (omega arith)

    pub hex_refused : (digits_alone s ≡ None) × (told_or (refused s (scan is_hex_digit s 1)) (numbered (from_str s)) ≡ numbered (from_str s))
    unfolding told_or refused numbered
    hex_refused = (
      q,
      either (leb (length s) 4096)
          (λ t. simp (t, lt-ltb 0 (length s) some, text_invalid s (digits_admit all (leb-true (length s) 4096 t)) (scan is_hex_digit s 1) (hash_start s 0 some hash ∙ other)))
          (λ t. simp (t, lt-ltb 0 (length s) some)),
    )
