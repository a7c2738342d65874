-- The reader of a colour: white space before it, its two ways to begin, and a colour as a whole text.
use Prim.Native.Nat.{ℕ, suc, ◌+◌, ◌-◌, ◌≤◌, ◌<◌}
use mathlib.Core.Bool.{true, false, cond}
use mathlib.Core.List.{List, [], ◌∷◌, ◌++◌}
use mathlib.Core.Path.{◌≡◌, refl, ap, ◌∙◌}
use native.Mathlib.Omega.{arith}
use borrow.Author.Tests.{ne_eqb, lt-leb, le-ltb, lt-ltb}
use lib.Dec.{eqb, leb, ltb}
use lib.ListN.{length, get_or, length-append, length-map}
use lib.Seq.{take-append_seam}
use Rattle.text_bytes.specs.Bytes.{is_digit, is_upper, is_lower, is_space, is_ascii_ident}
use Rattle.text_bytes.specs.Moves.{place}
use Rattle.stream.specs.Faults.{invalid_value}
use Rattle.stream.specs.Refusals.{number_of, empty_refusal, refusal_of, admit_text}
use Rattle.text_bytes.specs.Scan.{run, scan}
use Rattle.text_bytes.specs.Words.{part, lower_of, lowered}
use Rattle.text_bytes.proofs.Ahead.{scan_seam}
use Rattle.text_bytes.proofs.Ranges.{and_first, and_second, either}
use Rattle.color.specs.Answer.{from_str}
use Rattle.color.specs.Color.{is_rgb, is_hsl, parse_rgb, parse_hsl, named_color, parse_word, parse_color, parse_color_text}
use Rattle.color.specs.Hex.{parse_hex}
use Rattle.color.specs.declared.Color.{Color}
use Rattle.color.proofs.Shifts.{color_shift}
use Rattle.stream.specs.declared.Trouble.TheVariants as T
use Rattle.stream.specs.declared.Reason.TheVariants as R
use Rattle.standards.specs.Answers.{read_on}
use Rattle.std.specs.Prelude.{Err, Ok}
use Rattle.stream.specs.Moves.{move_read, moved, stays}
use Rattle.standards.specs.CssValues3.{Blank, blank, blanks}
use Rattle.standards.proofs.Runs.{every, run_every, Ascii, ascii_append, blanks_ascii, ascii_admitted, blanks_alone, no_space}
use Rattle.standards.proofs.Cursors.{scanned_none, scan_on, drop_past}
use Rattle.text_bytes.proofs.Wording.{Wordly, word_byte}

-- what is read depends on the first byte that is no space alone
from_scan : (s : List ℕ) (i j : ℕ) → scan is_space s i ≡ scan is_space s j → parse_color s i ≡ parse_color s j
unfolding parse_color
from_scan s i j e = rw e

-- white space before a colour moves what is read, and no more
pub after_blanks : (l : List Blank) (s : List ℕ) → parse_color (blanks l ++ s) 0 ≡ (moved (move_read stays)) (length l) (parse_color s 0)
unfolding scan
after_blanks l s =
    let n : length (blanks l) ≡ length l = length-map l blank in
    from_scan (blanks l ++ s) 0 (length (blanks l) + 0) (scan_seam is_space (blanks l) s 0 (omega arith) (omega (arith, blanks_alone l)))
    ∙ (color_shift (blanks l) s 0 ∙ ap (λ k. moved (move_read stays) k (parse_color s 0)) n)

-- after `#` (35) the digits are read
pub hash_first : (s : List ℕ) → parse_color (35 ∷ s) 0 ≡ parse_hex (35 ∷ s) 1
unfolding parse_color scan run
hash_first s = simp (lt-leb (suc (length s)) 0 (omega arith))

pub word_ascii : (w : List ℕ) → every is_ascii_ident w ≡ true → Ascii w
word_ascii [] e = refl
word_ascii (x ∷ xs) e =
    let v : Wordly x = word_byte x (and_first (is_ascii_ident x) (every is_ascii_ident xs) e) in
    simp (lt-ltb x 128 (omega (arith, v.high)), word_ascii xs (and_second (is_ascii_ident x) (every is_ascii_ident xs) e))

-- a byte that is a letter once it is in lower case is one of a word
letter : (b : ℕ) → is_lower (lower_of b) ≡ true → is_ascii_ident b ≡ true
unfolding lower_of
letter b e =
    either (is_digit b) (λ d. simp d)
    (λ d. either (is_upper b) (λ u. simp (d, u)) (λ u. let v : is_lower b ≡ true = simp u at e in simp (d, u, v)))

pub letters : (w : List ℕ) → every is_lower (lowered w) ≡ true → every is_ascii_ident w ≡ true
letters [] e = refl
letters (x ∷ xs) e =
    simp (letter x (and_first (is_lower (lower_of x)) (every is_lower (lowered xs)) e), letters xs (and_second (is_lower (lower_of x)) (every is_lower (lowered xs)) e))

-- a word that is followed by none of its bytes is read as a whole
module _ (w rest : List ℕ) (e : every is_ascii_ident w ≡ true) (f : is_ascii_ident (get_or rest 0 0) ≡ false) where
  word_scan : scan is_ascii_ident (w ++ rest) 0 ≡ length w
  unfolding scan
  word_scan = omega (arith, run_every is_ascii_ident w rest e f)

  word_part : part (w ++ rest) 0 (length w) ≡ w
  unfolding part
  word_part =
      let n : length w - 0 ≡ length w = omega arith in
      rw n (take-append_seam w rest)

pub word_first : (w rest : List ℕ) → every is_ascii_ident w ≡ true → 0 < length w → is_ascii_ident (get_or rest 0 0) ≡ false
    → parse_color (w ++ rest) 0 ≡ cond (is_rgb w) (parse_rgb (w ++ rest) (length w)) (cond (is_hsl w) (parse_hsl (w ++ rest) (length w)) (named_color w (length w)))
unfolding parse_color parse_word
word_first [] rest e h f = absurd (omega arith)
word_first (x ∷ w) rest e h f =
    let v : Wordly x = word_byte x (and_first (is_ascii_ident x) (every is_ascii_ident w) e) in
    let a : leb (suc (length (w ++ rest))) 0 ≡ false = lt-leb (suc (length (w ++ rest))) 0 (omega arith) in
    let b : eqb x 35 ≡ false = ne_eqb x 35 (λ q. omega (arith, v.low)) in
    simp (scanned_none (x ∷ (w ++ rest)) 0 x (w ++ rest) refl is_space (no_space x (omega (arith, v.low))), a, b, word_scan (x ∷ w) rest e f, word_part (x ∷ w) rest e f)

-- a colour, as a whole text with white space about it
module _ (l m : List Blank) (s : List ℕ) (c : Color) (small : length l + (length s + length m) ≤ 4096) (a : Ascii s) where
  at_end : scan is_space (blanks l ++ (s ++ blanks m)) (length l + length s) ≡ length l + (length s + length m)
  at_end = scan_on (blanks l ++ (s ++ blanks m)) (length l + length s) (blanks m) (drop_past l s (blanks m)) is_space (length m) (blanks_alone m) ∙ omega arith

  all_ascii : Ascii (blanks l ++ (s ++ blanks m))
  all_ascii = ascii_append (blanks l) (s ++ blanks m) (blanks_ascii l) (ascii_append s (blanks m) a (blanks_ascii m))

  pub color_text : parse_color (s ++ blanks m) 0 ≡ read_on c (place (length s)) → from_str (blanks l ++ (s ++ blanks m)) ≡ Ok c
  unfolding from_str parse_color_text
  color_text e =
      let n : length (blanks l ++ (s ++ blanks m)) ≡ length l + (length s + length m) = simp (length-append, length-map) in
      let d : admit_text (blanks l ++ (s ++ blanks m)) ≡ Ok tt = ascii_admitted (blanks l ++ (s ++ blanks m)) all_ascii (rw n small) in
      let r : parse_color (blanks l ++ (s ++ blanks m)) 0 ≡ read_on c (place (length l + length s)) = after_blanks l (s ++ blanks m) ∙ ap (moved (move_read stays) (length l)) e in
      let k : ltb (length l + (length s + length m)) (length l + (length s + length m)) ≡ false = le-ltb (length l + (length s + length m)) (length l + (length s + length m)) (omega arith) in
      simp (d, n, r, at_end, k)

-- 5, as the whole text's answer: it lists no position, and its stretch is empty where reading stopped
pub refused_text : (s : List ℕ) (i : ℕ) → admit_text s ≡ Ok tt → parse_color s 0 ≡ Err (invalid_value i) → from_str s ≡ Err (empty_refusal (R.Unread T.InvalidValue) i)
unfolding from_str parse_color_text refusal_of number_of
refused_text s i a e = simp (a, e)
