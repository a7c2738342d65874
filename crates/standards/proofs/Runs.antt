-- Classes of bytes: runs of one class, white space, and ASCII texts, which are UTF-8, admitted, and at each place on a character.
use Prim.Native.Nat.{ℕ, zero, suc, ◌+◌, ◌≤◌, ◌<◌}
use mathlib.Core.Bool.{Bool, true, false}
use mathlib.Core.List.{List, [], ◌∷◌, ◌++◌, map, append-nil}
use mathlib.Core.Logic.{⊎_elim}
use mathlib.Core.Path.{◌≡◌, refl, ◌∙◌}
use native.Mathlib.Omega.{arith}
use borrow.Author.Tests.{ne_eqb, lt-ltb, le-leb, ltb-true}
use lib.Dec.{ltb, lit≤}
use lib.ListN.{length, get_or, length-map}
use Rattle.text_bytes.specs.Bytes.{is_space}
use Rattle.utf8.specs.Characters.{walk, utf8_of, on_character}
use Rattle.stream.specs.Refusals.{admit_utf8, admit_text}
use Rattle.text_bytes.specs.Scan.{run}
use Rattle.utf8.proofs.Counting.{on_byte, on_end}
use Rattle.utf8.proofs.Octets.{char_ascii}
use Rattle.text_bytes.proofs.Ranges.{and_first, and_second, le_or_lt, within_low}
use Rattle.std.specs.Prelude.{Ok}
use Rattle.standards.specs.CssValues3.{Blank, space, tab, line_feed, return, blank, blanks, Digit, numeral, numerals, Sign, unsigned, plus, minus, sign, Digits, whole, dotted, digits, Exponent, absent, small, capital, exponent, Number, number}
pub use Rattle.standards.specs.Written.{every}

module _ (p : ℕ → Bool) where
  pub every_map : {A : Type 0} (f : A → ℕ) → ((a : A) → p (f a) ≡ true) → (l : List A) → every p (map f l) ≡ true
  every_map f h [] = refl
  every_map f h (a ∷ l) = simp (h a, every_map f h l)

  pub every_append : (a b : List ℕ) → every p a ≡ true → every p b ≡ true → every p (a ++ b) ≡ true
  every_append [] b e f = f
  every_append (x ∷ xs) b e f = simp (and_first (p x) (every p xs) e, every_append xs b (and_second (p x) (every p xs) e) f)

  -- bytes of the class with another after them, or the end: they are the run
  pub run_every : (a rest : List ℕ) → every p a ≡ true → p (get_or rest 0 0) ≡ false → run p (a ++ rest) ≡ length a
  unfolding run
  run_every [] [] e f = refl
  run_every [] (x ∷ xs) e f = simp f
  run_every (x ∷ xs) rest e f = simp (and_first (p x) (every p xs) e, run_every xs rest (and_second (p x) (every p xs) e) f)

  pub run_map : {A : Type 0} (f : A → ℕ) → ((a : A) → p (f a) ≡ true) → (l : List A) (rest : List ℕ) → p (get_or rest 0 0) ≡ false → run p (map f l ++ rest) ≡ length l
  run_map f h l rest e = run_every (map f l) rest (every_map f h l) e ∙ length-map l f

-- white space is what the readers skip
pub blank_is : (b : Blank) → is_space (blank b) ≡ true
unfolding blank
blank_is space = refl
blank_is tab = refl
blank_is line_feed = refl
blank_is return = refl

pub blanks_run : (l : List Blank) (rest : List ℕ) → is_space (get_or rest 0 0) ≡ false → run is_space (blanks l ++ rest) ≡ length l
blanks_run l rest e = run_map is_space blank blank_is l rest e

pub blanks_alone : (l : List Blank) → run is_space (blanks l) ≡ length l
blanks_alone l = rw append-nil at (blanks_run l [] refl)

pub no_space : (x : ℕ) → 32 < x → is_space x ≡ false
no_space x h = simp (ne_eqb x 32 (λ e. omega arith), ne_eqb x 9 (λ e. omega arith), ne_eqb x 10 (λ e. omega arith), ne_eqb x 13 (λ e. omega arith))

-- a class with no white space in it ends where white space or nothing follows
pub blanks_end : (p : ℕ → Bool) → p 0 ≡ false → p 32 ≡ false → p 9 ≡ false → p 10 ≡ false → p 13 ≡ false → (l : List Blank) → p (get_or (blanks l) 0 0) ≡ false
unfolding blank
blanks_end p z a b c d [] = z
blanks_end p z a b c d (space ∷ l) = a
blanks_end p z a b c d (tab ∷ l) = b
blanks_end p z a b c d (line_feed ∷ l) = c
blanks_end p z a b c d (return ∷ l) = d

-- ASCII texts
abbrev pub is_ascii : ℕ → Bool
is_ascii b = ltb b 128

abbrev pub Ascii : List ℕ → Type 0
Ascii s = every is_ascii s ≡ true

pub ascii_append : (a b : List ℕ) → Ascii a → Ascii b → Ascii (a ++ b)
ascii_append a b h k = every_append is_ascii a b h k

pub ascii_map : {A : Type 0} (f : A → ℕ) → ((x : A) → f x < 128) → (l : List A) → Ascii (map f l)
ascii_map f h l = every_map is_ascii f (λ x. lt-ltb (f x) 128 (h x)) l

pub ascii_rest : (x : ℕ) (xs : List ℕ) → Ascii (x ∷ xs) → Ascii xs
ascii_rest x xs e = and_second (ltb x 128) (every is_ascii xs) e

pub ascii_byte : (s : List ℕ) (i : ℕ) → Ascii s → get_or s i 0 < 128
ascii_byte [] i e = lit≤ tt
ascii_byte (x ∷ xs) zero e = ltb-true x 128 (and_first (ltb x 128) (every is_ascii xs) e)
ascii_byte (x ∷ xs) (suc i) e = ascii_byte xs i (ascii_rest x xs e)

walk_ascii : (i : ℕ) (s : List ℕ) → Ascii s → walk i 0 s ≡ Ok tt
unfolding walk
walk_ascii i [] e = refl
walk_ascii i (x ∷ xs) e = simp (char_ascii x xs (ascii_byte (x ∷ xs) 0 e)) (walk_ascii (i + 1) xs (ascii_rest x xs e))

pub utf8_ascii : (s : List ℕ) → Ascii s → utf8_of s ≡ Ok tt
unfolding utf8_of
utf8_ascii s e = walk_ascii 0 s e

-- one that is short enough may be read
pub utf8_admitted : (s : List ℕ) → utf8_of s ≡ Ok tt → length s ≤ 4096 → admit_text s ≡ Ok tt
unfolding admit_text admit_utf8
utf8_admitted s e h = simp (le-leb (length s) 4096 h, e)

pub ascii_admitted : (s : List ℕ) → Ascii s → length s ≤ 4096 → admit_text s ≡ Ok tt
ascii_admitted s e h = utf8_admitted s (utf8_ascii s e) h

pub on_ascii : (s : List ℕ) (i : ℕ) → Ascii s → i ≤ length s → on_character s i ≡ true
on_ascii s i h l =
    ⊎_elim (λ (k : length s ≤ i). let e : i ≡ length s = omega arith in rw e (on_end s))
    (λ (k : i < length s). rw (on_byte s i (utf8_ascii s h) k, ← within_low 0x80 0xbf (get_or s i 0) (ascii_byte s i h)))
    (le_or_lt (length s) i)

-- white space and numbers are ASCII
blank_small : (b : Blank) → blank b < 128
unfolding blank
blank_small space = lit≤ tt
blank_small tab = lit≤ tt
blank_small line_feed = lit≤ tt
blank_small return = lit≤ tt

pub blanks_ascii : (l : List Blank) → Ascii (blanks l)
blanks_ascii l = ascii_map blank blank_small l

numerals_ascii : (l : List Digit) → Ascii (numerals l)
unfolding numeral
numerals_ascii l = ascii_map numeral (λ d. omega (arith, d.small)) l

sign_ascii : (s : Sign) → Ascii (sign s)
unfolding sign
sign_ascii unsigned = refl
sign_ascii plus = refl
sign_ascii minus = refl

digits_ascii : (d : Digits) → Ascii (digits d)
unfolding digits
digits_ascii (whole d ds) = numerals_ascii (d ∷ ds)
digits_ascii (dotted ds f fs) = ascii_append (numerals ds) (46 ∷ numerals (f ∷ fs)) (numerals_ascii ds) (numerals_ascii (f ∷ fs))

exponent_ascii : (e : Exponent) → Ascii (exponent e)
unfolding exponent
exponent_ascii absent = refl
exponent_ascii (small s d ds) = ascii_append (sign s) (numerals (d ∷ ds)) (sign_ascii s) (numerals_ascii (d ∷ ds))
exponent_ascii (capital s d ds) = ascii_append (sign s) (numerals (d ∷ ds)) (sign_ascii s) (numerals_ascii (d ∷ ds))

pub number_ascii : (n : Number) → Ascii (number n)
unfolding number
number_ascii n =
    ascii_append (sign n.signed) _ (sign_ascii n.signed)
    (ascii_append (digits n.digits_of) (exponent n.exponent_part) (digits_ascii n.digits_of) (exponent_ascii n.exponent_part))

-- the first byte of a number: a sign, a dot or a digit
pub record First (x : ℕ) : Type 0 where
  pub low : 43 ≤ x
  pub high : x < 58
  pub no_comma : x ≡ 44 → ⊥

pub number_first : (t : Number) (b : List ℕ) → First (get_or (number t ++ b) 0 0)
unfolding number sign digits numeral
number_first t b = go t.signed t.digits_of (exponent t.exponent_part)
  where
    digit_first : (d : Digit) → First (48 + d.is)
    digit_first d = record { low = omega arith; high = omega (arith, d.small); no_comma = λ e. omega arith }

    go : (g : Sign) (d : Digits) (x : List ℕ) → First (get_or ((sign g ++ (digits d ++ x)) ++ b) 0 0)
    go plus d x = record { low = lit≤ tt; high = lit≤ tt; no_comma = λ e. omega arith }
    go minus d x = record { low = lit≤ tt; high = lit≤ tt; no_comma = λ e. omega arith }
    go unsigned (whole d ds) x = digit_first d
    go unsigned (dotted [] f fs) x = record { low = lit≤ tt; high = lit≤ tt; no_comma = λ e. omega arith }
    go unsigned (dotted (d ∷ ds) f fs) x = digit_first d

-- so it has one
pub number_some : (t : Number) → 0 < length (number t)
number_some t = go (number t) (number_first t [])
  where
    go : (x : List ℕ) → First (get_or (x ++ []) 0 0) → 0 < length x
    go [] f = absurd (omega (arith, f.low))
    go (y ∷ ys) f = omega arith
