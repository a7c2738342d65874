-- What does not see the case of letters: a test of a byte, a scan, a part; and that two texts which are alike give the same.
use Prim.Native.Nat.{ℕ, zero, suc, ◌+◌, ◌-◌, ◌*◌}
use mathlib.Core.Bool.{Bool, true, false, cond, not}
use mathlib.Core.List.{List, [], ◌∷◌}
use mathlib.Core.Path.{◌≡◌, refl, sym, ap, ◌∙◌}
use native.Mathlib.Omega.{arith}
use lib.Dec.{T, eqb, eqb→eq}
use lib.ListN.{length, get_or, take, drop, length-map}
use Rattle.text_bytes.specs.Bytes.{within, is_upper, is_digit, is_sign, is_space, is_hex_digit, is_ascii_ident}
use Rattle.text_bytes.specs.Scan.{run, scan}
use Rattle.text_bytes.specs.Words.{lower_of, lowered, part, is_curr_byte_eq}
use Rattle.text_bytes.proofs.Ranges.{either, all_from, across, within_ge, within_le, within_low}
use Rattle.numbers.specs.Digits.{value}

-- the same of a letter in either case
abbrev pub Caseless : {A : Type 0} → (ℕ → A) → Type 0
Caseless f = (b : ℕ) → f (lower_of b) ≡ f b

-- it is enough to ask the capitals
pub by_capitals : {A : Type 0} (f : ℕ → A) → ((b : ℕ) → is_upper b ≡ true → f (b + 32) ≡ f b) → Caseless f
unfolding lower_of
by_capitals f c b = either (is_upper b) (λ e. simp e (c b e)) (λ e. simp e)

abbrev agrees : Bool → Bool → Bool
agrees t u = cond t u (not u)

agree : (t u : Bool) → T (agrees t u) → t ≡ u
agree true true e = refl
agree true false e = absurd e
agree false true e = absurd e
agree false false e = refl

-- and they are 26
by_all : {A : Type 0} (f : ℕ → A) (q : A → A → Bool) → ((x y : A) → T (q x y) → x ≡ y) → T (all_from (λ b. q (f (b + 32)) (f b)) 65 26) → Caseless f
by_all f q is c =
    by_capitals f (λ b e. is (f (b + 32)) (f b) (across (λ j. q (f (j + 32)) (f j)) 65 26 c b (within_ge 65 90 b (sym e)) (omega (arith, within_le 65 90 b (sym e)))))

pub by_tests : (p : ℕ → Bool) → T (all_from (λ b. agrees (p (b + 32)) (p b)) 65 26) → Caseless p
by_tests p c = by_all p agrees agree c

pub by_values : (f : ℕ → ℕ) → T (all_from (λ b. eqb (f (b + 32)) (f b)) 65 26) → Caseless f
by_values f c = by_all f eqb eqb→eq c

-- one byte that is no letter
pub byte_case : (c : ℕ) → T (all_from (λ b. agrees (eqb (b + 32) c) (eqb b c)) 65 26) → Caseless (λ b. eqb b c)
byte_case c h = by_tests (λ b. eqb b c) h

-- the classes that the readers go by
pub space_case : Caseless is_space
space_case = by_tests is_space tt

pub sign_case : Caseless is_sign
sign_case = by_tests is_sign tt

pub digit_case : Caseless is_digit
unfolding within
digit_case = by_tests is_digit tt

pub hex_case : Caseless is_hex_digit
unfolding within
hex_case = by_tests is_hex_digit tt

pub word_case : Caseless is_ascii_ident
unfolding within
word_case = by_tests is_ascii_ident tt

pub lower_case : Caseless lower_of
unfolding lower_of within
lower_case = by_values lower_of tt

-- a digit is no letter
pub digit_kept : (b : ℕ) → is_digit b ≡ true → lower_of b ≡ b
unfolding lower_of
digit_kept b e = rw (sym (within_low 65 90 b (omega (arith, within_le 48 57 b (sym e))))) refl

-- in lower case, byte by byte and part by part
low_at : (s : List ℕ) (i : ℕ) → get_or (lowered s) i 0 ≡ lower_of (get_or s i 0)
unfolding lower_of within
low_at [] i = refl
low_at (x ∷ xs) zero = refl
low_at (x ∷ xs) (suc i) = low_at xs i

low_drop : (i : ℕ) (s : List ℕ) → drop i (lowered s) ≡ lowered (drop i s)
low_drop zero s = refl
low_drop (suc i) [] = refl
low_drop (suc i) (x ∷ xs) = low_drop i xs

low_take : (i : ℕ) (s : List ℕ) → take i (lowered s) ≡ lowered (take i s)
low_take zero s = refl
low_take (suc i) [] = refl
low_take (suc i) (x ∷ xs) = ap (λ l. lower_of x ∷ l) (low_take i xs)

low_run : (p : ℕ → Bool) → Caseless p → (l : List ℕ) → run p (lowered l) ≡ run p l
unfolding run
low_run p c [] = refl
low_run p c (x ∷ xs) = rw (c x, low_run p c xs) refl

low_value : (a : ℕ) (l : List ℕ) → value a (lowered l) ≡ value a l
unfolding value
low_value a [] = refl
low_value a (x ∷ xs) =
    either (is_digit x) (λ e. rw (digit_kept x e) (simp e (low_value (a * 10 + (x - 48)) xs)))
    (λ e. simp (digit_case x, e))

-- two texts that are alike
module _ (s t : List ℕ) (h : lowered s ≡ lowered t) where
  pub length_alike : length t ≡ length s
  length_alike = sym (length-map t lower_of) ∙ ap length (sym h) ∙ length-map s lower_of

  pub lower_alike : (i : ℕ) → lower_of (get_or t i 0) ≡ lower_of (get_or s i 0)
  lower_alike i = sym (low_at t i) ∙ ap (λ l. get_or l i 0) (sym h) ∙ low_at s i

  pub byte_alike : {A : Type 0} (f : ℕ → A) → Caseless f → (i : ℕ) → f (get_or t i 0) ≡ f (get_or s i 0)
  byte_alike f c i = sym (c (get_or t i 0)) ∙ ap f (lower_alike i) ∙ c (get_or s i 0)

  drop_alike : (i : ℕ) → lowered (drop i s) ≡ lowered (drop i t)
  drop_alike i = sym (low_drop i s) ∙ ap (drop i) h ∙ low_drop i t

  pub part_alike : (i e : ℕ) → lowered (part s i e) ≡ lowered (part t i e)
  unfolding part
  part_alike i e = sym (low_take (e - i) (drop i s)) ∙ ap (take (e - i)) (drop_alike i) ∙ low_take (e - i) (drop i t)

  pub scan_alike : (p : ℕ → Bool) → Caseless p → (i : ℕ) → scan p t i ≡ scan p s i
  unfolding scan
  scan_alike p c i = ap (λ n. i + n) (sym (low_run p c (drop i t)) ∙ ap (run p) (sym (drop_alike i)) ∙ low_run p c (drop i s))

  pub value_alike : (a i : ℕ) → value a (drop i t) ≡ value a (drop i s)
  value_alike a i = sym (low_value a (drop i t)) ∙ ap (value a) (sym (drop_alike i)) ∙ low_value a (drop i s)

  pub curr_alike : (i c : ℕ) → Caseless (λ b. eqb b c) → is_curr_byte_eq t i c ≡ is_curr_byte_eq s i c
  unfolding is_curr_byte_eq
  curr_alike i c k = rw (length_alike, byte_alike (λ b. eqb b c) k i) refl
