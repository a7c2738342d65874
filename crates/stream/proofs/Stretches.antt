-- Where the stretch of a fault lies.
use Prim.Native.Nat.{ℕ, zero, suc, ◌+◌, ◌-◌, ◌≤◌, ◌<◌, min}
use mathlib.Core.Bool.{true, false}
use mathlib.Core.List.{List}
use mathlib.Core.Path.{◌≡◌, refl}
use native.Mathlib.Omega.{arith}
use borrow.Author.Tests.{leb-false}
use lib.Dec.{leb, eqb}
use lib.ListN.{length, get_or, drop, length-drop}
use Rattle.text_bytes.specs.Words.{starts_with}
use Rattle.text_bytes.specs.declared.Place.{Place}
use Rattle.utf8.specs.Characters.{char_len, skip_chars}
use Rattle.text_bytes.proofs.Ranges.{either}
use Rattle.text_bytes.proofs.Wording.{word_ends}
use Rattle.utf8.proofs.Octets.{char_le}
use Rattle.stream.specs.Faults.{trouble_at, unexpected_end, invalid_value, unexpected_data, invalid_char, consume_byte, consume_string}
use Rattle.std.specs.Prelude.{MatchResult}
use Rattle.stream.specs.Refusals.{number_of}
use Rattle.stream.specs.declared.Trouble.{Trouble}
use Rattle.stream.specs.declared.Trouble.TheVariants as T
use Rattle.stream.specs.declared.Fault.{Fault}

-- in a text of n bytes; of 4 and 5 it is empty
pub record Lies (n : ℕ) (f : Fault) : Type 0 where
  pub ordered : f.from.0 ≤ f.to.0
  pub inside : f.to.0 ≤ n
  pub empty : leb (number_of f.trouble) 5 ≡ true → f.to ≡ f.from

-- and it starts where the position is taken from, as of every reader but those of filters
pub record LiesAt (n : ℕ) (f : Fault) : Type 0 where
  pub lies : Lies n f
  pub start : f.from ≡ f.at

pub end_lies : (s : List ℕ) → LiesAt (length s) (unexpected_end s)
end_lies s = record { lies = record { ordered = omega arith; inside = omega arith; empty = λ h. refl }; start = refl }

pub value_lies : {n : ℕ} (i : ℕ) → i ≤ n → LiesAt n (invalid_value i)
value_lies i h = record { lies = record { ordered = omega arith; inside = h; empty = λ e. refl }; start = refl }

pub data_lies : (s : List ℕ) (i : ℕ) → i ≤ length s → LiesAt (length s) (unexpected_data s i)
unfolding number_of
data_lies s i h = record { lies = record { ordered = h; inside = omega arith; empty = λ e. let z : ◌≡◌ {A = ℕ} 0 1 = cc in absurd (omega arith) }; start = refl }

pub char_lies : {n : ℕ} (i found wanted : ℕ) → i < n → LiesAt n (invalid_char i found wanted)
unfolding number_of
char_lies i found wanted h = record { lies = record { ordered = omega arith; inside = omega (arith, h); empty = λ e. let z : ◌≡◌ {A = ℕ} 0 1 = cc in absurd (omega arith) }; start = refl }

-- of a trouble from 6 on: any stretch inside will do
pub trouble_lies : {n : ℕ} (t : Trouble) (at from to : ℕ) → leb (number_of t) 5 ≡ false → from ≤ to → to ≤ n → Lies n (trouble_at t at from to)
trouble_lies t at from to q h l = record { ordered = h; inside = l; empty = λ e. let z : ◌≡◌ {A = ℕ} 0 1 = cc in absurd (omega arith) }

pub shown_lies : {n : ℕ} (t : Trouble) (i to : ℕ) → leb (number_of t) 5 ≡ false → i ≤ to → to ≤ n → LiesAt n (trouble_at t i i to)
shown_lies t i to q h l = record { lies = trouble_lies t i i to q h l; start = refl }

skip_ge : (m : ℕ) (s : List ℕ) (i : ℕ) → i ≤ skip_chars m s i
unfolding skip_chars
skip_ge zero s i = omega arith
skip_ge (suc m) s i = omega (arith, skip_ge m s (i + char_len (drop i s)))

skip_le : (m : ℕ) (s : List ℕ) (i : ℕ) → i ≤ length s → skip_chars m s i ≤ length s
unfolding skip_chars
skip_le zero s i h = h
skip_le (suc m) s i h = skip_le m s (i + char_len (drop i s)) (omega (arith, char_le (drop i s), length-drop i s))

-- a byte that was taken stands there, and reading goes on right after it
pub record Took (s : List ℕ) (i c : ℕ) (p : Place) : Type 0 where
  pub next : p.0 ≡ i + 1
  pub byte : eqb (get_or s i 0) c ≡ true
  pub inside : i < length s

pub record TookWord (s : List ℕ) (i : ℕ) (w : List ℕ) (p : Place) : Type 0 where
  pub next : p.0 ≡ i + length w
  pub word : starts_with w (drop i s) ≡ true
  pub short : length w ≤ length s - i

-- a fault of reading at a place of the text
abbrev pub LiesFrom : List ℕ → ℕ → Fault → Type 0
LiesFrom s i e = i ≤ length s → LiesAt (length s) e

pub byte_taken : (s : List ℕ) (i c : ℕ) → MatchResult (consume_byte s i c) (Took s i c) (LiesFrom s i)
unfolding consume_byte
byte_taken s i c =
    either (leb (length s) i) (λ e. simp e (λ h. end_lies s))
    (λ e. let l : i < length s = leb-false (length s) i e in
    either (eqb (get_or s i 0) c) (λ q. simp (e, q) (record { next = refl; byte = q; inside = l }))
    (λ q. simp (e, q) (λ h. char_lies i (get_or s i 0) c l)))

pub word_taken : (s : List ℕ) (i : ℕ) (w : List ℕ) → MatchResult (consume_string s i w) (TookWord s i w) (LiesFrom s i)
unfolding consume_string number_of
word_taken s i w =
    let m = min (length w) (length s - i) in
    either (leb (length s) i) (λ e. simp e (λ h. end_lies s))
    (λ e. either (starts_with w (drop i s))
    (λ q. simp (e, q) (record { next = refl; word = q; short = (word_ends w s i q).1 }))
    (λ q. simp (e, q) (λ h. shown_lies T.InvalidString i (skip_chars m s i) refl (skip_ge m s i) (skip_le m s i h))))
