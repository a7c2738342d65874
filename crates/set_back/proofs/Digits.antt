-- Digits that were written are read with their values, and `#` with three, four, six or eight of them is a colour.
use Prim.Native.Nat.{ℕ, suc, ◌+◌, ◌*◌, ◌/◌, ◌%◌, ◌<◌}
use mathlib.Core.Bool.{Bool, true}
use mathlib.Core.List.{List, [], ◌∷◌, map}
use mathlib.Core.Path.{◌≡◌, refl, sym, ◌∙◌}
use native.Mathlib.Nat.{div-add-mod', mod-lt, div-lt_iff_lt-mul}
use native.Mathlib.Omega.{arith}
use borrow.Author.Tests.{lt-leb, eqb-true}
use lib.Dec.{T, eqb, ltb}
use lib.ListN.{length}
use Rattle.text_bytes.specs.Bytes.{within, is_hex_digit}
use Rattle.text_bytes.specs.Scan.{run, scan}
use Rattle.text_bytes.proofs.Ranges.{all_from, across}
use Rattle.utf8.specs.Characters.{is_ascii}
use Rattle.names.proofs.Tables.{holds_true}
use Rattle.color.specs.Color.{parse_color}
use Rattle.color.specs.Hex.{rgba, color_read, from_hex, short_hex, hex_pair, short_color, long_color, parse_hex}
use Rattle.set_back.specs.Texts.{digit, doubled}

-- half a byte
pub record Half : Type 0 where
  pub value : ℕ
  pub small : value < 16

abbrev pub character : Half → ℕ
character h = digit h.value

-- a test that is computed at each of the sixteen digits
tested : (t : ℕ → Bool) → T (all_from t 0 16) → (h : Half) → t h.value ≡ true
tested t p h = sym (holds_true _ (across t 0 16 p h.value (omega arith) (omega (arith, h.small))))

module _ (h : Half) where
  is_hex : is_hex_digit (character h) ≡ true
  unfolding digit within
  is_hex = tested (λ n. is_hex_digit (digit n)) tt h

  has_value : from_hex (character h) ≡ h.value
  unfolding digit from_hex within
  has_value = eqb-true _ _ (tested (λ n. eqb (from_hex (digit n)) n) tt h)

  is_low : ltb (character h) 128 ≡ true
  unfolding digit
  is_low = tested (λ n. ltb (digit n) 128) tt h

all_hex : (l : List Half) → run is_hex_digit (map character l) ≡ length l
unfolding run
all_hex [] = refl
all_hex (h ∷ l) = simp (is_hex h, all_hex l)

all_low : (l : List Half) → is_ascii (map character l) ≡ true
unfolding is_ascii
all_low [] = refl
all_low (h ∷ l) = simp (is_low h, all_low l)

-- `#` (35) and digits
abbrev pub hashed : List Half → List ℕ
hashed l = 35 ∷ map character l

pub hashed_ascii : (l : List Half) → is_ascii (hashed l) ≡ true
unfolding is_ascii
hashed_ascii l = all_low l

-- the run of digits is all of them
run_is : (l : List Half) → scan is_hex_digit (hashed l) 1 ≡ 1 + length l
unfolding scan
run_is l = simp (all_hex l)

hash_first : (l : List Half) → parse_color (hashed l) 0 ≡ parse_hex (hashed l) 1
unfolding parse_color scan run
hash_first l = simp (lt-leb (suc (length (map character l))) 0 (omega arith))

-- a doubled digit, and two digits, as a channel
abbrev pub twice : Half → ℕ
twice h = h.value * 16 + h.value

abbrev pub both : Half → Half → ℕ
both h k = h.value * 16 + k.value

module _ (r g b a : Half) where
  pub three_read : parse_color (hashed (r ∷ g ∷ b ∷ [])) 0 ≡ color_read (rgba (twice r) (twice g) (twice b) 255) 4
  unfolding parse_hex short_color short_hex
  three_read = hash_first (r ∷ g ∷ b ∷ []) ∙ simp (run_is (r ∷ g ∷ b ∷ []), has_value)

  pub four_read : parse_color (hashed (r ∷ g ∷ b ∷ a ∷ [])) 0 ≡ color_read (rgba (twice r) (twice g) (twice b) (twice a)) 5
  unfolding parse_hex short_color short_hex
  four_read = hash_first (r ∷ g ∷ b ∷ a ∷ []) ∙ simp (run_is (r ∷ g ∷ b ∷ a ∷ []), has_value)

  module _ (r' g' b' a' : Half) where
    pub six_read : parse_color (hashed (r ∷ r' ∷ g ∷ g' ∷ b ∷ b' ∷ [])) 0 ≡ color_read (rgba (both r r') (both g g') (both b b') 255) 7
    unfolding parse_hex long_color hex_pair
    six_read = hash_first (r ∷ r' ∷ g ∷ g' ∷ b ∷ b' ∷ []) ∙ simp (run_is (r ∷ r' ∷ g ∷ g' ∷ b ∷ b' ∷ []), has_value)

    pub eight_read : parse_color (hashed (r ∷ r' ∷ g ∷ g' ∷ b ∷ b' ∷ a ∷ a' ∷ [])) 0 ≡ color_read (rgba (both r r') (both g g') (both b b') (both a a')) 9
    unfolding parse_hex long_color hex_pair
    eight_read = hash_first (r ∷ r' ∷ g ∷ g' ∷ b ∷ b' ∷ a ∷ a' ∷ []) ∙ simp (run_is (r ∷ r' ∷ g ∷ g' ∷ b ∷ b' ∷ a ∷ a' ∷ []), has_value)

-- the halves of a byte
module _ (n : ℕ) (l : n < 256) where
  abbrev pub upper : Half
  upper = record { value = n / 16; small = (div-lt_iff_lt-mul {k = 16} {x = n} {y = 16} (omega arith)).1 (omega arith) }

  abbrev pub lower : Half
  lower = record { value = n % 16; small = mod-lt n (omega arith) }

  pub halves : both upper lower ≡ n
  halves = div-add-mod' n 16

  pub doubles : doubled n ≡ true → twice lower ≡ n
  doubles e = let q : n / 16 ≡ n % 16 = eqb-true _ _ e in omega (arith, div-add-mod' n 16)
