-- `#` and its digits, without a refusal. Only contracts inside the crate speak of it.
use Rattle.std.specs.Prelude.{ℕ, ◌+◌, ◌*◌, List, [], ◌∷◌, eqb, length, get_or, Option, Some, None, if◌then◌else◌}
use Rattle.text_bytes.specs.Bytes.{is_hex_digit}
use Rattle.color.specs.Hex.{rgba, from_hex}
use Rattle.packed.specs.Numbers.{color_number}

-- a block of steps, as `?` goes through it
abbrev pub then_on : {A B : Type 0} → Option A → (A → Option B) → Option B
then_on (Some a) f = f a
then_on None f = None

infixl 10 ◌>>=◌
abbrev pub ◌>>=◌ : {A B : Type 0} → Option A → (A → Option B) → Option B
x >>= f = then_on x f

unfoldable pub digit : ℕ → Option ℕ
digit c = if is_hex_digit c then Some (from_hex c) else None

-- its value, 16 for another byte
unfoldable pub value : ℕ → ℕ
value c = if is_hex_digit c then from_hex c else 16

-- a channel by its two digits
unfoldable pub pair : ℕ → ℕ → Option ℕ
pair a b = do
  high ← digit a
  low ← digit b
  Some (high * 16 + low)

-- the number of a colour by its eight digits
unfoldable pub color_of : List ℕ → Option ℕ
color_of d = do
  red ← pair (get_or d 0 0) (get_or d 1 0)
  green ← pair (get_or d 2 0) (get_or d 3 0)
  blue ← pair (get_or d 4 0) (get_or d 5 0)
  alpha ← pair (get_or d 6 0) (get_or d 7 0)
  Some (color_number (rgba red green blue alpha))

-- a text of `#` and six digits, three, eight or four: short ones are doubled, and absent alpha is `ff` (102 twice)
unfoldable pub digits_alone : List ℕ → Option ℕ
digits_alone w =
    let a = get_or w 1 0 in
    let b = get_or w 2 0 in
    let c = get_or w 3 0 in
    let d = get_or w 4 0 in
    if eqb (length w) 7 then color_of (a ∷ b ∷ c ∷ d ∷ get_or w 5 0 ∷ get_or w 6 0 ∷ 102 ∷ 102 ∷ [])
    else (if eqb (length w) 4 then color_of (a ∷ a ∷ b ∷ b ∷ c ∷ c ∷ 102 ∷ 102 ∷ [])
    else (if eqb (length w) 9 then color_of (a ∷ b ∷ c ∷ d ∷ get_or w 5 0 ∷ get_or w 6 0 ∷ get_or w 7 0 ∷ get_or w 8 0 ∷ [])
    else (if eqb (length w) 5 then color_of (a ∷ a ∷ b ∷ b ∷ c ∷ c ∷ d ∷ d ∷ [])
    else None)))
