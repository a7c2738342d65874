-- A shape is a list of atoms. What is left of it, after some bytes, is a list of atoms again: the first may be a number of which a part came.
use Rattle.std.specs.Prelude.{ℕ, ◌+◌, ◌-◌, ◌*◌, min, Bool, true, false, ◌&&◌, List, [], ◌∷◌, ltb, eqb, Result, Ok, Err, Option, Some, None, if◌then◌else◌}
use Rattle.numbers.specs.Digits.{cap}
use Rattle.text_bytes.specs.Moves.{place}
use Rattle.text_bytes.specs.Bytes.{is_sign, is_digit, is_hex_digit, is_space}
use Rattle.text_bytes.specs.Words.{lower_of}
use Rattle.text_bytes.specs.declared.Place.{Place}
use Rattle.shapes.specs.declared.Atom.{Atom}
use Rattle.shapes.specs.declared.Atom.TheVariants as A
use Rattle.shapes.specs.declared.Act.{Act}
use Rattle.shapes.specs.declared.Act.TheVariants as D

-- a digit more, held at 2^53
abbrev pub push : ℕ → ℕ → ℕ
push m b = min cap (m * 10 + (b - 48))

-- a number goes on while M stays below 2^53
abbrev pub below : ℕ → Atom → Act
below n a = if ltb n cap then D.Stay a else D.Lost

-- a number of which nothing but a sign came: a digit, or a dot
unfoldable pub signed : Bool → ℕ → Act
signed dots b = if is_digit b then D.Stay (A.Digits dots (push 0 b)) else (if dots && eqb b 46 then D.Stay (A.Dot 0) else D.Lost)

-- digits came: a digit if M stays below 2^53; a dot if a 0 can follow it; any other byte is the next atom's
unfoldable pub digits : Bool → ℕ → ℕ → Act
digits dots m b =
    if is_digit b then below (push m b) (A.Digits dots (push m b))
    else (if dots && eqb b 46 then below (push m 48) (A.Dot m) else D.Pass)

-- a dot came: a digit
unfoldable pub dot : ℕ → ℕ → Act
dot m b = if is_digit b then below (push m b) (A.Fraction (push m b) 1) else D.Lost

-- k digits came after the dot: at most 22 may
unfoldable pub fraction : ℕ → ℕ → ℕ → Act
fraction m k b = if is_digit b then (if ltb k 22 then below (push m b) (A.Fraction (push m b) (k + 1)) else D.Lost) else D.Pass

unfoldable pub act : Atom → ℕ → Act
act A.Spaces b = if is_space b then D.Stay A.Spaces else D.Pass
act A.Hex b = if is_hex_digit b then D.Next else D.Lost
act (A.Byte c) b = if eqb (lower_of b) c then D.Next else D.Lost
act (A.Number dots) b = if is_sign b then D.Stay (A.Signed dots) else signed dots b
act (A.Signed dots) b = signed dots b
act (A.Digits dots m) b = digits dots m b
act (A.Dot m) b = dot m b
act (A.Fraction m k) b = fraction m k b

unfoldable pub ends : Atom → Bool
ends A.Spaces = true
ends A.Hex = false
ends (A.Byte c) = false
ends (A.Number dots) = false
ends (A.Signed dots) = false
ends (A.Digits dots m) = true
ends (A.Dot m) = false
ends (A.Fraction m k) = true

-- what is left of a shape, which may be lost
abbrev pub after : Act → List Atom → Option (List Atom) → Option (List Atom)
after D.Pass xs l = l
after (D.Stay a) xs l = Some (a ∷ xs)
after D.Next xs l = Some xs
after D.Lost xs l = None

unfoldable pub step : List Atom → ℕ → Option (List Atom)
step [] b = None
step (a ∷ xs) b = after (act a b) xs (step xs b)

unfoldable pub all_end : List Atom → Bool
all_end [] = true
all_end (a ∷ xs) = ends a && all_end xs

abbrev pub or_lost : ℕ → Option (List Atom) → (List Atom → Result (Unit {0}) Place) → Result (Unit {0}) Place
or_lost i None k = Err (place i)
or_lost i (Some xs) k = k xs

-- after i bytes: to the end, or how far
unfoldable pub walk : ℕ → List Atom → List ℕ → Result (Unit {0}) Place
walk i xs [] = if all_end xs then Ok tt else Err (place i)
walk i xs (b ∷ bs) = or_lost i (step xs b) (λ xs'. walk (i + 1) xs' bs)

-- how a shape is written: 1, 2, 3 and 4 are white space, a hex digit, a whole number and a number, any other byte is itself, in small letters
unfoldable pub atom_of : ℕ → Atom
atom_of c =
    if eqb c 1 then A.Spaces
    else (if eqb c 2 then A.Hex
    else (if eqb c 3 then A.Number false
    else (if eqb c 4 then A.Number true
    else A.Byte c)))
