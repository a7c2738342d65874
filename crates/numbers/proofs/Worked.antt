-- Worked examples of the definitions, computed.
use Prim.Native.Nat.{ℕ}
use mathlib.Core.Bool.{Bool, true, false}
use mathlib.Core.List.{[], ◌∷◌}
use mathlib.Core.Path.{◌≡◌, refl}
use lib.IntN.{pos, negsuc}
use lib.Ieee.{Float, fin, mul, div, neg, of_int, of_bits}
use Rattle.text_bytes.specs.Bytes.{within}
use Rattle.text_bytes.specs.Moves.{place}
use Rattle.stream.specs.Faults.{parse_list_separator}
use Rattle.text_bytes.specs.Scan.{scan, run}
use Rattle.text_bytes.specs.Words.{is_curr_byte_eq}
use Rattle.stream.specs.declared.Trouble.TheVariants as T
use Rattle.std.specs.Prelude.{Result, Ok, Err}
use Rattle.stream.specs.declared.Fault.{Fault}
use Rattle.stream.specs.declared.Read.{Read}
use Rattle.stream.specs.declared.Trouble.{Trouble}
use Rattle.numbers.specs.Moves.{Number}
use Rattle.numbers.specs.Digits.{value}
use Rattle.numbers.specs.Powers.{power_of, power_bits}
use Rattle.numbers.specs.Number.{refused_at, parse_number, parse_number_or_percent, parse_list_number, number_from, finished, scaled, value_of, signed, scale_of, exponent_at, exponent_from, mantissa_at, mantissa_dot, after_sign}

-- a number that ends where reading goes on
abbrev read : Float → Bool → ℕ → Result (Read Number) Fault
read v whole end = Ok (record { value = record { value = v; whole = whole; end = place end }; next = place end })

abbrev fails : Trouble → ℕ → ℕ → Result (Read Number) Fault
fails t start to = Err (refused_at t start to)

-- ` -1.5em` is -3/2, and the unit stays
minus_one_and_a_half : parse_number (32 ∷ 45 ∷ 49 ∷ 46 ∷ 53 ∷ 101 ∷ 109 ∷ []) 0 ≡ read (fin true 3 (negsuc 0)) false 5
unfolding parse_number number_from finished scaled value_of signed scale_of exponent_at exponent_from mantissa_at mantissa_dot after_sign value scan run within power_of power_bits mul div neg of_int of_bits
minus_one_and_a_half = refl

-- `1.`: the dot wants a digit
dot_alone : parse_number (49 ∷ 46 ∷ []) 0 ≡ fails T.WrongForm 0 2
unfolding parse_number number_from finished scaled scale_of exponent_at exponent_from mantissa_at mantissa_dot after_sign value scan run within
dot_alone = refl

-- `1e22` is the last power in range
e22 : parse_number (49 ∷ 101 ∷ 50 ∷ 50 ∷ []) 0 ≡ read (fin false 2384185791015625 (pos 22)) false 4
unfolding parse_number number_from finished scaled value_of signed scale_of exponent_at exponent_from mantissa_at mantissa_dot after_sign value scan run within power_of power_bits mul div neg of_int of_bits
e22 = refl

-- `1e23`
e23 : parse_number (49 ∷ 101 ∷ 50 ∷ 51 ∷ []) 0 ≡ fails T.ScaleOutOfRange 0 4
unfolding parse_number number_from finished scaled scale_of exponent_at exponent_from mantissa_at mantissa_dot after_sign value scan run within
e23 = refl

-- `9007199254740991`
largest : parse_number (57 ∷ 48 ∷ 48 ∷ 55 ∷ 49 ∷ 57 ∷ 57 ∷ 50 ∷ 53 ∷ 52 ∷ 55 ∷ 52 ∷ 48 ∷ 57 ∷ 57 ∷ 49 ∷ []) 0 ≡ read (fin false 9007199254740991 (pos 0)) true 16
unfolding parse_number number_from finished scaled value_of signed scale_of exponent_at exponent_from mantissa_at mantissa_dot after_sign value scan run within power_of power_bits mul div neg of_int of_bits
largest = refl

-- `9007199254740992`
too_large : parse_number (57 ∷ 48 ∷ 48 ∷ 55 ∷ 49 ∷ 57 ∷ 57 ∷ 50 ∷ 53 ∷ 52 ∷ 55 ∷ 52 ∷ 48 ∷ 57 ∷ 57 ∷ 50 ∷ []) 0 ≡ fails T.TooLarge 0 16
unfolding parse_number number_from finished scaled scale_of exponent_at exponent_from mantissa_at mantissa_dot after_sign value scan run within
too_large = refl

-- `-0` is minus zero
minus_zero : parse_number (45 ∷ 48 ∷ []) 0 ≡ read (fin true 0 (pos 0)) true 2
unfolding parse_number number_from finished scaled value_of signed scale_of exponent_at exponent_from mantissa_at mantissa_dot after_sign value scan run within power_of power_bits mul div neg of_int of_bits
minus_zero = refl

-- `1e+m`: only directly after the e is an m a unit's
signed_unit : parse_number (49 ∷ 101 ∷ 43 ∷ 109 ∷ []) 0 ≡ fails T.WrongForm 0 3
unfolding parse_number number_from finished scaled scale_of exponent_at exponent_from mantissa_at mantissa_dot after_sign value scan run within
signed_unit = refl

-- a NUL byte is no end of the text
nul : parse_number (0 ∷ []) 0 ≡ fails T.WrongByte 0 0
unfolding parse_number number_from finished scaled scale_of exponent_at exponent_from mantissa_at mantissa_dot after_sign value scan run within
nul = refl

-- `12` is written whole, `12.0` and `1e0` are not
twelve : parse_number (49 ∷ 50 ∷ []) 0 ≡ read (fin false 3 (pos 2)) true 2
unfolding parse_number number_from finished scaled value_of signed scale_of exponent_at exponent_from mantissa_at mantissa_dot after_sign value scan run within power_of power_bits mul div neg of_int of_bits
twelve = refl

twelve_dotted : parse_number (49 ∷ 50 ∷ 46 ∷ 48 ∷ []) 0 ≡ read (fin false 3 (pos 2)) false 4
unfolding parse_number number_from finished scaled value_of signed scale_of exponent_at exponent_from mantissa_at mantissa_dot after_sign value scan run within power_of power_bits mul div neg of_int of_bits
twelve_dotted = refl

one_e_nought : parse_number (49 ∷ 101 ∷ 48 ∷ []) 0 ≡ read (fin false 1 (pos 0)) false 3
unfolding parse_number number_from finished scaled value_of signed scale_of exponent_at exponent_from mantissa_at mantissa_dot after_sign value scan run within power_of power_bits mul div neg of_int of_bits
one_e_nought = refl

-- `50%` is a half; the number ended before the `%`
half : parse_number_or_percent (53 ∷ 48 ∷ 37 ∷ []) 0 ≡ Ok (record { value = record { value = fin false 1 (negsuc 0); whole = true; end = place 2 }; next = place 3 })
unfolding parse_number_or_percent parse_number number_from finished scaled value_of signed scale_of exponent_at exponent_from mantissa_at mantissa_dot after_sign value scan run within is_curr_byte_eq power_of power_bits mul div neg of_int of_bits
half = refl

-- `1 ,,`: spaces and one comma
one_comma : parse_list_number (49 ∷ 32 ∷ 44 ∷ 44 ∷ []) 0 ≡ Ok (record { value = record { value = fin false 1 (pos 0); whole = true; end = place 1 }; next = place 3 })
unfolding parse_list_number parse_list_separator parse_number number_from finished scaled value_of signed scale_of exponent_at exponent_from mantissa_at mantissa_dot after_sign value scan run within is_curr_byte_eq power_of power_bits mul div neg of_int of_bits
one_comma = refl
