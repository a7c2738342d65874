-- What the outside calls answer for texts that were worked out by hand. What stands in quotation marks is the rule.
use Rattle.std.specs.Prelude.{ℕ, List, [], ◌∷◌, map, true, ◌≡◌, Float, Ok, Err, Some, None}
use Rattle.std.specs.Float.{binary64}
use Rattle.std.specs.Float.Ieee.{of_bits}
use Rattle.text_bytes.specs.Moves.{place}
use Rattle.text_bytes.specs.Words.{ascii}
use Rattle.stream.specs.Refusals.{reason_number, empty_refusal}
use Rattle.stream.specs.declared.Refusal.{Refusal}
use Rattle.stream.specs.declared.Trouble.{Trouble}
use Rattle.stream.specs.declared.Trouble.TheVariants as T
use Rattle.stream.specs.declared.Reason.{Reason}
use Rattle.stream.specs.declared.Reason.TheVariants as R
use Rattle.stream.specs.Steps.{refused_step}
use Rattle.length.specs.Lengths as lengths
use Rattle.length.specs.Paper.{zero_length}
use Rattle.length.specs.declared.Length.{Length}
use Rattle.length.specs.declared.LengthUnit.TheVariants as U
use Rattle.color.specs.Answer as colors
use Rattle.color.specs.Hex.{rgba}
use Rattle.paint.specs.Answers as paints
use Rattle.filter_functions.specs.Filters as filters
use Rattle.filter_functions.specs.Filters.{next_filter}
use Rattle.filter_functions.specs.Shadow.{shadow}
use Rattle.filter_functions.specs.declared.FilterValue.TheVariants as G

-- a trouble that was met, its position, and where its stretch starts and ends
abbrev pub refusal : Trouble → ℕ → ℕ → ℕ → Refusal
refusal t at from to = record { reason = R.Unread t; position = Some (record { 0 = at }); from = place from; to = place to }

-- what the examples are refused for
abbrev pub reasons : List Reason
reasons =
    R.IllFormed
    ∷ R.BadListPlace
    ∷ R.Unread T.UnexpectedEndOfStream
    ∷ R.Unread T.InvalidValue
    ∷ R.Unread T.UnexpectedData
    ∷ R.Unread (T.InvalidChar 37 41)
    ∷ R.Unread T.WrongByte
    ∷ R.Unread T.WrongForm
    ∷ R.Unread T.PercentageValue
    ∷ R.Unread T.NegativeValue
    ∷ R.Unread T.InvalidAngle
    ∷ R.BufferTooShort
    ∷ R.NoKeyword
    ∷ R.Unread T.TextEnded
    ∷ R.Unread T.TooLarge
    ∷ R.Unread T.ScaleOutOfRange
    ∷ []

-- 1.0 and 2.0 with no unit, and 1em
abbrev pub plain : Float → Length
plain x = record { number = x; unit = U.None }

abbrev pub one : Float
one = of_bits binary64 0x3ff0_0000_0000_0000

abbrev pub two : Float
two = of_bits binary64 0x4000_0000_0000_0000

pub record Examples : Type 0 where
  -- their numbers
  pub numbered : map reason_number reasons ≡ 2 ∷ 3 ∷ 4 ∷ 5 ∷ 6 ∷ 7 ∷ 9 ∷ 10 ∷ 11 ∷ 12 ∷ 13 ∷ 16 ∷ 17 ∷ 22 ∷ 23 ∷ 24 ∷ []
  -- "`#1234` is 17,34,51,68"
  pub four_digits : colors.from_str (ascii "#1234") ≡ Ok (rgba 17 34 51 68)
  -- "`#12345` is 5"
  pub five_digits : colors.from_str (ascii "#12345") ≡ Err (empty_refusal (R.Unread T.InvalidValue) 6)
  -- "`rgb(20%,50,20%)` is 51,255,51,255"
  pub marked : colors.from_str (ascii "rgb(20%,50,20%)") ≡ Ok (rgba 51 255 51 255)
  -- "`rgb(10,20%,30)` is 9 at 10"
  pub unmarked : colors.from_str (ascii "rgb(10,20%,30)") ≡ Err (refusal T.WrongByte 10 9 9)
  -- "`rgba(0,0,0,50%)` is 7 at 14, found `%`, wanted `)`" (37, 41)
  pub marked_alpha : colors.from_str (ascii "rgba(0,0,0,50%)") ≡ Err (refusal (T.InvalidChar 37 41) 14 13 14)
  -- "`hsl(120,100,50)` is white"
  pub white : colors.from_str (ascii "hsl(120,100,50)") ≡ Ok (rgba 255 255 255 255)
  -- "empty `Color` is 4"
  pub empty : colors.from_str (ascii "") ≡ Err (empty_refusal (R.Unread T.UnexpectedEndOfStream) 0)
  -- "`url(#a) red)` as paint is 6 at 4"
  pub fallback : paints.from_str (ascii "url(#a) red)") ≡ Err (refusal T.UnexpectedData 4 3 4)
  -- "`1em` is 1 em"
  pub one_em : lengths.from_str (ascii "1em") ≡ Ok (record { value = record { number = one; unit = U.Em }; whole = true; end = place 1 })
  -- "`blur(50%)` is 11 at 6": the list is at its end, 9
  pub percentage : next_filter (ascii "blur(50%)") 0 ≡ refused_step (refusal T.PercentageValue 6 0 8) (place 9)
  -- "`hue-rotate(1)` is 13 at 12"
  pub unmarked_angle : next_filter (ascii "hue-rotate(1)") 0 ≡ refused_step (refusal T.InvalidAngle 12 0 12) (place 13)
  -- "`drop-shadow(1 2 -3)` is a value with deviation 0"
  pub read_past : next_filter (ascii "drop-shadow(1 2 -3)") 0 ≡ filters.value_step (shadow None (record { dx = plain one; dy = plain two; deviation = zero_length })) (place 19)
  -- "`blur()none` gives one value and the end"
  pub value_then_none : next_filter (ascii "blur()none") 0 ≡ filters.value_step (G.Blur zero_length) (place 6)
  pub none_then_end : next_filter (ascii "blur()none") 6 ≡ filters.none_step (place 10)
