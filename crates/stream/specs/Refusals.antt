-- The edge: which text may be read, and what a caller is told.
use Rattle.std.specs.Prelude.{ℕ, ◌≤◌, Bool, ◌||◌, List, leb, eqb, length, Result, Ok, Err, Some, None, if◌then◌else◌}
use Rattle.utf8.specs.Characters.{utf8_of, calc_char_pos_at, on_character}
use Rattle.text_bytes.specs.Flow.{◌>>=◌}
use Rattle.text_bytes.specs.Moves.{place}
use Rattle.stream.specs.declared.Trouble.{Trouble}
use Rattle.stream.specs.declared.Trouble.TheVariants as T
use Rattle.stream.specs.declared.Reason.{Reason}
use Rattle.stream.specs.declared.Reason.TheVariants as R
use Rattle.stream.specs.declared.Fault.{Fault}
use Rattle.stream.specs.declared.Refusal.{Refusal}
use Rattle.text_bytes.specs.declared.Place.{Place}

-- the number of what a reader meets. A number that is refused where it starts is 9, or 22 where the text has ended; one outside the domain is 10 for its form, 23 for its digits, 24 for its scale
unfoldable pub number_of : Trouble → ℕ
number_of T.UnexpectedEndOfStream = 4
number_of T.InvalidValue = 5
number_of T.UnexpectedData = 6
number_of (T.InvalidChar found wanted) = 7
number_of T.InvalidString = 8
number_of T.WrongByte = 9
number_of T.TextEnded = 22
number_of T.WrongForm = 10
number_of T.TooLarge = 23
number_of T.ScaleOutOfRange = 24
number_of T.PercentageValue = 11
number_of T.NegativeValue = 12
number_of T.InvalidAngle = 13
number_of T.MissingDropShadowOffset = 14
number_of T.InvalidUrl = 15

-- the number of each refusal
unfoldable pub reason_number : Reason → ℕ
reason_number R.TextTooLong = 1
reason_number R.IllFormed = 2
reason_number R.BadListPlace = 3
reason_number (R.Unread t) = number_of t
reason_number R.BufferTooShort = 16
reason_number R.NoKeyword = 17
reason_number R.NotStrict = 18

-- an empty stretch where reading stopped
abbrev pub empty_refusal : Reason → ℕ → Refusal
empty_refusal r i = record { reason = r; position = None; from = place i; to = place i }

-- for 1 and 3, nought and nought: a refusal that tells nothing but its reason
abbrev pub bare_refusal : Reason → Refusal
bare_refusal r = empty_refusal r 0

-- a refusal at a place of s: its position, and an empty stretch there
abbrev pub refusal_at : List ℕ → Reason → ℕ → Refusal
refusal_at s r i = record { reason = r; position = Some (record { 0 = calc_char_pos_at s i }); from = place i; to = place i }

-- A position is listed for all numbers from 6 on. The fault's places count in s
unfoldable pub refusal_of : List ℕ → Fault → Refusal
refusal_of s f =
    record {
      reason = R.Unread f.trouble;
      position = if leb (number_of f.trouble) 5 then None else Some (record { 0 = calc_char_pos_at s f.at.0 });
      from = f.from;
      to = f.to;
    }

-- what an outside call makes of an inside reader's answer
abbrev pub at_edge : {A : Type 0} → List ℕ → Result A Fault → Result A Refusal
at_edge s (Ok a) = Ok a
at_edge s (Err e) = Err (refusal_of s e)

-- a number outside the domain is 10, 23 or 24, and these nothing swallows
unfoldable pub is_outside_domain : Fault → Bool
unfolding number_of
is_outside_domain f = let n = number_of f.trouble in eqb n 10 || (eqb n 23 || eqb n 24)

-- 2 has its place as an empty stretch
unfoldable pub admit_utf8 : Result (Unit {0}) Place → Result (Unit {0}) Refusal
admit_utf8 (Ok tt) = Ok tt
admit_utf8 (Err p) = Err (empty_refusal R.IllFormed p.0)

-- 1: a text over 4,096 bytes, then 2: not UTF-8 (RFC 3629)
unfoldable pub admit_text : List ℕ → Result (Unit {0}) Refusal
admit_text s = if leb (length s) 4096 then admit_utf8 (utf8_of s) else Err (bare_refusal R.TextTooLong)

-- then 3: a list place past the end, or inside a character
unfoldable pub admit_place : List ℕ → ℕ → Result (Unit {0}) Refusal
admit_place s i = do
  _ ← admit_text s
  if on_character s i then Ok tt else Err (bare_refusal R.BadListPlace)

-- a refusal's stretch lies in a text of n bytes
pub record Inside (n : ℕ) (e : Refusal) : Type 0 where
  pub ordered : e.from.0 ≤ e.to.0
  pub ends : e.to.0 ≤ n
