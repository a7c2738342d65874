-- Which reading is asked for, of which line. What stands in quotation marks is the rule.
use Rattle.std.specs.Prelude.{ℕ, ◌≤◌, Bool, true, false, ◌||◌, List, [], ◌∷◌, ◌++◌, ◌≡◌, eqb, ltb, length, Result, Err, if◌then◌else◌, Ok}
use Rattle.text_bytes.specs.Words.{ascii, same, starts_with}
use Rattle.utf8.specs.Characters.{utf8_of}
use Rattle.stream.specs.Refusals.{empty_refusal}
use Rattle.stream.specs.declared.Refusal.{Refusal}
use Rattle.stream.specs.declared.Trouble.TheVariants as T
use Rattle.stream.specs.declared.Reason.TheVariants as R
use Rattle.color.specs.Answer.{from_str}
use Rattle.color.specs.declared.Color.{Color}
use Rattle.strict.specs.Answer.{strict_from_str}

-- "The first line is the input up to a line feed or its end" (10 is the line feed). A return before it belongs to the line
unfoldable pub first_line : List ℕ → List ℕ
first_line [] = []
first_line (x ∷ xs) = if eqb x 10 then [] else x ∷ first_line xs

-- what follows the first line feed
unfoldable pub after_feed : List ℕ → List ℕ
after_feed [] = []
after_feed (x ∷ xs) = if eqb x 10 then xs else after_feed xs

-- "the line after it", the empty one where there is none
unfoldable pub next_line : List ℕ → List ℕ
next_line s = first_line (after_feed s)

abbrev pub say_loose : List ℕ
say_loose = ascii "read=loose"

abbrev pub say_strict : List ℕ
say_strict = ascii "read=strict"

-- "a first line `read=loose` brings it back for the line after it, and `read=strict` may be said too". "Any other first line is the text, by the strict reading"
unfoldable pub asked_of : List ℕ → Result Color Refusal
asked_of s =
    if same (first_line s) say_loose then from_str (next_line s)
    else (if same (first_line s) say_strict then strict_from_str (next_line s)
    else strict_from_str (first_line s))

-- the first line has ended, and not only the bytes that have come
unfoldable pub has_feed : List ℕ → Bool
has_feed [] = false
has_feed (x ∷ xs) = eqb x 10 || has_feed xs

-- a first line that has ended, or is over the limit however it goes on: "1: text over 4,096 bytes"
unfoldable pub is_settled : List ℕ → Bool
is_settled s = has_feed s || ltb 4096 (length s)

unfoldable pub is_choice : List ℕ → Bool
is_choice l = same l say_loose || same l say_strict

-- whether the lines that count have ended
unfoldable pub is_enough : List ℕ → Bool
is_enough s = if is_choice (first_line s) then is_settled (after_feed s) else is_settled s

-- "Lines after the text are not read": whatever comes after these bytes, the answer is theirs
abbrev pub Settled : List ℕ → Type 0
Settled s = (t : List ℕ) → asked_of (s ++ t) ≡ asked_of s

-- "5 for another word after `read=`", where reading stopped
abbrev pub OtherWord : List ℕ → Type 0
OtherWord s =
    starts_with (ascii "read=") (first_line s) ≡ true → is_choice (first_line s) ≡ false → utf8_of (first_line s) ≡ Ok tt → length (first_line s) ≤ 4096
    → asked_of s ≡ Err (empty_refusal (R.Unread T.InvalidValue) 4)
