-- What is told at once; the rest is left to the plain reader. Only contracts inside the crate speak of it.
use Rattle.std.specs.Prelude.{ℕ, ◌-◌, ◌/◌, ◌%◌, ◌||◌, List, leb, ltb, eqb, Result, Ok, Err, Option, Some, None, if◌then◌else◌}
use Rattle.text_bytes.specs.Moves.{place}
use Rattle.text_bytes.specs.Words.{ascii, same, is_curr_byte_eq}
use Rattle.text_bytes.specs.declared.Place.{Place}
use Rattle.stream.specs.declared.Refusal.{Refusal}
use Rattle.color.specs.Answer.{from_str}
use Rattle.paint.specs.declared.Paint.{Paint}
use Rattle.paint.specs.declared.Paint.TheVariants as P
use Rattle.packed.specs.Numbers.{no_color, places, number_color, paint_number, color_or}
use Rattle.fast_paint.specs.Links.{told_linked}

-- the number of the paint that a word alone names
unfoldable pub keyword_of : List ℕ → Option ℕ
keyword_of t =
    if same t (ascii "none") then Some 1
    else (if same t (ascii "inherit") then Some 2
    else (if same t (ascii "currentColor") then Some 3
    else (if same t (ascii "context-fill") then Some 4
    else (if same t (ascii "context-stroke") then Some 5
    else None))))

-- A plain colour's refusal, by its number: it is 5 where its stretch starts, but where its text may not be read (1, 2), and for a number outside the domain
unfoldable pub uncolored : ℕ → Option Place
uncolored n = let r = n / places in if leb r 3 || (eqb r 10 || (eqb r 23 || eqb r 24)) then None else Some (place (n % places))

abbrev pub refused_at : Option Place → Option (Result ℕ Place)
refused_at (Some p) = Some (Err p)
refused_at None = None

-- a colour, by its number
abbrev pub told_color : ℕ → Option (Result ℕ Place)
told_color v = if ltb v no_color then Some (Ok (paint_number (P.Color (number_color v)))) else refused_at (uncolored (v - no_color))

-- a number that is told, or x
abbrev pub some_or : Option ℕ → Option (Result ℕ Place) → Option (Result ℕ Place)
some_or (Some v) x = Some (Ok v)
some_or None x = x

-- a text that is no link
unfoldable pub told_plain : List ℕ → Option (Result ℕ Place)
told_plain t = some_or (keyword_of t) (told_color (color_or (from_str t)))

-- a trimmed text, with `by` bytes trimmed before it; `u` (117) begins no other paint than a link
unfoldable pub told_inner : ℕ → List ℕ → Option (Result ℕ Place)
told_inner by t = if is_curr_byte_eq t 0 117 then told_linked by t else told_plain t

-- an answer, with its paint's number
unfoldable pub numbered : Result Paint Refusal → Result ℕ Refusal
numbered (Ok p) = Ok (paint_number p)
numbered (Err e) = Err e
