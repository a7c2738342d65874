-- The Unicode Character Database, PropList.txt: the property White_Space, 25 code points, line by line. From memory of Unicode 15.0, 2022; it knows nothing of the readers.
use Rattle.std.specs.Prelude.{ℕ, Bool, true, false, ◌&&◌, ◌||◌, List, [], ◌∷◌, leb, eqb}
use Rattle.standards.specs.Rfc3629.{Char, scalar}

abbrev between : ℕ → ℕ → ℕ → Bool
between lo hi n = leb lo n && leb n hi

unfoldable pub is_white : ℕ → Bool
is_white n =
    between 0x0009 0x000d n
    || (eqb n 0x0020
    || (eqb n 0x0085
    || (eqb n 0x00a0
    || (eqb n 0x1680
    || (between 0x2000 0x200a n
    || (eqb n 0x2028
    || (eqb n 0x2029
    || (eqb n 0x202f
    || (eqb n 0x205f
    || eqb n 0x3000)))))))))

-- a character that is so
abbrev pub white : Char → Bool
white c = is_white (scalar c)

-- whether a text has no others, and whether it begins with one
unfoldable pub all_white : List Char → Bool
all_white [] = true
all_white (c ∷ cs) = white c && all_white cs

unfoldable pub begins_white : List Char → Bool
begins_white [] = false
begins_white (c ∷ cs) = white c

-- whether a text ends with one
unfoldable pub ends_white : List Char → Bool
ends_white [] = false
ends_white (c ∷ []) = white c
ends_white (c ∷ d ∷ cs) = ends_white (d ∷ cs)
