-- The part of a text that lies between spaces, where visible ASCII characters end it. Only inner contracts speak of it.
use Rattle.std.specs.Prelude.{ℕ, ◌+◌, ◌-◌, Bool, true, ◌&&◌, List, [], ◌∷◌, leb, ltb, length, get_or, take, drop, Option, Some, None}
use Rattle.text_bytes.specs.Bytes.{within}
use Rattle.text_bytes.specs.declared.Part.{Part}
use Rattle.utf8.specs.Blanks.{blank1}

-- the first and the last byte are among 33 to 126
unfoldable pub has_visible_ends : List ℕ → Bool
has_visible_ends t = ltb 0 (length t) && (within 33 126 (get_or t 0 0) && within 33 126 (get_or t (length t - 1) 0))

-- white space of one byte alone
unfoldable pub is_blank : List ℕ → Bool
is_blank [] = true
is_blank (x ∷ xs) = blank1 x && is_blank xs

-- such a part, or none
unfoldable pub is_visible : List ℕ → Option Part → Bool
is_visible s (Some p) =
    leb (p.start.0 + p.len) (length s)
    && (has_visible_ends (take p.len (drop p.start.0 s)) && (is_blank (take p.start.0 s) && is_blank (drop (p.start.0 + p.len) s)))
is_visible s None = true
