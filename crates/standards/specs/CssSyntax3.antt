-- CSS Syntax Module Level 3, sections 3.3 and 4: the characters of URLs and strings, in UTF-8 (RFC 3629). From memory of the Candidate Recommendation of July 2019; it knows nothing of the readers. Escapes are left out.
use Rattle.std.specs.Prelude.{ℕ, Bool, true, ◌&&◌, not, List, [], ◌∷◌, ◌≡◌, eqb, ltb}
use Rattle.standards.specs.Rfc3629.{Char, text, scalar}

-- a character whose number is of a class
pub record Of (class : ℕ → Bool) : Type 0 where
  pub is : Char
  pub belongs : class (scalar is) ≡ true

unfoldable pub characters : {class : ℕ → Bool} → List (Of class) → List Char
characters [] = []
characters (c ∷ cs) = c.is ∷ characters cs

-- their octets
abbrev pub written : {class : ℕ → Bool} → List (Of class) → List ℕ
written l = text (characters l)

abbrev other : ℕ → ℕ → Bool
other k n = not (eqb n k)

-- Section 4.3.6, <url-token>: white space and `)` (41) end it; `"`, `'`, `(` (34, 39, 40) and "a non-printable code point" are errors, `\` (92) begins an escape.
-- Section 4.2: white space and what is not printable are U+0000 to U+0020, and U+007F; what is beyond is like any letter
unfoldable pub is_url : ℕ → Bool
is_url n = ltb 32 n && (other 127 n && (other 34 n && (other 39 n && (other 40 n && (other 41 n && other 92 n)))))

abbrev pub UrlCharacter : Type 0
UrlCharacter = Of is_url

-- Section 4.3.5, <string-token>: "anything else" than the quote that ends it, a newline, which is an error, and `\`. Section 3.3 makes newlines (10) of U+000D and U+000C, and U+FFFD of U+0000
unfoldable pub is_string : ℕ → ℕ → Bool
is_string quote n = other quote n && (other 92 n && (other 10 n && (other 12 n && (other 13 n && other 0 n))))
