-- RFC 3987, "Internationalized Resource Identifiers", section 2.2: a reference to an element of the same document, in UTF-8 (RFC 3629). From memory of the RFC of January 2005; it knows nothing of the readers.
use Rattle.std.specs.Prelude.{ℕ, ◌%◌, Bool, false, ◌&&◌, ◌||◌, not, List, [], ◌∷◌, ◌++◌, leb, eqb}
use Rattle.standards.specs.Written.{ascii}
use Rattle.standards.specs.Rfc3629.{octets}
use Rattle.standards.specs.CssValues3.{Blank, blanks}
use Rattle.standards.specs.CssSyntax3.{Of}
use Rattle.standards.specs.CssColor4.{Digit, character}

abbrev between : ℕ → ℕ → ℕ → Bool
between lo hi n = leb lo n && leb n hi

abbrev one_of : List ℕ → ℕ → Bool
one_of [] n = false
one_of (k ∷ ks) n = eqb n k || one_of ks n

-- ucschar = %xA0-D7FF / %xF900-FDCF / %xFDF0-FFEF / %x10000-1FFFD / %x20000-2FFFD / .. / %xD0000-DFFFD / %xE1000-EFFFD
unfoldable pub is_ucschar : ℕ → Bool
is_ucschar n =
    between 0xa0 0xd7ff n
    || (between 0xf900 0xfdcf n
    || (between 0xfdf0 0xffef n
    || (between 0x10000 0xefffd n && (leb (n % 0x10000) 0xfffd && not (between 0xe0000 0xe0fff n)))))

-- ifragment = *( ipchar / "/" / "?" ), ipchar = iunreserved / pct-encoded / sub-delims / ":" / "@", iunreserved = ALPHA / DIGIT / "-" / "." / "_" / "~" / ucschar,
-- sub-delims = "!" / "$" / "&" / "'" / "(" / ")" / "*" / "+" / "," / ";" / "="
unfoldable pub is_fragment : ℕ → Bool
is_fragment n = between 65 90 n || (between 97 122 n || (between 48 57 n || (is_ucschar n || one_of (ascii "-._~!$&'()*+,;=:@/?") n)))

-- pct-encoded = "%" HEXDIG HEXDIG (37)
pub data Piece : Type 0 where
  plain : Of is_fragment → Piece
  pct_encoded : (h l : Digit) → Piece

unfoldable pub piece : Piece → List ℕ
piece (plain c) = octets c.is
piece (pct_encoded h l) = 37 ∷ character h ∷ character l ∷ []

unfoldable pub fragment : List Piece → List ℕ
fragment [] = []
fragment (p ∷ ps) = piece p ++ fragment ps

-- `#` (35) and the fragment, of one piece or more, with white space about it
pub record Reference : Type 0 where
  pub before : List Blank
  pub first : Piece
  pub others : List Piece
  pub after : List Blank

abbrev pub target : Reference → List ℕ
target t = fragment (t.first ∷ t.others)

unfoldable pub reference_text : Reference → List ℕ
reference_text t = blanks t.before ++ (35 ∷ (target t ++ blanks t.after))
