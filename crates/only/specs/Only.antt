-- Nothing else is read. crates/standards proves that each text of a document's grammar is read with its meaning; here is the other direction: what is read is such a text, and what Filter Effects 1
-- disallows is refused. The trees and their texts are those of crates/standards/specs, with their white space: a form feed, a comment or an escape, which CSS takes, is a byte as any other here.
-- Nothing is said where svgtypes reads more than a document has (docs/DIFFERENCES.md).
use Rattle.std.specs.Prelude.{ℕ, ◌+◌, ◌≤◌, true, false, List, [], ◌∷◌, ◌++◌, map, ◌≡◌, length, drop, Ok, Option, Some, None}
use Rattle.text_bytes.specs.Bytes.{is_ascii_ident}
use Rattle.text_bytes.specs.Moves.{place}
use Rattle.text_bytes.specs.declared.Place.{Place}
use Rattle.utf8.specs.Characters.{calc_char_pos_at}
use Rattle.utf8.specs.declared.Position.{Position}
use Rattle.stream.specs.Refusals as Refusals
use Rattle.stream.specs.Refusals.{admit_place}
use Rattle.stream.specs.declared.Refusal.{Refusal}
use Rattle.numbers.specs.Number.{parse_number}
use Rattle.numbers.specs.Moves as Read
use Rattle.numbers.specs.declared.Written.{Written}
use Rattle.length.specs.Lengths as Lengths
use Rattle.length.specs.declared.Length.{Length as LengthValue}
use Rattle.angle.specs.Angles as Angles
use Rattle.angle.specs.declared.Angle.{Angle as AngleValue}
use Rattle.color.specs.Answer as Colors
use Rattle.color.specs.declared.Color.{Color}
use Rattle.stream.specs.Steps.{refused_step}
use Rattle.filter_functions.specs.Filters.{next_filter}
use Rattle.standards.specs.Written.{ascii}
use Rattle.standards.specs.CssValues3.{Blank, blank, blanks, is_minus, joined, Number, number, percentage, AngleUnit, angle_unit}
use Rattle.standards.specs.Domain.{InDomain}
use Rattle.standards.specs.Answers.{Apart, number_of, length_written, angle_written, color_of, read_on}
use Rattle.standards.specs.CssColor4.{HexColor, hex_text, channels}
use Rattle.standards.specs.Colors.{Colour, colour}
use Rattle.standards.specs.Svg2.{length_text, angle_text}
use Rattle.standards.specs.FilterEffects1.{Simple, simple_name, Content, name}

-- CSS Values 3, section 4, <number>. From place i of s up to p stand white space and a number of the grammar, what follows does not go on with it, and n is what crates/standards calls its number: the double nearest to it, whether it is written as an <integer>, and its end
pub record NumberThere (s : List ℕ) (i : ℕ) (n : Read.Number) (p : Place) : Type 0 where
  pub before : List Blank
  pub tree : Number
  pub rest : List ℕ
  pub text : drop i s ≡ blanks before ++ (number tree ++ rest)
  pub domain : InDomain tree
  pub apart : Apart tree rest
  pub meant : n ≡ number_of tree (i + (length before + length (number tree)))
  pub after : p ≡ place (i + (length before + length (number tree)))

-- "text over 4,096 bytes" is refused
abbrev pub limit : ℕ
limit = 4096

-- A whole text that is white space and a tree of a grammar with one number, in the domain and the limit; v is what the tree means, with how its number was written and where that ended
pub record WholeText {Tree Value : Type 0} (written : Tree → List ℕ) (numbered : Tree → Number) (value : Tree → ℕ → Value) (s : List ℕ) (v : Value) : Type 0 where
  pub before : List Blank
  pub tree : Tree
  pub text : s ≡ blanks before ++ written tree
  pub domain : InDomain (numbered tree)
  pub short : length s ≤ limit
  pub meant : v ≡ value tree (length before + length (number (numbered tree)))

abbrev pub LengthText : List ℕ → Written LengthValue → Type 0
LengthText s v = WholeText length_text (λ t. t.number_part) length_written s v

abbrev pub AngleText : List ℕ → Written AngleValue → Type 0
AngleText s v = WholeText angle_text (λ t. t.number_part) angle_written s v

-- CSS Color 4, "The RGB Hexadecimal Notations". A whole text that is a colour of the grammar with white space about it, and c has its channels
pub record HexWhole (s : List ℕ) (c : Color) : Type 0 where
  pub before : List Blank
  pub tree : HexColor
  pub after : List Blank
  pub text : s ≡ blanks before ++ (hex_text tree ++ blanks after)
  pub meant : c ≡ color_of (channels tree)
  pub short : length s ≤ limit

-- from place i of s on stands x, and the text may be read from there on
pub record Stands (s : List ℕ) (i : ℕ) (x : List ℕ) : Type 0 where
  pub text : drop i s ≡ x
  pub admitted : admit_place s i ≡ Ok tt

-- Filter Effects 1. White space, a function's name, its bracket (40), white space, and what the bracket holds, with whatever follows
pub record Opens (s : List ℕ) (i : ℕ) (w held : List ℕ) : Type 0 where
  pub before : List Blank
  pub inside : List Blank
  pub stands : Stands s i (blanks before ++ (w ++ (40 ∷ (blanks inside ++ held))))

module _ {s : List ℕ} {i : ℕ} {w held : List ℕ} (o : Opens s i w held) where
  -- the places of the name and of what the bracket holds
  abbrev pub name_at : ℕ
  name_at = i + length o.before

  abbrev pub held_at : ℕ
  held_at = name_at + length w + 1 + length o.inside

-- the position of place i of s
abbrev pub position_at : List ℕ → ℕ → Option Position
position_at s i = Some (record { 0 = calc_char_pos_at s i })

-- a list's step from place i of s is refused by a number, at a position where one is listed, and the list is at its end
pub record Refuses (s : List ℕ) (i number : ℕ) (position : Option Position) : Type 0 where
  pub refusal : Refusal
  pub answer : next_filter s i ≡ refused_step refusal (place (length s))
  pub numbered : Refusals.reason_number refusal.reason ≡ number
  pub positioned : refusal.position ≡ position

-- CSS Syntax 3, a name of ASCII letters, digits, `-` and `_`, without escapes
pub record NameByte : Type 0 where
  pub is : ℕ
  pub named : is_ascii_ident is ≡ true

unfoldable pub name_byte : NameByte → ℕ
name_byte b = b.is

abbrev pub word : List NameByte → List ℕ
word w = map name_byte w

-- w does not begin with `none`
abbrev pub NotNone : List ℕ → Type 0
NotNone w = (r : List ℕ) → w ≡ ascii "none" ++ r → ⊥

-- b is no white space
abbrev pub NoBlank : ℕ → Type 0
NoBlank b = (k : Blank) → b ≡ blank k → ⊥

pub record Only : Type 0 where
  -- a number is read exactly where one stands,
  pub numbers_only : (s : List ℕ) (i : ℕ) (n : Read.Number) (p : Place) → parse_number s i ≡ read_on n p → NumberThere s i n p
  pub numbers_all : (s : List ℕ) (i : ℕ) (n : Read.Number) (p : Place) → NumberThere s i n p → parse_number s i ≡ read_on n p
  -- and it is the longest that begins there
  pub numbers_longest : (s : List ℕ) (i : ℕ) (n : Read.Number) (p : Place) (r : NumberThere s i n p) (t : Number) (rest : List ℕ) → number t ++ rest ≡ number r.tree ++ r.rest
      → length (number t) ≤ length (number r.tree)
  -- SVG 2, section 8.9: what is answered as a length is one
  pub lengths_only : (s : List ℕ) (v : Written LengthValue) → Lengths.from_str s ≡ Ok v → LengthText s v
  -- CSS Values 3, section 6.1: and what is answered as an angle is one
  pub angles_only : (s : List ℕ) (v : Written AngleValue) → Angles.from_str s ≡ Ok v → AngleText s v
  -- CSS Color 4: and what begins with `#` (35), after white space, and is answered as a colour is a hex colour
  pub hex_only : (l : List Blank) (rest : List ℕ) (c : Color) → Colors.from_str (blanks l ++ (35 ∷ rest)) ≡ Ok c → HexWhole (blanks l ++ (35 ∷ rest)) c
  -- Filter Effects 1, section 6, blur(): "Negative values are not allowed." 12, whatever unit follows the number; so is minus zero, which the document allows
  pub negative_blur : {s : List ℕ} {i : ℕ} (t : Number) (rest : List ℕ) (o : Opens s i (ascii "blur") (number t ++ rest)) → InDomain t → is_minus t.signed ≡ true → Apart t rest
      → Refuses s i 12 (position_at s (held_at o))
  -- brightness() and the six others: "Negative values are not allowed." 12, of a number and of a percentage; so is minus zero
  pub negative_amount : {s : List ℕ} {i : ℕ} (f : Simple) (t : Number) (rest : List ℕ) (o : Opens s i (simple_name f) (number t ++ rest)) → InDomain t → is_minus t.signed ≡ true → Apart t rest
      → Refuses s i 12 (position_at s (held_at o))
  -- blur( <length>? ): a <length> is no <percentage>. 11
  pub percentage_blur : {s : List ℕ} {i : ℕ} (t : Number) (rest : List ℕ) (o : Opens s i (ascii "blur") (percentage t ++ rest)) → InDomain t → is_minus t.signed ≡ false
      → Refuses s i 11 (position_at s (held_at o))
  -- hue-rotate( [ <angle> | <zero> ]? ): a number with no unit is zero. 13
  pub unmarked_angle : {s : List ℕ} {i : ℕ} (t : Number) (rest : List ℕ) (o : Opens s i (ascii "hue-rotate") (number t ++ rest)) → InDomain t → (joined t.digits_of ≡ 0 → ⊥) → Apart t rest
      → ((u : AngleUnit) (r : List ℕ) → rest ≡ angle_unit u ++ r → ⊥) → Refuses s i 13 (position_at s (held_at o))
  -- drop-shadow( [ <color>? && <length>{2,3} ] ): both offsets must be there. 14 (41 is the closing bracket)
  pub empty_shadow : {s : List ℕ} {i : ℕ} (rest : List ℕ) (o : Opens s i (ascii "drop-shadow") (41 ∷ rest)) → Refuses s i 14 (position_at s (held_at o))
  -- <filter-function> is one of ten, and <url>. 6, of a word that is none of their names and does not begin with `none`; so are their names in capitals, which the document takes
  pub unknown_name : {s : List ℕ} {i : ℕ} (c : NameByte) (cs : List NameByte) (held : List ℕ) (o : Opens s i (word (c ∷ cs)) held)
      → ((f : Content Colour) → word (c ∷ cs) ≡ name colour f → ⊥) → NotNone (word (c ∷ cs)) → Refuses s i 6 (position_at s (name_at o))
  -- CSS Syntax 3, <function-token>: a name, and its bracket at once. With no bracket behind it (svgtypes reads `blur ()`) a name is refused by 4 at the end of the text, and by 7 at any other byte;
  -- so are `inherit` and the like, which every property takes. 4 has no position
  pub name_alone : {s : List ℕ} {i : ℕ} (before after : List Blank) (c : NameByte) (cs : List NameByte) → NotNone (word (c ∷ cs))
      → Stands s i (blanks before ++ (word (c ∷ cs) ++ blanks after)) → Refuses s i 4 None
  pub name_unopened : {s : List ℕ} {i : ℕ} (before after : List Blank) (c : NameByte) (cs : List NameByte) (b : ℕ) (rest : List ℕ) → NotNone (word (c ∷ cs))
      → NoBlank b → (after ≡ [] → is_ascii_ident b ≡ false) → (b ≡ 40 → ⊥) → Stands s i (blanks before ++ (word (c ∷ cs) ++ (blanks after ++ (b ∷ rest))))
      → Refuses s i 7 (position_at s (i + length before + length (word (c ∷ cs)) + length after))
  -- <filter-value-list> has functions alone, with no comma or other byte between them. 7, of a byte that is of no name, no white space and no bracket
  pub no_name : {s : List ℕ} {i : ℕ} (before : List Blank) (b : ℕ) (rest : List ℕ) → NoBlank b → is_ascii_ident b ≡ false → (b ≡ 40 → ⊥) → Stands s i (blanks before ++ (b ∷ rest))
      → Refuses s i 7 (position_at s (i + length before))
  -- filter: none | <filter-value-list>. 5, of `none` with anything but white space after it, a function or not; 5 has no position
  pub none_alone : {s : List ℕ} {i : ℕ} (before after : List Blank) (b : ℕ) (rest : List ℕ) → NoBlank b → Stands s i (blanks before ++ (ascii "none" ++ (blanks after ++ (b ∷ rest))))
      → Refuses s i 5 None
