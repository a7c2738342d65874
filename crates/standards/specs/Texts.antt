-- UTF-8 texts, their characters and their white space, against RFC 3629, section 4, and Unicode's White_Space.
use Rattle.std.specs.Prelude.{ℕ, ◌+◌, ◌≤◌, true, false, List, ◌++◌, ◌≡◌, length, Ok, Err}
use Rattle.text_bytes.specs.declared.Place.{Place}
use Rattle.utf8.specs.Characters.{utf8_of, characters, calc_char_pos_at}
use Rattle.utf8.specs.Blanks.{trim_of}
use Rattle.standards.specs.Rfc3629.{Char, text}
use Rattle.standards.specs.Unicode.{all_white, begins_white, ends_white}

-- n is the length of the longest beginning of s that is a text of the grammar
pub record Longest (s : List ℕ) (n : ℕ) : Type 0 where
  pub chars : List Char
  pub rest : List ℕ
  pub split : s ≡ text chars ++ rest
  pub size : length (text chars) ≡ n
  pub most : (cs : List Char) (r : List ℕ) → text cs ++ r ≡ s → length (text cs) ≤ n

pub record Utf8Texts : Type 0 where
  -- the UTF-8 test accepts every text of the grammar,
  pub accepts : (cs : List Char) → utf8_of (text cs) ≡ Ok tt
  -- and no other;
  pub only : (s : List ℕ) → utf8_of s ≡ Ok tt → (cs : List Char) × (text cs ≡ s)
  -- the place that it gives of another is where the longest beginning that is one ends
  pub places : (s : List ℕ) (p : Place) → utf8_of s ≡ Err p → Longest s p.0
  -- characters and positions are counted as the grammar counts, positions from 1
  pub counted : (cs : List Char) → characters (text cs) ≡ length cs
  pub positions : (cs : List Char) (rest : List ℕ) → calc_char_pos_at (text cs ++ rest) (length (text cs)) ≡ 1 + length cs

-- a text in three parts: White_Space, a middle that is empty or neither begins nor ends with it, White_Space
pub record Parts (cs : List Char) : Type 0 where
  pub before : List Char
  pub middle : List Char
  pub after : List Char
  pub whole : cs ≡ before ++ (middle ++ after)
  pub white_before : all_white before ≡ true
  pub bare_start : begins_white middle ≡ false
  pub bare_end : ends_white middle ≡ false
  pub white_after : all_white after ≡ true

-- every text has such parts, and trimming leaves the middle
pub record Trimming : Type 0 where
  pub parts : (cs : List Char) → Parts cs
  pub trims : (cs : List Char) (p : Parts cs) → trim_of (text cs) ≡ text p.middle
