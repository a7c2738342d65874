-- RFC 3629, "UTF-8, a transformation format of ISO 10646": section 4, "Syntax of UTF-8 Byte Sequences", as a tree with a constructor for each alternative of its ABNF, and section 3, "UTF-8 definition", for the number of the character that a sequence stands for. From memory of the RFC of November 2003; it knows nothing of the readers.
use Rattle.std.specs.Prelude.{ℕ, ◌+◌, ◌-◌, ◌*◌, ◌≤◌, List, [], ◌∷◌, ◌++◌}

-- section 4: %xLO-HI, an octet of a range
pub record Octet (lo hi : ℕ) : Type 0 where
  pub is : ℕ
  pub from : lo ≤ is
  pub to : is ≤ hi

-- UTF8-tail = %x80-BF
abbrev pub Tail : Type 0
Tail = Octet 0x80 0xbf

-- UTF8-char = UTF8-1 / UTF8-2 / UTF8-3 / UTF8-4
pub data Char : Type 0 where
  -- UTF8-1 = %x00-7F
  utf8_1 : Octet 0x00 0x7f → Char
  -- UTF8-2 = %xC2-DF UTF8-tail
  utf8_2 : Octet 0xc2 0xdf → Tail → Char
  -- UTF8-3 = %xE0 %xA0-BF UTF8-tail / %xE1-EC 2( UTF8-tail ) / %xED %x80-9F UTF8-tail / %xEE-EF 2( UTF8-tail )
  utf8_3_e0 : Octet 0xa0 0xbf → Tail → Char
  utf8_3_e1 : Octet 0xe1 0xec → Tail → Tail → Char
  utf8_3_ed : Octet 0x80 0x9f → Tail → Char
  utf8_3_ee : Octet 0xee 0xef → Tail → Tail → Char
  -- UTF8-4 = %xF0 %x90-BF 2( UTF8-tail ) / %xF1-F3 3( UTF8-tail ) / %xF4 %x80-8F 2( UTF8-tail )
  utf8_4_f0 : Octet 0x90 0xbf → Tail → Tail → Char
  utf8_4_f1 : Octet 0xf1 0xf3 → Tail → Tail → Tail → Char
  utf8_4_f4 : Octet 0x80 0x8f → Tail → Tail → Char

-- the octets of a character
unfoldable pub octets : Char → List ℕ
octets (utf8_1 a) = a.is ∷ []
octets (utf8_2 a b) = a.is ∷ b.is ∷ []
octets (utf8_3_e0 b c) = 0xe0 ∷ b.is ∷ c.is ∷ []
octets (utf8_3_e1 a b c) = a.is ∷ b.is ∷ c.is ∷ []
octets (utf8_3_ed b c) = 0xed ∷ b.is ∷ c.is ∷ []
octets (utf8_3_ee a b c) = a.is ∷ b.is ∷ c.is ∷ []
octets (utf8_4_f0 b c d) = 0xf0 ∷ b.is ∷ c.is ∷ d.is ∷ []
octets (utf8_4_f1 a b c d) = a.is ∷ b.is ∷ c.is ∷ d.is ∷ []
octets (utf8_4_f4 b c d) = 0xf4 ∷ b.is ∷ c.is ∷ d.is ∷ []

-- UTF8-octets = *( UTF8-char )
unfoldable pub text : List Char → List ℕ
text [] = []
text (c ∷ cs) = octets c ++ text cs

-- section 3, the table of octet sequences: 110xxxxx 10xxxxxx; 1110xxxx 10xxxxxx 10xxxxxx; 11110xxx 10xxxxxx 10xxxxxx 10xxxxxx; the number is that of the bits x
abbrev pub two : ℕ → ℕ → ℕ
two a b = (a - 0xc0) * 64 + (b - 0x80)

abbrev pub three : ℕ → ℕ → ℕ → ℕ
three a b c = (a - 0xe0) * 4096 + (b - 0x80) * 64 + (c - 0x80)

abbrev pub four : ℕ → ℕ → ℕ → ℕ → ℕ
four a b c d = (a - 0xf0) * 262144 + (b - 0x80) * 4096 + (c - 0x80) * 64 + (d - 0x80)

-- the number of a character; one octet, 0xxxxxxx, is its own
unfoldable pub scalar : Char → ℕ
scalar (utf8_1 a) = a.is
scalar (utf8_2 a b) = two a.is b.is
scalar (utf8_3_e0 b c) = three 0xe0 b.is c.is
scalar (utf8_3_e1 a b c) = three a.is b.is c.is
scalar (utf8_3_ed b c) = three 0xed b.is c.is
scalar (utf8_3_ee a b c) = three a.is b.is c.is
scalar (utf8_4_f0 b c d) = four 0xf0 b.is c.is d.is
scalar (utf8_4_f1 a b c d) = four a.is b.is c.is d.is
scalar (utf8_4_f4 b c d) = four 0xf4 b.is c.is d.is
