-- The bytes that no reader of a link has to judge. Only inner contracts speak of them.
use Rattle.std.specs.Prelude.{ℕ, Bool}
use Rattle.text_bytes.specs.Bytes.{within}

-- 42 to 127: ASCII, and no space, quote or bracket nor a part of white space
abbrev pub is_bare_byte : ℕ → Bool
is_bare_byte b = within 42 127 b
