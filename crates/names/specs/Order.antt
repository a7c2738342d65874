-- The alphabet.
use Rattle.std.specs.Prelude.{ℕ, Bool, List}
use Rattle.std.specs.Ordering.{nat_cmp, is_lt}
use Rattle.std.specs.declared.cmp.Ordering.{Ordering}
use Rattle.std.specs.Cmp.Lexicographic.{slice_cmp}

-- how two words stand, byte by byte
abbrev pub order : List ℕ → List ℕ → Ordering
order = slice_cmp nat_cmp

-- a word stands before another
unfoldable pub before : List ℕ → List ℕ → Bool
before a b = is_lt (order a b)
