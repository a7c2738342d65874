-- A scan: the first place at or after i whose byte is not of the class p, or the end of the text.
use Rattle.std.specs.Prelude.{ℕ, suc, ◌+◌, Bool, List, [], ◌∷◌, drop, if◌then◌else◌}

-- how many bytes at the front are of the class
unfoldable pub run : (ℕ → Bool) → List ℕ → ℕ
run p [] = 0
run p (x ∷ xs) = if p x then suc (run p xs) else 0

unfoldable pub scan : (ℕ → Bool) → List ℕ → ℕ → ℕ
scan p s i = i + run p (drop i s)
