-- Parts of a slice, as the code makes them: `&s[i..]` is `take (length s - i) (drop i s)`.
use Prim.Native.Nat.{ℕ, ◌+◌, ◌-◌, ◌^◌, ◌≤◌, ◌<◌}
use mathlib.Core.List.{List, []}
use mathlib.Core.Path.{◌≡◌, refl, ◌∙◌}
use mathlib.Core.Logic.{⊎_elim}
use native.Mathlib.Omega.{arith}
use lib.ListN.{length, take, drop, length-drop, drop_of_length-le, get_or, get_or-eq_default}
use lib.Seq.{take_all}
use lib.Dec.{T, ltb, ltb→lt}
use borrow.Author.Tests.{le-leb}
use mir.Syntax.{w64}
use mir.Val.{Fits}
use Rattle.text_bytes.specs.Words.{part_bytes}
use Rattle.text_bytes.specs.declared.Part.{Part}
use Rattle.text_bytes.proofs.Ranges.{le_or_lt}

pub rest_part : (s : List ℕ) (i : ℕ) → take (length s - i) (drop i s) ≡ drop i s
rest_part s i = take_all (length s - i) (drop i s) (omega (arith, length-drop i s))

pub rest_past : (s : List ℕ) (i : ℕ) → length s < i → drop i s ≡ []
rest_past s i h = drop_of_length-le s {i = i} (omega arith)

-- a byte that is not 0 lies inside
pub byte_inside : (s : List ℕ) (i n : ℕ) → n ≡ get_or s i 0 → 0 < n → i < length s
byte_inside s i n e h =
    ⊎_elim
    (λ (l : length s ≤ i). let z : n ≡ 0 = e ∙ get_or-eq_default s 0 l in absurd (omega arith))
    (λ (l : i < length s). l)
    (le_or_lt (length s) i)

-- the same for `grind`
pub byte_there : (s : List ℕ) (i : ℕ) → 0 < get_or s i 0 → (get_or s i 0 ≡ get_or s i 0) × (i < length s)
byte_there s i h = (refl, byte_inside s i (get_or s i 0) refl h)

-- so the place after it fits
pub next_fits : (s : List ℕ) (i b k : ℕ) → b ≡ get_or s i 0 → b ≡ k → T (ltb 0 k) → length s < 2 ^ 64 → Fits w64 (i + 1)
next_fits s i b k e f t h = omega (arith, byte_inside s i b e (omega (arith, ltb→lt 0 k t)))

-- a part that lies inside
pub part_inside : (s : List ℕ) (p : Part) → p.start.0 + p.len ≤ length s → part_bytes s p ≡ take p.len (drop p.start.0 s)
unfolding part_bytes
part_inside s p h = simp (le-leb (p.start.0 + p.len) (length s) h)
