-- The part of a text that is looked for: the whole, or what is left without ASCII white space at the ends.
use Prim.Native.Nat.{ℕ, ◌+◌, ◌-◌, ◌<◌}
use mathlib.Core.Bool.{true}
use mathlib.Core.List.{List}
use mathlib.Core.Path.{◌≡◌, refl}
use native.Mathlib.Omega.{arith}
use borrow.Author.Tests.{le-leb}
use lib.ListN.{length, get_or, take, drop, length-drop}
use lib.Seq.{get_or-drop, get_or-take, length-take-le, take-length}
use Rattle.std.specs.Char.{is_ascii_whitespace}
use Rattle.std.specs.Prelude.{Some, None}
use Rattle.std.specs.Str.{IsTrimAsciiStart, IsTrimAsciiEnd}
use Rattle.utf8.specs.Blanks.{blank1}
use Rattle.fast_paint.specs.Visible.{has_visible_ends, is_blank, is_visible}
use Rattle.fast_paint.proofs.Trims.{blank_all}

pub none_visible : (s : List ℕ) → is_visible s None ≡ true
unfolding is_visible
none_visible s = refl

pub whole_visible : (s : List ℕ) → has_visible_ends s ≡ true → is_visible s (Some (record { start = record { 0 = 0 }; len = length s })) ≡ true
unfolding is_visible
whole_visible s h =
    let front : is_blank (take 0 s) ≡ true = blank_all (take 0 s) (λ c g. absurd (omega (arith, length-take-le 0 s (omega arith)))) in
    let back : is_blank (drop (0 + length s) s) ≡ true = blank_all (drop (0 + length s) s) (λ c g. absurd (omega (arith, length-drop (0 + length s) s))) in
    simp (le-leb (0 + length s) (length s) (omega arith), take-length s, h, front, back)

white_blank : (x : ℕ) → is_ascii_whitespace x ≡ true → blank1 x ≡ true
unfolding blank1
white_blank x e = grind (arith, e)

pub trimmed_visible : (s r t : List ℕ) → IsTrimAsciiStart s r → IsTrimAsciiEnd r t → has_visible_ends t ≡ true
    → is_visible s (Some (record { start = record { 0 = length s - length r }; len = length t })) ≡ true
unfolding is_visible
trimmed_visible s r t (m, i, k, b, y) (n, j, l, u, f, z) h =
    let a : length s - length r ≡ m = omega arith in
    let x : take n (drop m s) ≡ t = rw (j, i) refl in
    let front : is_blank (take m s) ≡ true =
    blank_all (take m s) (λ c g.
    let d : c < m = omega (arith, length-take-le m s (omega arith)) in
    rw (get_or-take m s c 0 d) (white_blank (get_or s c 0) (b c d))) in
    let back : is_blank (drop (m + n) s) ≡ true =
    blank_all (drop (m + n) s) (λ c g.
    let d : n + c < length r = omega (arith, length-drop (m + n) s) in
    let o : m + (n + c) ≡ m + n + c = omega arith in
    let q : is_ascii_whitespace (get_or s (m + (n + c)) 0) ≡ true = rw get_or-drop at (rw i at (f (n + c) (omega arith) d)) in
    rw get_or-drop (white_blank (get_or s (m + n + c) 0) (rw o at q))) in
    simp (a, l, le-leb (m + n) (length s) (omega arith), x, h, front, back)
