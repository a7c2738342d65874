-- A run that is gone along by eights, each two fours of bytes that are tested together.
use Prim.Native.Nat.{ℕ, ◌+◌, ◌≤◌}
use mathlib.Core.Bool.{Bool, true, ◌&&◌}
use mathlib.Core.List.{List}
use mathlib.Core.Path.{◌≡◌, refl}
use native.Mathlib.Omega.{arith}
use borrow.Author.Tests.{leb-true}
use lib.Dec.{leb}
use lib.ListN.{length, get_or}
use Rattle.text_bytes.specs.Scan.{scan}
use Rattle.text_bytes.proofs.Ranges.{and_first, and_second}
use Rattle.text_bytes.proofs.Scans.{scan_along, reach_go, reach_last}

module _ (p : ℕ → Bool) (s : List ℕ) (i : ℕ) where
  -- four tests tell whether the run has four bytes
  four_read : {a b c d : Bool} → a ≡ p (get_or s i 0) → b ≡ p (get_or s (i + 1) 0) → c ≡ p (get_or s (i + 2) 0) → d ≡ p (get_or s (i + 3) 0) → i + 4 ≤ length s
      → (a && (b && (c && d))) ≡ leb (i + 4) (scan p s i)
  four_read {a} {b} {c} {d} k l m n h =
      reach_go p s (i + 4) i (i + 1) a (b && (c && d)) k (omega arith) (omega arith) refl
      (reach_go p s (i + 4) (i + 1) (i + 2) b (c && d) l (omega arith) (omega arith) (omega arith)
      (reach_go p s (i + 4) (i + 2) (i + 3) c d m (omega arith) (omega arith) (omega arith)
      (reach_last p s (i + 4) (i + 3) d n (omega arith) (omega arith))))

  pub four_run : i + 4 ≤ length s → (p (get_or s i 0) && (p (get_or s (i + 1) 0) && (p (get_or s (i + 2) 0) && p (get_or s (i + 3) 0)))) ≡ leb (i + 4) (scan p s i)
  four_run h = four_read refl refl refl refl h

  -- two fours of it, told one by one
  pub stride : (leb (i + 4) (scan p s i) && leb (i + 4 + 4) (scan p s (i + 4))) ≡ true → scan p s (i + 8) ≡ scan p s i
  stride e =
      let a : i + 4 ≤ scan p s i = leb-true (i + 4) (scan p s i) (and_first (leb (i + 4) (scan p s i)) _ e) in
      let b : i + 4 + 4 ≤ scan p s (i + 4) = leb-true (i + 4 + 4) (scan p s (i + 4)) (and_second (leb (i + 4) (scan p s i)) _ e) in
      let d : scan p s (i + 4) ≡ scan p s i = scan_along p s i (i + 4) (omega arith) a in
      scan_along p s i (i + 8) (omega arith) (omega arith)
