-- Where a run of bytes ends, and what trimming leaves of it: inside.
use Prim.Native.Nat.{ℕ, ◌≤◌}
use mathlib.Core.Bool.{Bool}
use mathlib.Core.List.{List}
use mathlib.Core.Path.{◌≡◌, refl, sym}
use native.Mathlib.Omega.{arith}
use lib.ListN.{length, take}
use Rattle.std.specs.Prelude.{Ok}
use Rattle.utf8.specs.Blanks.{trim_end}
use Rattle.utf8.proofs.Trimming.{trim_count}
use Rattle.text_bytes.specs.Scan.{scan}
use Rattle.text_bytes.specs.declared.Place.{Place}
use Rattle.text_bytes.proofs.Scans.{scan_ge, scan_le}
use Rattle.stream.specs.Faults.{consume_byte}
use Rattle.stream.proofs.Binds.{at_ok}
use Rattle.stream.proofs.Stretches.{Took, LiesFrom, byte_taken}

pub run_end : (q : ℕ → Bool) (s : List ℕ) (i c : ℕ) (p : Place) → consume_byte s i c ≡ Ok p → (p.0 ≤ scan q s p.0) × (scan q s p.0 ≤ length s)
run_end q s i c p e =
    let t : Took s i c p = at_ok (Took s i c) (LiesFrom s i) (consume_byte s i c) p (byte_taken s i c) e in
    (scan_ge q s p.0, scan_le q s p.0 (omega (arith, t.next, t.inside)))

-- what trimming leaves of a run lies inside it
pub trim_taken : (s : List ℕ) → length (take (trim_end s) s) ≡ trim_end s
trim_taken s = sym (trim_count s (trim_end s) refl)
