use lib.ListN.{length}
use Prim.Native.Nat.{◌-◌}
use Rattle.utf8.proofs.Trimming.{Fronting}
use Rattle.utf8.proofs.blanks.trim_start.Given as goal

abbrev pub invariant-loop-i : goal.invariant-loop-i
invariant-loop-i l = Fronting l.text l.i

abbrev pub decreases-loop-i : goal.decreases-loop-i
decreases-loop-i l = length l.text - l.i
