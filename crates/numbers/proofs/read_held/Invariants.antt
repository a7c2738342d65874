use Rattle.numbers.proofs.Sums.{Summing}
use lib.ListN.{length}
use Prim.Native.Nat.{◌-◌}
use Rattle.numbers.proofs.read_held.Given as goal

abbrev pub invariant-loop-i : goal.invariant-loop-i
invariant-loop-i l = Summing l.text l.most l.a l.initial.i l.i l.n

abbrev pub decreases-loop-i : goal.decreases-loop-i
decreases-loop-i l = length l.text - l.i
