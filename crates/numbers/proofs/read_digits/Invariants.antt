use Rattle.numbers.specs.Digits.{cap}
use Rattle.numbers.proofs.Sums.{Summing}
use lib.ListN.{length}
use Prim.Native.Nat.{◌-◌}
use Rattle.numbers.proofs.read_digits.Given as goal

abbrev pub invariant-loop-i : goal.invariant-loop-i
invariant-loop-i l = Summing l.text cap l.a l.initial.i l.i l.n

abbrev pub decreases-loop-i : goal.decreases-loop-i
decreases-loop-i l = length l.text - l.i
