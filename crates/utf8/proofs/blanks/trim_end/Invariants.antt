use Rattle.utf8.proofs.Trimming.{Backing}
use Rattle.utf8.proofs.blanks.trim_end.Given as goal

abbrev pub invariant-loop-end : goal.invariant-loop-end
invariant-loop-end l = Backing l.text l.end

abbrev pub decreases-loop-end : goal.decreases-loop-end
decreases-loop-end l = l.end
