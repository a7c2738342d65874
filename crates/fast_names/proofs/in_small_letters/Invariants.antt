use Rattle.fast_names.proofs.Small.{Lowered}
use Rattle.fast_names.proofs.in_small_letters.Given as goal

abbrev pub invariant-loop-i : goal.invariant-loop-i
invariant-loop-i l = Lowered l.word l.small l.i
