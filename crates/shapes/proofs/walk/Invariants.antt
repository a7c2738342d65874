use Rattle.shapes.proofs.Walks.{Walking}
use Rattle.shapes.proofs.walk.Given as goal

abbrev pub invariant-loop-code : goal.invariant-loop-code
invariant-loop-code l = Walking l.shape l.text l.code-index l.at
