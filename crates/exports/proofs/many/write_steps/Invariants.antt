use Rattle.exports.proofs.Going.{Going}
use Rattle.exports.proofs.many.write_steps.Given as goal

abbrev pub invariant-loop-n : goal.invariant-loop-n
invariant-loop-n g l = Going (g.S.StepRows.row_at l.text) l.initial.at l.initial.answers l.n l.at l.answers
