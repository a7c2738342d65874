use Rattle.std.proofs.Common.{rules}
use Rattle.exports.proofs.Going.{going_start, going_full, going_on, going_stop, row_put}
use Rattle.exports.proofs.many.write_steps.Goals as goal

pub loop-n-init : goal.loop-n-init
loop-n-init g c = going_start (g.S.StepRows.row_at c.args.text.now) c.args.place.0 c.args.answers.now

pub returns-then-answers-k-ne0-clause-answers_after : goal.returns-then-answers-k-ne0-clause-answers_after
returns-then-answers-k-ne0-clause-answers_after g c =
    (going_stop c.loop-n.invariant (row_put c.loop-n.answers c.loop-n.n c.write_row.ensures.row c.write_row.ensures.entries) (search rules) (search rules) (search rules)).0

pub returns-then-answers-k-ne0-clause-told_after : goal.returns-then-answers-k-ne0-clause-told_after
returns-then-answers-k-ne0-clause-told_after g c =
    (going_stop c.loop-n.invariant (row_put c.loop-n.answers c.loop-n.n c.write_row.ensures.row c.write_row.ensures.entries) (search rules) (search rules) (search rules)).1

pub loop-n-preserved : goal.loop-n-preserved
loop-n-preserved g c =
    going_on c.loop-n.invariant (row_put c.loop-n.answers c.loop-n.n c.write_row.ensures.row c.write_row.ensures.entries) (search rules) (search rules) (search rules)

pub returns-clause-answers_after : goal.returns-clause-answers_after
returns-clause-answers_after g c = (going_full c.loop-n.invariant (search rules)).0

pub returns-clause-told_after : goal.returns-clause-told_after
returns-clause-told_after g c = (going_full c.loop-n.invariant (search rules)).1
