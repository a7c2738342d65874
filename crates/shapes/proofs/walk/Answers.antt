use Rattle.std.proofs.Common.{rules}
use Rattle.shapes.proofs.Walks.{walking_on}
use Rattle.shapes.proofs.walk.Goals as goal

pub loop-code-preserved : goal.loop-code-preserved
loop-code-preserved c = walking_on c.loop-code.invariant c.loop-code-test.true _ (search rules)
