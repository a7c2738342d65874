use Rattle.std.proofs.Common.{◌∙◌, ◌+◌, arith}
use lib.ListN.{length-set, get_or}
use Rattle.lent.proofs.Pastes.{paste_on}
use Rattle.lent.proofs.put.Goals as goal

pub loop-k-preserved : goal.loop-k-preserved
loop-k-preserved c = (
  rw c.loop-k.invariant.0 (paste_on c.args.out.now c.args.at c.args.text.now c.loop-k.k c.requires (omega (arith, c.loop-k-test.true))),
  length-set c.loop-k.out (c.args.at + c.loop-k.k) (get_or c.args.text.now c.loop-k.k 0) ∙ c.loop-k.invariant.1,
)
