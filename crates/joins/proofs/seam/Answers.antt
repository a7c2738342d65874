-- Tried: `using` leaves this clause open, a function of what was returned, with the law and with its ruleset.
use borrow.Author.Rules.{rules}
use Rattle.joins.proofs.Returned.{returned}
use Rattle.joins.proofs.seam.Goals as goal

pub returns-clause-meets : goal.returns-clause-meets
returns-clause-meets c = search (returned, rules) depth 10
