-- Tried: `using` leaves this clause open, a function of what was returned, with the law and with its ruleset.
use borrow.Author.Rules.{rules}
use Rattle.joins.proofs.Returned.{returned}
use Rattle.joins.proofs.first_list.Goals as goal

pub returns-clause-unchanged : goal.returns-clause-unchanged
returns-clause-unchanged c = search (returned, rules) depth 10
