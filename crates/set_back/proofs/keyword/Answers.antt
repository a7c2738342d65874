use Rattle.std.proofs.Common.{arith}
use Rattle.std.proofs.lemmas.Grind.{common_steps}
use Rattle.set_back.specs.Answers.{settled, keyword_of, keyword_answer}
use Rattle.set_back.proofs.Settling.{promised}
use Rattle.set_back.proofs.Words.{keyword_says}
use Rattle.set_back.proofs.keyword.Goals as goal

pub returns-clause-value : goal.returns-clause-value
unfolding keyword_answer keyword_of settled
returns-clause-value c = grind (arith, common_steps)

pub returns-clause-out_after : goal.returns-clause-out_after
unfolding keyword_of
returns-clause-out_after c = grind (arith, common_steps)

pub returns-clause-reads_back : goal.returns-clause-reads_back
unfolding keyword_answer
returns-clause-reads_back c =
    let x = c.args.color in
    promised (keyword_of x) x c.args.out.now (keyword_says x) (returns-clause-value c) (returns-clause-out_after c)
