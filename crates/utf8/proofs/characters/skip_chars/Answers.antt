use borrow.Author.Rules.{rules}
use Rattle.utf8.proofs.Walks.{skipped}
use Rattle.utf8.proofs.characters.skip_chars.Goals as goal

pub loop-preserved : goal.loop-preserved
loop-preserved c = search (skipped, rules)
