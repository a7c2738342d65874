use Rattle.utf8.proofs.Walks.{Skipping}
use Rattle.utf8.proofs.characters.skip_chars.Given as goal

abbrev pub invariant-loop : goal.invariant-loop
invariant-loop l = Skipping l.text l.count l.fn.at.0 l.counter l.i
