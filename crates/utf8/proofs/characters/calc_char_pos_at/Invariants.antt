use Rattle.std.proofs.Common.{◌≡◌, ◌≤◌, ◌+◌}
use Rattle.utf8.specs.Characters.{manual_at}
use Rattle.utf8.proofs.characters.calc_char_pos_at.Given as goal

abbrev pub invariant-loop-b : goal.invariant-loop-b
invariant-loop-b l = (l.n ≡ manual_at l.b-items l.b-index) × (l.n ≤ l.b-index + 1)
