use Rattle.std.proofs.Common.{◌≡◌, ◌-◌, length, drop}
use Rattle.utf8.specs.Characters.{walk}
use Rattle.utf8.proofs.characters.walk.Given as goal

abbrev pub invariant-loop-i : goal.invariant-loop-i
invariant-loop-i l = walk l.i 0 (drop l.i l.text) ≡ walk l.fn.from 0 (drop l.fn.from l.text)

abbrev pub decreases-loop-i : goal.decreases-loop-i
decreases-loop-i l = length l.text - l.i
