use Rattle.std.proofs.Common.{◌≡◌, ◌-◌, length}
use Rattle.shapes.specs.Consume.{consume}
use Rattle.shapes.proofs.consume.Given as goal

abbrev pub invariant-loop-i : goal.invariant-loop-i
invariant-loop-i l = consume l.a l.text l.i ≡ consume l.initial.a l.text l.initial.i

abbrev pub decreases-loop-i : goal.decreases-loop-i
decreases-loop-i l = length l.text - l.i
