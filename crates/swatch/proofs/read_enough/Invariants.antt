use Rattle.std.proofs.Common.{◌≡◌, ◌≤◌, length, ◌-◌}
use Rattle.swatch.proofs.read_enough.Given as goal

abbrev pub invariant-loop-space : goal.invariant-loop-space
invariant-loop-space g l = (length l.space ≡ length l.initial.space) × (l.n ≤ length l.space)

abbrev pub decreases-loop-space : goal.decreases-loop-space
decreases-loop-space g l = length l.space - l.n
