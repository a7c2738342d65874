use Rattle.std.proofs.Common.{◌≡◌, ◌*◌, ◌%◌, ◌^◌}
use Rattle.floats.proofs.doubled.Given as goal

abbrev pub invariant-loop : goal.invariant-loop
invariant-loop l = l.n ≡ l.r * 2 ^ l.counter % 360
