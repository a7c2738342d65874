use Rattle.std.proofs.Common.{◌≡◌, ◌-◌, length}
use Rattle.text_bytes.specs.Scan.{scan}
use Rattle.text_bytes.proofs.scan.Given as goal

abbrev pub invariant-loop-i : goal.invariant-loop-i
invariant-loop-i g l = scan (g.C.ByteClass.class l.class) l.text l.i ≡ scan (g.C.ByteClass.class l.class) l.text l.initial.i

abbrev pub decreases-loop-i : goal.decreases-loop-i
decreases-loop-i g l = length l.text - l.i
