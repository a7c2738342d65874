use Rattle.std.proofs.Common.{◌≡◌, ◌≤◌, ◌-◌, length}
use Rattle.text_bytes.specs.Scan.{scan}
use Rattle.fast_funciri.specs.Bare.{is_bare_byte}
use Rattle.fast_funciri.proofs.eights.Given as goal

abbrev pub invariant-loop-i : goal.invariant-loop-i
invariant-loop-i l = (scan is_bare_byte l.text l.i ≡ scan is_bare_byte l.text l.initial.i) × (l.i ≤ length l.text)

abbrev pub decreases-loop-i : goal.decreases-loop-i
decreases-loop-i l = length l.text - l.i
