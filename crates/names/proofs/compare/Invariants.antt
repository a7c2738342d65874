use Rattle.std.proofs.Common.{◌≡◌, length, drop}
use Rattle.text_bytes.specs.Words.{lowered}
use Rattle.names.specs.Order.{order}
use Rattle.names.proofs.compare.Given as goal

abbrev pub invariant-loop-n : goal.invariant-loop-n
invariant-loop-n l = order (drop (length l.yielded) l.name) (drop (length l.yielded) (lowered l.word)) ≡ order l.name (lowered l.word)
