use Rattle.std.proofs.Common.{◌≡◌, drop, map}
use Rattle.strict.specs.Answer.{furthest, shapes}
use Rattle.shapes.specs.Walk.{atom_of}
use Rattle.strict.proofs.furthest_of.Given as goal

abbrev pub invariant-loop-shape : goal.invariant-loop-shape
invariant-loop-shape l = furthest (map (λ r. map atom_of r.now) (drop l.shape-index l.shape-items)) l.text l.far.0 ≡ furthest shapes l.text 0
