use Rattle.std.proofs.Common.{sym, ◌∙◌, map}
use Rattle.shapes.specs.Walk.{atom_of}
use Rattle.strict.proofs.Furthest.{furthest_done, furthest_on}
use Rattle.strict.proofs.furthest_of.Goals as goal

pub returns-in-Ok : goal.returns-in-Ok
returns-in-Ok c =
    sym (furthest_done (λ r. map atom_of r.now) _ c.loop-shape.shape-index _ _ _ c.loop-shape-test.true (sym c.walk.ensures ∙ c.in-Ok.is)) ∙ c.loop-shape.invariant

pub loop-shape-preserved : goal.loop-shape-preserved
loop-shape-preserved c =
    rw c.max.ensures (sym (furthest_on (λ r. map atom_of r.now) _ c.loop-shape.shape-index _ _ _ c.loop-shape-test.true _ (sym c.walk.ensures ∙ c.in-Err.is)) ∙ c.loop-shape.invariant)
