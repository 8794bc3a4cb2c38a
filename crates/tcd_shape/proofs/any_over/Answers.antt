use Rattle.std.proofs.Common.{refl}
use Rattle.t800.specs.Base.{any}
use Rattle.tcd_laws.proofs.Laws.AnyOf.{over_turn}
use Rattle.tcd_shape.proofs.any_over.Goals as goal

pub loop-p-init : goal.loop-p-init
unfolding any
loop-p-init c = refl

pub loop-p-preserved : goal.loop-p-preserved
loop-p-preserved c =
    let l = c.loop-p in
    over_turn c.args.most c.args.planes.now l.p-index l.faults _ c.loop-p-test.true l.invariant c.over-faults.ensures
