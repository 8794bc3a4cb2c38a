use Rattle.std.proofs.Common.{◌+◌, ◌*◌, arith, refl}
use Rattle.t800.specs.Base.{every}
use Rattle.t800.specs.Ranges.{node_in_range}
use Rattle.tcd_laws.proofs.Laws.Faults.{faults_end, faults_turn}
use Rattle.tcd_band_ranges.proofs.nodes_in_range.Goals as goal

pub loop-i-init : goal.loop-i-init
unfolding every
loop-i-init c = refl

pub loop-i-preserved : goal.loop-i-preserved
unfolding node_in_range
loop-i-preserved c =
    let l = c.loop-i in
    let s = c.args in
    faults_turn (λ k. node_in_range s.state.now s.most (s.at + 3 * k)) l.i l.faults _ l.invariant c.node_fault-faults.ensures

pub returns : goal.returns
returns c = let l = c.loop-i in let s = c.args in
    faults_end (λ k. node_in_range s.state.now s.most (s.at + 3 * k)) s.n l.i l.faults (omega arith) l.invariant
