use Prim.Native.Nat.{◌*◌, ◌+◌}
use lib.Dec.{leb}
use mathlib.Core.Path.{refl}
use native.Mathlib.Omega.{arith}
use Rattle.t800.specs.Base.{every}
use Rattle.t800.specs.State.{length_bits}
use Rattle.tcd_laws.proofs.Laws.Faults.{faults_end, faults_turn}
use Rattle.t2_narrow.proofs.blocks_up_to_25_bits.Goals as goal

pub loop-i-init : goal.loop-i-init
unfolding every
loop-i-init c = refl

pub loop-i-preserved : goal.loop-i-preserved
loop-i-preserved c =
    let l = c.loop-i in
    let a = c.args in
    faults_turn (λ k. leb (length_bits a.state.now (a.at + 4 * k)) 25) l.i l.faults _ l.invariant c.over-faults.ensures

pub returns : goal.returns
returns c =
    let l = c.loop-i in
    let a = c.args in
    faults_end (λ k. leb (length_bits a.state.now (a.at + 4 * k)) 25) a.n l.i l.faults (omega arith) l.invariant
