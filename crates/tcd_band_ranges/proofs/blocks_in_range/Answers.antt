use Rattle.std.proofs.Common.{◌+◌, ◌*◌, ◌∙◌, ap, arith, refl}
use Rattle.t800.specs.Base.{every}
use Rattle.t800.specs.Ranges.{block_in_range}
use Rattle.tcd_laws.proofs.Laws.Faults.{faults_end, faults_turn}
use Rattle.tcd_band_ranges.proofs.Laws.BandParts.{block_words}
use Rattle.tcd_laws.specs.Parts.{fault}
use Rattle.tcd_band_ranges.proofs.blocks_in_range.Goals as goal

pub loop-i-init : goal.loop-i-init
unfolding every
loop-i-init c = refl

pub loop-i-preserved : goal.loop-i-preserved
loop-i-preserved c =
    let l = c.loop-i in
    let s = c.args in
    let words = block_words s.state.now (s.at + 4 * l.i) _ _ _ _ c.word-role.ensures
    c.word-bits.ensures c.word-layer.ensures c.limits_of-limits.ensures in
    faults_turn (λ k. block_in_range s.state.now (s.at + 4 * k)) l.i l.faults _ l.invariant
    (c.block_fault-faults.ensures ∙ ap fault words)

pub returns : goal.returns
returns c =
    let l = c.loop-i in
    let s = c.args in
    faults_end (λ k. block_in_range s.state.now (s.at + 4 * k)) s.n l.i l.faults (omega arith) l.invariant
