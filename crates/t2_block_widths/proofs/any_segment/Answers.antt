use mathlib.Core.Path.{◌∙◌, sym}
use native.Mathlib.Omega.{arith}
use Rattle.t2_block_widths.proofs.Laws.{turn, none_left}
use Rattle.t2_block_widths.proofs.any_segment.Goals as goal

pub returns-then-meets : goal.returns-then-meets
returns-then-meets g c =
    (turn g.test _ _ _ _ _ c.requires.1.0.0 c.loop-at-test.true c.loop-at.invariant c.segment_at-s.ensures).met
    (sym (c.requires.1.1.1 _ _ c.meets.ensures) ∙ c.if-meets.true)

pub loop-at-smaller : goal.loop-at-smaller
loop-at-smaller g c =
    let t = turn g.test _ _ _ _ _ c.requires.1.0.0 c.loop-at-test.true c.loop-at.invariant c.segment_at-s.ensures in
    omega (arith, t.enough, t.some)

pub loop-at-preserved : goal.loop-at-preserved
loop-at-preserved g c =
    (turn g.test _ _ _ _ _ c.requires.1.0.0 c.loop-at-test.true c.loop-at.invariant c.segment_at-s.ensures).not_met
    (sym (c.requires.1.1.1 _ _ c.meets.ensures) ∙ c.if-meets.false)

pub returns : goal.returns
returns g c = none_left g.test _ _ _ c.loop-at-test.false c.loop-at.invariant
