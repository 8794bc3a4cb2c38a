use Rattle.t800.specs.WriteHeader.{contribution}
use Rattle.tonkelvi_packets.proofs.Laws.{measure-unlisted, measure-listed}
use Rattle.tonkelvi_packets.proofs.measure.Goals as goal

pub returns-then-answer-ne2 : goal.returns-then-answer-ne2
returns-then-answer-ne2 c =
    let a = c.args in
    measure-unlisted a.state.now a.scratch.now (contribution a.counts.now a.lengths.now a.marks.now)
    (record { sop = a.sop; eph = a.eph }) a.answer.now _ c.from.ensures c.if-answer-ne2.true

pub returns : goal.returns
returns c =
    let a = c.args in
    let f = c.measure-r in
    measure-listed a.state.now a.scratch.now (contribution a.counts.now a.lengths.now a.marks.now)
    (record { sop = a.sop; eph = a.eph }) a.answer.now
    f.result _ _ c.if-answer-ne2.false f.ensures
    c.copy.ensures
