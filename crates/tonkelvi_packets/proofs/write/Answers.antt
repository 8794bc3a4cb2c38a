use Rattle.t800.specs.WriteHeader.{contribution}
use Rattle.tonkelvi_packets.proofs.Laws.{write-unlisted, write-listed}
use Rattle.tonkelvi_packets.proofs.write.Goals as goal

pub returns-then-answer-ne1 : goal.returns-then-answer-ne1
returns-then-answer-ne1 c =
    let a = c.args in
    write-unlisted a.state.now a.scratch.now (contribution a.counts.now a.lengths.now a.marks.now)
    a.body.now (record { sop = a.sop; eph = a.eph }) a.number a.output.now a.answer.now _ c.from.ensures c.if-answer-ne1.true

pub returns : goal.returns
returns c =
    let a = c.args in
    let f = c.write-r in
    write-listed a.state.now a.scratch.now (contribution a.counts.now a.lengths.now a.marks.now) a.body.now
    (record { sop = a.sop; eph = a.eph }) a.number a.output.now a.answer.now
    f.result _ _ _ _ c.if-answer-ne1.false f.ensures c.copy.ensures
