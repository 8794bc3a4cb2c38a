use Rattle.tonkelvi_moves.proofs.Laws.{gather-unlisted, gather-listed}
use Rattle.tonkelvi_moves.proofs.gather_headers.Goals as goal

pub returns-then-answer-ne2 : goal.returns-then-answer-ne2
returns-then-answer-ne2 c =
    let a = c.args in
    gather-unlisted a.row.now a.states.now a.scratch.now a.places.now (record { sop = a.sop; eph = a.eph })
    a.headers.now a.bodies.now a.answer.now _ c.from.ensures c.if-answer-ne2.true

pub returns : goal.returns
returns c =
    let a = c.args in
    let f = c.gather-r in
    gather-listed a.row.now a.states.now a.scratch.now a.places.now (record { sop = a.sop; eph = a.eph })
    a.headers.now a.bodies.now a.answer.now f.result _ _ _ _ c.if-answer-ne2.false f.ensures c.copy.ensures
