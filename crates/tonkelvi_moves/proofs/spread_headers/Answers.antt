use Rattle.tonkelvi_moves.proofs.Laws.{spread-unlisted, spread-listed}
use Rattle.tonkelvi_moves.proofs.spread_headers.Goals as goal

pub returns-then-answer-ne1 : goal.returns-then-answer-ne1
returns-then-answer-ne1 c =
    let a = c.args in
    spread-unlisted a.headers.now a.bodies.now a.states.now a.scratch.now a.places.now
    (record { sop = a.sop; eph = a.eph }) a.row.now a.answer.now _ c.from.ensures c.if-answer-ne1.true

pub returns : goal.returns
returns c =
    let a = c.args in
    let f = c.spread-r in
    spread-listed a.headers.now a.bodies.now a.states.now a.scratch.now a.places.now
    (record { sop = a.sop; eph = a.eph }) a.row.now a.answer.now f.result _ _ _ c.if-answer-ne1.false f.ensures
    c.copy.ensures
