use mathlib.Core.Path.{◌∙◌}
use mathlib.Core.List.{[], ◌∷◌}
use Rattle.tonkelvi_gathered_parts.proofs.Structs.{gathered_unlisted, gathered_listed}
use Rattle.tonkelvi_gathered_parts.proofs.gathered_words.Goals as goal

pub returns-then-answer-ne7 : goal.returns-then-answer-ne7
returns-then-answer-ne7 c =
    let a = c.args in
    gathered_unlisted a.state.now a.scratch.now (record { sop = a.sop; eph = a.eph }) a.headers.now a.src.now
    a.reports.now a.work.now a.room a.answer.now _ c.refused.ensures c.if-answer-ne7.true

pub returns : goal.returns
returns c =
    let a = c.args in
    let f = c.read_numbers-r in
    let t = c.told_beside-a.result in
    gathered_listed a.state.now a.scratch.now (record { sop = a.sop; eph = a.eph }) a.headers.now a.src.now
    a.reports.now a.work.now a.room a.answer.now f.result c.told_beside-a.result _ _ _ _ _
    c.if-answer-ne7.false f.ensures c.told_beside-a.ensures
    (c.copy.ensures
    ∙ (λ i. c.from.ensures i ∷ t.headers ∷ t.taken ∷ t.segments ∷ c.from-2.ensures i ∷ c.from-3.ensures i ∷ t.past ∷ []))
