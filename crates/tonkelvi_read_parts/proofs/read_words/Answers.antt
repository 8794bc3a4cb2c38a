use mathlib.Core.Path.{◌∙◌}
use mathlib.Core.List.{[], ◌∷◌}
use Rattle.tonkelvi_read_parts.proofs.Structs.{read-unlisted, read-listed}
use Rattle.tonkelvi_read_parts.proofs.read_words.Goals as goal

pub returns-then-answer-ne6 : goal.returns-then-answer-ne6
returns-then-answer-ne6 c =
    let a = c.args in
    read-unlisted a.state.now a.scratch.now (record { sop = a.sop; eph = a.eph }) a.src.now a.reports.now
    a.work.now a.room a.answer.now _ c.refused.ensures c.if-answer-ne6.true

pub returns : goal.returns
returns c =
    let a = c.args in
    let f = c.read_numbers-r in
    read-listed a.state.now a.scratch.now (record { sop = a.sop; eph = a.eph }) a.src.now a.reports.now
    a.work.now a.room a.answer.now
    f.result _ _ _ _ _
    c.if-answer-ne6.false f.ensures
    (c.copy.ensures
    ∙ (λ i. c.from.ensures i ∷ f.result.taken ∷ f.result.segments ∷ c.from-2.ensures i ∷ c.from-3.ensures i ∷ f.result.past ∷ []))
