use mathlib.Core.Path.{◌∙◌}
use lib.ListN.{replicate}
use Rattle.t800.specs.RefusalNumbers.{number_of}
use Rattle.t2_spread.specs.Answers.{spread_result}
use Rattle.t2_spread.proofs.Laws.Calls.{early, passed, late, whole}
use Rattle.t2_spread.proofs.spread.Goals as goal

pub returns-in-Err : goal.returns-in-Err
returns-in-Err c =
    let a = c.args in
    c.refuse.ensures
    ∙ early a.headers.now a.bodies.now a.states.now a.scratch.now a.places.now a.m a.row.now c.in-Err.why c.in-Err.ensures

pub spread_all-requires : goal.spread_all-requires
spread_all-requires c =
    let a = c.args in
    let p = passed a.headers.now a.bodies.now a.states.now a.scratch.now a.places.now a.m a.row.now c.in-Ok.plain c.in-Ok.ensures in
    (p.1, p.0, c.in-Ok.ensures.bytes_if)

pub returns-in-Err-spread_all : goal.returns-in-Err-spread_all
returns-in-Err-spread_all c =
    let a = c.args in
    let k = c.spread_all.auto in
    c.refuse-in-Err-spread_all.ensures
    ∙ (λ i. spread_result (record { refusal = number_of c.in-Err-spread_all.why; bytes = 0 }) (replicate (k.scratch i) 0)
    (replicate (k.row i) 0))
    ∙ late a.headers.now a.bodies.now a.states.now a.scratch.now a.places.now a.m a.row.now c.in-Ok.plain c.in-Ok.ensures _ _
    c.in-Err-spread_all.why c.in-Err-spread_all.ensures

pub returns-in-Ok-spread_all : goal.returns-in-Ok-spread_all
returns-in-Ok-spread_all c =
    let a = c.args in
    whole a.headers.now a.bodies.now a.states.now a.scratch.now a.places.now a.m a.row.now c.in-Ok.plain c.in-Ok.ensures _ _
    c.in-Ok-spread_all.bytes c.in-Ok-spread_all.ensures
