use mathlib.Core.Path.{sym, ap, ◌∙◌}
use mathlib.Core.List.{[], ◌∷◌}
use native.Mathlib.Omega.{arith}
use Rattle.t800.specs.RefusalNumbers.{word_of}
use Rattle.t800.specs.WriteHeader.{contribution}
use Rattle.t2_refusal_laws.proofs.Laws.Accepted.{accepted}
use Rattle.t2_refusal_laws.proofs.Laws.Numbers.{number-not_0}
use Rattle.t2_measure.proofs.Laws.Measured.{measure-refused, measure-done}
use Rattle.t2_measure.proofs.measure.Goals as goal

pub returns-in-Some : goal.returns-in-Some
returns-in-Some c =
    let a = c.args in
    let g = c.measure_refusal in
    (λ i. record { answer = c.refused.ensures i; scratch = a.scratch.now })
    ∙ measure-refused a.state.now a.scratch.now (contribution a.counts.now a.lengths.now a.marks.now) a.markers
    _ (sym (ap word_of c.in-Some.is) ∙ g.ensures) (number-not_0 c.in-Some.why)

pub total-body-requires : goal.total-body-requires
total-body-requires c =
    let a = c.args in
    let g = c.measure_refusal in
    let r = accepted a.state.now a.scratch.now (contribution a.counts.now a.lengths.now a.marks.now) _
    g.ensures (ap word_of c.in_default.is) in
    omega (arith, r.lengths_are_lem, r.passes_are)

pub returns : goal.returns
returns c =
    let a = c.args in
    let g = c.measure_refusal in
    measure-done a.state.now a.scratch.now (contribution a.counts.now a.lengths.now a.marks.now) a.markers
    _ g.ensures (0 ∷ []) _ _ (ap word_of c.in_default.is)
    c.put_front-end.ensures c.total-body.ensures
