use Rattle.std.proofs.lemmas.Result.{err_from_is_err_and}
use Rattle.t2_spread.proofs.Laws.Calls.{by_segments, by_states, by_neither}
use Rattle.t2_spread.proofs.look_first.Goals as goal

pub returns-in_err-plain : goal.returns-in_err-plain
returns-in_err-plain c =
    let a = c.args in
    let r = err_from_is_err_and c.from_residual.result c.from_residual.ensures.1 in
    rw (r.1, r.2) (by_segments a.segments.now a.states.now a.scratch a.places.now c.in_err-plain.field-0.0 c.in_err-plain.ensures)

pub returns-then-not-states_fit : goal.returns-then-not-states_fit
returns-then-not-states_fit c =
    let a = c.args in
    by_states a.segments.now a.states.now a.scratch a.places.now c.in_ok-plain.plain c.in_ok-plain.ensures
    _ c.states_fit.ensures c.if-not-states_fit.true

pub returns : goal.returns
returns c =
    let a = c.args in
    by_neither a.segments.now a.states.now a.scratch a.places.now c.in_ok-plain.plain c.in_ok-plain.ensures
    _ c.states_fit.ensures c.if-not-states_fit.false
