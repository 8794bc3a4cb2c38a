use Rattle.std.proofs.Common.{sym, ◌∙◌, arith}
use Rattle.t800.specs.Gathered.{states_in}
use Rattle.tcd_states.proofs.Laws.Valid.{counted-none, counted-in_range, counted-all, all_is}
use Rattle.tcd_states.proofs.Laws.Valid.{other_scratch, some_out_of_range, fit_by_places}
use Rattle.tcd_states.proofs.states_fit.Goals as goal

pub returns-then-scratch_len-states : goal.returns-then-scratch_len-states
returns-then-scratch_len-states c =
    let a = c.args in
    other_scratch a.states.now a.scratch_len a.places.now (omega (arith, c.if-scratch_len-states.true))

pub returns-in_default : goal.returns-in_default
returns-in_default c =
    let a = c.args in
    let ws = a.states.now in
    some_out_of_range ws a.scratch_len a.places.now (omega (arith, c.if-scratch_len-states.false))
    (counted-none (states_in ws) (sym c.in_default.is ∙ c.count_states.ensures))

pub returns : goal.returns
returns c =
    let a = c.args in
    let ws = a.states.now in
    c.places_in.ensures
    ∙ all_is c.in-Some.count a.places.now
    ∙ fit_by_places ws a.scratch_len a.places.now (omega (arith, c.if-scratch_len-states.false))
    (counted-in_range (states_in ws) _ c.in-Some.ensures) _ (counted-all (states_in ws) _ c.in-Some.ensures)
