use mathlib.Core.Path.{sym, ◌∙◌}
use native.Mathlib.Omega.{arith}
use lib.ListN.{length}
use Rattle.t800.specs.State.{reader}
use Rattle.tcd_laws.proofs.Laws.ValidStates.{valid_state_lem, thirteen_words}
use Rattle.t2_read_numbers.proofs.Numbers.{wrong_5, wrong_6, wrong_3}
use Rattle.t2_read_numbers.proofs.work_refusal.Goals as goal

pub returns-then-not-valid_state : goal.returns-then-not-valid_state
unfolding reader
returns-then-not-valid_state c =
    let s = c in
    wrong_5 s.args.state.now s.args.scratch.now (sym c.valid_state.ensures ∙ c.if-not-valid_state.true)

pub bounds-state-3 : goal.bounds-state-3
unfolding reader
bounds-state-3 c =
    let s = c in
    let ws = s.args.state.now in
    let e = sym c.valid_state.ensures ∙ c.if-not-valid_state.false in
    let v = valid_state_lem reader ws (length s.args.scratch.now) e in
    omega (arith, thirteen_words ws (length s.args.scratch.now) v)

pub returns-then-state-eq-NOT_YET_INCLUDED : goal.returns-then-state-eq-NOT_YET_INCLUDED
unfolding reader
returns-then-state-eq-NOT_YET_INCLUDED c =
    let s = c in
    wrong_6 s.args.state.now s.args.scratch.now
    (sym c.valid_state.ensures ∙ c.if-not-valid_state.false) c.if-state-eq-NOT_YET_INCLUDED.true

pub returns : goal.returns
unfolding reader
returns c =
    let s = c in
    wrong_3 s.args.state.now s.args.scratch.now
    (sym c.valid_state.ensures ∙ c.if-not-valid_state.false) c.if-state-eq-NOT_YET_INCLUDED.false
