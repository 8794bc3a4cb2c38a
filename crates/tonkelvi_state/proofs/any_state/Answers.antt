use mathlib.Core.Path.{sym, ◌∙◌}
use Rattle.t800.specs.State.{writer, reader}
use Rattle.tonkelvi_state.proofs.Laws.States.{a_writer, no_writer}
use Rattle.tonkelvi_state.proofs.any_state.Goals as goal

pub returns-then-valid_state : goal.returns-then-valid_state
unfolding writer
returns-then-valid_state c = a_writer c.args.state.now (sym c.valid_state.ensures ∙ c.if-valid_state.true)

pub returns : goal.returns
unfolding writer reader
returns c = c.valid_state-2.ensures
    ∙ no_writer c.args.state.now (sym c.valid_state.ensures ∙ c.if-valid_state.false)
