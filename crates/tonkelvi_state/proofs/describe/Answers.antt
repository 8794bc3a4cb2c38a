use mathlib.Core.Path.{sym, ◌∙◌}
use Rattle.tonkelvi_state.proofs.Laws.States.{describe_unlisted, out_of_range, described}
use Rattle.tonkelvi_state.proofs.describe.Goals as goal

pub returns-then-answer-ne3 : goal.returns-then-answer-ne3
returns-then-answer-ne3 c = let a = c.args in describe_unlisted a.state.now a.answer.now _ c.from.ensures c.if-answer-ne3.true

pub returns-then-not-any_state : goal.returns-then-not-any_state
returns-then-not-any_state c =
    let a = c.args in
    out_of_range a.state.now a.answer.now c.if-answer-ne3.false _ _
    (sym c.any_state.ensures ∙ c.if-not-any_state.true)
    c.copy.ensures c.from-then-not-any_state.ensures

pub num_blocks-blocks-requires : goal.num_blocks-blocks-requires
num_blocks-blocks-requires c = sym c.any_state.ensures ∙ c.if-not-any_state.false

pub returns : goal.returns
returns c =
    let a = c.args in
    described a.state.now a.answer.now
    c.if-answer-ne3.false _ _ _ _
    (sym c.any_state.ensures ∙ c.if-not-any_state.false)
    c.word-role.ensures c.word-layer.ensures
    c.num_blocks-blocks.ensures c.copy-2.ensures
