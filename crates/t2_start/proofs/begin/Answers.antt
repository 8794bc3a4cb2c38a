use mathlib.Core.Path.{◌∙◌, sym}
use Rattle.t2_start_parts.proofs.Laws.Checks.{room, begun-refused, begun_fresh}
use Rattle.t2_start.proofs.begin.Goals as goal

pub returns-then-refused-ne0 : goal.returns-then-refused-ne0
returns-then-refused-ne0 c = let s = c.args in
    begun-refused s.role s.count s.bands s.style s.planes.now s.state.now c.answer_word-refused.result
    (c.answer_word-refused.ensures ∙ c.refusal-why.ensures) c.if-refused-ne0.true

pub fill-requires : goal.fill-requires
fill-requires c = let s = c.args in
    room s.role s.count s.bands s.style s.planes.now s.state.now
    (sym (c.answer_word-refused.ensures ∙ c.refusal-why.ensures) ∙ c.if-refused-ne0.false)

pub returns : goal.returns
returns c = let s = c.args in
    begun_fresh s.role s.count s.bands s.style s.planes.now s.state.now _
    (sym (c.answer_word-refused.ensures ∙ c.refusal-why.ensures) ∙ c.if-refused-ne0.false)
    c.fill.ensures
