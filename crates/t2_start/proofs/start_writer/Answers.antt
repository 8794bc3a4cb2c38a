use Rattle.t800.specs.State.{writer}
use Rattle.t2_start_parts.proofs.Laws.Checks.{start-refused, start-set, writer-begun}
use Rattle.t2_start.proofs.start_writer.Goals as goal

pub returns-then-answer-ne0 : goal.returns-then-answer-ne0
unfolding writer
returns-then-answer-ne0 c = let s = c.args in
    start-refused writer s.count s.bands s.style s.planes.now s.state.now
    c.begin-answer.result _ c.begin-answer.ensures c.if-answer-ne0.true

pub set_zero_planes-requires : goal.set_zero_planes-requires
unfolding writer
set_zero_planes-requires c = let s = c.args in
    writer-begun s.count s.bands s.style s.planes.now s.state.now
    c.begin-answer.result _ c.begin-answer.ensures c.if-answer-ne0.false

pub returns : goal.returns
unfolding writer
returns c = let s = c.args in
    start-set writer s.count s.bands s.style s.planes.now s.state.now
    c.begin-answer.result _ _
    c.begin-answer.ensures c.if-answer-ne0.false
    c.set_zero_planes.ensures
