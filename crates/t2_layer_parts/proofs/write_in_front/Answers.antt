use Rattle.std.proofs.lemmas.Result.{err_from_is_err_and}
use Rattle.t800.specs.WriteHeader.{contribution}
use Rattle.t2_layer_parts.proofs.Laws.Put.{refused-as_single, written_as_single}
use Rattle.t2_layer_parts.proofs.write_in_front.Goals as goal

pub returns-in_err-front : goal.returns-in_err-front
returns-in_err-front c =
    let a = c.args in
    let p = err_from_is_err_and c.from_residual.result c.from_residual.ensures.1 in
    rw (p.1, p.2) (refused-as_single a.states.now a.scratch.now (contribution a.counts.now a.lengths.now a.marks.now) a.bodies.now
    a.markers a.number a.output.now c.requires _ a.scratch.now a.output.now c.in_err-front.ensures)

pub returns : goal.returns
returns c =
    let a = c.args in
    written_as_single a.states.now a.scratch.now (contribution a.counts.now a.lengths.now a.marks.now) a.bodies.now a.markers
    a.number a.output.now c.requires c.in_ok-front.front c.in_ok-front.ensures c.in_ok-packet.packet _ _ _ c.in_ok-packet.was
    c.put_in_front.ensures
