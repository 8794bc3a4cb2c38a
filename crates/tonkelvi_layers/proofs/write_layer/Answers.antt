use Rattle.t800.specs.WriteHeader.{contribution}
use Rattle.tonkelvi_layers.proofs.Laws.{layer-unlisted, layer-listed}
use Rattle.tonkelvi_layers.proofs.write_layer.Goals as goal

pub returns-then-answer-ne2 : goal.returns-then-answer-ne2
returns-then-answer-ne2 c =
    let a = c.args in
    layer-unlisted a.states.now
    (record {
      scratch = a.scratch.now;
      contribution = contribution a.counts.now a.lengths.now a.marks.now;
      bodies = a.bodies.now;
      markers = record { sop = a.sop; eph = a.eph };
      numbers = a.numbers.now;
      output = a.output.now;
    }) a.answer.now _ c.from.ensures c.if-answer-ne2.true

pub returns : goal.returns
returns c =
    let a = c.args in
    let f = c.write_layer-r in
    layer-listed a.states.now
    (record {
      scratch = a.scratch.now;
      contribution = contribution a.counts.now a.lengths.now a.marks.now;
      bodies = a.bodies.now;
      markers = record { sop = a.sop; eph = a.eph };
      numbers = a.numbers.now;
      output = a.output.now;
    }) a.answer.now f.result _ _ _ _ c.if-answer-ne2.false f.ensures c.copy.ensures
