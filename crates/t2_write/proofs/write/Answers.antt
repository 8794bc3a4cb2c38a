use mathlib.Core.Path.{sym, ap, ◌∙◌}
use native.Mathlib.Omega.{arith}
use Rattle.t800.specs.RefusalNumbers.{word_of}
use Rattle.t800.specs.WriteHeader.{contribution}
use Rattle.t2_refusal_laws.proofs.Laws.Accepted.{accepted, as_long}
use Rattle.t2_refusal_laws.proofs.Laws.Numbers.{number-not_0}
use Rattle.t2_refusal_laws.proofs.Laws.WriterState.{first_words_lem}
use Rattle.t2_put_packet.specs.Put.{answer_of}
use Rattle.t2_put_packet.proofs.Laws.Put.{layer-alone}
use Rattle.t2_write.proofs.Laws.Written.{write-refused, write-body_refused, write-without_room, write_done}
use Rattle.t2_write.proofs.write.Goals as goal

pub returns-in-Some : goal.returns-in-Some
returns-in-Some c =
    let a = c.args in
    let p = contribution a.counts.now a.lengths.now a.marks.now in
    (λ i. record { answer = c.refused.ensures i; state = a.state.now; scratch = a.scratch.now; output = a.output.now })
    ∙ write-refused a.state.now a.scratch.now p a.body.now a.markers a.number a.output.now _
    (sym (ap word_of c.in-Some.is) ∙ c.measure_refusal.ensures) (number-not_0 c.in-Some.why)

pub total-requires : goal.total-requires
total-requires c =
    let a = c.args in
    let p = contribution a.counts.now a.lengths.now a.marks.now in
    let r = accepted a.state.now a.scratch.now p _ c.measure_refusal.ensures (ap word_of c.in_default.is) in
    omega (arith, r.lengths_are_lem, r.passes_are)

pub returns-then-body-total : goal.returns-then-body-total
returns-then-body-total c =
    let a = c.args in
    let p = contribution a.counts.now a.lengths.now a.marks.now in
    (λ i. record {
      answer = c.refused-then-body-total.ensures i;
      state = a.state.now;
      scratch = a.scratch.now;
      output = a.output.now;
    })
    ∙ write-body_refused a.state.now a.scratch.now p a.body.now a.markers a.number a.output.now _
    c.measure_refusal.ensures (ap word_of c.in_default.is) _ c.total.ensures c.if-body-total.true

pub settle-requires : goal.settle-requires
settle-requires c =
    let a = c.args in
    let p = contribution a.counts.now a.lengths.now a.marks.now in
    let g = c.measure_refusal in
    let z = ap word_of c.in_default.is in
    let r = accepted a.state.now a.scratch.now p _ g.ensures z in (
      first_words_lem a.state.now _ r.valid,
      c.put.auto.scratch ∙ sym (as_long a.state.now a.scratch.now p _ g.ensures z),
      λ e. layer-alone a.state.now _ p _ r c.put.ensures.scratch e,
    )

pub returns-in-Ok : goal.returns-in-Ok
returns-in-Ok c =
    let a = c.args in
    let p = contribution a.counts.now a.lengths.now a.marks.now in
    let k = c.put in
    (λ i. record {
      answer = sym (ap answer_of c.in-Ok.is) i;
      state = c.settle.new.state;
      scratch = k.new.scratch;
      output = k.new.output;
    })
    ∙ write_done a.state.now a.scratch.now p a.body.now a.markers a.number a.output.now _
    c.measure_refusal.ensures (ap word_of c.in_default.is) _ c.total.ensures c.if-body-total.false _ _ _ k.ensures _
    (ap (λ x. (answer_of x).refusal) c.in-Ok.is) c.settle.ensures

pub returns-in-Err : goal.returns-in-Err
returns-in-Err c =
    let a = c.args in
    let p = contribution a.counts.now a.lengths.now a.marks.now in
    let k = c.put in
    (λ i. record {
      answer = (c.refused-in-Err.ensures ∙ sym (ap answer_of c.in-Err.is)) i;
      state = a.state.now;
      scratch = c.wipe.new.list;
      output = c.wipe-in-Err.new.list;
    })
    ∙ write-without_room a.state.now a.scratch.now p a.body.now a.markers a.number a.output.now _
    c.measure_refusal.ensures (ap word_of c.in_default.is) _ c.total.ensures c.if-body-total.false _ _ _ k.ensures _ _
    (λ e. number-not_0 c.in-Err.why (sym (ap (λ x. (answer_of x).refusal) c.in-Err.is) ∙ e))
    k.auto.scratch k.auto.output c.wipe.ensures c.wipe-in-Err.ensures
