use mathlib.Core.Path.{◌≡◌, refl, sym, ◌∙◌, subst}
use Prim.Native.Nat.{ℕ, ◌+◌, ◌-◌, ◌<◌}
use native.Mathlib.Omega.{arith}
use lib.ListN.{length, set}
use Rattle.t800.specs.Layer.{LayerCall}
use Rattle.whole_layer.specs.SingleCalls.{LooksAtEach}
use Rattle.t2_write_precincts.proofs.Laws.Lists.{back}
use Rattle.t2_write_precincts.proofs.Laws.Along.{Along, begins}
use Rattle.t2_write_precincts.proofs.Laws.Lent.{lent-as_long, states_length, scratch_length_lem, front-refused}
use Rattle.t2_write_precincts.proofs.Laws.Lent.{front-written, one_refused, last_settles, last_fits, layer-written}
use Rattle.t2_write_precincts.proofs.write_precincts.Invariants.{call}
use Rattle.t2_write_precincts.proofs.write_precincts.Goals as goal
use Rattle.t2_write_precincts.proofs.write_precincts.Goals.{Start, In-Ok, After-loop-i}

-- ---- the call

abbrev called : Start → LayerCall
called s =
    let a = s.args in
    call a.numbers.now a.scratch.now a.counts.now a.lengths.now a.marks.now a.bodies.now a.markers
    a.output.now

looks : (s : Start) → LooksAtEach s.args.states.now (called s)
looks s = ((s.requires.0, s.requires.1), s.requires.2)

one_written : (c : In-Ok) →
    let o = c.loop-i in
    let k = c.write_in_front in
    let f = c.in-Ok.written.0 in
    let packet = c.in-Ok.written.1 in
    Along c.args.states.now (called (goal.at.In-Ok c).Start) (o.i + 1) (o.word + f.words) (o.block + f.blocks) (o.pass + f.passes)
    (o.byte + f.bytes) (o.end + packet) (back o.word o.scratch k.new.scratch) (back o.end o.output k.new.output)
    (set o.words o.i f.words) (set o.passes o.i f.passes)
one_written c =
    let o = c.loop-i in
    let k = c.write_in_front in
    front-written o.invariant.1 (omega (arith, c.loop-i-test.true, o.invariant.0)) c.requires.1 c.in-Ok.written.0 c.in-Ok.written.1
    _ _ c.in-Ok.ensures k.auto.scratch k.auto.output

-- it is one of 16

among-sixteen : (c : In-Ok) → c.loop-i.i < 16
among-sixteen c =
    omega (
      arith,
      c.loop-i-test.true,
      c.loop-i.invariant.0,
      c.requires.1,
    )

-- ---- the last one

at_last : (c : After-loop-i) →
    let s = c in
    let o = c.loop-i in
    Along s.args.states.now (called (goal.at.After-loop-i c).Start) (length s.args.numbers.now - 1) o.word o.block o.pass o.byte o.end
    o.scratch o.output o.words o.passes
at_last c =
    let s = c in
    let o = c.loop-i in
    let e : o.i ≡ length s.args.numbers.now - 1 = omega (arith, o.invariant.0, c.loop-i-test.false) in
    subst (λ (j : ℕ). Along s.args.states.now (called (goal.at.After-loop-i c).Start) j o.word o.block o.pass o.byte o.end o.scratch o.output
    o.words o.passes) e o.invariant.1

pub loop-i-init : goal.loop-i-init
loop-i-init c =
    let s = c in
    (omega (arith, s.requires.0), begins s.args.states.now (called (goal.at.loop-i-init c).Start) s.requires.2 _ _ refl refl)

-- ---- a precinct with others behind it
pub write_in_front-requires : goal.write_in_front-requires
write_in_front-requires c =
    lent-as_long c.loop-i.invariant.1

pub returns-in-Err : goal.returns-in-Err
returns-in-Err c =
    let o = c.loop-i in
    front-refused o.invariant.1 (omega (arith, c.loop-i-test.true, o.invariant.0)) c.requires.1
    (looks (goal.at.returns-in-Err c).Start) c.in-Err.why c.write_in_front.new.scratch c.write_in_front.new.output
    c.in-Err.ensures _ c.refused.ensures _ _

pub overflow_add-word : goal.overflow_add-word
overflow_add-word c =
    omega (
      arith,
      (one_written (goal.at.overflow_add-word c).In-Ok).words_in,
      c.well_formed.1.0,
    )

pub overflow_add-block : goal.overflow_add-block
overflow_add-block c =
    omega (
      arith,
      (one_written (goal.at.overflow_add-block c).In-Ok).counts_in,
      c.well_formed.1.1.1.0,
    )

pub overflow_add-pass : goal.overflow_add-pass
overflow_add-pass c =
    omega (
      arith,
      (one_written (goal.at.overflow_add-pass c).In-Ok).lengths_in,
      c.well_formed.1.1.1.1.0,
    )

pub overflow_add-byte : goal.overflow_add-byte
overflow_add-byte c =
    omega (
      arith,
      (one_written (goal.at.overflow_add-byte c).In-Ok).bodies_in,
      c.well_formed.1.1.1.1.1.1.0,
    )

pub overflow_add-end : goal.overflow_add-end
overflow_add-end c =
    omega (
      arith,
      (one_written (goal.at.overflow_add-end c).In-Ok).output-in,
      c.well_formed.1.1.1.1.1.1.1.1.0,
    )

pub loop-i-preserved : goal.loop-i-preserved
loop-i-preserved c = (omega (arith, c.requires.0), one_written (goal.at.loop-i-preserved c).In-Ok)

pub returns-then-a-ne0 : goal.returns-then-a-ne0
returns-then-a-ne0 c =
    let s = c in
    let a = at_last (goal.at.returns-then-a-ne0 c).After-loop-i in
    let w = c.write-a in
    one_refused a (looks (goal.at.returns-then-a-ne0 c).Start) (omega (arith, s.requires.0)) w.result _ _ _ w.ensures c.if-a-ne0.true _ refl _ _

pub settle_states-requires : goal.settle_states-requires
settle_states-requires c =
    let s = c in
    let a = at_last (goal.at.settle_states-requires c).After-loop-i in
    let w = c.write-a in (
      omega (arith, s.requires.1, a.sixteen_words),
      omega (arith, s.requires.1, a.sixteen_passes),
      scratch_length_lem a w.new.scratch w.auto.scratch ∙ a.as_long ∙ sym (states_length a w.new.state w.auto.state),
      last_settles a (looks (goal.at.settle_states-requires c).Start) (omega (arith, s.requires.0)) w.result _ _ _ w.ensures
          c.if-a-ne0.false,
    )

pub returns : goal.returns
returns c =
    let s = c in
    let a = at_last (goal.at.returns c).After-loop-i in
    let w = c.write-a in
    layer-written a (looks (goal.at.returns c).Start) (omega (arith, s.requires.0)) w.result _ _ _ w.ensures
    c.if-a-ne0.false _ c.settle_states.ensures

pub overflow_add-result : goal.overflow_add-result
overflow_add-result c =
    let s = c in
    let a = at_last (goal.at.overflow_add-result c).After-loop-i in
    let w = c.write-a in
    let f = last_fits a (looks (goal.at.overflow_add-result c).Start) (omega (arith, s.requires.0)) w.result _ _ _ w.ensures
    c.if-a-ne0.false w.auto.output in
    omega (arith, f, s.well_formed.1.1.1.1.1.1.1.1.0)
