use mathlib.Core.Path.{refl, sym, ◌∙◌}
use mathlib.Core.Logic.{◌≢◌}
use mathlib.Core.List.{List}
use Prim.Native.Nat.{ℕ}
use native.Mathlib.Omega.{arith}
use lib.ListN.{length}
use borrow.Author.Tests.{eqb-true, eqb-false}
use Rattle.t800.specs.declared.Markers.{Markers}
use Rattle.t800.specs.WriteHeader.{contribution}
use Rattle.t800.specs.Layer.{LayerCall}
use Rattle.t2_write_layer.proofs.Laws.Whole.{too_many, empty_list, wrong_scratch_lem, one_refused}
use Rattle.t2_write_layer.proofs.write_layer.Goals as goal
use Rattle.t2_write_layer.proofs.write_layer.Goals.{Else-is_empty}

abbrev call : (scratch counts lengths marks bodies : List ℕ) → Markers → (numbers output : List ℕ) → LayerCall
call scratch counts lengths marks bodies m numbers output = record {
  scratch = scratch;
  contribution = contribution counts lengths marks;
  bodies = bodies;
  markers = m;
  numbers = numbers;
  output = output;
}

some : (c : Else-is_empty) → length c.args.numbers.now ≢ 0
some c = eqb-false _ 0 (sym c.is_empty.ensures ∙ c.if-is_empty.false)

pub returns-then-numbers-gt16 : goal.returns-then-numbers-gt16
returns-then-numbers-gt16 c =
    let a = c.args in
    too_many a.states.now (call a.scratch.now a.counts.now a.lengths.now a.marks.now a.bodies.now a.markers a.numbers.now a.output.now) _ c.if-numbers-gt16.true c.refused.ensures

pub returns-then-is_empty : goal.returns-then-is_empty
returns-then-is_empty c =
    let a = c.args in
    empty_list a.states.now (call a.scratch.now a.counts.now a.lengths.now a.marks.now a.bodies.now a.markers
    a.numbers.now a.output.now) _ (eqb-true _ 0 (sym c.is_empty.ensures ∙ c.if-is_empty.true)) refl

pub returns-then-scratch-states : goal.returns-then-scratch-states
returns-then-scratch-states c =
    let a = c.args in
    let k = c.none_of_it in
    wrong_scratch_lem a.states.now (call a.scratch.now a.counts.now a.lengths.now a.marks.now a.bodies.now a.markers a.numbers.now a.output.now) (
      omega (arith, some (goal.at.returns-then-scratch-states c).Else-is_empty),
      c.if-numbers-gt16.false,
    ) _ _ _ c.if-scratch-states.true
    (k.ensures.0 ∙ c.refused-then-scratch-states.ensures) k.ensures.1 k.ensures.2

pub write_precincts-r-requires : goal.write_precincts-r-requires
write_precincts-r-requires c = (
  omega (arith, some (goal.at.write_precincts-r-requires c).Else-is_empty),
  c.if-numbers-gt16.false,
  c.if-scratch-states.false,
)

pub returns-then-r-ne0 : goal.returns-then-r-ne0
returns-then-r-ne0 c =
    let a = c.args in
    let k = c.none_of_it-then-r-ne0 in
    let w = c.write_precincts-r in
    one_refused a.states.now (call a.scratch.now a.counts.now a.lengths.now a.marks.now a.bodies.now a.markers
    a.numbers.now a.output.now) (
      omega (
        arith,
        some (goal.at.returns-then-r-ne0 c).Else-is_empty,
      ),
      c.if-numbers-gt16.false,
    ) w.result _ _ _ w.ensures
    c.if-r-ne0.true _ _ _ w.auto.scratch w.auto.output
    k.ensures.0 k.ensures.1 k.ensures.2

pub returns : goal.returns
returns c =
    c.write_precincts-r.ensures.done c.if-r-ne0.false
