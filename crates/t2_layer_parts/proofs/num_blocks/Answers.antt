use Prim.Native.Nat.{◌+◌, ◌≤◌}
use lib.ListN.{length}
use mathlib.Core.Path.{◌≡◌}
use native.Mathlib.Omega.{arith}
use Rattle.t800.specs.State.{writer, bands, blocks}
use Rattle.tcd_state.proofs.Laws.Front.{valid_in_front}
use Rattle.t2_layer_parts.proofs.Laws.Front.{blocks-in_front, few_blocks}
use Rattle.t2_layer_parts.proofs.num_blocks.Goals as goal
use Rattle.t2_layer_parts.proofs.num_blocks.Goals.{After-shared_slice_known-1, After-area-third}

first_words_lem : (c : After-shared_slice_known-1) → 13 ≤ length c.args.states.now
first_words_lem c = (valid_in_front writer c.args.states.now c.requires).first_words_lem

total : (c : After-area-third) →
    let s = c in
    let first = c.area-first.result in
    let sum = first + c.area-second.result + c.area-third.result in
    (sum ≡ length (blocks (bands s.args.states.now))) × (sum ≤ 12288)
total c =
    let s = c in
    omega (
      arith,
      c.area-first.ensures,
      c.area-second.ensures,
      c.area-third.ensures,
      blocks-in_front s.args.states.now s.requires,
      few_blocks s.args.states.now s.requires,
    )

pub bounds-states-4 : goal.bounds-states-4
bounds-states-4 c = omega (arith, first_words_lem (goal.at.bounds-states-4 c).After-shared_slice_known-1)

pub bounds-states-5 : goal.bounds-states-5
bounds-states-5 c = omega (arith, first_words_lem (goal.at.bounds-states-5 c).After-shared_slice_known-1)

pub bounds-states-7 : goal.bounds-states-7
bounds-states-7 c = omega (arith, first_words_lem (goal.at.bounds-states-7 c).After-shared_slice_known-1)

pub bounds-states-8 : goal.bounds-states-8
bounds-states-8 c = omega (arith, first_words_lem (goal.at.bounds-states-8 c).After-shared_slice_known-1)

pub bounds-states-10 : goal.bounds-states-10
bounds-states-10 c = omega (arith, first_words_lem (goal.at.bounds-states-10 c).After-shared_slice_known-1)

pub bounds-states-11 : goal.bounds-states-11
bounds-states-11 c = omega (arith, first_words_lem (goal.at.bounds-states-11 c).After-shared_slice_known-1)

pub overflow_add-result : goal.overflow_add-result
overflow_add-result c = omega (arith, total c)

pub overflow_add-result-2 : goal.overflow_add-result-2
overflow_add-result-2 c = omega (arith, total c)

pub returns : goal.returns
returns c = (total c).0
