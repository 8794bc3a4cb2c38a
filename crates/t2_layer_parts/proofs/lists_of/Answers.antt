use lib.ListN.{length-take}
use native.Mathlib.Omega.{arith}
use Rattle.t2_layer_parts.proofs.Laws.Front.{few_blocks, lists_cut}
use Rattle.t2_layer_parts.proofs.lists_of.Goals as goal

pub total-passes-requires : goal.total-passes-requires
total-passes-requires c =
    let s = c in
    omega (
      arith,
      length-take c.min-blocks.result s.args.counts.now,
      c.min-blocks.ensures,
      c.num_blocks.ensures,
      few_blocks s.args.states.now s.requires,
    )

pub returns : goal.returns
returns c =
    let a = c.args in
    lists_cut a.states.now a.counts.now a.lengths a.marks _ _ _ _ _
    c.num_blocks.ensures c.min-blocks.ensures
    c.total-passes.ensures c.min.ensures c.min-2.ensures
