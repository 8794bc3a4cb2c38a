use Prim.Native.Nat.{◌-◌}
use lib.ListN.{length}
use Rattle.t2_block_widths.proofs.Laws.{NoneBefore}
use Rattle.t2_block_widths.proofs.any_segment.Given as goal

abbrev pub invariant-loop-at : goal.invariant-loop-at
invariant-loop-at g l = NoneBefore g.test l.lengths l.marks l.at

abbrev pub decreases-loop-at : goal.decreases-loop-at
decreases-loop-at g l = length l.lengths - l.at
