use Prim.Native.Nat.{◌-◌}
use lib.ListN.{length}
use Rattle.t2_unpack_headers.proofs.Laws.Looks.{Looking}
use Rattle.t2_unpack_headers.proofs.unpack.Given as goal

abbrev pub invariant-loop-at : goal.invariant-loop-at
invariant-loop-at l = Looking l.segments l.index l.at l.bytes

abbrev pub decreases-loop-at : goal.decreases-loop-at
decreases-loop-at l = length l.segments - l.at
