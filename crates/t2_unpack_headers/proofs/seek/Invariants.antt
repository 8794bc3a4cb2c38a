use Prim.Native.Nat.{◌-◌, ◌≤◌}
use lib.ListN.{length}
use Rattle.t2_unpack_headers.specs.Cursors.{CursorAt}
use Rattle.t2_unpack_headers.proofs.seek.Given as goal

abbrev pub invariant-loop-at : goal.invariant-loop-at
invariant-loop-at l = (CursorAt l.segments (record { at = l.at; before = l.before })) × (l.before ≤ l.from)

abbrev pub decreases-loop-at : goal.decreases-loop-at
decreases-loop-at l = length l.segments - l.at
