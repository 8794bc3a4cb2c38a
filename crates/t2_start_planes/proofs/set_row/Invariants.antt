use mathlib.Core.Path.{◌≡◌}
use Prim.Native.Nat.{◌-◌, ◌≤◌}
use lib.ListN.{length, drop}
use Rattle.t2_start_planes.specs.Rows.{set_row}
use Rattle.t2_start_planes.proofs.set_row.Given as goal

abbrev pub invariant-loop-x : goal.invariant-loop-x
invariant-loop-x l = (length l.state ≡ length l.initial.state)
    × (set_row l.base l.row l.depth l.most l.x (drop l.x l.planes) l.state ≡ set_row l.base l.row l.depth l.most 0 l.planes l.initial.state)
