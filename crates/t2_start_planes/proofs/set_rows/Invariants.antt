use mathlib.Core.Path.{◌≡◌}
use Prim.Native.Nat.{◌-◌, ◌*◌, ◌≤◌}
use lib.ListN.{length, drop}
use Rattle.t800.specs.State.{blocks_in, blocks_from}
use Rattle.t800.specs.Start.{set_zero_planes}
use Rattle.t2_start_planes.proofs.set_rows.Given as goal

abbrev pub invariant-loop-y : goal.invariant-loop-y
invariant-loop-y l = (l.from ≡ l.y * l.band.across)
    × (length l.state ≡ length l.initial.state)
    × (set_zero_planes (blocks_from l.at l.band (blocks_in l.band - l.y * l.band.across) (l.y * l.band.across)) (drop l.from l.planes) l.state
    ≡ set_zero_planes (blocks_from l.at l.band (blocks_in l.band) 0) l.planes l.initial.state)
