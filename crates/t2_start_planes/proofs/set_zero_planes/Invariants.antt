use Rattle.std.proofs.Common.{◌≡◌, ◌+◌, List, false, length, drop, map}
use Rattle.t800.specs.declared.Band.{Band}
use Rattle.t800.specs.Base.{sum}
use Rattle.t800.specs.State.{blocks_in, blocks_at, blocks, end_of}
use Rattle.t800.specs.Start.{set_zero_planes}
use Rattle.tcd_laws.proofs.Laws.BlockPlanes.{deep_from}
use Rattle.t2_start_planes.proofs.set_zero_planes.Given as goal

abbrev pub invariant-loop-band : goal.invariant-loop-band
invariant-loop-band l =
    let rest : List Band = drop l.band-index l.band-items in
    record {
      same : length l.state ≡ length l.initial.state;
      total : end_of l.at rest ≡ length l.initial.state;
      given : l.from + sum (map blocks_in rest) ≡ length l.planes;
      shallow : deep_from rest (drop l.from l.planes) ≡ false;
      set : set_zero_planes (blocks_at l.at rest) (drop l.from l.planes) l.state
          ≡ set_zero_planes (blocks l.band-items) l.planes l.initial.state;
    }
