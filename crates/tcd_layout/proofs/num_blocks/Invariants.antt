use Rattle.std.proofs.Common.{◌≡◌, ◌+◌, ◌*◌, ◌≤◌, drop, map}
use Rattle.t800.specs.Base.{sum}
use Rattle.t800.specs.State.{blocks_in}
use Rattle.tcd_layout.proofs.num_blocks.Given as goal

abbrev pub invariant-loop-band : goal.invariant-loop-band
invariant-loop-band l = (l.total ≤ 4096 * l.band-index)
    × (l.total + sum (map blocks_in (drop l.band-index l.band-items)) ≡ sum (map blocks_in l.band-items))
