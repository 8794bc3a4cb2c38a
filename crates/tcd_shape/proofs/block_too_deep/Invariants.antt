use Rattle.std.proofs.Common.{◌≡◌, drop}
use Rattle.t800.specs.Ranges.{block_too_deep}
use Rattle.t800.specs.State.{blocks}
use Rattle.tcd_laws.proofs.Laws.BlockPlanes.{deep_from}
use Rattle.tcd_shape.proofs.block_too_deep.Given as goal

abbrev pub invariant-loop-band : goal.invariant-loop-band
invariant-loop-band l = deep_from (drop l.band-index l.band-items) l.rest ≡ block_too_deep (blocks l.band-items) l.fn.planes
