use mathlib.Core.Path.{◌≡◌}
use Prim.Native.Nat.{◌+◌, ◌-◌, ◌*◌}
use lib.ListN.{length}
use Rattle.t800.specs.State.{blocks_from}
use Rattle.tcd_places.specs.Places.{band_blocks}
use Rattle.t2_write_new_rows.specs.Setting.{set_all}
use Rattle.t2_write_new_blocks.proofs.set_rows.Given as goal

abbrev pub invariant-loop-y : goal.invariant-loop-y
invariant-loop-y l =
    (length l.words ≡ length l.initial.words)
    × (set_all l.layer l.counts (blocks_from l.g.start l.fn.band (l.fn.band.across * (l.fn.band.down - l.y)) (l.y * l.fn.band.across))
    (l.block + l.y * l.fn.band.across) l.words ≡ set_all l.layer l.counts (band_blocks l.g.start l.fn.band) l.block l.initial.words)
