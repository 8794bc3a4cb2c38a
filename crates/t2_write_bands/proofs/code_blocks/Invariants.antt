use mathlib.Core.Path.{◌≡◌}
use Prim.Native.Nat.{◌-◌, ◌*◌}
use lib.ListN.{length}
use Rattle.t800.specs.State.{blocks_from}
use Rattle.bio_bytes.specs.Writing.{FreeBitsClear}
use Rattle.t2_write_block.specs.Runs.{running, code_all, AllFit}
use Rattle.tcd_places.specs.Places.{band_blocks}
use Rattle.t2_write_bands.proofs.code_blocks.Given as goal

abbrev pub invariant-loop-y : goal.invariant-loop-y
invariant-loop-y l =
    (FreeBitsClear l.run.bio)
    × (length l.words ≡ length l.initial.words)
    × (length l.out ≡ length l.initial.out)
    × (AllFit l.by.counts.now l.by.lengths.now l.by.marks.now l.words (blocks_from l.g.start l.fn.band (l.fn.band.across * (l.fn.band.down - l.y)) (l.y * l.fn.band.across))
    l.run.block l.run.pass)
    × (code_all l.by.layer l.by.counts.now l.by.lengths.now l.by.marks.now (blocks_from l.g.start l.fn.band (l.fn.band.across * (l.fn.band.down - l.y)) (l.y * l.fn.band.across))
    (running l.words l.out l.run) ≡ code_all l.by.layer l.by.counts.now l.by.lengths.now l.by.marks.now (band_blocks l.g.start l.fn.band) (running l.initial.words l.initial.out l.initial.run))
