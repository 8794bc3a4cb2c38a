use mathlib.Core.Path.{◌≡◌}
use Prim.Native.Nat.{◌+◌}
use lib.ListN.{length, take, drop}
use Rattle.t800.specs.State.{blocks_at, end_of}
use Rattle.bio_bytes.specs.Writing.{FreeBitsClear}
use Rattle.t2_write_block.specs.Runs.{running, AllFit}
use Rattle.t2_write_bands.specs.Bands.{code_bands}
use Rattle.t2_write_bands.proofs.code_bands.Given as goal

abbrev pub invariant-loop-band : goal.invariant-loop-band
invariant-loop-band l =
    (FreeBitsClear l.run.bio)
    × (length l.words ≡ length l.initial.words)
    × (length l.out ≡ length l.initial.out)
    × (end_of l.start (drop (length l.yielded) (take l.fn.n l.fn.bands)) ≡ length l.initial.words)
    × (l.run.block + length (blocks_at l.start (drop (length l.yielded) (take l.fn.n l.fn.bands))) ≡ length l.by.counts.now)
    × (AllFit l.by.counts.now l.by.lengths.now l.by.marks.now l.words (blocks_at l.start (drop (length l.yielded) (take l.fn.n l.fn.bands))) l.run.block l.run.pass)
    × (code_bands l.by.layer l.by.counts.now l.by.lengths.now l.by.marks.now l.start (drop (length l.yielded) (take l.fn.n l.fn.bands)) (running l.words l.out l.run)
    ≡ code_bands l.by.layer l.by.counts.now l.by.lengths.now l.by.marks.now 13 (take l.fn.n l.fn.bands) (running l.initial.words l.initial.out l.initial.run))
