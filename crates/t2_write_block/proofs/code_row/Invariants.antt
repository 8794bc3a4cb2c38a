use mathlib.Core.Path.{◌≡◌}
use Prim.Native.Nat.{◌-◌}
use lib.ListN.{length}
use Rattle.bio_bytes.specs.Writing.{FreeBitsClear}
use Rattle.tcd_places.specs.Places.{row_blocks}
use Rattle.t2_write_block.specs.Runs.{running, code_all, AllFit}
use Rattle.t2_write_block.proofs.code_row.Given as goal

abbrev pub invariant-loop-i : goal.invariant-loop-i
invariant-loop-i l =
    (FreeBitsClear l.run.bio)
    × (length l.words ≡ length l.initial.words)
    × (length l.out ≡ length l.initial.out)
    × (AllFit l.by.counts.now l.by.lengths.now l.by.marks.now l.words (row_blocks l.p l.row 0 (l.n - l.i) l.i) l.run.block l.run.pass)
    × (code_all l.by.layer l.by.counts.now l.by.lengths.now l.by.marks.now (row_blocks l.p l.row 0 (l.n - l.i) l.i) (running l.words l.out l.run)
    ≡ code_all l.by.layer l.by.counts.now l.by.lengths.now l.by.marks.now (row_blocks l.p l.row 0 l.n 0) (running l.initial.words l.initial.out l.initial.run))
