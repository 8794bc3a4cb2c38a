use mathlib.Core.Path.{◌≡◌}
use Prim.Native.Nat.{◌+◌, ◌-◌, ◌*◌}
use lib.ListN.{length}
use Rattle.t2_read_segments.specs.Reading.{reading}
use Rattle.t2_read_block_parts.specs.Blocks.{next_blocks}
use Rattle.tcd_places.specs.Places.{row_blocks}
use Rattle.t2_read_block_parts.proofs.Laws.Kept.{Keeps}
use Rattle.t2_read_block.proofs.read_row.Given as goal

abbrev pub invariant-loop-i : goal.invariant-loop-i
invariant-loop-i l =
    (Keeps l.src (l.p.at + 4 * l.i) l.initial.words (reading l.words l.reports l.records l.run))
    × (length l.words ≡ length l.initial.words)
    × (length l.reports ≡ length l.initial.reports)
    × (length l.records ≡ length l.initial.records)
    × (l.run.refusal ≡ 0)
    × (next_blocks l.src l.layer (l.block + l.i) (row_blocks l.p l.row l.planes (l.n - l.i) l.i) (reading l.words l.reports l.records l.run)
    ≡ next_blocks l.src l.layer l.block (row_blocks l.p l.row l.planes l.n 0) (reading l.initial.words l.initial.reports l.initial.records l.initial.run))
