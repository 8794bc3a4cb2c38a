use mathlib.Core.Path.{◌≡◌}
use Prim.Native.Nat.{◌+◌, ◌-◌, ◌*◌, ◌<◌, ◌≤◌}
use lib.ListN.{length}
use Rattle.t800.specs.State.{band_nodes, blocks_from}
use Rattle.t2_read_segments.specs.Reading.{reading}
use Rattle.t2_read_block_parts.specs.Blocks.{next_blocks}
use Rattle.t2_read_block_parts.proofs.Laws.Kept.{Keeps}
use Rattle.t2_read_bands.proofs.read_blocks.Given as goal

abbrev pub invariant-loop-at : goal.invariant-loop-at
invariant-loop-at l =
    (Keeps l.src (l.g.start + 6 * band_nodes l.band + 4 * l.at) l.initial.words (reading l.words l.reports l.records l.run))
    × (length l.words ≡ length l.initial.words)
    × (length l.reports ≡ length l.initial.reports)
    × (length l.records ≡ length l.initial.records)
    × (l.run.refusal ≡ 0)
    × (l.at < l.end → (l.at ≡ l.line * l.band.across + l.column) × (l.column < l.band.across))
    × (next_blocks l.src l.layer (l.block + l.at) (blocks_from l.g.start l.band (l.end - l.at) l.at) (reading l.words l.reports l.records l.run)
    ≡ next_blocks l.src l.layer (l.block + l.i) (blocks_from l.g.start l.band (l.end - l.i) l.i) (reading l.initial.words l.initial.reports l.initial.records l.initial.run))
    × (l.i ≤ l.at)

abbrev pub decreases-loop-at : goal.decreases-loop-at
decreases-loop-at l =
    l.end - l.at
