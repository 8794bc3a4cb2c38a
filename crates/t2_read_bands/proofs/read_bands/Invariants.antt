use mathlib.Core.Path.{◌≡◌}
use Prim.Native.Nat.{◌*◌, ◌≤◌}
use lib.ListN.{length, take, drop}
use Rattle.t800.specs.State.{blocks, blocks_at, end_of}
use Rattle.t2_read_segments.specs.Reading.{reading}
use Rattle.t2_read_block_parts.specs.Blocks.{next_blocks}
use Rattle.t2_read_block_parts.proofs.Laws.Kept.{Keeps}
use Rattle.t2_read_bands.specs.Bands.{BandsFit}
use Rattle.t2_read_bands.proofs.read_bands.Given as goal

abbrev pub invariant-loop-i : goal.invariant-loop-i
invariant-loop-i l =
    (Keeps l.src l.start l.initial.words (reading l.words l.reports l.records l.run))
    × (length l.words ≡ length l.initial.words)
    × (length l.reports ≡ length l.initial.reports)
    × (length l.records ≡ length l.initial.records)
    × (l.i ≤ l.n)
    × (l.run.refusal ≡ 0)
    × (l.block ≤ 4096 * l.i)
    × (end_of l.start (drop l.i (take l.n l.bands)) ≤ length l.initial.words)
    × (BandsFit l.initial.words l.start (drop l.i (take l.n l.bands)))
    × (next_blocks l.src l.layer l.block (blocks_at l.start (drop l.i (take l.n l.bands))) (reading l.words l.reports l.records l.run)
    ≡ next_blocks l.src l.layer 0 (blocks (take l.n l.bands)) (reading l.initial.words l.initial.reports l.initial.records l.initial.run))
