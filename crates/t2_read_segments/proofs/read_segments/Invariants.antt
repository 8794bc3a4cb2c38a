use Rattle.std.proofs.Common.{◌≡◌, ℕ, ◌≤◌, length}
use Rattle.tcd_places.specs.Places.{block_at}
use Rattle.t2_read_segments.specs.Reading.{reading, WithAnyReports, next_segments, SegmentFits}
use Rattle.t2_read_segments.proofs.read_segments.Given as goal

abbrev pub invariant-loop-left : goal.invariant-loop-left
invariant-loop-left l =
    (l.run.bio.ct ≤ 8)
    × (length l.words ≡ length l.initial.words)
    × (length l.records ≡ length l.initial.records)
    × (l.left ≤ 164)
    × (SegmentFits l.words l.at)
    × (l.run.refusal ≡ 0)
    × ((f : ℕ) × (l.left ≤ f)
    × WithAnyReports (λ reports. next_segments l.src l.block (block_at l.at) f l.left (reading l.words reports l.records l.run))
    (λ reports. next_segments l.src l.block (block_at l.at) l.passes l.passes (reading l.initial.words reports l.initial.records l.initial.run)))

abbrev pub decreases-loop-left : goal.decreases-loop-left
decreases-loop-left l = l.left
