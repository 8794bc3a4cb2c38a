use mathlib.Core.Path.{◌≡◌}
use mathlib.Core.Bool.{false}
use Prim.Native.Nat.{◌-◌, ◌≤◌}
use lib.ListN.{length, drop}
use Rattle.t800.specs.Segments.{segments_of, length_fields}
use Rattle.bio_bytes.specs.Writing.{output, put_bits, FreeBitsClear}
use Rattle.t2_segments.specs.Segments.{any_too_long, any_too_wide}
use Rattle.t2_write_lengths.proofs.code_lengths.Given as goal

abbrev pub invariant-loop-i : goal.invariant-loop-i
invariant-loop-i l =
    (FreeBitsClear l.bio)
    × (length l.out ≡ length l.initial.out)
    × (l.i ≤ length l.lengths)
    × (any_too_long (segments_of (drop l.i l.lengths) (drop l.i l.marks)) ≡ false)
    × (any_too_wide l.lenbits (segments_of (drop l.i l.lengths) (drop l.i l.marks)) ≡ false)
    × (put_bits (output l.out l.bio) (length_fields l.lenbits (segments_of (drop l.i l.lengths) (drop l.i l.marks)))
    ≡ put_bits (output l.initial.out l.initial.bio) (length_fields l.lenbits (segments_of l.lengths l.marks)))

abbrev pub decreases-loop-i : goal.decreases-loop-i
decreases-loop-i l = length l.lengths - l.i
