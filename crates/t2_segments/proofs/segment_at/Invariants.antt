use Prim.Native.Nat.{◌+◌, ◌*◌, ◌≤◌}
use lib.ListN.{drop}
use mathlib.Core.Path.{◌≡◌}
use Rattle.t2_segments.specs.Segments.{first_from, first_segment}
use Rattle.t2_segments.proofs.segment_at.Given as goal

abbrev pub invariant-loop-i : goal.invariant-loop-i
invariant-loop-i l = (l.at + l.passes ≡ l.i) × (l.bytes ≤ 4294967295 * l.passes)
    × (first_from l.passes l.bytes (drop l.i l.lengths) (drop l.i l.marks) ≡ first_segment (drop l.at l.lengths) (drop l.at l.marks))
