use Prim.Native.Nat.{◌-◌, ◌≤◌}
use mathlib.Core.Path.{◌≡◌}
use lib.ListN.{length}
use Rattle.t800.specs.PackedHeaders.{unpacked}
use Rattle.t2_unpack_headers.specs.Windows.{window_of}
use Rattle.t2_unpack_headers.proofs.Laws.Copies.{Copying}
use Rattle.t2_unpack_headers.proofs.copy_pieces.Given as goal

abbrev pub invariant-loop-done : goal.invariant-loop-done
invariant-loop-done l =
    (l.done ≤ length l.to)
    × (length l.to ≡ length l.initial.to)
    × (Copying l.segments l.at l.skip l.to l.done (window_of (unpacked l.segments).bytes l.from (length l.initial.to)))

abbrev pub decreases-loop-done : goal.decreases-loop-done
decreases-loop-done l = length l.segments - l.at
