use mathlib.Core.Path.{◌≡◌}
use Prim.Native.Nat.{◌≤◌}
use lib.ListN.{length}
use Rattle.t800.specs.Bits.{bits_of}
use Rattle.bio_bytes.specs.Writing.{output, put_bits, FreeBitsClear}
use Rattle.bio_write.proofs.write_chunks.Given as goal

abbrev pub invariant-loop-left : goal.invariant-loop-left
invariant-loop-left l =
    (FreeBitsClear l.bio) × (length l.out ≡ length l.initial.out) × (l.left ≤ 32)
    × (put_bits (output l.out l.bio) (bits_of l.left l.v) ≡ put_bits (output l.initial.out l.initial.bio) (bits_of l.n l.v))

abbrev pub decreases-loop-left : goal.decreases-loop-left
decreases-loop-left l = l.left
