use mathlib.Core.Path.{◌≡◌}
use Prim.Native.Nat.{◌-◌, ◌*◌}
use lib.ListN.{length, replicate}
use Rattle.bio_bytes.specs.Writing.{output, put_bits, FreeBitsClear}
use Rattle.tgt_write.proofs.zeros.Given as goal

-- The invariant: the zeros that are left, put into the present output, give the whole.
abbrev pub invariant-loop-bio : goal.invariant-loop-bio
invariant-loop-bio l = (FreeBitsClear l.bio) × (length l.out ≡ length l.initial.out)
    × (put_bits (output l.out l.bio) (replicate l.left 0) ≡ put_bits (output l.initial.out l.initial.bio) (replicate l.n 0))

abbrev pub decreases-loop-bio : goal.decreases-loop-bio
decreases-loop-bio l = 9 * l.left - l.bio.ct
