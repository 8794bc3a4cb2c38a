use mathlib.Core.Path.{◌≡◌}
use lib.ListN.{length}
use Rattle.t800.specs.Segments.{comma_bits}
use Rattle.bio_bytes.specs.Writing.{output, put_bits, FreeBitsClear}
use Rattle.t2_write_codes.proofs.opj_t2_putcommacode.Given as goal

-- The invariant: what is left to put, after what is there, is the whole.
abbrev pub invariant-loop-left : goal.invariant-loop-left
invariant-loop-left l =
    (FreeBitsClear l.bio) × (length l.out ≡ length l.initial.out)
    × (put_bits (output l.out l.bio) (comma_bits l.left) ≡ put_bits (output l.initial.out l.initial.bio) (comma_bits l.n))

abbrev pub decreases-loop-left : goal.decreases-loop-left
decreases-loop-left l = l.left
