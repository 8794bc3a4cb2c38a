-- Where the first bit of a header inside the input ends.
use mathlib.Core.List.{List}
use Prim.Native.Nat.{ℕ, ◌≤◌}
use native.Mathlib.Nat.{le_of_lt}
use native.Mathlib.Omega.{arith}
use lib.ListN.{length}
use Rattle.t800.specs.Bits.{bio_at, get_bit}
use Rattle.bits_taken.proofs.Laws.Taken.{takes_one, bit_few}
use Rattle.bits_taken.proofs.Laws.Reached.{first_reached}
use Rattle.bits_taken.proofs.Laws.Counting.{header_in_reach}
use Rattle.t2_read_segments.specs.Reading.{BitsIn}

pub first_in_lem : (src : List ℕ) (start : ℕ) → start ≤ length src → BitsIn src (get_bit src (bio_at start)).bio
first_in_lem src start inside =
    let r = first_reached src start (get_bit src (bio_at start)).bio inside (takes_one src (bio_at start)) in
    record { few = omega (arith, bit_few src (bio_at start) (omega arith)); place = le_of_lt (header_in_reach src start _ r) }
