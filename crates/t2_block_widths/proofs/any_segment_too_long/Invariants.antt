use Prim.Native.Nat.{◌^◌}
use lib.Dec.{leb}
use Rattle.t2_block_widths.proofs.any_segment_too_long.Given as goal

abbrev pub ghost-any_segment : goal.ghost-any_segment
ghost-any_segment a = λ s. leb (2 ^ 31) s.bytes
