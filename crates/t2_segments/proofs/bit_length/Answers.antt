use native.Mathlib.Omega.{arith}
use Rattle.t800.specs.Segments.{bit_length}
use Rattle.t2_segments.proofs.Laws.Segments.{log_up_to_31}
use Rattle.t2_segments.proofs.bit_length.Goals as goal

pub overflow_add-result : goal.overflow_add-result
overflow_add-result c = omega (arith, c.opj_uint_floorlog2.ensures, log_up_to_31 c.args.bytes c.ranges.bytes.fits)

pub returns : goal.returns
unfolding bit_length
returns c = omega (arith, c.opj_uint_floorlog2.ensures)
