use native.Mathlib.Omega.{arith}
use Rattle.t800.specs.Segments.{width}
use Rattle.t2_segments.proofs.field_width.Goals as goal

pub returns : goal.returns
unfolding width
returns c = omega (arith, c.from.ensures, c.opj_uint_floorlog2.ensures)
