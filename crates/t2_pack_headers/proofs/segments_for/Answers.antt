use native.Mathlib.Omega.{arith}
use Rattle.t800.specs.PackedHeaders.{segments_for}
use Rattle.t2_pack_headers.proofs.segments_for.Goals as goal

pub returns : goal.returns
unfolding segments_for
returns c = omega (arith, c.div_ceil.ensures)
