use native.Mathlib.Omega.{arith}
use Rattle.t800.specs.PackedHeaders.{segments_for}
use Rattle.t2_pack_headers.proofs.packed_length.Goals as goal

pub overflow_mul-result : goal.overflow_mul-result
unfolding segments_for
overflow_mul-result c = omega arith

pub overflow_add-result : goal.overflow_add-result
unfolding segments_for
overflow_add-result c = omega arith
