use Prim.Native.Nat.{ℕ, ◌+◌, ◌-◌, ◌*◌}
use mathlib.Core.Path.{ap}
use native.Mathlib.Omega.{arith}
use Rattle.t800.specs.PackedHeaders.{most_bytes, segments_for}
use Rattle.t2_pack_headers.specs.declared.Place.{Place}
use Rattle.t2_pack_headers.proofs.place_of.Goals as goal

place : (count segments : ℕ) → Place
place count segments = record { count = count; at = count + 5 * segments; left = segments * most_bytes - count }

pub overflow_mul-result : goal.overflow_mul-result
unfolding segments_for
overflow_mul-result c = omega arith

pub overflow_add-result : goal.overflow_add-result
unfolding segments_for
overflow_add-result c = omega arith

pub overflow_mul-result-2 : goal.overflow_mul-result-2
unfolding segments_for
overflow_mul-result-2 c = omega arith

pub overflow_sub-result : goal.overflow_sub-result
unfolding segments_for
overflow_sub-result c = omega arith

pub returns : goal.returns
unfolding place
returns c = ap (place c.args.count) c.segments_for-segments.ensures
