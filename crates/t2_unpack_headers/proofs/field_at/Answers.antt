use Prim.Native.Nat.{◌+◌}
use native.Mathlib.Omega.{arith}
use Rattle.t2_unpack_headers.proofs.field_at.Goals as goal

pub overflow_mul-result : goal.overflow_mul-result
overflow_mul-result c =
    let at = c.args.at in
    omega (arith, c.shared_slice_known-3-1.given (at + 2))

pub overflow_add-result : goal.overflow_add-result
overflow_add-result c =
    let at = c.args.at in
    let known = c.shared_slice_known-3-1.given in
    omega (arith, known (at + 2), known (at + 3))

pub returns : goal.returns
returns c =
    let at = c.args.at in
    let known = c.shared_slice_known-3-1.given in
    omega (arith, known (at + 2), known (at + 3))
