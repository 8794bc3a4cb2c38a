use Prim.Native.Nat.{◌+◌, ◌≤◌}
use lib.ListN.{length}
use native.Mathlib.Omega.{arith}
use Rattle.t2_unpack_headers.proofs.Laws.Looks.{looking_first, looking_next, looked_none, looked_bad, right_segment}
use Rattle.t2_unpack_headers.proofs.unpack.Goals as goal
use Rattle.t2_unpack_headers.proofs.unpack.Goals.{In-Some}

right : (c : In-Some)
    → let l = c.loop-at in
    let size = c.in-Some.size in
    (6 ≤ size) × (l.at + size ≤ length c.args.segments.now)
right c =
    let l = c.loop-at in
    let r = right_segment c.args.segments.now l.index l.at l.bytes l.invariant
    c.loop-at-test.true c.in-Some.size c.in-Some.ensures in
    (r.1, r.2)

pub loop-at-init : goal.loop-at-init
loop-at-init c = looking_first c.args.segments.now

pub size_at-requires : goal.size_at-requires
size_at-requires c = c.loop-at.invariant.within

pub returns-in_default : goal.returns-in_default
returns-in_default c =
    let l = c.loop-at in
    looked_bad c.args.segments.now l.index l.at l.bytes l.invariant
    c.loop-at-test.true c.in_default.ensures

pub overflow_add-bytes : goal.overflow_add-bytes
overflow_add-bytes c = omega (arith, right c, c.loop-at.invariant.fewer)

pub overflow_add-index : goal.overflow_add-index
overflow_add-index c = omega (arith, right c, c.loop-at.invariant.indices)

pub loop-at-preserved : goal.loop-at-preserved
loop-at-preserved c =
    let l = c.loop-at in
    looking_next c.args.segments.now l.index l.at l.bytes l.invariant
    c.loop-at-test.true c.in-Some.size c.in-Some.ensures

pub returns : goal.returns
returns c =
    let l = c.loop-at in
    looked_none c.args.segments.now l.index l.at l.bytes l.invariant c.loop-at-test.false

pub overflow_add-at : goal.overflow_add-at
overflow_add-at c = omega (arith, right c)

pub overflow_sub-bytes : goal.overflow_sub-bytes
overflow_sub-bytes c = omega (arith, right c)

pub loop-at-smaller : goal.loop-at-smaller
loop-at-smaller c = omega (arith, right c)
