use mathlib.Core.Path.{refl, sym}
use native.Mathlib.Omega.{arith}
use Rattle.std.proofs.Common.{Ok}
use Rattle.t2_skip_packet.specs.Parts.{skipped}
use Rattle.t2_spread_packet.proofs.Laws.Putting.{sop_long, sop_room, header_room, body_room, packet-put}
use Rattle.t2_spread_packet.proofs.put_packet.Goals as goal

pub slice_bounds-put_body-end : goal.slice_bounds-put_body-end
slice_bounds-put_body-end c =
    let s = c in
    let a = s.args in
    let q = s.requires in
    sym (sop_long a.segments.now a.bodies.now (skipped (Ok a.p)) a.g a.row.now q.3 q.2 q.4)

pub put_body-at-requires : goal.put_body-at-requires
put_body-at-requires c =
    let s = c in
    let a = s.args in
    let q = s.requires in
    sop_room a.segments.now a.bodies.now (skipped (Ok a.p)) a.g a.row.now q.3 q.2 q.4

pub put_header-segment-requires : goal.put_header-segment-requires
put_header-segment-requires c =
    let s = c in
    let a = s.args in
    let q = s.requires in
    let b = c.put_body-at in
    let l = header_room a.segments.now a.bodies.now (skipped (Ok a.p)) a.g a.row.now q.3 q.2 q.4 _ _ b.ensures in
    (q.0, q.1, q.2, omega (arith, b.auto.out))

pub overflow_add-end : goal.overflow_add-end
overflow_add-end c =
    let s = c in
    let a = s.args in
    let q = s.requires in
    let b = c.put_body-at in
    let l = header_room a.segments.now a.bodies.now (skipped (Ok a.p)) a.g a.row.now q.3 q.2 q.4 _ _ b.ensures in
    omega arith

pub put_body-requires : goal.put_body-requires
put_body-requires c =
    let h = c.put_header-segment in
    let s = c in
    let a = s.args in
    let q = s.requires in
    let b = c.put_body-at in
    let l = body_room a.segments.now a.bodies.now (skipped (Ok a.p)) a.g a.row.now q.3 q.2 q.4 _ _ b.ensures
    _ _ h.ensures _ _ refl refl in
    omega (arith, b.auto.out, h.auto.row)

pub returns : goal.returns
returns c =
    let h = c in
    let b = h in
    let s = b in
    let a = s.args in
    let q = s.requires in
    packet-put a.segments.now a.bodies.now (skipped (Ok a.p)) a.g a.row.now q.3 q.2 q.4 _ _ b.put_body-at.ensures
    _ _ h.put_header-segment.ensures _ _ refl refl _ _ c.put_body.ensures
