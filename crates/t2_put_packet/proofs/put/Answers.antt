use Prim.Native.Nat.{◌+◌, ◌≤◌}
use mathlib.Core.Bool.{not}
use mathlib.Core.Path.{ap}
use native.Mathlib.Omega.{arith}
use lib.ListN.{length}
use Rattle.t800.specs.WriteHeader.{contribution}
use Rattle.t2_put_packet.proofs.Laws.Put.{room_left, put_without_room, put_done}
use Rattle.t2_put_packet.proofs.put.Goals as goal

pub returns-then-not-has_room : goal.returns-then-not-has_room
returns-then-not-has_room c =
    let a = c.args in
    let p = contribution a.counts.now a.lengths.now a.marks.now in
    let k = c.put_front-end in
    put_without_room a.state.now p a.body.now a.markers a.number a.output.now _ k.ensures _
    c.has_room.ensures (ap not c.if-not-has_room.true) k.auto.output

pub put_body-requires : goal.put_body-requires
put_body-requires c = room_left _ _ _ c.has_room.ensures c.if-not-has_room.false

pub returns : goal.returns
returns c =
    let a = c.args in
    let p = contribution a.counts.now a.lengths.now a.marks.now in
    let k = c.put_front-end in
    let room : k.result + length a.body.now ≤ length k.new.output =
    room_left _ _ _ c.has_room.ensures c.if-not-has_room.false in
    put_done a.state.now p a.body.now a.markers a.number a.output.now _ k.ensures _
    (omega (arith, room, k.auto.output)) c.put_body.ensures
