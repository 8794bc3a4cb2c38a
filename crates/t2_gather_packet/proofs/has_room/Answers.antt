use native.Mathlib.Omega.{arith}
use Rattle.t2_gather_packet.proofs.Laws.Sizes.{no_header_room, room_of_both}
use Rattle.t2_gather_packet.proofs.has_room.Goals as goal

pub returns-then-headers_room-bytes : goal.returns-then-headers_room-bytes
returns-then-headers_room-bytes c =
    let a = c.args in
    no_header_room a.headers_room _ a.bodies_room _ (omega (arith, c.packed_length-bytes.ensures))

pub returns : goal.returns
returns c =
    let a = c.args in
    room_of_both a.headers_room _ a.bodies_room a.g.bodies a.p.sop a.p.body
    (omega (arith, c.packed_length-bytes.ensures)) (omega arith)
