use mathlib.Core.Path.{sym}
use Prim.Native.Nat.{◌+◌}
use native.Mathlib.Omega.{arith}
use borrow.Author.Tests.{lt-leb}
use Rattle.t2_write_packet.proofs.Laws.Front.{room_after}
use Rattle.t2_write_packet.proofs.has_room.Goals as goal

pub returns-then-bytes-front : goal.returns-then-bytes-front
returns-then-bytes-front c = let a = c.args in sym (lt-leb (a.front + a.body) a.bytes (omega (arith, c.if-bytes-front.true)))

pub returns : goal.returns
returns c = let a = c.args in room_after a.bytes a.front a.body c.if-bytes-front.false
