use mathlib.Core.Path.{sym, ap}
use native.Mathlib.Omega.{arith}
use lib.ListN.{length-take, length-drop}
use lib.Seq.{length-take-le}
use Rattle.t2_write_packet.specs.Front.{BytesPut, bytes_put}
use Rattle.std.proofs.Common.{Ok}
use Rattle.t2_skip_packet.specs.Parts.{skipped}
use Rattle.t2_gather_packet.proofs.Laws.Moving.{parts_put}
use Rattle.t2_gather_packet.proofs.put_bodies.Goals as goal

pub slice_bounds-put_body-end : goal.slice_bounds-put_body-end
slice_bounds-put_body-end c = let a = c.args in sym (length-take-le a.p.sop a.row.now (omega arith))

pub put_body-end-requires : goal.put_body-end-requires
put_body-end-requires c = simp length-take (omega arith)

pub put_body-requires : goal.put_body-requires
put_body-requires c =
    let a = c.args in
    let end = ap (λ (k : BytesPut). k.end) c.put_body-end.ensures in
    simp (length-take, length-drop)
    (omega (arith, end, length-take a.p.sop a.row.now, c.put_body-end.auto.out))

pub returns : goal.returns
returns c =
    let r = c in
    let a = r.args in
    parts_put a.bodies.now a.row.now a.at (skipped (Ok a.p)) _ (bytes_put _ c.put_body.result) r.put_body-end.ensures
    c.put_body.ensures
