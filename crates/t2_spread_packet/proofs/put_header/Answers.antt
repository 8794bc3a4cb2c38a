use mathlib.Core.Path.{refl}
use Rattle.t2_spread_packet.proofs.Laws.Putting.{part_long, header_put}
use Rattle.t2_spread_packet.proofs.put_header.Goals as goal

pub returns : goal.returns
returns c =
    let k = c.seek-here in
    let s = c in
    let a = s.args in
    header_put a.segments.now a.from a.n s.requires.2 a.row.now a.at _ _ _ k.result s.requires.3 refl
    (part_long a.row.now a.at a.n s.requires.3) c.copy_headers.ensures k.ensures
