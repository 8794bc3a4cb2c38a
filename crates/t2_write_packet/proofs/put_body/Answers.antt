use mathlib.Core.Path.{refl}
use Rattle.t2_write_packet.proofs.Laws.Front.{part_put}
use Rattle.t2_write_packet.proofs.put_body.Goals as goal

pub returns : goal.returns
returns c = let s = c in
    part_put s.args.out.now s.args.at _ s.args.body.now _ s.requires refl c.copy.ensures
