use Rattle.t2_unpack_headers.proofs.Laws.Copies.{rest-wiped}
use Rattle.t2_unpack_headers.proofs.copy_headers.Goals as goal

pub returns : goal.returns
returns c =
    let p = c.copy_pieces-done in
    rest-wiped p.new.to _ _ p.result _ p.ensures.within p.auto.to
    c.wipe.ensures p.ensures.all
