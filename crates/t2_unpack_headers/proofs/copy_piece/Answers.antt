use mathlib.Core.Path.{refl}
use Rattle.t2_unpack_headers.proofs.Laws.Copies.{piece_put}
use Rattle.t2_unpack_headers.proofs.copy_piece.Goals as goal

pub returns : goal.returns
returns c =
    let s = c.args in
    piece_put s.to.now s.segments.now _ s.from _ s.at _ s.n refl refl c.copy.ensures
