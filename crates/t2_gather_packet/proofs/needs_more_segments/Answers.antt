use Rattle.t2_gather_packet.proofs.Laws.Sizes.{header_too_long}
use Rattle.t2_gather_packet.proofs.needs_more_segments.Goals as goal

pub returns-then-p-gt-MOST_OF_ALL : goal.returns-then-p-gt-MOST_OF_ALL
returns-then-p-gt-MOST_OF_ALL c = let a = c.args in header_too_long a.g.headers a.p.header c.if-p-gt-MOST_OF_ALL.true
