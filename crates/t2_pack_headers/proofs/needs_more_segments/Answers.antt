use Rattle.t2_pack_headers.proofs.Laws.Steps.{more_than_all}
use Rattle.t2_pack_headers.proofs.needs_more_segments.Goals as goal

pub returns : goal.returns
returns c = more_than_all c.args.count
