use Rattle.t2_start_parts.proofs.Laws.FreshParts.{blocks-wiped}
use Rattle.t2_start_parts.proofs.zero_blocks.Goals as goal

pub returns : goal.returns
returns c = let s = c.args in
    blocks-wiped s.state.now c.wipe.new.list s.from s.blocks
    c.requires c.wipe.ensures
