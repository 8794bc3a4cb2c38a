use mathlib.Core.Path.{◌≡◌}
use Prim.Native.Nat.{◌+◌, ◌-◌}
use native.Mathlib.Omega.{arith}
use lib.ListN.{get_or}
use Rattle.tcd_places.specs.Places.{block_in}
use Rattle.t2_write_block.specs.Runs.{running}
use Rattle.t2_write_block.proofs.Laws.Rows.{next_is}
use Rattle.t2_write_block.proofs.code_next.Goals as goal

pub returns : goal.returns
returns c =
    let s = c in
    let n = get_or s.args.by.now.counts.now s.args.r.block 0 in
    let e : s.args.r.pass + n - s.args.r.pass ≡ n = omega arith in
    next_is s.args.by.now.layer _ s.args.by.now.counts.now s.args.by.now.lengths.now s.args.by.now.marks.now
    (block_in s.args.p s.args.row.now 0) (running s.args.words.now s.args.out.now s.args.r) _ e
    c.code_block-bio.ensures
