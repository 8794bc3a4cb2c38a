use Rattle.std.proofs.Common.{◌≡◌, take, replicate}
use Rattle.lists.proofs.wipe.Given as goal

abbrev pub invariant-loop-entry : goal.invariant-loop-entry
invariant-loop-entry g l = take l.entry-index l.entry-items ≡ replicate l.entry-index g.T.Zero.ZERO
