use Rattle.std.proofs.Common.{◌<◌}
use Rattle.listed_calls.proofs.checksum.Given as goal

abbrev pub invariant-loop-item : goal.invariant-loop-item
invariant-loop-item g l = l.sum < 4294967291
