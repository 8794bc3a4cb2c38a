use Rattle.std.proofs.Common.{◌≡◌}
use Rattle.listed_calls.proofs.Reader.number.Given as goal

abbrev pub invariant-loop : goal.invariant-loop
invariant-loop l = l.self.list.now ≡ l.initial.self.list.now
