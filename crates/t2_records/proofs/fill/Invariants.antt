use Rattle.std.proofs.Common.{◌≡◌}
use Rattle.t2_records.specs.Segments.{last_of, filled}
use Rattle.t2_records.proofs.fill.Given as goal

abbrev pub invariant-loop-i : goal.invariant-loop-i
invariant-loop-i l = (l.last ≡ last_of l.words l.i) × (l.records ≡ filled l.words l.i l.initial.records)
