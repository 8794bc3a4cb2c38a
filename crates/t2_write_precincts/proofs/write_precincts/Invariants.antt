use mathlib.Core.Path.{◌≡◌}
use mathlib.Core.List.{List}
use Prim.Native.Nat.{ℕ, ◌+◌}
use lib.ListN.{length}
use Rattle.t800.specs.declared.Markers.{Markers}
use Rattle.t800.specs.WriteHeader.{contribution}
use Rattle.t800.specs.Layer.{LayerCall}
use Rattle.t2_write_precincts.proofs.Laws.Along.{Along}
use Rattle.t2_write_precincts.proofs.write_precincts.Given as goal

abbrev pub call : (numbers scratch counts lengths marks bodies : List ℕ) → Markers → (output : List ℕ) → LayerCall
call numbers scratch counts lengths marks bodies m output = record {
  scratch = scratch;
  contribution = contribution counts lengths marks;
  bodies = bodies;
  markers = m;
  numbers = numbers;
  output = output;
}

abbrev pub invariant-loop-i : goal.invariant-loop-i
invariant-loop-i l =
    (l.last + 1 ≡ length l.numbers)
    × Along l.states (call l.numbers l.initial.scratch l.counts l.lengths l.marks l.bodies l.markers l.initial.output) l.i l.word l.block l.pass l.byte l.end l.scratch l.output l.words
    l.passes
