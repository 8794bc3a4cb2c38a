use lib.ListN.{drop, length, take}
use mathlib.Core.Path.{◌≡◌}
use Prim.Native.Nat.{◌+◌, ◌≤◌}
use Rattle.t800.specs.Base.{sum}
use Rattle.t2_settle_states.specs.Settle.{Settles}
use Rattle.t2_settle_states.proofs.Laws.{settled_to}
use Rattle.t2_settle_states.proofs.settle_states.Given as goal

abbrev pub invariant-loop-i : goal.invariant-loop-i
invariant-loop-i l = (l.wait ≤ l.at) × (l.at ≤ length l.scratch)
    × (l.at + sum (drop l.i (take l.n l.words)) ≡ sum (take l.n l.words))
    × (l.states ≡ settled_to l.wait l.scratch l.initial.states)
    × Settles (drop l.i (take l.n l.words)) (drop l.i (take l.n l.passes)) (drop l.at l.scratch) (drop l.at l.initial.states)
