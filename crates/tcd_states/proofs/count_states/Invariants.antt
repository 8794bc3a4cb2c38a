use Prim.Native.Nat.{◌-◌, ◌≤◌}
use lib.ListN.{drop, length}
use mathlib.Core.Path.{◌≡◌}
use Rattle.t800.specs.Gathered.{states_in}
use Rattle.tcd_states.specs.States.{start_of, any_out_of_range}
use Rattle.tcd_states.proofs.count_states.Given as goal

abbrev pub invariant-loop-at : goal.invariant-loop-at
invariant-loop-at l = (l.at ≡ start_of (states_in l.states) l.count) × (l.count ≤ l.at) × (l.count ≤ length (states_in l.states))
    × (any_out_of_range (drop l.count (states_in l.states)) ≡ any_out_of_range (states_in l.states))

abbrev pub decreases-loop-at : goal.decreases-loop-at
decreases-loop-at l = length l.states - l.at
