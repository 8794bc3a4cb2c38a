use Prim.Native.Nat.{◌-◌, ◌*◌, ◌≤◌}
use lib.ListN.{length}
use mathlib.Core.Path.{◌≡◌}
use Rattle.t800.specs.Gathered.{states_in}
use Rattle.tcd_states.specs.States.{start_of}
use Rattle.tcd_states.proofs.Laws.Index.{FilledTo}
use Rattle.tcd_states.proofs.index_states.Given as goal

abbrev pub invariant-loop-i : goal.invariant-loop-i
invariant-loop-i l = (l.i ≤ 256) × (length l.starts ≡ 256)
    × (l.at ≡ start_of (states_in l.states) (l.i * l.stride)) × FilledTo (states_in l.states) l.stride l.i l.starts

abbrev pub decreases-loop-i : goal.decreases-loop-i
decreases-loop-i l = 256 - l.i
