use mathlib.Core.Path.{◌≡◌}
use Prim.Native.Nat.{◌+◌, ◌-◌, ◌*◌, ◌≤◌}
use lib.ListN.{length, take, drop}
use lib.Seq.{sets}
use Rattle.t800.specs.Start.{band_words}
use Rattle.t2_start_parts.proofs.put_bands.Given as goal

abbrev pub invariant-loop-i : goal.invariant-loop-i
invariant-loop-i l = (length l.state ≡ length l.initial.state)
    × (sets l.state (4 + 3 * l.i) (band_words (drop l.i (take l.n l.bands)) (3 - l.i)) ≡ sets l.initial.state 4 (band_words (take l.n l.bands) 3))
