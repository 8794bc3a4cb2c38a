use Prim.Native.Nat.{◌+◌, ◌*◌, ◌≤◌}
use lib.ListN.{drop}
use mathlib.Core.Path.{◌≡◌}
use Rattle.t800.specs.Base.{sum}
use Rattle.t2_narrow.proofs.total.Given as goal

abbrev pub invariant-loop-one : goal.invariant-loop-one
invariant-loop-one l = (l.all ≤ 4294967295 * l.one-index) × (l.all + sum (drop l.one-index l.list) ≡ sum l.list)
