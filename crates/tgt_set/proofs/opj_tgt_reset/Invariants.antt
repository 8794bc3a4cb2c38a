use mathlib.Core.Path.{◌≡◌}
use Prim.Native.Nat.{◌+◌, ◌-◌, ◌*◌}
use lib.Seq.{sets}
use Rattle.t800.specs.Start.{fresh_nodes}
use Rattle.tgt_set.proofs.opj_tgt_reset.Given as goal

-- The invariant: the nodes that are left, set in the present words, give the whole.
abbrev pub invariant-loop-i : goal.invariant-loop-i
invariant-loop-i l = sets l.words (l.from + 3 * l.i) (fresh_nodes l.fresh (l.nodes - l.i)) ≡ sets l.initial.words l.from (fresh_nodes l.fresh l.nodes)
