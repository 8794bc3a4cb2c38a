use mathlib.Core.Path.{◌≡◌}
use Prim.Native.Nat.{◌+◌, ◌-◌, ◌*◌, ◌≤◌}
use Rattle.t800.specs.TagTree.{read_node}
use Rattle.tgt_read.proofs.seek_chunks.Given as goal

-- The invariant: the bits that are left, read from the present place, give the whole.
abbrev pub invariant-loop-from : goal.invariant-loop-from
invariant-loop-from l = (l.bio.ct ≤ 8) × (l.from + l.more ≤ l.value)
    × (read_node l.src l.more l.value l.from l.bio ≡ read_node l.src l.left l.value l.low l.initial.bio)

abbrev pub decreases-loop-from : goal.decreases-loop-from
decreases-loop-from l = 9 * l.more - l.bio.ct
