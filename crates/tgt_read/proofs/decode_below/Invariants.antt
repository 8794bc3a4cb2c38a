use mathlib.Core.Path.{◌≡◌}
use mathlib.Core.List.{reverse}
use Prim.Native.Nat.{◌≤◌}
use lib.ListN.{take}
use Rattle.t800.specs.TagTree.{read_path}
use Rattle.tgt.specs.Path.{nodes_over}
use Rattle.tgt_read.proofs.decode_below.Given as goal

-- The invariant: the nodes that are left, read into the present words, give the whole.
abbrev pub invariant-loop-i : goal.invariant-loop-i
invariant-loop-i l = (l.bio.ct ≤ 8)
    × (read_path l.src l.base l.threshold (reverse (nodes_over (take l.i l.row) l.x)) l.low l.words l.bio
    ≡ read_path l.src l.base l.threshold (reverse (nodes_over (take l.levels l.row) l.x)) l.above l.initial.words l.initial.bio)
