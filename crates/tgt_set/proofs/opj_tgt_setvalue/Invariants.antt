use mathlib.Core.Path.{◌≡◌}
use Prim.Native.Nat.{◌/◌, ◌^◌}
use lib.ListN.{take, drop}
use Rattle.t800.specs.TagTree.{set_value}
use Rattle.tgt.specs.Path.{nodes_over}
use Rattle.tgt_set.proofs.opj_tgt_setvalue.Given as goal

-- The invariant: what is left of the path, set in the present words, gives the whole.
abbrev pub invariant-loop-i : goal.invariant-loop-i
invariant-loop-i l = set_value l.base (nodes_over (drop l.i (take l.depth l.row)) (l.x / 2 ^ l.i)) l.value l.words
    ≡ set_value l.base (nodes_over (take l.depth l.row) l.x) l.value l.initial.words
