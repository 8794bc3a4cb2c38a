use mathlib.Core.Path.{◌≡◌}
use mathlib.Core.List.{reverse}
use lib.ListN.{take}
use Rattle.t800.specs.TagTree.{code_path}
use Rattle.bio_bytes.specs.Writing.{output, FreeBitsClear}
use Rattle.tgt.specs.Path.{nodes_over}
use Rattle.tgt_write.specs.Coding.{put_coded}
use Rattle.tgt_write.proofs.opj_tgt_encode.Given as goal

-- The invariant: the nodes that are left, coded in the present words into the
-- present output, give the whole.
abbrev pub invariant-loop-i : goal.invariant-loop-i
invariant-loop-i l = (FreeBitsClear l.bio)
    × (put_coded (output l.out l.bio) (code_path l.base l.threshold (reverse (nodes_over (take l.i l.row) l.x)) l.low l.words)
    ≡ put_coded (output l.initial.out l.initial.bio) (code_path l.base l.threshold (reverse (nodes_over (take l.depth l.row) l.x)) 0 l.initial.words))
