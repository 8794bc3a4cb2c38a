use mathlib.Core.Path.{◌≡◌}
use Prim.Native.Nat.{◌+◌, ◌-◌, ◌≤◌}
use Rattle.t800.specs.ReadHeader.{read_zero_planes_from}
use Rattle.t800.specs.State.{not_yet_planes}
use Rattle.tgt_read.specs.Reading.{leaf_of}
use Rattle.tgt_read_value.proofs.raise.Given as goal

-- The invariant: raising the threshold on from here gives the whole.
abbrev pub invariant-loop-threshold : goal.invariant-loop-threshold
invariant-loop-threshold l = (l.bio.ct ≤ 8)
    × (read_zero_planes_from l.src (leaf_of l.base l.row l.depth l.x) (not_yet_planes + 2 - l.threshold) l.threshold l.words l.bio
    ≡ read_zero_planes_from l.src (leaf_of l.base l.row l.depth l.x) (not_yet_planes + 2) 0 l.initial.words l.initial.bio)
