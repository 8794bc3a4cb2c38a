use mathlib.Core.Path.{◌∙◌, ap}
use mathlib.Core.List.{List}
use Prim.Native.Nat.{ℕ, ◌+◌, ◌*◌}
use lib.Seq.{sets}
use Rattle.t800.specs.State.{not_yet_planes}
use Rattle.t800.specs.Start.{fresh_nodes, fresh_blocks}
use Rattle.t2_start_parts.proofs.Laws.FreshParts.{own_set}
use Rattle.t2_start_parts.proofs.fresh_band.Goals as goal

pub returns : goal.returns
returns c =
    let s = c.args in
    let n : ℕ = s.nodes in
    c.zero_blocks.ensures
    ∙ ap (λ (z : List ℕ). sets z (s.at + 3 * n + 3 * n) (fresh_blocks s.blocks))
    c.opj_tgt_reset-2.ensures
    ∙ ap (λ (z : List ℕ). sets (sets z (s.at + 3 * n) (fresh_nodes not_yet_planes n)) (s.at + 3 * n + 3 * n)
    (fresh_blocks s.blocks))
    c.opj_tgt_reset.ensures
    ∙ own_set s.state.now s.at n s.blocks
