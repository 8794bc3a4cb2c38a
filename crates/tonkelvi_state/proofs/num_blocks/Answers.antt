use mathlib.Core.Path.{sym, ap, ◌∙◌, subst}
use mathlib.Core.List.{List}
use Prim.Native.Nat.{ℕ, ◌≤◌}
use lib.ListN.{length}
use Rattle.t800.specs.declared.Band.{Band}
use Rattle.t800.specs.State.{blocks}
use Rattle.tcd_laws.specs.Geometry.{AllUpTo64}
use Rattle.tcd_laws.proofs.Laws.FirstWords.{first_bands}
use Rattle.tonkelvi_state.proofs.Laws.States.{any_known}
use Rattle.tonkelvi_state.proofs.num_blocks.Goals as goal

pub bands_of-bands-requires : goal.bands_of-bands-requires
bands_of-bands-requires c = (any_known c.args.state.now c.requires).0

pub num_blocks-requires : goal.num_blocks-requires
num_blocks-requires c =
    let ws = c.args.state.now in
    let k = any_known ws c.requires in
    let e = c.word-n.ensures in
    (subst (λ (n : ℕ). n ≤ 3) (sym e) k.1, subst AllUpTo64 (sym (first_bands ws _ _ e c.bands_of-bands.ensures)) k.2)

pub returns : goal.returns
returns c =
    let ws = c.args.state.now in
    c.num_blocks.ensures
    ∙ ap (λ (bs : List Band). length (blocks bs)) (first_bands ws _ _ c.word-n.ensures c.bands_of-bands.ensures)
