use Rattle.std.proofs.Common.{rules, ◌≡◌, length}
use Rattle.tcd_laws.proofs.Laws.Bands.{levels-of_three}
use Rattle.tcd_levels.proofs.band_levels.Goals as goal

pub returns : goal.returns
returns c =
    let g : length c.args.bands ≡ 3 = search rules in
    levels-of_three c.args.bands _ _ _ g c.levels.ensures c.levels-2.ensures c.levels-3.ensures
