use Rattle.std.proofs.Common.{List, ltb, rules, take, tests}
use Rattle.std.proofs.lemmas.Iterator.{YieldsList-from_slice}
use Rattle.std.proofs.lemmas.Iterator.Search.{any_from_yields_List}
use Rattle.t800.specs.Ranges.{band_too_deep}
use Rattle.t800.specs.declared.Band.{Band}
use Rattle.tcd_laws.proofs.Laws.AnyOf.{any_is_list_any}
use Rattle.tcd_shape.proofs.band_too_deep.Goals as goal

pub returns : goal.returns
unfolding band_too_deep
returns c =
    let bs : List Band = take c.args.n c.args.bands in
    rw (any_is_list_any (λ (b : Band). ltb 998 b.planes) bs)
    (any_from_yields_List (λ (b : Band). ltb 998 b.planes) _ _ _ c.any.ensures.ran (YieldsList-from_slice bs cc)
    (λ x b q k. search (rules, tests)))
