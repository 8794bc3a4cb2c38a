use Rattle.std.proofs.Common.{◌||◌, List, ltb, rules, take, tests}
use Rattle.std.proofs.lemmas.Iterator.{YieldsList-from_slice}
use Rattle.std.proofs.lemmas.Iterator.Search.{any_from_yields_List}
use Rattle.t800.specs.declared.Band.{Band}
use Rattle.tcd_laws.proofs.Laws.AnyOf.{any_is_list_any}
use Rattle.tcd_shape.proofs.any_side_over_64.Goals as goal

pub returns : goal.returns
returns c =
    let bs : List Band = take c.args.n c.args.bands in
    rw (any_is_list_any (λ (b : Band). ltb 64 b.across || ltb 64 b.down) bs)
    (any_from_yields_List (λ (b : Band). ltb 64 b.across || ltb 64 b.down) _ _ _ c.any.ensures.ran (YieldsList-from_slice bs cc)
    (λ x b q k. search (rules, tests)))
