use Rattle.std.proofs.Common.{◌∙◌, List, sym, take, true, false}
use Rattle.std.proofs.lemmas.List.{at_drop_all, drop_more}
use Rattle.t800.specs.declared.Band.{Band}
use Rattle.tcd_laws.specs.Geometry.{no_band}
use Rattle.tcd_laws.proofs.Laws.BlockPlanes.{deep_is, deep_turn, deep_from}
use Rattle.tcd_shape.proofs.block_too_deep.Goals as goal

pub loop-band-init : goal.loop-band-init
loop-band-init c = deep_is (take c.args.n c.args.bands) c.args.planes.now

pub returns-then-any_over : goal.returns-then-any_over
returns-then-any_over c =
    let l = c.loop-band in
    let bs : List Band = take c.args.n c.args.bands in
    let n = rw c.band_blocks.ensures at c.min-size.ensures in
    let t = rw c.split_at.ensures.front at c.any_over.ensures in
    sym (deep_turn _ _ _ l.rest.now _ true (drop_more bs l.band-index no_band c.loop-band-test.true) n (sym c.if-any_over.true ∙ t)) ∙ l.invariant

pub loop-band-preserved : goal.loop-band-preserved
loop-band-preserved c =
    let l = c.loop-band in
    let bs : List Band = take c.args.n c.args.bands in
    let n = rw c.band_blocks.ensures at c.min-size.ensures in
    let t = rw c.split_at.ensures.front at c.any_over.ensures in
    rw c.split_at.ensures.back
    (sym (deep_turn _ _ _ l.rest.now _ false (drop_more bs l.band-index no_band c.loop-band-test.true) n (sym c.if-any_over.false ∙ t)) ∙ l.invariant)

pub returns : goal.returns
unfolding deep_from
returns c = let l = c.loop-band in
    sym (at_drop_all (λ (bs : List Band). deep_from bs l.rest.now) (take c.args.n c.args.bands) l.band-index c.loop-band-test.false) ∙ l.invariant
