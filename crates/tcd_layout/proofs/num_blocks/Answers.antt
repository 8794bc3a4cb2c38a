use Rattle.std.proofs.Common.{List, arith, get_or, length-take, map, take}
use Rattle.std.proofs.lemmas.List.{at_drop_all, at_drop_more}
use Rattle.t800.specs.Base.{sum}
use Rattle.t800.specs.State.{blocks_in}
use Rattle.t800.specs.declared.Band.{Band}
use Rattle.tcd_laws.proofs.Laws.Bands.{blocks-up_to_4096, length-blocks, sides_of}
use Rattle.tcd_laws.specs.Geometry.{no_band}
use Rattle.tcd_layout.proofs.num_blocks.Goals as goal

pub overflow_add-total : goal.overflow_add-total
overflow_add-total c =
    let bs : List Band = take c.args.n c.args.bands in
    let i = c.loop-band.band-index in
    let m = blocks-up_to_4096 (get_or bs i no_band) (sides_of bs i c.loop-band-test.true c.requires.1) in
    omega (arith, c.band_blocks-total.ensures, length-take c.args.n c.args.bands)

pub loop-band-preserved : goal.loop-band-preserved
unfolding sum
loop-band-preserved c =
    let bs : List Band = take c.args.n c.args.bands in
    let l = c.loop-band in
    let i = l.band-index in
    let m = blocks-up_to_4096 (get_or bs i no_band) (sides_of bs i c.loop-band-test.true c.requires.1) in
    let e = at_drop_more (λ (ks : List Band). sum (map blocks_in ks)) bs i no_band c.loop-band-test.true in
    omega (arith, c.band_blocks-total.ensures, l.invariant.1)

pub returns : goal.returns
unfolding sum
returns c =
    let bs : List Band = take c.args.n c.args.bands in
    let l = c.loop-band in
    let e = at_drop_all (λ (ks : List Band). sum (map blocks_in ks)) bs l.band-index c.loop-band-test.false in
    omega (arith, l.invariant.1, length-blocks bs)
