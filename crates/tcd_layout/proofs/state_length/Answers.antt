use Rattle.std.proofs.Common.{◌∙◌, List, arith, get_or, length-take, sym, take}
use Rattle.std.proofs.lemmas.List.{at_drop_all, at_drop_more}
use Rattle.t800.specs.State.{end_of, state_length}
use Rattle.t800.specs.declared.Band.{Band}
use Rattle.tcd_laws.proofs.Laws.Bands.{band_length_up_to, sides_of}
use Rattle.tcd_laws.specs.Geometry.{no_band}
use Rattle.tcd_layout.proofs.state_length.Goals as goal

pub overflow_add-at : goal.overflow_add-at
overflow_add-at c =
    let bs : List Band = take c.args.n c.args.bands in
    let i = c.loop-band.band-index in
    let m = band_length_up_to (get_or bs i no_band) (sides_of bs i c.loop-band-test.true c.requires.1) in
    omega (arith, c.band_length-at.ensures, length-take c.args.n c.args.bands)

pub loop-band-preserved : goal.loop-band-preserved
unfolding end_of
loop-band-preserved c =
    let bs : List Band = take c.args.n c.args.bands in
    let l = c.loop-band in
    let i = l.band-index in
    let m = band_length_up_to (get_or bs i no_band) (sides_of bs i c.loop-band-test.true c.requires.1) in (
      omega (arith, c.band_length-at.ensures),
      rw c.band_length-at.ensures (sym (at_drop_more (end_of l.at) bs i no_band c.loop-band-test.true) ∙ l.invariant.1),
    )

pub returns : goal.returns
unfolding end_of state_length
returns c =
    let l = c.loop-band in
    sym (at_drop_all (end_of l.at) (take c.args.n c.args.bands) l.band-index c.loop-band-test.false) ∙ l.invariant.1
