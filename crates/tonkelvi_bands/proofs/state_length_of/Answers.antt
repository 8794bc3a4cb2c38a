use mathlib.Core.Path.{◌∙◌, sym}
use Rattle.tcd_laws.proofs.Laws.Bands.{shape_not_refused}
use Rattle.tonkelvi_bands.proofs.Laws.Bands.{length-unlisted, length-refused, length-given}
use Rattle.tonkelvi_bands.proofs.state_length_of.Goals as goal

pub returns-then-bands-ne9 : goal.returns-then-bands-ne9
returns-then-bands-ne9 c = let s = c.args in length-unlisted s.count s.bands.now c.if-bands-ne9.true

pub returns-then-bad_shape : goal.returns-then-bad_shape
returns-then-bad_shape c =
    let s = c.args in
    length-refused s.count s.bands.now c.if-bands-ne9.false _ c.bands_in-given.ensures
    (sym c.bad_shape.ensures ∙ c.if-bad_shape.true)

pub state_length-requires : goal.state_length-requires
state_length-requires c =
    let h = shape_not_refused c.args.count c.bands_in-given.result
    (sym c.bad_shape.ensures ∙ c.if-bad_shape.false) in
    (h.1, h.2)

pub returns : goal.returns
returns c =
    let s = c.args in
    c.state_length.ensures
    ∙ length-given s.count s.bands.now c.if-bands-ne9.false _
    c.bands_in-given.ensures
    (sym c.bad_shape.ensures ∙ c.if-bad_shape.false)
