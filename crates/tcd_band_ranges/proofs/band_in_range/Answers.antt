use mathlib.Core.Bool.{false, true}
use mathlib.Core.Path.{◌∙◌, refl, sym}
use Rattle.tcd_band_ranges.proofs.Laws.BandParts.{band_parts}
use Rattle.tcd_band_ranges.proofs.band_in_range.Goals as goal

pub returns-then-not-nodes_in_range : goal.returns-then-not-nodes_in_range
returns-then-not-nodes_in_range c =
    let s = c.args in
    band_parts s.state.now s.at s.band _ _ _ _ false _ _ c.requires.0 refl refl refl
    (sym c.if-not-nodes_in_range.true ∙ c.nodes_in_range.ensures) refl refl

pub returns-then-not-nodes_in_range-2 : goal.returns-then-not-nodes_in_range-2
returns-then-not-nodes_in_range-2 c =
    let incl = c in
    let s = incl.args in
    let t = sym c.if-not-nodes_in_range.false ∙ incl.nodes_in_range.ensures in
    let u = sym c.if-not-nodes_in_range-2.true ∙ c.nodes_in_range-2.ensures in
    band_parts s.state.now s.at s.band _ _ _ _ true false _ incl.requires.0 refl refl refl t u refl

pub returns : goal.returns
returns c =
    let incl = c in
    let s = incl.args in
    let t = sym c.if-not-nodes_in_range.false ∙ incl.nodes_in_range.ensures in
    let u = sym c.if-not-nodes_in_range-2.false ∙ c.nodes_in_range-2.ensures in
    band_parts s.state.now s.at s.band _ _ _ _ true true _ incl.requires.0 refl refl
    c.band_blocks.ensures t u c.blocks_in_range.ensures
