use Rattle.std.proofs.Common.{◌≡◌, ◌+◌, ◌*◌, ◌≤◌, ◌<◌, ℕ, List, length, take, drop, get_or, refl, sym, ap, ◌∙◌, arith, drop_of_length-le, rules}
use Rattle.std.proofs.lemmas.List.Edits.{sets}
use Rattle.t800.specs.declared.Band.{Band}
use Rattle.t800.specs.State.{band_length, band_nodes, blocks_in, end_of, state_length}
use Rattle.t800.specs.Start.{fresh_bands, fresh_bands_with}
use Rattle.t800_laws.proofs.Laws.Layout.{band_length_lem}
use Rattle.tcd_laws.specs.Geometry.{no_band}
use Rattle.tcd_laws.proofs.Laws.Bands.{sides_of}
use Rattle.t2_start_parts.proofs.Laws.FreshParts.{own_turn}
use Rattle.t2_start_planes.proofs.Laws.BlockRows.{band_then, band_ends, band_within}
use Rattle.t2_start_parts.proofs.fresh_bands.Goals as goal

words : (nodes blocks : ℕ) (b : Band) → nodes ≡ band_nodes b → blocks ≡ blocks_in b → 6 * nodes + 4 * blocks ≡ band_length b
words nodes blocks b n m = omega (arith, band_length_lem b)

pub loop-band-init : goal.loop-band-init
unfolding state_length
loop-band-init c = record { same = refl; total = sym c.requires.2; rest = refl }

pub band_nodes-nodes-requires : goal.band_nodes-nodes-requires
band_nodes-nodes-requires c = sides_of (take c.args.n c.args.bands) c.loop-band.band-index c.loop-band-test.true c.requires.1

pub fresh_band-requires : goal.fresh_band-requires
fresh_band-requires c =
    let l = c.loop-band in
    let e = band_within (take c.args.n c.args.bands) l.band-index c.loop-band-test.true l.at _ l.invariant.total in
    omega (arith, e, words _ _ _ c.band_nodes-nodes.ensures c.band_blocks-blocks.ensures, l.invariant.same)

-- the others fit since this does
pub overflow_add-at : goal.overflow_add-at
overflow_add-at c =
    let l = c.loop-band in
    let e = band_within (take c.args.n c.args.bands) l.band-index c.loop-band-test.true l.at _ l.invariant.total in
    let f : length c.args.state.now < 0x1_0000_0000_0000_0000 = search rules in
    omega (arith, e, f, words _ _ _ c.band_nodes-nodes.ensures c.band_blocks-blocks.ensures)

pub overflow_mul-words : goal.overflow_mul-words
overflow_mul-words c = omega (arith, overflow_add-at c)

pub overflow_mul-words-in-loop-band : goal.overflow_mul-words-in-loop-band
overflow_mul-words-in-loop-band c = omega (arith, overflow_add-at c)

pub overflow_add-words : goal.overflow_add-words
overflow_add-words c = omega (arith, overflow_add-at c)

pub loop-band-preserved : goal.loop-band-preserved
loop-band-preserved c =
    let l = c.loop-band in
    let bs : List Band = take c.args.n c.args.bands in
    let rest : List Band = drop (l.band-index + 1) bs in
    record {
      same = c.fresh_band.auto.state ∙ l.invariant.same;
      total = ap (λ (z : ℕ). end_of (l.at + z) rest) (words _ _ _ c.band_nodes-nodes.ensures c.band_blocks-blocks.ensures)
          ∙ band_ends bs l.band-index c.loop-band-test.true l.at ∙ l.invariant.total;
      rest = ap (λ (z : List ℕ). sets z
          (l.at + (6 * c.band_nodes-nodes.result + 4 * c.band_blocks-blocks.result)) (fresh_bands rest)) c.fresh_band.ensures
          ∙ own_turn l.state _ _ rest l.at _ _ (band_then bs l.band-index c.loop-band-test.true)
          c.band_nodes-nodes.ensures c.band_blocks-blocks.ensures
          ∙ l.invariant.rest;
    }

pub shape_of-state : goal.shape_of-state
shape_of-state c = c.loop-band.invariant.same

pub returns : goal.returns
unfolding fresh_bands_with
returns c =
    let l = c.loop-band in
    rw (drop_of_length-le (take c.args.n c.args.bands) {i = l.band-index} c.loop-band-test.false) at l.invariant.rest
