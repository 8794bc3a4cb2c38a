use mathlib.Core.Path.{sym, ap, ◌∙◌, subst}
use mathlib.Core.List.{List}
use Prim.Native.Nat.{ℕ}
use Rattle.t2_write_block.specs.Runs.{running, code_all, AllFit}
use Rattle.t2_write_bands.specs.Bands.{code_band}
use Rattle.tcd_places.specs.Places.{BandIn, band_blocks}
use Rattle.t2_write_bands.proofs.Laws.AllBands.{band_fits}
use Rattle.t2_write_bands.proofs.code_band.Goals as goal

pub code_blocks-requires : goal.code_blocks-requires
code_blocks-requires c =
    let s = c in
    let a = s.args in
    let g = c.set_new_blocks in
    let f = band_fits a.g.start a.band a.by.now.layer a.by.now.counts.now a.by.now.lengths.now a.by.now.marks.now a.words.now
    a.r.block a.r.block a.r.pass s.requires.5 in (
      s.requires.0,
      subst (λ (k : ℕ). BandIn k a.g.start a.band) (sym g.auto.words) s.requires.1,
      s.requires.2,
      s.requires.3,
      subst (λ (ws : List ℕ). AllFit a.by.now.counts.now a.by.now.lengths.now a.by.now.marks.now ws (band_blocks a.g.start a.band)
          a.r.block a.r.pass) (sym g.ensures) f,
    )

pub returns : goal.returns
unfolding code_band
returns c =
    let a = c.args in
    let g = c.set_new_blocks in
    c.code_blocks.ensures
    ∙ ap (λ (ws : List ℕ). code_all a.by.now.layer a.by.now.counts.now a.by.now.lengths.now a.by.now.marks.now
    (band_blocks a.g.start a.band) (running ws a.out.now a.r)) g.ensures
