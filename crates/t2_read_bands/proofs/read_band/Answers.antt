use mathlib.Core.Path.{◌≡◌, ◌∙◌, subst}
use mathlib.Core.List.{List}
use Prim.Native.Nat.{ℕ, ◌+◌, ◌-◌, ◌*◌}
use native.Mathlib.Omega.{arith}
use Rattle.t800.specs.declared.Band.{Band}
use Rattle.t800.specs.State.{blocks_in, band_nodes, blocks_from}
use Rattle.t2_read_segments.specs.Reading.{reading, BlockFits, BlocksFit}
use Rattle.t2_read_block_parts.specs.Blocks.{next_blocks}
use Rattle.t2_read_bands.specs.Bands.{BandFits}
use Rattle.t2_read_bands.proofs.Laws.ReadBlocks.{some_column}
use Rattle.t2_read_bands.proofs.read_band.Goals as goal

all_fit : (ws : List ℕ) (start : ℕ) (b : Band) (end : ℕ) → end ≡ blocks_in b → BandFits ws start b
    → BlocksFit ws (start + 6 * band_nodes b + 4 * 0) (end - 0)
all_fit ws start b end e f j l =
    let a : start + 6 * band_nodes b + 4 * j ≡ start + 6 * band_nodes b + 4 * 0 + 4 * j = omega arith in
    subst (BlockFits ws) a (f j (omega arith))

pub read_blocks-requires : goal.read_blocks-requires
read_blocks-requires c =
    let s = c in
    let k = c.band_blocks-end in (
      s.requires.0,
      s.requires.1,
      s.requires.2,
      s.requires.3,
      s.requires.4,
      s.requires.5,
      s.requires.6,
      all_fit s.args.words.now s.args.g.start s.args.band k.result k.ensures s.requires.7,
      omega (arith, k.ensures),
      λ h. (omega arith, some_column s.args.band (omega (arith, k.ensures, h))),
    )

pub returns : goal.returns
returns c =
    let a = c.args in
    let k = c.band_blocks-end in
    let z : a.block + 0 ≡ a.block = omega arith in
    let e : k.result - 0 ≡ blocks_in a.band = omega (arith, k.ensures) in
    c.read_blocks.ensures
    ∙ (λ j. next_blocks a.src.now a.layer (z j) (blocks_from a.g.start a.band (e j) 0)
    (reading a.words.now a.reports.now a.records.now a.r))

pub band_blocks-end-requires : goal.band_blocks-end-requires
band_blocks-end-requires c = tt

pub shape_of-words : goal.shape_of-words
shape_of-words c = c.read_blocks.auto.words

pub shape_of-reports : goal.shape_of-reports
shape_of-reports c = c.read_blocks.auto.reports

pub shape_of-records : goal.shape_of-records
shape_of-records c = c.read_blocks.auto.records
