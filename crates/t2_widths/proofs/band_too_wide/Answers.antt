use Prim.Native.Nat.{◌+◌, ◌*◌, ℕ}
use mathlib.Core.Path.{◌∙◌, ap}
use native.Mathlib.Omega.{arith}
use Rattle.t800_laws.proofs.Laws.Layout.{band_length_lem}
use Rattle.t2_widths.proofs.Laws.BlocksLeft.{wide_band}
use Rattle.t2_widths.proofs.band_too_wide.Goals as goal

pub band_nodes-nodes-requires : goal.band_nodes-nodes-requires
band_nodes-nodes-requires c = c.requires.0

pub overflow_mul-first : goal.overflow_mul-first
overflow_mul-first c =
    let s = c in
    omega (arith, c.band_nodes-nodes.ensures, band_length_lem s.args.band, s.requires.1)

pub overflow_add-first : goal.overflow_add-first
overflow_add-first c =
    let s = c in
    omega (arith, c.band_nodes-nodes.ensures, band_length_lem s.args.band, s.requires.1)

pub blocks_too_wide-requires : goal.blocks_too_wide-requires
blocks_too_wide-requires c =
    let s = c in (
      omega (arith, c.band_nodes-nodes.ensures, c.band_blocks-size.ensures, band_length_lem s.args.band, s.requires.1),
      omega (arith, c.band_blocks-size.ensures, s.requires.2),
      s.requires.3,
      s.requires.4,
    )

pub returns : goal.returns
returns c =
    let s = c in
    c.blocks_too_wide.ensures
    ∙ wide_band s.args.state.now s.args.at s.args.band _ _ s.args.counts.now s.args.lengths.now
    s.args.marks.now (ap (λ (k : ℕ). s.args.at + 6 * k) c.band_nodes-nodes.ensures)
    c.band_blocks-size.ensures
