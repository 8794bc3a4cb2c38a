use mathlib.Core.Path.{ap}
use native.Mathlib.Omega.{arith}
use Rattle.t800_laws.proofs.Laws.Layout.{band_length_lem}
use Rattle.tcd_laws.proofs.Laws.Bands.{blocks-up_to_4096, nodes-of_band_up_to}
use Rattle.tcd_places.specs.declared.Grid.{Grid}
use Rattle.tcd_places.proofs.grid_end.Goals as goal

pub overflow_mul-result : goal.overflow_mul-result
overflow_mul-result c =
    let s = c in
    let n = ap (λ (k : Grid). k.nodes) s.requires.1 in
    omega (
      arith,
      n,
      c.band_blocks-blocks.ensures,
      nodes-of_band_up_to s.args.band s.requires.0,
      blocks-up_to_4096 s.args.band s.requires.0,
      s.requires.2,
    )

pub overflow_add-result : goal.overflow_add-result
overflow_add-result c =
    let s = c in
    let n = ap (λ (k : Grid). k.nodes) s.requires.1 in
    omega (
      arith,
      n,
      c.band_blocks-blocks.ensures,
      nodes-of_band_up_to s.args.band s.requires.0,
      blocks-up_to_4096 s.args.band s.requires.0,
      s.requires.2,
    )

pub overflow_mul-result-2 : goal.overflow_mul-result-2
overflow_mul-result-2 c =
    let s = c in
    let n = ap (λ (k : Grid). k.nodes) s.requires.1 in
    omega (
      arith,
      n,
      c.band_blocks-blocks.ensures,
      nodes-of_band_up_to s.args.band s.requires.0,
      blocks-up_to_4096 s.args.band s.requires.0,
      s.requires.2,
    )

pub overflow_add-result-2 : goal.overflow_add-result-2
overflow_add-result-2 c =
    let s = c in
    let n = ap (λ (k : Grid). k.nodes) s.requires.1 in
    omega (
      arith,
      n,
      c.band_blocks-blocks.ensures,
      nodes-of_band_up_to s.args.band s.requires.0,
      blocks-up_to_4096 s.args.band s.requires.0,
      s.requires.2,
    )

pub returns : goal.returns
returns c =
    let s = c in
    let n = ap (λ (k : Grid). k.nodes) s.requires.1 in
    omega (arith, n, c.band_blocks-blocks.ensures, band_length_lem s.args.band)
