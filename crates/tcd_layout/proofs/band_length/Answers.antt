use native.Mathlib.Omega.{arith}
use Rattle.t800.specs.State.{band_length}
use Rattle.tcd_laws.proofs.Laws.Bands.{blocks-up_to_4096, nodes-of_band_up_to}
use Rattle.tcd_layout.proofs.band_length.Goals as goal

pub overflow_mul-result : goal.overflow_mul-result
overflow_mul-result c = let s = c in omega (arith, c.band_nodes.ensures, nodes-of_band_up_to s.args.band s.requires)

pub overflow_mul-result-2 : goal.overflow_mul-result-2
overflow_mul-result-2 c = let s = c in omega (arith, c.band_blocks.ensures, blocks-up_to_4096 s.args.band s.requires)

pub overflow_add-result : goal.overflow_add-result
overflow_add-result c =
    let s = c in
    omega (
      arith,
      c.band_nodes.ensures,
      c.band_blocks.ensures,
      nodes-of_band_up_to s.args.band s.requires,
      blocks-up_to_4096 s.args.band s.requires,
    )

pub returns : goal.returns
unfolding band_length
returns c = omega (arith, c.band_nodes.ensures, c.band_blocks.ensures)
