use lib.Dec.{ltb}
use Rattle.t800.specs.Segments.{width}
use Rattle.t2_block_widths.proofs.any_field_too_wide.Given as goal

abbrev pub ghost-any_segment : goal.ghost-any_segment
ghost-any_segment a = λ s. ltb 32 (width a.meets.0.now s.passes)
