use Prim.Native.Nat.{◌*◌}
use lib.Dec.{leb}
use Rattle.tcd_laws.proofs.Laws.Faults.{fault-three}
use Rattle.tcd_band_ranges.specs.BlockParts.{block_words_in_range, length_bits_in_range, segment_in_range}
use Rattle.tcd_band_ranges.proofs.block_fault.Goals as goal

pub returns : goal.returns
unfolding block_words_in_range
returns c =
    let s = c.args in
    fault-three _ _ _ (leb s.passes (164 * s.layer)) (length_bits_in_range s.passes s.bits)
    (segment_in_range s.role s.limits s.passes s.limit s.used)
    c.passes_fault.ensures c.length_bits_fault.ensures c.segment_fault.ensures
