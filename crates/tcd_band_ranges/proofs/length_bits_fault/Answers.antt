use lib.Bits.{bit_or}
use lib.Dec.{leb}
use mathlib.Core.Path.{◌∙◌, ap, ap₂}
use Rattle.tcd_laws.proofs.Laws.Faults.{fault-both}
use Rattle.tcd_band_ranges.proofs.Laws.BandParts.{length-bits_parts}
use Rattle.tcd_laws.specs.Parts.{fault}
use Rattle.tcd_band_ranges.proofs.length_bits_fault.Goals as goal

pub returns : goal.returns
returns c =
    let s = c.args in
    let least = c.chosen-least.result in
    let most = c.chosen-most.result in
    ap₂ bit_or c.over.ensures c.over-2.ensures ∙ fault-both (leb least s.bits) (leb s.bits most)
    ∙ ap fault (length-bits_parts s.passes s.bits least most c.chosen-least.ensures
    c.chosen-most.ensures)
