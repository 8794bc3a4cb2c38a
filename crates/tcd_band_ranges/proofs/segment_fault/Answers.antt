use lib.Dec.{eqb, leb}
use mathlib.Core.Bool.{cond}
use mathlib.Core.Path.{◌∙◌, ap, ap₂}
use Rattle.tcd_laws.proofs.Laws.Faults.{chosen_fault, fault-three}
use Rattle.tcd_band_ranges.proofs.Laws.BandParts.{segment-parts}
use Rattle.tcd_laws.specs.Parts.{fault}
use Rattle.tcd_band_ranges.specs.BlockParts.{is_one_of}
use Rattle.tcd_band_ranges.proofs.segment_fault.Goals as goal

pub returns : goal.returns
returns c =
    let s = c.args in
    let none = c.has_no_segment-none.result in
    let least = c.chosen-least.result in
    let wrong = c.chosen-wrong.ensures
    ∙ ap₂ (cond none) c.differs.ensures c.limit_fault.ensures
    ∙ chosen_fault none (eqb s.limit 0) (is_one_of s.limits s.limit) in
    fault-three _ _ _ (cond none (eqb s.limit 0) (is_one_of s.limits s.limit)) (leb least s.used)
    (leb s.used s.limit) wrong c.over.ensures c.over-2.ensures
    ∙ ap fault (segment-parts s.role s.limits s.passes s.limit s.used least none
    c.has_no_segment-none.ensures
    c.chosen-least.ensures)
