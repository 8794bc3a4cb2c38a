use lib.Dec.{leb}
use Rattle.tcd_laws.proofs.Laws.Faults.{fault-three}
use Rattle.tcd_band_ranges.proofs.node_fault.Goals as goal

pub returns : goal.returns
returns c = let s = c.args in
    fault-three _ _ _ (leb s.value s.most) (leb s.low s.most) (leb s.known 1) c.over.ensures
    c.over-2.ensures c.over-3.ensures
