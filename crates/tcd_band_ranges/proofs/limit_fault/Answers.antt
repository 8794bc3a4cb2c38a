use lib.Bits.{bit_and}
use lib.Dec.{eqb}
use mathlib.Core.Bool.{◌||◌}
use mathlib.Core.Path.{◌∙◌, ap₂}
use Rattle.tcd_laws.proofs.Laws.Faults.{fault-either}
use Rattle.tcd_band_ranges.specs.BlockParts.{is_one_of}
use Rattle.tcd_band_ranges.proofs.limit_fault.Goals as goal

pub returns : goal.returns
unfolding is_one_of
returns c =
    let s = c.args in
    let m = s.limit in
    ap₂ bit_and (ap₂ bit_and c.differs.ensures c.differs-2.ensures
    ∙ fault-either (eqb m s.limits.first) (eqb m s.limits.second)) c.differs-3.ensures
    ∙ fault-either (eqb m s.limits.first || eqb m s.limits.second) (eqb m s.limits.third)
