use Prim.Native.Nat.{◌^◌}
use borrow.Author.Tests.{le-ltb, lt-ltb}
use mathlib.Core.Path.{◌∙◌}
use native.Mathlib.Omega.{arith}
use Rattle.t800.specs.Base.{sum}
use Rattle.t2_narrow.proofs.surely_narrow.Goals as goal

pub returns-then-total-ge16777216 : goal.returns-then-total-ge16777216
returns-then-total-ge16777216 c =
    let s = c.args in
    simp (le-ltb (sum s.lengths.now) (2 ^ 24) (omega (arith, c.if-total-ge16777216.true, c.total.ensures)))

pub returns : goal.returns
returns c =
    let s = c.args in
    c.bands_up_to_25_bits.ensures
    ∙ simp (lt-ltb (sum s.lengths.now) (2 ^ 24) (omega (arith, c.if-total-ge16777216.false, c.total.ensures)))
