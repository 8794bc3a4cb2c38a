use Prim.Native.Nat.{ℕ, ◌+◌, ◌-◌}
use lib.Dec.{ltb}
use lib.ListN.{length, take, drop}
use mathlib.Core.Path.{◌≡◌, ap, sym, ◌∙◌}
use native.Mathlib.Omega.{arith}
use Rattle.t800.specs.Base.{any}
use Rattle.t800.specs.State.{blocks_in}
use Rattle.t800_laws.proofs.Laws.Lists.{length_from}
use Rattle.tcd_places.specs.Places.{band_blocks}
use Rattle.t2_write_new_blocks.proofs.Laws.AllBlocks.{none_set}
use Rattle.t2_write_new_blocks.proofs.set_new_blocks.Goals as goal

pub returns-then-not-any_over : goal.returns-then-not-any_over
returns-then-not-any_over c =
    let s = c in
    let a = s.args in
    let n = length_from a.g.start a.band (blocks_in a.band) 0 in
    let e : length (band_blocks a.g.start a.band)
    ≡ a.block + c.band_blocks.result - a.block =
    omega (arith, n, c.band_blocks.ensures) in
    let none = ap (λ (k : ℕ). any (λ (p : ℕ). ltb 0 p) (take k (drop a.block a.counts.now))) e
    ∙ sym c.any_over.ensures ∙ c.if-not-any_over.true in
    sym (none_set a.layer a.counts.now (band_blocks a.g.start a.band) a.block a.words.now
    (omega (arith, n, s.requires.3)) none)
