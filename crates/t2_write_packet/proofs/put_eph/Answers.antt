use mathlib.Core.Path.{refl, ◌∙◌}
use native.Mathlib.Numerals.{add-one}
use lib.ListN.{set}
use Rattle.t800.specs.MarkerSegments.{eph_bytes}
use Rattle.t2_write_packet.proofs.Laws.Front.{not_used, used_bytes}
use Rattle.t2_write_packet.proofs.put_eph.Goals as goal

pub returns-then-not-used : goal.returns-then-not-used
returns-then-not-used c = let a = c.args in not_used a.used a.out.now a.at eph_bytes c.if-not-used.true

pub returns : goal.returns
unfolding eph_bytes
returns c =
    let a = c.args in
    let e = c.store.ensures in
    let f = c.store-2.ensures ∙ (λ i. set (e i) (add-one a.at i) 0x92) in
    used_bytes a.used a.out.now a.at _ _ eph_bytes
    c.if-not-used.false refl f
