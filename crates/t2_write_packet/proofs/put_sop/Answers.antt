use mathlib.Core.Path.{refl, ap, ◌∙◌}
use mathlib.Core.List.{List}
use Prim.Native.Nat.{ℕ, ◌/◌}
use native.Mathlib.Omega.{arith}
use lib.Bits.{and_mask}
use lib.ListN.{set}
use Rattle.t800.specs.MarkerSegments.{sop_bytes}
use Rattle.t2_write_packet.proofs.Laws.Front.{not_used, used_bytes}
use Rattle.t2_write_packet.proofs.put_sop.Goals as goal

pub returns-then-not-used : goal.returns-then-not-used
returns-then-not-used c = let a = c.args in not_used a.used a.out.now 0 (sop_bytes a.number) c.if-not-used.true

pub overflow_cast-number : goal.overflow_cast-number
overflow_cast-number c = let n =
    c.args.number in omega (arith, and_mask (n / 256) 8)

pub overflow_cast-number-2 : goal.overflow_cast-number-2
overflow_cast-number-2 c = let n =
    c.args.number in omega (arith, and_mask n 8)

pub returns : goal.returns
unfolding sop_bytes
returns c =
    let a = c.args in
    let n = a.number in
    let e₁ = c.store.ensures in
    let e₂ = c.store-2.ensures ∙ ap (λ (l : List ℕ). set l 1 0x91) e₁ in
    let e₃ = c.store-3.ensures ∙ ap (λ (l : List ℕ). set l 2 0) e₂ in
    let e₄ = c.store-4.ensures
    ∙ ap (λ (l : List ℕ). set l 3 4) e₃ in
    let e₅ = c.store-5.ensures ∙ (λ i. set (e₄ i) 4 (and_mask (n / 256) 8 i)) in
    let e₆ = c.store-6.ensures ∙ (λ i. set (e₅ i) 5 (and_mask n 8 i)) in
    used_bytes a.used a.out.now 0 _ 6 (sop_bytes n)
    c.if-not-used.false refl e₆
