use mathlib.Core.Path.{◌≡◌, refl, ap, ◌∙◌, subst}
use Prim.Native.Nat.{ℕ, ◌+◌, ◌-◌, ◌*◌, ◌%◌, ◌^◌}
use native.Mathlib.Nat.{mod-lt}
use native.Mathlib.Omega.{arith}
use lib.Bits.{bit_and, bit_or, and_mask}
use lib.Pow.{pow_pos}
use Rattle.bio_write.specs.Chunks.{hold_bits}
use Rattle.bio_bytes.proofs.Laws.HeldWord.{bio≡, or_above}
use Rattle.bio_write.proofs.hold_bits.Goals as goal

-- the free bits are 0, so the or is a sum.
pub returns : goal.returns
unfolding hold_bits
returns c =
    let s = c in
    let b = s.args.b in
    let v = s.args.v in
    let k = s.args.k in
    let few = s.requires.0.at_most_eight in
    let l = s.requires.1 in
    let e : b.ct ≡ k + (b.ct - k) = omega arith in
    let m : bit_and v c.low_ones.result ≡ v % 2 ^ k = ap (bit_and v) c.low_ones.ensures ∙ and_mask v k in
    bio≡ _ _ refl
    (ap (λ (z : ℕ). bit_or b.buf (z * 2 ^ (b.ct - k) % 4294967296)) m
    ∙ or_above b.buf (v % 2 ^ k) k (b.ct - k) (subst (λ (z : ℕ). b.buf % 2 ^ z ≡ 0) e s.requires.0.clear)
    (mod-lt v (pow_pos k)) (omega arith))
    refl
