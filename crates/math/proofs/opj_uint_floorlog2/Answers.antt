use mathlib.Core.Path.{◌≡◌, refl, sym, ap, ◌∙◌}
use mathlib.Core.Bool.{Bool, true, false, cond}
use Prim.Native.Nat.{ℕ, zero, suc, ◌+◌, ◌/◌, ◌^◌, ◌≤◌, ◌<◌}
use native.Mathlib.Omega.{arith}
use lib.Dec.{ltb}
use lib.Bits.{bit_or, or_step, or_shr, or_zero_r}
use lib.Count.{count_leading_zeros, leading_of_zero}
use borrow.Author.Tests.{ltb-true, ltb-false}
use Rattle.t800.specs.Base.{halvings, floor_log2}
use Rattle.math.proofs.opj_uint_floorlog2.Goals as goal

-- the halvings of a number that isn't 0, its top bit and the zeros above make the width.

leading-half : (k n : ℕ) → 0 < n → count_leading_zeros (suc k) n ≡ count_leading_zeros k (n / 2)
unfolding count_leading_zeros
leading-half k zero h = absurd (omega arith)
leading-half k (suc n) h = refl

leading-halvings : (k f n : ℕ) → 0 < n → n < 2 ^ k → n ≤ f → halvings f n + suc (count_leading_zeros k n) ≡ k
unfolding halvings
leading-halvings zero f n pos h l = absurd (omega arith)
leading-halvings (suc k) zero n pos h l = absurd (omega arith)
leading-halvings (suc k) (suc f) n pos h l =
    ap (λ (z : ℕ). cond (ltb n 2) 0 (1 + halvings f (n / 2)) + suc z) (leading-half k n pos)
    ∙ go (ltb n 2) refl (λ p. leading-halvings k f (n / 2) p (omega arith) (omega arith))
  where
    go : (t : Bool) → ltb n 2 ≡ t → (0 < n / 2 → halvings f (n / 2) + suc (count_leading_zeros k (n / 2)) ≡ k)
        → cond t 0 (1 + halvings f (n / 2)) + suc (count_leading_zeros k (n / 2)) ≡ suc k
    go true e rest =
        let below = ltb-true n 2 e in
        let z : n / 2 ≡ 0 = omega arith in
        omega (arith, ap (count_leading_zeros k) z ∙ leading_of_zero k)
    go false e rest =
        let above = ltb-false n 2 e in
        omega (arith, rest (omega arith))

-- the low bit set, no more

module _ (a : ℕ) where
  odd-half : bit_or a 1 / 2 ≡ a / 2
  odd-half = or_shr a 1 1 ∙ or_zero_r (a / 2)

  odd_pos : 0 < bit_or a 1
  odd_pos = omega (arith, or_step a 1)

floorLog2-is : (a : ℕ) → a < 2 ^ 32 → floor_log2 a + suc (count_leading_zeros 32 (bit_or a 1)) ≡ 32
unfolding floor_log2 halvings count_leading_zeros
floorLog2-is zero h = refl
floorLog2-is (suc n) h =
    ap (λ (z : ℕ). floor_log2 (suc n) + suc z)
    (leading-half 31 (bit_or (suc n) 1) (odd_pos (suc n)) ∙ ap (count_leading_zeros 31) (odd-half (suc n))
    ∙ sym (leading-half 31 (suc n) (omega arith)))
    ∙ leading-halvings 32 (suc n) (suc n) (omega arith) h (omega arith)

pub overflow_sub-result : goal.overflow_sub-result
overflow_sub-result c = omega (arith, floorLog2-is c.args.a c.ranges.a.fits)

pub returns : goal.returns
returns c = omega (arith, floorLog2-is c.args.a c.ranges.a.fits)
