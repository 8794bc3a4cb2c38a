-- The held word: shifts and masks as plain arithmetic, and how many of its bits there are.
use mathlib.Core.Path.{◌≡◌, ◌∙◌, ap, subst}
use mathlib.Core.Bool.{Bool, true, false, cond}
use Prim.Native.Nat.{ℕ, ◌+◌, ◌*◌, ◌/◌, ◌%◌, ◌^◌, ◌<◌, ◌≤◌}
use native.Mathlib.Nat.{mul-le-mul_right}
use native.Mathlib.Omega.{arith}
use lib.Bits.{bit_and, bit_or, and_mask, or_shifted}
use lib.Pow.{shl_exact, shl_lt, split, pow-add}
use Rattle.t800.specs.declared.Bio.{Bio}

abbrev pub bio_of : ℕ → ℕ → ℕ → Bio
bio_of p u c = record { bp = p; buf = u; ct = c }

pub bio≡ : (x y : Bio) → x.bp ≡ y.bp → x.buf ≡ y.buf → x.ct ≡ y.ct → x ≡ y
bio≡ x y p q r = λ i. record { bp = p i; buf = q i; ct = r i }

-- how many bits follow a byte
pub seven_or_eight : (t : Bool) → (7 ≤ cond t 7 8) × (cond t 7 8 ≤ 8)
seven_or_eight true = omega arith
seven_or_eight false = omega arith

-- (u << 8) & 0xffff
pub moved_is : (u : ℕ) → bit_and (u * 256 % 4294967296) 65535 ≡ u * 256 % 65536
moved_is u = and_mask (u * 256 % 4294967296) 16 ∙ omega arith

-- a byte in the low eight bits of a word that was moved up
pub or_byte : (u x : ℕ) → x < 256 → bit_or (u * 256 % 65536) x ≡ u * 256 % 65536 + x
or_byte u x l =
    let e : u * 256 % 65536 ≡ u % 256 * 256 = omega arith in
    rw e (or_shifted (u % 256) 8 x l)

-- 1 << k
pub one_above : (k : ℕ) → k ≤ 31 → 1 * 2 ^ k % 4294967296 ≡ 2 ^ k
one_above k h = omega (arith, shl_exact {a = 1} 1 k 32 (omega arith) (omega arith))

-- u | (y << r), where y has k bits and u's low k + r bits are 0
pub or_above : (u y k r : ℕ) → u % 2 ^ (k + r) ≡ 0 → y < 2 ^ k → k + r ≤ 32 → bit_or u (y * 2 ^ r % 4294967296) ≡ u + y * 2 ^ r
or_above u y k r e h l =
    let w : u / 2 ^ (k + r) * 2 ^ (k + r) ≡ u = omega (arith, split u (k + r)) in
    ap (bit_or u) (shl_exact k r 32 h l)
    ∙ subst (λ (x : ℕ). bit_or x (y * 2 ^ r) ≡ x + y * 2 ^ r) w (or_shifted (u / 2 ^ (k + r)) (k + r) (y * 2 ^ r) (shl_lt k r h))

-- (v << k) | x, where v has j bits and x has k
module _ (v x j k : ℕ) (fits : v < 2 ^ j) (low : x < 2 ^ k) (room : j + k ≤ 32) where
  pub or_after : bit_or (v * 2 ^ k % 4294967296) x ≡ v * 2 ^ k + x
  or_after = ap (λ (z : ℕ). bit_or z x) (shl_exact j k 32 fits room) ∙ or_shifted v k x low

  pub after_fits : v * 2 ^ k + x < 2 ^ (j + k)
  after_fits = omega (arith, mul-le-mul_right (2 ^ k) fits, pow-add 2 j k)
