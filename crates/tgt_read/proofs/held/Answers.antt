use mathlib.Core.Path.{◌≡◌, ap, ◌∙◌}
use Prim.Native.Nat.{ℕ, ◌-◌, ◌*◌, ◌%◌, ◌^◌, ◌≤◌}
use native.Mathlib.Omega.{arith}
use lib.Bits.{bit_and, and_mask}
use lib.Pow.{shl_exact, pow_pos}
use Rattle.tgt_read.proofs.held.Goals as goal

one_shifted : (k : ℕ) → k ≤ 8 → 1 * 2 ^ k % 4294967296 ≡ 2 ^ k
one_shifted k h = shl_exact {a = 1} 1 k 32 (omega arith) (omega arith) ∙ omega arith

pub overflow_sub-result : goal.overflow_sub-result
overflow_sub-result c = let b = c.args.b in omega (arith, one_shifted b.ct c.requires, pow_pos b.ct)

pub returns : goal.returns
returns c = let b = c.args.b in
    ap (λ (n : ℕ). bit_and b.buf (n - 1)) (one_shifted b.ct c.requires) ∙ and_mask b.buf b.ct
