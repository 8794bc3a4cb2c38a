-- From a test that is computed over all numbers below a bound to what it says of each.
use mathlib.Core.Bool.{Bool}
use Prim.Native.Nat.{ℕ, zero, suc, ◌<◌}
use mathlib.Core.Path.{sym, subst}
use native.Mathlib.Omega.{arith}
use native.Mathlib.Decide.{ℕ_discrete}
use lib.Dec.{T}
use mir.Facts.{and_yes}
use Rattle.t800.specs.Base.{every}

pub every-below : (n : ℕ) (f : ℕ → Bool) → T (every n f) → (k : ℕ) → k < n → T (f k)
unfolding every
every-below zero f t k h = absurd (omega arith)
every-below (suc n) f t k h =
    let both = and_yes (f n) (every n f) t in
    elim (ℕ_discrete k n) [ yes e ↦ subst (λ (z : ℕ). T (f z)) (sym e) both.0 | no e ↦ every-below n f both.1 k (omega arith) ]
