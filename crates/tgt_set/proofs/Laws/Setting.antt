-- Setting a leaf node by node, and fresh nodes one by one.
use mathlib.Core.Path.{◌≡◌}
use mathlib.Core.List.{List, ◌∷◌}
use Prim.Native.Nat.{ℕ, zero, suc, ◌+◌, ◌-◌, ◌*◌, ◌≤◌, ◌<◌}
use native.Mathlib.Omega.{arith}
use lib.ListN.{set}
use lib.Seq.{sets}
use Rattle.t800.specs.TagTree.{set_value, value}
use Rattle.t800.specs.Start.{fresh_nodes}
use Rattle.t800_laws.proofs.Laws.Tests.{if-lt, if-ge}

module _ (base n : ℕ) (ns : List ℕ) (v : ℕ) (ws : List ℕ) where
  pub set_stop : value ws (base + 3 * n) ≤ v → set_value base (n ∷ ns) v ws ≡ ws
  unfolding set_value
  set_stop h = if-ge v (value ws (base + 3 * n)) _ _ h

  pub set_on : v < value ws (base + 3 * n) → set_value base (n ∷ ns) v ws ≡ set_value base ns v (set ws (base + 3 * n) v)
  unfolding set_value
  set_on h = if-lt v (value ws (base + 3 * n)) _ _ h

pub fresh_turn : (ws : List ℕ) (at v left : ℕ) → 0 < left
    → sets (set (set (set ws at v) (at + 1) 0) (at + 2) 0) (at + 3) (fresh_nodes v (left - 1)) ≡ sets ws at (fresh_nodes v left)
unfolding fresh_nodes
fresh_turn ws at v zero h = absurd (omega arith)
fresh_turn ws at v (suc left) h =
    let q : suc left - 1 ≡ left = omega arith in
    let a : at + 1 ≡ suc at = omega arith in
    let b : at + 2 ≡ suc (suc at) = omega arith in
    let c : at + 3 ≡ suc (suc (suc at)) = omega arith in
    rw (q, a, b, c)
