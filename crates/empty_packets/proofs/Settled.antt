-- A node of an inclusion tree coded in layer t ends as its value alone says.
use mathlib.Core.Path.{◌≡◌, sym, ◌∙◌}
use mathlib.Core.Bool.{cond}
use Prim.Native.Nat.{ℕ, ◌+◌, ◌≤◌, ◌<◌, max, min}
use native.Mathlib.Omega.{arith}
use lib.Dec.{ltb}
use Rattle.t800_laws.proofs.Laws.Tests.{on-lt, if-lt, if-ge}
use Rattle.round_trip.proofs.Trip.Nodes.{Node, node, low_out, node_after}

-- ---- one node

-- as it may stand while layer t is coded
pub record Tidy (t : ℕ) (n : Node) : Type 0 where
  pub low_value : n.low ≤ n.value
  pub low-in : n.low ≤ t + 1
  pub not_known : t < n.value → n.known ≡ 0

-- a node with value v that layer t has coded
abbrev pub settled : (t v : ℕ) → Node
settled t v = node v (min v (t + 1)) (cond (ltb v (t + 1)) 1 0)

pub settled_tidy : (t v : ℕ) → Tidy t (settled t v)
settled_tidy t v =
    record { low_value = omega arith; low-in = omega arith; not_known = λ h. if-ge v (t + 1) 1 0 (omega arith) }

pub low-settled : (l lo v t : ℕ) → l ≤ v → l ≤ t → lo ≤ v → lo ≤ t → max (max l lo) (min v t) ≡ min v t
low-settled l lo v t a b c d = omega arith

known-settled : (t v m k : ℕ) → m ≡ min v (t + 1) → (t < v → k ≡ 0) → cond (ltb m (t + 1)) 1 k ≡ cond (ltb v (t + 1)) 1 0
known-settled t v m k e f =
    on-lt v (t + 1)
    (λ h. if-lt m (t + 1) 1 k (omega arith) ∙ sym (if-lt v (t + 1) 1 0 h))
    (λ h. if-ge m (t + 1) 1 k (omega arith) ∙ f (omega arith) ∙ sym (if-ge v (t + 1) 1 0 h))

pub node_settled : (t l : ℕ) (n : Node) → l ≤ n.value → l ≤ t + 1 → Tidy t n → node_after (t + 1) l n ≡ settled t n.value
unfolding node_after
node_settled t l n a b y =
    let e = low-settled l n.low n.value (t + 1) a b y.low_value y.low-in in
    λ i. record { value = n.value; low = e i; known = known-settled t n.value (low_out (t + 1) l n) n.known e y.not_known i }
