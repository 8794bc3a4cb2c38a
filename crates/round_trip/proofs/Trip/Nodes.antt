-- A node of a tag tree as one thing, the writer's and the reader's pass over a path of nodes, and what the two sides share at each
-- node. The
-- mark is the tree's "not yet".
use mathlib.Core.Path.{◌≡◌}
use mathlib.Core.Bool.{Bool, cond, ◌&&◌}
use mathlib.Core.List.{List, [], ◌∷◌, ◌++◌}
use Prim.Native.Nat.{ℕ, zero, suc, ◌+◌, ◌-◌, ◌≤◌, min, max}
use lib.ListN.{replicate}
use lib.Dec.{eqb, ltb}
use Rattle.t800.specs.declared.Bio.{Bio}
use Rattle.t800.specs.TagTree.{NodeRead, read_node}

pub record Node : Type 0 where
  pub value : ℕ
  pub low : ℕ
  pub known : ℕ

abbrev pub node : ℕ → ℕ → ℕ → Node
node v l k = record { value = v; low = l; known = k }

-- ---- writing with threshold t, from the parent's low l

-- the low that a node ends with, which its child starts from
abbrev pub low_out : ℕ → ℕ → Node → ℕ
low_out t l n = max (max l n.low) (min n.value t)

-- a 1 is put: the value was reached below the threshold, for the first time
abbrev pub puts_one : ℕ → ℕ → Node → Bool
puts_one t l n = ltb (low_out t l n) t && eqb n.known 0

unfoldable pub bits_of_node : ℕ → ℕ → Node → List ℕ
bits_of_node t l n = replicate (low_out t l n - max l n.low) 0 ++ cond (puts_one t l n) (1 ∷ []) []

unfoldable pub node_after : ℕ → ℕ → Node → Node
node_after t l n = node n.value (low_out t l n) (cond (ltb (low_out t l n) t) 1 n.known)

unfoldable pub bits_of_path : ℕ → ℕ → List Node → List ℕ
bits_of_path t l [] = []
bits_of_path t l (n ∷ ns) = bits_of_node t l n ++ bits_of_path t (low_out t l n) ns

unfoldable pub nodes_after : ℕ → ℕ → List Node → List Node
nodes_after t l [] = []
nodes_after t l (n ∷ ns) = node_after t l n ∷ nodes_after t (low_out t l n) ns

-- ---- reading

abbrev pub node_read : ℕ → ℕ → Bio → NodeRead
node_read v l b = record { value = v; low = l; bio = b }

unfoldable pub read_one : List ℕ → ℕ → ℕ → Bio → Node → NodeRead
read_one s t l b m = read_node s (t - max l m.low) m.value (max l m.low) b

abbrev pub read_into : NodeRead → Node → Node
read_into g m = node g.value g.low m.known

pub record NodesRead : Type 0 where
  pub bio : Bio
  pub nodes : List Node

unfoldable pub read_all : List ℕ → ℕ → ℕ → Bio → List Node → NodesRead
read_all s t l b [] = record { bio = b; nodes = [] }
read_all s t l b (m ∷ ms) =
    let g : NodeRead = read_one s t l b m in
    let r : NodesRead = read_all s t g.low g.bio ms in
    record { bio = r.bio; nodes = read_into g m ∷ r.nodes }

-- the last value of a path, its leaf's
abbrev pub leaf_value : ℕ → List Node → ℕ
leaf_value v [] = v
leaf_value v (n ∷ ns) = leaf_value n.value ns

-- the threshold is raised from i until the leaf's value lies below it
unfoldable pub raise_from : List ℕ → ℕ → ℕ → Bio → List Node → NodesRead
raise_from s zero i b ms = record { bio = b; nodes = ms }
raise_from s (suc f) i b ms =
    let g : NodesRead = read_all s i 0 b ms in
    let r : NodesRead = raise_from s f (i + 1) g.bio g.nodes in
    cond (ltb (leaf_value 0 g.nodes) i) g r

-- ---- what the two sides share

-- writer's node n and reader's node m: the same low; the reader has the value where it is known, the mark elsewhere
pub data Sync (mark : ℕ) (n m : Node) : Type 0 where
  not_known : n.known ≡ 0 → m.value ≡ mark → m.low ≡ n.low → n.low ≤ n.value → n.value ≤ mark → m.known ≡ 0 → Sync mark n m
  is_known : n.known ≡ 1 → m.value ≡ n.value → m.low ≡ n.value → n.low ≡ n.value → n.value ≤ mark → m.known ≡ 0 → Sync mark n m

pub data AllSync (mark : ℕ) : List Node → List Node → Type 0 where
  nil : AllSync mark [] []
  cons : {n m : Node} {ns ms : List Node} → Sync mark n m → AllSync mark ns ms → AllSync mark (n ∷ ns) (m ∷ ms)

-- no value below the one before it
abbrev pub Increasing : ℕ → List Node → Type 0
Increasing l [] = Unit {0}
Increasing l (n ∷ ns) = (l ≤ n.value) × Increasing n.value ns
