-- Tag trees (T.800, B.10.2; SCOPE S12) in a list of words. Nodes are numbered from the leaves' level to the root, row by
-- row; node n of the tree at `base` is the three words value, low, known from base + 3 n on. A path is a list of such numbers.
use Rattle.std.specs.Prelude.{ℕ, zero, suc, ◌+◌, ◌-◌, ◌*◌, ◌/◌, ◌%◌, max, min, cond, ◌&&◌, List, [], ◌∷◌, ◌++◌, get_or, set, replicate, ltb, leb, eqb}
use Rattle.t800.specs.declared.Bio.{Bio}
use Rattle.t800.specs.declared.Level.{Level}
use Rattle.t800.specs.Base.{Words, Bytes, Bits}
use Rattle.t800.specs.Bits.{get_bit}

-- ---- levels and nodes

-- each level halves both sides, rounded up, down to one node
unfoldable pub levels_from : (bound w h : ℕ) → List Level
levels_from zero w h = []
levels_from (suc bound) w h =
    let above = levels_from bound ((w + 1) / 2) ((h + 1) / 2) in
    record { w = w; h = h } ∷ cond (leb (w * h) 1) [] above

-- what an array of levels holds past the root's
abbrev pub no_level : Level
no_level = record { w = 0; h = 0 }

-- sides up to 64 have seven levels at most
unfoldable pub levels : (w h : ℕ) → List Level
levels w h = levels_from 7 w h

unfoldable pub nodes_in : List Level → ℕ
nodes_in [] = 0
nodes_in (l ∷ ls) = l.w * l.h + nodes_in ls

-- the nodes of one tree; a band without blocks has none
unfoldable pub nodes : (w h : ℕ) → ℕ
nodes w h = nodes_in (levels w h)

-- ---- parents

-- the parent of node n, in levels whose nodes are numbered from `first` on: at half its column and half its row, rounded down, on the level
-- above; the root is its own
unfoldable pub parent_from : List Level → (first n : ℕ) → ℕ
parent_from [] first n = n
parent_from (l ∷ []) first n = n
parent_from (l ∷ above ∷ ls) first n =
    let next = first + l.w * l.h in
    let x = (n - first) % l.w in
    let y = (n - first) / l.w in
    cond (ltb n next) (next + y / 2 * above.w + x / 2) (parent_from (above ∷ ls) next n)

-- in a tree of w by h leaves
unfoldable pub parent_of : (w h n : ℕ) → ℕ
parent_of w h n = parent_from (levels w h) 0 n

-- the nodes that a climb from node n meets, each the parent of the one before, up to the root
unfoldable pub climb_from : (bound w h n : ℕ) → List ℕ
climb_from zero w h n = []
climb_from (suc bound) w h n =
    let parent = parent_of w h n in
    let above = climb_from bound w h parent in
    n ∷ cond (eqb parent n) [] above

-- from a leaf; a tree has seven levels at most
unfoldable pub path_to_root : (w h leaf : ℕ) → List ℕ
path_to_root w h leaf = climb_from 7 w h leaf

-- ---- a node's words, the first at `node_at`

abbrev pub value : Words → (node_at : ℕ) → ℕ
value ws node_at = get_or ws node_at 0

abbrev pub low : Words → (node_at : ℕ) → ℕ
low ws node_at = get_or ws (node_at + 1) 0

abbrev pub known : Words → (node_at : ℕ) → ℕ
known ws node_at = get_or ws (node_at + 2) 0

-- ---- setting a leaf

-- along the path from a leaf each value is lowered to v, until one isn't larger
unfoldable pub set_value : (base : ℕ) (path : List ℕ) (v : ℕ) → Words → Words
set_value base [] v ws = ws
set_value base (n ∷ ns) v ws =
    let above = set_value base ns v (set ws (base + 3 * n) v) in
    cond (ltb v (value ws (base + 3 * n))) above ws

-- ---- coding

-- bits put, and the words after them
pub record Coded : Type 0 where
  pub bits : Bits
  pub words : Words

-- A node is coded from its low on: a 0 for each step up to value or threshold, whichever comes first; and a 1 if the value was
-- reached below the threshold, unless it was put before.
unfoldable pub low_after : (v from threshold : ℕ) → ℕ
low_after v from threshold = max from (min v threshold)

unfoldable pub node_bits : (v from is_known threshold : ℕ) → Bits
node_bits v from is_known threshold =
    replicate (low_after v from threshold - from) 0 ++ cond (ltb (low_after v from threshold) threshold && eqb is_known 0) (1 ∷ []) []

unfoldable pub known_after : (v from is_known threshold : ℕ) → ℕ
known_after v from is_known threshold = cond (ltb (low_after v from threshold) threshold) 1 is_known

-- along a path from the root
unfoldable pub code_path : (base threshold : ℕ) (path : List ℕ) (parent_low : ℕ) → Words → Coded
code_path base threshold [] parent_low ws = record { bits = []; words = ws }
code_path base threshold (n ∷ ns) parent_low ws =
    let node_at = base + 3 * n in
    let v = value ws node_at in
    let is_known = known ws node_at in
    let from = max parent_low (low ws node_at) in
    let to = low_after v from threshold in
    let below = code_path base threshold ns to (set (set ws (node_at + 1) to) (node_at + 2) (known_after v from is_known threshold)) in
    record { bits = node_bits v from is_known threshold ++ below.bits; words = below.words }

-- ---- reading

-- a node's value and low after a read, and where reading goes on
pub record NodeRead : Type 0 where
  pub value : ℕ
  pub low : ℕ
  pub bio : Bio

-- A node is read from its low on, which lies `steps` below the threshold: while low is below threshold and value, a 0 raises low by
-- one and a 1 is the value.
unfoldable pub read_node : (src : Bytes) (steps v from : ℕ) → Bio → NodeRead
read_node src zero v from b = record { value = v; low = from; bio = b }
read_node src (suc steps) v from b =
    let r = get_bit src b in
    let raised = read_node src steps v (from + 1) r.bio in
    let reached : NodeRead = record { value = from; low = from; bio = r.bio } in
    let next = cond (eqb r.value 0) raised reached in
    cond (ltb from v) next (record { value = v; low = from; bio = b })

-- the words after a read, and where reading goes on
pub record PathRead : Type 0 where
  pub words : Words
  pub bio : Bio

-- along a path from the root
unfoldable pub read_path : (src : Bytes) (base threshold : ℕ) (path : List ℕ) (parent_low : ℕ) → Words → Bio → PathRead
read_path src base threshold [] parent_low ws b = record { words = ws; bio = b }
read_path src base threshold (n ∷ ns) parent_low ws b =
    let node_at = base + 3 * n in
    let from = max parent_low (low ws node_at) in
    let r = read_node src (threshold - from) (value ws node_at) from b in
    read_path src base threshold ns r.low (set (set ws node_at r.value) (node_at + 1) r.low) r.bio
