-- What reading leaves: the words of the trees, and where the bits stand.
use Rattle.std.specs.Prelude.{ℕ, ◌+◌, ◌-◌, ◌/◌, ◌%◌, ◌^◌, ◌≤◌, ◌<◌, max, ◌≡◌, Bool, List, ltb, get_or, set}
use Rattle.t800.specs.declared.Bio.{Bio}
use Rattle.t800.specs.TagTree as t800
use Rattle.t800.specs.TagTree.{PathRead, value, low, read_node}
use Rattle.t800.specs.State.{Block}
use Rattle.bio_read.specs.declared.Decoded.{Decoded}
use Rattle.tgt.specs.declared.AfterNode.{AfterNode}
use Rattle.tgt.specs.Path.{path_over}
use Rattle.tgt_read.specs.declared.NodeRead.{NodeRead}
use Rattle.tgt_read.specs.declared.LeafRead.{LeafRead}

-- ---- a leaf

abbrev pub path_read : List ℕ → Bio → PathRead
path_read ws b = record { words = ws; bio = b }

-- the words and the place after a leaf was read, and whether its value lies below the threshold
pub record LeafAfter : Type 0 where
  pub words : List ℕ
  pub bio : Bio
  pub below : Bool

abbrev pub leaf_after : List ℕ → LeafRead → LeafAfter
leaf_after ws r = record { words = ws; bio = r.bio; below = r.below }

-- of the leaf whose first word is at `at`, with the threshold t
abbrev pub below_in : ℕ → ℕ → PathRead → LeafAfter
below_in t at r = record { words = r.words; bio = r.bio; below = ltb (value r.words at) t }

-- the same, with its value
pub record ValueAfter : Type 0 where
  pub words : List ℕ
  pub bio : Bio
  pub value : ℕ

abbrev pub value_after : List ℕ → Decoded → ValueAfter
value_after ws r = record { words = ws; bio = r.bio; value = r.value }

abbrev pub value_in : ℕ → PathRead → ValueAfter
value_in at r = record { words = r.words; bio = r.bio; value = value r.words at }

-- a block whose zero-plane tree stands at `base`, in column x of a row; nothing else of it counts
abbrev pub leaf_of : ℕ → List ℕ → ℕ → ℕ → Block
leaf_of base row depth x = record { incl_tree = 0; zero_tree = base; leaf = get_or row 0 0 + x; path = path_over row depth x; at = 0; planes = 0 }

-- ---- a node

abbrev pub seen : ℕ → ℕ → Bio → t800.NodeRead
seen v l b = record { value = v; low = l; bio = b }

abbrev pub node_read : NodeRead → t800.NodeRead
node_read r = seen r.value r.low r.bio

-- the words and the place after a node was read, and the low from which the next goes on
pub record NodeAfter : Type 0 where
  pub words : List ℕ
  pub bio : Bio
  pub low : ℕ

abbrev pub node_after : List ℕ → AfterNode → NodeAfter
node_after ws r = record { words = ws; bio = r.bio; low = r.low }

-- the node at `at` with the threshold t, l being the parent's low; `read_path` does this at each node
unfoldable pub read_at : List ℕ → ℕ → ℕ → ℕ → List ℕ → Bio → NodeAfter
read_at src t at l ws b =
    let from = max l (low ws at) in
    let r = read_node src (t - from) (value ws at) from b in
    record { words = set (set ws at r.value) (at + 1) r.low; bio = r.bio; low = r.low }

-- ---- zeros in the held word

-- of the bits that are still to be read the first z are 0, and a 1 follows unless they are all
pub record LeadingZeros (b : Bio) (z : ℕ) : Type 0 where
  pub at_most : z ≤ b.ct
  pub zeros : b.buf / 2 ^ (b.ct - z) % 2 ^ z ≡ 0
  pub one : z < b.ct → b.buf / 2 ^ (b.ct - z - 1) % 2 ≡ 1
