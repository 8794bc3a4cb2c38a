-- The walk down to a leaf, each node found from its level and place, meets the nodes that a climb from the leaf meets, last first
-- (request No. 3).
use Rattle.std.specs.Prelude.{ℕ, zero, suc, ◌+◌, ◌-◌, ◌*◌, ◌/◌, ◌%◌, ◌^◌, ◌≤◌, ◌<◌, ◌≡◌, List, [], ◌∷◌, ◌++◌, reverse, length, get_or, take}
use Rattle.t800.specs.declared.Level.{Level}
use Rattle.t800.specs.TagTree.{no_level, nodes_in, levels, nodes, path_to_root}
use Rattle.tgt.specs.Path.{row_over, path_over}

-- the node over column x, row y of the leaves on level i, after the nodes of the levels below
unfoldable pub node_on : List Level → (i x y : ℕ) → ℕ
node_on ls i x y = nodes_in (take i ls) + y / 2 ^ i * (get_or ls i no_level).w + x / 2 ^ i

-- on the first n levels, the highest first
unfoldable pub walk_from : List Level → (n x y : ℕ) → List ℕ
walk_from ls zero x y = []
walk_from ls (suc n) x y = node_on ls n x y ∷ walk_from ls n x y

-- in a tree of w by h leaves
unfoldable pub walk_down : (w h leaf : ℕ) → List ℕ
walk_down w h leaf = walk_from (levels w h) (length (levels w h)) (leaf % w) (leaf / w)

-- what contracts call the leaf's path: the levels stand in an array before some others, and `opj_tgt_row` made the row
abbrev pub path_in_code : (w h leaf : ℕ) (others : List Level) → List ℕ
path_in_code w h leaf others =
    let depth = length (levels w h) in
    path_over (row_over (levels w h ++ others) depth (leaf / w)) depth (leaf % w)

pub record WalkIsClimb (w h leaf : ℕ) (others : List Level) : Type 0 where
  pub last_first : walk_down w h leaf ≡ reverse (path_to_root w h leaf)
  -- it begins at the root, the tree's last node
  pub root : take 1 (walk_down w h leaf) ≡ (nodes w h - 1) ∷ []
  -- `opj_tgt_encode` and `opj_tgt_decode` walk down
  pub coded : reverse (path_in_code w h leaf others) ≡ walk_down w h leaf
  -- `opj_tgt_setvalue` climbs
  pub set : path_in_code w h leaf others ≡ path_to_root w h leaf

-- of every leaf of every shape
abbrev pub EveryWalkIsClimb : Type 0
EveryWalkIsClimb = (w h leaf : ℕ) (others : List Level) → w ≤ 64 → h ≤ 64 → leaf < w * h → WalkIsClimb w h leaf others
