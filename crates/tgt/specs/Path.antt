-- The nodes over a leaf, each from its level and place: `Laws.Path` says that they are t800's path from the leaf to the root.
use Rattle.std.specs.Prelude.{ℕ, ◌+◌, ◌-◌, ◌*◌, ◌/◌, ◌^◌, ◌≤◌, ◌<◌, List, [], ◌∷◌, ◌++◌, length, get_or, take, replicate}
use Rattle.t800.specs.declared.Level.{Level}
use Rattle.t800.specs.TagTree.{no_level}

-- on each level the first node of the row that lies over row y of the first, whose nodes are numbered from n on
unfoldable pub row_from : List Level → ℕ → ℕ → List ℕ
row_from [] n y = []
row_from (l ∷ ls) n y = (n + y * l.w) ∷ row_from ls (n + l.w * l.h) (y / 2)

-- all of a tree of that depth, in an array of seven
unfoldable pub row_over : List Level → ℕ → ℕ → List ℕ
row_over ls depth y = row_from (take depth ls) 0 y ++ replicate (7 - depth) 0

-- on each level the node that lies over column x of the first, in rows that begin with these nodes
unfoldable pub nodes_over : List ℕ → ℕ → List ℕ
nodes_over [] x = []
nodes_over (n ∷ ns) x = (n + x) ∷ nodes_over ns (x / 2)

-- from the leaf in column x to the root, in a tree of that depth
abbrev pub path_over : List ℕ → ℕ → ℕ → List ℕ
path_over row depth x = nodes_over (take depth row) x

-- the first word of that leaf in the tree at `base`
abbrev pub leaf_word : ℕ → List ℕ → ℕ → ℕ
leaf_word base row x = base + 3 * (get_or row 0 0 + x)

-- these nodes of the tree at `base` lie in a list of so many words
pub record PathIn (size base : ℕ) (row : List ℕ) (depth x : ℕ) : Type 0 where
  pub some : 0 < depth
  pub at_most_seven : depth ≤ 7
  pub long : depth ≤ length row
  pub inside : (i : ℕ) → i < depth → base + 3 * (get_or row i 0 + x / 2 ^ i) + 2 < size

-- the nodes on the first levels alone, of which there may be none
pub record NodesIn (size base : ℕ) (row : List ℕ) (levels x : ℕ) : Type 0 where
  pub at_most_seven : levels ≤ 7
  pub long : levels ≤ length row
  pub inside : (i : ℕ) → i < levels → base + 3 * (get_or row i 0 + x / 2 ^ i) + 2 < size

-- the levels of a tree of that depth, with sides up to 64
pub record SmallLevels (ls : List Level) (depth : ℕ) : Type 0 where
  pub at_most_seven : depth ≤ 7
  pub across : (i : ℕ) → i < depth → (get_or ls i no_level).w ≤ 64
  pub down : (i : ℕ) → i < depth → (get_or ls i no_level).h ≤ 64
