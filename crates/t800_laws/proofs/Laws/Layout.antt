-- Where the nodes and blocks of a state stand, and that they share no words. A `Layout` says what proofs about states ask of that;
-- `layout_of`
-- is that of a state with given bands, and `blocks-placed` says that its blocks stand in it.
use mathlib.Core.Path.{◌≡◌, refl, sym, ap, ◌∙◌, subst}
use mathlib.Core.Logic.{◌≢◌, ◌⊎◌, inl, inr}
use mathlib.Core.Bool.{cond}
use mathlib.Core.List.{List, [], ◌∷◌, ◌++◌, reverse}
use Prim.Native.Nat.{ℕ, zero, suc, ◌+◌, ◌-◌, ◌*◌, ◌/◌, ◌≤◌, ◌<◌}
use native.Mathlib.Nat.{le_trans, le_refl}
use native.Mathlib.Omega.{arith}
use lib.Dec.{ltb}
use Rattle.t800.specs.declared.Band.{Band}
use Rattle.t800.specs.TagTree.{parent_of, path_to_root}
use Rattle.t800.specs.State.{not_yet_included, not_yet_planes, Block, block_of, blocks_in, band_nodes, band_length, blocks_from}
use Rattle.t800.specs.State.{blocks_at, blocks, end_of}
use Rattle.t800_laws.proofs.Laws.Tests.{if-lt, if-ge}
use Rattle.t800_laws.proofs.Laws.Paths.{All, all_so, NotIn, Rising, rising_from, AllBelow, Ancestors, parent_in_tree}
use Rattle.t800_laws.proofs.Laws.Paths.{LeafPath}
use Rattle.t800_laws.proofs.Laws.Paths.{leaf_path, addresses, Apart, AllApart, all_addresses, lower_not_in, reversed_apart}
use Rattle.t800_laws.proofs.Laws.Paths.{address_ancestors, all_reversed}

-- ---- the two trees of a band

pub data Tree : Type 0 where
  inclusion zero_planes : Tree

-- its "not yet"
abbrev pub not_yet : Tree → ℕ
not_yet inclusion = not_yet_included
not_yet zero_planes = not_yet_planes

-- where a block's tree begins, and its leaf there
abbrev pub tree_of : Tree → Block → ℕ
tree_of inclusion k = k.incl_tree
tree_of zero_planes k = k.zero_tree

abbrev pub leaf_of : Tree → Block → ℕ
leaf_of t k = tree_of t k + 3 * k.leaf

-- ---- a layout

pub record Layout : Type 1 where
  -- a is the first word of a node of such a tree; p is the first word of a block
  pub Node : Tree → ℕ → Type 0
  pub BlockAt : ℕ → Type 0
  -- a node's parent; the root is its own
  pub parent : ℕ → ℕ
  pub size : ℕ
  pub other_tree : (a b : ℕ) → Node inclusion a → Node zero_planes b → a ≢ b
  pub parent_node : (t : Tree) (a : ℕ) → Node t a → Node t (parent a)
  pub node_in : (t : Tree) (a : ℕ) → Node t a → (13 ≤ a) × (a + 3 ≤ size)
  pub block_in : (p : ℕ) → BlockAt p → (13 ≤ p) × (p + 4 ≤ size)
  pub nodes-apart : (t u : Tree) (a b : ℕ) → Node t a → Node u b → a ≢ b → Apart a b
  pub node_off_block : (t : Tree) (a p : ℕ) → Node t a → BlockAt p → 0 < (a - (p + 3)) + (p - (a + 2))
  pub blocks-apart : (p q : ℕ) → BlockAt p → BlockAt q → p ≢ q → 4 ≤ (p - q) + (q - p)

-- a path from a leaf in a tree at `base`, with the nodes above the leaf
pub record PathIn (L : Layout) (t : Tree) (base leaf : ℕ) (above : List ℕ) : Type 0 where
  pub nodes : All (L.Node t) (addresses base (leaf ∷ above))
  pub ancestors : Ancestors L.parent (base + 3 * leaf) (addresses base above)
  pub apart : AllApart (addresses base (reverse (leaf ∷ above)))
  pub leaf_once : NotIn (base + 3 * leaf) (addresses base above)

-- block k stands in the layout
pub record Placed (L : Layout) (k : Block) : Type 0 where
  pub above : List ℕ
  pub path_is : k.path ≡ k.leaf ∷ above
  pub path : (t : Tree) → PathIn L t (tree_of t k) k.leaf above
  pub block : L.BlockAt k.at

-- two blocks share no words, and the first's leaves lie on none of the second's paths
pub record Separate (k j : Block) : Type 0 where
  pub places : k.at ≢ j.at
  pub leaf : (t : Tree) → NotIn (leaf_of t k) (addresses (tree_of t j) j.path)

abbrev pub SeparateFromAll : Block → List Block → Type 0
SeparateFromAll k [] = Unit {0}
SeparateFromAll k (j ∷ js) = (Separate k j × Separate j k) × SeparateFromAll k js

abbrev pub AllPlaced : Layout → List Block → Type 0
AllPlaced L [] = Unit {0}
AllPlaced L (k ∷ ks) = (Placed L k × SeparateFromAll k ks) × AllPlaced L ks

-- the same tree, or no node shared
pub on-tree {ℓ} : {X : Type ℓ} (L : Layout) (t u : Tree) → (t ≡ u → X) → (((a b : ℕ) → L.Node t a → L.Node u b → a ≢ b) → X) → X
on-tree L inclusion inclusion f g = f refl
on-tree L inclusion zero_planes f g = g (λ a b n m. L.other_tree a b n m)
on-tree L zero_planes inclusion f g = g (λ a b n m e. L.other_tree b a m n (sym e))
on-tree L zero_planes zero_planes f g = f refl

-- a node's second and third word are no node's first
pub second_no_node : (L : Layout) (t u : Tree) (a b : ℕ) → L.Node t a → L.Node u b → a + 1 ≢ b
second_no_node L t u a b n m e = let p = L.nodes-apart t u a b n m (omega arith) in omega arith

pub third_no_node : (L : Layout) (t u : Tree) (a b : ℕ) → L.Node t a → L.Node u b → a + 2 ≢ b
third_no_node L t u a b n m e = let p = L.nodes-apart t u a b n m (omega arith) in omega arith

-- ---- a block's path

abbrev pub leaf_to_root : Tree → Block → List ℕ
leaf_to_root t k = addresses (tree_of t k) k.path

abbrev pub root_to_leaf : Tree → Block → List ℕ
root_to_leaf t k = addresses (tree_of t k) (reverse k.path)

module _ (L : Layout) (t : Tree) (k : Block) (P : Placed L k) where
  pub leaf_node : L.Node t (leaf_of t k)
  leaf_node = (P.path t).nodes.0

  pub path_nodes : All (L.Node t) (leaf_to_root t k)
  path_nodes = subst (λ (z : List ℕ). All (L.Node t) (addresses (tree_of t k) z)) (sym P.path_is) (P.path t).nodes

  pub from_root_nodes : All (L.Node t) (root_to_leaf t k)
  from_root_nodes = all_reversed (L.Node t) (tree_of t k) k.path path_nodes

  pub from_root_apart : AllApart (root_to_leaf t k)
  from_root_apart = subst (λ (z : List ℕ). AllApart (addresses (tree_of t k) (reverse z))) (sym P.path_is) (P.path t).apart

-- ---- the layout of given bands, whose words begin at `at`

-- a is the first of n cells of m words from `from` on
abbrev Cell : ℕ → ℕ → ℕ → ℕ → Type 0
Cell from m n a = (j : ℕ) × (j < n) × (a ≡ from + m * j)

-- where a band's tree begins
abbrev pub tree_from : Tree → ℕ → Band → ℕ
tree_from inclusion at b = at
tree_from zero_planes at b = at + 3 * band_nodes b

abbrev pub NodeFrom : Tree → ℕ → List Band → ℕ → Type 0
NodeFrom t at [] a = ⊥
NodeFrom t at (b ∷ bs) a = Cell (tree_from t at b) 3 (band_nodes b) a ⊎ NodeFrom t (at + band_length b) bs a

abbrev pub BlockFrom : ℕ → List Band → ℕ → Type 0
BlockFrom at [] p = ⊥
BlockFrom at (b ∷ bs) p = Cell (at + 6 * band_nodes b) 4 (blocks_in b) p ⊎ BlockFrom (at + band_length b) bs p

pub band_length_lem : (b : Band) → band_length b ≡ 6 * band_nodes b + 4 * blocks_in b
unfolding band_length
band_length_lem b = refl

pub end_after : (at : ℕ) (bs : List Band) → at ≤ end_of at bs
unfolding end_of
end_after at [] = le_refl at
end_after at (b ∷ bs) = le_trans (omega arith) (end_after (at + band_length b) bs)

tree_in : (t : Tree) (at : ℕ) (b : Band) → (at ≤ tree_from t at b) × (tree_from t at b + 3 * band_nodes b ≤ at + 6 * band_nodes b)
tree_in inclusion at b = (omega arith, omega arith)
tree_in zero_planes at b = (omega arith, omega arith)

pub node_between : (t : Tree) (at : ℕ) (bs : List Band) (a : ℕ) → NodeFrom t at bs a → (at ≤ a) × (a + 3 ≤ end_of at bs)
unfolding end_of
node_between t at [] a n = absurd n
node_between t at (b ∷ bs) a (inl c) =
    let l = band_length_lem b in
    let m = end_after (at + band_length b) bs in
    let i = tree_in t at b in
    (omega (arith, c.1, c.2, i.0), omega (arith, c.1, c.2, i.1))
node_between t at (b ∷ bs) a (inr n) = let i = node_between t (at + band_length b) bs a n in (omega arith, i.1)

pub block_between : (at : ℕ) (bs : List Band) (p : ℕ) → BlockFrom at bs p → (at ≤ p) × (p + 4 ≤ end_of at bs)
unfolding end_of
block_between at [] p n = absurd n
block_between at (b ∷ bs) p (inl c) = let l = band_length_lem b in let m = end_after (at + band_length b) bs in
    (omega (arith, c.1, c.2), omega (arith, c.1, c.2))
block_between at (b ∷ bs) p (inr n) = let i = block_between (at + band_length b) bs p n in (omega arith, i.1)

pub other_tree_from : (at : ℕ) (bs : List Band) (a c : ℕ) → NodeFrom inclusion at bs a → NodeFrom zero_planes at bs c → a ≢ c
other_tree_from at [] a c n m = absurd n
other_tree_from at (b ∷ bs) a c (inl n) (inl m) = omega (arith, n.1, n.2, m.1, m.2)
other_tree_from at (b ∷ bs) a c (inl n) (inr m) = let i = (node_between zero_planes (at + band_length b) bs c m).0 in let l =
    band_length_lem b in omega (arith, n.1, n.2)
other_tree_from at (b ∷ bs) a c (inr n) (inl m) = let i = (node_between inclusion (at + band_length b) bs a n).0 in let l =
    band_length_lem b in omega (arith, m.1, m.2)
other_tree_from at (b ∷ bs) a c (inr n) (inr m) = other_tree_from (at + band_length b) bs a c n m

-- nodes of one band stand at multiples of three from its start
node_step : (t : Tree) (at : ℕ) (b : Band) (j : ℕ) → (i : ℕ) × (tree_from t at b + 3 * j ≡ at + 3 * i)
node_step inclusion at b j = (j, refl)
node_step zero_planes at b j = (band_nodes b + j, omega arith)

pub nodes-apart_from : (t u : Tree) (at : ℕ) (bs : List Band) (a c : ℕ) → NodeFrom t at bs a → NodeFrom u at bs c → a ≢ c → Apart a c
nodes-apart_from t u at [] a c n m e = absurd n
nodes-apart_from t u at (b ∷ bs) a c (inl n) (inl m) e =
    let i = node_step t at b n.0 in
    let j = node_step u at b m.0 in
    cells i.0 j.0 (n.2 ∙ i.1) (m.2 ∙ j.1)
  where
    cells : (i j : ℕ) → a ≡ at + 3 * i → c ≡ at + 3 * j → Apart a c
    cells i j p q = omega arith
nodes-apart_from t u at (b ∷ bs) a c (inl n) (inr m) e =
    let i = (node_between u (at + band_length b) bs c m).0 in let l = band_length_lem b in let k = tree_in t at b in
    omega (arith, n.1, n.2, k.1)
nodes-apart_from t u at (b ∷ bs) a c (inr n) (inl m) e =
    let i = (node_between t (at + band_length b) bs a n).0 in let l = band_length_lem b in let k = tree_in u at b in
    omega (arith, m.1, m.2, k.1)
nodes-apart_from t u at (b ∷ bs) a c (inr n) (inr m) e = nodes-apart_from t u (at + band_length b) bs a c n m e

pub node_off_block_from : (t : Tree) (at : ℕ) (bs : List Band) (a p : ℕ) → NodeFrom t at bs a → BlockFrom at bs p
    → 0 < (a - (p + 3)) + (p - (a + 2))
node_off_block_from t at [] a p n m = absurd n
node_off_block_from t at (b ∷ bs) a p (inl n) (inl m) = let k = tree_in t at b in omega (arith, n.1, n.2, m.1, m.2, k.1)
node_off_block_from t at (b ∷ bs) a p (inl n) (inr m) =
    let i = (block_between (at + band_length b) bs p m).0 in let l = band_length_lem b in let k = tree_in t at b in
    omega (arith, n.1, n.2, k.1)
node_off_block_from t at (b ∷ bs) a p (inr n) (inl m) = let i = (node_between t (at + band_length b) bs a n).0 in let l =
    band_length_lem b in omega (arith, m.1, m.2)
node_off_block_from t at (b ∷ bs) a p (inr n) (inr m) = node_off_block_from t (at + band_length b) bs a p n m

pub blocks-apart_from : (at : ℕ) (bs : List Band) (p q : ℕ) → BlockFrom at bs p → BlockFrom at bs q → p ≢ q → 4 ≤ (p - q) + (q - p)
blocks-apart_from at [] p q n m e = absurd n
blocks-apart_from at (b ∷ bs) p q (inl n) (inl m) e = cells n.0 m.0 n.2 m.2
  where
    cells : (i j : ℕ) → p ≡ at + 6 * band_nodes b + 4 * i → q ≡ at + 6 * band_nodes b + 4 * j → 4 ≤ (p - q) + (q - p)
    cells i j x y = omega arith
blocks-apart_from at (b ∷ bs) p q (inl n) (inr m) e = let i = (block_between (at + band_length b) bs q m).0 in let l =
    band_length_lem b in omega (arith, n.1, n.2)
blocks-apart_from at (b ∷ bs) p q (inr n) (inl m) e = let i = (block_between (at + band_length b) bs p n).0 in let l =
    band_length_lem b in omega (arith, m.1, m.2)
blocks-apart_from at (b ∷ bs) p q (inr n) (inr m) e = blocks-apart_from (at + band_length b) bs p q n m e

-- ---- parents, by address

abbrev parent_in : ℕ → Band → ℕ → ℕ
parent_in base b a = base + 3 * parent_of b.across b.down ((a - base) / 3)

unfoldable pub parent_at : ℕ → List Band → ℕ → ℕ
parent_at at [] a = a
parent_at at (b ∷ bs) a =
    let later = parent_at (at + band_length b) bs a in
    cond (ltb a (at + 3 * band_nodes b)) (parent_in at b a) (cond (ltb a (at + 6 * band_nodes b)) (parent_in (at + 3 * band_nodes b) b a) later)

number_back : (base j : ℕ) → (base + 3 * j - base) / 3 ≡ j
number_back base j = omega arith

parent_here : (t : Tree) (at : ℕ) (b : Band) (bs : List Band) (j : ℕ) → j < band_nodes b
    → parent_at at (b ∷ bs) (tree_from t at b + 3 * j) ≡ tree_from t at b + 3 * parent_of b.across b.down j
unfolding parent_at
parent_here inclusion at b bs j h =
    if-lt (at + 3 * j) (at + 3 * band_nodes b) _ _ (omega arith)
    ∙ ap (λ (z : ℕ). at + 3 * parent_of b.across b.down z) (number_back at j)
parent_here zero_planes at b bs j h =
    if-ge (at + 3 * band_nodes b + 3 * j) (at + 3 * band_nodes b) _ _ (omega arith)
    ∙ if-lt (at + 3 * band_nodes b + 3 * j) (at + 6 * band_nodes b) _ _ (omega arith)
    ∙ ap (λ (z : ℕ). at + 3 * band_nodes b + 3 * parent_of b.across b.down z) (number_back (at + 3 * band_nodes b) j)

parent_later : (at : ℕ) (b : Band) (bs : List Band) (a : ℕ) → at + band_length b ≤ a → parent_at at (b ∷ bs) a
    ≡ parent_at (at + band_length b) bs a
unfolding parent_at
parent_later at b bs a h =
    let l = band_length_lem b in
    if-ge a (at + 3 * band_nodes b) _ _ (omega arith) ∙ if-ge a (at + 6 * band_nodes b) _ _ (omega arith)

parent_in_band : (b : Band) (j : ℕ) → j < band_nodes b → parent_of b.across b.down j < band_nodes b
unfolding band_nodes
parent_in_band b j h = parent_in_tree b.across b.down j h

pub parent_node_from : (t : Tree) (at : ℕ) (bs : List Band) (a : ℕ) → NodeFrom t at bs a → NodeFrom t at bs (parent_at at bs a)
parent_node_from t at [] a n = absurd n
parent_node_from t at (b ∷ bs) a (inl n) =
    inl (
      parent_of b.across b.down n.0,
      parent_in_band b n.0 n.1,
      ap (parent_at at (b ∷ bs)) n.2
          ∙ parent_here t at b bs n.0 n.1,
    )
parent_node_from t at (b ∷ bs) a (inr n) =
    inr (subst (NodeFrom t (at + band_length b) bs) (sym (parent_later at b bs a (node_between t (at + band_length b) bs a n).0))
    (parent_node_from t (at + band_length b) bs a n))

-- ---- the whole state

abbrev pub layout_of : List Band → Layout
layout_of bs = record {
  Node = λ t. NodeFrom t 13 bs;
  BlockAt = BlockFrom 13 bs;
  parent = parent_at 13 bs;
  size = end_of 13 bs;
  other_tree = other_tree_from 13 bs;
  parent_node = λ t. parent_node_from t 13 bs;
  node_in = λ t. node_between t 13 bs;
  block_in = block_between 13 bs;
  nodes-apart = λ t u. nodes-apart_from t u 13 bs;
  node_off_block = λ t. node_off_block_from t 13 bs;
  blocks-apart = blocks-apart_from 13 bs;
}

-- ---- its blocks

-- all words of a block and its leaf's paths lie from m on, or before m
pub record From (m : ℕ) (k : Block) : Type 0 where
  pub place : m ≤ k.at
  pub leaf : (t : Tree) → m ≤ leaf_of t k
  pub path : (t : Tree) → All (λ a. m ≤ a) (addresses (tree_of t k) k.path)

record Before (m : ℕ) (k : Block) : Type 0 where
  place : k.at < m
  leaf : (t : Tree) → leaf_of t k < m
  path : (t : Tree) → All (λ a. a < m) (addresses (tree_of t k) k.path)

abbrev pub AllFrom : ℕ → List Block → Type 0
AllFrom m [] = Unit {0}
AllFrom m (k ∷ ks) = From m k × AllFrom m ks

not_in_from : (a m : ℕ) (xs : List ℕ) → a < m → All (λ b. m ≤ b) xs → NotIn a xs
not_in_from a m [] h g = tt
not_in_from a m (b ∷ xs) h g = (omega (arith, g.0), not_in_from a m xs h g.1)

not_in_before : (a m : ℕ) (xs : List ℕ) → m ≤ a → All (λ b. b < m) xs → NotIn a xs
not_in_before a m [] h g = tt
not_in_before a m (b ∷ xs) h g = (omega (arith, g.0), not_in_before a m xs h g.1)

sides_separate : (m : ℕ) (k j : Block) → Before m k → From m j → Separate k j × Separate j k
sides_separate m k j u b = (
  record {
    places = omega (arith, u.place, b.place);
    leaf = λ t. not_in_from (leaf_of t k) m (addresses (tree_of t j) j.path) (u.leaf t) (b.path t);
  },
  record {
    places = omega (arith, u.place, b.place);
    leaf = λ t. not_in_before (leaf_of t j) m (addresses (tree_of t k) k.path) (b.leaf t) (u.path t);
  },
)

separate_from : (m : ℕ) (k : Block) (js : List Block) → Before m k → AllFrom m js → SeparateFromAll k js
separate_from m k [] u b = tt
separate_from m k (j ∷ js) u b = (sides_separate m k j u b.0, separate_from m k js u b.1)

all_from_less : (m n : ℕ) (ks : List Block) → m ≤ n → AllFrom n ks → AllFrom m ks
all_from_less m n [] h b = tt
all_from_less m n (k ∷ ks) h b = (
  record {
    place = le_trans h b.0.place;
    leaf = λ t. le_trans h (b.0.leaf t);
    path = λ t. all_so _ (λ a. m ≤ a) (addresses (tree_of t k) k.path) (λ a l. le_trans h l) (b.0.path t);
  },
  all_from_less m n ks h b.1,
)

all_from_append : (m : ℕ) (ks js : List Block) → AllFrom m ks → AllFrom m js → AllFrom m (ks ++ js)
all_from_append m [] js a b = b
all_from_append m (k ∷ ks) js a b = (a.0, all_from_append m ks js a.1 b)

separate_append : (k : Block) (is js : List Block) → SeparateFromAll k is → SeparateFromAll k js → SeparateFromAll k (is ++ js)
separate_append k [] js a b = b
separate_append k (i ∷ is) js a b = (a.0, separate_append k is js a.1 b)

-- block i of a band
module _ (b : Band) (i : ℕ) (h : i < blocks_in b) where
  leaf_path_in : LeafPath b.across b.down i
  unfolding blocks_in
  leaf_path_in = leaf_path b.across b.down i h

  abbrev on : List ℕ
  on = leaf_path_in.above

  below : AllBelow (band_nodes b) (i ∷ on)
  unfolding band_nodes
  below = leaf_path_in.below

  above_leaves : Rising (blocks_in b) on
  unfolding blocks_in
  above_leaves = leaf_path_in.rising

  rising : Rising 0 (i ∷ on)
  rising = (omega arith, rising_from (i + 1) (blocks_in b) on (omega arith) above_leaves)

  all_path : (P : ℕ → Type 0) (base : ℕ) → ((j : ℕ) → j < band_nodes b → P (base + 3 * j))
      → All P (addresses base (path_to_root b.across b.down i))
  all_path P base f = subst (λ (z : List ℕ). All P (addresses base z)) (sym leaf_path_in.is)
      (all_addresses P base (band_nodes b) (i ∷ on) f below)

  -- another leaf is not on this one's path
  not_on_path : (base j : ℕ) → j < blocks_in b → j ≢ i → NotIn (base + 3 * j) (addresses base (path_to_root b.across b.down i))
  not_on_path base j l e =
      subst (λ (z : List ℕ). NotIn (base + 3 * j) (addresses base z)) (sym leaf_path_in.is)
      (omega arith, lower_not_in base j (blocks_in b) on l above_leaves)

  block_from : (at : ℕ) → From at (block_of at b i)
  block_from at = record { place = omega arith; leaf = leaf; path = path }
    where
      leaf : (t : Tree) → at ≤ leaf_of t (block_of at b i)
      leaf inclusion = omega arith
      leaf zero_planes = omega arith

      path : (t : Tree) → All (λ a. at ≤ a) (addresses (tree_of t (block_of at b i)) (path_to_root b.across b.down i))
      path inclusion = all_path (λ a. at ≤ a) at (λ j l. omega arith)
      path zero_planes = all_path (λ a. at ≤ a) (at + 3 * band_nodes b) (λ j l. omega arith)

  block_before : (at : ℕ) → Before (at + band_length b) (block_of at b i)
  block_before at = record { place = (let l = band_length_lem b in omega arith); leaf = leaf; path = path }
    where
      leaf : (t : Tree) → leaf_of t (block_of at b i) < at + band_length b
      leaf inclusion = let l = band_length_lem b in omega (arith, below.0)
      leaf zero_planes = let l = band_length_lem b in omega (arith, below.0)

      path : (t : Tree) → All (λ a. a < at + band_length b) (addresses (tree_of t (block_of at b i)) (path_to_root b.across b.down i))
      path inclusion = let l = band_length_lem b in all_path (λ a. a < at + band_length b) at (λ j g. omega arith)
      path zero_planes = let l = band_length_lem b in all_path (λ a. a < at + band_length b) (at + 3 * band_nodes b) (λ j g. omega arith)

two_separate : (at : ℕ) (b : Band) (i j : ℕ) → i < blocks_in b → j < blocks_in b → i ≢ j → Separate (block_of at b i) (block_of at b j)
two_separate at b i j h g e = record { places = omega arith; leaf = leaf }
  where
    leaf : (t : Tree) → NotIn (leaf_of t (block_of at b i)) (addresses (tree_of t (block_of at b j)) (path_to_root b.across b.down j))
    leaf inclusion = not_on_path b j g at i h e
    leaf zero_planes = not_on_path b j g (at + 3 * band_nodes b) i h e

separate_in_band : (at : ℕ) (b : Band) (i n j : ℕ) → i < j → j + n ≤ blocks_in b → SeparateFromAll (block_of at b i) (blocks_from at b n j)
unfolding blocks_from
separate_in_band at b i zero j h l = tt
separate_in_band at b i (suc n) j h l = (
  (
    two_separate at b i j (omega arith) (omega arith) (omega arith),
    two_separate at b j i (omega arith) (omega arith) (omega arith),
  ),
  separate_in_band at b i n (j + 1) (omega arith) (omega arith),
)

band_from : (at : ℕ) (b : Band) (n j : ℕ) → j + n ≤ blocks_in b → AllFrom at (blocks_from at b n j)
unfolding blocks_from
band_from at b zero j l = tt
band_from at b (suc n) j l = (block_from b j (omega arith) at, band_from at b n (j + 1) (omega arith))

pub bands-from : (at : ℕ) (bs : List Band) → AllFrom at (blocks_at at bs)
unfolding blocks_at
bands-from at [] = tt
bands-from at (b ∷ bs) =
    all_from_append at (blocks_from at b (blocks_in b) 0) (blocks_at (at + band_length b) bs) (band_from at b (blocks_in b) 0 (omega arith))
    (all_from_less at (at + band_length b) (blocks_at (at + band_length b) bs) (omega arith) (bands-from (at + band_length b) bs))

-- how the bands from `at` on lie in a layout
record LiesIn (L : Layout) (at : ℕ) (bs : List Band) : Type 0 where
  node : (t : Tree) (a : ℕ) → NodeFrom t at bs a → L.Node t a
  block : (p : ℕ) → BlockFrom at bs p → L.BlockAt p
  parent : (t : Tree) (a : ℕ) → NodeFrom t at bs a → L.parent a ≡ parent_at at bs a

lies_later : (L : Layout) (at : ℕ) (b : Band) (bs : List Band) → LiesIn L at (b ∷ bs) → LiesIn L (at + band_length b) bs
lies_later L at b bs l =
    record {
      node = λ t a n. l.node t a (inr n);
      block = λ p n. l.block p (inr n);
      parent = λ t a n. l.parent t a (inr n) ∙ parent_later at b bs a (node_between t (at + band_length b) bs a n).0;
    }

block_placed : (L : Layout) (at : ℕ) (b : Band) (bs : List Band) (i : ℕ) → i < blocks_in b → LiesIn L at (b ∷ bs) → Placed L (block_of at b i)
block_placed L at b bs i h l =
    record {
      above = on b i h;
      path_is = (leaf_path_in b i h).is;
      path = path;
      block = l.block (at + 6 * band_nodes b + 4 * i) (inl (i, h, refl));
    }
  where
    path_in : (t : Tree) → PathIn L t (tree_from t at b) i (on b i h)
    path_in t = record {
      nodes = all_addresses (L.Node t) (tree_from t at b) (band_nodes b) (i ∷ on b i h)
          (λ j g. l.node t (tree_from t at b + 3 * j) (inl (j, g, refl))) (below b i h);
      ancestors = address_ancestors L.parent (parent_of b.across b.down) (tree_from t at b) (band_nodes b) i (on b i h)
          (λ j g. l.parent t (tree_from t at b + 3 * j) (inl (j, g, refl)) ∙ parent_here t at b bs j g) (below b i h)
          (leaf_path_in b i h).ancestors;
      apart = reversed_apart (tree_from t at b) 0 (i ∷ on b i h) (rising b i h);
      leaf_once = lower_not_in (tree_from t at b) i (blocks_in b) (on b i h) h (above_leaves b i h);
    }

    path : (t : Tree) → PathIn L t (tree_of t (block_of at b i)) i (on b i h)
    path inclusion = path_in inclusion
    path zero_planes = path_in zero_planes

band_placed : (L : Layout) (at : ℕ) (b : Band) (bs : List Band) (n i : ℕ) (rest : List Block) → i + n ≤ blocks_in b
    → LiesIn L at (b ∷ bs) → AllFrom (at + band_length b) rest → AllPlaced L rest
    → AllPlaced L (blocks_from at b n i ++ rest)
unfolding blocks_from
band_placed L at b bs zero i rest h l r f = f
band_placed L at b bs (suc n) i rest h l r f = (
  (
    block_placed L at b bs i (omega arith) l,
    separate_append (block_of at b i) (blocks_from at b n (i + 1)) rest (separate_in_band at b i n (i + 1) (omega arith) (omega arith))
        (separate_from (at + band_length b) (block_of at b i) rest (block_before b i (omega arith) at) r),
  ),
  band_placed L at b bs n (i + 1) rest (omega arith) l r f,
)

bands-placed : (L : Layout) (at : ℕ) (bs : List Band) → LiesIn L at bs → AllPlaced L (blocks_at at bs)
unfolding blocks_at
bands-placed L at [] l = tt
bands-placed L at (b ∷ bs) l =
    band_placed L at b bs (blocks_in b) 0 (blocks_at (at + band_length b) bs) (omega arith) l (bands-from (at + band_length b) bs)
    (bands-placed L (at + band_length b) bs (lies_later L at b bs l))

pub blocks-placed : (bs : List Band) → AllPlaced (layout_of bs) (blocks bs)
unfolding blocks
blocks-placed bs = bands-placed (layout_of bs) 13 bs (record { node = λ t a n. n; block = λ p n. n; parent = λ t a n. refl })
