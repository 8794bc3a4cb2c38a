-- Reading tag trees keeps each node in range, and the blocks' words.
use mathlib.Core.Path.{◌≡◌, refl, ◌∙◌, subst}
use mathlib.Core.Logic.{◌≢◌}
use mathlib.Core.List.{List, [], ◌∷◌, reverse}
use Prim.Native.Nat.{ℕ, zero, suc, ◌+◌, ◌-◌, ◌*◌, ◌≤◌, max}
use native.Mathlib.Nat.{max-le}
use native.Mathlib.Omega.{arith}
use lib.ListN.{length, get_or, set, length-set}
use lib.Seq.{get_or-set_same, get_or-set_other}
use lib.Dec.{ltb, eqb}
use borrow.Author.Tests.{ltb-true}
use Rattle.t800.specs.declared.Bio.{Bio}
use Rattle.t800.specs.Bits.{get_bit}
use Rattle.t800.specs.TagTree.{NodeRead, PathRead, value, low, read_node, read_path}
use Rattle.t800.specs.State.{Block, not_yet_planes, style}
use Rattle.t800.specs.WriteHeader.{is_new}
use Rattle.t800.specs.ReadHeader.{HeaderRead, read_zero_planes_from, read_zero_planes}
use Rattle.t800_laws.proofs.Laws.Tests.{either, either-by, on-eq}
use Rattle.t800_laws.proofs.Laws.Paths.{All, addresses}
use Rattle.t800_laws.proofs.Laws.Layout.{Tree, zero_planes, not_yet, tree_of, Layout, Placed, on-tree, from_root_nodes}
use Rattle.reads_in_range.proofs.Ranges.{NodeIn}

-- ---- one node

-- neither a node's value nor its low is read above both
node_up_to : (src : List ℕ) (steps v from : ℕ) (b : Bio) (most : ℕ) → v ≤ most → from ≤ most
    → ((read_node src steps v from b).value ≤ most) × ((read_node src steps v from b).low ≤ most)
unfolding read_node
node_up_to src zero v from b most h k = (h, k)
node_up_to src (suc steps) v from b most h k =
    let P : NodeRead → Type 0 = λ r. (r.value ≤ most) × (r.low ≤ most) in
    either-by P (ltb from v) _ _
    (λ t. let l = ltb-true from v t in
    either P (eqb (get_bit src b).value 0) _ _
    (node_up_to src steps v (from + 1) (get_bit src b).bio most h (omega arith)) (k, k))
    (λ _. (h, k))

-- ---- what a state keeps while a header is read

module _ (L : Layout) (s : ℕ) where
  pub record Here (ws : List ℕ) : Type 0 where
    pub nodes : (t : Tree) (a : ℕ) → L.Node t a → NodeIn (not_yet t) ws a
    pub style-is : style ws ≡ s
    pub long : length ws ≡ L.size

  -- the words of blocks
  abbrev pub SameBlocks : List ℕ → List ℕ → Type 0
  SameBlocks ws vs = (p : ℕ) → L.BlockAt p → (i : ℕ) → p ≤ i → i ≤ p + 3 → get_or vs i 0 ≡ get_or ws i 0

  pub record Read (ws vs : List ℕ) : Type 0 where
    pub here : Here vs
    pub blocks : SameBlocks ws vs

  pub none_read : (ws : List ℕ) → Here ws → Read ws ws
  none_read ws h = record { here = h; blocks = λ p b i l m. refl }

  then_read : (ws vs us : List ℕ) → Read ws vs → Read vs us → Read ws us
  then_read ws vs us a b = record { here = b.here; blocks = λ p q i l m. b.blocks p q i l m ∙ a.blocks p q i l m }

  -- value and low of one node are stored
  module _ (t : Tree) (a : ℕ) (n : L.Node t a) (ws : List ℕ) (v l : ℕ) (h : Here ws) (hv : v ≤ not_yet t) (hl : l ≤ not_yet t) where
    abbrev vs : List ℕ
    vs = set (set ws a v) (a + 1) l

    other : (i : ℕ) → i ≢ a → i ≢ a + 1 → get_or vs i 0 ≡ get_or ws i 0
    other i e f = get_or-set_other (set ws a v) (a + 1) i l 0 f ∙ get_or-set_other ws a i v 0 e

    inside : a + 3 ≤ length ws
    inside = omega (arith, L.node_in t a n, h.long)

    value-is : value vs a ≡ v
    value-is = get_or-set_other (set ws a v) (a + 1) a l 0 (omega arith) ∙ get_or-set_same ws a v 0 (omega (arith, inside))

    low-is : low vs a ≡ l
    low-is = get_or-set_same (set ws a v) (a + 1) l 0 (omega (arith, inside, length-set ws a v))

    same_node : (most b : ℕ) → get_or vs b 0 ≡ get_or ws b 0 → get_or vs (b + 1) 0 ≡ get_or ws (b + 1) 0 → get_or vs (b + 2) 0 ≡ get_or ws (b + 2) 0
        → NodeIn most ws b → NodeIn most vs b
    same_node most b x y z k =
        record { value_in = omega (arith, x, k.value_in); low-in = omega (arith, y, k.low-in); known_in = omega (arith, z, k.known_in) }

    apart_node : (u : Tree) (b : ℕ) → L.Node u b → a ≢ b → NodeIn (not_yet u) vs b
    apart_node u b m e =
        let p = L.nodes-apart t u a b n m e in
        same_node (not_yet u) b (other b (omega arith) (omega arith)) (other (b + 1) (omega arith) (omega arith))
        (other (b + 2) (omega arith) (omega arith)) (h.nodes u b m)

    own_node : NodeIn (not_yet t) vs a
    own_node =
        let k = h.nodes t a n in
        record {
          value_in = omega (arith, value-is, hv);
          low-in = omega (arith, low-is, hl);
          known_in = omega (arith, other (a + 2) (omega arith) (omega arith), k.known_in);
        }

    each_node : (u : Tree) (b : ℕ) → L.Node u b → NodeIn (not_yet u) vs b
    each_node u b m =
        on-tree L t u
        (λ e. on-eq a b (λ q. subst (NodeIn (not_yet u) vs) q (subst (λ (x : Tree). NodeIn (not_yet x) vs a) e own_node)) (apart_node u b m))
        (λ d. apart_node u b m (d a b n m))

    pub node_stored : Read ws vs
    node_stored = record {
      here = record {
        nodes = each_node;
        style-is = other 2 (omega (arith, L.node_in t a n)) (omega (arith, L.node_in t a n)) ∙ h.style-is;
        long = length-set (set ws a v) (a + 1) l ∙ length-set ws a v ∙ h.long;
      };
      blocks = λ p b i x y. let d = L.node_off_block t a p n b in other i (omega arith) (omega arith);
    }

  -- ---- a path

  pub path_read_lem : (src : List ℕ) (t : Tree) (base threshold : ℕ) (ns : List ℕ) (parent_low : ℕ) (ws : List ℕ) (b : Bio)
      → All (L.Node t) (addresses base ns) → parent_low ≤ not_yet t → Here ws
      → Read ws (read_path src base threshold ns parent_low ws b).words
  unfolding read_path
  path_read_lem src t base threshold [] parent_low ws b f k h = none_read ws h
  path_read_lem src t base threshold (n ∷ ns) parent_low ws b f k h =
      let a : ℕ = base + 3 * n in
      let old = h.nodes t a f.0 in
      let from : ℕ = max parent_low (low ws a) in
      let up : from ≤ not_yet t = max-le k old.low-in in
      let r : NodeRead = read_node src (threshold - from) (value ws a) from b in
      let new = node_up_to src (threshold - from) (value ws a) from b (not_yet t) old.value_in up in
      let one = node_stored t a f.0 ws r.value r.low h new.0 new.1 in
      let vs : List ℕ = set (set ws a r.value) (a + 1) r.low in
      then_read ws vs _ one (path_read_lem src t base threshold ns r.low vs r.bio f.1 new.1 one.here)

  -- ---- zero planes

  module _ (src : List ℕ) (k : Block) (P : Placed L k) where
    pub tree_read_lem : (t : Tree) (threshold : ℕ) (ws : List ℕ) (b : Bio) → Here ws
        → Read ws (read_path src (tree_of t k) threshold (reverse k.path) 0 ws b).words
    tree_read_lem t threshold ws b h =
        path_read_lem src t (tree_of t k) threshold (reverse k.path) 0 ws b (from_root_nodes L t k P) (omega arith) h

    planes_from : (bound threshold : ℕ) (ws : List ℕ) (b : Bio) → Here ws → Read ws (read_zero_planes_from src k bound threshold ws b).words
    unfolding read_zero_planes_from
    planes_from zero threshold ws b h = none_read ws h
    planes_from (suc bound) threshold ws b h =
        let r : PathRead = read_path src k.zero_tree threshold (reverse k.path) 0 ws b in
        let one = tree_read_lem zero_planes threshold ws b h in
        either (λ (x : PathRead). Read ws x.words) (ltb (value r.words (k.zero_tree + 3 * k.leaf)) threshold) _ _ one
        (then_read ws r.words _ one (planes_from bound (threshold + 1) r.words r.bio one.here))

    pub planes_read : (r : HeaderRead) → Here r.words → Read r.words (read_zero_planes src k r).words
    unfolding read_zero_planes
    planes_read r h =
        either (λ (x : PathRead). Read r.words x.words) (is_new r.words k) _ _
        (planes_from (not_yet_planes + 2) 0 r.words r.bio h) (none_read r.words h)
