-- All trees of a state at once. Coding a block's path changes lows and knowns of its nodes alone; the reader of its bits ends where they
-- end, sees the same side of the threshold, and every node is in sync again. Zero planes likewise, read by raising the threshold.
use mathlib.Core.Path.{◌≡◌, refl, sym, ap, ap₂, ◌∙◌, subst, subst₂}
use mathlib.Core.Logic.{◌≢◌}
use mathlib.Core.List.{List, [], ◌∷◌, reverse, reverse_aux}
use Prim.Native.Nat.{ℕ, zero, suc, ◌+◌, ◌*◌, ◌≤◌, ◌<◌, max, zero-le}
use native.Mathlib.Nat.{le_trans, le_of_eq}
use native.Mathlib.Omega.{arith}
use lib.ListN.{length, get_or, set}
use lib.Seq.{get_or-set_other}
use lib.Dec.{ltb}
use Rattle.t800.specs.declared.Bio.{Bio}
use Rattle.t800.specs.TagTree.{PathRead, value, low_after, code_path, read_path}
use Rattle.t800.specs.State.{Block, not_yet_planes}
use Rattle.t800.specs.ReadHeader.{read_zero_planes_from}
use Rattle.t800_laws.proofs.Laws.Tests.{on-eq, on-lt, if-lt, if-ge}
use Rattle.t800_laws.proofs.Laws.Paths.{All, all_so, addresses, Clear, Apart, ApartFromAll, AllApart, Ancestors}
use Rattle.t800_laws.proofs.Laws.Layout.{Tree, zero_planes, not_yet, tree_of, leaf_of, Layout, Placed, on-tree, root_to_leaf, from_root_nodes}
use Rattle.t800_laws.proofs.Laws.Layout.{from_root_apart, second_no_node, third_no_node}
use Rattle.t800_laws.proofs.Laws.SetLeaf.{Ordered}
use Rattle.round_trip.proofs.Trip.Bits.{Reads}
use Rattle.round_trip.proofs.Trip.Nodes.{Node, NodesRead, read_all, leaf_value, raise_from, Sync, AllSync, nil, cons, Increasing}
use Rattle.round_trip.proofs.Trip.NodeSync.{path_sync}
use Rattle.round_trip.proofs.Trip.ZeroPlanes.{zero_planes_read, raise_stops, raise_goes_on, same_side}
use Rattle.round_trip.proofs.Trip.NodeWords.{node_at, nodes_at, PathChanged, CodedAs, coded-as, read_as}

-- ---- words that are no node's

-- word i is no node's
abbrev pub OffNodes : Layout → ℕ → Type 0
OffNodes L i = (t : Tree) (a : ℕ) → L.Node t a → Clear i a

-- outside the nodes nothing changes
abbrev pub NodesOnly : Layout → List ℕ → List ℕ → Type 0
NodesOnly L ws vs = (i : ℕ) → OffNodes L i → get_or vs i 0 ≡ get_or ws i 0

all_clear : (L : Layout) (t : Tree) (i : ℕ) (xs : List ℕ) → OffNodes L i → All (L.Node t) xs → All (Clear i) xs
all_clear L t i xs f h = all_so (L.Node t) (Clear i) xs (f t) h

inside : (L : Layout) (t : Tree) (n : ℕ) (xs : List ℕ) → n ≡ L.size → All (L.Node t) xs → All (λ a. a + 3 ≤ n) xs
inside L t n xs e h = all_so (L.Node t) (λ a. a + 3 ≤ n) xs (λ a m. omega (arith, (L.node_in t a m).1)) h

-- ---- what coding a path keeps

pub record LowsOnly (L : Layout) (ws vs : List ℕ) : Type 0 where
  pub long : length vs ≡ length ws
  pub off : NodesOnly L ws vs
  pub values : (t : Tree) (a : ℕ) → L.Node t a → value vs a ≡ value ws a

-- word i is neither the low nor the known of the node at a
abbrev pub OffLow : (i a : ℕ) → Type 0
OffLow i a = (i ≢ a + 1) × (i ≢ a + 2)

pub value-off_low : (L : Layout) (t u : Tree) (a b : ℕ) → L.Node t a → L.Node u b → OffLow a b
value-off_low L t u a b n m = ((λ e. second_no_node L u t b a m n (sym e)), (λ e. third_no_node L u t b a m n (sym e)))

pub off_lows_stay : (base t : ℕ) (ns : List ℕ) (l : ℕ) (ws : List ℕ) (i : ℕ) → All (OffLow i) (addresses base ns)
    → get_or (code_path base t ns l ws).words i 0 ≡ get_or ws i 0
unfolding code_path
off_lows_stay base t [] l ws i h = refl
off_lows_stay base t (n ∷ ns) l ws i h =
    let a : ℕ = base + 3 * n in
    let to : ℕ = low_after (get_or ws a 0) (max l (get_or ws (a + 1) 0)) t in
    off_lows_stay base t ns to _ i h.1
    ∙ get_or-set_other (set ws (a + 1) to) (a + 2) i _ 0 h.0.1
    ∙ get_or-set_other ws (a + 1) i to 0 h.0.0

module _ (L : Layout) (u : Tree) (k : Block) (P : Placed L k) where
  pub path_coded : (t : ℕ) (ws : List ℕ) → length ws ≡ L.size → CodedAs (tree_of u k) t (reverse k.path) 0 ws
  path_coded t ws wl =
      coded-as (tree_of u k) t (reverse k.path) 0 ws (from_root_apart L u k P)
      (inside L u (length ws) (root_to_leaf u k) wl (from_root_nodes L u k P))

  pub coding_keeps : (t : ℕ) (ws : List ℕ) → length ws ≡ L.size → LowsOnly L ws (code_path (tree_of u k) t (reverse k.path) 0 ws).words
  coding_keeps t ws wl =
      let c = path_coded t ws wl in
      record {
        long = c.words.long;
        off = λ i f. c.words.clear i (all_clear L u i (root_to_leaf u k) f (from_root_nodes L u k P));
        values = λ x a n. off_lows_stay (tree_of u k) t (reverse k.path) 0 ws a
            (all_so (L.Node u) (OffLow a) (root_to_leaf u k) (λ b m. value-off_low L x u a b n m) (from_root_nodes L u k P));
      }

-- ---- sync

abbrev pub SyncAll : Layout → List ℕ → List ℕ → Type 0
SyncAll L ws rs = (t : Tree) (a : ℕ) → L.Node t a → Sync (not_yet t) (node_at ws a) (node_at rs a)

-- the leaf is the last node from the root
last_of : (base : ℕ) (ws js : List ℕ) (j v : ℕ) (below : List ℕ)
    → leaf_value v (nodes_at ws (addresses base (reverse_aux js (j ∷ below))))
    ≡ leaf_value (get_or ws (base + 3 * j) 0) (nodes_at ws (addresses base below))
last_of base ws [] j v below = refl
last_of base ws (i ∷ js) j v below = last_of base ws js i v (j ∷ below)

-- where no value changes, the order stays
pub ordered_same : (L : Layout) (ws vs : List ℕ) → ((u : Tree) (a : ℕ) → L.Node u a → value vs a ≡ value ws a) → Ordered L ws
    → Ordered L vs
ordered_same L ws vs s o u a n =
    le_trans (le_of_eq (s u (L.parent a) (L.parent_node u a n))) (le_trans (o u a n) (le_of_eq (sym (s u a n))))

-- in an ordered tree values increase from the root
increases : (L : Layout) (t : Tree) (base : ℕ) (ws js : List ℕ) (j : ℕ) (below : List ℕ) → All (L.Node t) (addresses base (j ∷ js))
    → Ancestors L.parent (base + 3 * j) (addresses base js) → Ordered L ws
    → Increasing (get_or ws (base + 3 * j) 0) (nodes_at ws (addresses base below))
    → Increasing 0 (nodes_at ws (addresses base (reverse_aux (j ∷ js) below)))
increases L t base ws [] j below h c o d = (zero-le, d)
increases L t base ws (k ∷ ks) j below h c o d =
    increases L t base ws ks k (j ∷ below) h.1 c.1 o ((rw c.0 (o t (base + 3 * j) h.0)), d)

pub increasing_path : (L : Layout) (u : Tree) (k : Block) → Placed L k → (ws : List ℕ) → Ordered L ws
    → Increasing 0 (nodes_at ws (root_to_leaf u k))
increasing_path L u k P ws o =
    subst (λ (z : List ℕ). Increasing 0 (nodes_at ws (addresses (tree_of u k) (reverse z)))) (sym P.path_is)
    (increases L u (tree_of u k) ws P.above k.leaf [] (P.path u).nodes (P.path u).ancestors o tt)

to_path : (L : Layout) (t : Tree) (ws rs xs : List ℕ) → All (L.Node t) xs → SyncAll L ws rs
    → AllSync (not_yet t) (nodes_at ws xs) (nodes_at rs xs)
to_path L t ws rs [] h y = nil
to_path L t ws rs (a ∷ xs) h y = cons (y t a h.0) (to_path L t ws rs xs h.1 y)

-- a node of the same tree is on the path or apart from it
from_path : (L : Layout) (t : Tree) (a : ℕ) (ws rs xs : List ℕ) → L.Node t a → All (L.Node t) xs
    → AllSync (not_yet t) (nodes_at ws xs) (nodes_at rs xs)
    → (ApartFromAll a xs → Sync (not_yet t) (node_at ws a) (node_at rs a)) → Sync (not_yet t) (node_at ws a) (node_at rs a)
from_path L t a ws rs [] n h y f = f tt
from_path L t a ws rs (b ∷ xs) n h (cons y ys) f =
    on-eq a b
    (λ e. rw e y)
    (λ e. from_path L t a ws rs xs n h.1 ys (λ o. f (L.nodes-apart t t a b n h.0 e, o)))

pub all_apart : (L : Layout) (t u : Tree) (a : ℕ) (xs : List ℕ) → L.Node t a → All (L.Node u) xs
    → ((a b : ℕ) → L.Node t a → L.Node u b → a ≢ b) → ApartFromAll a xs
all_apart L t u a xs n h f = all_so (L.Node u) (Apart a) xs (λ b m. L.nodes-apart t u a b n m (f a b n m)) h

-- both sides changed the nodes at xs, which are in sync; so all are
rejoin : (L : Layout) (u : Tree) (ws rs vs us xs : List ℕ) (ns ms : List Node) → All (L.Node u) xs → SyncAll L ws rs
    → PathChanged ws vs xs ns → PathChanged rs us xs ms → AllSync (not_yet u) ns ms
    → SyncAll L vs us
rejoin L u ws rs vs us xs ns ms h y p q z t a n =
    let apart : ApartFromAll a xs
    → Sync (not_yet t) (node_at vs a) (node_at us a) = λ o. subst₂ (Sync (not_yet t)) (sym (p.off a o)) (sym (q.off a o)) (y t a n) in
    on-tree L t u
    (λ e. let on : AllSync (not_yet t) (nodes_at vs xs) (nodes_at us xs) = subst
    (λ (w : Tree). AllSync (not_yet w) (nodes_at vs xs) (nodes_at us xs)) (sym e)
    (subst₂ (AllSync (not_yet u)) (sym p.nodes) (sym q.nodes) z) in
    from_path L t a vs us xs n (subst (λ (w : Tree). All (L.Node w) xs) (sym e) h) on apart)
    (λ f. apart (all_apart L t u a xs n h f))

-- words in which nodes alone changed
pub record NodesChanged (L : Layout) (rs us : List ℕ) : Type 0 where
  pub long : length us ≡ length rs
  pub off : NodesOnly L rs us

module _ (L : Layout) (u : Tree) (k : Block) (P : Placed L k) (ws rs : List ℕ) (wl : length ws ≡ L.size) (rl : length rs ≡ L.size)
    (y : SyncAll L ws rs) (o : Ordered L ws) where
  abbrev xs : List ℕ
  xs = root_to_leaf u k

  leaf_last : (vs : List ℕ) → leaf_value 0 (nodes_at vs xs) ≡ value vs (leaf_of u k)
  leaf_last vs = subst (λ (z : List ℕ). leaf_value 0 (nodes_at vs (addresses (tree_of u k) (reverse z))) ≡ value vs (leaf_of u k))
      (sym P.path_is) (last_of (tree_of u k) vs P.above k.leaf 0 [])

  on_path : AllSync (not_yet u) (nodes_at ws xs) (nodes_at rs xs)
  on_path = to_path L u ws rs xs (from_root_nodes L u k P) y

  path_in_reader : All (λ a. a + 3 ≤ length rs) xs
  path_in_reader = inside L u (length rs) xs rl (from_root_nodes L u k P)

  pub path_read_lem : (s : List ℕ) (t : ℕ) (b e : Bio) → t ≤ not_yet u → Reads s b (code_path (tree_of u k) t (reverse k.path) 0 ws).bits e
      → ((read_path s (tree_of u k) t (reverse k.path) 0 rs b).bio ≡ e)
      × SyncAll L (code_path (tree_of u k) t (reverse k.path) 0 ws).words (read_path s (tree_of u k) t (reverse k.path) 0 rs b).words
      × NodesChanged L rs (read_path s (tree_of u k) t (reverse k.path) 0 rs b).words
      × (ltb (value (read_path s (tree_of u k) t (reverse k.path) 0 rs b).words (leaf_of u k)) t ≡ ltb (value ws (leaf_of u k)) t)
  path_read_lem s t b e ht r =
      let c = path_coded L u k P t ws wl in
      let us : List ℕ = (read_path s (tree_of u k) t (reverse k.path) 0 rs b).words in
      let d = read_as s (tree_of u k) t (reverse k.path) 0 rs b (from_root_apart L u k P) path_in_reader in
      let i = increasing_path L u k P ws o in
      let q = path_sync (not_yet u) s t 0 b e ht i on_path (rw c.bits at r) in
      let side = same_side t 0 i on_path q.1 in (
        d.bio ∙ q.0,
        rejoin L u ws rs _ _ xs _ _ (from_root_nodes L u k P) y c.words d.words q.1,
        record { long = d.words.long; off = λ i f. d.words.clear i (all_clear L u i xs f (from_root_nodes L u k P)) },
        ap (λ (z : ℕ). ltb z t) (sym (leaf_last us) ∙ ap (leaf_value 0) d.words.nodes) ∙ side ∙ ap (λ (z : ℕ). ltb z t) (leaf_last ws),
      )

-- ---- zero planes, coded with the mark as threshold and read by raising it

changed_twice : (ws vs us xs : List ℕ) (ns ms : List Node) → PathChanged ws vs xs ns → PathChanged vs us xs ms → PathChanged ws us xs ms
changed_twice ws vs us xs ns ms p q =
    record {
      nodes = q.nodes;
      off = λ a o. q.off a o ∙ p.off a o;
      clear = λ i c. q.clear i c ∙ p.clear i c;
      long = q.long ∙ p.long;
    }

record RaisedAs (rs xs : List ℕ) (r : PathRead) (g : NodesRead) : Type 0 where
  bio : r.bio ≡ g.bio
  words : PathChanged rs r.words xs g.nodes

module _ (L : Layout) (k : Block) (P : Placed L k) (s : List ℕ) where
  abbrev zs : List ℕ
  zs = root_to_leaf zero_planes k

  abbrev turn : ℕ → List ℕ → Bio → PathRead
  turn t rs b = read_path s k.zero_tree t (reverse k.path) 0 rs b

  last_zero : (vs : List ℕ) → leaf_value 0 (nodes_at vs zs) ≡ value vs (leaf_of zero_planes k)
  last_zero vs = subst
      (λ (z : List ℕ). leaf_value 0 (nodes_at vs (addresses k.zero_tree (reverse z))) ≡ value vs (leaf_of zero_planes k))
      (sym P.path_is) (last_of k.zero_tree vs P.above k.leaf 0 [])

  turn_stops : (f t : ℕ) (rs : List ℕ) (b : Bio) → value (turn t rs b).words (leaf_of zero_planes k) < t
      → read_zero_planes_from s k (suc f) t rs b ≡ turn t rs b
  unfolding read_zero_planes_from
  turn_stops f t rs b h = if-lt (value (turn t rs b).words (leaf_of zero_planes k)) t _ _ h

  turn_goes_on : (f t : ℕ) (rs : List ℕ) (b : Bio) → t ≤ value (turn t rs b).words (leaf_of zero_planes k)
      → read_zero_planes_from s k (suc f) t rs b ≡ read_zero_planes_from s k f (t + 1) (turn t rs b).words (turn t rs b).bio
  unfolding read_zero_planes_from
  turn_goes_on f t rs b h = if-ge (value (turn t rs b).words (leaf_of zero_planes k)) t _ _ h

  raised_as : (f t : ℕ) (rs : List ℕ) (b : Bio) → AllApart zs → All (λ a. a + 3 ≤ length rs) zs
      → RaisedAs rs zs (read_zero_planes_from s k f t rs b) (raise_from s f t b (nodes_at rs zs))
  unfolding read_zero_planes_from raise_from
  raised_as zero t rs b d h = record { bio = refl; words = record { nodes = refl; off = λ a o. refl; clear = λ i c. refl; long = refl } }
  raised_as (suc f) t rs b d h =
      let w : PathRead = turn t rs b in
      let g : NodesRead = read_all s t 0 b (nodes_at rs zs) in
      let q = read_as s k.zero_tree t (reverse k.path) 0 rs b d h in
      let vl : All (λ a. a + 3 ≤ length w.words) zs = rw q.words.long h in
      let ih = raised_as f (t + 1) w.words w.bio d vl in
      let le : value w.words (leaf_of zero_planes k) ≡ leaf_value 0 g.nodes = sym (last_zero w.words)
      ∙ ap (leaf_value 0) q.words.nodes in
      on-lt (leaf_value 0 g.nodes) t
      (λ z. subst₂ (RaisedAs rs zs) (sym (turn_stops f t rs b (omega arith))) (sym (raise_stops s f t b (nodes_at rs zs) z))
      (record { bio = q.bio; words = q.words }))
      (λ z. subst₂ (RaisedAs rs zs) (sym (turn_goes_on f t rs b (omega arith)))
      (ap₂ (λ (c : Bio) (ms : List Node). raise_from s f (t + 1) c ms) q.bio q.words.nodes
      ∙ sym (raise_goes_on s f t b (nodes_at rs zs) z))
      (record { bio = ih.bio; words = changed_twice rs w.words _ zs _ _ q.words ih.words }))

module _ (L : Layout) (k : Block) (P : Placed L k) (ws rs : List ℕ) (wl : length ws ≡ L.size) (rl : length rs ≡ L.size)
    (y : SyncAll L ws rs) (o : Ordered L ws) where
  pub planes_read : (s : List ℕ) (b e : Bio) → value ws (leaf_of zero_planes k) < not_yet_planes
      → Reads s b (code_path k.zero_tree not_yet_planes (reverse k.path) 0 ws).bits e
      → ((read_zero_planes_from s k (not_yet_planes + 2) 0 rs b).bio ≡ e)
      × SyncAll L (code_path k.zero_tree not_yet_planes (reverse k.path) 0 ws).words
      (read_zero_planes_from s k (not_yet_planes + 2) 0 rs b).words
      × NodesChanged L rs (read_zero_planes_from s k (not_yet_planes + 2) 0 rs b).words
      × (value (read_zero_planes_from s k (not_yet_planes + 2) 0 rs b).words (leaf_of zero_planes k) ≡ value ws (leaf_of zero_planes k))
  planes_read s b e small r =
      let xs : List ℕ = root_to_leaf zero_planes k in
      let ns = from_root_nodes L zero_planes k P in
      let last = leaf_last L zero_planes k P ws rs wl rl y o in
      let c = path_coded L zero_planes k P not_yet_planes ws wl in
      let d = raised_as L k P s (not_yet_planes + 2) 0 rs b (from_root_apart L zero_planes k P)
      (path_in_reader L zero_planes k P ws rs wl rl y o) in
      let q = zero_planes_read s b e (increasing_path L zero_planes k P ws o) (on_path L zero_planes k P ws rs wl rl y o)
      (rw (last ws) small) (rw c.bits at r) in (
        d.bio ∙ q.ends,
        rejoin L zero_planes ws rs _ _ xs _ _ ns y c.words d.words q.sync,
        record { long = d.words.long; off = λ i f. d.words.clear i (all_clear L zero_planes i xs f ns) },
        sym (last (read_zero_planes_from s k (not_yet_planes + 2) 0 rs b).words) ∙ ap (leaf_value 0) d.words.nodes ∙ q.leaf_is ∙ last ws,
      )
