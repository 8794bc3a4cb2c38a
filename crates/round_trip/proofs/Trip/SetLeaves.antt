-- Leaves are set block by block, layers in the inclusion trees and zero planes in the zero-plane trees: one argument for both. The
-- trees stay
-- in sync with a reader's and in order, nothing else changes, and each block's leaf holds what was set.
use mathlib.Core.Path.{◌≡◌, refl, sym, ap, ◌∙◌, subst}
use mathlib.Core.Bool.{Bool, true, false, cond, ◌&&◌, true≢false}
use mathlib.Core.List.{List, [], ◌∷◌}
use Prim.Native.Nat.{ℕ, suc, ◌+◌, ◌-◌, ◌*◌, ◌≤◌, ◌<◌}
use native.Mathlib.Nat.{le_trans, le_of_eq}
use native.Mathlib.Omega.{arith}
use lib.ListN.{length, set, length-set}
use lib.Seq.{get_or-set_same, get_or-set_other}
use lib.Dec.{ltb, eqb}
use borrow.Author.Tests.{lt-ltb, le-ltb, eq-eqb}
use Rattle.t800.specs.TagTree.{value, low, set_value}
use Rattle.t800.specs.State.{Block, passes_so_far}
use Rattle.t800.specs.Start.{set_zero_planes}
use Rattle.t800.specs.WriteHeader.{is_new, set_new_blocks}
use Rattle.t800_laws.proofs.Laws.Tests.{on-eq, on-lt}
use Rattle.t800_laws.proofs.Laws.Paths.{All, NotIn, addresses}
use Rattle.t800_laws.proofs.Laws.Layout.{Tree, inclusion, zero_planes, not_yet, tree_of, leaf_of, Layout, Placed, SeparateFromAll, AllPlaced}
use Rattle.t800_laws.proofs.Laws.Layout.{leaf_to_root, leaf_node, path_nodes, second_no_node}
use Rattle.t800_laws.proofs.Laws.SetLeaf.{lowers, ends, off_path_stays, leaf_is_set, Ordered, set_value-ordered}
use Rattle.round_trip.proofs.Trip.Nodes.{Node, Sync, not_known, is_known}
use Rattle.round_trip.proofs.Trip.NodeWords.{node_at}
use Rattle.round_trip.proofs.Trip.Trees.{SyncAll}
use Rattle.round_trip.proofs.Trip.Changes.{ValuesOnly, no_values, values_then, leaf_set, block_stays, nodes-only, low-stays}

-- ---- one leaf

-- a value that isn't told yet is lowered, not below low
lowered_sync : {mark : ℕ} {n m : Node} (v : ℕ) (o : Node) → o.value ≡ v → o.low ≡ n.low → o.known ≡ n.known → v < n.value
    → n.low ≤ v → Sync mark n m → Sync mark o m
lowered_sync v o e l k h b (is_known nk mv ml nl nv mk) = absurd (omega arith)
lowered_sync v o e l k h b (not_known nk mv ml nl nv mk) = not_known (k ∙ nk) mv (ml ∙ sym l) (omega arith) (omega arith) mk

module _ (L : Layout) (v : ℕ) (rs : List ℕ) (u : Tree) where
  store_sync : (ws : List ℕ) (a : ℕ) → length ws ≡ L.size → L.Node u a → v < value ws a → low ws a ≤ v → SyncAll L ws rs
      → SyncAll L (set ws a v) rs
  store_sync ws a wl n h lo y t b m =
      on-eq b a
      (λ e. let n₂ : L.Node t a = subst (L.Node t) e m in
      rw e (lowered_sync v (node_at (set ws a v) a) (get_or-set_same ws a v 0 (omega (arith, (L.node_in u a n).1)))
      (get_or-set_other ws a (a + 1) v 0 (omega arith)) (get_or-set_other ws a (a + 2) v 0 (omega arith)) h lo (y t a n₂)))
      (λ e. let p = L.nodes-apart t u b a m n e in
      let same : node_at (set ws a v) b ≡ node_at ws b = λ i. record {
        value = get_or-set_other ws a b v 0 e i;
        low = get_or-set_other ws a (b + 1) v 0 (omega arith) i;
        known = get_or-set_other ws a (b + 2) v 0 (omega arith) i;
      } in
      subst (λ (o : Node). Sync (not_yet t) o (node_at rs b)) (sym same) (y t b m))

  set_value-sync : (base : ℕ) (ns ws : List ℕ) → length ws ≡ L.size → All (L.Node u) (addresses base ns)
      → ((a : ℕ) → L.Node u a → low ws a ≤ v) → SyncAll L ws rs → SyncAll L (set_value base ns v ws) rs
  unfolding set_value
  set_value-sync base [] ws wl h lo y = y
  set_value-sync base (n ∷ ns) ws wl h lo y =
      let a : ℕ = base + 3 * n in
      on-lt v (value ws a)
      (λ z. rw (lowers base n ns v ws z)
      (set_value-sync base ns (set ws a v) (length-set ws a v ∙ wl) h.1
      (λ b p. le_trans (le_of_eq (get_or-set_other ws a (b + 1) v 0 (second_no_node L u u b a p h.0))) (lo b p))
      (store_sync ws a wl h.0 z (lo a h.0) y)))
      (λ z. rw (ends base n ns v ws z) y)

-- ---- the leaves of some blocks

-- a is on no path of these blocks
abbrev pub OffPaths : Tree → ℕ → List Block → Type 0
OffPaths u a [] = Unit {0}
OffPaths u a (k ∷ ks) = NotIn a (leaf_to_root u k) × OffPaths u a ks

off_paths : (u : Tree) (k : Block) (ks : List Block) → SeparateFromAll k ks → OffPaths u (leaf_of u k) ks
off_paths u k [] o = tt
off_paths u k (j ∷ js) o = (o.0.0.leaf u, off_paths u k js o.1)

pub record LeavesSet (L : Layout) (u : Tree) (ws vs : List ℕ) (ks : List Block) : Type 0 where
  pub only : ValuesOnly L u ws vs
  pub order : Ordered L ws → Ordered L vs
  pub sync : (rs : List ℕ) → SyncAll L ws rs → SyncAll L vs rs
  pub off : (a : ℕ) → OffPaths u a ks → value vs a ≡ value ws a

module _ (L : Layout) (u : Tree) where
  none_set : (ws : List ℕ) (ks : List Block) → LeavesSet L u ws ws ks
  none_set ws ks = record { only = no_values L u ws; order = λ o. o; sync = λ rs y. y; off = λ a n. refl }

  set_then : (ws vs us : List ℕ) (k : Block) (ks : List Block) → LeavesSet L u ws vs (k ∷ []) → LeavesSet L u vs us ks
      → LeavesSet L u ws us (k ∷ ks)
  set_then ws vs us k ks a b =
      record {
        only = values_then L u ws vs us a.only b.only;
        order = λ o. b.order (a.order o);
        sync = λ rs y. b.sync rs (a.sync rs y);
        off = λ x n. b.off x n.1 ∙ a.off x (n.0, tt);
      }

  one_set : (k : Block) (P : Placed L k) (v : ℕ) (ws : List ℕ) → length ws ≡ L.size → ((a : ℕ) → L.Node u a → low ws a ≤ v)
      → LeavesSet L u ws (set_value (tree_of u k) k.path v ws) (k ∷ [])
  one_set k P v ws wl lo =
      record {
        only = leaf_set L u k P v ws;
        order = λ o. subst (λ (z : List ℕ). Ordered L (set_value (tree_of u k) z v ws)) (sym P.path_is)
            (set_value-ordered L v u (tree_of u k) k.leaf P.above ws wl (P.path u).nodes (P.path u).ancestors o);
        sync = λ rs y. set_value-sync L v rs u (tree_of u k) k.path ws wl (path_nodes L u k P) lo y;
        off = λ a n. off a n;
      }
    where
      off : (a : ℕ) → OffPaths u a (k ∷ []) → value (set_value (tree_of u k) k.path v ws) a ≡ value ws a
      off a n = off_path_stays (tree_of u k) k.path v ws a n.0

  leaf_holds : (k : Block) (P : Placed L k) (v : ℕ) (ws : List ℕ) → length ws ≡ L.size → v < value ws (leaf_of u k)
      → value (set_value (tree_of u k) k.path v ws) (leaf_of u k) ≡ v
  leaf_holds k P v ws wl h =
      subst (λ (z : List ℕ). value (set_value (tree_of u k) z v ws) (leaf_of u k) ≡ v) (sym P.path_is)
      (leaf_is_set (tree_of u k) k.leaf P.above v ws (omega (arith, (L.node_in u (leaf_of u k) (leaf_node L u k P)).1))
      (P.path u).leaf_once h)

-- a step for each block and its number
unfoldable each_block : (Block → ℕ → List ℕ → List ℕ) → List Block → List ℕ → List ℕ → List ℕ
each_block step [] xs ws = ws
each_block step (k ∷ ks) [] ws = ws
each_block step (k ∷ ks) (x ∷ xs) ws = each_block step ks xs (step k x ws)

-- for each block and its number: a fact on its passes so far and its leaf's value before and after
abbrev pub Leaves : Tree → (Block → ℕ → ℕ → ℕ → ℕ → Type 0) → List ℕ → List ℕ → List Block → List ℕ → Type 0
Leaves u R ws vs [] xs = Unit {0}
Leaves u R ws vs (k ∷ ks) [] = Unit {0}
Leaves u R ws vs (k ∷ ks) (x ∷ xs) = R k x (passes_so_far ws k.at) (value ws (leaf_of u k)) (value vs (leaf_of u k)) × Leaves u R ws vs ks xs

module _ (L : Layout) (u : Tree) (bound : ℕ) (step : Block → ℕ → List ℕ → List ℕ) (R : Block → ℕ → ℕ → ℕ → ℕ → Type 0)
    (one : (k : Block) (x : ℕ) (ws : List ℕ) → Placed L k → length ws ≡ L.size → ((a : ℕ) → L.Node u a → low ws a ≤ bound)
    → LeavesSet L u ws (step k x ws) (k ∷ [])
    × R k x (passes_so_far ws k.at) (value ws (leaf_of u k)) (value (step k x ws) (leaf_of u k))) where
  -- a block that was set before changes nothing of it
  leaves_after : (ws vs us : List ℕ) (k : Block) (ks : List Block) (xs : List ℕ) → LeavesSet L u ws vs (k ∷ [])
      → SeparateFromAll k ks → AllPlaced L ks → Leaves u R vs us ks xs → Leaves u R ws us ks xs
  leaves_after ws vs us k [] xs s o f h = tt
  leaves_after ws vs us k (j ∷ js) [] s o f h = tt
  leaves_after ws vs us k (j ∷ js) (x ∷ xs) s o f h =
      let p = (block_stays L ws vs (nodes-only L u ws vs s.only) j.at f.0.0.block).0 in
      let v = s.off (leaf_of u j) (o.0.1.leaf u, tt) in
      let after : ℕ = value us (leaf_of u j) in (
        subst (λ (z : ℕ). R j x (passes_so_far ws j.at) z after) v
            (subst (λ (z : ℕ). R j x z (value vs (leaf_of u j)) after) p h.0),
        leaves_after ws vs us k js xs s o.1 f.1 h.1,
      )

  each_set : (ks : List Block) (xs ws : List ℕ) → AllPlaced L ks → length ws ≡ L.size → ((a : ℕ) → L.Node u a → low ws a ≤ bound)
      → LeavesSet L u ws (each_block step ks xs ws) ks × Leaves u R ws (each_block step ks xs ws) ks xs
  unfolding each_block
  each_set [] xs ws f wl lo = (none_set L u ws [], tt)
  each_set (k ∷ ks) [] ws f wl lo = (none_set L u ws (k ∷ ks), tt)
  each_set (k ∷ ks) (x ∷ xs) ws f wl lo =
      let P = f.0.0 in
      let q = one k x ws P wl lo in
      let vs : List ℕ = step k x ws in
      let us : List ℕ = each_block step ks xs vs in
      let r = each_set ks xs vs f.1 (q.0.only.long ∙ wl)
      (λ a n. le_trans (le_of_eq (low-stays L u ws vs q.0.only u a n)) (lo a n)) in
      let last = r.0.off (leaf_of u k) (off_paths u k ks f.0.1) in (
        set_then L u ws vs us k ks q.0 r.0,
        (
          subst (R k x (passes_so_far ws k.at) (value ws (leaf_of u k))) (sym last) q.1,
          leaves_after ws vs us k ks xs q.0 f.0.1 f.1 r.1,
        ),
      )

-- ---- zero planes

-- where the leaf is above them they are set
abbrev pub PlanesSet : Block → ℕ → ℕ → ℕ → ℕ → Type 0
PlanesSet k p passes before after = k.planes - p < before → after ≡ k.planes - p

abbrev planes_step : Block → ℕ → List ℕ → List ℕ
planes_step k p ws = set_value k.zero_tree k.path (k.planes - p) ws

planes_each : (ks : List Block) (ps ws : List ℕ) → set_zero_planes ks ps ws ≡ each_block planes_step ks ps ws
unfolding set_zero_planes each_block
planes_each [] ps ws = refl
planes_each (k ∷ ks) [] ws = refl
planes_each (k ∷ ks) (p ∷ ps) ws = planes_each ks ps (planes_step k p ws)

pub planes_set : (L : Layout) (ks : List Block) (ps ws : List ℕ) → AllPlaced L ks → length ws ≡ L.size
    → ((a : ℕ) → L.Node zero_planes a → low ws a ≤ 0)
    → LeavesSet L zero_planes ws (set_zero_planes ks ps ws) ks × Leaves zero_planes PlanesSet ws (set_zero_planes ks ps ws) ks ps
planes_set L ks ps ws f wl lo =
    rw (planes_each ks ps ws)
    (each_set L zero_planes 0 planes_step PlanesSet
    (λ k p vs P vl vo. (
      one_set L zero_planes k P (k.planes - p) vs vl (λ a n. le_trans (vo a n) (omega arith)),
      λ h. leaf_holds L zero_planes k P (k.planes - p) vs vl h,
    ))
    ks ps ws f wl lo)

-- ---- blocks that are new in layer t

-- a new block's leaf lies at the layer or below it if the block is included, and else stays
abbrev pub LayerSet : ℕ → Block → ℕ → ℕ → ℕ → ℕ → Type 0
LayerSet t k c passes before after = (passes ≡ 0 → t < before → ltb after (t + 1) ≡ ltb 0 c) × (passes ≡ 0 → c ≡ 0 → after ≡ before)

abbrev layer_step : ℕ → Block → ℕ → List ℕ → List ℕ
layer_step t k c ws = cond (is_new ws k && ltb 0 c) (set_value k.incl_tree k.path t ws) ws

new_each : (t : ℕ) (ks : List Block) (cs ws : List ℕ) → set_new_blocks t ks cs ws ≡ each_block (layer_step t) ks cs ws
unfolding set_new_blocks each_block
new_each t [] cs ws = refl
new_each t (k ∷ ks) [] ws = refl
new_each t (k ∷ ks) (c ∷ cs) ws = new_each t ks cs (layer_step t k c ws)

new_by_passes : (ws : List ℕ) (k : Block) → is_new ws k ≡ eqb (passes_so_far ws k.at) 0
unfolding is_new
new_by_passes ws k = refl

new_step : (L : Layout) (t : ℕ) (k : Block) (c : ℕ) (ws : List ℕ) → Placed L k → length ws ≡ L.size
    → ((a : ℕ) → L.Node inclusion a → low ws a ≤ t)
    → LeavesSet L inclusion ws (layer_step t k c ws) (k ∷ [])
    × LayerSet t k c (passes_so_far ws k.at) (value ws (leaf_of inclusion k)) (value (layer_step t k c ws) (leaf_of inclusion k))
new_step L t k c ws P wl lo = go (is_new ws k) refl (ltb 0 c) refl
  where
    go : (n : Bool) → is_new ws k ≡ n → (b : Bool) → ltb 0 c ≡ b
        → LeavesSet L inclusion ws (cond (n && b) (set_value k.incl_tree k.path t ws) ws) (k ∷ [])
        ×
        ((passes_so_far ws k.at ≡ 0 → t < value ws (leaf_of inclusion k)
        → ltb (value (cond (n && b) (set_value k.incl_tree k.path t ws) ws) (leaf_of inclusion k)) (t + 1) ≡ b)
        × (passes_so_far ws k.at ≡ 0 → c ≡ 0
        → value (cond (n && b) (set_value k.incl_tree k.path t ws) ws) (leaf_of inclusion k) ≡ value ws (leaf_of inclusion k)))
    go true e true f = (
      one_set L inclusion k P t ws wl lo,
      (
        (λ z h. lt-ltb _ (t + 1) (le_trans (le_of_eq (ap suc (leaf_holds L inclusion k P t ws wl h))) (omega arith))),
        (λ z y. absurd (true≢false (sym f ∙ le-ltb 0 c (le_of_eq y)))),
      ),
    )
    go true e false f = (none_set L inclusion ws (k ∷ []), ((λ z h. le-ltb _ (t + 1) (omega arith)), (λ z y. refl)))
    go false e b f = (
      none_set L inclusion ws (k ∷ []),
      ((λ z h. absurd (true≢false (sym (new_by_passes ws k ∙ eq-eqb (passes_so_far ws k.at) 0 z) ∙ e))), (λ z y. refl)),
    )

pub new_blocks_set : (L : Layout) (t : ℕ) (ks : List Block) (cs ws : List ℕ) → AllPlaced L ks → length ws ≡ L.size
    → ((a : ℕ) → L.Node inclusion a → low ws a ≤ t)
    → LeavesSet L inclusion ws (set_new_blocks t ks cs ws) ks × Leaves inclusion (LayerSet t) ws (set_new_blocks t ks cs ws) ks cs
new_blocks_set L t ks cs ws f wl lo =
    rw (new_each t ks cs ws) (each_set L inclusion t (layer_step t) (LayerSet t) (new_step L t) ks cs ws f wl lo)
