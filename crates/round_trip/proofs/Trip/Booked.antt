-- A writer's state and the book: each block's passes so far, its zero planes in its tree, and "not yet" in the inclusion tree while
-- it has no
-- passes.
use mathlib.Core.Path.{◌≡◌, refl, sym, ap, ◌∙◌}
use mathlib.Core.List.{List, [], ◌∷◌}
use Prim.Native.Nat.{ℕ, suc, ◌+◌, ◌-◌, ◌≤◌, ◌<◌}
use native.Mathlib.Omega.{arith}
use lib.ListN.{length, set}
use lib.Seq.{get_or-set_other}
use Rattle.t800.specs.TagTree.{value}
use Rattle.t800.specs.State.{Block, not_yet_included, not_yet_planes, passes_so_far}
use Rattle.t800.specs.Book.{BlockEntry, add_counts}
use Rattle.t800_laws.proofs.Laws.Layout.{Tree, inclusion, zero_planes, leaf_of, Layout, AllPlaced, leaf_node}
use Rattle.round_trip.proofs.Trip.Changes.{ValuesOnly, nodes-only, block_stays, PassesAdded}
use Rattle.round_trip.proofs.Trip.SetLeaves.{Leaves, LayerSet}

-- a block with `own` planes in a band with `band`
pub record PlanesBooked (ws : List ℕ) (k : Block) (band own : ℕ) : Type 0 where
  pub zeros : value ws (leaf_of zero_planes k) ≡ band - own
  pub band_is : k.planes ≡ band
  pub within : own ≤ band
  pub not_too_deep : band < not_yet_planes

pub record Booked (ws : List ℕ) (k : Block) (e : BlockEntry) : Type 0 where
  pub passes : passes_so_far ws k.at ≡ e.passes
  pub planes : PlanesBooked ws k e.band_planes e.planes
  pub new : e.passes ≡ 0 → value ws (leaf_of inclusion k) ≡ not_yet_included

abbrev pub AllBooked : List ℕ → List Block → List BlockEntry → Type 0
AllBooked ws [] [] = Unit {0}
AllBooked ws [] (e ∷ es) = ⊥
AllBooked ws (k ∷ ks) [] = ⊥
AllBooked ws (k ∷ ks) (e ∷ es) = Booked ws k e × AllBooked ws ks es

pub same_planes : (ws vs : List ℕ) (k : Block) (band own : ℕ) → value vs (leaf_of zero_planes k) ≡ value ws (leaf_of zero_planes k)
    → PlanesBooked ws k band own → PlanesBooked vs k band own
same_planes ws vs k band own z b = record { zeros = z ∙ b.zeros; band_is = b.band_is; within = b.within; not_too_deep = b.not_too_deep }

pub entries_length : (ws : List ℕ) (ks : List Block) (es : List BlockEntry) → AllBooked ws ks es → length es ≡ length ks
entries_length ws [] [] b = refl
entries_length ws [] (e ∷ es) b = absurd b
entries_length ws (k ∷ ks) [] b = absurd b
entries_length ws (k ∷ ks) (e ∷ es) b = ap suc (entries_length ws ks es b.1)

-- word 3, the layer, is no part of it
pub layer-booked : (L : Layout) (ws : List ℕ) (v : ℕ) (ks : List Block) (es : List BlockEntry) → AllPlaced L ks → AllBooked ws ks es
    → AllBooked (set ws 3 v) ks es
layer-booked L ws v [] [] f b = tt
layer-booked L ws v [] (e ∷ es) f b = b
layer-booked L ws v (k ∷ ks) [] f b = b
layer-booked L ws v (k ∷ ks) (e ∷ es) f b =
    let P = f.0.0 in
    let K = b.0 in
    let z = (L.node_in zero_planes (leaf_of zero_planes k) (leaf_node L zero_planes k P)).0 in
    let i = (L.node_in inclusion (leaf_of inclusion k) (leaf_node L inclusion k P)).0 in
    let a = (L.block_in k.at P.block).0 in (
      record {
        passes = get_or-set_other ws 3 k.at v 0 (omega arith) ∙ K.passes;
        planes = same_planes ws (set ws 3 v) k e.band_planes e.planes
            (get_or-set_other ws 3 (leaf_of zero_planes k) v 0 (omega arith)) K.planes;
        new = λ h. get_or-set_other ws 3 (leaf_of inclusion k) v 0 (omega arith) ∙ K.new h;
      },
      layer-booked L ws v ks es f.1 b.1,
    )

-- after a layer: new blocks were set, which made us of ws, and all were coded, which made vs of us
pub counts_booked : (L : Layout) (t : ℕ) (ws us vs : List ℕ) (ks : List Block) (es : List BlockEntry) (cs : List ℕ) → AllPlaced L ks
    → length cs ≡ length ks → ValuesOnly L inclusion ws us
    → ((x : Tree) (a : ℕ) → L.Node x a → value vs a ≡ value us a) → PassesAdded us vs ks cs
    → Leaves inclusion (LayerSet t) ws us ks cs → AllBooked ws ks es → AllBooked vs ks (add_counts es cs)
unfolding add_counts
counts_booked L t ws us vs [] [] cs f l o v p n b = tt
counts_booked L t ws us vs [] (e ∷ es) cs f l o v p n b = absurd b
counts_booked L t ws us vs (k ∷ ks) [] cs f l o v p n b = absurd b
counts_booked L t ws us vs (k ∷ ks) (e ∷ es) [] f l o v p n b = absurd (omega arith)
counts_booked L t ws us vs (k ∷ ks) (e ∷ es) (c ∷ cs) f l o v p n b =
    let P = f.0.0 in
    let K = b.0 in
    let z = leaf_node L zero_planes k P in
    let i = leaf_node L inclusion k P in (
      record {
        passes = p.0 ∙ ap (λ (x : ℕ). x + c) ((block_stays L ws us (nodes-only L inclusion ws us o) k.at P.block).0 ∙ K.passes);
        planes = same_planes ws vs k e.band_planes e.planes
            (v zero_planes (leaf_of zero_planes k) z
            ∙ o.off (leaf_of zero_planes k) (λ a m q. L.other_tree a (leaf_of zero_planes k) m z (sym q))) K.planes;
        new = λ h. v inclusion (leaf_of inclusion k) i ∙ n.0.1 (K.passes ∙ omega arith) (omega arith) ∙ K.new (omega arith);
      },
      counts_booked L t ws us vs ks es cs f.1 (omega arith) o v p.1 n.1 b.1,
    )
