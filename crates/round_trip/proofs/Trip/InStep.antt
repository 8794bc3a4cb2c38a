-- Writer's and reader's words in step: the trees in sync, the values in order, and each block with the same passes and length bits,
-- while the
-- reader's current segment follows from the passes. What a change of some words leaves of that.
use mathlib.Core.Path.{◌≡◌, sym, ap, ◌∙◌, subst₂}
use mathlib.Core.List.{List}
use Prim.Native.Nat.{ℕ, ◌+◌, ◌≤◌}
use native.Mathlib.Omega.{arith}
use lib.ListN.{length, get_or, set, length-set}
use lib.Seq.{get_or-set_other}
use Rattle.t800.specs.State.{style, passes_so_far, length_bits, segment_limit, segment_passes}
use Rattle.t800_laws.proofs.Laws.Tests.{on-eq}
use Rattle.t800_laws.proofs.Laws.Layout.{Tree, not_yet, Layout}
use Rattle.t800_laws.proofs.Laws.SetLeaf.{Ordered}
use Rattle.round_trip.proofs.Trip.Nodes.{Node, Sync}
use Rattle.round_trip.proofs.Trip.NodeWords.{node_at}
use Rattle.round_trip.proofs.Trip.Trees.{SyncAll, LowsOnly, NodesChanged, ordered_same}
use Rattle.round_trip.proofs.Trip.Limits.{limit_after, passes_after}
use Rattle.round_trip.proofs.Trip.Changes.{SameBlock, block_stays, first_stays, BlockOnly, node_stays, value_stays}
use Rattle.round_trip.proofs.Trip.Changes.{other_block_stays, first_words_stay}

-- a block at p, with style s
pub record BlockInStep (s : ℕ) (ws rs : List ℕ) (p : ℕ) : Type 0 where
  pub passes : passes_so_far rs p ≡ passes_so_far ws p
  pub bits : length_bits rs p ≡ length_bits ws p
  pub limit : segment_limit rs p ≡ limit_after s (passes_so_far ws p)
  pub used : segment_passes rs p ≡ passes_after s (passes_so_far ws p)

pub record InStep (L : Layout) (s : ℕ) (ws rs : List ℕ) : Type 0 where
  pub sync : SyncAll L ws rs
  pub order : Ordered L ws
  pub blocks : (p : ℕ) → L.BlockAt p → BlockInStep s ws rs p
  pub writer-length : length ws ≡ L.size
  pub reader-length : length rs ≡ L.size
  pub style-is : style rs ≡ s

pub same_in_step : (s : ℕ) (ws rs vs us : List ℕ) (p : ℕ) → SameBlock ws vs p → SameBlock rs us p → BlockInStep s ws rs p
    → BlockInStep s vs us p
same_in_step s ws rs vs us p w r b =
    record {
      passes = r.0 ∙ b.passes ∙ sym w.0;
      bits = r.1 ∙ b.bits ∙ sym w.1;
      limit = r.2 ∙ b.limit ∙ ap (limit_after s) (sym w.0);
      used = r.3 ∙ b.used ∙ ap (passes_after s) (sym w.0);
    }

-- a path was coded and read
pub path_in_step : (L : Layout) (s : ℕ) (ws rs vs us : List ℕ) → InStep L s ws rs → LowsOnly L ws vs → NodesChanged L rs us
    → SyncAll L vs us → InStep L s vs us
path_in_step L s ws rs vs us y w r z =
    record {
      sync = z;
      order = ordered_same L ws vs w.values y.order;
      blocks = λ p b. same_in_step s ws rs vs us p (block_stays L ws vs w.off p b) (block_stays L rs us r.off p b) (y.blocks p b);
      writer-length = w.long ∙ y.writer-length;
      reader-length = r.long ∙ y.reader-length;
      style-is = first_stays L rs us r.off 2 (omega arith) ∙ y.style-is;
    }

sync_same : (L : Layout) (ws rs vs us : List ℕ) → ((t : Tree) (a : ℕ) → L.Node t a → node_at vs a ≡ node_at ws a)
    → ((t : Tree) (a : ℕ) → L.Node t a → node_at us a ≡ node_at rs a) → SyncAll L ws rs → SyncAll L vs us
sync_same L ws rs vs us w r y t a n = subst₂ (Sync (not_yet t)) (sym (w t a n)) (sym (r t a n)) (y t a n)

-- the words of one block changed on both sides
pub block_in_step : (L : Layout) (s : ℕ) (ws rs vs us : List ℕ) (p : ℕ) (b : L.BlockAt p) → InStep L s ws rs → BlockOnly p ws vs
    → BlockOnly p rs us → length vs ≡ length ws → length us ≡ length rs
    → BlockInStep s vs us p → InStep L s vs us
block_in_step L s ws rs vs us p b y wo ro wl rl z =
    record {
      sync = sync_same L ws rs vs us (node_stays L ws vs p b wo) (node_stays L rs us p b ro) y.sync;
      order = ordered_same L ws vs (value_stays L ws vs p b wo) y.order;
      blocks = λ q c. on-eq q p (λ e. rw e z)
          (λ e. same_in_step s ws rs vs us q (other_block_stays L ws vs p b wo q c e) (other_block_stays L rs us p b ro q c e)
          (y.blocks q c));
      writer-length = wl ∙ y.writer-length;
      reader-length = rl ∙ y.reader-length;
      style-is = first_words_stay L rs us p b ro 2 (omega arith) ∙ y.style-is;
    }

-- word 3, the layer, is no node's and no block's
pub layer-in_step : (L : Layout) (s : ℕ) (ws rs : List ℕ) (v : ℕ) → InStep L s ws rs → InStep L s (set ws 3 v) (set rs 3 v)
layer-in_step L s ws rs v y =
    record {
      sync = sync_same L ws rs (set ws 3 v) (set rs 3 v) (node_same ws) (node_same rs) y.sync;
      order = ordered_same L ws (set ws 3 v) (λ t a n. ap (λ (m : Node). m.value) (node_same ws t a n)) y.order;
      blocks = λ p b. same_in_step s ws rs (set ws 3 v) (set rs 3 v) p (block_same ws p b) (block_same rs p b) (y.blocks p b);
      writer-length = length-set ws 3 v ∙ y.writer-length;
      reader-length = length-set rs 3 v ∙ y.reader-length;
      style-is = get_or-set_other rs 3 2 v 0 (omega arith) ∙ y.style-is;
    }
  where
    word : (xs : List ℕ) (i : ℕ) → 13 ≤ i → get_or (set xs 3 v) i 0 ≡ get_or xs i 0
    word xs i h = get_or-set_other xs 3 i v 0 (omega arith)

    node_same : (xs : List ℕ) (t : Tree) (a : ℕ) → L.Node t a → node_at (set xs 3 v) a ≡ node_at xs a
    node_same xs t a n = let h = (L.node_in t a n).0 in
        λ i. record { value = word xs a h i; low = word xs (a + 1) (omega arith) i; known = word xs (a + 2) (omega arith) i }

    block_same : (xs : List ℕ) (p : ℕ) → L.BlockAt p → SameBlock xs (set xs 3 v) p
    block_same xs p b = let h = (L.block_in p b).0 in
        (word xs p h, word xs (p + 1) (omega arith), word xs (p + 2) (omega arith), word xs (p + 3) (omega arith))
