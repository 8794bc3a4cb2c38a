-- A started writer and a started reader are in step, in range, and as the new book says.
use mathlib.Core.Path.{◌≡◌, refl, sym, ap, ◌∙◌, subst}
use mathlib.Core.Bool.{false}
use mathlib.Core.List.{List, [], ◌∷◌, ◌++◌}
use Prim.Native.Nat.{ℕ, zero, suc, ◌+◌, ◌≤◌}
use native.Mathlib.Nat.{le_trans, le_of_eq, add-zero}
use native.Mathlib.Omega.{arith}
use lib.ListN.{length, get_or, take, drop, length-append, length-drop}
use lib.Dec.{ltb}
use borrow.Author.Tests.{ltb-false}
use Rattle.t800.specs.declared.Band.{Band}
use Rattle.t800.specs.State.{Block, blocks_in, band_length, blocks_from, blocks_at, blocks, style, passes_so_far}
use Rattle.t800.specs.Ranges.{bad_shape, band_too_deep, block_too_deep}
use Rattle.t800.specs.Start.{fresh_state, fresh_state_with, set_zero_planes}
use Rattle.t800.specs.Book.{BlockEntry, new_entries, new_book}
use Rattle.t800_laws.proofs.Laws.Tests.{or_left, or_right}
use Rattle.t800_laws.proofs.Laws.Lists.{length_from}
use Rattle.t800_laws.proofs.Laws.Layout.{Tree, inclusion, zero_planes, not_yet, leaf_of, Layout, AllPlaced, leaf_node, layout_of, blocks-placed}
use Rattle.t800_laws.proofs.Laws.FirstWords.{FirstWords, same_first_words}
use Rattle.t800_laws.proofs.Laws.FreshState.{fresh_length, fresh_node, fresh_block, fresh_first_words}
use Rattle.t800_laws.proofs.Laws.SetLeaf.{Ordered}
use Rattle.t800_laws.proofs.Laws.Accepted.{StartAccepted, all_given, NotTooDeep, not_too_deep}
use Rattle.round_trip.proofs.Trip.Nodes.{Node, node, Sync, not_known}
use Rattle.round_trip.proofs.Trip.NodeWords.{node_at}
use Rattle.round_trip.proofs.Trip.Trees.{SyncAll}
use Rattle.round_trip.proofs.Trip.Limits.{none_after_0}
use Rattle.round_trip.proofs.Trip.Changes.{ValuesOnly, nodes-only, block_stays, first_stays}
use Rattle.round_trip.proofs.Trip.SetLeaves.{LeavesSet, Leaves, PlanesSet, planes_set}
use Rattle.round_trip.proofs.Trip.WriterState.{WriterBlock, WriterState, values_in_range}
use Rattle.round_trip.proofs.Trip.InStep.{BlockInStep, InStep, same_in_step}
use Rattle.round_trip.proofs.Trip.Booked.{AllBooked}
use Rattle.round_trip.proofs.Trip.ValidStates.{Startable}

-- ---- the new book, block by block

abbrev entries_for : List Block → List ℕ → List BlockEntry
entries_for [] ps = []
entries_for (k ∷ ks) [] = []
entries_for (k ∷ ks) (p ∷ ps) = record { band_planes = k.planes; planes = p; passes = 0 } ∷ entries_for ks ps

entries_from : (at : ℕ) (b : Band) (n i : ℕ) (rest : List Block) (ps : List ℕ) → n ≤ length ps
    → new_entries n b.planes ps ++ entries_for rest (drop n ps) ≡ entries_for (blocks_from at b n i ++ rest) ps
unfolding new_entries blocks_from
entries_from at b zero i rest ps h = refl
entries_from at b (suc n) i rest [] h = absurd (omega arith)
entries_from at b (suc n) i rest (p ∷ ps) h =
    ap (λ (z : List BlockEntry). record { band_planes = b.planes; planes = p; passes = 0 } ∷ z)
    (entries_from at b n (i + 1) rest ps (omega arith))

new_book_is : (at : ℕ) (bs : List Band) (ps : List ℕ) → length ps ≡ length (blocks_at at bs) → new_book bs ps ≡ entries_for (blocks_at at bs) ps
unfolding new_book blocks_at
new_book_is at [] ps h = refl
new_book_is at (b ∷ bs) ps h =
    let n : ℕ = blocks_in b in
    let rest : List Block = blocks_at (at + band_length b) bs in
    let l : length ps ≡ n + length rest = h ∙ length-append (blocks_from at b n 0) rest
    ∙ ap (λ (z : ℕ). z + length rest) (length_from at b n 0) in
    ap (λ (z : List BlockEntry). new_entries n b.planes ps ++ z)
    (new_book_is (at + band_length b) bs (drop n ps) (length-drop n ps ∙ omega arith)) ∙ entries_from at b n 0 rest ps (omega arith)

-- ---- fresh states

module _ (bs : List Band) (s : ℕ) where
  abbrev L : Layout
  L = layout_of bs

  abbrev fresh : ℕ → List ℕ
  fresh r = fresh_state r s bs

  fresh_node_is : (r : ℕ) (t : Tree) (a : ℕ) → L.Node t a → node_at (fresh r) a ≡ node (not_yet t) 0 0
  fresh_node_is r t a n = let f = fresh_node r s bs t a n in λ i. record { value = f.0 i; low = f.1 i; known = f.2 i }

  fresh_sync : SyncAll L (fresh 1) (fresh 2)
  fresh_sync t a n =
      subst (λ (z : Node). Sync (not_yet t) z (node_at (fresh 2) a)) (sym (fresh_node_is 1 t a n))
      (subst (λ (z : Node). Sync (not_yet t) (node (not_yet t) 0 0) z) (sym (fresh_node_is 2 t a n))
      (not_known refl refl refl (omega arith) (omega arith) refl))

  fresh_order : (r : ℕ) → Ordered L (fresh r)
  fresh_order r t a n = le_of_eq ((fresh_node r s bs t (L.parent a) (L.parent_node t a n)).0 ∙ sym (fresh_node r s bs t a n).0)

  fresh_passes : (r p : ℕ) → L.BlockAt p → passes_so_far (fresh r) p ≡ 0
  fresh_passes r p b = ap (λ (z : ℕ). get_or (fresh r) z 0) (sym (add-zero p)) ∙ fresh_block r s bs p b 0 (omega arith)

  fresh_in_step : (p : ℕ) → L.BlockAt p → BlockInStep s (fresh 1) (fresh 2) p
  fresh_in_step p b =
      let w = fresh_passes 1 p b in
      record {
        passes = fresh_passes 2 p b ∙ sym w;
        bits = fresh_block 2 s bs p b 1 (omega arith) ∙ sym (fresh_block 1 s bs p b 1 (omega arith));
        limit = fresh_block 2 s bs p b 2 (omega arith) ∙ sym (none_after_0 s (passes_so_far (fresh 1) p) w).0;
        used = fresh_block 2 s bs p b 3 (omega arith) ∙ sym (none_after_0 s (passes_so_far (fresh 1) p) w).1;
      }

  fresh_writer_block : (p : ℕ) → L.BlockAt p → WriterBlock 0 (fresh 1) p
  fresh_writer_block p b =
      let w = fresh_passes 1 p b in
      let l = fresh_block 1 s bs p b 1 (omega arith) in
      record {
        most = omega (arith, w);
        no_bits = λ _. l;
        some_bits = λ h. absurd (omega (arith, w, h));
        most_bits = omega (arith, l);
        no_limit = fresh_block 1 s bs p b 2 (omega arith);
        no_passes_lem = fresh_block 1 s bs p b 3 (omega arith);
      }

  fresh_writer_state : WriterState L 0 (fresh 1)
  fresh_writer_state =
      record {
        long = fresh_length 1 s bs;
        nodes = λ u a n. let f = fresh_node 1 s bs u a n in
            record {
              value_in = le_of_eq f.0;
              low-in = le_trans (le_of_eq f.1) (omega arith);
              known_in = le_trans (le_of_eq f.2) (omega arith);
            };
        blocks = fresh_writer_block;
      }

  fresh_style : (r : ℕ) → style (fresh r) ≡ s
  unfolding fresh_state_with
  fresh_style r = refl

  -- ---- with the zero planes set

  all_booked : (ks : List Block) (ps vs : List ℕ) → AllPlaced L ks → length ps ≡ length ks → ValuesOnly L zero_planes (fresh 1) vs
      → Leaves zero_planes PlanesSet (fresh 1) vs ks ps → NotTooDeep ks
      → block_too_deep ks ps ≡ false → AllBooked vs ks (entries_for ks ps)
  unfolding block_too_deep
  all_booked [] ps vs f l o z d t = tt
  all_booked (k ∷ ks) [] vs f l o z d t = absurd (omega arith)
  all_booked (k ∷ ks) (p ∷ ps) vs f l o z d t =
      let P = f.0.0 in
      let i = leaf_node L inclusion k P in
      let before = (fresh_node 1 s bs zero_planes (leaf_of zero_planes k) (leaf_node L zero_planes k P)).0 in (
        record {
          passes = (block_stays L (fresh 1) vs (nodes-only L zero_planes (fresh 1) vs o) k.at P.block).0
              ∙ fresh_passes 1 k.at P.block;
          planes = record {
            zeros = z.0 (omega (arith, before, d.0));
            band_is = refl;
            within = ltb-false k.planes p (or_left (ltb k.planes p) (block_too_deep ks ps) t);
            not_too_deep = d.0;
          };
          new = λ _. o.off (leaf_of inclusion k) (λ a n. L.other_tree (leaf_of inclusion k) a i n)
              ∙ (fresh_node 1 s bs inclusion (leaf_of inclusion k) i).0;
        },
        all_booked ks ps vs f.1 (omega arith) o z.1 d.1 (or_right (ltb k.planes p) (block_too_deep ks ps) t),
      )

  abbrev ks : List Block
  ks = blocks bs

  planes_written : (planes : List ℕ) → LeavesSet L zero_planes (fresh 1) (set_zero_planes ks planes (fresh 1)) ks
      × Leaves zero_planes PlanesSet (fresh 1) (set_zero_planes ks planes (fresh 1)) ks planes
  planes_written planes =
      planes_set L ks planes (fresh 1) (blocks-placed bs) (fresh_length 1 s bs)
      (λ a n. le_of_eq (fresh_node 1 s bs zero_planes a n).1)

  pub started_writer : (planes : List ℕ) → WriterState L 0 (set_zero_planes ks planes (fresh 1))
  started_writer planes =
      values_in_range L zero_planes 0 (fresh 1) (set_zero_planes ks planes (fresh 1)) (planes_written planes).0.only
      fresh_writer_state

  pub started_first_words : (planes : List ℕ) → length bs ≤ 3 → FirstWords 1 bs s 0 (set_zero_planes ks planes (fresh 1))
  started_first_words planes few =
      same_first_words 1 bs s 0 (fresh 1) (set_zero_planes ks planes (fresh 1))
      (first_stays L (fresh 1) (set_zero_planes ks planes (fresh 1))
      (nodes-only L zero_planes (fresh 1) (set_zero_planes ks planes (fresh 1)) (planes_written planes).0.only))
      (fresh_first_words 1 s bs few)

  pub started_in_step : (planes : List ℕ) → InStep L s (set_zero_planes ks planes (fresh 1)) (fresh 2)
  started_in_step planes =
      let q = (planes_written planes).0 in
      let vs : List ℕ = set_zero_planes ks planes (fresh 1) in
      let o = nodes-only L zero_planes (fresh 1) vs q.only in
      record {
        sync = q.sync (fresh 2) fresh_sync;
        order = q.order (fresh_order 1);
        blocks = λ p b. same_in_step s (fresh 1) (fresh 2) vs (fresh 2) p (block_stays L (fresh 1) vs o p b)
            (refl, refl, refl, refl) (fresh_in_step p b);
        writer-length = q.only.long ∙ fresh_length 1 s bs;
        reader-length = fresh_length 2 s bs;
        style-is = fresh_style 2;
      }

  pub started_booked : (planes : List ℕ) → length planes ≡ length ks → band_too_deep bs ≡ false → block_too_deep ks planes ≡ false
      → AllBooked (set_zero_planes ks planes (fresh 1)) ks (new_book bs planes)
  unfolding blocks
  started_booked planes l d t =
      let q = planes_written planes in
      let vs : List ℕ = set_zero_planes ks planes (fresh 1) in
      subst (AllBooked vs ks) (sym (new_book_is 13 bs planes l))
      (all_booked ks planes vs (blocks-placed bs) l q.0.only q.1 (not_too_deep 13 bs d) t)

-- ---- an accepted start

pub startable : (r n : ℕ) (given : List Band) (s : ℕ) (planes lent : List ℕ) → StartAccepted r n given s planes lent
    → Startable (take n given) s
startable r n given s planes lent a =
    record {
      shape = subst (λ (m : ℕ). bad_shape m (take n given) ≡ false) (sym (all_given n given a.enough)) a.shape;
      style-in = a.style-in;
      planes_in = a.bands-in;
    }
