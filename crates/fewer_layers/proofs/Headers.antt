-- A header below layer m, written or read with n for m in the inclusion trees: the same bits, reports, records and refusals, and n for m
-- in the words after it.
use mathlib.Core.Path.{◌≡◌, refl, sym, ap, ◌∙◌}
use mathlib.Core.Bool.{Bool, true≢false, cond, ◌&&◌}
use mathlib.Core.List.{List, [], ◌∷◌, reverse}
use Prim.Native.Nat.{ℕ, zero, suc, ◌+◌, ◌-◌, ◌*◌, ◌≤◌, ◌<◌}
use native.Mathlib.Omega.{arith}
use lib.ListN.{length, get_or, set, take, drop}
use lib.Dec.{ltb, leb, eqb}
use Rattle.t800.specs.declared.Band.{Band}
use Rattle.t800.specs.declared.Bio.{Bio}
use Rattle.t800.specs.Refusals.{width_refusal, records_refusal, header_end_refusal}
use Rattle.t800.specs.Bits.{Decoded, get_bit, ends_in_ff}
use Rattle.t800.specs.TagTree.{set_value, PathRead, read_path}
use Rattle.t800.specs.Segments.{Segment, segments_of, width}
use Rattle.t800.specs.State.{Block, not_yet_planes, blocks, bands, layer, passes_so_far, length_bits}
use Rattle.t800.specs.WriteHeader.{Contribution, is_new, length_bits_before, set_new_blocks, code_inclusion, code_zero_planes, code_passes}
use Rattle.t800.specs.WriteHeader.{code_block, code_blocks, contributes, code_present, code_absent, code_header}
use Rattle.t800.specs.ReadHeader.{HeaderRead, refused, moved_to, opens_segment, current_limit, current_passes, passes_taken, read_segment}
use Rattle.t800.specs.ReadHeader.{read_segments, read_zero_planes_from, read_zero_planes, read_included, read_new_block, read_old_block, read_block}
use Rattle.t800.specs.ReadHeader.{read_blocks, read_header}
use Rattle.t800.specs.FewerLayers.{replaced_from}
use Rattle.t800_laws.proofs.Laws.Paths.{all_so}
use Rattle.t800_laws.proofs.Laws.Layout.{inclusion, zero_planes, NodeFrom, layout_of, Placed, AllPlaced, path_nodes, from_root_nodes}
use Rattle.t800_laws.proofs.Laws.Layout.{leaf_to_root, root_to_leaf, blocks-placed, leaf_node}
use Rattle.fewer_layers.proofs.Replaced.{choice_of, same-choice, same_below, value_at, Stays, replaced_words, replaced-get, stays_get}
use Rattle.fewer_layers.proofs.Replaced.{stays_set, first_stays, second_stays, third_stays, planes_stay, block_stays, first-same}
use Rattle.fewer_layers.proofs.Replaced.{bands-same}
use Rattle.fewer_layers.proofs.Trees.{UpTo, AllUpTo, leaf_replaced, replaced_coded, path_coded, replaced_read, path_read_lem}

-- ---- a block that stands in the layout

planes_up_to : (m : ℕ) (bs : List Band) (t a : ℕ) → NodeFrom zero_planes 13 bs a → UpTo m bs t a
planes_up_to m bs t a v =
    record {
      value = λ e. absurd (true≢false (sym e ∙ planes_stay bs a v));
      low = second_stays bs zero_planes a v;
      known = third_stays bs zero_planes a v;
    }

inclusion_up_to : (m : ℕ) (bs : List Band) (t a : ℕ) → t < m → NodeFrom inclusion 13 bs a → UpTo m bs (t + 1) a
inclusion_up_to m bs t a h v =
    record { value = λ e. (omega arith, omega arith); low = second_stays bs inclusion a v; known = third_stays bs inclusion a v }

module _ (m : ℕ) (bs : List Band) (k : Block) (P : Placed (layout_of bs) k) where
  pub planes_path : (t : ℕ) → AllUpTo m bs t k.zero_tree k.path
  planes_path t = all_so _ (UpTo m bs t) (leaf_to_root zero_planes k) (planes_up_to m bs t) (path_nodes (layout_of bs) zero_planes k P)

  planes_from_root : (t : ℕ) → AllUpTo m bs t k.zero_tree (reverse k.path)
  planes_from_root t = all_so _ (UpTo m bs t) (root_to_leaf zero_planes k) (planes_up_to m bs t) (from_root_nodes (layout_of bs) zero_planes k P)

  inclusion_path : (t : ℕ) → t < m → AllUpTo m bs (t + 1) k.incl_tree k.path
  inclusion_path t h =
      all_so _ (UpTo m bs (t + 1)) (leaf_to_root inclusion k) (λ a. inclusion_up_to m bs t a h) (path_nodes (layout_of bs) inclusion k P)

  inclusion_from_root : (t : ℕ) → t < m → AllUpTo m bs (t + 1) k.incl_tree (reverse k.path)
  inclusion_from_root t h =
      all_so _ (UpTo m bs (t + 1)) (root_to_leaf inclusion k) (λ a. inclusion_up_to m bs t a h) (from_root_nodes (layout_of bs) inclusion k P)

-- its four words
module _ (bs : List Band) (k : Block) (P : Placed (layout_of bs) k) where
  own_stays : Stays bs k.at
  own_stays = let e : k.at + 0 ≡ k.at = omega arith in rw e at (block_stays bs k.at 0 P.block (omega arith))

  own_after : (j : ℕ) → j < 4 → Stays bs (k.at + j)
  own_after j h = block_stays bs k.at j P.block h

-- n for m in the words after a read
module _ (m n : ℕ) (bs : List Band) where
  abbrev pub replaced_header : HeaderRead → HeaderRead
  replaced_header r =
      record { refusal = r.refusal; words = replaced_words m n bs r.words; bio = r.bio; reports = r.reports; records = r.records }

  pub refused-same : (why : ℕ) → refused why ≡ replaced_header (refused why)
  unfolding replaced_from
  refused-same why = refl

module _ (m n : ℕ) (more : m ≤ n) (bs : List Band) where
  abbrev R : List ℕ → List ℕ
  R ws = replaced_words m n bs ws

  -- ---- writing

  new_same : (k : Block) (ws : List ℕ) → Placed (layout_of bs) k → is_new (R ws) k ≡ is_new ws k
  unfolding is_new
  new_same k ws P = ap (λ (z : ℕ). eqb z 0) (stays_get m n bs ws k.at (own_stays bs k P))

  pub bits_before_same : (k : Block) (ws : List ℕ) → Placed (layout_of bs) k → length_bits_before (R ws) k ≡ length_bits_before ws k
  unfolding length_bits_before
  bits_before_same k ws P = rw (new_same k ws P, stays_get m n bs ws (k.at + 1) (own_after bs k P 1 (omega arith)))

  module _ (now : ℕ) (soon : now < m) where
    new_blocks_replaced : (ks : List Block) (cs ws : List ℕ) → AllPlaced (layout_of bs) ks
        → set_new_blocks now ks cs (R ws) ≡ R (set_new_blocks now ks cs ws)
    unfolding set_new_blocks
    new_blocks_replaced [] cs ws P = refl
    new_blocks_replaced (k ∷ ks) [] ws P = refl
    new_blocks_replaced (k ∷ ks) (c ∷ cs) ws P =
        let after : List ℕ = cond (is_new ws k && ltb 0 c) (set_value k.incl_tree k.path now ws) ws in
        ap (set_new_blocks now ks cs)
        (choice_of R (is_new ws k && ltb 0 c) (is_new (R ws) k && ltb 0 c) _ _ _ _
        (ap (λ (z : Bool). z && ltb 0 c) (new_same k ws P.0.0))
        (leaf_replaced m n more bs k.incl_tree k.path now ws (inclusion_path m bs k P.0.0 now soon))
        refl)
        ∙ new_blocks_replaced ks cs after P.1

    module _ (k : Block) (P : Placed (layout_of bs) k) where
      inclusion_replaced : (c : ℕ) (ws : List ℕ) → code_inclusion now k c (R ws) ≡ replaced_coded m n bs (code_inclusion now k c ws)
      unfolding code_inclusion
      inclusion_replaced c ws =
          choice_of (replaced_coded m n bs) (is_new ws k) (is_new (R ws) k) _ _ _ _ (new_same k ws P)
          (path_coded m n more bs k.incl_tree (now + 1) (reverse k.path) 0 ws (inclusion_from_root m bs k P now soon))
          refl

      planes_replaced : (ws : List ℕ) → code_zero_planes k (R ws) ≡ replaced_coded m n bs (code_zero_planes k ws)
      unfolding code_zero_planes
      planes_replaced ws =
          choice_of (replaced_coded m n bs) (is_new ws k) (is_new (R ws) k) _ _ _ _ (new_same k ws P)
          (path_coded m n more bs k.zero_tree not_yet_planes (reverse k.path) 0 ws (planes_from_root m bs k P not_yet_planes))
          refl

      passes_replaced : (c : ℕ) (segments : List Segment) (ws : List ℕ)
          → code_passes k c segments (R ws) ≡ replaced_coded m n bs (code_passes k c segments ws)
      unfolding code_passes
      passes_replaced c segments ws =
          rw (
            bits_before_same k ws P,
            stays_get m n bs ws k.at (own_stays bs k P),
            stays_set m n bs ws k.at (passes_so_far ws k.at + c) (own_stays bs k P),
            stays_set m n bs (set ws k.at (passes_so_far ws k.at + c)) (k.at + 1) _ (own_after bs k P 1 (omega arith)),
          )

      block_replaced : (c : ℕ) (segments : List Segment) (ws : List ℕ)
          → code_block now k c segments (R ws) ≡ replaced_coded m n bs (code_block now k c segments ws)
      unfolding code_block
      block_replaced c segments ws =
          let after : List ℕ = (code_inclusion now k c ws).words in
          rw (
            inclusion_replaced c ws,
            planes_replaced after,
            passes_replaced c segments (code_zero_planes k after).words,
          )
          (same-choice (replaced_coded m n bs) (eqb c 0) _ _)

    blocks-replaced : (ks : List Block) (cs ls ms ws : List ℕ) → AllPlaced (layout_of bs) ks
        → code_blocks now ks cs ls ms (R ws) ≡ replaced_coded m n bs (code_blocks now ks cs ls ms ws)
    unfolding code_blocks
    blocks-replaced [] cs ls ms ws P = refl
    blocks-replaced (k ∷ ks) [] ls ms ws P = refl
    blocks-replaced (k ∷ ks) (c ∷ cs) ls ms ws P =
        let segments : List Segment = segments_of (take c ls) (take c ms) in
        rw (
          block_replaced k P.0.0 c segments ws,
          blocks-replaced ks cs (drop c ls) (drop c ms) (code_block now k c segments ws).words P.1,
        )

  -- ---- reading

  abbrev H : HeaderRead → HeaderRead
  H r = replaced_header m n bs r

  module _ (k : Block) (P : Placed (layout_of bs) k) where
    opens_same : (ws : List ℕ) → opens_segment (R ws) k ≡ opens_segment ws k
    unfolding opens_segment
    opens_same ws =
        rw (
          stays_get m n bs ws (k.at + 2) (own_after bs k P 2 (omega arith)),
          stays_get m n bs ws (k.at + 3) (own_after bs k P 3 (omega arith)),
        )

    limit_same : (ws : List ℕ) → current_limit (R ws) k ≡ current_limit ws k
    unfolding current_limit
    limit_same ws =
        rw (
          opens_same ws,
          stays_get m n bs ws (k.at + 2) (own_after bs k P 2 (omega arith)),
          stays_get m n bs ws 2 (first_stays bs 2 (omega arith)),
        )

    passes_same : (ws : List ℕ) → current_passes (R ws) k ≡ current_passes ws k
    unfolding current_passes
    passes_same ws = rw (opens_same ws, stays_get m n bs ws (k.at + 3) (own_after bs k P 3 (omega arith)))

    taken_same : (ws : List ℕ) (left : ℕ) → passes_taken (R ws) k left ≡ passes_taken ws k left
    unfolding passes_taken
    taken_same ws left = rw (limit_same ws, passes_same ws)

    module _ (src : List ℕ) (room i : ℕ) where
      segment-replaced : (passes : ℕ) (r : HeaderRead)
          → read_segment src room i k passes (H r) ≡ H (read_segment src room i k passes r)
      unfolding read_segment
      segment-replaced passes r =
          let ws : List ℕ = r.words in
          let w : ℕ = width (length_bits ws k.at) passes in
          let limit : ℕ = current_limit ws k in
          rw (
            opens_same ws,
            limit_same ws,
            passes_same ws,
            stays_get m n bs ws (k.at + 1) (own_after bs k P 1 (omega arith)),
            stays_set m n bs ws (k.at + 2) limit (own_after bs k P 2 (omega arith)),
            stays_set m n bs (set ws (k.at + 2) limit) (k.at + 3) (current_passes ws k + passes) (own_after bs k P 3 (omega arith)),
          )
          (choice_of H (ltb 32 w) (ltb 32 w) _ _ _ _ refl (refused-same m n bs width_refusal)
          (choice_of H (leb room (length r.records)) (leb room (length r.records)) _ _ _ _ refl
          (refused-same m n bs records_refusal) refl))

      segments_replaced : (bound left : ℕ) (r : HeaderRead)
          → read_segments src room i k bound left (H r) ≡ H (read_segments src room i k bound left r)
      unfolding read_segments
      segments_replaced zero left r = refl
      segments_replaced (suc bound) left r =
          let passes : ℕ = passes_taken r.words k left in
          let a : HeaderRead = read_segment src room i k passes r in
          rw (
            taken_same r.words left,
            segment-replaced passes r,
            segments_replaced bound (left - passes) a,
          )
          (same-choice H (eqb a.refusal 0 && ltb 0 (left - passes)) _ _)

    thresholds_replaced : (src : List ℕ) (bound t : ℕ) (ws : List ℕ) (b : Bio)
        → read_zero_planes_from src k bound t (R ws) b ≡ replaced_read m n bs (read_zero_planes_from src k bound t ws b)
    unfolding read_zero_planes_from
    thresholds_replaced src zero t ws b = refl
    thresholds_replaced src (suc bound) t ws b =
        let r : PathRead = read_path src k.zero_tree t (reverse k.path) 0 ws b in
        let leaf : ℕ = k.zero_tree + 3 * k.leaf in
        rw (
          path_read_lem m n more bs src k.zero_tree t (reverse k.path) 0 ws b (planes_from_root m bs k P t),
          thresholds_replaced src bound (t + 1) r.words r.bio,
          stays_get m n bs r.words leaf (planes_stay bs leaf (leaf_node (layout_of bs) zero_planes k P)),
        )
        (same-choice (replaced_read m n bs) (ltb (get_or r.words leaf 0) t) _ _)

    planes_read : (src : List ℕ) (r : HeaderRead) → read_zero_planes src k (H r) ≡ replaced_read m n bs (read_zero_planes src k r)
    unfolding read_zero_planes
    planes_read src r =
        choice_of (replaced_read m n bs) (is_new r.words k) (is_new (R r.words) k) _ _ _ _ (new_same k r.words P)
        (thresholds_replaced src (not_yet_planes + 2) 0 r.words r.bio) refl

    module _ (src : List ℕ) (room i : ℕ) where
      included_replaced : (r : HeaderRead) → read_included src room i k (H r) ≡ H (read_included src room i k r)
      unfolding read_included
      included_replaced r =
          let ws : List ℕ = r.words in
          let z : PathRead = read_zero_planes src k r in
          let leaf : ℕ = k.zero_tree + 3 * k.leaf in
          rw (
            planes_read src r,
            new_same k ws P,
            bits_before_same k ws P,
            stays_get m n bs ws k.at (own_stays bs k P),
            stays_get m n bs z.words leaf (planes_stay bs leaf (leaf_node (layout_of bs) zero_planes k P)),
            stays_set m n bs z.words k.at _ (own_stays bs k P),
            stays_set m n bs (set z.words k.at _) (k.at + 1) _ (own_after bs k P 1 (omega arith)),
          )
          (segments_replaced src room i _ _ _)

      -- the layer lies below m, and so the leaf's value on the same side of the next
      new_replaced : (now : ℕ) → now < m → (r : HeaderRead)
          → read_new_block src room now i k (H r) ≡ H (read_new_block src room now i k r)
      unfolding read_new_block
      new_replaced now soon r =
          let tree : PathRead = read_path src k.incl_tree (now + 1) (reverse k.path) 0 r.words r.bio in
          let leaf : ℕ = k.incl_tree + 3 * k.leaf in
          let v : ℕ = get_or tree.words leaf 0 in
          rw (path_read_lem m n more bs src k.incl_tree (now + 1) (reverse k.path) 0 r.words r.bio
          (inclusion_from_root m bs k P now soon))
          (choice_of H (ltb v (now + 1)) (ltb (get_or (R tree.words) leaf 0) (now + 1)) _ _ _ _
          (ap (λ (z : ℕ). ltb z (now + 1)) (replaced-get m n bs tree.words leaf (λ e. omega arith))
          ∙ same_below m n more (value_at bs leaf) v (now + 1) (λ e. omega arith))
          (included_replaced (moved_to tree.words tree.bio r))
          refl)

      old_replaced : (r : HeaderRead) → read_old_block src room i k (H r) ≡ H (read_old_block src room i k r)
      unfolding read_old_block
      old_replaced r =
          let bit : Decoded = get_bit src r.bio in
          choice_of H (eqb bit.value 0) (eqb bit.value 0) _ _ _ _ refl refl (included_replaced (moved_to r.words bit.bio r))

      read-replaced : (now : ℕ) → now < m → (r : HeaderRead) → read_block src room now i k (H r) ≡ H (read_block src room now i k r)
      unfolding read_block
      read-replaced now soon r =
          choice_of H (is_new r.words k) (is_new (R r.words) k) _ _ _ _ (new_same k r.words P) (new_replaced now soon r)
          (old_replaced r)

  reads_replaced : (src : List ℕ) (room now : ℕ) → now < m → (i : ℕ) (ks : List Block) (r : HeaderRead) → AllPlaced (layout_of bs) ks
      → read_blocks src room now i ks (H r) ≡ H (read_blocks src room now i ks r)
  unfolding read_blocks
  reads_replaced src room now soon i [] r P = refl
  reads_replaced src room now soon i (k ∷ ks) r P =
      let a : HeaderRead = read_block src room now i k r in
      rw (read-replaced k P.0.0 src room i now soon r, reads_replaced src room now soon (i + 1) ks a P.1)
      (same-choice H (eqb a.refusal 0) _ _)

-- ---- a state's whole header, below layer m

module _ (m n : ℕ) (more : m ≤ n) (ws : List ℕ) (below : layer ws < m) where
  abbrev bs : List Band
  bs = bands ws

  abbrev vs : List ℕ
  vs = replaced_words m n bs ws

  present_replaced : (p : Contribution) → code_present p vs ≡ replaced_coded m n bs (code_present p ws)
  unfolding code_present
  present_replaced p =
      let now : ℕ = layer ws in
      let ks : List Block = blocks bs in
      let after : List ℕ = set_new_blocks now ks p.counts ws in
      rw (
        bands-same m n bs ws,
        first-same m n bs ws 3 (omega arith),
        new_blocks_replaced m n more bs now below ks p.counts ws (blocks-placed bs),
        blocks-replaced m n more bs now below ks p.counts p.lengths p.marks after (blocks-placed bs),
        stays_set m n bs (code_blocks now ks p.counts p.lengths p.marks after).words 3 (now + 1) (first_stays bs 3 (omega arith)),
      )

  absent-replaced : code_absent vs ≡ replaced_coded m n bs (code_absent ws)
  unfolding code_absent
  absent-replaced = rw (first-same m n bs ws 3 (omega arith), stays_set m n bs ws 3 (layer ws + 1) (first_stays bs 3 (omega arith)))

  pub header_replaced : (p : Contribution) → code_header p vs ≡ replaced_coded m n bs (code_header p ws)
  unfolding code_header
  header_replaced p =
      choice_of (replaced_coded m n bs) (contributes p) (contributes p) _ _ _ _ refl (present_replaced p) absent-replaced

  pub header_read_replaced : (src : List ℕ) (room : ℕ) (b : Bio)
      → read_header src room vs b ≡ replaced_header m n bs (read_header src room ws b)
  unfolding read_header
  header_read_replaced src room b =
      let now : ℕ = layer ws in
      let ks : List Block = blocks bs in
      let start : HeaderRead = record { refusal = 0; words = ws; bio = b; reports = []; records = [] } in
      let r : HeaderRead = read_blocks src room now 0 ks start in
      rw (
        bands-same m n bs ws,
        first-same m n bs ws 3 (omega arith),
        reads_replaced m n more bs src room now below 0 ks start (blocks-placed bs),
      )
      (choice_of (replaced_header m n bs) (eqb r.refusal 0 && ends_in_ff src r.bio) (eqb r.refusal 0 && ends_in_ff src r.bio)
      _ _ _ _ refl (refused-same m n bs header_end_refusal) refl)
