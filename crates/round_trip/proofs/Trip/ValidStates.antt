-- A writer's state in its ranges, and a reader's in step with one, are valid: refusal 5 isn't given for them.
use mathlib.Core.Path.{◌≡◌, refl, ◌∙◌}
use mathlib.Core.Logic.{inl, inr}
use mathlib.Core.Bool.{Bool, true, false, cond, ◌&&◌, or-true}
use mathlib.Core.List.{List, [], ◌∷◌}
use Prim.Native.Nat.{ℕ, zero, suc, ◌+◌, ◌*◌, ◌≤◌, ◌<◌}
use native.Mathlib.Nat.{le_trans, le_refl}
use native.Mathlib.Omega.{arith}
use lib.ListN.{length}
use lib.Dec.{leb, eqb}
use borrow.Author.Tests.{eq-eqb, ne_eqb, le-leb}
use Rattle.t800.specs.declared.Band.{Band}
use Rattle.t800.specs.Base.{every}
use Rattle.t800.specs.TagTree.{value, low, known}
use Rattle.t800.specs.State.{not_yet_included, not_yet_planes, band_nodes, blocks_in, band_length, state_length, end_of, writer, reader}
use Rattle.t800.specs.State.{role, style, layer, passes_so_far, length_bits}
use Rattle.t800.specs.Ranges.{bad_shape, bad_style, band_too_deep, node_in_range, block_in_range, band_in_range_with, bands_in_range, bands_in_range_with}
use Rattle.t800.specs.Ranges.{valid_state, valid_state_with}
use Rattle.t800_laws.proofs.Laws.Tests.{on-eq, if-true, if-false}
use Rattle.t800_laws.proofs.Laws.Layout.{Tree, inclusion, zero_planes, not_yet, NodeFrom, BlockFrom, layout_of}
use Rattle.t800_laws.proofs.Laws.FirstWords.{FirstWords}
use Rattle.round_trip.proofs.Trip.Nodes.{Sync, not_known, is_known}
use Rattle.round_trip.proofs.Trip.NodeWords.{node_at}
use Rattle.round_trip.proofs.Trip.Limits.{limit_after, passes_after, limit_in_range, passes_in_range, none_after_0}
use Rattle.round_trip.proofs.Trip.WriterState.{low_bound, NodeRange, WriterBlock, WriterState}
use Rattle.round_trip.proofs.Trip.InStep.{BlockInStep, InStep}

every_true : (n : ℕ) (f : ℕ → Bool) → ((i : ℕ) → i < n → f i ≡ true) → every n f ≡ true
unfolding every
every_true zero f h = refl
every_true (suc n) f h = rw (h n (omega arith), every_true n f (λ i l. h i (omega arith)))

-- ---- nodes and blocks

node_valid : (ws : List ℕ) (m a : ℕ) → value ws a ≤ m → low ws a ≤ m → known ws a ≤ 1 → node_in_range ws m a ≡ true
unfolding node_in_range
node_valid ws m a v l k = rw (le-leb (value ws a) m v, le-leb (low ws a) m l, le-leb (known ws a) 1 k)

low-bound_in : (t : ℕ) (u : Tree) → t ≤ not_yet_included → low_bound t u ≤ not_yet u
low-bound_in t inclusion h = h
low-bound_in t zero_planes h = le_refl not_yet_planes

writer-node : (ws : List ℕ) (t : ℕ) (u : Tree) (a : ℕ) → t ≤ not_yet_included → NodeRange (not_yet u) (low_bound t u) (node_at ws a)
    → node_in_range ws (not_yet u) a ≡ true
writer-node ws t u a ht r = node_valid ws (not_yet u) a r.value_in (le_trans r.low-in (low-bound_in t u ht)) r.known_in

reader-node : (ws rs : List ℕ) (mark a : ℕ) → Sync mark (node_at ws a) (node_at rs a) → node_in_range rs mark a ≡ true
reader-node ws rs mark a (not_known k mv ml nl nv mk) = node_valid rs mark a (omega arith) (omega arith) (omega arith)
reader-node ws rs mark a (is_known k mv ml nl nv mk) = node_valid rs mark a (omega arith) (omega arith) (omega arith)

bits_valid : (p l : ℕ) → (p ≡ 0 → l ≡ 0) → (0 < p → 3 ≤ l) → l ≤ 32 → cond (eqb p 0) (eqb l 0) (leb 3 l && leb l 32) ≡ true
bits_valid p l z lo hi =
    on-eq p 0
    (λ h. if-true (eqb p 0) _ _ (eq-eqb p 0 h) ∙ eq-eqb l 0 (z h))
    (λ h. if-false (eqb p 0) _ _ (ne_eqb p 0 h) ∙ rw (le-leb 3 l (lo (omega arith)), le-leb l 32 hi))

writer-block : (ws : List ℕ) (t p : ℕ) → role ws ≡ 1 → layer ws ≡ t → WriterBlock t ws p → block_in_range ws p ≡ true
unfolding block_in_range writer
writer-block ws t p r l b =
    let n : ℕ = passes_so_far ws p in
    rw (
      r,
      l,
      le-leb n (164 * t) b.most,
      bits_valid n (length_bits ws p) b.no_bits b.some_bits b.most_bits,
      or-true (eqb n 0),
      b.no_limit,
      b.no_passes_lem,
    )

reader-block : (ws rs : List ℕ) (s t p : ℕ) → role rs ≡ 2 → layer rs ≡ t → style rs ≡ s → WriterBlock t ws p → BlockInStep s ws rs p
    → block_in_range rs p ≡ true
unfolding block_in_range writer
reader-block ws rs s t p r l st w b =
    let n : ℕ = passes_so_far ws p in
    rw (
      r,
      l,
      st,
      b.passes,
      b.bits,
      b.limit,
      b.used,
      le-leb n (164 * t) w.most,
      bits_valid n (length_bits ws p) w.no_bits w.some_bits w.most_bits,
    )
    (on-eq n 0
    (λ h. rw (eq-eqb n 0 h, (none_after_0 s n h).0, (none_after_0 s n h).1))
    (λ h. let q = passes_in_range s n (omega arith) in
    rw (
      ne_eqb n 0 h,
      limit_in_range s n (omega arith),
      le-leb 1 (passes_after s n) q.0,
      le-leb (passes_after s n) (limit_after s n) q.1,
    )))

-- ---- all bands

bands-valid : (ws : List ℕ) (at : ℕ) (bs : List Band)
    → ((u : Tree) (a : ℕ) → NodeFrom u at bs a → node_in_range ws (not_yet u) a ≡ true)
    → ((p : ℕ) → BlockFrom at bs p → block_in_range ws p ≡ true)
    → bands_in_range ws at bs ≡ true
unfolding bands_in_range_with band_in_range_with
bands-valid ws at [] f g = refl
bands-valid ws at (b ∷ bs) f g =
    let n : ℕ = band_nodes b in
    rw (
      every_true n (λ i. node_in_range ws not_yet_included (at + 3 * i)) (λ i h. f inclusion (at + 3 * i) (inl (i, h, refl))),
      every_true n (λ i. node_in_range ws not_yet_planes (at + 3 * n + 3 * i)) (λ i h. f zero_planes (at + 3 * n + 3 * i) (inl (i, h, refl))),
      every_true (blocks_in b) (λ i. block_in_range ws (at + 6 * n + 4 * i)) (λ i h. g (at + 6 * n + 4 * i) (inl (i, h, refl))),
    )
    (bands-valid ws (at + band_length b) bs (λ u a m. f u a (inr m)) (λ p m. g p (inr m)))

-- ---- the state

-- bands and style that a start accepts
pub record Startable (bs : List Band) (s : ℕ) : Type 0 where
  pub shape : bad_shape (length bs) bs ≡ false
  pub style-in : bad_style s ≡ false
  pub planes_in : band_too_deep bs ≡ false

state_valid : (r : ℕ) (bs : List Band) (s t : ℕ) (ws : List ℕ) (n : ℕ) → FirstWords r bs s t ws → Startable bs s
    → t ≤ not_yet_included → length ws ≡ end_of 13 bs → n ≡ length ws → bands_in_range ws 13 bs ≡ true
    → valid_state r ws n ≡ true
unfolding valid_state_with state_length
state_valid r bs s t ws n h a ht l m g =
    rw (
      h.bands-are,
      h.role-is,
      h.count_is,
      a.shape,
      h.style-is,
      h.layer-is,
      h.unused,
      a.style-in,
      a.planes_in,
      eq-eqb r r refl,
      le-leb t not_yet_included ht,
      eq-eqb (length ws) (end_of 13 bs) l,
      eq-eqb n (length ws) m,
      g,
    )

pub writer-valid : (bs : List Band) (s t : ℕ) (ws : List ℕ) (n : ℕ) → FirstWords 1 bs s t ws → Startable bs s → t ≤ not_yet_included
    → WriterState (layout_of bs) t ws → n ≡ length ws → valid_state writer ws n ≡ true
unfolding writer
writer-valid bs s t ws n h a ht y e =
    state_valid 1 bs s t ws n h a ht y.long e
    (bands-valid ws 13 bs (λ u b m. writer-node ws t u b ht (y.nodes u b m))
    (λ p b. writer-block ws t p h.role-is h.layer-is (y.blocks p b)))

pub reader-valid : (bs : List Band) (s t : ℕ) (ws rs : List ℕ) (n : ℕ) → FirstWords 2 bs s t rs → Startable bs s
    → t ≤ not_yet_included → WriterState (layout_of bs) t ws → InStep (layout_of bs) s ws rs → n ≡ length rs
    → valid_state reader rs n ≡ true
unfolding reader
reader-valid bs s t ws rs n h a ht w y e =
    state_valid 2 bs s t rs n h a ht y.reader-length e
    (bands-valid rs 13 bs (λ u b m. reader-node ws rs (not_yet u) b (y.sync u b m))
    (λ p b. reader-block ws rs s t p h.role-is h.layer-is h.style-is (w.blocks p b) (y.blocks p b)))
