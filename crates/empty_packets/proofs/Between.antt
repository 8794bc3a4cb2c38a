-- The inclusion trees between packets: each node is told or open, whatever packets came, and the values are in order.
use mathlib.Core.Path.{◌≡◌, refl, sym, ap, ◌∙◌, subst, subst₂}
use mathlib.Core.Logic.{◌≢◌, ◌⊎◌, inl, inr}
use mathlib.Core.List.{List, [], ◌∷◌}
use Prim.Native.Nat.{ℕ, ◌+◌, ◌≤◌, ◌<◌}
use native.Mathlib.Nat.{le_trans, le_of_eq}
use native.Mathlib.Omega.{arith}
use lib.ListN.{length, get_or, set, take, drop, length-set}
use lib.Seq.{get_or-set_other}
use Rattle.t800.specs.declared.Band.{Band}
use Rattle.t800.specs.TagTree.{Coded, value, low, known}
use Rattle.t800.specs.Segments.{Segment, segments_of}
use Rattle.t800.specs.State.{Block, not_yet_included, writer, blocks, bands, layer, passes_so_far}
use Rattle.t800.specs.Start.{fresh_state, set_zero_planes}
use Rattle.t800.specs.WriteHeader.{Contribution, set_new_blocks, code_block, code_blocks, contributes, code_present, code_absent, code_header}
use Rattle.t800.specs.Packet.{measure_refusal}
use Rattle.t800_laws.proofs.Laws.Tests.{if-lt, if-ge, either}
use Rattle.t800_laws.proofs.Laws.Layout.{Tree, inclusion, zero_planes, Layout, AllPlaced, layout_of, blocks-placed, end_after}
use Rattle.t800_laws.proofs.Laws.FirstWords.{FirstWords, next_layer}
use Rattle.t800_laws.proofs.Laws.FreshState.{fresh_length, fresh_node}
use Rattle.t800_laws.proofs.Laws.SetLeaf.{Ordered}
use Rattle.t800_laws.proofs.Laws.Kept.{Kept}
use Rattle.t800_laws.proofs.Laws.HeaderKept.{header_coded_lem}
use Rattle.t800_laws.proofs.Laws.Accepted.{start-accepted}
use Rattle.round_trip.proofs.Trip.Nodes.{Node, node}
use Rattle.round_trip.proofs.Trip.NodeWords.{node_at}
use Rattle.round_trip.proofs.Trip.Trees.{ordered_same}
use Rattle.round_trip.proofs.Trip.Calls.{measured}
use Rattle.round_trip.proofs.Trip.Changes.{low-stays, known-stays, block_coded}
use Rattle.round_trip.proofs.Trip.SetLeaves.{LeavesSet, new_blocks_set, planes_set}
use Rattle.round_trip.proofs.Trip.WriterState.{header_blocks}
use Rattle.round_trip.proofs.Trip.WriterInRange.{writer-after_start}
use Rattle.round_trip.proofs.Trip.Start.{started_in_step}
use Rattle.empty_packets.specs.LaterPackets.{Accepted, state_behind, block_bits_from, block_bits, Started, started_state}
use Rattle.empty_packets.proofs.Settled.{Tidy, settled}
use Rattle.empty_packets.proofs.SettledPaths.{Tidied, settled-or-same, block_tidied}
use Rattle.empty_packets.proofs.NewBlocks.{AllOnNew, SamePasses, on_new_before, values_keep_passes}
use Rattle.empty_packets.proofs.NewBlocks.{coding_keeps_passes, every-word_set, off_new_stays}

-- with next layer t: its value is known, and lies below t
pub record Told (t : ℕ) (n : Node) : Type 0 where
  pub is_known : n.known ≡ 1
  pub at_value : n.low ≡ n.value
  pub before_now : n.value < t

-- it has none yet
pub record Open (t : ℕ) (n : Node) : Type 0 where
  pub no_value : n.value ≡ not_yet_included
  pub not_known : n.known ≡ 0
  pub low-in : n.low ≤ t

abbrev pub ToldOrOpen : (t : ℕ) → Node → Type 0
ToldOrOpen t n = Told t n ⊎ Open t n

pub record Between (L : Layout) (t : ℕ) (ws : List ℕ) : Type 0 where
  pub long : length ws ≡ L.size
  pub order : Ordered L ws
  pub nodes : (a : ℕ) → L.Node inclusion a → ToldOrOpen t (node_at ws a)

-- ---- the next layer moves

still_told_or_open : (t : ℕ) (n : Node) → ToldOrOpen t n → ToldOrOpen (t + 1) n
still_told_or_open t n (inl h) =
    inl (record { is_known = h.is_known; at_value = h.at_value; before_now = le_trans h.before_now (omega arith) })
still_told_or_open t n (inr h) =
    inr (record { no_value = h.no_value; not_known = h.not_known; low-in = le_trans h.low-in (omega arith) })

between_later : (L : Layout) (t : ℕ) (ws : List ℕ) → Between L t ws → Between L (t + 1) ws
between_later L t ws y =
    record { long = y.long; order = y.order; nodes = λ a n. still_told_or_open t (node_at ws a) (y.nodes a n) }

-- nothing but the layer, word 3, changes
abbrev pub LayerOnly : List ℕ → List ℕ → Type 0
LayerOnly ws vs = (length vs ≡ length ws) × ((i : ℕ) → i ≢ 3 → get_or vs i 0 ≡ get_or ws i 0)

pub layer-set : (ws : List ℕ) (x : ℕ) → LayerOnly ws (set ws 3 x)
layer-set ws x = (length-set ws 3 x, λ i e. get_or-set_other ws 3 i x 0 e)

module _ (L : Layout) (ws vs : List ℕ) (o : LayerOnly ws vs) where
  pub layer-off_nodes : (u : Tree) (a : ℕ) → L.Node u a → node_at vs a ≡ node_at ws a
  layer-off_nodes u a n =
      let h = (L.node_in u a n).0 in
      λ i. node (o.1 a (omega arith) i) (o.1 (a + 1) (omega arith) i) (o.1 (a + 2) (omega arith) i)

  pub layer-off_passes : (p : ℕ) → L.BlockAt p → passes_so_far vs p ≡ passes_so_far ws p
  layer-off_passes p b = let h = (L.block_in p b).0 in o.1 p (omega arith)

  pub layer-keeps_order : Ordered L ws → Ordered L vs
  layer-keeps_order = ordered_same L ws vs (λ u a n. ap (λ (m : Node). m.value) (layer-off_nodes u a n))

between_layer_set : (L : Layout) (t x : ℕ) (ws : List ℕ) → Between L t ws → Between L t (set ws 3 x)
between_layer_set L t x ws y =
    let o = layer-set ws x in
    record {
      long = o.0 ∙ y.long;
      order = layer-keeps_order L ws (set ws 3 x) o y.order;
      nodes = λ a n. subst (ToldOrOpen t) (sym (layer-off_nodes L ws (set ws 3 x) o inclusion a n)) (y.nodes a n);
    }

-- ---- a packet is coded in layer t

-- an inclusion value then
abbrev Value : (t v : ℕ) → Type 0
Value t v = (v ≤ t) ⊎ (v ≡ not_yet_included)

-- while the blocks ks are left to code: a node that is on none of the new ones' paths is told or open
record During (L : Layout) (t : ℕ) (ks : List Block) (ws : List ℕ) : Type 0 where
  tidied : Tidied L t ws
  values : (a : ℕ) → L.Node inclusion a → Value t (value ws a)
  done : (a : ℕ) → L.Node inclusion a → AllOnNew (λ b. a ≢ b) ws ks → ToldOrOpen (t + 1) (node_at ws a)

low-in_layer : (t : ℕ) (n : Node) → ToldOrOpen t n → n.low ≤ t
low-in_layer t n (inl h) = omega (arith, h.at_value, h.before_now)
low-in_layer t n (inr h) = h.low-in

between_tidy : (t : ℕ) (n : Node) → t < not_yet_included → ToldOrOpen t n → Tidy t n
between_tidy t n l (inl h) =
    record {
      low_value = le_of_eq h.at_value;
      low-in = omega (arith, h.at_value, h.before_now);
      not_known = λ z. absurd (omega (arith, h.before_now, z));
    }
between_tidy t n l (inr h) =
    record {
      low_value = omega (arith, h.low-in, h.no_value);
      low-in = omega (arith, h.low-in);
      not_known = λ _. h.not_known;
    }

value_of : (t : ℕ) (n : Node) → ToldOrOpen t n → Value t n.value
value_of t n (inl h) = inl (omega (arith, h.before_now))
value_of t n (inr h) = inr h.no_value

-- set to t, if it lies above t
set_tidy : (t : ℕ) (n : Node) → ToldOrOpen t n → t < n.value → Tidy t (node t n.low n.known)
set_tidy t n (inl h) z = absurd (omega (arith, h.before_now, z))
set_tidy t n (inr h) z =
    record { low_value = h.low-in; low-in = omega (arith, h.low-in); not_known = λ e. absurd (omega (arith, e)) }

settled_done : (t v : ℕ) → t < not_yet_included → Value t v → ToldOrOpen (t + 1) (settled t v)
settled_done t v l (inl h) =
    inl (record { is_known = if-lt v (t + 1) 1 0 (omega arith); at_value = omega arith; before_now = omega arith })
settled_done t v l (inr h) =
    inr (record { no_value = h; not_known = if-ge v (t + 1) 1 0 (omega arith); low-in = omega arith })

new_blocks_leaves : (L : Layout) (t : ℕ) (ks : List Block) (cs ws : List ℕ) → AllPlaced L ks → Between L t ws
    → LeavesSet L inclusion ws (set_new_blocks t ks cs ws) ks
new_blocks_leaves L t ks cs ws f y =
    (new_blocks_set L t ks cs ws f y.long (λ a n. low-in_layer t (node_at ws a) (y.nodes a n))).0

pub setting_keeps_passes : (L : Layout) (t : ℕ) (ks : List Block) (cs ws : List ℕ) → AllPlaced L ks → Between L t ws
    → SamePasses ws (set_new_blocks t ks cs ws) ks
setting_keeps_passes L t ks cs ws f y =
    values_keep_passes L ws (set_new_blocks t ks cs ws) ks f (new_blocks_leaves L t ks cs ws f y).only

during_set : (L : Layout) (t : ℕ) (ks : List Block) (cs ws : List ℕ) → AllPlaced L ks → t < not_yet_included → Between L t ws
    → During L t ks (set_new_blocks t ks cs ws)
during_set L t ks cs ws f l y =
    let us : List ℕ = set_new_blocks t ks cs ws in
    let s = new_blocks_leaves L t ks cs ws f y in
    let lo : (a : ℕ) → L.Node inclusion a → low us a ≡ low ws a = low-stays L inclusion ws us s.only inclusion in
    let kn : (a : ℕ) → L.Node inclusion a → known us a ≡ known ws a = known-stays L inclusion ws us s.only inclusion in
    record {
      tidied = record {
        long = s.only.long ∙ y.long;
        order = s.order y.order;
        tidy = λ a n. let e : node (value us a) (low ws a) (known ws a) ≡ node_at us a =
            λ i. node (value us a) (sym (lo a n) i) (sym (kn a n) i) in
            subst (Tidy t) e
            (every-word_set (λ z. Tidy t (node z (low ws a) (known ws a))) t ks cs ws a (set_tidy t (node_at ws a) (y.nodes a n))
            (between_tidy t (node_at ws a) l (y.nodes a n)));
      };
      values = λ a n. every-word_set (Value t) t ks cs ws a (λ _. inl (omega arith)) (value_of t (node_at ws a) (y.nodes a n));
      done = λ a n o. let before = on_new_before (λ b. a ≢ b) ws us ks (setting_keeps_passes L t ks cs ws f y) o in
          let v : value us a ≡ value ws a = off_new_stays L t ks cs ws a f before in
          let e : node_at ws a ≡ node_at us a = λ i. node (sym v i) (sym (lo a n) i) (sym (kn a n) i) in
          subst (ToldOrOpen (t + 1)) e (still_told_or_open t (node_at ws a) (y.nodes a n));
    }

pub new_blocks_tidied : (L : Layout) (t : ℕ) (ks : List Block) (cs ws : List ℕ) → AllPlaced L ks → t < not_yet_included → Between L t ws
    → Tidied L t (set_new_blocks t ks cs ws)
new_blocks_tidied L t ks cs ws f l y = (during_set L t ks cs ws f l y).tidied

during_block : (L : Layout) (t : ℕ) (k : Block) (ks : List Block) (c : ℕ) (segments : List Segment) (ws : List ℕ) → AllPlaced L (k ∷ ks)
    → t < not_yet_included → During L t (k ∷ ks) ws → During L t ks (code_block t k c segments ws).words
during_block L t k ks c segments ws f l y =
    let P = f.0.0 in
    let vs : List ℕ = (code_block t k c segments ws).words in
    let b = block_coded L k P c t segments ws y.tidied.long in
    record {
      tidied = block_tidied L k P t c segments ws y.tidied;
      values = λ a n. subst (Value t) (sym (b.values inclusion a n)) (y.values a n);
      done = λ a n o. settled-or-same L k P t c segments ws y.tidied a n
          (λ e. subst (ToldOrOpen (t + 1)) (sym e) (settled_done t (value ws a) l (y.values a n)))
          (λ q e. subst (ToldOrOpen (t + 1)) (sym e)
          (y.done a n (q, on_new_before (λ b. a ≢ b) ws vs ks (coding_keeps_passes L ws vs k c ks b f.0.1 f.1) o)));
    }

during_blocks : (L : Layout) (t : ℕ) (ks : List Block) (cs ls ms ws : List ℕ) → AllPlaced L ks → length cs ≡ length ks
    → t < not_yet_included → During L t ks ws → During L t [] (code_blocks t ks cs ls ms ws).words
unfolding code_blocks
during_blocks L t [] cs ls ms ws f e l y = y
during_blocks L t (k ∷ ks) [] ls ms ws f e l y = absurd (omega arith)
during_blocks L t (k ∷ ks) (c ∷ cs) ls ms ws f e l y =
    let segments : List Segment = segments_of (take c ls) (take c ms) in
    during_blocks L t ks cs (drop c ls) (drop c ms) (code_block t k c segments ws).words f.1 (omega arith) l
    (during_block L t k ks c segments ws f l y)

between_coded : (L : Layout) (t : ℕ) (ks : List Block) (p : Contribution) (ws : List ℕ) → AllPlaced L ks
    → length p.counts ≡ length ks → t < not_yet_included → Between L t ws
    → Between L (t + 1) (header_blocks t ks p ws).words
between_coded L t ks p ws f e l y =
    let d = during_blocks L t ks p.counts p.lengths p.marks (set_new_blocks t ks p.counts ws) f e l
    (during_set L t ks p.counts ws f l y) in
    record { long = d.tidied.long; order = d.tidied.order; nodes = λ a n. d.done a n tt }

-- ---- a started writer

between_started : (bs : List Band) (s : ℕ) (planes : List ℕ)
    → Between (layout_of bs) 0 (set_zero_planes (blocks bs) planes (fresh_state 1 s bs))
between_started bs s planes =
    let L : Layout = layout_of bs in
    let ws : List ℕ = fresh_state 1 s bs in
    let vs : List ℕ = set_zero_planes (blocks bs) planes ws in
    let o = (planes_set L (blocks bs) planes ws (blocks-placed bs) (fresh_length 1 s bs)
    (λ a n. le_of_eq (fresh_node 1 s bs zero_planes a n).1)).0.only in
    record {
      long = o.long ∙ fresh_length 1 s bs;
      order = (started_in_step bs s planes).order;
      nodes = λ a n. let f = fresh_node 1 s bs inclusion a n in
          inr (record {
            no_value = o.off a (λ b m. L.other_tree a b n m) ∙ f.0;
            not_known = known-stays L zero_planes ws vs o inclusion a n ∙ f.2;
            low-in = le_of_eq (low-stays L zero_planes ws vs o inclusion a n ∙ f.1);
          });
    }

-- ---- a writer's state with bands bs, style s and next layer t, behind any packets

pub record Reached (bs : List Band) (s t : ℕ) (ws : List ℕ) : Type 0 where
  pub first_words_lem : FirstWords 1 bs s t ws
  pub layers : t ≤ not_yet_included
  pub between : Between (layout_of bs) t ws

pub reached_started : (count : ℕ) (given : List Band) (style : ℕ) (planes lent : List ℕ) → Started count given style planes lent
    → Reached (take count given) style 0 (started_state count given style planes lent)
unfolding writer
reached_started count given style planes lent e =
    let y = writer-after_start count given style planes lent e in
    record {
      first_words_lem = y.first_words_lem;
      layers = y.layers;
      between = subst (Between (layout_of (take count given)) 0) (sym (start-accepted writer count given style planes lent e).state)
          (between_started (take count given) style planes);
    }

module _ (bs : List Band) (s t : ℕ) (ws : List ℕ) (y : Reached bs s t ws) where
  reached_blocks : blocks (bands ws) ≡ blocks bs
  reached_blocks = ap blocks y.first_words_lem.bands-are

  long_enough : (vs : List ℕ) → Between (layout_of bs) (t + 1) vs → 13 ≤ length vs
  long_enough vs b = le_trans (end_after 13 bs) (le_of_eq (sym b.long))

  -- the layer's word is set
  next : (vs : List ℕ) → t < not_yet_included → ((j : ℕ) → j < 13 → get_or vs j 0 ≡ get_or ws j 0) → Between (layout_of bs) (t + 1) vs
      → Reached bs s (t + 1) (set vs 3 (t + 1))
  next vs l e b =
      record {
        first_words_lem = next_layer 1 bs s t (t + 1) ws vs (long_enough vs b) e y.first_words_lem;
        layers = omega (arith, l);
        between = between_layer_set (layout_of bs) (t + 1) (t + 1) vs b;
      }

  pub absent-is : (code_absent ws).words ≡ set ws 3 (t + 1)
  unfolding code_absent
  absent-is = rw y.first_words_lem.layer-is

  pub reached_absent : t < not_yet_included → Reached bs s (t + 1) (code_absent ws).words
  reached_absent l =
      subst (Reached bs s (t + 1)) (sym absent-is) (next ws l (λ j h. refl) (between_later (layout_of bs) t ws y.between))

  pub present_is : (p : Contribution) → (code_present p ws).words ≡ set (header_blocks t (blocks bs) p ws).words 3 (t + 1)
  unfolding code_present
  present_is p = rw (y.first_words_lem.layer-is, reached_blocks)

  pub present_bits_are : (p : Contribution) → (code_present p ws).bits ≡ 1 ∷ (header_blocks t (blocks bs) p ws).bits
  unfolding code_present
  present_bits_are p = rw (y.first_words_lem.layer-is, reached_blocks)

  pub block_bits_are : (p : Contribution) → block_bits p ws
      ≡ block_bits_from t (blocks bs) p.counts p.lengths p.marks (set_new_blocks t (blocks bs) p.counts ws)
  unfolding block_bits
  block_bits_are p = rw (y.first_words_lem.layer-is, reached_blocks)

  header_kept : (p : Contribution) → Kept 13 ws (header_blocks t (blocks bs) p ws).words
  header_kept p =
      subst₂ (λ (n : ℕ) (ks : List Block). Kept 13 ws (header_blocks n ks p ws).words) y.first_words_lem.layer-is reached_blocks
      (header_coded_lem p ws)

  pub reached_present : (p : Contribution) → length p.counts ≡ length (blocks bs) → t < not_yet_included
      → Reached bs s (t + 1) (code_present p ws).words
  reached_present p e l =
      subst (Reached bs s (t + 1)) (sym (present_is p))
      (next (header_blocks t (blocks bs) p ws).words l (header_kept p).same
      (between_coded (layout_of bs) t (blocks bs) p ws (blocks-placed bs) e l y.between))

  pub reached_header : (p : Contribution) → length p.counts ≡ length (blocks bs) → t < not_yet_included
      → Reached bs s (t + 1) (code_header p ws).words
  unfolding code_header
  reached_header p e l =
      either (λ (x : Coded). Reached bs s (t + 1) x.words) (contributes p) _ _ (reached_present p e l) (reached_absent l)

  below : layer ws ≢ not_yet_included → t < not_yet_included
  below e = let n : t ≢ not_yet_included = λ z. e (y.first_words_lem.layer-is ∙ z) in omega (arith, y.layers)

  -- a packet that nothing refuses has a count for each block, and a layer is left for it
  pub accepted_here : (p : Contribution) → measure_refusal ws ws p ≡ 0 → (length p.counts ≡ length (blocks bs)) × (t < not_yet_included)
  accepted_here p e = let m = measured ws ws p e in (m.1.counts ∙ ap length reached_blocks, below m.0)

-- each packet moves the layer by one
pub reached_list : (bs : List Band) (s t : ℕ) (ws : List ℕ) (ps : List Contribution) → Reached bs s t ws → Accepted ws ps
    → Reached bs s (t + length ps) (state_behind ws ps)
unfolding Accepted state_behind
reached_list bs s t ws [] y a = subst (λ (n : ℕ). Reached bs s n ws) (omega arith) y
reached_list bs s t ws (p ∷ ps) y a =
    let h = accepted_here bs s t ws y p a.0 in
    subst (λ (n : ℕ). Reached bs s n (state_behind (code_header p ws).words ps)) (omega arith)
    (reached_list bs s (t + 1) (code_header p ws).words ps (reached_header bs s t ws y p h.0 h.1) a.1)
