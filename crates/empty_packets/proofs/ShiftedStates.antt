-- A state without a packet put in at layer t, and one with it: all words but the layer and the inclusion nodes agree, and those nodes are
-- shifted. Setting a leaf, coding an inclusion path and setting the layer on both sides keep that.
use mathlib.Core.Path.{◌≡◌, refl, sym, ◌∙◌, subst, subst₂}
use mathlib.Core.Bool.{Bool, true, false}
use mathlib.Core.List.{List, [], ◌∷◌, reverse}
use Prim.Native.Nat.{ℕ, ◌+◌, ◌-◌, ◌*◌, ◌≤◌, ◌<◌, zero-le}
use native.Mathlib.Omega.{arith}
use lib.ListN.{length, set, length-set}
use lib.Seq.{get_or-set_same, get_or-set_other}
use Rattle.t800.specs.TagTree.{value, set_value, code_path}
use Rattle.t800.specs.State.{Block, not_yet_included, passes_so_far}
use Rattle.t800_laws.proofs.Laws.Tests.{on-eq, on-lt}
use Rattle.t800_laws.proofs.Laws.Paths.{All, all_so, addresses, Clear}
use Rattle.t800_laws.proofs.Laws.Layout.{inclusion, Layout, Placed, root_to_leaf, path_nodes, from_root_nodes}
use Rattle.t800_laws.proofs.Laws.SetLeaf.{lowers, ends, Ordered, set_value-ordered}
use Rattle.round_trip.proofs.Trip.Nodes.{Node}
use Rattle.round_trip.proofs.Trip.NodeWords.{node_at, nodes_at}
use Rattle.round_trip.proofs.Trip.Trees.{ordered_same, increasing_path, path_coded, coding_keeps}
use Rattle.round_trip.proofs.Trip.Changes.{block_stays, leaf_set, nodes-only}
use Rattle.empty_packets.proofs.SettledPaths.{apart_from_all, InclusionStays, on-path-or-off}
use Rattle.empty_packets.proofs.Between.{LayerOnly, layer-off_nodes, layer-off_passes, layer-keeps_order}
use Rattle.empty_packets.proofs.Alike.{Alike, still_alike, Shared}
use Rattle.empty_packets.proofs.ShiftedNodes.{one_more, neither, Shifted, same, fresh, later, equal, may_be_fresh}
use Rattle.empty_packets.proofs.ShiftedPaths.{AllShifted, nil, cons, path_after, path_bits_lem}

-- ---- two states

pub record Shift (L : Layout) (t : ℕ) (ws vs : List ℕ) : Type 0 where
  pub long : length ws ≡ L.size
  pub order : Ordered L ws
  pub agree : Alike (Shared L) vs ws
  pub nodes : (a : ℕ) → L.Node inclusion a → Shifted t true (node_at ws a) (node_at vs a)

pub other_long : (L : Layout) (t : ℕ) (ws vs : List ℕ) → Shift L t ws vs → length vs ≡ L.size
other_long L t ws vs s = s.agree.long ∙ s.long

-- what a change on both sides keeps of the nodes
abbrev pub NodesKept : Layout → (t : ℕ) (ws vs ws' vs' : List ℕ) → Type 0
NodesKept L t ws vs ws' vs' = (may : Bool) (a : ℕ) → L.Node inclusion a → Shifted t may (node_at ws a) (node_at vs a)
    → Shifted t may (node_at ws' a) (node_at vs' a)

-- a change on both sides: no block that is new after it was not new before
pub record Step (L : Layout) (t : ℕ) (ws vs ws' vs' : List ℕ) : Type 0 where
  pub shift : Shift L t ws' vs'
  pub nodes : NodesKept L t ws vs ws' vs'
  pub passes : (q : ℕ) → L.BlockAt q → passes_so_far ws' q ≡ 0 → passes_so_far ws q ≡ 0

pub no_step : (L : Layout) (t : ℕ) (ws vs : List ℕ) → Shift L t ws vs → Step L t ws vs ws vs
no_step L t ws vs s = record { shift = s; nodes = λ may a n h. h; passes = λ q b e. e }

pub step_then : (L : Layout) (t : ℕ) (ws vs ws' vs' ws'' vs'' : List ℕ) → Step L t ws vs ws' vs' → Step L t ws' vs' ws'' vs''
    → Step L t ws vs ws'' vs''
step_then L t ws vs ws' vs' ws'' vs'' x y =
    record {
      shift = y.shift;
      nodes = λ may a n h. y.nodes may a n (x.nodes may a n h);
      passes = λ q b e. x.passes q b (y.passes q b e);
    }

pub stepped : (L : Layout) (t : ℕ) (ws vs ws' vs' : List ℕ) → Shift L t ws vs → length ws' ≡ L.size → Ordered L ws'
    → Alike (Shared L) vs' ws' → NodesKept L t ws vs ws' vs' → ((q : ℕ) → L.BlockAt q → passes_so_far ws' q ≡ 0 → passes_so_far ws q ≡ 0)
    → Step L t ws vs ws' vs'
stepped L t ws vs ws' vs' s l o g k p =
    record {
      shift = record { long = l; order = o; agree = g; nodes = λ a n. k true a n (s.nodes a n) };
      nodes = k;
      passes = p;
    }

pub kept_by : (L : Layout) (t : ℕ) (ws vs ws' vs' : List ℕ) → InclusionStays L ws ws' → InclusionStays L vs vs'
    → NodesKept L t ws vs ws' vs'
kept_by L t ws vs ws' vs' p q may a n h = subst₂ (Shifted t may) (sym (p a n)) (sym (q a n)) h

-- ---- setting a leaf, to layer now without the packet and to the next with it

module _ (L : Layout) (t now : ℕ) (from : t ≤ now) (soon : now + 1 < not_yet_included) where
  -- both values are larger, or neither
  both_larger : {may : Bool} {n m : Node} → Shifted t may n m → now < n.value → now + 1 < m.value
  both_larger (same a b c d e f g) h = absurd (omega arith)
  both_larger (fresh f (one_more a b) c d e) h = omega arith
  both_larger (fresh f (neither a b g) c d e) h = omega arith
  both_larger (later (one_more a b) c d e) h = omega arith
  both_larger (later (neither a b g) c d e) h = omega arith

  neither_larger : {may : Bool} {n m : Node} → Shifted t may n m → n.value ≤ now → m.value ≤ now + 1
  neither_larger (same a b c d e f g) h = omega arith
  neither_larger (fresh f (one_more a b) c d e) h = omega arith
  neither_larger (fresh f (neither a b g) c d e) h = absurd (omega arith)
  neither_larger (later (one_more a b) c d e) h = omega arith
  neither_larger (later (neither a b g) c d e) h = absurd (omega arith)

  lowered : {may : Bool} {n m : Node} (n' m' : Node) → n'.value ≡ now → n'.low ≡ n.low → n'.known ≡ n.known → m'.value ≡ now + 1
      → m'.low ≡ m.low → m'.known ≡ m.known → now < n.value → Shifted t may n m → Shifted t may n' m'
  lowered n' m' p q r p' q' r' h (same a b c d e f g) = absurd (omega arith)
  lowered n' m' p q r p' q' r' h (fresh f a c d e) =
      fresh f (one_more (omega arith) (omega arith)) (r' ∙ c ∙ sym r) (omega arith) (omega arith)
  lowered n' m' p q r p' q' r' h (later a c d e) =
      later (one_more (omega arith) (omega arith)) (r' ∙ c ∙ sym r) (omega arith) (omega arith)

  -- one value
  store_kept : (ws vs : List ℕ) (a : ℕ) → length ws ≡ L.size → length vs ≡ L.size → L.Node inclusion a → now < value ws a
      → NodesKept L t ws vs (set ws a now) (set vs a (now + 1))
  store_kept ws vs a wl vl n h may b m s =
      let i = (L.node_in inclusion a n).1 in
      on-eq b a
      (λ e. rw e
      (lowered (node_at (set ws a now) a) (node_at (set vs a (now + 1)) a)
      (get_or-set_same ws a now 0 (omega arith)) (get_or-set_other ws a (a + 1) now 0 (omega arith))
      (get_or-set_other ws a (a + 2) now 0 (omega arith)) (get_or-set_same vs a (now + 1) 0 (omega arith))
      (get_or-set_other vs a (a + 1) (now + 1) 0 (omega arith)) (get_or-set_other vs a (a + 2) (now + 1) 0 (omega arith)) h
      (subst (λ (z : ℕ). Shifted t may (node_at ws z) (node_at vs z)) e s)))
      (λ e. let p = L.nodes-apart inclusion inclusion b a m n e in
      subst₂ (Shifted t may) (sym (apart_kept ws a b now p)) (sym (apart_kept vs a b (now + 1) p)) s)
    where
      apart_kept : (us : List ℕ) (a b v : ℕ) → 3 ≤ (b - a) + (a - b) → node_at (set us a v) b ≡ node_at us b
      apart_kept us a b v p = λ i. record {
        value = get_or-set_other us a b v 0 (omega arith) i;
        low = get_or-set_other us a (b + 1) v 0 (omega arith) i;
        known = get_or-set_other us a (b + 2) v 0 (omega arith) i;
      }

  climb_kept : (base : ℕ) (ns ws vs : List ℕ) → length ws ≡ L.size → length vs ≡ L.size → All (L.Node inclusion) (addresses base ns)
      → ((a : ℕ) → L.Node inclusion a → Shifted t true (node_at ws a) (node_at vs a))
      → NodesKept L t ws vs (set_value base ns now ws) (set_value base ns (now + 1) vs)
  unfolding set_value
  climb_kept base [] ws vs wl vl h r may a n s = s
  climb_kept base (j ∷ ns) ws vs wl vl h r may a n s =
      let b : ℕ = base + 3 * j in
      let here = r b h.0 in
      on-lt now (value ws b)
      (λ z. let k = store_kept ws vs b wl vl h.0 z in
      let up = climb_kept base ns (set ws b now) (set vs b (now + 1)) (length-set ws b now ∙ wl) (length-set vs b (now + 1) ∙ vl) h.1
      (λ c m. k true c m (r c m)) may a n (k may a n s) in
      subst₂ (λ (x y : List ℕ). Shifted t may (node_at x a) (node_at y a)) (sym (lowers base j ns now ws z))
      (sym (lowers base j ns (now + 1) vs (both_larger here z))) up)
      (λ z. subst₂ (λ (x y : List ℕ). Shifted t may (node_at x a) (node_at y a)) (sym (ends base j ns now ws z))
      (sym (ends base j ns (now + 1) vs (neither_larger here z))) s)

  pub leaf_step : (k : Block) → Placed L k → (ws vs : List ℕ) → Shift L t ws vs
      → Step L t ws vs (set_value k.incl_tree k.path now ws) (set_value k.incl_tree k.path (now + 1) vs)
  leaf_step k P ws vs s =
      let ws' : List ℕ = set_value k.incl_tree k.path now ws in
      let vs' : List ℕ = set_value k.incl_tree k.path (now + 1) vs in
      let x = leaf_set L inclusion k P now ws in
      let y = leaf_set L inclusion k P (now + 1) vs in
      stepped L t ws vs ws' vs' s (x.long ∙ s.long)
      (subst (λ (z : List ℕ). Ordered L (set_value k.incl_tree z now ws)) (sym P.path_is)
      (set_value-ordered L now inclusion k.incl_tree k.leaf P.above ws s.long (P.path inclusion).nodes
      (P.path inclusion).ancestors s.order))
      (still_alike (Shared L) vs ws vs' ws' y.long x.long (λ i h. y.off i (λ a n. omega (arith, h.1 a n)))
      (λ i h. x.off i (λ a n. omega (arith, h.1 a n))) s.agree)
      (climb_kept k.incl_tree k.path ws vs s.long (other_long L t ws vs s) (path_nodes L inclusion k P) s.nodes)
      (λ q b e. sym (block_stays L ws ws' (nodes-only L inclusion ws ws' x) q b).0 ∙ e)

-- ---- coding a block's inclusion path, with threshold u without the packet and with u + 1 with it

-- none of the nodes at xs is fresh
abbrev pub NoneFresh : (t : ℕ) (ws vs xs : List ℕ) → Type 0
NoneFresh t ws vs xs = All (λ a. Shifted t false (node_at ws a) (node_at vs a)) xs

nodes-shifted : (t : ℕ) (may : Bool) (ws vs xs : List ℕ) → All (λ a. Shifted t may (node_at ws a) (node_at vs a)) xs
    → AllShifted t may (nodes_at ws xs) (nodes_at vs xs)
nodes-shifted t may ws vs [] h = nil
nodes-shifted t may ws vs (a ∷ xs) h = cons h.0 (nodes-shifted t may ws vs xs h.1)

nodes-not_fresh : (t : ℕ) (ws vs xs : List ℕ) → AllShifted t false (nodes_at ws xs) (nodes_at vs xs) → NoneFresh t ws vs xs
nodes-not_fresh t ws vs [] h = tt
nodes-not_fresh t ws vs (a ∷ xs) (cons s ss) = (s, nodes-not_fresh t ws vs xs ss)

module _ (L : Layout) (t u : ℕ) (from : t < u) (soon : u < not_yet_included) (k : Block) (P : Placed L k) (ws vs : List ℕ)
    (s : Shift L t ws vs) where
  abbrev xs : List ℕ
  xs = root_to_leaf inclusion k

  abbrev ws' : List ℕ
  ws' = (code_path k.incl_tree u (reverse k.path) 0 ws).words

  abbrev vs' : List ℕ
  vs' = (code_path k.incl_tree (u + 1) (reverse k.path) 0 vs).words

  -- its path has no fresh node then
  pub path_not_fresh : NoneFresh t ws' vs' xs
  path_not_fresh =
      let c = path_coded L inclusion k P u ws s.long in
      let d = path_coded L inclusion k P (u + 1) vs (other_long L t ws vs s) in
      nodes-not_fresh t ws' vs' xs (subst₂ (AllShifted t false) (sym c.words.nodes) (sym d.words.nodes)
      (path_after t u from soon true 0 0 0 (increasing_path L inclusion k P ws s.order) (equal zero-le refl)
      (nodes-shifted t true ws vs xs
      (all_so _ (λ a. Shifted t true (node_at ws a) (node_at vs a)) xs s.nodes (from_root_nodes L inclusion k P)))))

  -- the bits are the same if it was before
  pub not_fresh_bits : NoneFresh t ws vs xs → (code_path k.incl_tree (u + 1) (reverse k.path) 0 vs).bits
      ≡ (code_path k.incl_tree u (reverse k.path) 0 ws).bits
  not_fresh_bits h =
      let c = path_coded L inclusion k P u ws s.long in
      let d = path_coded L inclusion k P (u + 1) vs (other_long L t ws vs s) in
      d.bits
      ∙ path_bits_lem t u from soon 0 0 0 (increasing_path L inclusion k P ws s.order) (equal zero-le refl)
      (nodes-shifted t false ws vs xs h)
      ∙ sym c.bits

  pub path_step : Step L t ws vs ws' vs'
  path_step =
      let c = path_coded L inclusion k P u ws s.long in
      let d = path_coded L inclusion k P (u + 1) vs (other_long L t ws vs s) in
      let x = coding_keeps L inclusion k P u ws s.long in
      let clear : (i : ℕ) → Shared L i → All (Clear i) xs = λ i h. all_so _ (Clear i) xs h.1 (from_root_nodes L inclusion k P) in
      stepped L t ws vs ws' vs' s (c.words.long ∙ s.long) (ordered_same L ws ws' x.values s.order)
      (still_alike (Shared L) vs ws vs' ws' d.words.long c.words.long (λ i h. d.words.clear i (clear i h))
      (λ i h. c.words.clear i (clear i h)) s.agree)
      (λ may a n h. on-path-or-off (λ b. Shifted t false (node_at ws' b) (node_at vs' b)) a xs path_not_fresh (may_be_fresh may)
      (λ o. let off = apart_from_all L inclusion a xs n (from_root_nodes L inclusion k P) o in
      subst₂ (Shifted t may) (sym (c.words.off a off)) (sym (d.words.off a off)) h))
      (λ q b e. sym (block_stays L ws ws' x.off q b).0 ∙ e)

-- ---- the layer

pub layer-step : (L : Layout) (t : ℕ) (ws vs ws' vs' : List ℕ) → LayerOnly ws ws' → LayerOnly vs vs' → Shift L t ws vs
    → Step L t ws vs ws' vs'
layer-step L t ws vs ws' vs' x y s =
    stepped L t ws vs ws' vs' s (x.0 ∙ s.long) (layer-keeps_order L ws ws' x s.order)
    (still_alike (Shared L) vs ws vs' ws' y.0 x.0 (λ i h. y.1 i h.0) (λ i h. x.1 i h.0) s.agree)
    (kept_by L t ws vs ws' vs' (layer-off_nodes L ws ws' x inclusion) (layer-off_nodes L vs vs' y inclusion))
    (λ q b e. sym (layer-off_passes L ws ws' x q b) ∙ e)
