-- Which words each step of writing changes: setting leaves changes values, coding a path lows and knowns, and coding a block besides two of
-- its own words.
use mathlib.Core.Path.{◌≡◌, refl, ap, ◌∙◌}
use mathlib.Core.Logic.{◌≢◌}
use mathlib.Core.List.{List, [], ◌∷◌}
use Prim.Native.Nat.{ℕ, ◌+◌, ◌≤◌, ◌<◌}
use native.Mathlib.Nat.{le_trans, le_refl}
use native.Mathlib.Omega.{arith}
use lib.ListN.{length, get_or, set, take, drop, length-set}
use lib.Seq.{get_or-set_same, get_or-set_other}
use Rattle.t800.specs.TagTree.{Coded, value, low, known, set_value}
use Rattle.t800.specs.Segments.{Segment, segments_of}
use Rattle.t800.specs.State.{Block, not_yet_planes, passes_so_far}
use Rattle.t800.specs.WriteHeader.{is_new, code_inclusion, code_zero_planes, code_passes, code_block, code_blocks}
use Rattle.t800_laws.proofs.Laws.Tests.{either, on-eq, if-eq, if-ne}
use Rattle.t800_laws.proofs.Laws.Paths.{All, NotIn}
use Rattle.t800_laws.proofs.Laws.Layout.{Tree, inclusion, zero_planes, tree_of, Layout, Placed, SeparateFromAll, AllPlaced, leaf_to_root}
use Rattle.t800_laws.proofs.Laws.Layout.{path_nodes, second_no_node, third_no_node}
use Rattle.t800_laws.proofs.Laws.SetLeaf.{length-set_value, off_path_stays, every-word}
use Rattle.round_trip.proofs.Trip.Nodes.{Node}
use Rattle.round_trip.proofs.Trip.NodeWords.{node_at}
use Rattle.round_trip.proofs.Trip.Trees.{NodesOnly, LowsOnly, coding_keeps}

-- ---- a block's four words

abbrev pub SameBlock : List ℕ → List ℕ → ℕ → Type 0
SameBlock ws vs p = (get_or vs p 0 ≡ get_or ws p 0) × (get_or vs (p + 1) 0 ≡ get_or ws (p + 1) 0) × (get_or vs (p + 2) 0 ≡ get_or ws (p + 2) 0)
    × (get_or vs (p + 3) 0 ≡ get_or ws (p + 3) 0)

pub same_then : (ws vs us : List ℕ) (p : ℕ) → SameBlock ws vs p → SameBlock vs us p → SameBlock ws us p
same_then ws vs us p a b = (b.0 ∙ a.0, b.1 ∙ a.1, b.2 ∙ a.2, b.3 ∙ a.3)

-- ---- a change of nodes alone

module _ (L : Layout) (ws vs : List ℕ) (o : NodesOnly L ws vs) where
  pub block_stays : (p : ℕ) → L.BlockAt p → SameBlock ws vs p
  block_stays p b = (
    o p (λ t a n. let q = L.node_off_block t a p n b in omega arith),
    o (p + 1) (λ t a n. let q = L.node_off_block t a p n b in omega arith),
    o (p + 2) (λ t a n. let q = L.node_off_block t a p n b in omega arith),
    o (p + 3) (λ t a n. let q = L.node_off_block t a p n b in omega arith),
  )

  pub first_stays : (i : ℕ) → i < 13 → get_or vs i 0 ≡ get_or ws i 0
  first_stays i h = o i (λ t a n. let q = (L.node_in t a n).0 in omega arith)

-- ---- a change of one block alone

abbrev pub BlockOnly : ℕ → List ℕ → List ℕ → Type 0
BlockOnly p ws vs = (i : ℕ) → i ≢ p → i ≢ p + 1 → i ≢ p + 2 → i ≢ p + 3 → get_or vs i 0 ≡ get_or ws i 0

module _ (L : Layout) (ws vs : List ℕ) (p : ℕ) (b : L.BlockAt p) (o : BlockOnly p ws vs) where
  pub node_stays : (t : Tree) (a : ℕ) → L.Node t a → node_at vs a ≡ node_at ws a
  node_stays t a n =
      let q = L.node_off_block t a p n b in
      λ i. record {
        value = o a (omega arith) (omega arith) (omega arith) (omega arith) i;
        low = o (a + 1) (omega arith) (omega arith) (omega arith) (omega arith) i;
        known = o (a + 2) (omega arith) (omega arith) (omega arith) (omega arith) i;
      }

  pub value_stays : (t : Tree) (a : ℕ) → L.Node t a → value vs a ≡ value ws a
  value_stays t a n = ap (λ (m : Node). m.value) (node_stays t a n)

  pub other_block_stays : (q : ℕ) → L.BlockAt q → q ≢ p → SameBlock ws vs q
  other_block_stays q c ne =
      let z = L.blocks-apart q p c b ne in (
        o q (omega arith) (omega arith) (omega arith) (omega arith),
        o (q + 1) (omega arith) (omega arith) (omega arith) (omega arith),
        o (q + 2) (omega arith) (omega arith) (omega arith) (omega arith),
        o (q + 3) (omega arith) (omega arith) (omega arith) (omega arith),
      )

  pub first_words_stay : (i : ℕ) → i < 13 → get_or vs i 0 ≡ get_or ws i 0
  first_words_stay i h = let z = (L.block_in p b).0 in o i (omega arith) (omega arith) (omega arith) (omega arith)

-- passes so far and length bits are stored
module _ (ws : List ℕ) (at c l : ℕ) (h : at + 4 ≤ length ws) where
  abbrev pub stored : List ℕ
  stored = set (set ws at c) (at + 1) l

  pub stored-passes : get_or stored at 0 ≡ c
  stored-passes = get_or-set_other (set ws at c) (at + 1) at l 0 (omega arith) ∙ get_or-set_same ws at c 0 (omega arith)

  pub stored-bits : get_or stored (at + 1) 0 ≡ l
  stored-bits = get_or-set_same (set ws at c) (at + 1) l 0 (omega (arith, length-set ws at c))

  pub stored-others : (i : ℕ) → i ≢ at → i ≢ at + 1 → get_or stored i 0 ≡ get_or ws i 0
  stored-others i a b = get_or-set_other (set ws at c) (at + 1) i l 0 b ∙ get_or-set_other ws at i c 0 a

  pub stored-length : length stored ≡ length ws
  stored-length = length-set (set ws at c) (at + 1) l ∙ length-set ws at c

-- ---- a change of one tree's values alone, none of which rises

pub record ValuesOnly (L : Layout) (u : Tree) (ws vs : List ℕ) : Type 0 where
  pub long : length vs ≡ length ws
  pub off : (i : ℕ) → ((a : ℕ) → L.Node u a → i ≢ a) → get_or vs i 0 ≡ get_or ws i 0
  pub none_rises : (i : ℕ) → get_or vs i 0 ≤ get_or ws i 0

pub no_values : (L : Layout) (u : Tree) (ws : List ℕ) → ValuesOnly L u ws ws
no_values L u ws = record { long = refl; off = λ i f. refl; none_rises = λ i. le_refl (get_or ws i 0) }

pub values_then : (L : Layout) (u : Tree) (ws vs us : List ℕ) → ValuesOnly L u ws vs → ValuesOnly L u vs us → ValuesOnly L u ws us
values_then L u ws vs us a b =
    record {
      long = b.long ∙ a.long;
      off = λ i f. b.off i f ∙ a.off i f;
      none_rises = λ i. le_trans (b.none_rises i) (a.none_rises i);
    }

not_in_nodes : (L : Layout) (u : Tree) (i : ℕ) (xs : List ℕ) → ((a : ℕ) → L.Node u a → i ≢ a) → All (L.Node u) xs → NotIn i xs
not_in_nodes L u i [] f h = tt
not_in_nodes L u i (a ∷ xs) f h = (f a h.0, not_in_nodes L u i xs f h.1)

pub leaf_set : (L : Layout) (u : Tree) (k : Block) → Placed L k → (v : ℕ) (ws : List ℕ)
    → ValuesOnly L u ws (set_value (tree_of u k) k.path v ws)
leaf_set L u k P v ws =
    record {
      long = length-set_value (tree_of u k) k.path v ws;
      off = λ i f. off_path_stays (tree_of u k) k.path v ws i (not_in_nodes L u i (leaf_to_root u k) f (path_nodes L u k P));
      none_rises = λ i. every-word (λ z. z ≤ get_or ws i 0) (tree_of u k) k.path v ws i (λ h. omega arith) (le_refl (get_or ws i 0));
    }

module _ (L : Layout) (u : Tree) (ws vs : List ℕ) (o : ValuesOnly L u ws vs) where
  pub nodes-only : NodesOnly L ws vs
  nodes-only i f = o.off i (λ a n. omega (arith, f u a n))

  pub low-stays : (t : Tree) (a : ℕ) → L.Node t a → low vs a ≡ low ws a
  low-stays t a n = o.off (a + 1) (λ b m. second_no_node L t u a b n m)

  pub known-stays : (t : Tree) (a : ℕ) → L.Node t a → known vs a ≡ known ws a
  known-stays t a n = o.off (a + 2) (λ b m. third_no_node L t u a b n m)

-- ---- a coded block

pub lows_same : (L : Layout) (ws : List ℕ) → LowsOnly L ws ws
lows_same L ws = record { long = refl; off = λ i f. refl; values = λ t a n. refl }

pub lows_then : (L : Layout) (ws vs us : List ℕ) → LowsOnly L ws vs → LowsOnly L vs us → LowsOnly L ws us
lows_then L ws vs us a b =
    record { long = b.long ∙ a.long; off = λ i f. b.off i f ∙ a.off i f; values = λ t x n. b.values t x n ∙ a.values t x n }

module _ (L : Layout) (k : Block) (P : Placed L k) where
  pub inclusion_keeps : (t c : ℕ) (ws : List ℕ) → length ws ≡ L.size → LowsOnly L ws (code_inclusion t k c ws).words
  unfolding code_inclusion
  inclusion_keeps t c ws l =
      either (λ (x : Coded). LowsOnly L ws x.words) (is_new ws k) _ _ (coding_keeps L inclusion k P (t + 1) ws l) (lows_same L ws)

  pub planes_keep : (ws : List ℕ) → length ws ≡ L.size → LowsOnly L ws (code_zero_planes k ws).words
  unfolding code_zero_planes
  planes_keep ws l = either (λ (x : Coded). LowsOnly L ws x.words) (is_new ws k) _ _
      (coding_keeps L zero_planes k P not_yet_planes ws l) (lows_same L ws)

  -- both of a block's paths
  abbrev pub paths_coded : ℕ → ℕ → List ℕ → List ℕ
  paths_coded t c ws = (code_zero_planes k (code_inclusion t k c ws).words).words

  pub paths_keep : (t c : ℕ) (ws : List ℕ) → length ws ≡ L.size → LowsOnly L ws (paths_coded t c ws)
  paths_keep t c ws l =
      let i = inclusion_keeps t c ws l in
      lows_then L ws (code_inclusion t k c ws).words (paths_coded t c ws) i (planes_keep (code_inclusion t k c ws).words (i.long ∙ l))

-- what coding block k with c passes leaves, and its passes after it
pub record BlockCoded (L : Layout) (ws vs : List ℕ) (k : Block) (c : ℕ) : Type 0 where
  pub long : length vs ≡ length ws
  pub values : (t : Tree) (a : ℕ) → L.Node t a → value vs a ≡ value ws a
  pub others : (q : ℕ) → L.BlockAt q → q ≢ k.at → SameBlock ws vs q
  pub passes : passes_so_far vs k.at ≡ passes_so_far ws k.at + c
  pub first : (i : ℕ) → i < 13 → get_or vs i 0 ≡ get_or ws i 0

absent-coded : (L : Layout) (ws vs : List ℕ) (k : Block) (c : ℕ) → L.BlockAt k.at → c ≡ 0 → LowsOnly L ws vs → BlockCoded L ws vs k c
absent-coded L ws vs k c B z o =
    record {
      long = o.long;
      values = o.values;
      others = λ q Q ne. block_stays L ws vs o.off q Q;
      passes = (block_stays L ws vs o.off k.at B).0 ∙ omega arith;
      first = first_stays L ws vs o.off;
    }

module _ (L : Layout) (k : Block) (P : Placed L k) (c : ℕ) where
  passes_coded : (l : ℕ) (ws us : List ℕ) → length us ≡ L.size → LowsOnly L ws us
      → BlockCoded L ws (set (set us k.at (passes_so_far us k.at + c)) (k.at + 1) l) k c
  passes_coded l ws us ul o =
      let at : ℕ = k.at in
      let B : L.BlockAt at = P.block in
      let n : ℕ = passes_so_far us at + c in
      let h : at + 4 ≤ length us = omega (arith, (L.block_in at B).1) in
      let vs : List ℕ = stored us at n l h in
      let only : BlockOnly at us vs = λ i a b d e. stored-others us at n l h i a b in
      record {
        long = stored-length us at n l h ∙ o.long;
        values = λ t a m. value_stays L us vs at B only t a m ∙ o.values t a m;
        others = λ q Q ne. same_then ws us vs q (block_stays L ws us o.off q Q) (other_block_stays L us vs at B only q Q ne);
        passes = stored-passes us at n l h ∙ ap (λ (z : ℕ). z + c) (block_stays L ws us o.off at B).0;
        first = λ i g. first_words_stay L us vs at B only i g ∙ first_stays L ws us o.off i g;
      }

  pub block_coded : (t : ℕ) (segments : List Segment) (ws : List ℕ) → length ws ≡ L.size
      → BlockCoded L ws (code_block t k c segments ws).words k c
  unfolding code_block code_passes
  block_coded t segments ws l =
      let us : List ℕ = paths_coded L k P t c ws in
      let o = paths_keep L k P t c ws l in
      on-eq c 0
      (λ z. rw (if-eq c 0 (code_inclusion t k c ws) _ z)
      (absent-coded L ws (code_inclusion t k c ws).words k c P.block z (inclusion_keeps L k P t c ws l)))
      (λ z. rw (if-ne c 0 (code_inclusion t k c ws) _ z) (passes_coded _ ws us (o.long ∙ l) o))

-- ---- coded blocks

-- q is the place of none of the blocks
abbrev pub NotPlaceOf : ℕ → List Block → Type 0
NotPlaceOf q [] = Unit {0}
NotPlaceOf q (k ∷ ks) = (q ≢ k.at) × NotPlaceOf q ks

not_place : (k : Block) (ks : List Block) → SeparateFromAll k ks → NotPlaceOf k.at ks
not_place k [] o = tt
not_place k (j ∷ js) o = (o.0.0.places, not_place k js o.1)

-- each block has its passes more
abbrev pub PassesAdded : List ℕ → List ℕ → List Block → List ℕ → Type 0
PassesAdded ws vs [] cs = Unit {0}
PassesAdded ws vs (k ∷ ks) [] = Unit {0}
PassesAdded ws vs (k ∷ ks) (c ∷ cs) = (passes_so_far vs k.at ≡ passes_so_far ws k.at + c) × PassesAdded ws vs ks cs

pub record BlocksCoded (L : Layout) (ws vs : List ℕ) (ks : List Block) (cs : List ℕ) : Type 0 where
  pub long : length vs ≡ length ws
  pub values : (t : Tree) (a : ℕ) → L.Node t a → value vs a ≡ value ws a
  pub others : (q : ℕ) → L.BlockAt q → NotPlaceOf q ks → SameBlock ws vs q
  pub passes : PassesAdded ws vs ks cs
  pub first : (i : ℕ) → i < 13 → get_or vs i 0 ≡ get_or ws i 0

added_after : (L : Layout) (ws vs us : List ℕ) (k : Block) (c : ℕ) (ks : List Block) (cs : List ℕ) → BlockCoded L ws vs k c
    → SeparateFromAll k ks → AllPlaced L ks → PassesAdded vs us ks cs → PassesAdded ws us ks cs
added_after L ws vs us k c [] cs b o f p = tt
added_after L ws vs us k c (j ∷ js) [] b o f p = tt
added_after L ws vs us k c (j ∷ js) (d ∷ cs) b o f p = (
  p.0 ∙ ap (λ (z : ℕ). z + d) (b.others j.at f.0.0.block o.0.1.places).0,
  added_after L ws vs us k c js cs b o.1 f.1 p.1,
)

no_blocks_coded : (L : Layout) (ws : List ℕ) (ks : List Block) (cs : List ℕ) → PassesAdded ws ws ks cs → BlocksCoded L ws ws ks cs
no_blocks_coded L ws ks cs p =
    record { long = refl; values = λ t a n. refl; others = λ q Q n. (refl, refl, refl, refl); passes = p; first = λ i h. refl }

pub blocks-coded : (L : Layout) (t : ℕ) (ks : List Block) (cs ls ms ws : List ℕ) → AllPlaced L ks → length ws ≡ L.size
    → BlocksCoded L ws (code_blocks t ks cs ls ms ws).words ks cs
unfolding code_blocks
blocks-coded L t [] cs ls ms ws f l = no_blocks_coded L ws [] cs tt
blocks-coded L t (k ∷ ks) [] ls ms ws f l = no_blocks_coded L ws (k ∷ ks) [] tt
blocks-coded L t (k ∷ ks) (c ∷ cs) ls ms ws f l =
    let P = f.0.0 in
    let segments : List Segment = segments_of (take c ls) (take c ms) in
    let vs : List ℕ = (code_block t k c segments ws).words in
    let us : List ℕ = (code_blocks t ks cs (drop c ls) (drop c ms) vs).words in
    let b = block_coded L k P c t segments ws l in
    let r = blocks-coded L t ks cs (drop c ls) (drop c ms) vs f.1 (b.long ∙ l) in
    record {
      long = r.long ∙ b.long;
      values = λ u a n. r.values u a n ∙ b.values u a n;
      others = λ q Q n. same_then ws vs us q (b.others q Q n.0) (r.others q Q n.1);
      passes = (
        (r.others k.at P.block (not_place k ks f.0.1)).0
            ∙ b.passes,
        added_after L ws vs us k c ks cs b f.0.1 f.1 r.passes,
      );
      first = λ i h. r.first i h ∙ b.first i h;
    }
