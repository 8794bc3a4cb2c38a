-- A path of an inclusion tree coded in layer t: each of its nodes ends as its value alone says, and no other node of these trees changes.
use mathlib.Core.Path.{◌≡◌, refl, sym, ap₂, ◌∙◌, subst}
use mathlib.Core.List.{List, [], ◌∷◌, reverse}
use Prim.Native.Nat.{ℕ, ◌+◌, ◌≤◌, zero-le}
use native.Mathlib.Nat.{le_trans, le_of_eq}
use native.Mathlib.Omega.{arith}
use lib.ListN.{length}
use lib.Dec.{eqb}
use borrow.Author.Tests.{eqb-true, eqb-false}
use Rattle.t800.specs.TagTree.{Coded, value, code_path}
use Rattle.t800.specs.Segments.{Segment, increment}
use Rattle.t800.specs.State.{Block, not_yet_planes, passes_so_far}
use Rattle.t800.specs.WriteHeader.{is_new, length_bits_before, code_inclusion, code_zero_planes, code_passes, code_block}
use Rattle.t800_laws.proofs.Laws.Tests.{on-eq, either, either-by}
use Rattle.t800_laws.proofs.Laws.Paths.{All, NotIn, ApartFromAll}
use Rattle.t800_laws.proofs.Laws.Layout.{Tree, inclusion, zero_planes, Layout, Placed, root_to_leaf, from_root_nodes}
use Rattle.t800_laws.proofs.Laws.SetLeaf.{Ordered}
use Rattle.round_trip.proofs.Trip.Nodes.{Node, low_out, nodes_after, Increasing}
use Rattle.round_trip.proofs.Trip.NodeWords.{node_at, nodes_at}
use Rattle.round_trip.proofs.Trip.Trees.{ordered_same, increasing_path, all_apart, path_coded}
use Rattle.round_trip.proofs.Trip.Changes.{node_stays, stored, stored-others, inclusion_keeps, planes_keep, block_coded}
use Rattle.empty_packets.proofs.BlockParts.{code_rest, block_parts}
use Rattle.empty_packets.proofs.Settled.{Tidy, settled, settled_tidy, low-settled, node_settled}

-- ---- nodes from the root

abbrev AllTidy : ℕ → List Node → Type 0
AllTidy t [] = Unit {0}
AllTidy t (n ∷ ns) = Tidy t n × AllTidy t ns

abbrev all_settled : ℕ → List Node → List Node
all_settled t [] = []
all_settled t (n ∷ ns) = settled t n.value ∷ all_settled t ns

nodes-settled : (t l m : ℕ) (ns : List Node) → l ≤ m → l ≤ t + 1 → Increasing m ns → AllTidy t ns
    → nodes_after (t + 1) l ns ≡ all_settled t ns
unfolding nodes_after
nodes-settled t l m [] a b i y = refl
nodes-settled t l m (n ∷ ns) a b i y =
    let h : l ≤ n.value = le_trans a i.0 in
    let e = low-settled l n.low n.value (t + 1) h b y.0.low_value y.0.low-in in
    ap₂ (λ (x : Node) (z : List Node). x ∷ z) (node_settled t l n h b y.0)
    (nodes-settled t (low_out (t + 1) l n) n.value ns (le_trans (le_of_eq e) (omega arith)) (le_trans (le_of_eq e) (omega arith))
    i.1 y.1)

-- ---- a path in words

all_tidy : (L : Layout) (t : ℕ) (ws xs : List ℕ) → All (L.Node inclusion) xs → ((a : ℕ) → L.Node inclusion a → Tidy t (node_at ws a))
    → AllTidy t (nodes_at ws xs)
all_tidy L t ws [] h y = tt
all_tidy L t ws (a ∷ xs) h y = (y a h.0, all_tidy L t ws xs h.1 y)

each_settled : (t : ℕ) (ws vs xs : List ℕ) → nodes_at vs xs ≡ all_settled t (nodes_at ws xs)
    → All (λ b. node_at vs b ≡ settled t (value ws b)) xs
each_settled t ws vs [] e = tt
each_settled t ws vs (a ∷ xs) e = ((cc), each_settled t ws vs xs (cc))

pub apart_from_all : (L : Layout) (u : Tree) (a : ℕ) (xs : List ℕ) → L.Node u a → All (L.Node u) xs → NotIn a xs → ApartFromAll a xs
apart_from_all L u a [] n h o = tt
apart_from_all L u a (b ∷ xs) n h o = (L.nodes-apart u u a b n h.0 o.0, apart_from_all L u a xs n h.1 o.1)

-- ---- all inclusion trees of a state

-- while layer t is coded
pub record Tidied (L : Layout) (t : ℕ) (ws : List ℕ) : Type 0 where
  pub long : length ws ≡ L.size
  pub order : Ordered L ws
  pub tidy : (a : ℕ) → L.Node inclusion a → Tidy t (node_at ws a)

-- block k is coded in layer t: a new one's nodes are settled, and other nodes stay
pub record BlockSettled (L : Layout) (t : ℕ) (k : Block) (ws vs : List ℕ) : Type 0 where
  pub on : passes_so_far ws k.at ≡ 0 → All (λ b. node_at vs b ≡ settled t (value ws b)) (root_to_leaf inclusion k)
  pub off : (a : ℕ) → L.Node inclusion a → (passes_so_far ws k.at ≡ 0 → NotIn a (root_to_leaf inclusion k))
      → node_at vs a ≡ node_at ws a

abbrev pub InclusionStays : Layout → List ℕ → List ℕ → Type 0
InclusionStays L ws vs = (a : ℕ) → L.Node inclusion a → node_at vs a ≡ node_at ws a

still_settled : (L : Layout) (t : ℕ) (ws vs us xs : List ℕ) → All (L.Node inclusion) xs → InclusionStays L vs us
    → All (λ b. node_at vs b ≡ settled t (value ws b)) xs
    → All (λ b. node_at us b ≡ settled t (value ws b)) xs
still_settled L t ws vs us [] h s y = tt
still_settled L t ws vs us (a ∷ xs) h s y = (s a h.0 ∙ y.0, still_settled L t ws vs us xs h.1 s y.1)

module _ (L : Layout) (k : Block) (P : Placed L k) (t : ℕ) where
  abbrev xs : List ℕ
  xs = root_to_leaf inclusion k

  settled_then : (ws vs us : List ℕ) → BlockSettled L t k ws vs → InclusionStays L vs us → BlockSettled L t k ws us
  settled_then ws vs us b s =
      record {
        on = λ z. still_settled L t ws vs us xs (from_root_nodes L inclusion k P) s (b.on z);
        off = λ a n o. s a n ∙ b.off a n o;
      }

  pub path_settled : (ws : List ℕ) → Tidied L t ws
      → All (λ b. node_at (code_path k.incl_tree (t + 1) (reverse k.path) 0 ws).words b ≡ settled t (value ws b)) xs
  path_settled ws y =
      let c = path_coded L inclusion k P (t + 1) ws y.long in
      let vs : List ℕ = (code_path k.incl_tree (t + 1) (reverse k.path) 0 ws).words in
      let i = increasing_path L inclusion k P ws y.order in
      each_settled t ws vs xs
      (c.words.nodes
      ∙ nodes-settled t 0 0 (nodes_at ws xs) zero-le zero-le i (all_tidy L t ws xs (from_root_nodes L inclusion k P) y.tidy))

  inclusion_settled : (c : ℕ) (ws : List ℕ) → Tidied L t ws → BlockSettled L t k ws (code_inclusion t k c ws).words
  unfolding code_inclusion is_new
  inclusion_settled c ws y =
      either-by (λ (x : Coded). BlockSettled L t k ws x.words) (eqb (passes_so_far ws k.at) 0) _ _
      (λ e. record {
        on = λ _. path_settled ws y;
        off = λ a n o. (path_coded L inclusion k P (t + 1) ws y.long).words.off a
            (apart_from_all L inclusion a xs n (from_root_nodes L inclusion k P) (o (eqb-true (passes_so_far ws k.at) 0 e)));
      })
      (λ e. record { on = λ z. absurd (eqb-false (passes_so_far ws k.at) 0 e z); off = λ a n o. refl })

  planes_off_inclusion : (ws : List ℕ) → length ws ≡ L.size → InclusionStays L ws (code_zero_planes k ws).words
  unfolding code_zero_planes
  planes_off_inclusion ws l a n =
      either (λ (x : Coded). node_at x.words a ≡ node_at ws a) (is_new ws k) _ _
      ((path_coded L zero_planes k P not_yet_planes ws l).words.off a
      (all_apart L inclusion zero_planes a (root_to_leaf zero_planes k) n (from_root_nodes L zero_planes k P) L.other_tree))
      refl

  passes_off_inclusion : (c : ℕ) (segments : List Segment) (ws : List ℕ) → length ws ≡ L.size
      → InclusionStays L ws (code_passes k c segments ws).words
  unfolding code_passes
  passes_off_inclusion c segments ws l a n =
      let h : k.at + 4 ≤ length ws = omega (arith, (L.block_in k.at P.block).1) in
      let b : ℕ = length_bits_before ws k in
      let n₁ : ℕ = passes_so_far ws k.at + c in
      let n₂ : ℕ = b + increment b segments in
      node_stays L ws (stored ws k.at n₁ n₂ h) k.at P.block (λ i x y d e. stored-others ws k.at n₁ n₂ h i x y) inclusion a n

  -- a block's zero planes and passes
  rest-off_inclusion : (c : ℕ) (segments : List Segment) (ws : List ℕ) → length ws ≡ L.size
      → InclusionStays L ws (code_rest k c segments ws).words
  unfolding code_rest
  rest-off_inclusion c segments ws l a n =
      let us : List ℕ = (code_zero_planes k ws).words in
      either (λ (x : Coded). node_at x.words a ≡ node_at ws a) (eqb c 0) _ _ refl
      (passes_off_inclusion c segments us ((planes_keep L k P ws l).long ∙ l) a n ∙ planes_off_inclusion ws l a n)

  -- behind its inclusion
  pub block_off_inclusion : (c : ℕ) (segments : List Segment) (ws : List ℕ) → length ws ≡ L.size
      → InclusionStays L (code_inclusion t k c ws).words (code_block t k c segments ws).words
  block_off_inclusion c segments ws l =
      let us : List ℕ = (code_inclusion t k c ws).words in
      subst (λ (x : Coded). InclusionStays L us x.words) (sym (block_parts t k c segments ws))
      (rest-off_inclusion c segments us ((inclusion_keeps L k P t c ws l).long ∙ l))

  block_settled : (c : ℕ) (segments : List Segment) (ws : List ℕ) → Tidied L t ws
      → BlockSettled L t k ws (code_block t k c segments ws).words
  block_settled c segments ws y =
      settled_then ws (code_inclusion t k c ws).words (code_block t k c segments ws).words (inclusion_settled c ws y)
      (block_off_inclusion c segments ws y.long)

-- what holds of all nodes on a path holds of a, or a is not on it
pub on-path-or-off {ℓ} : {X : Type ℓ} (Q : ℕ → Type 0) (a : ℕ) (xs : List ℕ) → All Q xs → (Q a → X) → (NotIn a xs → X) → X
on-path-or-off Q a [] q f g = g tt
on-path-or-off Q a (b ∷ xs) q f g =
    on-eq a b (λ e. f (subst Q (sym e) q.0)) (λ e. on-path-or-off Q a xs q.1 f (λ h. g (e, h)))

module _ (L : Layout) (k : Block) (P : Placed L k) (t c : ℕ) (segments : List Segment) (ws : List ℕ) (y : Tidied L t ws) where
  abbrev vs : List ℕ
  vs = (code_block t k c segments ws).words

  -- a node on a new block's path is settled, and any other stays
  pub settled-or-same {ℓ} : {X : Type ℓ} (a : ℕ) → L.Node inclusion a → (node_at vs a ≡ settled t (value ws a) → X)
      → ((passes_so_far ws k.at ≡ 0 → NotIn a (root_to_leaf inclusion k)) → node_at vs a ≡ node_at ws a → X) → X
  settled-or-same a n f g =
      let b = block_settled L k P t c segments ws y in
      on-eq (passes_so_far ws k.at) 0
      (λ z. on-path-or-off (λ b. node_at vs b ≡ settled t (value ws b)) a (root_to_leaf inclusion k) (b.on z) f
      (λ o. g (λ _. o) (b.off a n (λ _. o))))
      (λ z. g (λ e. absurd (z e)) (b.off a n (λ e. absurd (z e))))

  pub block_tidied : Tidied L t vs
  block_tidied =
      let b = block_coded L k P c t segments ws y.long in
      record {
        long = b.long ∙ y.long;
        order = ordered_same L ws vs b.values y.order;
        tidy = λ a n. settled-or-same a n (λ e. subst (Tidy t) (sym e) (settled_tidy t (value ws a)))
            (λ o e. subst (Tidy t) (sym e) (y.tidy a n));
      }
