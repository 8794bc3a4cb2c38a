-- Nodes in words: the writer's and the reader's pass over a path of node addresses are the passes over the nodes there, and every
-- other word
-- stays.
use mathlib.Core.Path.{◌≡◌, refl, ap, ap₂, ◌∙◌, subst}
use mathlib.Core.List.{List, [], ◌∷◌, ◌++◌}
use Prim.Native.Nat.{ℕ, ◌+◌, ◌*◌, ◌≤◌, max, min}
use native.Mathlib.Omega.{arith}
use lib.ListN.{length, get_or, set, length-set}
use lib.Seq.{get_or-set_same, get_or-set_other}
use Rattle.t800.specs.declared.Bio.{Bio}
use Rattle.t800.specs.TagTree.{NodeRead, low_after, node_bits, known_after, code_path, read_path}
use Rattle.t800_laws.proofs.Laws.Paths.{All, addresses, Clear, Apart, ApartFromAll, AllApart}
use Rattle.round_trip.proofs.Trip.Nodes.{Node, node, low_out, bits_of_node, node_after, bits_of_path, nodes_after, read_one}
use Rattle.round_trip.proofs.Trip.Nodes.{read_into, read_all}

abbrev pub node_at : List ℕ → ℕ → Node
node_at ws a = node (get_or ws a 0) (get_or ws (a + 1) 0) (get_or ws (a + 2) 0)

abbrev pub nodes_at : List ℕ → List ℕ → List Node
nodes_at ws [] = []
nodes_at ws (a ∷ xs) = node_at ws a ∷ nodes_at ws xs

-- words in which only the node at a changed, and became n
pub record OneChanged (ws vs : List ℕ) (a : ℕ) (n : Node) : Type 0 where
  pub here : node_at vs a ≡ n
  pub others : (i : ℕ) → Clear i a → get_or vs i 0 ≡ get_or ws i 0
  pub long : length vs ≡ length ws

other_node : (ws vs : List ℕ) (a : ℕ) (n : Node) (b : ℕ) → OneChanged ws vs a n → Apart b a → node_at vs b ≡ node_at ws b
other_node ws vs a n b c h =
    λ i. record {
      value = c.others b (omega arith) i;
      low = c.others (b + 1) (omega arith) i;
      known = c.others (b + 2) (omega arith) i;
    }

other_nodes : (ws vs : List ℕ) (a : ℕ) (n : Node) (bs : List ℕ) → OneChanged ws vs a n → ApartFromAll a bs → nodes_at vs bs ≡ nodes_at ws bs
other_nodes ws vs a n [] c h = refl
other_nodes ws vs a n (b ∷ bs) c h =
    ap₂ (λ (x : Node) (y : List Node). x ∷ y) (other_node ws vs a n b c (omega (arith, h.0))) (other_nodes ws vs a n bs c h.1)

-- the writer's store: low and known
low-known_stored : (ws : List ℕ) (a l k : ℕ) → a + 3 ≤ length ws
    → OneChanged ws (set (set ws (a + 1) l) (a + 2) k) a (node (get_or ws a 0) l k)
low-known_stored ws a l k h =
    record {
      here = λ i. record {
        value = (get_or-set_other (set ws (a + 1) l) (a + 2) a k 0 (omega arith) ∙ get_or-set_other ws (a + 1) a l 0 (omega arith)) i;
        low = (get_or-set_other (set ws (a + 1) l) (a + 2) (a + 1) k 0 (omega arith) ∙ get_or-set_same ws (a + 1) l 0 (omega arith)) i;
        known = get_or-set_same (set ws (a + 1) l) (a + 2) k 0 (omega (arith, length-set ws (a + 1) l)) i;
      };
      others = λ i c. get_or-set_other (set ws (a + 1) l) (a + 2) i k 0 (omega arith) ∙ get_or-set_other ws (a + 1) i l 0 (omega arith);
      long = length-set (set ws (a + 1) l) (a + 2) k ∙ length-set ws (a + 1) l;
    }

-- the reader's: value and low
value-low_stored : (ws : List ℕ) (a v l : ℕ) → a + 3 ≤ length ws
    → OneChanged ws (set (set ws a v) (a + 1) l) a (node v l (get_or ws (a + 2) 0))
value-low_stored ws a v l h =
    record {
      here = λ i. record {
        value = (get_or-set_other (set ws a v) (a + 1) a l 0 (omega arith) ∙ get_or-set_same ws a v 0 (omega arith)) i;
        low = get_or-set_same (set ws a v) (a + 1) l 0 (omega (arith, length-set ws a v)) i;
        known = (get_or-set_other (set ws a v) (a + 1) (a + 2) l 0 (omega arith) ∙ get_or-set_other ws a (a + 2) v 0 (omega arith)) i;
      };
      others = λ i c. get_or-set_other (set ws a v) (a + 1) i l 0 (omega arith) ∙ get_or-set_other ws a i v 0 (omega arith);
      long = length-set (set ws a v) (a + 1) l ∙ length-set ws a v;
    }

-- words after a pass over the nodes at xs, which made them ns
pub record PathChanged (ws vs xs : List ℕ) (ns : List Node) : Type 0 where
  pub nodes : nodes_at vs xs ≡ ns
  pub off : (a : ℕ) → ApartFromAll a xs → node_at vs a ≡ node_at ws a
  pub clear : (i : ℕ) → All (Clear i) xs → get_or vs i 0 ≡ get_or ws i 0
  pub long : length vs ≡ length ws

path_changed_cons : (ws vs us : List ℕ) (a : ℕ) (xs : List ℕ) (n : Node) (ns : List Node) → ApartFromAll a xs → OneChanged ws vs a n
    → PathChanged vs us xs ns → PathChanged ws us (a ∷ xs) (n ∷ ns)
path_changed_cons ws vs us a xs n ns o b p =
    record {
      nodes = ap₂ (λ (x : Node) (y : List Node). x ∷ y) (p.off a o ∙ b.here) p.nodes;
      off = λ c h. p.off c h.1 ∙ other_node ws vs a n c b h.0;
      clear = λ i h. p.clear i h.1 ∙ b.others i h.0;
      long = p.long ∙ b.long;
    }

-- ---- the writer's pass

pub record CodedAs (base t : ℕ) (ns : List ℕ) (l : ℕ) (ws : List ℕ) : Type 0 where
  pub bits : (code_path base t ns l ws).bits ≡ bits_of_path t l (nodes_at ws (addresses base ns))
  pub words : PathChanged ws (code_path base t ns l ws).words (addresses base ns) (nodes_after t l (nodes_at ws (addresses base ns)))

inside_longer : (m k : ℕ) (xs : List ℕ) → k ≡ m → All (λ a. a + 3 ≤ m) xs → All (λ a. a + 3 ≤ k) xs
inside_longer m k xs e h = rw e h

node_bits_lem : (v l k t lo : ℕ) → node_bits v (max lo l) k t ≡ bits_of_node t lo (node v l k)
unfolding node_bits low_after bits_of_node
node_bits_lem v l k t lo = refl

node_after_lem : (v l k t lo : ℕ) → node v (low_after v (max lo l) t) (known_after v (max lo l) k t) ≡ node_after t lo (node v l k)
unfolding low_after known_after node_after
node_after_lem v l k t lo = refl

low-after : (v l t : ℕ) → low_after v l t ≡ max l (min v t)
unfolding low_after
low-after v l t = refl

pub coded-as : (base t : ℕ) (ns : List ℕ) (l : ℕ) (ws : List ℕ) → AllApart (addresses base ns)
    → All (λ a. a + 3 ≤ length ws) (addresses base ns) → CodedAs base t ns l ws
unfolding code_path bits_of_path nodes_after
coded-as base t [] l ws d h = record { bits = refl; words = record { nodes = refl; off = λ a o. refl; clear = λ i c. refl; long = refl } }
coded-as base t (n ∷ ns) l ws d h =
    let a : ℕ = base + 3 * n in
    let v : ℕ = get_or ws a 0 in
    let from : ℕ = max l (get_or ws (a + 1) 0) in
    let to : ℕ = low_after v from t in
    let k : ℕ = known_after v from (get_or ws (a + 2) 0) t in
    let vs : List ℕ = set (set ws (a + 1) to) (a + 2) k in
    let s = low-known_stored ws a to k h.0 in
    let i = coded-as base t ns to vs d.1 (inside_longer (length ws) (length vs) (addresses base ns) s.long h.1) in
    let e : nodes_at vs (addresses base ns)
    ≡ nodes_at ws (addresses base ns) = other_nodes ws vs a (node v to k) (addresses base ns) s d.0 in
    let o : to ≡ low_out t l (node_at ws a) = low-after v from t in
    let nx : bits_of_path t to (nodes_at vs (addresses base ns))
    ≡ bits_of_path t (low_out t l (node_at ws a)) (nodes_at ws (addresses base ns)) = ap₂ (bits_of_path t) o e in
    let ny : nodes_after t to (nodes_at vs (addresses base ns))
    ≡ nodes_after t (low_out t l (node_at ws a)) (nodes_at ws (addresses base ns)) = ap₂ (nodes_after t) o e in
    record {
      bits = ap₂ (λ (x y : List ℕ). x ++ y) (node_bits_lem v (get_or ws (a + 1) 0) (get_or ws (a + 2) 0) t l) (i.bits ∙ nx);
      words = path_changed_cons ws vs (code_path base t ns to vs).words a (addresses base ns) (node_after t l (node_at ws a))
          (nodes_after t (low_out t l (node_at ws a)) (nodes_at ws (addresses base ns))) d.0
          (subst (OneChanged ws vs a) (node_after_lem v (get_or ws (a + 1) 0) (get_or ws (a + 2) 0) t l) s)
          (subst (PathChanged vs (code_path base t ns to vs).words (addresses base ns)) ny i.words);
    }

-- ---- the reader's pass

pub record ReadAs (s : List ℕ) (base t : ℕ) (ns : List ℕ) (l : ℕ) (rs : List ℕ) (b : Bio) : Type 0 where
  pub bio : (read_path s base t ns l rs b).bio ≡ (read_all s t l b (nodes_at rs (addresses base ns))).bio
  pub words : PathChanged rs (read_path s base t ns l rs b).words (addresses base ns)
      (read_all s t l b (nodes_at rs (addresses base ns))).nodes

pub read_as : (s : List ℕ) (base t : ℕ) (ns : List ℕ) (l : ℕ) (rs : List ℕ) (b : Bio) → AllApart (addresses base ns)
    → All (λ a. a + 3 ≤ length rs) (addresses base ns) → ReadAs s base t ns l rs b
unfolding read_path read_all read_one
read_as s base t [] l rs b d h = record { bio = refl; words = record { nodes = refl; off = λ a o. refl; clear = λ i c. refl; long = refl } }
read_as s base t (n ∷ ns) l rs b d h =
    let a : ℕ = base + 3 * n in
    let g : NodeRead = read_one s t l b (node_at rs a) in
    let vs : List ℕ = set (set rs a g.value) (a + 1) g.low in
    let st = value-low_stored rs a g.value g.low h.0 in
    let i = read_as s base t ns g.low vs g.bio d.1 (inside_longer (length rs) (length vs) (addresses base ns) st.long h.1) in
    let e : nodes_at vs (addresses base ns)
    ≡ nodes_at rs (addresses base ns) = other_nodes rs vs a (read_into g (node_at rs a)) (addresses base ns) st d.0 in
    record {
      bio = i.bio ∙ ap (λ (z : List Node). (read_all s t g.low g.bio z).bio) e;
      words = path_changed_cons rs vs (read_path s base t ns g.low vs g.bio).words a (addresses base ns)
          (read_into g (node_at rs a)) (read_all s t g.low g.bio (nodes_at rs (addresses base ns))).nodes d.0 st
          (subst (PathChanged vs (read_path s base t ns g.low vs g.bio).words (addresses base ns))
          (ap (λ (z : List Node). (read_all s t g.low g.bio z).nodes) e) i.words);
    }
