-- Two states of one length that have the same words at the places in S: a path in S, a block's zero planes and its passes are coded as the
-- same bits and leave the states so, and so does setting new blocks.
use mathlib.Core.Path.{◌≡◌, refl, sym, ap, ap₂, ◌∙◌, subst, subst₂}
use mathlib.Core.Logic.{◌≢◌}
use mathlib.Core.Bool.{Bool, true, false, cond, ◌&&◌}
use mathlib.Core.List.{List, [], ◌∷◌, ◌++◌, reverse}
use Prim.Native.Nat.{ℕ, ◌+◌, ◌*◌, max}
use native.Mathlib.Omega.{arith}
use lib.ListN.{length, get_or, set, length-set}
use lib.Seq.{get_or-set_same, get_or-set_other, set_out}
use lib.Dec.{ltb, eqb}
use Rattle.t800.specs.TagTree.{Coded, value, low, known, low_after, node_bits, known_after, set_value, code_path}
use Rattle.t800.specs.PassCount.{pass_bits}
use Rattle.t800.specs.Segments.{Segment, increment, comma_bits, length_fields}
use Rattle.t800.specs.State.{Block, not_yet_planes, passes_so_far}
use Rattle.t800.specs.WriteHeader.{is_new, length_bits_before, set_new_blocks, code_inclusion, code_zero_planes, code_passes, code_block}
use Rattle.t800_laws.proofs.Laws.Tests.{on-eq, on-lt}
use Rattle.t800_laws.proofs.Laws.Paths.{All, all_so, addresses, Clear}
use Rattle.t800_laws.proofs.Laws.Layout.{Tree, inclusion, zero_planes, Layout, Placed, AllPlaced, leaf_to_root, root_to_leaf, path_nodes}
use Rattle.t800_laws.proofs.Laws.Layout.{from_root_nodes}
use Rattle.t800_laws.proofs.Laws.SetLeaf.{lowers, ends}
use Rattle.round_trip.proofs.Trip.Trees.{OffLow, value-off_low}
use Rattle.round_trip.proofs.Trip.WriterState.{same_bits_before}
use Rattle.empty_packets.proofs.BlockParts.{code_rest, block_parts}
use Rattle.empty_packets.proofs.NewBlocks.{set_new}

pub record Alike (S : ℕ → Type 0) (ws vs : List ℕ) : Type 0 where
  pub long : length ws ≡ length vs
  pub words : (i : ℕ) → S i → get_or ws i 0 ≡ get_or vs i 0

pub record CodedAlike (S : ℕ → Type 0) (x y : Coded) : Type 0 where
  pub bits : x.bits ≡ y.bits
  pub words : Alike S x.words y.words

pub same_alike : (S : ℕ → Type 0) (ws vs : List ℕ) → ws ≡ vs → Alike S ws vs
same_alike S ws vs e = record { long = ap length e; words = λ i s. ap (λ (z : List ℕ). get_or z i 0) e }

-- at fewer places
pub alike_at : (S T : ℕ → Type 0) (ws vs : List ℕ) → ((i : ℕ) → T i → S i) → Alike S ws vs → Alike T ws vs
alike_at S T ws vs f y = record { long = y.long; words = λ i s. y.words i (f i s) }

-- both change, but not in S
pub still_alike : (S : ℕ → Type 0) (ws vs us ys : List ℕ) → length us ≡ length ws → length ys ≡ length vs
    → ((i : ℕ) → S i → get_or us i 0 ≡ get_or ws i 0) → ((i : ℕ) → S i → get_or ys i 0 ≡ get_or vs i 0) → Alike S ws vs → Alike S us ys
still_alike S ws vs us ys l m f g y =
    record { long = l ∙ y.long ∙ sym m; words = λ i s. f i s ∙ y.words i s ∙ sym (g i s) }

-- the same branch is taken
pub both-branches {ℓ} : {A : Type ℓ} (R : A → A → Type 0) (b c : Bool) (x₁ x₂ y₁ y₂ : A) → b ≡ c → R x₁ y₁ → R x₂ y₂
    → R (cond b x₁ x₂) (cond c y₁ y₂)
both-branches R true c x₁ x₂ y₁ y₂ e p q = rw (sym e) p
both-branches R false c x₁ x₂ y₁ y₂ e p q = rw (sym e) q

-- ---- storing

word_after_set : (ws vs : List ℕ) (j x i : ℕ) → length ws ≡ length vs → get_or ws i 0 ≡ get_or vs i 0
    → get_or (set ws j x) i 0 ≡ get_or (set vs j x) i 0
word_after_set ws vs j x i l e =
    on-eq i j
    (λ q. on-lt j (length ws)
    (λ h. rw q (get_or-set_same ws j x 0 h ∙ sym (get_or-set_same vs j x 0 (omega arith))))
    (λ h. ap (λ (z : List ℕ). get_or z i 0) (set_out ws j x h) ∙ e
    ∙ sym (ap (λ (z : List ℕ). get_or z i 0) (set_out vs j x (omega arith)))))
    (λ q. get_or-set_other ws j i x 0 q ∙ e ∙ sym (get_or-set_other vs j i x 0 q))

pub set_alike : (S : ℕ → Type 0) (ws vs : List ℕ) (j x : ℕ) → Alike S ws vs → Alike S (set ws j x) (set vs j x)
set_alike S ws vs j x y =
    record {
      long = length-set ws j x ∙ y.long ∙ sym (length-set vs j x);
      words = λ i s. word_after_set ws vs j x i y.long (y.words i s);
    }

-- ---- a path

-- S has the three words of the node at a
abbrev NodeIn : (ℕ → Type 0) → ℕ → Type 0
NodeIn S a = S a × S (a + 1) × S (a + 2)

-- the first node of a path is coded, from its three words
abbrev first_coded : (base t n : ℕ) (ns : List ℕ) (l v lo kn : ℕ) → List ℕ → Coded
first_coded base t n ns l v lo kn ws =
    let to = low_after v (max l lo) t in
    let below = code_path base t ns to (set (set ws (base + 3 * n + 1) to) (base + 3 * n + 2) (known_after v (max l lo) kn t)) in
    record { bits = node_bits v (max l lo) kn t ++ below.bits; words = below.words }

first_coded_lem : (base t n : ℕ) (ns : List ℕ) (l : ℕ) (ws : List ℕ) (v lo kn : ℕ) → value ws (base + 3 * n) ≡ v → low ws (base + 3 * n) ≡ lo
    → known ws (base + 3 * n) ≡ kn → code_path base t (n ∷ ns) l ws ≡ first_coded base t n ns l v lo kn ws
unfolding code_path
first_coded_lem base t n ns l ws v lo kn p q r = λ i. first_coded base t n ns l (p i) (q i) (r i) ws

path_alike : (S : ℕ → Type 0) (base t : ℕ) (ns : List ℕ) (l : ℕ) (ws vs : List ℕ) → All (NodeIn S) (addresses base ns) → Alike S ws vs
    → CodedAlike S (code_path base t ns l ws) (code_path base t ns l vs)
unfolding code_path
path_alike S base t [] l ws vs h y = record { bits = refl; words = y }
path_alike S base t (n ∷ ns) l ws vs h y =
    let a : ℕ = base + 3 * n in
    let from : ℕ = max l (low ws a) in
    let to : ℕ = low_after (value ws a) from t in
    let told : ℕ = known_after (value ws a) from (known ws a) t in
    let r = path_alike S base t ns to (set (set ws (a + 1) to) (a + 2) told) (set (set vs (a + 1) to) (a + 2) told) h.1
    (set_alike S (set ws (a + 1) to) (set vs (a + 1) to) (a + 2) told (set_alike S ws vs (a + 1) to y)) in
    subst (CodedAlike S (code_path base t (n ∷ ns) l ws))
    (sym (first_coded_lem base t n ns l vs (value ws a) (low ws a) (known ws a) (sym (y.words a h.0.0))
    (sym (y.words (a + 1) h.0.1)) (sym (y.words (a + 2) h.0.2))))
    (record { bits = ap (λ (z : List ℕ). node_bits (value ws a) from (known ws a) t ++ z) r.bits; words = r.words })

value-alike : (S : ℕ → Type 0) (base : ℕ) (ns : List ℕ) (v : ℕ) (ws vs : List ℕ) → All S (addresses base ns) → Alike S ws vs
    → Alike S (set_value base ns v ws) (set_value base ns v vs)
unfolding set_value
value-alike S base [] v ws vs h y = y
value-alike S base (n ∷ ns) v ws vs h y =
    let a : ℕ = base + 3 * n in
    let e = y.words a h.0 in
    on-lt v (value ws a)
    (λ z. rw (lowers base n ns v ws z, lowers base n ns v vs (omega arith))
    (value-alike S base ns v (set ws a v) (set vs a v) h.1 (set_alike S ws vs a v y)))
    (λ z. rw (ends base n ns v ws z, ends base n ns v vs (omega arith)) y)

-- ---- places of a state's words

-- word i is not the layer, and no inclusion node's
abbrev pub Shared : Layout → ℕ → Type 0
Shared L i = (i ≢ 3) × ((a : ℕ) → L.Node inclusion a → Clear i a)

-- word i is no low and no known of an inclusion node
abbrev pub NoLow : Layout → ℕ → Type 0
NoLow L i = (b : ℕ) → L.Node inclusion b → OffLow i b

pub shared_no_low : (L : Layout) (i : ℕ) → Shared L i → NoLow L i
shared_no_low L i h b m = let c = h.1 b m in (omega arith, omega arith)

pub value-no_low : (L : Layout) (u : Tree) (a : ℕ) → L.Node u a → NoLow L a
value-no_low L u a n b m = value-off_low L u inclusion a b n m

planes_shared : (L : Layout) (a : ℕ) → L.Node zero_planes a → NodeIn (Shared L) a
planes_shared L a n =
    let h = (L.node_in zero_planes a n).0 in (
      (omega arith, λ b m. let p = L.nodes-apart inclusion zero_planes b a m n (L.other_tree b a m n) in omega arith),
      (omega arith, λ b m. let p = L.nodes-apart inclusion zero_planes b a m n (L.other_tree b a m n) in omega arith),
      (omega arith, λ b m. let p = L.nodes-apart inclusion zero_planes b a m n (L.other_tree b a m n) in omega arith),
    )

-- passes so far and length bits
block_shared : (L : Layout) (p : ℕ) → L.BlockAt p → Shared L p × Shared L (p + 1)
block_shared L p b =
    let h = (L.block_in p b).0 in (
      (omega arith, λ a n. let q = L.node_off_block inclusion a p n b in omega arith),
      (omega arith, λ a n. let q = L.node_off_block inclusion a p n b in omega arith),
    )

-- ---- a block, where S has all shared words

module _ (L : Layout) (S : ℕ → Type 0) (wide : (i : ℕ) → Shared L i → S i) where
  pub passes_same : (ws vs : List ℕ) → Alike S ws vs → (p : ℕ) → L.BlockAt p → passes_so_far ws p ≡ passes_so_far vs p
  passes_same ws vs y p b = y.words p (wide p (block_shared L p b).0)

  module _ (k : Block) (P : Placed L k) (ws vs : List ℕ) (y : Alike S ws vs) where
    pub new_same : is_new ws k ≡ is_new vs k
    unfolding is_new
    new_same = ap (λ (z : ℕ). eqb z 0) (passes_same ws vs y k.at P.block)

    bits_before_same : length_bits_before ws k ≡ length_bits_before vs k
    bits_before_same =
        same_bits_before vs ws k (passes_same ws vs y k.at P.block)
        (y.words (k.at + 1) (wide (k.at + 1) (block_shared L k.at P.block).1))

    planes_alike : CodedAlike S (code_zero_planes k ws) (code_zero_planes k vs)
    unfolding code_zero_planes
    planes_alike =
        let inside : All (NodeIn S) (root_to_leaf zero_planes k) =
        all_so (L.Node zero_planes) (NodeIn S) (root_to_leaf zero_planes k)
        (λ a n. let s = planes_shared L a n in (wide a s.0, wide (a + 1) s.1, wide (a + 2) s.2))
        (from_root_nodes L zero_planes k P) in
        both-branches (CodedAlike S) (is_new ws k) (is_new vs k) _ _ _ _ new_same
        (path_alike S k.zero_tree not_yet_planes (reverse k.path) 0 ws vs inside y) (record { bits = refl; words = y })

    passes_alike : (c : ℕ) (gs : List Segment) → CodedAlike S (code_passes k c gs ws) (code_passes k c gs vs)
    unfolding code_passes
    passes_alike c gs =
        let at : ℕ = k.at in
        let n : ℕ = passes_so_far ws at + c in
        let b : ℕ = length_bits_before ws k in
        let now : ℕ = b + increment b gs in
        record {
          bits = ap (λ (z : ℕ). pass_bits c ++ comma_bits (increment z gs) ++ length_fields (z + increment z gs) gs) bits_before_same;
          words = rw (sym (passes_same ws vs y at P.block), sym bits_before_same)
              (set_alike S (set ws at n) (set vs at n) (at + 1) now (set_alike S ws vs at n y));
        }

  module _ (k : Block) (P : Placed L k) (c : ℕ) (gs : List Segment) where
    pub rest-alike : (ws vs : List ℕ) → Alike S ws vs → CodedAlike S (code_rest k c gs ws) (code_rest k c gs vs)
    unfolding code_rest
    rest-alike ws vs y =
        let z = planes_alike k P ws vs y in
        let p = passes_alike k P (code_zero_planes k ws).words (code_zero_planes k vs).words z.words c gs in
        both-branches (CodedAlike S) (eqb c 0) (eqb c 0) _ _ _ _ refl (record { bits = refl; words = y })
        (record { bits = ap₂ (λ (x w : List ℕ). x ++ w) z.bits p.bits; words = p.words })

    -- in layers t and u
    pub block_alike : (t u : ℕ) (ws vs : List ℕ) → Alike S (code_inclusion t k c ws).words (code_inclusion u k c vs).words
        → Alike S (code_block t k c gs ws).words (code_block u k c gs vs).words
    block_alike t u ws vs y =
        subst₂ (λ (x z : Coded). Alike S x.words z.words) (sym (block_parts t k c gs ws)) (sym (block_parts u k c gs vs))
        (rest-alike (code_inclusion t k c ws).words (code_inclusion u k c vs).words y).words

-- ---- setting new blocks, where S has all words but lows and knowns of inclusion nodes

module _ (L : Layout) (S : ℕ → Type 0) (wide : (i : ℕ) → NoLow L i → S i) where
  new_set_alike : (k : Block) → Placed L k → (t c : ℕ) (ws vs : List ℕ) → Alike S ws vs → Alike S (set_new t k c ws) (set_new t k c vs)
  new_set_alike k P t c ws vs y =
      both-branches (Alike S) (is_new ws k && ltb 0 c) (is_new vs k && ltb 0 c) _ _ _ _
      (ap (λ (b : Bool). b && ltb 0 c) (new_same L S (λ i h. wide i (shared_no_low L i h)) k P ws vs y))
      (value-alike S k.incl_tree k.path t ws vs
      (all_so (L.Node inclusion) S (leaf_to_root inclusion k) (λ a n. wide a (value-no_low L inclusion a n)) (path_nodes L inclusion k P)) y)
      y

  pub new_blocks_alike : (t : ℕ) (ks : List Block) (cs ws vs : List ℕ) → AllPlaced L ks → Alike S ws vs
      → Alike S (set_new_blocks t ks cs ws) (set_new_blocks t ks cs vs)
  unfolding set_new_blocks
  new_blocks_alike t [] cs ws vs f y = y
  new_blocks_alike t (k ∷ ks) [] ws vs f y = y
  new_blocks_alike t (k ∷ ks) (c ∷ cs) ws vs f y =
      new_blocks_alike t ks cs (set_new t k c ws) (set_new t k c vs) f.1 (new_set_alike k f.0.0 t c ws vs y)
