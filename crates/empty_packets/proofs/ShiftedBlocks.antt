-- Blocks coded without a packet and with it: the bits behind those of the inclusion tree are the same, and all are where no node of a new
-- block's path is fresh.
use mathlib.Core.Path.{◌≡◌, refl, sym, ap, ap₂, ◌∙◌, subst₂}
use mathlib.Core.Bool.{Bool, false, cond, ◌&&◌}
use mathlib.Core.List.{List, [], ◌∷◌, ◌++◌}
use Prim.Native.Nat.{ℕ, ◌+◌, ◌≤◌, ◌<◌}
use native.Mathlib.Omega.{arith}
use lib.ListN.{length, take, drop}
use lib.Dec.{ltb}
use Rattle.t800.specs.Base.{Bits}
use Rattle.t800.specs.TagTree.{Coded}
use Rattle.t800.specs.Segments.{Segment, segments_of}
use Rattle.t800.specs.State.{Block, not_yet_included, passes_so_far}
use Rattle.t800.specs.WriteHeader.{is_new, set_new_blocks, code_inclusion, code_block, code_blocks}
use Rattle.t800_laws.proofs.Laws.Tests.{on-eq}
use Rattle.t800_laws.proofs.Laws.Paths.{All}
use Rattle.t800_laws.proofs.Laws.Layout.{inclusion, Layout, Placed, AllPlaced, root_to_leaf, from_root_nodes}
use Rattle.round_trip.proofs.Trip.NodeWords.{node_at}
use Rattle.round_trip.proofs.Trip.Trees.{ordered_same}
use Rattle.round_trip.proofs.Trip.Changes.{block_coded}
use Rattle.empty_packets.specs.LaterPackets.{block_bits_from, others_of}
use Rattle.empty_packets.proofs.BlockParts.{new_inclusion, tree_bits, other_bits, new_tree_bits, old_tree_bits, block_bits_split}
use Rattle.empty_packets.proofs.BlockParts.{others_are}
use Rattle.empty_packets.proofs.SettledPaths.{block_off_inclusion}
use Rattle.empty_packets.proofs.NewBlocks.{AllOnNew, set_new}
use Rattle.empty_packets.proofs.Alike.{both-branches, Shared, passes_same, new_same, rest-alike, block_alike}
use Rattle.empty_packets.proofs.ShiftedNodes.{Shifted}
use Rattle.empty_packets.proofs.ShiftedStates.{Shift, other_long, NodesKept, Step, no_step, step_then, stepped, kept_by, leaf_step}
use Rattle.empty_packets.proofs.ShiftedStates.{NoneFresh, path_not_fresh, not_fresh_bits, path_step}

-- if it is new, none of its path's nodes is fresh
abbrev BlockNotFresh : (t : ℕ) (ws vs : List ℕ) → Block → Type 0
BlockNotFresh t ws vs k = passes_so_far ws k.at ≡ 0 → NoneFresh t ws vs (root_to_leaf inclusion k)

abbrev pub BlocksNotFresh : (t : ℕ) (ws vs : List ℕ) → List Block → Type 0
BlocksNotFresh t ws vs ks = AllOnNew (λ a. Shifted t false (node_at ws a) (node_at vs a)) ws ks

none_fresh_kept : (L : Layout) (t : ℕ) (ws vs ws' vs' xs : List ℕ) → NodesKept L t ws vs ws' vs' → All (L.Node inclusion) xs
    → NoneFresh t ws vs xs → NoneFresh t ws' vs' xs
none_fresh_kept L t ws vs ws' vs' [] s h z = tt
none_fresh_kept L t ws vs ws' vs' (a ∷ xs) s h z = (s false a h.0 z.0, none_fresh_kept L t ws vs ws' vs' xs s h.1 z.1)

block_kept : (L : Layout) (t : ℕ) (ws vs ws' vs' : List ℕ) (k : Block) → Placed L k → Step L t ws vs ws' vs' → BlockNotFresh t ws vs k
    → BlockNotFresh t ws' vs' k
block_kept L t ws vs ws' vs' k P s h e =
    none_fresh_kept L t ws vs ws' vs' (root_to_leaf inclusion k) s.nodes (from_root_nodes L inclusion k P)
    (h (s.passes k.at P.block e))

pub not_fresh_kept : (L : Layout) (t : ℕ) (ws vs ws' vs' : List ℕ) (ks : List Block) → AllPlaced L ks → Step L t ws vs ws' vs'
    → BlocksNotFresh t ws vs ks → BlocksNotFresh t ws' vs' ks
not_fresh_kept L t ws vs ws' vs' [] f s h = tt
not_fresh_kept L t ws vs ws' vs' (k ∷ ks) f s h =
    (block_kept L t ws vs ws' vs' k f.0.0 s h.0, not_fresh_kept L t ws vs ws' vs' ks f.1 s h.1)

module _ (L : Layout) (t : ℕ) (k : Block) (P : Placed L k) (ws vs : List ℕ) (s : Shift L t ws vs) where
  same_passes : passes_so_far vs k.at ≡ passes_so_far ws k.at
  same_passes = passes_same L (Shared L) (λ i h. h) vs ws s.agree k.at P.block

  same_new : is_new ws k ≡ is_new vs k
  same_new = sym (new_same L (Shared L) (λ i h. h) k P vs ws s.agree)

-- ---- in layer now without the packet, and in the next with it

module _ (L : Layout) (t now : ℕ) (from : t ≤ now) (soon : now + 1 < not_yet_included) where
  module _ (k : Block) (P : Placed L k) (c : ℕ) (ws vs : List ℕ) (s : Shift L t ws vs) where
    abbrev ws₁ : List ℕ
    ws₁ = (code_inclusion now k c ws).words

    abbrev vs₁ : List ℕ
    vs₁ = (code_inclusion (now + 1) k c vs).words

    inclusion_step : Step L t ws vs ws₁ vs₁
    unfolding code_inclusion
    inclusion_step =
        both-branches (λ (x y : Coded). Step L t ws vs x.words y.words) (is_new ws k) (is_new vs k) _ _ _ _
        (same_new L t k P ws vs s)
        (path_step L t (now + 1) (omega arith) soon k P ws vs s) (no_step L t ws vs s)

    inclusion_not_fresh : passes_so_far ws k.at ≡ 0 → NoneFresh t ws₁ vs₁ (root_to_leaf inclusion k)
    inclusion_not_fresh z =
        subst₂ (λ (x y : Coded). NoneFresh t x.words y.words (root_to_leaf inclusion k)) (sym (new_inclusion now k c ws z))
        (sym (new_inclusion (now + 1) k c vs (same_passes L t k P ws vs s ∙ z)))
        (path_not_fresh L t (now + 1) (omega arith) soon k P ws vs s)

    tree_bits_lem : BlockNotFresh t ws vs k → tree_bits (now + 1) k c vs ≡ tree_bits now k c ws
    tree_bits_lem h =
        on-eq (passes_so_far ws k.at) 0
        (λ z. new_tree_bits (now + 1) k c vs (same_passes L t k P ws vs s ∙ z)
        ∙ not_fresh_bits L t (now + 1) (omega arith) soon k P ws vs s (h z)
        ∙ sym (new_tree_bits now k c ws z))
        (λ z. old_tree_bits (now + 1) k c vs (λ e. z (sym (same_passes L t k P ws vs s) ∙ e)) ∙ sym (old_tree_bits now k c ws z))

    module _ (gs : List Segment) where
      abbrev ws₂ : List ℕ
      ws₂ = (code_block now k c gs ws).words

      abbrev vs₂ : List ℕ
      vs₂ = (code_block (now + 1) k c gs vs).words

      other_bits_lem : other_bits (now + 1) k c gs vs ≡ other_bits now k c gs ws
      other_bits_lem =
          ap₂ (λ (b : Bool) (x : List ℕ). cond b [] (cond (ltb 0 c) 1 0 ∷ []) ++ x)
          (sym (same_new L t k P ws vs s))
          (rest-alike L (Shared L) (λ i h. h) k P c gs vs₁ ws₁ inclusion_step.shift.agree).bits

      block_bits_lem : BlockNotFresh t ws vs k → (code_block (now + 1) k c gs vs).bits ≡ (code_block now k c gs ws).bits
      block_bits_lem h =
          block_bits_split (now + 1) k c gs vs ∙ ap₂ (λ (x y : List ℕ). x ++ y) (tree_bits_lem h) other_bits_lem
          ∙ sym (block_bits_split now k c gs ws)

      rest-kept : NodesKept L t ws₁ vs₁ ws₂ vs₂
      rest-kept =
          kept_by L t ws₁ vs₁ ws₂ vs₂ (block_off_inclusion L k P now c gs ws s.long)
          (block_off_inclusion L k P (now + 1) c gs vs (other_long L t ws vs s))

      still_new : (q : ℕ) → L.BlockAt q → passes_so_far ws₂ q ≡ 0 → passes_so_far ws q ≡ 0
      still_new q Q z =
          let b = block_coded L k P c now gs ws s.long in
          on-eq q k.at
          (λ e. let w : passes_so_far ws k.at + c ≡ 0 = sym b.passes ∙ ap (passes_so_far ws₂) (sym e) ∙ z in
          rw e (omega arith))
          (λ e. sym (b.others q Q e).0 ∙ z)

      block_step : Step L t ws vs ws₂ vs₂
      block_step =
          let b = block_coded L k P c now gs ws s.long in
          stepped L t ws vs ws₂ vs₂ s (b.long ∙ s.long) (ordered_same L ws ws₂ b.values s.order)
          (block_alike L (Shared L) (λ i h. h) k P c gs (now + 1) now vs ws inclusion_step.shift.agree)
          (λ may a n h. rest-kept may a n (inclusion_step.nodes may a n h)) still_new

      block_not_fresh : BlockNotFresh t ws₂ vs₂ k
      block_not_fresh z =
          none_fresh_kept L t ws₁ vs₁ ws₂ vs₂ (root_to_leaf inclusion k) rest-kept (from_root_nodes L inclusion k P)
          (inclusion_not_fresh (still_new k.at P.block z))

  -- ---- all blocks

  pub blocks_step : (ks : List Block) (cs ls ms ws vs : List ℕ) → AllPlaced L ks → Shift L t ws vs
      → Step L t ws vs (code_blocks now ks cs ls ms ws).words (code_blocks (now + 1) ks cs ls ms vs).words
  unfolding code_blocks
  blocks_step [] cs ls ms ws vs f s = no_step L t ws vs s
  blocks_step (k ∷ ks) [] ls ms ws vs f s = no_step L t ws vs s
  blocks_step (k ∷ ks) (c ∷ cs) ls ms ws vs f s =
      let gs : List Segment = segments_of (take c ls) (take c ms) in
      let b = block_step k f.0.0 c ws vs s gs in
      step_then L t ws vs _ _ _ _ b
      (blocks_step ks cs (drop c ls) (drop c ms) (code_block now k c gs ws).words (code_block (now + 1) k c gs vs).words f.1 b.shift)

  pub blocks-not_fresh : (ks : List Block) (cs ls ms ws vs : List ℕ) → AllPlaced L ks → length cs ≡ length ks → Shift L t ws vs
      → BlocksNotFresh t (code_blocks now ks cs ls ms ws).words (code_blocks (now + 1) ks cs ls ms vs).words ks
  unfolding code_blocks
  blocks-not_fresh [] cs ls ms ws vs f l s = tt
  blocks-not_fresh (k ∷ ks) [] ls ms ws vs f l s = absurd (omega arith)
  blocks-not_fresh (k ∷ ks) (c ∷ cs) ls ms ws vs f l s =
      let gs : List Segment = segments_of (take c ls) (take c ms) in
      let ws' : List ℕ = (code_block now k c gs ws).words in
      let vs' : List ℕ = (code_block (now + 1) k c gs vs).words in
      let b = block_step k f.0.0 c ws vs s gs in (
        block_kept L t ws' vs' _ _ k f.0.0 (blocks_step ks cs (drop c ls) (drop c ms) ws' vs' f.1 b.shift)
            (block_not_fresh k f.0.0 c ws vs s gs),
        blocks-not_fresh ks cs (drop c ls) (drop c ms) ws' vs' f.1 (omega arith) b.shift,
      )

  pub blocks-bits : (ks : List Block) (cs ls ms ws vs : List ℕ) → AllPlaced L ks → Shift L t ws vs → BlocksNotFresh t ws vs ks
      → (code_blocks (now + 1) ks cs ls ms vs).bits ≡ (code_blocks now ks cs ls ms ws).bits
  unfolding code_blocks
  blocks-bits [] cs ls ms ws vs f s h = refl
  blocks-bits (k ∷ ks) [] ls ms ws vs f s h = refl
  blocks-bits (k ∷ ks) (c ∷ cs) ls ms ws vs f s h =
      let gs : List Segment = segments_of (take c ls) (take c ms) in
      let ws' : List ℕ = (code_block now k c gs ws).words in
      let vs' : List ℕ = (code_block (now + 1) k c gs vs).words in
      let b = block_step k f.0.0 c ws vs s gs in
      ap₂ (λ (x y : List ℕ). x ++ y) (block_bits_lem k f.0.0 c ws vs s gs h.0)
      (blocks-bits ks cs (drop c ls) (drop c ms) ws' vs' f.1 b.shift (not_fresh_kept L t ws vs ws' vs' ks f.1 b h.1))

  pub blocks-others : (ks : List Block) (cs ls ms ws vs : List ℕ) → AllPlaced L ks → Shift L t ws vs
      → others_of (block_bits_from (now + 1) ks cs ls ms vs) ≡ others_of (block_bits_from now ks cs ls ms ws)
  unfolding block_bits_from others_of
  blocks-others [] cs ls ms ws vs f s = refl
  blocks-others (k ∷ ks) [] ls ms ws vs f s = refl
  blocks-others (k ∷ ks) (c ∷ cs) ls ms ws vs f s =
      let gs : List Segment = segments_of (take c ls) (take c ms) in
      let ws' : List ℕ = (code_block now k c gs ws).words in
      let vs' : List ℕ = (code_block (now + 1) k c gs vs).words in
      let b = block_step k f.0.0 c ws vs s gs in
      ap₂ (λ (x : Bits) (y : List Bits). x ∷ y)
      (others_are (now + 1) k c gs vs ∙ other_bits_lem k f.0.0 c ws vs s gs ∙ sym (others_are now k c gs ws))
      (blocks-others ks cs (drop c ls) (drop c ms) ws' vs' f.1 b.shift)

  -- ---- setting the blocks that are new

  pub new_blocks_step : (ks : List Block) (cs ws vs : List ℕ) → AllPlaced L ks → Shift L t ws vs
      → Step L t ws vs (set_new_blocks now ks cs ws) (set_new_blocks (now + 1) ks cs vs)
  unfolding set_new_blocks
  new_blocks_step [] cs ws vs f s = no_step L t ws vs s
  new_blocks_step (k ∷ ks) [] ws vs f s = no_step L t ws vs s
  new_blocks_step (k ∷ ks) (c ∷ cs) ws vs f s =
      let P = f.0.0 in
      let ws' : List ℕ = set_new now k c ws in
      let vs' : List ℕ = set_new (now + 1) k c vs in
      let x : Step L t ws vs ws' vs' = both-branches (Step L t ws vs) (is_new ws k && ltb 0 c) (is_new vs k && ltb 0 c) _ _ _ _
      (ap (λ (b : Bool). b && ltb 0 c) (same_new L t k P ws vs s)) (leaf_step L t now from soon k P ws vs s)
      (no_step L t ws vs s) in
      step_then L t ws vs ws' vs' _ _ x (new_blocks_step ks cs ws' vs' f.1 x.shift)
