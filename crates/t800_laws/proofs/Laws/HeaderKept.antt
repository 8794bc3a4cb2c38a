-- No step of writing or reading a header changes a state's length, or a word before those of its trees and blocks.
use mathlib.Core.Path.{◌≡◌}
use mathlib.Core.Bool.{◌&&◌}
use mathlib.Core.List.{List, [], ◌∷◌, reverse}
use Prim.Native.Nat.{ℕ, ◌+◌}
use native.Mathlib.Omega.{arith}
use lib.ListN.{take, drop}
use lib.Dec.{ltb, eqb}
use Rattle.t800.specs.declared.Bio.{Bio}
use Rattle.t800.specs.TagTree.{Coded}
use Rattle.t800.specs.Segments.{Segment, segments_of}
use Rattle.t800.specs.State.{Block, not_yet_planes, blocks, bands, layer}
use Rattle.t800.specs.WriteHeader.{Contribution, is_new, set_new_blocks, code_inclusion, code_zero_planes, code_passes, code_block}
use Rattle.t800.specs.WriteHeader.{code_blocks}
use Rattle.t800.specs.ReadHeader.{read_header}
use Rattle.t800_laws.proofs.Laws.Tests.{either}
use Rattle.t800_laws.proofs.Laws.Layout.{inclusion, zero_planes, From, AllFrom}
use Rattle.t800_laws.proofs.Laws.Kept.{Kept, blocks-from, from_root, kept, kept_then, two_stored, leaf_set, path_coded}
use Rattle.t800_laws.proofs.Laws.HeaderSteps.{header_keeps}

-- ---- writing

module _ (m t : ℕ) where
  new_blocks_set : (ks : List Block) (cs ws : List ℕ) → AllFrom m ks → Kept m ws (set_new_blocks t ks cs ws)
  unfolding set_new_blocks
  new_blocks_set [] cs ws f = kept m
  new_blocks_set (k ∷ ks) [] ws f = kept m
  new_blocks_set (k ∷ ks) (c ∷ cs) ws f =
      kept_then m
      (either (Kept m ws) (is_new ws k && ltb 0 c) _ _ (leaf_set m k.incl_tree k.path t ws (f.0.path inclusion)) (kept m))
      (new_blocks_set ks cs _ f.1)

  module _ (k : Block) (f : From m k) where
    pub inclusion_coded : (c : ℕ) (ws : List ℕ) → Kept m ws (code_inclusion t k c ws).words
    unfolding code_inclusion
    inclusion_coded c ws =
        either (λ (x : Coded). Kept m ws x.words) (is_new ws k) _ _
        (path_coded m k.incl_tree (t + 1) (reverse k.path) 0 ws (from_root m inclusion k f)) (kept m)

    pub planes_coded : (ws : List ℕ) → Kept m ws (code_zero_planes k ws).words
    unfolding code_zero_planes
    planes_coded ws =
        either (λ (x : Coded). Kept m ws x.words) (is_new ws k) _ _
        (path_coded m k.zero_tree not_yet_planes (reverse k.path) 0 ws (from_root m zero_planes k f)) (kept m)

    passes_coded : (c : ℕ) (segments : List Segment) (ws : List ℕ) → Kept m ws (code_passes k c segments ws).words
    unfolding code_passes
    passes_coded c segments ws = let p = f.place in two_stored m ws k.at (k.at + 1) _ _ p (omega arith)

    pub block_coded : (c : ℕ) (segments : List Segment) (ws : List ℕ) → Kept m ws (code_block t k c segments ws).words
    unfolding code_block
    block_coded c segments ws =
        let i = inclusion_coded c ws in
        let vs : List ℕ = (code_inclusion t k c ws).words in
        either (λ (x : Coded). Kept m ws x.words) (eqb c 0) _ _ i
        (kept_then m i (kept_then m (planes_coded vs) (passes_coded c segments (code_zero_planes k vs).words)))

  blocks-coded : (ks : List Block) (cs ls ms ws : List ℕ) → AllFrom m ks → Kept m ws (code_blocks t ks cs ls ms ws).words
  unfolding code_blocks
  blocks-coded [] cs ls ms ws f = kept m
  blocks-coded (k ∷ ks) [] ls ms ws f = kept m
  blocks-coded (k ∷ ks) (c ∷ cs) ls ms ws f =
      kept_then m (block_coded k f.0 c (segments_of (take c ls) (take c ms)) ws) (blocks-coded ks cs (drop c ls) (drop c ms) _ f.1)

-- after a header's blocks, before the next layer is set
abbrev pub blocks_coded : Contribution → List ℕ → List ℕ
blocks_coded p ws =
    let ks : List Block = blocks (bands ws) in
    (code_blocks (layer ws) ks p.counts p.lengths p.marks (set_new_blocks (layer ws) ks p.counts ws)).words

pub header_coded_lem : (p : Contribution) (ws : List ℕ) → Kept 13 ws (blocks_coded p ws)
header_coded_lem p ws =
    let ks : List Block = blocks (bands ws) in
    let from = blocks-from (bands ws) in
    kept_then 13 (new_blocks_set 13 (layer ws) ks p.counts ws from)
    (blocks-coded 13 (layer ws) ks p.counts p.lengths p.marks _ from)

-- ---- reading, unless refused

pub header_read : (src : List ℕ) (room : ℕ) (ws : List ℕ) (b : Bio) → (read_header src room ws b).refusal ≡ 0
    → Kept 13 ws (read_header src room ws b).words
header_read src room ws b =
    header_keeps src room (λ r. r.refusal ≡ 0 → Kept 13 ws r.words)
    (λ e. absurd (omega (arith, e)))
    (λ e. absurd (omega (arith, e)))
    (λ e. absurd (omega (arith, e)))
    (λ vs c r l h e. kept_then 13 (h e) l)
    (λ a r h. h)
    (λ a r e g h. h)
    ws b (λ e. kept 13)
