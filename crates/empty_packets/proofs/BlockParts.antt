-- A block is coded in two parts, its inclusion and the rest: its bits are those of its inclusion tree, if it is new, and the others behind
-- them.
use mathlib.Core.Path.{◌≡◌, refl, sym, ap, ap₂, ◌∙◌}
use mathlib.Core.Logic.{◌≢◌}
use mathlib.Core.Bool.{Bool, true, false, cond}
use mathlib.Core.List.{List, [], ◌∷◌, ◌++◌, reverse, append-nil, append_assoc}
use Prim.Native.Nat.{ℕ, ◌+◌}
use lib.ListN.{length, take, drop}
use lib.Seq.{drop-append_seam}
use lib.Dec.{ltb, eqb}
use Rattle.t800.specs.TagTree.{Coded, code_path}
use Rattle.t800.specs.Segments.{Segment, segments_of}
use Rattle.t800.specs.State.{Block, passes_so_far, blocks, bands, layer}
use Rattle.t800.specs.WriteHeader.{Contribution, is_new, code_inclusion, code_zero_planes, code_passes, code_block, code_blocks, code_present}
use Rattle.t800_laws.proofs.Laws.Tests.{if-eq, if-ne}
use Rattle.empty_packets.specs.LaterPackets.{block_bits_from, block_bits, joined}

-- ---- the two parts

-- zero planes and passes, of a block with passes
unfoldable pub code_rest : Block → (c : ℕ) → List Segment → (ws : List ℕ) → Coded
code_rest k c gs ws =
    let z = code_zero_planes k ws in
    let p = code_passes k c gs z.words in
    cond (eqb c 0) (record { bits = []; words = ws }) (record { bits = z.bits ++ p.bits; words = p.words })

-- the two parts in order
abbrev parts_coded : (i r : Coded) → Coded
parts_coded i r = record { bits = i.bits ++ r.bits; words = r.words }

pub block_parts : (t : ℕ) (k : Block) (c : ℕ) (gs : List Segment) (ws : List ℕ)
    → code_block t k c gs ws ≡ parts_coded (code_inclusion t k c ws) (code_rest k c gs (code_inclusion t k c ws).words)
unfolding code_block code_rest
block_parts t k c gs ws = go (eqb c 0) _ _ _ _
  where
    go : (b : Bool) (i : Coded) (z p vs : List ℕ) → cond b i (record { bits = i.bits ++ z ++ p; words = vs })
        ≡ parts_coded i (cond b (record { bits = []; words = i.words }) (record { bits = z ++ p; words = vs }))
    go true i z p vs = λ j. record { bits = sym (append-nil i.bits) j; words = i.words }
    go false i z p vs = λ j. record { bits = append_assoc i.bits z p j; words = vs }

pub new_inclusion : (t : ℕ) (k : Block) (c : ℕ) (ws : List ℕ) → passes_so_far ws k.at ≡ 0
    → code_inclusion t k c ws ≡ code_path k.incl_tree (t + 1) (reverse k.path) 0 ws
unfolding code_inclusion is_new
new_inclusion t k c ws z = if-eq (passes_so_far ws k.at) 0 _ _ z

pub old_inclusion : (t : ℕ) (k : Block) (c : ℕ) (ws : List ℕ) → passes_so_far ws k.at ≢ 0 → (code_inclusion t k c ws).words ≡ ws
unfolding code_inclusion is_new
old_inclusion t k c ws z = ap (λ (x : Coded). x.words) (if-ne (passes_so_far ws k.at) 0 _ _ z)

-- ---- the inclusion tree's bits, and the others

abbrev pub tree_bits : (t : ℕ) → Block → (c : ℕ) (ws : List ℕ) → List ℕ
tree_bits t k c ws = cond (is_new ws k) (code_inclusion t k c ws).bits []

-- an old block's bit
abbrev old_bit : Block → (c : ℕ) (ws : List ℕ) → List ℕ
old_bit k c ws = cond (is_new ws k) [] (cond (ltb 0 c) 1 0 ∷ [])

abbrev pub other_bits : (t : ℕ) → Block → (c : ℕ) → List Segment → (ws : List ℕ) → List ℕ
other_bits t k c gs ws = old_bit k c ws ++ (code_rest k c gs (code_inclusion t k c ws).words).bits

pub new_tree_bits : (t : ℕ) (k : Block) (c : ℕ) (ws : List ℕ) → passes_so_far ws k.at ≡ 0
    → tree_bits t k c ws ≡ (code_path k.incl_tree (t + 1) (reverse k.path) 0 ws).bits
unfolding is_new
new_tree_bits t k c ws z = if-eq (passes_so_far ws k.at) 0 _ _ z ∙ ap (λ (x : Coded). x.bits) (new_inclusion t k c ws z)

pub old_tree_bits : (t : ℕ) (k : Block) (c : ℕ) (ws : List ℕ) → passes_so_far ws k.at ≢ 0 → tree_bits t k c ws ≡ []
unfolding is_new
old_tree_bits t k c ws z = if-ne (passes_so_far ws k.at) 0 _ _ z

inclusion_bits : (t : ℕ) (k : Block) (c : ℕ) (ws : List ℕ) → (code_inclusion t k c ws).bits ≡ tree_bits t k c ws ++ old_bit k c ws
unfolding code_inclusion
inclusion_bits t k c ws = go (is_new ws k) _
  where
    go : (b : Bool) (x : Coded) → (cond b x (record { bits = cond (ltb 0 c) 1 0 ∷ []; words = ws })).bits
        ≡ cond b (cond b x (record { bits = cond (ltb 0 c) 1 0 ∷ []; words = ws })).bits [] ++ cond b [] (cond (ltb 0 c) 1 0 ∷ [])
    go true x = sym (append-nil x.bits)
    go false x = refl

pub block_bits_split : (t : ℕ) (k : Block) (c : ℕ) (gs : List Segment) (ws : List ℕ)
    → (code_block t k c gs ws).bits ≡ tree_bits t k c ws ++ other_bits t k c gs ws
block_bits_split t k c gs ws =
    let rest : List ℕ = (code_rest k c gs (code_inclusion t k c ws).words).bits in
    ap (λ (x : Coded). x.bits) (block_parts t k c gs ws) ∙ ap (λ (z : List ℕ). z ++ rest) (inclusion_bits t k c ws)
    ∙ append_assoc (tree_bits t k c ws) (old_bit k c ws) rest

pub others_are : (t : ℕ) (k : Block) (c : ℕ) (gs : List Segment) (ws : List ℕ)
    → drop (length (tree_bits t k c ws)) (code_block t k c gs ws).bits ≡ other_bits t k c gs ws
others_are t k c gs ws =
    ap (drop (length (tree_bits t k c ws))) (block_bits_split t k c gs ws)
    ∙ drop-append_seam (tree_bits t k c ws) (other_bits t k c gs ws)

blocks-joined : (t : ℕ) (ks : List Block) (cs ls ms ws : List ℕ)
    → (code_blocks t ks cs ls ms ws).bits ≡ joined (block_bits_from t ks cs ls ms ws)
unfolding code_blocks block_bits_from joined
blocks-joined t [] cs ls ms ws = refl
blocks-joined t (k ∷ ks) [] ls ms ws = refl
blocks-joined t (k ∷ ks) (c ∷ cs) ls ms ws =
    let gs : List Segment = segments_of (take c ls) (take c ms) in
    ap₂ (λ (x y : List ℕ). x ++ y)
    (block_bits_split t k c gs ws ∙ ap (λ (z : List ℕ). tree_bits t k c ws ++ z) (sym (others_are t k c gs ws)))
    (blocks-joined t ks cs (drop c ls) (drop c ms) (code_block t k c gs ws).words)

-- a 1 and the blocks' bits
pub present_joined : (p : Contribution) (ws : List ℕ) → (code_present p ws).bits ≡ 1 ∷ joined (block_bits p ws)
unfolding code_present block_bits
present_joined p ws =
    ap (λ (z : List ℕ). 1 ∷ z) (blocks-joined (layer ws) (blocks (bands ws)) p.counts p.lengths p.marks _)
