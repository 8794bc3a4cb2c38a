-- A packet's header as written (T.800, B.10; SCOPE S9 to S11): its bits, and the state after the packet. Blocks are
-- taken band by band, row by row.
use Rattle.std.specs.Prelude.{ℕ, ◌+◌, ◌^◌, Bool, false, cond, ◌&&◌, ◌||◌, List, [], ◌∷◌, ◌++◌, reverse, take, drop, set, ltb, leb, eqb}
use Rattle.t800.specs.Base.{Words, Bytes, any}
use Rattle.t800.specs.TagTree.{Coded, set_value, code_path}
use Rattle.t800.specs.PassCount.{pass_bits}
use Rattle.t800.specs.Segments.{Segment, segments_of, width, increment, comma_bits, length_fields}
use Rattle.t800.specs.State.{Block, not_yet_planes, blocks, bands, layer, passes_so_far, length_bits}

-- what a layer brings: a pass count for each block, and for each pass its bytes and a termination mark, 0 if it isn't terminated
pub record Contribution : Type 0 where
  pub counts : Words
  pub lengths : Words
  pub marks : Bytes

abbrev pub contribution : (counts lengths : Words) (marks : Bytes) → Contribution
contribution counts lengths marks = record { counts = counts; lengths = lengths; marks = marks }

-- a block without passes so far
unfoldable pub is_new : (state : Words) → Block → Bool
is_new state k = eqb (passes_so_far state k.at) 0

-- its length bits as the packet begins: 3 at first inclusion, then kept across layers
unfoldable pub length_bits_before : (state : Words) → Block → ℕ
length_bits_before state k = cond (is_new state k) 3 (length_bits state k.at)

-- ---- below, counts, lengths and marks are those that are left

-- The blocks that are new in this layer are set in their inclusion trees. No two bands share a tree, so that setting all bands' blocks
-- before the first is coded is setting each band's before its first.
unfoldable pub set_new_blocks : (layer_now : ℕ) → List Block → (counts state : Words) → Words
set_new_blocks layer_now [] cs state = state
set_new_blocks layer_now (k ∷ ks) [] state = state
set_new_blocks layer_now (k ∷ ks) (c ∷ cs) state =
    set_new_blocks layer_now ks cs (cond (is_new state k && ltb 0 c) (set_value k.incl_tree k.path layer_now state) state)

-- inclusion in this layer: by tree until first included, then one bit
unfoldable pub code_inclusion : (layer_now : ℕ) → Block → (passes : ℕ) (state : Words) → Coded
code_inclusion layer_now k passes state =
    let tree = code_path k.incl_tree (layer_now + 1) (reverse k.path) 0 state in
    cond (is_new state k) tree (record { bits = cond (ltb 0 passes) 1 0 ∷ []; words = state })

-- zero planes, at first inclusion
unfoldable pub code_zero_planes : Block → (state : Words) → Coded
code_zero_planes k state =
    let tree = code_path k.zero_tree not_yet_planes (reverse k.path) 0 state in
    cond (is_new state k) tree (record { bits = []; words = state })

-- pass count, increment of the length bits, one length per segment
unfoldable pub code_passes : Block → (passes : ℕ) → List Segment → (state : Words) → Coded
code_passes k passes segments state =
    let before = length_bits_before state k in
    let now = before + increment before segments in
    record {
      bits = pass_bits passes ++ comma_bits (increment before segments) ++ length_fields now segments;
      words = set (set state k.at (passes_so_far state k.at + passes)) (k.at + 1) now;
    }

unfoldable pub code_block : (layer_now : ℕ) → Block → (passes : ℕ) → List Segment → (state : Words) → Coded
code_block layer_now k passes segments state =
    let i = code_inclusion layer_now k passes state in
    let z = code_zero_planes k i.words in
    let p = code_passes k passes segments z.words in
    let all : Coded = record { bits = i.bits ++ z.bits ++ p.bits; words = p.words } in
    cond (eqb passes 0) i all

unfoldable pub code_blocks : (layer_now : ℕ) → List Block → (counts lengths : Words) (marks : Bytes) (state : Words) → Coded
code_blocks layer_now [] cs lens marks state = record { bits = []; words = state }
code_blocks layer_now (k ∷ ks) [] lens marks state = record { bits = []; words = state }
code_blocks layer_now (k ∷ ks) (c ∷ cs) lens marks state =
    let b = code_block layer_now k c (segments_of (take c lens) (take c marks)) state in
    let r = code_blocks layer_now ks cs (drop c lens) (drop c marks) b.words in
    record { bits = b.bits ++ r.bits; words = r.words }

-- ---- the header's bits, and the state after the packet

-- whether any block has passes, be they of no bytes
unfoldable pub contributes : Contribution → Bool
contributes p = any (λ c. ltb 0 c) p.counts

-- a first bit 1, and each block
unfoldable pub code_present : Contribution → (state : Words) → Coded
code_present p state =
    let layer_now = layer state in
    let ks = blocks (bands state) in
    let r = code_blocks layer_now ks p.counts p.lengths p.marks (set_new_blocks layer_now ks p.counts state) in
    record { bits = 1 ∷ r.bits; words = set r.words 3 (layer_now + 1) }

-- a first bit 0 alone, and only the next layer moves
unfoldable pub code_absent : (state : Words) → Coded
code_absent state = record { bits = 0 ∷ []; words = set state 3 (layer state + 1) }

unfoldable pub code_header : Contribution → (state : Words) → Coded
code_header p state = cond (contributes p) (code_present p state) (code_absent state)

-- ---- refusals 8 and 9, over all blocks

-- a segment of 2^31 bytes or more
unfoldable pub segment_too_long : (counts lengths : Words) (marks : Bytes) → Bool
segment_too_long [] lens marks = false
segment_too_long (c ∷ cs) lens marks =
    any (λ s. leb (2 ^ 31) s.bytes) (segments_of (take c lens) (take c marks)) || segment_too_long cs (drop c lens) (drop c marks)

-- a length field wider than 32 bits
unfoldable pub field_too_wide : (state : Words) → List Block → (counts lengths : Words) (marks : Bytes) → Bool
field_too_wide state [] cs lens marks = false
field_too_wide state (k ∷ ks) [] lens marks = false
field_too_wide state (k ∷ ks) (c ∷ cs) lens marks =
    let segments = segments_of (take c lens) (take c marks) in
    let before = length_bits_before state k in
    any (λ s. ltb 32 (width (before + increment before segments) s.passes)) segments
    || field_too_wide state ks cs (drop c lens) (drop c marks)
