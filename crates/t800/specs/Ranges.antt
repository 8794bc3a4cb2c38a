-- What a start and a state must meet: refusals 1, 2, 4 and 5 (SCOPE S4 and S6).
use Rattle.std.specs.Prelude.{ℕ, ◌+◌, ◌*◌, Bool, true, false, cond, ◌&&◌, ◌||◌, not, List, [], ◌∷◌, length, get_or, take, ltb, leb, eqb}
use Rattle.t800.specs.declared.Band.{Band}
use Rattle.t800.specs.Base.{Words, every, any}
use Rattle.t800.specs.TagTree.{value, low, known}
use Rattle.t800.specs.Segments.{is_limit}
use Rattle.t800.specs.State.{Block, not_yet_included, not_yet_planes, writer, role, band_count, style, layer, bands, blocks_in}
use Rattle.t800.specs.State.{band_nodes, band_length, state_length, passes_so_far, length_bits, segment_limit, segment_passes}

-- ---- refusals 1, 2 and 4

-- band count not 1 to 3, or a side above 64
unfoldable pub bad_shape : (count : ℕ) → List Band → Bool
bad_shape count bs = eqb count 0 || ltb 3 count || any (λ b. ltb 64 b.across || ltb 64 b.down) (take count bs)

-- of a byte: bit 0x40 or 0x80 set
unfoldable pub bad_style : (style_byte : ℕ) → Bool
bad_style style_byte = ltb 63 style_byte

-- a band above 998 planes
unfoldable pub band_too_deep : List Band → Bool
band_too_deep bs = any (λ b. ltb 998 b.planes) bs

-- a block with more planes than its band
unfoldable pub block_too_deep : List Block → (planes : Words) → Bool
block_too_deep [] ps = false
block_too_deep (k ∷ ks) [] = false
block_too_deep (k ∷ ks) (p ∷ ps) = ltb k.planes p || block_too_deep ks ps

-- ---- refusal 5

-- value and low up to the tree's "not yet", known 0 or 1
unfoldable pub node_in_range : (state : Words) (not_yet node_at : ℕ) → Bool
node_in_range state not_yet node_at = leb (value state node_at) not_yet && leb (low state node_at) not_yet && leb (known state node_at) 1

-- Passes at most 164 × next layer; length bits 0 exactly where passes are 0, else 3 to 32; in a reader a limit that the style gives
-- with 1 to that many passes, or both 0 exactly where passes are 0; in a writer both 0.
unfoldable pub block_in_range : (state : Words) (at : ℕ) → Bool
unfolding writer
block_in_range state at =
    let none = eqb (passes_so_far state at) 0 in
    let limit = segment_limit state at in
    let used = segment_passes state at in
    leb (passes_so_far state at) (164 * layer state)
    && cond none (eqb (length_bits state at) 0) (leb 3 (length_bits state at) && leb (length_bits state at) 32)
    && cond (none || eqb (role state) writer) (eqb limit 0 && eqb used 0) (is_limit (style state) limit && leb 1 used && leb used limit)

-- `layers` is the number of layers, and with that "not yet" in the inclusion tree
unfoldable pub band_in_range_with : (layers : ℕ) (state : Words) (band_start : ℕ) → Band → Bool
band_in_range_with layers state band_start b =
    every (band_nodes b) (λ i. node_in_range state layers (band_start + 3 * i))
    && every (band_nodes b) (λ i. node_in_range state not_yet_planes (band_start + 3 * band_nodes b + 3 * i))
    && every (blocks_in b) (λ i. block_in_range state (band_start + 6 * band_nodes b + 4 * i))

unfoldable pub bands_in_range_with : (layers : ℕ) (state : Words) (band_start : ℕ) → List Band → Bool
bands_in_range_with layers state band_start [] = true
bands_in_range_with layers state band_start (b ∷ bs) =
    band_in_range_with layers state band_start b && bands_in_range_with layers state (band_start + band_length b) bs

-- the words of bands that are not used are 0
unfoldable pub unused_bands_zero : (state : Words) → Bool
unused_bands_zero state = every 9 (λ i. ltb i (3 * band_count state) || eqb (get_or state (4 + i) 0) 0)

-- refusal 5 is given where this fails
unfoldable pub valid_state_with : (layers call_role : ℕ) (state : Words) (scratch_length : ℕ) → Bool
valid_state_with layers call_role state scratch_length =
    eqb (role state) call_role
    && not (bad_shape (band_count state) (bands state))
    && not (bad_style (style state))
    && leb (layer state) layers
    && not (band_too_deep (bands state))
    && unused_bands_zero state
    && eqb (length state) (state_length (bands state))
    && eqb scratch_length (length state)
    && bands_in_range_with layers state 13 (bands state)

abbrev pub band_in_range : (state : Words) (band_start : ℕ) → Band → Bool
band_in_range = band_in_range_with not_yet_included

abbrev pub bands_in_range : (state : Words) (band_start : ℕ) → List Band → Bool
bands_in_range = bands_in_range_with not_yet_included

abbrev pub valid_state : (call_role : ℕ) (state : Words) (scratch_length : ℕ) → Bool
valid_state = valid_state_with not_yet_included
