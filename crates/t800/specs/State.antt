-- The state of one precinct (SCOPE S3): where its 32-bit words stand and what they say.
--   0 role   1 band count   2 style   3 next layer   4 .. 12 across, down, planes of each of three bands
--   13 .. band by band: the inclusion tree's nodes, the zero-plane tree's nodes, the blocks
use Rattle.std.specs.Prelude.{ℕ, zero, suc, ◌+◌, ◌*◌, List, [], ◌∷◌, ◌++◌, get_or, take}
use Rattle.t800.specs.declared.Band.{Band}
use Rattle.t800.specs.Base.{Words}
use Rattle.t800.specs.TagTree.{nodes, path_to_root}

-- "not yet" in the inclusion tree, which gives as many layers (T.800, A.6.1), and in the zero-plane tree
abbrev pub not_yet_included : ℕ
not_yet_included = 65535

abbrev pub not_yet_planes : ℕ
not_yet_planes = 999

-- the roles
unfoldable pub writer : ℕ
writer = 1

unfoldable pub reader : ℕ
reader = 2

-- ---- where things stand

unfoldable pub blocks_in : Band → ℕ
blocks_in b = b.across * b.down

unfoldable pub band_nodes : Band → ℕ
band_nodes b = nodes b.across b.down

-- two trees of three words a node, and four words a block
unfoldable pub band_length : Band → ℕ
band_length b = 6 * band_nodes b + 4 * blocks_in b

-- One block: where its band's inclusion tree and zero-plane tree begin, its leaf in both, the nodes from there to the root, where its
-- own four words begin, and its band's planes.
pub record Block : Type 0 where
  pub incl_tree : ℕ
  pub zero_tree : ℕ
  pub leaf : ℕ
  pub path : List ℕ
  pub at : ℕ
  pub planes : ℕ

-- the block at this leaf of a band whose words begin at `band_start`
abbrev pub block_of : (band_start : ℕ) → Band → (leaf : ℕ) → Block
block_of band_start b leaf = record {
  incl_tree = band_start;
  zero_tree = band_start + 3 * band_nodes b;
  leaf = leaf;
  path = path_to_root b.across b.down leaf;
  at = band_start + 6 * band_nodes b + 4 * leaf;
  planes = b.planes;
}

-- so many blocks of that band, from this leaf's on
unfoldable pub blocks_from : (band_start : ℕ) → Band → (count leaf : ℕ) → List Block
blocks_from band_start b zero leaf = []
blocks_from band_start b (suc count) leaf = block_of band_start b leaf ∷ blocks_from band_start b count (leaf + 1)

-- the blocks of these bands: band by band, row by row
unfoldable pub blocks_at : (band_start : ℕ) → List Band → List Block
blocks_at band_start [] = []
blocks_at band_start (b ∷ bs) = blocks_from band_start b (blocks_in b) 0 ++ blocks_at (band_start + band_length b) bs

-- where the bands' words end
unfoldable pub end_of : (band_start : ℕ) → List Band → ℕ
end_of band_start [] = band_start
end_of band_start (b ∷ bs) = end_of (band_start + band_length b) bs

unfoldable pub blocks : List Band → List Block
blocks bs = blocks_at 13 bs

unfoldable pub state_length : List Band → ℕ
state_length bs = end_of 13 bs

-- ---- what the words say

abbrev pub role : (state : Words) → ℕ
role state = get_or state 0 0

abbrev pub band_count : (state : Words) → ℕ
band_count state = get_or state 1 0

abbrev pub style : (state : Words) → ℕ
style state = get_or state 2 0

abbrev pub layer : (state : Words) → ℕ
layer state = get_or state 3 0

unfoldable pub band_at : (state : Words) (i : ℕ) → Band
band_at state i = record { across = get_or state (4 + 3 * i) 0; down = get_or state (5 + 3 * i) 0; planes = get_or state (6 + 3 * i) 0 }

unfoldable pub bands : (state : Words) → List Band
bands state = take (band_count state) (band_at state 0 ∷ band_at state 1 ∷ band_at state 2 ∷ [])

-- a block's words, the first at `at`: passes so far, length bits, limit and passes of its current segment
abbrev pub passes_so_far : (state : Words) (at : ℕ) → ℕ
passes_so_far state at = get_or state at 0

abbrev pub length_bits : (state : Words) (at : ℕ) → ℕ
length_bits state at = get_or state (at + 1) 0

abbrev pub segment_limit : (state : Words) (at : ℕ) → ℕ
segment_limit state at = get_or state (at + 2) 0

abbrev pub segment_passes : (state : Words) (at : ℕ) → ℕ
segment_passes state at = get_or state (at + 3) 0
