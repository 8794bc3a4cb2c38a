-- Start (SCOPE S2): a lent state is filled for a writer or a reader. It stands for the reset of the
-- trees at layer 0.
use Rattle.std.specs.Prelude.{ℕ, zero, suc, ◌-◌, cond, ◌||◌, not, List, [], ◌∷◌, ◌++◌, length, take, ltb, eqb}
use Rattle.t800.specs.declared.Band.{Band}
use Rattle.t800.specs.Base.{Words}
use Rattle.t800.specs.Refusals.{Check, check, first_of, shape_refusal, style_refusal, list_refusal, planes_refusal}
use Rattle.t800.specs.TagTree.{set_value}
use Rattle.t800.specs.State.{Block, not_yet_included, not_yet_planes, writer, blocks_in, band_nodes, blocks, state_length}
use Rattle.t800.specs.Ranges.{bad_shape, bad_style, band_too_deep, block_too_deep}

-- ---- a fresh state

-- nodes with this value, low 0, known 0
unfoldable pub fresh_nodes : (v count : ℕ) → Words
fresh_nodes v zero = []
fresh_nodes v (suc count) = v ∷ 0 ∷ 0 ∷ fresh_nodes v count

unfoldable pub fresh_blocks : (count : ℕ) → Words
fresh_blocks zero = []
fresh_blocks (suc count) = 0 ∷ 0 ∷ 0 ∷ 0 ∷ fresh_blocks count

-- with so many layers, which is "not yet" in the inclusion tree
unfoldable pub fresh_bands_with : (layers : ℕ) → List Band → Words
fresh_bands_with layers [] = []
fresh_bands_with layers (b ∷ bs) =
    fresh_nodes layers (band_nodes b) ++ fresh_nodes not_yet_planes (band_nodes b) ++ fresh_blocks (blocks_in b) ++ fresh_bands_with layers bs

-- three words for each of so many bands, 0 where there is none
unfoldable pub band_words : List Band → (count : ℕ) → Words
band_words bs zero = []
band_words [] (suc count) = 0 ∷ 0 ∷ 0 ∷ band_words [] count
band_words (b ∷ bs) (suc count) = b.across ∷ b.down ∷ b.planes ∷ band_words bs count

unfoldable pub fresh_state_with : (layers role style : ℕ) → List Band → Words
fresh_state_with layers role style bs = role ∷ length bs ∷ style ∷ 0 ∷ band_words bs 3 ++ fresh_bands_with layers bs

-- each block's zero planes, its band's planes minus its own, are set in the zero-plane tree
unfoldable pub set_zero_planes : List Block → (planes state : Words) → Words
set_zero_planes [] ps state = state
set_zero_planes (k ∷ ks) [] state = state
set_zero_planes (k ∷ ks) (p ∷ ps) state = set_zero_planes ks ps (set_value k.zero_tree k.path (k.planes - p) state)

-- ---- the call

-- 0 or a refusal, and the lent state after it
pub record StartResult : Type 0 where
  pub answer : ℕ
  pub state : Words

-- 1, 2, 3, 4. Bands beyond the count are ignored. Fewer than the count cannot be given in the code, where they are an array of three. A
-- reader is given no block planes.
abbrev pub start_checks : (role count : ℕ) (given : List Band) (style : ℕ) (planes lent : Words) → List Check
start_checks role count given style planes lent =
    let bs = take count given in
    let ks = blocks bs in
    check shape_refusal (bad_shape count bs || ltb (length given) count)
    ∷ check style_refusal (bad_style style)
    ∷ check list_refusal (not (eqb (length lent) (state_length bs)) || not (eqb (length planes) (cond (eqb role writer) (length ks) 0)))
    ∷ check planes_refusal (band_too_deep bs || block_too_deep ks planes)
    ∷ []

unfoldable pub start_refusal : (role count : ℕ) (given : List Band) (style : ℕ) (planes lent : Words) → ℕ
unfolding writer
start_refusal role count given style planes lent = first_of (start_checks role count given style planes lent)

unfoldable pub start_with : (layers role count : ℕ) (given : List Band) (style : ℕ) (planes lent : Words) → StartResult
start_with layers role count given style planes lent =
    let why = start_refusal role count given style planes lent in
    let bs = take count given in
    let filled = set_zero_planes (blocks bs) planes (fresh_state_with layers role style bs) in
    record { answer = why; state = cond (eqb why 0) filled lent }

-- ---- with all layers

abbrev pub fresh_bands : List Band → Words
fresh_bands = fresh_bands_with not_yet_included

abbrev pub fresh_state : (role style : ℕ) → List Band → Words
fresh_state = fresh_state_with not_yet_included

abbrev pub start : (role count : ℕ) (given : List Band) (style : ℕ) (planes lent : Words) → StartResult
start = start_with not_yet_included
