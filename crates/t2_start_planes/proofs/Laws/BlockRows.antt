-- The blocks of a band row by row: the block in row y, column x of a band whose words begin at `at` is `block_of at b (y * across + x)`, and
-- its path is the one that the row's first nodes give.
use mathlib.Core.Path.{◌≡◌, refl, sym, ap, ap₂, ◌∙◌, subst}
use mathlib.Core.List.{List, [], ◌∷◌, ◌++◌}
use Prim.Native.Nat.{ℕ, ◌+◌, ◌-◌, ◌*◌, ◌≤◌, ◌<◌}
use native.Mathlib.Nat.{mul-le-mul, le_refl, le_trans, le_of_eq, mul_comm}
use native.Mathlib.Numerals.{add-one}
use native.Mathlib.Omega.{arith}
use lib.ListN.{length, get_or, take, drop}
use lib.Seq.{drop-cons}
use Rattle.t800.specs.declared.Band.{Band}
use Rattle.t800.specs.declared.Level.{Level}
use Rattle.t800.specs.TagTree.{levels, nodes, path_to_root}
use Rattle.t800.specs.State.{blocks_in, band_nodes, band_length, blocks_from, end_of}
use Rattle.t800_laws.proofs.Laws.Layout.{band_length_lem, end_after}
use Rattle.tcd_laws.specs.Geometry.{no_band, padded}
use Rattle.tcd_laws.proofs.Laws.Bands.{blocks-split}
use Rattle.tcd_laws.proofs.Laws.TreeLevels.{padded-front}
use Rattle.tgt.specs.Path.{row_over, path_over, PathIn}
use Rattle.tgt.proofs.Laws.Path.{TreeLevels, climb, path_climbs, path_in}
use Rattle.t2_start_planes.specs.Rows.{ColumnsIn}

-- the band at an index, and those after it
module _ (bs : List Band) (i : ℕ) (h : i < length bs) where
  pub band_then : drop i bs ≡ get_or bs i no_band ∷ drop (i + 1) bs
  band_then = rw (add-one, drop-cons bs i no_band h)

  pub band_ends : (at : ℕ) → end_of (at + band_length (get_or bs i no_band)) (drop (i + 1) bs) ≡ end_of at (drop i bs)
  unfolding end_of
  band_ends at = sym (ap (end_of at) band_then)

  pub band_within : (at size : ℕ) → end_of at (drop i bs) ≡ size → at + band_length (get_or bs i no_band) ≤ size
  band_within at size e =
      le_trans (end_after (at + band_length (get_or bs i no_band)) (drop (i + 1) bs)) (le_of_eq (band_ends at ∙ e))

module _ (at : ℕ) (b : Band) where
  -- row y, and the rows below it
  pub rows_turn : (y : ℕ) → y < b.down
      → blocks_from at b (blocks_in b - y * b.across) (y * b.across)
      ≡ blocks_from at b b.across (y * b.across) ++ blocks_from at b (blocks_in b - (y + 1) * b.across) ((y + 1) * b.across)
  unfolding blocks_in
  rows_turn y h =
      let w : ℕ = b.across in
      let l : (y + 1) * w ≤ b.down * w = mul-le-mul (let k : y + 1 ≤ b.down = omega arith in k) (le_refl w) in
      let n : w * b.down - y * w ≡ w + (w * b.down - (y + 1) * w) = omega (arith, l, mul_comm w b.down) in
      let q : y * w + w ≡ (y + 1) * w = omega arith in
      ap (λ (k : ℕ). blocks_from at b k (y * w)) n
      ∙ blocks-split at b w (w * b.down - (y + 1) * w) (y * w)
      ∙ ap (λ (k : ℕ). blocks_from at b w (y * w) ++ blocks_from at b (w * b.down - (y + 1) * w) k) q

  -- the first row, and past the last
  pub rows_first : blocks_from at b (blocks_in b - 0 * b.across) (0 * b.across) ≡ blocks_from at b (blocks_in b) 0
  rows_first =
      let z : 0 * b.across ≡ 0 = omega arith in
      let n : blocks_in b - 0 ≡ blocks_in b = omega arith in
      rw (z, n)

  pub rows_end : (y : ℕ) → b.down ≤ y → blocks_from at b (blocks_in b - y * b.across) (y * b.across) ≡ []
  unfolding blocks_in blocks_from
  rows_end y h =
      let l : b.down * b.across ≤ y * b.across = mul-le-mul h (le_refl b.across) in
      let n : b.across * b.down - y * b.across ≡ 0 = omega (arith, l, mul_comm b.across b.down) in
      ap (λ (k : ℕ). blocks_from at b k (y * b.across)) n

-- the path of the block in row y, column x
pub path_in_row : (w h : ℕ) (ls : List Level) (depth : ℕ) → TreeLevels w h ls depth → (y x : ℕ) → y < h → x < w
    → path_over (row_over ls depth y) depth x ≡ path_to_root w h (y * w + x)
path_in_row w h ls depth t y x k l = path_climbs w h ls depth t x y l k ∙ sym (climb w h ls depth t x y l k).is

-- a band's levels as the code holds them
pub tree_of_band : (w h : ℕ) (ls : List Level) (depth : ℕ) → ls ≡ padded (levels w h) → depth ≡ length (levels w h)
    → TreeLevels w h ls depth
tree_of_band w h ls depth e n = record { are = ap₂ (λ (d : ℕ) (l : List Level). take d l) n e ∙ padded-front (levels w h); many = sym n }

-- row y ends before the band's last block does
pub row_inside : (b : Band) (y from : ℕ) → y < b.down → from ≡ y * b.across → from + b.across ≤ blocks_in b
unfolding blocks_in
row_inside b y from h e =
    let l : (y + 1) * b.across ≤ b.down * b.across = mul-le-mul (let k : y + 1 ≤ b.down = omega arith in k) (le_refl b.across) in
    omega (arith, l, mul_comm b.across b.down)

-- the nodes of its zero-plane tree over the first n columns lie in a list that holds the band's words
pub row_in : (at : ℕ) (b : Band) (ls : List Level) (depth : ℕ) → TreeLevels b.across b.down ls depth → (y : ℕ) → y < b.down
    → (row : List ℕ) → row ≡ row_over ls depth y
    → (base size n : ℕ) → base ≡ at + 3 * band_nodes b → at + band_length b ≤ size → n ≤ b.across → ColumnsIn size base row depth n
unfolding band_nodes
row_in at b ls depth t y k row e base size n q fits few = λ x h.
    let m : band_nodes b ≡ nodes b.across b.down = refl in
    subst (λ (r : List ℕ). PathIn size base r depth x) (sym e)
    (path_in b.across b.down ls depth t x y (omega arith) k size base (omega (arith, band_length_lem b, m, q, fits)))
