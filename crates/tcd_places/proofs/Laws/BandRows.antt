-- A band row by row: its blocks are t800's, and those that are left after a row.
use mathlib.Core.Path.{◌≡◌, refl, sym, ap, ◌∙◌, subst}
use mathlib.Core.List.{List, [], ◌∷◌, ◌++◌}
use Prim.Native.Nat.{ℕ, zero, suc, ◌+◌, ◌-◌, ◌*◌, ◌≤◌, ◌<◌}
use native.Mathlib.Nat.{mul-le-mul, le_refl, zero-add}
use native.Mathlib.Omega.{arith}
use lib.ListN.{length, get_or}
use Rattle.t800.specs.declared.Band.{Band}
use Rattle.t800.specs.TagTree.{levels, path_to_root}
use Rattle.t800.specs.State.{Block, block_of, blocks_in, band_nodes, band_length, blocks_from}
use Rattle.tgt.specs.Path.{row_over, path_over, PathIn, SmallLevels}
use Rattle.tgt.proofs.Laws.Path as tgt
use Rattle.tcd_laws.specs.Geometry.{padded}
use Rattle.tcd_laws.proofs.Laws.Bands.{blocks-split}
use Rattle.tcd_places.specs.declared.Place.{Place}
use Rattle.tcd_places.specs.Places.{block_in, place_at, row_blocks, RowIn, grid_of, row_place, band_blocks, BandIn}

module _ (size start : ℕ) (b : Band) (h : BandIn size start b) where
  has_levels : tgt.TreeLevels b.across b.down (padded (levels b.across b.down)) (length (levels b.across b.down))
  unfolding padded
  has_levels = tgt.tree_levels b.across b.down _

  pub small : SmallLevels (padded (levels b.across b.down)) (length (levels b.across b.down))
  small = tgt.small_levels b.across b.down _ _ has_levels h.sides.0 h.sides.1

  -- its blocks end within the band's words
  pub row_ends : (y : ℕ) → y < b.down → start + 6 * band_nodes b + 4 * (y * b.across) + 4 * b.across ≤ size
  unfolding band_length blocks_in
  row_ends y l = omega (arith, h.inside, mul-le-mul (le_refl b.across) l)

  pub row_counts : (y : ℕ) → y < b.down → y * b.across + b.across ≤ blocks_in b
  unfolding blocks_in
  row_counts y l = omega (arith, mul-le-mul (le_refl b.across) l)

  module _ (y : ℕ) (l : y < b.down) where
    abbrev place : Place
    place = row_place (grid_of start b) y

    abbrev row : List ℕ
    row = row_over (padded (levels b.across b.down)) (length (levels b.across b.down)) y

    in_row : (base x : ℕ) → x < b.across → base + 3 * band_nodes b ≤ start + 6 * band_nodes b + 4 * (y * b.across)
        → PathIn place.at base row place.depth (0 + x)
    unfolding band_nodes
    in_row base x k e = subst (PathIn place.at base row place.depth) (sym (zero-add x))
        (tgt.path_in b.across b.down _ _ has_levels x y k l place.at base e)

    pub row_in : RowIn size place row b.across
    row_in = record {
      incl = λ x k. in_row start x k (omega arith);
      zero = λ x k. in_row (start + 3 * band_nodes b) x k (omega arith);
      inside = row_ends y l;
      small = omega (arith, h.sides.0);
    }

    -- the code's place, row and width are these
    pub at_row : (P : Place → List ℕ → ℕ → Type 0) (p : Place) (r : List ℕ) (n : ℕ) → p ≡ place → r ≡ row → n ≡ b.across
        → P place row b.across → P p r n
    at_row P p r n a c d k =
        subst (λ (z : Place). P z r n) (sym a) (subst (λ (z : List ℕ). P place z n) (sym c) (subst (P place row) (sym d) k))

    path_as : (x : ℕ) → x < b.across → path_over row place.depth (0 + x) ≡ path_to_root b.across b.down (y * b.across + x)
    path_as x k =
        ap (path_over row place.depth) (zero-add x) ∙ tgt.path_climbs b.across b.down _ _ has_levels x y k l
        ∙ sym (tgt.climb b.across b.down _ _ has_levels x y k l).is

    pub same_block : (x : ℕ) → x < b.across → block_in (place_at place x) row b.planes ≡ block_of start b (y * b.across + x)
    same_block x k =
        let e : place.at + 4 * x ≡ start + 6 * band_nodes b + 4 * (y * b.across + x) = omega arith in
        let w : 0 + 3 * (get_or row 0 0 + x) ≡ 0 + 3 * (y * b.across + x) = tgt.leaf_word_lem b.across b.down _ _ has_levels x y k l 0 in
        let f : get_or row 0 0 + (0 + x) ≡ y * b.across + x = omega arith in
        λ i. record { incl_tree = start; zero_tree = start + 3 * band_nodes b; leaf = f i; path = path_as x k i; at = e i; planes = b.planes }

    pub row_is : (n x : ℕ) → x + n ≤ b.across → row_blocks place row b.planes n x ≡ blocks_from start b n (y * b.across + x)
    unfolding row_blocks blocks_from
    row_is zero x k = refl
    row_is (suc n) x k =
        let a : y * b.across + (x + 1) ≡ y * b.across + x + 1 = omega arith in
        let r = row_is n (x + 1) (omega arith) ∙ ap (blocks_from start b n) a in
        λ i. same_block x (omega arith) i ∷ r i

    -- ---- the rows that are left

    abbrev left : ℕ → List Block
    left z = blocks_from start b (b.across * (b.down - z)) (z * b.across)

    pub split_row : left y ≡ blocks_from start b b.across (y * b.across + 0) ++ left (y + 1)
    split_row =
        let e : b.across * (b.down - y) ≡ b.across + b.across * (b.down - (y + 1)) = let d : b.down - y
        ≡ suc (b.down - (y + 1)) = omega arith in ap (λ (z : ℕ). b.across * z) d ∙ omega arith in
        let f : y * b.across + b.across ≡ (y + 1) * b.across = omega arith in
        let g : y * b.across ≡ y * b.across + 0 = omega arith in
        ap (λ (z : ℕ). blocks_from start b z (y * b.across)) e
        ∙ blocks-split start b b.across (b.across * (b.down - (y + 1))) (y * b.across)
        ∙ (λ i. blocks_from start b b.across (g i) ++ blocks_from start b (b.across * (b.down - (y + 1))) (f i))

  -- ---- the first row, and no row

  pub all_left : blocks_from start b (b.across * (b.down - 0)) (0 * b.across) ≡ band_blocks start b
  unfolding blocks_in
  all_left =
      let e : b.down - 0 ≡ b.down = omega arith in
      let z : 0 * b.across ≡ 0 = omega arith in
      λ i. blocks_from start b (b.across * e i) (z i)

  pub none_left : (y : ℕ) → b.down ≤ y → blocks_from start b (b.across * (b.down - y)) (y * b.across) ≡ []
  unfolding blocks_from
  none_left y l =
      let e : b.down - y ≡ 0 = omega arith in
      let z : b.across * (b.down - y) ≡ 0 = ap (λ (k : ℕ). b.across * k) e ∙ omega arith in
      ap (λ (k : ℕ). blocks_from start b k (y * b.across)) z
