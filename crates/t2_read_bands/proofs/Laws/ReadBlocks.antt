-- Blocks of a band row by row, the first and the last row perhaps in part: they are t800's, and what is left after some of them.
use mathlib.Core.Path.{◌≡◌, refl, sym, ap, ◌∙◌, subst}
use mathlib.Core.Logic.{◌≢◌}
use mathlib.Core.List.{List, ◌∷◌, ◌++◌}
use Prim.Native.Nat.{ℕ, zero, suc, ◌+◌, ◌-◌, ◌*◌, ◌^◌, ◌≤◌, ◌<◌}
use native.Mathlib.Nat.{mul-le-mul, le_refl}
use native.Mathlib.Omega.{arith}
use lib.ListN.{length, drop}
use Rattle.t800.specs.declared.Band.{Band}
use Rattle.t800.specs.TagTree.{levels}
use Rattle.t800.specs.State.{Block, blocks_in, band_nodes, blocks_from}
use Rattle.t800_laws.proofs.Laws.Lists.{length_from}
use Rattle.t800_laws.proofs.Laws.Tests.{on-lt}
use Rattle.tcd_laws.specs.Geometry.{padded}
use Rattle.tcd_laws.proofs.Laws.Bands.{blocks-up_to_4096, blocks-split}
use Rattle.tgt.specs.Path.{row_over, PathIn}
use Rattle.tcd_places.specs.declared.Place.{Place}
use Rattle.tcd_places.specs.Places.{BandIn, RowIn, grid_of, block_in, place_at, row_blocks, row_place}
use Rattle.tcd_places.proofs.Laws.Before.{path_wider}
use Rattle.tcd_places.proofs.Laws.BandBlocks.{from_before}
use Rattle.tcd_places.proofs.Laws.BandRows.{row_counts, row_ends, row_in, row_is}
use Rattle.t2_read_segments.specs.Reading.{Reading, BlockFits, BlocksFit}
use Rattle.t2_read_block_parts.specs.Blocks.{next_blocks}
use Rattle.t2_read_block_parts.proofs.Laws.Kept.{Keeps, blocks-keep}
use Rattle.t2_read_block.proofs.Laws.Rows.{block_fits, keeps_later, blocks-then, blocks-refused}

-- the row of a block that is there
pub row_there : (b : Band) (x y i end : ℕ) → i < end → end ≤ blocks_in b → i ≡ y * b.across + x → y < b.down
unfolding blocks_in
row_there b x y i end h e is =
    on-lt y b.down (λ l. l) (λ ge. absurd (omega (arith, mul-le-mul (le_refl b.across) ge)))

-- a band with a block has a column
pub some_column : (b : Band) → 0 < blocks_in b → 0 < b.across
unfolding blocks_in
some_column b h =
    on-lt 0 b.across (λ l. l)
    (λ l. let z : b.across ≡ 0 = omega arith in absurd (omega (arith, ap (λ (n : ℕ). n * b.down) z)))

-- the blocks of a row from column x on
from_column : (p : Place) (row : List ℕ) (planes x n j : ℕ)
    → row_blocks (place_at p x) row planes n j ≡ row_blocks p row planes n (x + j)
unfolding row_blocks
from_column p row planes x zero j = refl
from_column p row planes x (suc n) j =
    let c : p.x + x + j ≡ p.x + (x + j) = omega arith in
    let a : p.at + 4 * x + 4 * j ≡ p.at + 4 * (x + j) = omega arith in
    let d : x + (j + 1) ≡ x + j + 1 = omega arith in
    let here : place_at (place_at p x) j ≡ place_at p (x + j) =
    λ i. record { incl = p.incl; zero = p.zero; depth = p.depth; x = c i; at = a i } in
    let later = from_column p row planes x n (j + 1) ∙ ap (row_blocks p row planes n) d in
    λ i. block_in (here i) row planes ∷ later i

module _ (size start : ℕ) (b : Band) (h : BandIn size start b) (y : ℕ) (l : y < b.down) (x n : ℕ) (k : x + n ≤ b.across) where
  abbrev row_start : Place
  row_start = row_place (grid_of start b) y

  abbrev place : Place
  place = place_at row_start x

  abbrev row : List ℕ
  row = row_over (padded (levels b.across b.down)) (length (levels b.across b.down)) y

  abbrev number : ℕ
  number = y * b.across + x

  pub part_there : number + n ≤ blocks_in b
  part_there = omega (arith, row_counts size start b h y l)

  pub part_number : (block : ℕ) → block ≤ 12288 → block + number + n ≤ 2 ^ 32
  part_number block m = omega (arith, part_there, blocks-up_to_4096 b h.sides)

  on_path : (base j : ℕ) → PathIn row_start.at base row row_start.depth (0 + (x + j))
      → PathIn place.at base row place.depth (0 + x + j)
  on_path base j p =
      let e : 0 + (x + j) ≡ 0 + x + j = omega arith in
      path_wider row_start.at place.at base row place.depth (0 + x + j) (omega arith)
      (subst (PathIn row_start.at base row row_start.depth) e p)

  pub part_in : RowIn size place row n
  part_in =
      let r = row_in size start b h y l in
      record {
        incl = λ j q. on_path start j (r.incl (x + j) (omega arith));
        zero = λ j q. on_path (start + 3 * band_nodes b) j (r.zero (x + j) (omega arith));
        inside = omega (arith, row_ends size start b h y l);
        small = omega (arith, h.sides.0);
      }

  -- of blocks that fit from number i on, up to `end`
  pub part_fits : (ws vs : List ℕ) (i end : ℕ) → BlocksFit vs (start + 6 * band_nodes b + 4 * i) (end - i) → i ≤ number → number + n ≤ end
      → drop place.at ws ≡ drop place.at vs → BlocksFit ws place.at n
  part_fits ws vs i end f after before e j q =
      let a : start + 6 * band_nodes b + 4 * i + 4 * (number - i + j) ≡ place.at + 4 * j = omega arith in
      block_fits place.at (place.at + 4 * j) ws vs e (omega arith) (subst (BlockFits vs) a (f (number - i + j) (omega arith)))

  abbrev part : List Block
  part = blocks_from start b n number

  part_is : row_blocks place row b.planes n 0 ≡ part
  part_is =
      let e : x + 0 ≡ x = omega arith in
      from_column row_start row b.planes x n 0 ∙ ap (row_blocks row_start row b.planes n) e ∙ row_is size start b h y l n x k

  module _ (src : List ℕ) (t block i end : ℕ) (at : i ≡ number) (in_end : i + n ≤ end) (a c : Reading)
      (is : c ≡ next_blocks src t (block + i) (row_blocks place row b.planes n 0) a) where
    -- the blocks that are left
    abbrev left : ℕ → List Block
    left m = blocks_from start b (end - m) m

    is_here : c ≡ next_blocks src t (block + i) (blocks_from start b n i) a
    is_here = is
        ∙ ap (λ (ks : List Block). next_blocks src t (block + i) ks a) (part_is ∙ ap (blocks_from start b n) (sym at))

    split : left i ≡ blocks_from start b n i ++ left (i + n)
    split =
        let e : end - i ≡ n + (end - (i + n)) = omega arith in
        ap (λ (m : ℕ). blocks_from start b m i) e ∙ blocks-split start b n (end - (i + n)) i

    pub blocks-on : c.refusal ≡ 0
        → next_blocks src t (block + (i + n)) (left (i + n)) c ≡ next_blocks src t (block + i) (left i) a
    blocks-on z =
        let e : block + (i + n) ≡ block + i + length (blocks_from start b n i) = omega (arith, length_from start b n i) in
        ap (λ (m : ℕ). next_blocks src t m (left (i + n)) c) e
        ∙ blocks-then src t (left (i + n)) c (block + i) (blocks_from start b n i) a is_here z
        ∙ sym (ap (λ (ks : List Block). next_blocks src t (block + i) ks a) split)

    pub blocks-stop : a.refusal ≡ 0 → c.refusal ≢ 0 → c ≡ next_blocks src t (block + i) (left i) a
    blocks-stop o z =
        blocks-refused src t (left (i + n)) c (block + i) (blocks_from start b n i) a o is_here z
        ∙ sym (ap (λ (ks : List Block). next_blocks src t (block + i) ks a) split)

    pub blocks-kept : (vs : List ℕ) → Keeps src (start + 6 * band_nodes b + 4 * i) vs a
        → Keeps src (start + 6 * band_nodes b + 4 * (i + n)) vs c
    blocks-kept vs m =
        let q : ℕ = start + 6 * band_nodes b + 4 * (i + n) in
        subst (Keeps src q vs) (sym is_here)
        (blocks-keep src q vs t (block + i) (blocks_from start b n i) a
        (from_before q start b n i (omega (arith, part_there)) (omega arith))
        (keeps_later src (start + 6 * band_nodes b + 4 * i) q vs a (omega arith) m))
