-- Where the blocks of bands stand: each after its trees' paths, and all within the bands' words.
use mathlib.Core.Path.{sym, subst}
use mathlib.Core.List.{List, [], ◌∷◌, reverse}
use Prim.Native.Nat.{ℕ, zero, suc, ◌+◌, ◌*◌, ◌≤◌, ◌<◌}
use native.Mathlib.Omega.{arith}
use Rattle.t800.specs.declared.Band.{Band}
use Rattle.t800.specs.TagTree.{nodes, path_to_root}
use Rattle.t800.specs.State.{block_of, blocks_in, band_nodes, band_length, blocks_from, blocks_at, end_of}
use Rattle.t800_laws.proofs.Laws.Layout.{band_length_lem, end_after}
use Rattle.t800_laws.proofs.Laws.Paths.{leaf_path}
use Rattle.tcd_places.proofs.Laws.Before.{Before, below_before, reversed_before, BlockBefore, AllBlocks, From, all_append}

-- a leaf's path lies before place q if the tree does
pub leaf_before : (q base w h leaf : ℕ) → leaf < w * h → base + 3 * nodes w h ≤ q → Before q base (path_to_root w h leaf)
leaf_before q base w h leaf l f =
    let p = leaf_path w h leaf l in
    subst (Before q base) (sym p.is) (below_before q base (nodes w h) (leaf ∷ p.above) f p.below)

pub tree_before : (q base w h leaf : ℕ) → leaf < w * h → base + 3 * nodes w h ≤ q → Before q base (reverse (path_to_root w h leaf))
tree_before q base w h leaf l f = reversed_before q base (path_to_root w h leaf) (leaf_before q base w h leaf l f)

block_before : (start : ℕ) (b : Band) (i : ℕ) → i < blocks_in b → (q : ℕ) → start + 6 * band_nodes b + 4 * i + 4 ≤ q
    → BlockBefore q (block_of start b i)
unfolding band_nodes blocks_in
block_before start b i h q l =
    record {
      incl = tree_before q start b.across b.down i h (omega arith);
      zero = tree_before q (start + 3 * band_nodes b) b.across b.down i h (omega arith);
      own = l;
    }

pub from_before : (q start : ℕ) (b : Band) (n i : ℕ) → i + n ≤ blocks_in b → start + 6 * band_nodes b + 4 * (i + n) ≤ q
    → AllBlocks (BlockBefore q) (blocks_from start b n i)
unfolding blocks_from
from_before q start b zero i h l = tt
from_before q start b (suc n) i h l =
    (block_before start b i (omega arith) q (omega arith), from_before q start b n (i + 1) (omega arith) (omega arith))

-- a band's blocks lie before its end
pub band_before : (start : ℕ) (b : Band) → AllBlocks (BlockBefore (start + band_length b)) (blocks_from start b (blocks_in b) 0)
band_before start b = from_before (start + band_length b) start b (blocks_in b) 0 (omega arith) (omega (arith, band_length_lem b))

pub bands-before : (q at : ℕ) (bs : List Band) → end_of at bs ≤ q → AllBlocks (BlockBefore q) (blocks_at at bs)
unfolding blocks_at end_of
bands-before q at [] h = tt
bands-before q at (b ∷ bs) h =
    let e = end_after (at + band_length b) bs in
    all_append (BlockBefore q) (blocks_from at b (blocks_in b) 0) _
    (from_before q at b (blocks_in b) 0 (omega arith) (omega (arith, band_length_lem b))) (bands-before q (at + band_length b) bs h)

pub blocks-from : (q at : ℕ) (b : Band) (n i : ℕ) → q ≤ at + 6 * band_nodes b + 4 * i → AllBlocks (From q) (blocks_from at b n i)
unfolding blocks_from
blocks-from q at b zero i h = tt
blocks-from q at b (suc n) i h = (h, blocks-from q at b n (i + 1) (omega arith))
