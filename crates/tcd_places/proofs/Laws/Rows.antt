-- Blocks one after another along a row: the next, those that are left, and where they stand.
use mathlib.Core.Path.{◌≡◌}
use mathlib.Core.List.{List, [], ◌∷◌}
use Prim.Native.Nat.{ℕ, zero, suc, ◌+◌, ◌-◌, ◌*◌, ◌≤◌, ◌<◌}
use native.Mathlib.Omega.{arith}
use Rattle.tcd_places.specs.declared.Place.{Place}
use Rattle.tcd_places.specs.Places.{block_in, BlockIn, place_at, row_blocks, RowIn}
use Rattle.tcd_places.proofs.Laws.Before.{path_before, path_wider, BlockBefore, AllBlocks, From}

pub row_from : (q : ℕ) (p : Place) (row : List ℕ) (planes n i : ℕ) → q ≤ p.at + 4 * i → AllBlocks (From q) (row_blocks p row planes n i)
unfolding row_blocks
row_from q p row planes zero i h = tt
row_from q p row planes (suc n) i h = (h, row_from q p row planes n (i + 1) (omega arith))

pub row_turn : (p : Place) (row : List ℕ) (planes n i : ℕ) → i < n → row_blocks p row planes (n - i) i
    ≡ block_in (place_at p i) row planes ∷ row_blocks p row planes (n - (i + 1)) (i + 1)
unfolding row_blocks
row_turn p row planes n i h = let e : n - i ≡ suc (n - (i + 1)) = omega arith in rw e

pub row_end : (p : Place) (row : List ℕ) (planes n i : ℕ) → n ≤ i → row_blocks p row planes (n - i) i ≡ []
unfolding row_blocks
row_end p row planes n i h = let e : n - i ≡ 0 = omega arith in rw e

module _ (size n i : ℕ) (p : Place) (row : List ℕ) (h : i < n) (r : RowIn size p row n) where
  pub block_in-inside : BlockIn size (place_at p i) row
  block_in-inside =
      record {
        incl = path_wider p.at (p.at + 4 * i) p.incl row p.depth (p.x + i) (omega arith) (r.incl i h);
        zero = path_wider p.at (p.at + 4 * i) p.zero row p.depth (p.x + i) (omega arith) (r.zero i h);
        inside = omega (arith, r.inside);
      }

  pub before_next : (planes : ℕ) → BlockBefore (p.at + 4 * (i + 1)) (block_in (place_at p i) row planes)
  before_next planes =
      record {
        incl = path_before _ p.incl row p.depth (p.x + i)
            (path_wider p.at _ p.incl row p.depth (p.x + i) (omega arith) (r.incl i h));
        zero = path_before _ p.zero row p.depth (p.x + i)
            (path_wider p.at _ p.zero row p.depth (p.x + i) (omega arith) (r.zero i h));
        own = omega arith;
      }
