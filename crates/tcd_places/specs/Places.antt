-- Bands, rows and blocks by the numbers that the code has: `Laws.BandRows` says that these blocks are t800's.
use Rattle.std.specs.Prelude.{ℕ, zero, suc, ◌+◌, ◌*◌, ◌≤◌, ◌<◌, List, [], ◌∷◌, length, get_or}
use Rattle.t800.specs.declared.Band.{Band}
use Rattle.t800.specs.TagTree.{levels}
use Rattle.t800.specs.State.{Block, blocks_in, band_nodes, band_length, blocks_from}
use Rattle.tgt.specs.Path.{path_over, PathIn}
use Rattle.tcd_laws.specs.Geometry.{SidesUpTo64}
use Rattle.tcd_places.specs.declared.Grid.{Grid}
use Rattle.tcd_places.specs.declared.Place.{Place}

-- ---- a block

-- a block of which only its own words count
abbrev pub block_at : ℕ → Block
block_at at = record { incl_tree = 0; zero_tree = 0; leaf = 0; path = []; at = at; planes = 0 }

-- a block in a row that begins with these nodes on each level, in a band with so many planes
abbrev pub block_in : Place → List ℕ → ℕ → Block
block_in p row planes =
    record {
      incl_tree = p.incl;
      zero_tree = p.zero;
      leaf = get_or row 0 0 + p.x;
      path = path_over row p.depth p.x;
      at = p.at;
      planes = planes;
    }

-- both trees lie before the block's words, and those in a list of so many
pub record BlockIn (size : ℕ) (p : Place) (row : List ℕ) : Type 0 where
  pub incl : PathIn p.at p.incl row p.depth p.x
  pub zero : PathIn p.at p.zero row p.depth p.x
  pub inside : p.at + 3 < size

-- ---- a row of blocks

-- the block i columns on
abbrev pub place_at : Place → ℕ → Place
place_at p i = record { incl = p.incl; zero = p.zero; depth = p.depth; x = p.x + i; at = p.at + 4 * i }

-- n blocks from number i of the row on
unfoldable pub row_blocks : Place → List ℕ → ℕ → ℕ → ℕ → List Block
row_blocks p row planes zero i = []
row_blocks p row planes (suc n) i = block_in (place_at p i) row planes ∷ row_blocks p row planes n (i + 1)

-- n blocks of a row: the trees lie before them, and they in a list of so many words
pub record RowIn (size : ℕ) (p : Place) (row : List ℕ) (n : ℕ) : Type 0 where
  pub incl : (i : ℕ) → i < n → PathIn p.at p.incl row p.depth (p.x + i)
  pub zero : (i : ℕ) → i < n → PathIn p.at p.zero row p.depth (p.x + i)
  pub inside : p.at + 4 * n ≤ size
  pub small : p.x + n ≤ 64

-- ---- a band

-- a band whose words begin at `start`
abbrev pub grid_of : ℕ → Band → Grid
grid_of start b = record { start = start; nodes = band_nodes b; depth = length (levels b.across b.down); w = b.across }

-- the first block of its row y
abbrev pub row_place : Grid → ℕ → Place
row_place g y = record
    { incl = g.start; zero = g.start + 3 * g.nodes; depth = g.depth; x = 0; at = g.start + 6 * g.nodes + 4 * (y * g.w) }

abbrev pub band_blocks : ℕ → Band → List Block
band_blocks start b = blocks_from start b (blocks_in b) 0

-- it lies in a list of so many words
pub record BandIn (size start : ℕ) (b : Band) : Type 0 where
  pub sides : SidesUpTo64 b
  pub inside : start + band_length b ≤ size
