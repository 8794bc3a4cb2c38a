-- A band row by row: its blocks are t800's, and what is left after a row.
use mathlib.Core.Path.{◌≡◌, refl, sym, ap, ◌∙◌}
use mathlib.Core.List.{List, [], ◌∷◌, ◌++◌}
use Prim.Native.Nat.{ℕ, zero, suc, ◌+◌, ◌-◌, ◌*◌, ◌<◌}
use native.Mathlib.Omega.{arith}
use lib.ListN.{length, get_or}
use Rattle.t800.specs.declared.Band.{Band}
use Rattle.t800.specs.TagTree.{levels}
use Rattle.t800.specs.State.{Block, blocks_from}
use Rattle.t800.specs.WriteHeader.{is_new}
use Rattle.tcd_laws.specs.Geometry.{padded}
use Rattle.t800_laws.proofs.Laws.Lists.{length_from}
use Rattle.tgt.specs.Path.{row_over}
use Rattle.tcd_places.specs.declared.Place.{Place}
use Rattle.t2_write_new_rows.specs.Setting.{set_next, set_all}
use Rattle.tcd_places.specs.Places.{BandIn, block_in, grid_of, place_at, row_blocks, row_place}
use Rattle.tcd_places.proofs.Laws.BandRows.{row_is, split_row}

-- ---- blocks in two parts

pub set_append : (t : ℕ) (cs : List ℕ) (ks js : List Block) (i : ℕ) (ws : List ℕ) → set_all t cs (ks ++ js) i ws
    ≡ set_all t cs js (i + length ks) (set_all t cs ks i ws)
unfolding set_all
set_append t cs [] js i ws = let e : i ≡ i + 0 = omega arith in ap (λ (z : ℕ). set_all t cs js z ws) e
set_append t cs (k ∷ ks) js i ws =
    let e : i + 1 + length ks ≡ i + suc (length ks) = omega arith in
    set_append t cs ks js (i + 1) _ ∙ ap (λ (z : ℕ). set_all t cs js z (set_all t cs ks (i + 1) (set_next t k (get_or cs i 0) ws))) e

-- ---- a block's planes don't count

module _ (p : Place) (row : List ℕ) (planes : ℕ) where
  set_planes : (t c : ℕ) (ws : List ℕ) → set_next t (block_in p row 0) c ws ≡ set_next t (block_in p row planes) c ws
  unfolding set_next is_new
  set_planes t c ws = refl

module _ (p : Place) (row : List ℕ) (planes : ℕ) (cs : List ℕ) where
  sets_planes : (t n x i : ℕ) (ws : List ℕ) → set_all t cs (row_blocks p row 0 n x) i ws ≡ set_all t cs (row_blocks p row planes n x) i ws
  unfolding set_all row_blocks
  sets_planes t zero x i ws = refl
  sets_planes t (suc n) x i ws = sets_planes t n (x + 1) (i + 1) _
      ∙ ap (set_all t cs (row_blocks p row planes n (x + 1)) (i + 1)) (set_planes (place_at p x) row planes t (get_or cs i 0) ws)

-- ---- the rows of a band

-- row y of a band whose words begin at `start`: its place, the first node of each level, its blocks, and those of the rows from it on
module _ (start : ℕ) (b : Band) (y : ℕ) where
  abbrev pub place : Place
  place = row_place (grid_of start b) y

  abbrev pub row : List ℕ
  row = row_over (padded (levels b.across b.down)) (length (levels b.across b.down)) y

  abbrev pub first : List Block
  first = blocks_from start b b.across (y * b.across + 0)

  abbrev pub left : List Block
  left = blocks_from start b (b.across * (b.down - y)) (y * b.across)

module _ (size start : ℕ) (b : Band) (h : BandIn size start b) (y : ℕ) (l : y < b.down) where
  pub is_row : row_blocks (place start b y) (row start b y) b.planes b.across 0 ≡ (first start b y)
  is_row = row_is size start b h y l b.across 0 (omega arith)

  pub left_set : (t : ℕ) (cs : List ℕ) (i : ℕ) (ws vs : List ℕ) → vs
      ≡ set_all t cs (row_blocks (place start b y) (row start b y) 0 b.across 0) (i + y * b.across) ws
      → set_all t cs (left start b (y + 1)) (i + (y + 1) * b.across) vs ≡ set_all t cs (left start b y) (i + y * b.across) ws
  left_set t cs i ws vs e =
      let c : i + (y + 1) * b.across
      ≡ i + y * b.across + length (first start b y) = omega (arith, length_from start b b.across (y * b.across + 0)) in
      let g : vs ≡ set_all t cs (first start b y) (i + y * b.across) ws =
      e ∙ sets_planes (place start b y) (row start b y) b.planes cs t b.across 0 (i + y * b.across) ws
      ∙ ap (λ (ks : List Block). set_all t cs ks (i + y * b.across) ws) is_row in
      (λ j. set_all t cs (left start b (y + 1)) (c j) (g j))
      ∙ sym (ap (λ (ks : List Block). set_all t cs ks (i + y * b.across) ws) (split_row size start b h y l)
      ∙ set_append t cs (first start b y) (left start b (y + 1)) (i + y * b.across) ws)
