-- A band row by row: its blocks are t800's, and what is left after a row.
use mathlib.Core.Path.{◌≡◌, refl, sym, ap, ◌∙◌, subst}
use mathlib.Core.List.{List, [], ◌∷◌, ◌++◌}
use Prim.Native.Nat.{ℕ, zero, suc, ◌+◌, ◌*◌, ◌<◌}
use native.Mathlib.Omega.{arith}
use lib.ListN.{get_or, drop}
use Rattle.t800.specs.declared.Band.{Band}
use Rattle.t800.specs.State.{Block, band_nodes}
use Rattle.t800.specs.WriteHeader.{is_new, length_bits_before, code_inclusion, code_zero_planes, code_passes, code_block}
use Rattle.bio_bytes.specs.Writing.{FreeBitsClear}
use Rattle.tcd_places.specs.declared.Place.{Place}
use Rattle.t2_write_block.specs.Runs.{Running, code_next, code_all, AllFit}
use Rattle.t2_write_block.proofs.Laws.Rows.{next_clear, next_keeps, all_still_fit}
use Rattle.tcd_places.specs.Places.{BandIn, block_in, place_at, row_blocks}
use Rattle.tcd_places.proofs.Laws.Before.{AllBlocks, BlockBefore, From}
use Rattle.tcd_places.proofs.Laws.BandBlocks.{from_before, blocks-from}
use Rattle.tcd_places.proofs.Laws.BandRows.{row_counts, split_row}
use Rattle.t2_write_new_blocks.proofs.Laws.BandRows.{place, row, first, left, is_row}

-- ---- blocks in two parts

pub code_append : (t : ℕ) (cs ls ms : List ℕ) (ks js : List Block) (s : Running) → code_all t cs ls ms (ks ++ js) s
    ≡ code_all t cs ls ms js (code_all t cs ls ms ks s)
unfolding code_all
code_append t cs ls ms [] js s = refl
code_append t cs ls ms (k ∷ ks) js s = code_append t cs ls ms ks js (code_next t cs ls ms k s)

pub all_clear : (t : ℕ) (cs ls ms : List ℕ) (ks : List Block) (s : Running) → FreeBitsClear s.output.bio
    → FreeBitsClear (code_all t cs ls ms ks s).output.bio
unfolding code_all
all_clear t cs ls ms [] s h = h
all_clear t cs ls ms (k ∷ ks) s h = all_clear t cs ls ms ks (code_next t cs ls ms k s) (next_clear t cs ls ms k s h)

pub all_keep : (q t : ℕ) (cs ls ms : List ℕ) (ks : List Block) (s : Running) → AllBlocks (BlockBefore q) ks
    → drop q (code_all t cs ls ms ks s).words ≡ drop q s.words
unfolding code_all
all_keep q t cs ls ms [] s b = refl
all_keep q t cs ls ms (k ∷ ks) s b = all_keep q t cs ls ms ks (code_next t cs ls ms k s) b.1 ∙ next_keeps q t cs ls ms k s b.0

pub first_fit : (cs ls ms ws : List ℕ) (ks js : List Block) (block pass : ℕ) → AllFit cs ls ms ws (ks ++ js) block pass
    → AllFit cs ls ms ws ks block pass
first_fit cs ls ms ws [] js block pass f = tt
first_fit cs ls ms ws (k ∷ ks) js block pass f = (f.0, first_fit cs ls ms ws ks js (block + 1) (pass + get_or cs block 0) f.1)

rest-fit : (t : ℕ) (cs ls ms ws : List ℕ) (ks js : List Block) (s : Running) → AllFit cs ls ms ws (ks ++ js) s.block s.pass
    → AllFit cs ls ms ws js (code_all t cs ls ms ks s).block (code_all t cs ls ms ks s).pass
unfolding code_all code_next
rest-fit t cs ls ms ws [] js s f = f
rest-fit t cs ls ms ws (k ∷ ks) js s f = rest-fit t cs ls ms ws ks js (code_next t cs ls ms k s) f.1

-- after blocks whose words lie before place q, those from q on can be coded as before
pub still_fit_after : (q t : ℕ) (cs ls ms : List ℕ) (ks js : List Block) (s : Running) → AllBlocks (BlockBefore q) ks
    → AllBlocks (From q) js → AllFit cs ls ms s.words (ks ++ js) s.block s.pass
    → AllFit cs ls ms (code_all t cs ls ms ks s).words js (code_all t cs ls ms ks s).block (code_all t cs ls ms ks s).pass
still_fit_after q t cs ls ms ks js s b a f =
    all_still_fit q cs ls ms _ s.words js _ _ (all_keep q t cs ls ms ks s b) a (rest-fit t cs ls ms s.words ks js s f)

-- ---- a block's planes don't count

module _ (p : Place) (row : List ℕ) (planes : ℕ) where
  next_planes : (t : ℕ) (cs ls ms : List ℕ) (s : Running) → code_next t cs ls ms (block_in p row 0) s
      ≡ code_next t cs ls ms (block_in p row planes) s
  unfolding code_next code_block code_inclusion code_zero_planes code_passes length_bits_before is_new
  next_planes t cs ls ms s = refl

module _ (p : Place) (row : List ℕ) (planes : ℕ) (cs ls ms : List ℕ) where
  codes_planes : (t n x : ℕ) (s : Running) → code_all t cs ls ms (row_blocks p row 0 n x) s
      ≡ code_all t cs ls ms (row_blocks p row planes n x) s
  unfolding code_all row_blocks
  codes_planes t zero x s = refl
  codes_planes t (suc n) x s = codes_planes t n (x + 1) _
      ∙ ap (code_all t cs ls ms (row_blocks p row planes n (x + 1))) (next_planes (place_at p x) row planes t cs ls ms s)

  fits_planes : (ws : List ℕ) (n x block pass : ℕ) → AllFit cs ls ms ws (row_blocks p row planes n x) block pass
      → AllFit cs ls ms ws (row_blocks p row 0 n x) block pass
  unfolding row_blocks
  fits_planes ws zero x block pass f = tt
  fits_planes ws (suc n) x block pass f = (f.0, fits_planes ws n (x + 1) (block + 1) (pass + get_or cs block 0) f.1)

-- ---- the rows of a band

module _ (size start : ℕ) (b : Band) (h : BandIn size start b) (y : ℕ) (l : y < b.down) where
  module _ (t : ℕ) (cs ls ms : List ℕ) (s : Running) (f : AllFit cs ls ms s.words (left start b y) s.block s.pass) where
    parts_fit : AllFit cs ls ms s.words (first start b y ++ left start b (y + 1)) s.block s.pass
    parts_fit = subst (λ (ks : List Block). AllFit cs ls ms s.words ks s.block s.pass) (split_row size start b h y l) f

    pub row_fits : AllFit cs ls ms s.words (row_blocks (place start b y) (row start b y) 0 b.across 0) s.block s.pass
    row_fits =
        fits_planes (place start b y) (row start b y) b.planes cs ls ms s.words b.across 0 s.block s.pass
        (subst (λ (ks : List Block). AllFit cs ls ms s.words ks s.block s.pass) (sym (is_row size start b h y l))
        (first_fit cs ls ms s.words (first start b y) (left start b (y + 1)) s.block s.pass parts_fit))

    module _ (u : Running) (e : u ≡ code_all t cs ls ms (row_blocks (place start b y) (row start b y) 0 b.across 0) s) where
      is_first : u ≡ code_all t cs ls ms (first start b y) s
      is_first = e ∙ codes_planes (place start b y) (row start b y) b.planes cs ls ms t b.across 0 s
          ∙ ap (λ (ks : List Block). code_all t cs ls ms ks s) (is_row size start b h y l)

      pub left_fit : AllFit cs ls ms u.words (left start b (y + 1)) u.block u.pass
      left_fit =
          let q : ℕ = start + 6 * band_nodes b + 4 * ((y + 1) * b.across) in
          let k : AllBlocks (BlockBefore q) (first start b y) =
          from_before q start b b.across (y * b.across + 0) (omega (arith, row_counts size start b h y l)) (omega arith) in
          subst (λ (v : Running). AllFit cs ls ms v.words (left start b (y + 1)) v.block v.pass) (sym is_first)
          (still_fit_after q t cs ls ms (first start b y) (left start b (y + 1)) s k
          (blocks-from q start b _ ((y + 1) * b.across) (omega arith)) parts_fit)

      pub left_coded : code_all t cs ls ms (left start b (y + 1)) u ≡ code_all t cs ls ms (left start b y) s
      left_coded =
          ap (code_all t cs ls ms (left start b (y + 1))) is_first
          ∙ sym (ap (λ (ks : List Block). code_all t cs ls ms ks s) (split_row size start b h y l)
          ∙ code_append t cs ls ms (first start b y) (left start b (y + 1)) s)
