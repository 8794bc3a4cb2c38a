-- Blocks one after another along a row: one more, and what is left then.
use mathlib.Core.Path.{◌≡◌, sym, ap, ◌∙◌, subst}
use mathlib.Core.List.{List, [], ◌∷◌}
use Prim.Native.Nat.{ℕ, ◌+◌, ◌-◌, ◌*◌, ◌<◌}
use native.Mathlib.Omega.{arith}
use lib.ListN.{get_or, take, drop}
use Rattle.t800.specs.Segments.{segments_of}
use Rattle.t800.specs.State.{Block}
use Rattle.t800.specs.WriteHeader.{code_block}
use Rattle.bio_bytes.specs.Writing.{FreeBitsClear}
use Rattle.bio_write.proofs.Laws.FreeBits.{put_bits-clear}
use Rattle.tgt_write.specs.Coding.{LeafCoded, put_coded}
use Rattle.tcd_places.specs.declared.Place.{Place}
use Rattle.tcd_places.specs.Places.{RowIn, block_in, place_at, row_blocks}
use Rattle.tcd_places.proofs.Laws.Before.{BlockBefore, From, AllBlocks}
use Rattle.t2_write_block.specs.Runs.{Running, code_next, code_all, NextFits, AllFit}
use Rattle.t2_write_block.proofs.Laws.OneBlock.{block_keeps, still_fit}
use Rattle.tcd_places.proofs.Laws.Rows.{row_from, row_turn, before_next}

-- ---- the next block

abbrev after : Running → ℕ → LeafCoded → Running
after s c x = record { words = x.words; output = x.output; block = s.block + 1; pass = s.pass + c }

pub next_is : (t d : ℕ) (cs ls ms : List ℕ) (k : Block) (s : Running) (x : LeafCoded) → d ≡ get_or cs s.block 0
    → x ≡ put_coded s.output
    (code_block t k (get_or cs s.block 0) (segments_of (take d (drop s.pass ls)) (take d (drop s.pass ms))) s.words)
    → after s (get_or cs s.block 0) x ≡ code_next t cs ls ms k s
unfolding code_next
next_is t d cs ls ms k s x h e =
    ap (after s (get_or cs s.block 0))
    (e ∙ ap (λ (n : ℕ). put_coded s.output
    (code_block t k (get_or cs s.block 0) (segments_of (take n (drop s.pass ls)) (take n (drop s.pass ms))) s.words)) h)

pub next_clear : (t : ℕ) (cs ls ms : List ℕ) (k : Block) (s : Running) → FreeBitsClear s.output.bio
    → FreeBitsClear (code_next t cs ls ms k s).output.bio
unfolding code_next
next_clear t cs ls ms k s h = put_bits-clear s.output _ h

pub next_keeps : (q t : ℕ) (cs ls ms : List ℕ) (k : Block) (s : Running) → BlockBefore q k → drop q (code_next t cs ls ms k s).words
    ≡ drop q s.words
unfolding code_next
next_keeps q t cs ls ms k s h = block_keeps q t _ k _ s.words h

-- ---- those after it can still be coded

pub all_still_fit : (q : ℕ) (cs ls ms ws vs : List ℕ) (ks : List Block) (block pass : ℕ) → drop q ws ≡ drop q vs
    → AllBlocks (From q) ks → AllFit cs ls ms vs ks block pass → AllFit cs ls ms ws ks block pass
all_still_fit q cs ls ms ws vs [] block pass e a f = tt
all_still_fit q cs ls ms ws vs (k ∷ ks) block pass e a f = (
  record {
    counted = f.0.counted;
    many = f.0.many;
    marked = f.0.marked;
    passes = still_fit q k.at _ ws vs _ _ e a.0 f.0.passes;
  },
  all_still_fit q cs ls ms ws vs ks (block + 1) (pass + get_or cs block 0) e a.1 f.1,
)

pub fit_turn : (q t : ℕ) (cs ls ms : List ℕ) (k : Block) (ks : List Block) (s : Running) → BlockBefore q k → AllBlocks (From q) ks
    → AllFit cs ls ms s.words (k ∷ ks) s.block s.pass
    → AllFit cs ls ms (code_next t cs ls ms k s).words ks (code_next t cs ls ms k s).block (code_next t cs ls ms k s).pass
unfolding code_next
fit_turn q t cs ls ms k ks s b a f =
    all_still_fit q cs ls ms _ s.words ks (s.block + 1) (s.pass + get_or cs s.block 0) (next_keeps q t cs ls ms k s b) a
    f.1

-- ---- along a row

module _ (size n i : ℕ) (p : Place) (row : List ℕ) (h : i < n) (r : RowIn size p row n) where
  module _ (t : ℕ) (cs ls ms : List ℕ) (s : Running) where
    pub fits_now : AllFit cs ls ms s.words (row_blocks p row 0 (n - i) i) s.block s.pass
        → NextFits cs ls ms s.words (p.at + 4 * i) s.block s.pass
    fits_now f = (subst (λ (ks : List Block). AllFit cs ls ms s.words ks s.block s.pass) (row_turn p row 0 n i h) f).0

    pub fits_then : (u : Running) → u ≡ code_next t cs ls ms (block_in (place_at p i) row 0) s
        → AllFit cs ls ms s.words (row_blocks p row 0 (n - i) i) s.block s.pass
        → AllFit cs ls ms u.words (row_blocks p row 0 (n - (i + 1)) (i + 1)) u.block u.pass
    fits_then u e f =
        subst (λ (v : Running). AllFit cs ls ms v.words (row_blocks p row 0 (n - (i + 1)) (i + 1)) v.block v.pass) (sym e)
        (fit_turn (p.at + 4 * (i + 1)) t cs ls ms (block_in (place_at p i) row 0) (row_blocks p row 0 (n - (i + 1)) (i + 1)) s
        (before_next size n i p row h r 0) (row_from (p.at + 4 * (i + 1)) p row 0 (n - (i + 1)) (i + 1) (omega arith))
        (subst (λ (ks : List Block). AllFit cs ls ms s.words ks s.block s.pass) (row_turn p row 0 n i h) f))

    pub codes_then : (u : Running) → u ≡ code_next t cs ls ms (block_in (place_at p i) row 0) s
        → code_all t cs ls ms (row_blocks p row 0 (n - (i + 1)) (i + 1)) u ≡ code_all t cs ls ms (row_blocks p row 0 (n - i) i) s
    unfolding code_all
    codes_then u e = ap (code_all t cs ls ms (row_blocks p row 0 (n - (i + 1)) (i + 1))) e
        ∙ sym (ap (λ (ks : List Block). code_all t cs ls ms ks s) (row_turn p row 0 n i h))
