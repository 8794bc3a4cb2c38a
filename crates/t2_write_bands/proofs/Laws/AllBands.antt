-- Bands one after another: where a band's blocks stand, what setting and coding it leaves alone, and that band by band is all blocks set,
-- then all coded.
use mathlib.Core.Path.{◌≡◌, refl, sym, ap, ◌∙◌, subst}
use mathlib.Core.Bool.{◌&&◌}
use mathlib.Core.List.{List, [], ◌∷◌, ◌++◌}
use Prim.Native.Nat.{ℕ, zero, suc, ◌+◌, ◌*◌, ◌≤◌}
use native.Mathlib.Omega.{arith}
use lib.Dec.{ltb}
use lib.ListN.{length, get_or, drop, length-append}
use lib.Seq.{drop-set-lt}
use Rattle.t800.specs.declared.Band.{Band}
use Rattle.t800.specs.declared.Bio.{Bio}
use Rattle.t800.specs.TagTree.{set_value}
use Rattle.t800.specs.State.{Block, blocks_in, band_nodes, band_length, blocks_from, blocks_at, blocks, end_of}
use Rattle.t800.specs.WriteHeader.{is_new, set_new_blocks, code_blocks}
use Rattle.t800_laws.proofs.Laws.Layout.{band_length_lem, end_after}
use Rattle.t800_laws.proofs.Laws.SetLeaf.{length-set_value}
use Rattle.t800_laws.proofs.Laws.Tests.{either}
use Rattle.bio_bytes.specs.Writing.{output, FreeBitsClear}
use Rattle.t800_laws.proofs.Laws.Lists.{length_from}
use Rattle.tgt_write.specs.Coding.{put_coded}
use Rattle.t2_write_lengths.specs.Blocks.{coded}
use Rattle.t2_write_block.specs.Runs.{Running, code_next, code_all, AllFit}
use Rattle.t2_write_new_rows.specs.Setting.{set_next, set_all}
use Rattle.t2_write_block.proofs.Laws.Rows.{all_still_fit}
use Rattle.t2_write_bands.specs.Bands.{new_set, code_band, code_bands}
use Rattle.t2_write_new_blocks.proofs.Laws.BandRows.{set_append}
use Rattle.t2_write_bands.proofs.Laws.BandRows.{code_append, all_clear, still_fit_after, first_fit}
use Rattle.tcd_places.specs.Places.{band_blocks}
use Rattle.tcd_places.proofs.Laws.Before.{AllBlocks, Before, From, all_append}
use Rattle.tcd_places.proofs.Laws.BandBlocks.{blocks-from, leaf_before, band_before}
use Rattle.t2_write_bands.proofs.Laws.TwoBands.{BlockAfter, next_length, code_then_set}
use Rattle.t2_write_new_blocks.proofs.Laws.AllBlocks.{set_is_blocks}
use Rattle.t2_write_bands.proofs.Laws.AllBlocks.{code_is_blocks}

-- ---- setting leaves the words from q on, and the length

abbrev InclBefore : ℕ → Block → Type 0
InclBefore q k = Before q k.incl_tree k.path

value_keeps : (q base : ℕ) (ns : List ℕ) (v : ℕ) (ws : List ℕ) → Before q base ns → drop q (set_value base ns v ws) ≡ drop q ws
unfolding set_value
value_keeps q base [] v ws h = refl
value_keeps q base (n ∷ ns) v ws h =
    either (λ (vs : List ℕ). drop q vs ≡ drop q ws) (ltb v (get_or ws (base + 3 * n) 0)) _ _
    (value_keeps q base ns v _ h.1 ∙ drop-set-lt q ws (base + 3 * n) v (omega (arith, h.0))) refl

set_keeps : (q t : ℕ) (cs : List ℕ) (ks : List Block) (i : ℕ) (ws : List ℕ) → AllBlocks (InclBefore q) ks
    → drop q (set_all t cs ks i ws) ≡ drop q ws
unfolding set_all set_next
set_keeps q t cs [] i ws b = refl
set_keeps q t cs (k ∷ ks) i ws b =
    set_keeps q t cs ks (i + 1) _ b.1
    ∙ either (λ (vs : List ℕ). drop q vs ≡ drop q ws) (is_new ws k && ltb 0 (get_or cs i 0)) _ _
    (value_keeps q k.incl_tree k.path t ws b.0) refl

set_length : (t : ℕ) (cs : List ℕ) (ks : List Block) (i : ℕ) (ws : List ℕ) → length (set_all t cs ks i ws) ≡ length ws
unfolding set_all set_next
set_length t cs [] i ws = refl
set_length t cs (k ∷ ks) i ws =
    set_length t cs ks (i + 1) _
    ∙ either (λ (vs : List ℕ). length vs ≡ length ws) (is_new ws k && ltb 0 (get_or cs i 0)) _ _
    (length-set_value k.incl_tree k.path t ws) refl

-- ---- coding leaves the length, and moves on by one block each

code_length : (t : ℕ) (cs ls ms : List ℕ) (ks : List Block) (s : Running) → length (code_all t cs ls ms ks s).words ≡ length s.words
unfolding code_all
code_length t cs ls ms [] s = refl
code_length t cs ls ms (k ∷ ks) s = code_length t cs ls ms ks (code_next t cs ls ms k s) ∙ next_length t cs ls ms k s

coded-blocks : (t : ℕ) (cs ls ms : List ℕ) (ks : List Block) (s : Running) → (code_all t cs ls ms ks s).block ≡ s.block + length ks
unfolding code_all code_next
coded-blocks t cs ls ms [] s = omega arith
coded-blocks t cs ls ms (k ∷ ks) s = let r = coded-blocks t cs ls ms ks (code_next t cs ls ms k s) in omega arith

-- ---- where a band's blocks stand

module _ (at : ℕ) (b : Band) where
  -- the inclusion tree lies before the blocks
  trees_before : (n i : ℕ) → i + n ≤ blocks_in b → AllBlocks (InclBefore (at + 6 * band_nodes b)) (blocks_from at b n i)
  unfolding blocks_from band_nodes blocks_in
  trees_before zero i h = tt
  trees_before (suc n) i h = (
    leaf_before (at + 6 * band_nodes b) at b.across b.down i (omega arith) (omega arith),
    trees_before n (i + 1) (omega arith),
  )

  blocks-after : (q n i : ℕ) → q ≤ at → AllBlocks (BlockAfter q) (blocks_from at b n i)
  unfolding blocks_from
  blocks-after q zero i h = tt
  blocks-after q (suc n) i h = (record { incl = h; own = omega arith }, blocks-after q n (i + 1) h)

all_after : (q at : ℕ) (bs : List Band) → q ≤ at → AllBlocks (BlockAfter q) (blocks_at at bs)
unfolding blocks_at
all_after q at [] h = tt
all_after q at (b ∷ bs) h =
    all_append (BlockAfter q) (band_blocks at b) (blocks_at (at + band_length b) bs) (blocks-after at b q (blocks_in b) 0 h)
    (all_after q (at + band_length b) bs (omega arith))

all_from : (q at : ℕ) (bs : List Band) → q ≤ at → AllBlocks (From q) (blocks_at at bs)
unfolding blocks_at
all_from q at [] h = tt
all_from q at (b ∷ bs) h =
    all_append (From q) (band_blocks at b) (blocks_at (at + band_length b) bs) (blocks-from q at b (blocks_in b) 0 (omega arith))
    (all_from q (at + band_length b) bs (omega arith))

-- ---- one band

module _ (at : ℕ) (b : Band) (t : ℕ) (cs : List ℕ) where
  -- its new blocks set, its blocks and those after them can be coded as before
  set_still_fit : (ls ms : List ℕ) (ks : List Block) (ws : List ℕ) (j i p : ℕ) → AllBlocks (From (at + 6 * band_nodes b)) ks
      → AllFit cs ls ms ws ks i p → AllFit cs ls ms (set_all t cs (band_blocks at b) j ws) ks i p
  set_still_fit ls ms ks ws j i p a f =
      all_still_fit (at + 6 * band_nodes b) cs ls ms _ ws ks i p
      (set_keeps (at + 6 * band_nodes b) t cs (band_blocks at b) j ws (trees_before at b (blocks_in b) 0 (omega arith))) a f

  pub band_fits : (ls ms ws : List ℕ) (j i p : ℕ) → AllFit cs ls ms ws (band_blocks at b) i p
      → AllFit cs ls ms (set_all t cs (band_blocks at b) j ws) (band_blocks at b) i p
  band_fits ls ms ws j i p f =
      set_still_fit ls ms (band_blocks at b) ws j i p (blocks-from (at + 6 * band_nodes b) at b (blocks_in b) 0 (omega arith)) f

  module _ (ls ms : List ℕ) (bs : List Band) (s : Running)
      (f : AllFit cs ls ms s.words (blocks_at at (b ∷ bs)) s.block s.pass) where
    pub first_band_fits : AllFit cs ls ms s.words (band_blocks at b) s.block s.pass
    unfolding blocks_at
    first_band_fits = first_fit cs ls ms s.words (band_blocks at b) (blocks_at (at + band_length b) bs) s.block s.pass f

    pub other_bands_fit : (next : ℕ) (u : Running) → next ≡ at + band_length b → u ≡ code_band t cs ls ms at b s
        → AllFit cs ls ms u.words (blocks_at next bs) u.block u.pass
    unfolding blocks_at code_band
    other_bands_fit next u n e =
        let l = band_length_lem b in
        let q : ℕ = at + band_length b in
        let js : List Block = band_blocks at b in
        let ks : List Block = blocks_at q bs in
        let six : ℕ = at + 6 * band_nodes b in
        let a : AllBlocks (From six) (js ++ ks) =
        all_append (From six) js ks (blocks-from six at b (blocks_in b) 0 (omega arith)) (all_from six q bs (omega arith)) in
        subst (λ (z : ℕ). AllFit cs ls ms u.words (blocks_at z bs) u.block u.pass) (sym n)
        (subst (λ (v : Running). AllFit cs ls ms v.words ks v.block v.pass) (sym e)
        (still_fit_after q t cs ls ms js ks (new_set t cs js s.block s) (band_before at b) (all_from q q bs (omega arith))
        (set_still_fit ls ms (js ++ ks) s.words s.block s.block s.pass a f)))

-- ---- all bands

pub blocks-of_first : (at : ℕ) (b : Band) (bs : List Band) → length (blocks_at at (b ∷ bs))
    ≡ blocks_in b + length (blocks_at (at + band_length b) bs)
unfolding blocks_at
blocks-of_first at b bs = length-append (band_blocks at b) (blocks_at (at + band_length b) bs)
    ∙ ap (λ (n : ℕ). n + length (blocks_at (at + band_length b) bs)) (length_from at b (blocks_in b) 0)

pub band_clear : (t : ℕ) (cs ls ms : List ℕ) (at : ℕ) (b : Band) (s u : Running) → u ≡ code_band t cs ls ms at b s
    → FreeBitsClear s.output.bio → FreeBitsClear u.output.bio
unfolding code_band
band_clear t cs ls ms at b s u e h =
    subst (λ (v : Running). FreeBitsClear v.output.bio) (sym e)
    (all_clear t cs ls ms (band_blocks at b) (new_set t cs (band_blocks at b) s.block s) h)

pub band_blocks_lem : (t : ℕ) (cs ls ms : List ℕ) (at : ℕ) (b : Band) (s u : Running) → u ≡ code_band t cs ls ms at b s → u.block
    ≡ s.block + blocks_in b
unfolding code_band
band_blocks_lem t cs ls ms at b s u e =
    ap (λ (v : Running). v.block) e ∙ coded-blocks t cs ls ms (band_blocks at b) (new_set t cs (band_blocks at b) s.block s)
    ∙ ap (λ (n : ℕ). s.block + n) (length_from at b (blocks_in b) 0)

pub bands-turn : (t : ℕ) (cs ls ms : List ℕ) (at : ℕ) (b : Band) (l bs : List Band) (next : ℕ) (s u : Running) → l ≡ b ∷ bs → next
    ≡ at + band_length b → u ≡ code_band t cs ls ms at b s → code_bands t cs ls ms next bs u ≡ code_bands t cs ls ms at l s
unfolding code_bands
bands-turn t cs ls ms at b l bs next s u p n e = (λ i. code_bands t cs ls ms (n i) bs (e i))
    ∙ sym (ap (λ (z : List Band). code_bands t cs ls ms at z s) p)

pub bands-are_blocks : (t : ℕ) (cs ls ms : List ℕ) (at : ℕ) (bs : List Band) (s : Running) → end_of at bs ≤ length s.words
    → code_bands t cs ls ms at bs s ≡ code_all t cs ls ms (blocks_at at bs) (new_set t cs (blocks_at at bs) s.block s)
unfolding code_bands code_band blocks_at code_all set_all end_of
bands-are_blocks t cs ls ms at [] s h = refl
bands-are_blocks t cs ls ms at (b ∷ bs) s h =
    let q : ℕ = at + band_length b in
    let js : List Block = band_blocks at b in
    let ks : List Block = blocks_at q bs in
    let v : Running = new_set t cs js s.block s in
    let u : Running = code_all t cs ls ms js v in
    let n : length v.words ≡ length s.words = set_length t cs js s.block s.words in
    let m : length u.words ≡ length v.words = code_length t cs ls ms js v in
    let i : ℕ = s.block + length js in
    bands-are_blocks t cs ls ms q bs u (omega arith)
    ∙ ap (λ (z : ℕ). code_all t cs ls ms ks (new_set t cs ks z u)) (coded-blocks t cs ls ms js v)
    ∙ ap (code_all t cs ls ms ks)
    (sym (code_then_set q t i cs ls ms js ks v (omega (arith, end_after q bs)) (band_before at b) (all_after q q bs (omega arith))))
    ∙ sym (code_append t cs ls ms js ks (new_set t cs ks i v))
    ∙ ap (λ (ws : List ℕ). code_all t cs ls ms (js ++ ks)
    (record { words = ws; output = s.output; block = s.block; pass = s.pass }))
    (sym (set_append t cs js ks s.block s.words))

-- before the first block
abbrev pub from_start : List ℕ → List ℕ → Bio → Running
from_start ws bytes b = record { words = ws; output = output bytes b; block = 0; pass = 0 }

pub bands-coded : (t : ℕ) (cs ls ms ws bytes : List ℕ) (b : Bio) (bs : List Band) (s : Running) → s
    ≡ code_bands t cs ls ms 13 bs (from_start ws bytes b) → end_of 13 bs ≤ length ws → length (blocks bs) ≤ length cs
    → coded s.words s.output ≡ put_coded (output bytes b) (code_blocks t (blocks bs) cs ls ms (set_new_blocks t (blocks bs) cs ws))
unfolding blocks
bands-coded t cs ls ms ws bytes b bs s e h l =
    let ks : List Block = blocks_at 13 bs in
    ap (λ (u : Running). coded u.words u.output) (e ∙ bands-are_blocks t cs ls ms 13 bs (from_start ws bytes b) h)
    ∙ code_is_blocks t cs ls ms ks (new_set t cs ks 0 (from_start ws bytes b)) (omega arith)
    ∙ ap (λ (vs : List ℕ). put_coded (output bytes b) (code_blocks t ks cs ls ms vs)) (set_is_blocks t cs ks 0 ws (omega arith))
