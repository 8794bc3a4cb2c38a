-- A band skipped block by block, and bands one after another: what is left after one.
use mathlib.Core.Path.{◌≡◌, ap, subst}
use mathlib.Core.Logic.{◌≢◌}
use mathlib.Core.List.{List, [], ◌∷◌, ◌++◌}
use Prim.Native.Nat.{ℕ, suc, ◌+◌, ◌-◌, ◌*◌, ◌≤◌, ◌<◌}
use native.Mathlib.Omega.{arith}
use lib.ListN.{length, drop}
use Rattle.t800.specs.declared.Band.{Band}
use Rattle.t800.specs.PackedHeaders.{unpacked}
use Rattle.t800.specs.State.{Block, block_of, band_nodes, band_length, blocks_in, blocks_from, blocks_at}
use Rattle.t800_laws.proofs.Laws.Layout.{band_length_lem}
use Rattle.t800_laws.proofs.Laws.Lists.{length_from}
use Rattle.tcd_places.specs.Places.{band_blocks}
use Rattle.t2_skip_windows.specs.declared.InWindow.{InWindow}
use Rattle.t2_skip_windows.specs.Windows.{Somewhere, Skips, SkipsTo}
use Rattle.t2_skip_windows.proofs.Laws.Steps.{skips_turn, skips_stop, somewhere_turn, after_then}

-- ---- blocks

module _ (start : ℕ) (b : Band) where
  -- the blocks from block i on
  abbrev pub left : ℕ → List Block
  left i = blocks_from start b (blocks_in b - i) i

  pub all_left : left 0 ≡ band_blocks start b
  all_left = let e : blocks_in b - 0 ≡ blocks_in b = omega arith in ap (λ (n : ℕ). blocks_from start b n 0) e

  pub none_left : (i : ℕ) → blocks_in b ≤ i → left i ≡ []
  unfolding blocks_from
  none_left i l = let e : blocks_in b - i ≡ 0 = omega arith in ap (λ (n : ℕ). blocks_from start b n i) e

  next-left : (i : ℕ) → i < blocks_in b → left i ≡ block_of start b i ∷ left (i + 1)
  unfolding blocks_from
  next-left i l = let e : blocks_in b - i ≡ suc (blocks_in b - (i + 1)) = omega arith in ap (λ (n : ℕ). blocks_from start b n i) e

module _ (segments : List ℕ) (t block start : ℕ) (b : Band) (i : ℕ) (l : i < blocks_in b) (ws : List ℕ) (s : InWindow)
    (window vs : List ℕ) (o : InWindow)
    (one : SkipsTo segments t (block + i) (block_of start b i ∷ []) (start + 6 * band_nodes b + 4 * (i + 1)) ws s window vs o)
  where
    abbrev bytes : List ℕ
    bytes = (unpacked segments).bytes

    next : block + i + 1 ≡ block + (i + 1)
    next = omega arith

    pub blocks-on : o.run.refusal ≡ 0 → (us : List ℕ) (e : InWindow) → Skips bytes t (block + (i + 1)) (left start b (i + 1)) vs o us e
        → Skips bytes t (block + i) (left start b i) ws s us e
    blocks-on =
        skips_turn bytes t (block + i) (block + (i + 1)) (block_of start b i ∷ []) (left start b (i + 1)) (left start b i)
        (next-left start b i l) next ws s vs o one.skips

    pub blocks-stop : o.run.refusal ≢ 0 → Skips bytes t (block + i) (left start b i) ws s vs o
    blocks-stop =
        skips_stop bytes t (block + i) (block + (i + 1)) (block_of start b i ∷ []) (left start b (i + 1)) (left start b i)
        (next-left start b i l) next ws s vs o one.skips

    pub blocks-somewhere : o.run.refusal ≡ 0 → Somewhere (block + i) ws s → Somewhere (block + (i + 1)) vs o
    blocks-somewhere =
        somewhere_turn bytes t (block + i) (block + (i + 1)) (block_of start b i ∷ []) (left start b (i + 1)) (left start b i)
        (next-left start b i l) next ws s vs o one.skips

    pub blocks-after : (m : ℕ) (ws₀ : List ℕ) → i < m
        → drop (start + 6 * band_nodes b + 4 * i) ws ≡ drop (start + 6 * band_nodes b + 4 * i) ws₀
        → drop (start + 6 * band_nodes b + 4 * m) vs ≡ drop (start + 6 * band_nodes b + 4 * m) ws₀
    blocks-after m ws₀ k e =
        after_then (start + 6 * band_nodes b + 4 * i) (start + 6 * band_nodes b + 4 * (i + 1)) (start + 6 * band_nodes b + 4 * m) ws₀ ws vs
        (omega arith) (omega arith) e one.after

    pub blocks_end : (ws₀ : List ℕ) → drop (start + 6 * band_nodes b + 4 * i) ws ≡ drop (start + 6 * band_nodes b + 4 * i) ws₀
        → drop (start + band_length b) vs ≡ drop (start + band_length b) ws₀
    blocks_end ws₀ e =
        let q : start + 6 * band_nodes b + 4 * blocks_in b ≡ start + band_length b = omega (arith, band_length_lem b) in
        subst (λ (k : ℕ). drop k vs ≡ drop k ws₀) q (blocks-after (blocks_in b) ws₀ l e)

-- ---- bands

module _ (bytes : List ℕ) (t start block : ℕ) (l : List Band) (b : Band) (bs : List Band) (are : l ≡ b ∷ bs) (ws : List ℕ) (s : InWindow)
    (vs : List ℕ) (o : InWindow) (one : Skips bytes t block (band_blocks start b) ws s vs o)
  where
    abbrev later : List Block
    later = blocks_at (start + band_length b) bs

    band_first : blocks_at start l ≡ band_blocks start b ++ later
    unfolding blocks_at
    band_first = ap (blocks_at start) are

    band_next : block + length (band_blocks start b) ≡ block + blocks_in b
    band_next = ap (λ (n : ℕ). block + n) (length_from start b (blocks_in b) 0)

    pub bands-on : o.run.refusal ≡ 0 → (us : List ℕ) (e : InWindow) → Skips bytes t (block + blocks_in b) later vs o us e
        → Skips bytes t block (blocks_at start l) ws s us e
    bands-on =
        skips_turn bytes t block (block + blocks_in b) (band_blocks start b) later (blocks_at start l) band_first band_next ws s vs o one

    pub bands-stop : o.run.refusal ≢ 0 → Skips bytes t block (blocks_at start l) ws s vs o
    bands-stop =
        skips_stop bytes t block (block + blocks_in b) (band_blocks start b) later (blocks_at start l) band_first band_next ws s vs o one

    pub bands-somewhere : o.run.refusal ≡ 0 → Somewhere block ws s → Somewhere (block + blocks_in b) vs o
    bands-somewhere =
        somewhere_turn bytes t block (block + blocks_in b) (band_blocks start b) later (blocks_at start l) band_first band_next ws s vs o one
