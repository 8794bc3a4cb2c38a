-- The next block, after the window was filled where that was needed.
use mathlib.Core.Path.{◌≡◌, refl, ap, ◌∙◌}
use mathlib.Core.List.{List, [], ◌∷◌}
use Prim.Native.Nat.{ℕ, ◌+◌, ◌*◌, ◌≤◌, ◌<◌}
use native.Mathlib.Omega.{arith}
use lib.ListN.{length, drop}
use Rattle.t800.specs.declared.Band.{Band}
use Rattle.t800.specs.PackedHeaders.{unpacked}
use Rattle.t800.specs.State.{Block, block_of, blocks_in, blocks_from, band_nodes}
use Rattle.t800_laws.proofs.Laws.Layout.{band_length_lem}
use Rattle.t800_laws.proofs.Laws.Paths.{short_path}
use Rattle.tcd_places.specs.Places.{BandIn}
use Rattle.tcd_places.proofs.Laws.Before.{BlockBefore}
use Rattle.tcd_places.proofs.Laws.BandBlocks.{tree_before, from_before}
use Rattle.t2_read_segments.specs.declared.Run.{Run}
use Rattle.t2_read_segments.specs.Reading.{Reading, reading, BitsIn}
use Rattle.t2_read_block_parts.specs.Blocks.{next_block}
use Rattle.t2_read_block_parts.proofs.Laws.Kept.{block_keeps}
use Rattle.t2_skip_windows.specs.declared.InWindow.{InWindow}
use Rattle.t2_skip_windows.specs.Windows.{Ahead, WindowOn, Somewhere, SkipsTo}
use Rattle.t2_skip_windows.proofs.Laws.OneBlock.{InPlace}
use Rattle.t2_skip_windows.proofs.Laws.Steps.{somewhere_ahead, skips_ahead, block_skips}

-- ---- where block i of a band stands

module _ (size start : ℕ) (b : Band) (h : BandIn size start b) (i : ℕ) (l : i < blocks_in b) where
  abbrev at : ℕ
  at = start + 6 * band_nodes b + 4 * i

  inside : at + 3 < size
  inside = omega (arith, h.inside, band_length_lem b)

  in_place : InPlace size (block_of start b i)
  unfolding band_nodes blocks_in
  in_place = record {
    short = short_path b.across b.down i;
    apart = record { incl = tree_before at start b.across b.down i l (omega arith); inside = inside };
    zero = tree_before at (start + 3 * band_nodes b) b.across b.down i l (omega arith);
  }

  before_next : BlockBefore (start + 6 * band_nodes b + 4 * (i + 1)) (block_of start b i)
  unfolding blocks_from
  before_next = (from_before (start + 6 * band_nodes b + 4 * (i + 1)) start b 1 i (omega arith) (omega arith)).0

-- ---- skipped from s, which is f after the window was filled

module _ (segments window ws vs : List ℕ) (s f : InWindow) (o : Run) (t block start : ℕ) (b : Band) (i : ℕ)
    (on : WindowOn segments window f.base) (ahead : Ahead s f) (somewhere : Somewhere (block + i) ws s)
    (inn : BandIn (length ws) start b) (below : t < 65535) (few : block + blocks_in b ≤ 12288) (one : i < blocks_in b)
  where
    ready : Somewhere (block + i) ws f
    ready = somewhere_ahead (block + i) ws s f ahead somewhere

    pub bits_in : BitsIn window f.run.bio
    bits_in = let st = ready.stands in record { few = omega (arith, st.few, st.ct); place = omega (arith, ahead.enough) }

    pub goes_on : f.run.refusal ≡ 0
    goes_on = ready.stands.goes_on

    pub next_skips : reading vs [] [] o ≡ next_block window t (block + i) (block_of start b i) (reading ws [] [] f.run)
        → SkipsTo segments t (block + i) (block_of start b i ∷ []) (start + 6 * band_nodes b + 4 * (i + 1)) ws s window vs
        (record { run = o; base = f.base })
    next_skips is =
        let e : InWindow = record { run = o; base = f.base } in
        let k : Block = block_of start b i in
        let q : ℕ = start + 6 * band_nodes b + 4 * (i + 1) in
        let bytes : List ℕ = (unpacked segments).bytes in
        record {
          window_on = on;
          skips = skips_ahead bytes t (block + i) (k ∷ []) ws s f vs e ahead
              (block_skips bytes window ws vs f o t (block + i) k on.holds ahead.enough (in_place (length ws) start b inn i one) below
              (omega arith) is);
          after = ap (λ (a : Reading). drop q a.words) is
              ∙ (block_keeps window q ws k (before_next (length ws) start b inn i one) t (block + i) (reading ws [] [] f.run)
              (record { bits = bits_in; after = refl })).after;
        }
