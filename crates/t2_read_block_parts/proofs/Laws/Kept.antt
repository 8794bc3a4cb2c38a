-- What reading a block leaves alone: the words after it, that at most eight bits are held, and that the place is at most one after the
-- input's end.
use mathlib.Core.Path.{◌≡◌, refl, sym, ◌∙◌, subst}
use mathlib.Core.List.{List, [], ◌∷◌, reverse}
use Prim.Native.Nat.{ℕ, zero, suc, ◌+◌, ◌*◌, ◌≤◌}
use native.Mathlib.Omega.{arith}
use lib.Dec.{eqb, ltb, leb}
use lib.ListN.{drop}
use lib.Seq.{drop-set-lt}
use Rattle.t800.specs.declared.Bio.{Bio}
use Rattle.t800.specs.Bits.{get_bit, read_bits}
use Rattle.t800.specs.PassCount.{read_passes}
use Rattle.t800.specs.TagTree.{PathRead, value, read_path}
use Rattle.t800.specs.Segments.{width}
use Rattle.t800.specs.State.{Block, not_yet_planes, length_bits}
use Rattle.t800.specs.WriteHeader.{is_new}
use Rattle.t800.specs.ReadHeader.{passes_taken, read_zero_planes_from}
use Rattle.t800_laws.proofs.Laws.Tests.{either}
use Rattle.bio_read.proofs.Laws.ReadChunks.{get_bit-ct, get_bit-place, read_bits-ct, read_bits-place}
use Rattle.tgt_read.specs.Reading.{ValueAfter}
use Rattle.tgt_read.proofs.Laws.Reading.{read_path-ct, read_path-place, raising_ct, raising_place}
use Rattle.t2_read_codes.specs.CommaCode.{ones_limit, read_comma_limited}
use Rattle.t800_laws.proofs.Laws.ReadValues.{passes_between}
use Rattle.t2_read_codes.proofs.Laws.PassCount.{passes_ct, passes_place}
use Rattle.t2_read_codes.proofs.Laws.CommaCode.{ones_ct, ones_place}
use Rattle.t2_read_segments.specs.Reading.{Reading, stopped, next_segment, next_segments}
use Rattle.t2_read_block_parts.specs.Blocks.{passes_read, next_first, next_again, next_new}
use Rattle.t2_read_segments.specs.Reading.{BitsIn}
use Rattle.t2_read_block_parts.specs.Blocks.{next_old, next_block, next_blocks}
use Rattle.tcd_places.proofs.Laws.Before.{AllBlocks, Before, BlockBefore}

-- ---- trees

pub path_keeps : (src : List ℕ) (q base t : ℕ) (ns : List ℕ) (l : ℕ) (ws : List ℕ) (b : Bio) → Before q base ns
    → drop q (read_path src base t ns l ws b).words ≡ drop q ws
unfolding read_path
path_keeps src q base t [] l ws b h = refl
path_keeps src q base t (n ∷ ns) l ws b h =
    path_keeps src q base t ns _ _ _ h.1 ∙ drop-set-lt q _ (base + 3 * n + 1) _ (omega (arith, h.0))
    ∙ drop-set-lt q ws (base + 3 * n) _ (omega (arith, h.0))

pub raising_keeps : (src : List ℕ) (q : ℕ) (k : Block) (f t : ℕ) (ws : List ℕ) (b : Bio)
    → Before q k.zero_tree (reverse k.path) → drop q (read_zero_planes_from src k f t ws b).words ≡ drop q ws
unfolding read_zero_planes_from
raising_keeps src q k zero t ws b h = refl
raising_keeps src q k (suc f) t ws b h =
    let r = read_path src k.zero_tree t (reverse k.path) 0 ws b in
    let g = path_keeps src q k.zero_tree t (reverse k.path) 0 ws b h in
    either (λ (p : PathRead). drop q p.words ≡ drop q ws) (ltb (value r.words (k.zero_tree + 3 * k.leaf)) t) _ _ g
    (raising_keeps src q k f (t + 1) r.words r.bio h ∙ g)

-- ---- pass count and increment

pub passes_keep : (src : List ℕ) (q at before bits : ℕ) (ws : List ℕ) (b : Bio) → at + 2 ≤ q
    → drop q (passes_read src at before bits ws b).words ≡ drop q ws
unfolding passes_read
passes_keep src q at before bits ws b h = drop-set-lt q _ (at + 1) _ (omega arith) ∙ drop-set-lt q ws at _ (omega arith)

pub record Passes (at : ℕ) (ws : List ℕ) (c : ValueAfter) : Type 0 where
  pub few : c.bio.ct ≤ 8
  pub some : 1 ≤ c.value
  pub most : c.value ≤ 164
  pub after : drop (at + 2) c.words ≡ drop (at + 2) ws

pub passes_are : (src : List ℕ) (at before bits : ℕ) (ws : List ℕ) (b : Bio) (c : ValueAfter) → c
    ≡ passes_read src at before bits ws b → b.ct ≤ 8 → Passes at ws c
unfolding passes_read read_comma_limited
passes_are src at before bits ws b c e h =
    let n = read_passes src b in
    let v = passes_between src b in
    subst (Passes at ws) (sym e)
    record {
      few = ones_ct src (ones_limit src) 0 n.bio (passes_ct src b h);
      some = v.0;
      most = v.1;
      after = passes_keep src (at + 2) at before bits ws b (omega arith);
    }

-- ---- the bits

module _ (src : List ℕ) where
  bit_in : (b : Bio) → BitsIn src b → BitsIn src (get_bit src b).bio
  bit_in b h = record { few = get_bit-ct src b h.few; place = get_bit-place src b h.place }

  number_in : (n : ℕ) (b : Bio) → BitsIn src b → BitsIn src (read_bits src n b).bio
  number_in n b h = record { few = read_bits-ct src n b h.few; place = read_bits-place src n b h.place }

  path_in : (base t : ℕ) (ns : List ℕ) (l : ℕ) (ws : List ℕ) (b : Bio) → BitsIn src b → BitsIn src (read_path src base t ns l ws b).bio
  path_in base t ns l ws b h =
      record { few = read_path-ct src base t ns l ws b h.few; place = read_path-place src base t ns l ws b h.place }

  raising_in : (k : Block) (f t : ℕ) (ws : List ℕ) (b : Bio) → BitsIn src b → BitsIn src (read_zero_planes_from src k f t ws b).bio
  raising_in k f t ws b h = record { few = raising_ct src k f t ws b h.few; place = raising_place src k f t ws b h.place }

  passes_in_lem : (at before bits : ℕ) (ws : List ℕ) (b : Bio) → BitsIn src b → BitsIn src (passes_read src at before bits ws b).bio
  unfolding passes_read read_comma_limited
  passes_in_lem at before bits ws b h =
      let n = read_passes src b in
      record {
        few = ones_ct src (ones_limit src) 0 n.bio (passes_ct src b h.few);
        place = ones_place src (ones_limit src) 0 n.bio (passes_place src b h.place);
      }

-- ---- a block, and several

-- the words from q on are vs
pub record Keeps (src : List ℕ) (q : ℕ) (vs : List ℕ) (a : Reading) : Type 0 where
  pub bits : BitsIn src a.bio
  pub after : drop q a.words ≡ drop q vs

module _ (src : List ℕ) (q : ℕ) (vs : List ℕ) where
  segment-keeps : (i : ℕ) (k : Block) (n : ℕ) (a : Reading) → k.at + 4 ≤ q → Keeps src q vs a → Keeps src q vs (next_segment src i k n a)
  unfolding next_segment
  segment-keeps i k n a h p =
      let w : ℕ = width (length_bits a.words k.at) n in
      either (Keeps src q vs) (ltb 32 w) (stopped 9 a) _ (record { bits = p.bits; after = p.after })
      (either (Keeps src q vs) (leb a.room a.count) (stopped 13 a) _ (record { bits = p.bits; after = p.after })
      (record {
        bits = number_in src w a.bio p.bits;
        after = drop-set-lt q _ (k.at + 3) _ (omega arith)
            ∙ drop-set-lt q a.words (k.at + 2) _ (omega arith) ∙ p.after;
      }))

  segments_keep : (i : ℕ) (k : Block) (f left : ℕ) (a : Reading) → k.at + 4 ≤ q → Keeps src q vs a
      → Keeps src q vs (next_segments src i k f left a)
  unfolding next_segments
  segments_keep i k zero left a h p = p
  segments_keep i k (suc f) left a h p =
      let b = next_segment src i k (passes_taken a.words k left) a in
      let s = segment-keeps i k (passes_taken a.words k left) a h p in
      either (Keeps src q vs) (ltb 0 left) _ _ (either (Keeps src q vs) (eqb b.refusal 0) _ _ (segments_keep i k f _ _ h s) s) p

  module _ (k : Block) (before : BlockBefore q k) where
    first_keeps : (i : ℕ) (a : Reading) → Keeps src q vs a → Keeps src q vs (next_first src i k a)
    unfolding next_first
    first_keeps i a p =
        let z = read_zero_planes_from src k (not_yet_planes + 2) 0 a.words a.bio in
        segments_keep i k _ _ _ before.own
        (record {
          bits = passes_in_lem src k.at 0 3 z.words z.bio (raising_in src k (not_yet_planes + 2) 0 a.words a.bio p.bits);
          after = passes_keep src q k.at 0 3 z.words z.bio (omega (arith, before.own))
              ∙ raising_keeps src q k (not_yet_planes + 2) 0 a.words a.bio before.zero ∙ p.after;
        })

    again_keeps : (i : ℕ) (a : Reading) → Keeps src q vs a → Keeps src q vs (next_again src i k a)
    unfolding next_again
    again_keeps i a p =
        segments_keep i k _ _ _ before.own
        (record {
          bits = passes_in_lem src k.at _ _ a.words a.bio p.bits;
          after = passes_keep src q k.at _ _ a.words a.bio (omega (arith, before.own)) ∙ p.after;
        })

    pub block_keeps : (t i : ℕ) (a : Reading) → Keeps src q vs a → Keeps src q vs (next_block src t i k a)
    unfolding next_block next_new next_old
    block_keeps t i a p =
        let w = read_path src k.incl_tree (t + 1) (reverse k.path) 0 a.words a.bio in
        let b = get_bit src a.bio in
        let wb = path_in src k.incl_tree (t + 1) (reverse k.path) 0 a.words a.bio p.bits in
        let wk = path_keeps src q k.incl_tree (t + 1) (reverse k.path) 0 a.words a.bio before.incl ∙ p.after in
        either (Keeps src q vs) (is_new a.words k) _ _
        (either (Keeps src q vs) (ltb (value w.words (k.incl_tree + 3 * k.leaf)) (t + 1)) _ _
        (first_keeps i _ (record { bits = wb; after = wk })) (record { bits = wb; after = wk }))
        (either (Keeps src q vs) (eqb b.value 0) _ _ (record { bits = bit_in src a.bio p.bits; after = p.after })
        (again_keeps i _ (record { bits = bit_in src a.bio p.bits; after = p.after })))

  pub blocks-keep : (t i : ℕ) (ks : List Block) (a : Reading) → AllBlocks (BlockBefore q) ks → Keeps src q vs a
      → Keeps src q vs (next_blocks src t i ks a)
  unfolding next_blocks
  blocks-keep t i [] a h p = p
  blocks-keep t i (k ∷ ks) a h p =
      let b = block_keeps k h.0 t i a p in
      either (Keeps src q vs) (eqb (next_block src t i k a).refusal 0) _ _ (blocks-keep t (i + 1) ks _ h.1 b) b
