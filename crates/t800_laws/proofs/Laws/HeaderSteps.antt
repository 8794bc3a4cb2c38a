-- What every step of reading a header keeps, the whole header keeps. No step changes a state's length or its first thirteen words.
use mathlib.Core.Path.{◌≡◌, refl}
use mathlib.Core.Bool.{◌&&◌}
use mathlib.Core.List.{List, [], ◌∷◌, reverse}
use Prim.Native.Nat.{ℕ, zero, suc, ◌+◌, ◌-◌, ◌*◌, ◌^◌, ◌≤◌, ◌<◌}
use native.Mathlib.Nat.{lt_of_lt_of_le}
use native.Mathlib.Omega.{arith}
use lib.ListN.{length}
use lib.Pow.{pow_mono}
use lib.Dec.{ltb, leb, eqb}
use borrow.Author.Tests.{ltb-false}
use Rattle.t800.specs.declared.Bio.{Bio}
use Rattle.t800.specs.Refusals.{width_refusal, header_end_refusal, records_refusal}
use Rattle.t800.specs.Bits.{get_bit, read_bits, ends_in_ff}
use Rattle.t800.specs.TagTree.{PathRead, value, read_path}
use Rattle.t800.specs.Segments.{width}
use Rattle.t800.specs.State.{Block, not_yet_planes, blocks, bands, layer, length_bits}
use Rattle.t800.specs.declared.SegmentRecord.{SegmentRecord}
use Rattle.t800.specs.Reports.{BlockReport, body_bytes}
use Rattle.t800.specs.WriteHeader.{is_new}
use Rattle.t800.specs.ReadHeader.{HeaderRead, refused, moved_to, with_report, with_record, passes_taken, read_segment, read_segments}
use Rattle.t800.specs.ReadHeader.{read_zero_planes_from, read_zero_planes, read_included, read_new_block, read_old_block, read_block, read_blocks}
use Rattle.t800.specs.ReadHeader.{read_header}
use Rattle.t800_laws.proofs.Laws.Tests.{either, either-by}
use Rattle.t800_laws.proofs.Laws.ReadValues.{read_bits-below}
use Rattle.t800_laws.proofs.Laws.Layout.{inclusion, zero_planes, From, AllFrom}
use Rattle.t800_laws.proofs.Laws.Kept.{Kept, blocks-from, from_root, kept, kept_then, two_stored, path_read_lem}

-- ---- zero planes

pub thresholds_raised : (m : ℕ) (src : List ℕ) (k : Block) (f t : ℕ) (ws : List ℕ) (b : Bio) → From m k
    → Kept m ws (read_zero_planes_from src k f t ws b).words
unfolding read_zero_planes_from
thresholds_raised m src k zero t ws b h = kept m
thresholds_raised m src k (suc f) t ws b h =
    let r : PathRead = read_path src k.zero_tree t (reverse k.path) 0 ws b in
    let g = path_read_lem m src k.zero_tree t (reverse k.path) 0 ws b (from_root m zero_planes k h) in
    either (λ (p : PathRead). Kept m ws p.words) (ltb (value r.words (k.zero_tree + 3 * k.leaf)) t) _ _ g
    (kept_then m g (thresholds_raised m src k f (t + 1) r.words r.bio h))

planes_read : (m : ℕ) (src : List ℕ) (k : Block) (r : HeaderRead) → From m k → Kept m r.words (read_zero_planes src k r).words
unfolding read_zero_planes
planes_read m src k r h =
    either (λ (p : PathRead). Kept m r.words p.words) (is_new r.words k) _ _
    (thresholds_raised m src k (not_yet_planes + 2) 0 r.words r.bio h) (kept m)

-- ---- segments, blocks, the header

up_to_32_bits : (src : List ℕ) (n : ℕ) (b : Bio) → n ≤ 32 → (read_bits src n b).value < 2 ^ 32
up_to_32_bits src n b h = lt_of_lt_of_le (read_bits-below src n b) (pow_mono h)

module _ (src : List ℕ) (room : ℕ) (P : HeaderRead → Type 0) (wide : P (refused width_refusal)) (full : P (refused records_refusal))
    (ends : P (refused header_end_refusal))
    (moved : (ws : List ℕ) (b : Bio) (r : HeaderRead) → Kept 13 r.words ws → P r → P (moved_to ws b r))
    (reported : (a : BlockReport) (r : HeaderRead) → P r → P (with_report a r))
    (recorded : (a : SegmentRecord) (r : HeaderRead) → a.start ≡ body_bytes r.records → a.bytes < 2 ^ 32
    → P r → P (with_record a r)) where
  segment-keeps : (i : ℕ) (k : Block) (n : ℕ) (r : HeaderRead) → From 13 k → P r → P (read_segment src room i k n r)
  unfolding read_segment
  segment-keeps i k n r p h =
      let own = p.place in
      let w : ℕ = width (length_bits r.words k.at) n in
      either-by P (ltb 32 w) _ _ (λ t. wide)
      (λ f. either P (leb room (length r.records)) _ _ full
      (recorded _ _ refl (up_to_32_bits src w r.bio (ltb-false 32 w f))
      (moved _ _ r (two_stored 13 r.words (k.at + 2) (k.at + 3) _ _ (omega arith) (omega arith)) h)))

  segments_keep : (i : ℕ) (k : Block) (f left : ℕ) (r : HeaderRead) → From 13 k → P r → P (read_segments src room i k f left r)
  unfolding read_segments
  segments_keep i k zero left r p h = h
  segments_keep i k (suc f) left r p h =
      let n : ℕ = passes_taken r.words k left in
      let a = segment-keeps i k n r p h in
      let s : HeaderRead = read_segment src room i k n r in
      either P (eqb s.refusal 0 && ltb 0 (left - n)) _ _ (segments_keep i k f (left - n) s p a) a

  included_keeps : (i : ℕ) (k : Block) (r : HeaderRead) → From 13 k → P r → P (read_included src room i k r)
  unfolding read_included
  included_keeps i k r p h =
      let own = p.place in
      let vs : List ℕ = (read_zero_planes src k r).words in
      segments_keep i k _ _ _ p
      (reported _ _
      (moved _ _ r (kept_then 13 (planes_read 13 src k r p) (two_stored 13 vs k.at (k.at + 1) _ _ own (omega arith))) h))

  new_keeps : (t i : ℕ) (k : Block) (r : HeaderRead) → From 13 k → P r → P (read_new_block src room t i k r)
  unfolding read_new_block
  new_keeps t i k r p h =
      let w : PathRead = read_path src k.incl_tree (t + 1) (reverse k.path) 0 r.words r.bio in
      let m : P (moved_to w.words w.bio r) =
      moved w.words w.bio r
      (path_read_lem 13 src k.incl_tree (t + 1) (reverse k.path) 0 r.words r.bio (from_root 13 inclusion k p)) h in
      either P (ltb (value w.words (k.incl_tree + 3 * k.leaf)) (t + 1)) _ _ (included_keeps i k _ p m) (reported _ _ m)

  old_keeps : (i : ℕ) (k : Block) (r : HeaderRead) → From 13 k → P r → P (read_old_block src room i k r)
  unfolding read_old_block
  old_keeps i k r p h =
      let m : P (moved_to r.words (get_bit src r.bio).bio r) = moved r.words _ r (kept 13) h in
      either P (eqb (get_bit src r.bio).value 0) _ _ (reported _ _ m) (included_keeps i k _ p m)

  block_keeps : (t i : ℕ) (k : Block) (r : HeaderRead) → From 13 k → P r → P (read_block src room t i k r)
  unfolding read_block
  block_keeps t i k r p h = either P (is_new r.words k) _ _ (new_keeps t i k r p h) (old_keeps i k r p h)

  blocks-keep : (t i : ℕ) (ks : List Block) (r : HeaderRead) → AllFrom 13 ks → P r → P (read_blocks src room t i ks r)
  unfolding read_blocks
  blocks-keep t i [] r f h = h
  blocks-keep t i (k ∷ ks) r f h =
      let a = block_keeps t i k r f.0 h in
      let s : HeaderRead = read_block src room t i k r in
      either P (eqb s.refusal 0) _ _ (blocks-keep t (i + 1) ks s f.1 a) a

  pub header_keeps : (ws : List ℕ) (b : Bio) → P (record { refusal = 0; words = ws; bio = b; reports = []; records = [] })
      → P (read_header src room ws b)
  unfolding read_header
  header_keeps ws b h =
      let r : HeaderRead = record { refusal = 0; words = ws; bio = b; reports = []; records = [] } in
      let s : HeaderRead = read_blocks src room (layer ws) 0 (blocks (bands ws)) r in
      either P (eqb s.refusal 0 && ends_in_ff src s.bio) _ _ ends
      (blocks-keep (layer ws) 0 (blocks (bands ws)) r (blocks-from (bands ws)) h)
