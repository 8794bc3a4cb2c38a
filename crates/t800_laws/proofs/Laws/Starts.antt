-- The records of a header that is read: each starts behind the bytes of those before it; how many they are, how many bytes they have, and
-- room for all of them.
use mathlib.Core.Path.{◌≡◌, refl, sym, ◌∙◌, subst}
use mathlib.Core.Logic.{◌≢◌}
use mathlib.Core.Bool.{◌&&◌}
use mathlib.Core.List.{List, [], ◌∷◌, ◌++◌, reverse}
use Prim.Native.Nat.{ℕ, zero, suc, ◌+◌, ◌-◌, ◌*◌, ◌^◌, ◌≤◌, ◌<◌}
use native.Mathlib.Nat.{le_of_eq, le_trans, zero-add, add-zero}
use native.Mathlib.Omega.{arith}
use lib.ListN.{length, length-append}
use lib.Dec.{ltb, leb, eqb}
use Rattle.t800.specs.declared.Bio.{Bio}
use Rattle.t800.specs.declared.SegmentRecord.{SegmentRecord}
use Rattle.t800.specs.Bits.{get_bit, ends_in_ff}
use Rattle.t800.specs.TagTree.{PathRead, value, read_path}
use Rattle.t800.specs.PassCount.{read_passes}
use Rattle.t800.specs.Segments.{width}
use Rattle.t800.specs.Reports.{body_bytes, room_for_all}
use Rattle.t800.specs.State.{Block, blocks, bands, layer, length_bits}
use Rattle.t800.specs.WriteHeader.{is_new}
use Rattle.t800.specs.ReadHeader.{HeaderRead, passes_taken, read_segment, read_segments, read_zero_planes, read_included, read_new_block}
use Rattle.t800.specs.ReadHeader.{read_old_block, read_block, read_blocks, read_header}
use Rattle.t800.specs.Starts.{StartsAreSums}
use Rattle.t800_laws.proofs.Laws.Tests.{either, if-gt}
use Rattle.t800_laws.proofs.Laws.HeaderSteps.{header_keeps}
use Rattle.t800_laws.proofs.Laws.ReadValues.{passes_between}

-- ---- sums of lengths

pub bytes_append : (rs ss : List SegmentRecord) → body_bytes (rs ++ ss) ≡ body_bytes rs + body_bytes ss
unfolding body_bytes
bytes_append [] ss = sym (zero-add (body_bytes ss))
bytes_append (r ∷ rs) ss = let e = bytes_append rs ss in omega arith

pub bytes_one : (a : SegmentRecord) → body_bytes (a ∷ []) ≡ a.bytes
unfolding body_bytes
bytes_one a = add-zero a.bytes

-- the first record starts behind n bytes, each other one behind those before it
unfoldable pub StartsFrom : (n : ℕ) → List SegmentRecord → Type 0
StartsFrom n [] = Unit {0}
StartsFrom n (r ∷ rs) = (r.start ≡ n) × StartsFrom (n + r.bytes) rs

pub starts_append : (n : ℕ) (rs ss : List SegmentRecord) → StartsFrom n rs → StartsFrom (n + body_bytes rs) ss → StartsFrom n (rs ++ ss)
unfolding StartsFrom body_bytes
starts_append n [] ss h g = subst (λ (m : ℕ). StartsFrom m ss) (add-zero n) g
starts_append n (r ∷ rs) ss h g =
    let e : n + (r.bytes + body_bytes rs) ≡ n + r.bytes + body_bytes rs = omega arith in
    (h.0, starts_append (n + r.bytes) rs ss h.1 (subst (λ (m : ℕ). StartsFrom m ss) e g))

sum-before : (n : ℕ) (before : List SegmentRecord) (r : SegmentRecord) (after : List SegmentRecord) → StartsFrom n (before ++ r ∷ after)
    → r.start ≡ n + body_bytes before
unfolding StartsFrom body_bytes
sum-before n [] r after h = h.0 ∙ sym (add-zero n)
sum-before n (b ∷ bs) r after h = omega (arith, sum-before (n + b.bytes) bs r after h.1)

pub starts_are_sums : (rs : List SegmentRecord) → StartsFrom 0 rs → StartsAreSums rs
unfolding StartsAreSums
starts_are_sums rs h before r after e = omega (arith, sum-before 0 before r after (subst (StartsFrom 0) e h))

-- ---- of a header

module _ (src : List ℕ) (room : ℕ) where
  pub header_starts : (ws : List ℕ) (b : Bio) → StartsFrom 0 (read_header src room ws b).records
  unfolding StartsFrom
  header_starts ws b =
      header_keeps src room (λ r. StartsFrom 0 r.records) tt tt tt
      (λ vs c r l h. h)
      (λ a r h. h)
      (λ a r e g h. starts_append 0 r.records (a ∷ []) h (e ∙ sym (zero-add (body_bytes r.records)), tt))
      ws b tt

  -- a length has at most 32 bits
  header_lengths : (ws : List ℕ) (b : Bio)
      → body_bytes (read_header src room ws b).records ≤ (2 ^ 32 - 1) * length (read_header src room ws b).records
  unfolding body_bytes
  header_lengths ws b =
      header_keeps src room (λ r. body_bytes r.records ≤ (2 ^ 32 - 1) * length r.records) (omega arith) (omega arith) (omega arith)
      (λ vs c r l h. h)
      (λ a r h. h)
      (λ a r e g h. omega (arith, bytes_append r.records (a ∷ []), bytes_one a, length-append r.records (a ∷ [])))
      ws b (omega arith)

  -- ---- a block has at most 164 records

  abbrev pub few : HeaderRead → ℕ → HeaderRead → Type 0
  few r n s = length s.records ≤ length r.records + n

  pub segment-few : (i : ℕ) (k : Block) (n : ℕ) (r : HeaderRead) → few r 1 (read_segment src room i k n r)
  unfolding read_segment
  segment-few i k n r =
      either (few r 1) (ltb 32 (width (length_bits r.words k.at) n)) _ _ (omega arith)
      (either (few r 1) (leb room (length r.records)) _ _ (omega arith) (le_of_eq (length-append r.records _)))

  segments_few : (i : ℕ) (k : Block) (f left : ℕ) (r : HeaderRead) → few r f (read_segments src room i k f left r)
  unfolding read_segments
  segments_few i k zero left r = omega arith
  segments_few i k (suc f) left r =
      let n : ℕ = passes_taken r.words k left in
      let s : HeaderRead = read_segment src room i k n r in
      let one = segment-few i k n r in
      either (few r (suc f)) (eqb s.refusal 0 && ltb 0 (left - n)) _ _ (omega (arith, segments_few i k f (left - n) s)) (omega arith)

  included_few : (i : ℕ) (k : Block) (r : HeaderRead) → few r 164 (read_included src room i k r)
  unfolding read_included
  included_few i k r =
      let n : ℕ = (read_passes src (read_zero_planes src k r).bio).value in
      let most = (passes_between src (read_zero_planes src k r).bio).1 in
      le_trans (segments_few i k n n _) (omega arith)

  pub block_few : (t i : ℕ) (k : Block) (r : HeaderRead) → few r 164 (read_block src room t i k r)
  unfolding read_block read_new_block read_old_block
  block_few t i k r =
      let w : PathRead = read_path src k.incl_tree (t + 1) (reverse k.path) 0 r.words r.bio in
      either (few r 164) (is_new r.words k) _ _
      (either (few r 164) (ltb (value w.words (k.incl_tree + 3 * k.leaf)) (t + 1)) _ _ (included_few i k _) (omega arith))
      (either (few r 164) (eqb (get_bit src r.bio).value 0) _ _ (omega arith) (included_few i k _))

  blocks-few : (t i : ℕ) (ks : List Block) (r : HeaderRead) → few r (164 * length ks) (read_blocks src room t i ks r)
  unfolding read_blocks
  blocks-few t i [] r = omega arith
  blocks-few t i (k ∷ ks) r =
      let s : HeaderRead = read_block src room t i k r in
      let one = block_few t i k r in
      either (few r (164 * suc (length ks))) (eqb s.refusal 0) _ _ (omega (arith, blocks-few t (i + 1) ks s)) (omega arith)

  header_few : (ws : List ℕ) (b : Bio) → length (read_header src room ws b).records ≤ 164 * length (blocks (bands ws))
  unfolding read_header
  header_few ws b =
      let r : HeaderRead = record { refusal = 0; words = ws; bio = b; reports = []; records = [] } in
      let s : HeaderRead = read_blocks src room (layer ws) 0 (blocks (bands ws)) r in
      either (λ (z : HeaderRead). length z.records ≤ 164 * length (blocks (bands ws))) (eqb s.refusal 0 && ends_in_ff src s.bio)
      _ _ (omega arith)
      (omega (arith, blocks-few (layer ws) 0 (blocks (bands ws)) r))

  pub header_bytes_lem : (ws : List ℕ) (b : Bio) → length (blocks (bands ws)) ≤ 12288 → body_bytes (read_header src room ws b).records < 2 ^ 53
  header_bytes_lem ws b h = omega (arith, header_lengths ws b, header_few ws b)

  -- ---- with room for 164 records a block, none is refused for want of room

  -- 9 alone, of the numbers that blocks are refused with
  abbrev pub OnlyNine : HeaderRead → Type 0
  OnlyNine r = r.refusal ≢ 0 → r.refusal ≡ 9

  segment-fits : (i : ℕ) (k : Block) (n : ℕ) (r : HeaderRead) → length r.records < room → OnlyNine r
      → OnlyNine (read_segment src room i k n r)
  unfolding read_segment
  segment-fits i k n r h z =
      either OnlyNine (ltb 32 (width (length_bits r.words k.at) n)) _ _ (λ _. refl)
      (subst OnlyNine (sym (if-gt room (length r.records) _ _ h)) z)

  segments_fit : (i : ℕ) (k : Block) (f left : ℕ) (r : HeaderRead) → length r.records + f ≤ room → OnlyNine r
      → OnlyNine (read_segments src room i k f left r)
  unfolding read_segments
  segments_fit i k zero left r h z = z
  segments_fit i k (suc f) left r h z =
      let n : ℕ = passes_taken r.words k left in
      let s : HeaderRead = read_segment src room i k n r in
      let p : OnlyNine s = segment-fits i k n r (omega arith) z in
      either OnlyNine (eqb s.refusal 0 && ltb 0 (left - n)) _ _
      (segments_fit i k f (left - n) s (omega (arith, segment-few i k n r)) p) p

  included_fits : (i : ℕ) (k : Block) (r : HeaderRead) → length r.records + 164 ≤ room → OnlyNine r
      → OnlyNine (read_included src room i k r)
  unfolding read_included
  included_fits i k r h z =
      let n : ℕ = (read_passes src (read_zero_planes src k r).bio).value in
      segments_fit i k n n _ (omega (arith, (passes_between src (read_zero_planes src k r).bio).1)) z

  pub block_fits : (t i : ℕ) (k : Block) (r : HeaderRead) → length r.records + 164 ≤ room → OnlyNine r
      → OnlyNine (read_block src room t i k r)
  unfolding read_block read_new_block read_old_block
  block_fits t i k r h z =
      let w : PathRead = read_path src k.incl_tree (t + 1) (reverse k.path) 0 r.words r.bio in
      either OnlyNine (is_new r.words k) _ _
      (either OnlyNine (ltb (value w.words (k.incl_tree + 3 * k.leaf)) (t + 1)) _ _ (included_fits i k _ h z) z)
      (either OnlyNine (eqb (get_bit src r.bio).value 0) _ _ z (included_fits i k _ h z))

  blocks-fit : (t i : ℕ) (ks : List Block) (r : HeaderRead) → length r.records + 164 * length ks ≤ room → OnlyNine r
      → OnlyNine (read_blocks src room t i ks r)
  unfolding read_blocks
  blocks-fit t i [] r h z = z
  blocks-fit t i (k ∷ ks) r h z =
      let s : HeaderRead = read_block src room t i k r in
      let p : OnlyNine s = block_fits t i k r (omega arith) z in
      either OnlyNine (eqb s.refusal 0) _ _ (blocks-fit t (i + 1) ks s (omega (arith, block_few t i k r)) p) p

  header_fits : (ws : List ℕ) (b : Bio) → 164 * length (blocks (bands ws)) ≤ room → (read_header src room ws b).refusal ≢ 13
  unfolding read_header
  header_fits ws b h =
      let r : HeaderRead = record { refusal = 0; words = ws; bio = b; reports = []; records = [] } in
      let s : HeaderRead = read_blocks src room (layer ws) 0 (blocks (bands ws)) r in
      let nine : OnlyNine s = blocks-fit (layer ws) 0 (blocks (bands ws)) r (omega arith) (λ n. absurd (n refl)) in
      either (λ (z : HeaderRead). z.refusal ≢ 13) (eqb s.refusal 0 && ends_in_ff src s.bio) _ _ (omega arith)
      (λ e. omega (arith, nine (omega arith)))

pub no_13 : (src ws : List ℕ) (b : Bio) → length (blocks (bands ws)) ≤ 12288 → (read_header src room_for_all ws b).refusal ≢ 13
no_13 src ws b h = header_fits src room_for_all ws b (omega arith)
