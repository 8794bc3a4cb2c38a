-- A packet's header as read (T.800, B.10; SCOPE S9 to S11), after its first bit: what the bits say, block by block,
-- and the state after the packet.
use Rattle.std.specs.Prelude.{ℕ, zero, suc, ◌+◌, ◌-◌, ◌*◌, ◌%◌, ◌^◌, min, Bool, cond, ◌&&◌, List, [], ◌∷◌, ◌++◌, reverse, length, set, ltb, leb, eqb}
use Rattle.t800.specs.declared.Bio.{Bio}
use Rattle.t800.specs.declared.SegmentRecord.{SegmentRecord}
use Rattle.t800.specs.Base.{Words, Bytes}
use Rattle.t800.specs.Refusals.{width_refusal, header_end_refusal, records_refusal}
use Rattle.t800.specs.Bits.{bio_at, get_bit, read_bits, ends_in_ff}
use Rattle.t800.specs.TagTree.{PathRead, value, read_path}
use Rattle.t800.specs.PassCount.{read_passes}
use Rattle.t800.specs.Segments.{width, first_limit, next_limit, read_comma}
use Rattle.t800.specs.Reports.{BlockReport, absent, body_bytes}
use Rattle.t800.specs.State.{Block, not_yet_planes, blocks, bands, style, layer, passes_so_far, length_bits, segment_limit, segment_passes}
use Rattle.t800.specs.WriteHeader.{is_new, length_bits_before}

-- What has been read so far: the state's words, where the bits stand, the block reports and the segment records; or a refusal, and
-- then nothing else counts.
pub record HeaderRead : Type 0 where
  pub refusal : ℕ
  pub words : Words
  pub bio : Bio
  pub reports : List BlockReport
  pub records : List SegmentRecord

abbrev pub refused : (why : ℕ) → HeaderRead
refused why = record { refusal = why; words = []; bio = bio_at 0; reports = []; records = [] }

-- the same, with other words and bits; with one more report; with one more record
abbrev pub moved_to : (state : Words) → Bio → HeaderRead → HeaderRead
moved_to state b r = record { refusal = r.refusal; words = state; bio = b; reports = r.reports; records = r.records }

abbrev pub with_report : BlockReport → HeaderRead → HeaderRead
with_report a r = record { refusal = r.refusal; words = r.words; bio = r.bio; reports = r.reports ++ a ∷ []; records = r.records }

abbrev pub with_record : SegmentRecord → HeaderRead → HeaderRead
with_record a r = record { refusal = r.refusal; words = r.words; bio = r.bio; reports = r.reports; records = r.records ++ a ∷ [] }

-- ---- segments

-- The segment that a block's next passes go into: the open one, or the next where that is full or there is none. Its limit, the passes
-- that it has, and how many of `left` passes go into it.
unfoldable pub opens_segment : (state : Words) → Block → Bool
opens_segment state k = eqb (segment_limit state k.at) (segment_passes state k.at)

unfoldable pub current_limit : (state : Words) → Block → ℕ
current_limit state k =
    let limit = segment_limit state k.at in
    cond (opens_segment state k) (cond (eqb limit 0) (first_limit (style state)) (next_limit (style state) limit)) limit

unfoldable pub current_passes : (state : Words) → Block → ℕ
current_passes state k = cond (opens_segment state k) 0 (segment_passes state k.at)

unfoldable pub passes_taken : (state : Words) → Block → (left : ℕ) → ℕ
passes_taken state k left = min (current_limit state k - current_passes state k) left

-- ---- below, `room` is the number of records lent, and i the block's number

-- 9 before 13, else its length; the packet's body bytes before it are those of the segments before it
unfoldable pub read_segment : (src : Bytes) (room i : ℕ) → Block → (passes : ℕ) → HeaderRead → HeaderRead
read_segment src room i k passes r =
    let state = r.words in
    let w = width (length_bits state k.at) passes in
    let len = read_bits src w r.bio in
    let a : SegmentRecord = record {
      block = i;
      opens = cond (opens_segment state k) 1 0;
      passes = passes;
      bytes = len.value;
      start = body_bytes r.records;
    } in
    let after = set (set state (k.at + 2) (current_limit state k)) (k.at + 3) (current_passes state k + passes) in
    let done = with_record a (moved_to after len.bio r) in
    cond (ltb 32 w) (refused width_refusal) (cond (leb room (length r.records)) (refused records_refusal) done)

-- the segments of `left` more passes
unfoldable pub read_segments : (src : Bytes) (room i : ℕ) → Block → (bound left : ℕ) → HeaderRead → HeaderRead
read_segments src room i k zero left r = r
read_segments src room i k (suc bound) left r =
    let passes = passes_taken r.words k left in
    let a = read_segment src room i k passes r in
    let more = read_segments src room i k bound (left - passes) a in
    cond (eqb a.refusal 0 && ltb 0 (left - passes)) more a

-- ---- zero planes

-- the threshold is raised until the leaf's value lies below it
unfoldable pub read_zero_planes_from : (src : Bytes) → Block → (bound threshold : ℕ) (state : Words) → Bio → PathRead
read_zero_planes_from src k zero threshold state b = record { words = state; bio = b }
read_zero_planes_from src k (suc bound) threshold state b =
    let r = read_path src k.zero_tree threshold (reverse k.path) 0 state b in
    let more = read_zero_planes_from src k bound (threshold + 1) r.words r.bio in
    cond (ltb (value r.words (k.zero_tree + 3 * k.leaf)) threshold) r more

-- a value is at most not_yet_planes, so that it lies below not_yet_planes + 1 at the latest
unfoldable pub read_zero_planes : (src : Bytes) → Block → HeaderRead → PathRead
read_zero_planes src k r =
    let tree = read_zero_planes_from src k (not_yet_planes + 2) 0 r.words r.bio in
    cond (is_new r.words k) tree (record { words = r.words; bio = r.bio })

-- ---- blocks

unfoldable pub first_report : Block → (zero_planes passes : ℕ) → BlockReport
first_report k zero_planes passes =
    record { inclusion = 1; zero_planes = zero_planes; planes = (k.planes + 2 ^ 32 - zero_planes) % 2 ^ 32; passes = passes }

unfoldable pub again_report : (passes : ℕ) → BlockReport
again_report passes = record { inclusion = 2; zero_planes = 0; planes = 0; passes = passes }

-- a block that is included, after its inclusion: zero planes, pass count, increment of the length bits, segments
unfoldable pub read_included : (src : Bytes) (room i : ℕ) → Block → HeaderRead → HeaderRead
read_included src room i k r =
    let z = read_zero_planes src k r in
    let passes = read_passes src z.bio in
    let inc = read_comma src passes.bio in
    let after = set (set z.words k.at (passes_so_far r.words k.at + passes.value)) (k.at + 1)
    (length_bits_before r.words k + inc.value) in
    let a = cond (is_new r.words k)
    (first_report k (value z.words (k.zero_tree + 3 * k.leaf)) passes.value)
    (again_report passes.value) in
    read_segments src room i k passes.value passes.value (with_report a (moved_to after inc.bio r))

-- inclusion in this layer: by tree until first included
unfoldable pub read_new_block : (src : Bytes) (room layer_now i : ℕ) → Block → HeaderRead → HeaderRead
read_new_block src room layer_now i k r =
    let tree = read_path src k.incl_tree (layer_now + 1) (reverse k.path) 0 r.words r.bio in
    let included = read_included src room i k (moved_to tree.words tree.bio r) in
    let not_included = with_report absent (moved_to tree.words tree.bio r) in
    cond (ltb (value tree.words (k.incl_tree + 3 * k.leaf)) (layer_now + 1)) included not_included

-- then by one bit
unfoldable pub read_old_block : (src : Bytes) (room i : ℕ) → Block → HeaderRead → HeaderRead
read_old_block src room i k r =
    let bit = get_bit src r.bio in
    let included = read_included src room i k (moved_to r.words bit.bio r) in
    let not_included = with_report absent (moved_to r.words bit.bio r) in
    cond (eqb bit.value 0) not_included included

unfoldable pub read_block : (src : Bytes) (room layer_now i : ℕ) → Block → HeaderRead → HeaderRead
read_block src room layer_now i k r =
    let new = read_new_block src room layer_now i k r in
    let old = read_old_block src room i k r in
    cond (is_new r.words k) new old

-- the blocks from number i on
unfoldable pub read_blocks : (src : Bytes) (room layer_now i : ℕ) → List Block → HeaderRead → HeaderRead
read_blocks src room layer_now i [] r = r
read_blocks src room layer_now i (k ∷ ks) r =
    let a = read_block src room layer_now i k r in
    let more = read_blocks src room layer_now (i + 1) ks a in
    cond (eqb a.refusal 0) more a

unfoldable pub read_header : (src : Bytes) (room : ℕ) (state : Words) → Bio → HeaderRead
read_header src room state b =
    let r = read_blocks src room (layer state) 0 (blocks (bands state))
    (record { refusal = 0; words = state; bio = b; reports = []; records = [] }) in
    cond (eqb r.refusal 0 && ends_in_ff src r.bio) (refused header_end_refusal) r
