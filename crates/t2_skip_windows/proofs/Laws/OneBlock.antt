-- One block read in the window is the block read over the header bytes; and what the code does with it, without lists.
use mathlib.Core.Path.{◌≡◌, refl, sym, ap, ◌∙◌, subst}
use mathlib.Core.Logic.{◌≢◌}
use mathlib.Core.List.{List, [], reverse}
use Prim.Native.Nat.{ℕ, ◌+◌, ◌-◌, ◌*◌, ◌/◌, ◌%◌, ◌^◌, ◌≤◌, ◌<◌}
use native.Mathlib.Nat.{le_refl}
use native.Mathlib.Omega.{arith}
use lib.ListN.{length, drop, replicate, length-replicate}
use Rattle.t800.specs.declared.Bio.{Bio}
use Rattle.t800.specs.declared.SegmentRecord.{SegmentRecord}
use Rattle.t800.specs.Bits.{reach}
use Rattle.t800.specs.Reports.{BlockReport, report_width, record_width, body_bytes}
use Rattle.t800.specs.State.{Block}
use Rattle.t800.specs.ReadHeader.{HeaderRead, read_block}
use Rattle.t800_laws.proofs.Laws.Tests.{on-eq}
use Rattle.t800_laws.proofs.Laws.Paths.{all_so}
use Rattle.t800_laws.proofs.Laws.Starts.{block_fits}
use Rattle.round_trip.proofs.Trip.Segments.{read_so_far}
use Rattle.bits_taken.proofs.Laws.Taken.{takes_few}
use Rattle.bits_taken.proofs.Laws.BlockBits.{NodesInside, block_bits_lem, takes_bytes}
use Rattle.past_end.proofs.SameBits.{Way, of_header, Stays}
use Rattle.past_end.proofs.SameHeader.{block_stays}
use Rattle.tcd_places.proofs.Laws.Before.{Before}
use Rattle.t2_unpack_headers.specs.Windows.{window_of}
use Rattle.t2_read_segments.specs.Reading.{Reading, held_by}
use Rattle.t2_read_block_parts.specs.Blocks.{next_block}
use Rattle.t2_read_block.proofs.Laws.Follows.{Apart, Ends, block_ends}
use Rattle.t2_skip_header.proofs.Laws.Bare.{bare, block_bare}
use Rattle.t2_skip_windows.specs.Windows.{window_bytes, most_of_block}
use Rattle.t2_skip_windows.proofs.Laws.Bytes.{into, out, agree_in, agree_out}

-- ---- a block's place

-- its path has at most seven nodes, and both trees' nodes and its own words lie in a list of so many
pub record InPlace (size : ℕ) (k : Block) : Type 0 where
  pub short : length k.path ≤ 7
  pub apart : Apart size k
  pub zero : Before k.at k.zero_tree (reverse k.path)

nodes-inside : (size : ℕ) (k : Block) → InPlace size k → NodesInside size k.zero_tree (reverse k.path)
nodes-inside size k h =
    all_so (λ n. k.zero_tree + 3 * n + 2 < k.at) (λ n. k.zero_tree + 3 * n + 2 < size) (reverse k.path)
    (λ n l. omega (arith, h.apart.inside)) h.zero

-- ---- its bytes

module _ (src : List ℕ) (room t i : ℕ) (k : Block) (r : HeaderRead) (placed : InPlace (length r.words) k) (below : t < 65535)
    (few : r.bio.ct < 8)
  where
    pub block_near : (read_block src room t i k r).refusal ≡ 0 → (read_block src room t i k r).bio.bp ≤ r.bio.bp + most_of_block
    block_near e =
        let s : HeaderRead = read_block src room t i k r in
        let bits = block_bits_lem src k room t i r placed.short (nodes-inside (length r.words) k placed)
        (omega (arith, placed.apart.inside)) below e in
        let held = takes_few src 77846 r.bio s.bio bits (omega arith) in
        omega (arith, takes_bytes src 77846 r.bio s.bio bits)

-- ---- in the window

module _ (bytes window : List ℕ) (at base there : ℕ) (r : HeaderRead) (holds : window ≡ window_of bytes base window_bytes)
    (place : at + r.bio.bp ≡ base + there) (ahead : there + most_of_block ≤ window_bytes)
    (near : r.bio.bp + most_of_block < length (drop at bytes) + reach)
  where
    abbrev way : Way
    way = into bytes window at base r.bio.bp there holds place ahead near

    abbrev back : Way
    back = out bytes window at base r.bio.bp there holds place ahead near

    -- r in the window
    abbrev pub in_window : HeaderRead → HeaderRead
    in_window = of_header.gone way

    module _ (room t i : ℕ) (k : Block) (placed : InPlace (length r.words) k) (below : t < 65535) (few : r.bio.ct < 8) where
      abbrev over : HeaderRead
      over = read_block (drop at bytes) room t i k r

      abbrev inside : HeaderRead
      inside = read_block window room t i k (in_window r)

      stays : over.refusal ≡ 0 → Stays way of_header r.bio over inside
      stays = block_stays (drop at bytes) window way (agree_in bytes window at base r.bio.bp there holds place ahead near) room t i k r

      pub same_block : over.refusal ≡ 0 → inside ≡ in_window over
      same_block e = (stays e).same (le_refl r.bio.bp, few) (block_near (drop at bytes) room t i k r placed below few e)

      pub still_few : over.refusal ≡ 0 → over.bio.ct < 8
      still_few e = ((stays e).held (le_refl r.bio.bp, few)).1

      pub goes_forward : over.refusal ≡ 0 → r.bio.bp ≤ over.bio.bp
      goes_forward e = ((stays e).held (le_refl r.bio.bp, few)).0

      came_back : of_header.gone back (in_window r) ≡ r
      came_back =
          let e : base + (at + r.bio.bp - base) - at ≡ r.bio.bp = omega arith in
          λ j. record {
            refusal = r.refusal;
            words = r.words;
            bio = record { bp = e j; buf = r.bio.buf; ct = r.bio.ct };
            reports = r.reports;
            records = r.records;
          }

      accepted_over : inside.refusal ≡ 0 → over.refusal ≡ 0
      accepted_over e =
          let s = block_stays window (drop at bytes) back (agree_out bytes window at base r.bio.bp there holds place ahead near)
          room t i k (in_window r) e in
          let n = block_near window room t i k (in_window r) placed below few e in
          ap (λ (x : HeaderRead). (read_block (drop at bytes) room t i k x).refusal) (sym came_back)
          ∙ ap (λ (x : HeaderRead). x.refusal) (s.same (omega arith, few) (omega arith)) ∙ e

      pub same_refusal : r.refusal ≡ 0 → length r.records + 164 ≤ room → inside.refusal ≡ over.refusal
      same_refusal z enough =
          let none : r.refusal ≢ 0 → r.refusal ≡ 9 = λ n. absurd (n z) in
          on-eq over.refusal 0 (λ e. ap (λ (x : HeaderRead). x.refusal) (same_block e))
          (λ n. block_fits window room t i k (in_window r) enough none (λ e. n (accepted_over e))
          ∙ sym (block_fits (drop at bytes) room t i k r enough none n))

-- ---- what the code does, without lists

-- what r holds, but for the reports and the records
abbrev pub held_bare : (room : ℕ) → HeaderRead → Reading
held_bare room r = record {
  words = r.words;
  reports = [];
  records = [];
  bio = r.bio;
  count = length r.records;
  room = room;
  bytes = body_bytes r.records % 2 ^ 64;
  refusal = r.refusal;
}

pub record EndsBare (size room j : ℕ) (a : Reading) (r : HeaderRead) : Type 0 where
  pub refuses : a.refusal ≡ r.refusal
  pub holds : r.refusal ≡ 0 → (a ≡ held_bare room r) × (length r.reports ≡ j) × (length r.words ≡ size)

module _ (src : List ℕ) (room t i : ℕ) (k : Block) (ws : List ℕ) (b : Bio) (reps : List BlockReport) (recs : List SegmentRecord)
    (apart : Apart (length ws) k) (reports_are : length reps ≡ i) (enough : length recs ≤ room)
  where
    abbrev reports : List ℕ
    reports = replicate (report_width * (i + 1)) 0

    abbrev records : List ℕ
    records = replicate (record_width * room) 0

    abbrev before : HeaderRead
    before = read_so_far ws b reps recs

    room_is : length records / record_width ≡ room
    room_is = omega (arith, length-replicate {A = ℕ} (record_width * room) 0)

    ends : Ends reports records (length ws) (i + 1) (next_block src t i k (held_by reports records before))
        (read_block src (length records / record_width) t i k before)
    ends =
        block_ends src reports records (length ws) i k (omega (arith, length-replicate {A = ℕ} (report_width * (i + 1)) 0)) apart t
        ws b reps recs (omega (arith, room_is)) reports_are refl

    ends_bare : EndsBare (length ws) room (i + 1) (next_block src t i k (held_bare room before)) (read_block src room t i k before)
    ends_bare =
        let same : bare (next_block src t i k (held_by reports records before))
        ≡ next_block src t i k (held_bare (length records / record_width) before) = block_bare src t i k (held_by reports records before) in
        subst (λ (n : ℕ). EndsBare (length ws) n (i + 1) (next_block src t i k (held_bare n before)) (read_block src n t i k before)) room_is
        (record {
          refuses = ap (λ (x : Reading). x.refusal) (sym same) ∙ ends.refuses;
          holds = λ z. let h = ends.holds z in (sym same ∙ ap bare h.same, h.reports_are, h.words_are);
        })

-- of an accepted reading
pub block_bare_ends : (src : List ℕ) (room t i : ℕ) (k : Block) (r : HeaderRead) → Apart (length r.words) k → length r.reports ≡ i
    → length r.records ≤ room → r.refusal ≡ 0
    → EndsBare (length r.words) room (i + 1) (next_block src t i k (held_bare room r)) (read_block src room t i k r)
block_bare_ends src room t i k r apart reps enough z =
    let e : read_so_far r.words r.bio r.reports r.records ≡ r = λ q. record
    { refusal = sym z q; words = r.words; bio = r.bio; reports = r.reports; records = r.records } in
    subst (λ (x : HeaderRead). EndsBare (length r.words) room (i + 1) (next_block src t i k (held_bare room x))
    (read_block src room t i k x)) e (ends_bare src room t i k r.words r.bio r.reports r.records apart reps enough)
