-- Segments read one after another into lent lists, and what is held in these.
use Rattle.std.specs.Prelude.{◌≡◌, ℕ, zero, suc, ◌+◌, ◌-◌, ◌*◌, ◌/◌, ◌%◌, ◌^◌, ◌<◌, ◌≤◌, cond, List, length, set, ◌==◌, nat_le, nat_lt, slice_index, slice_index_or, slice_set}
use Rattle.t800.specs.declared.Bio.{Bio}
use Rattle.t800.specs.Base.{overwrite}
use Rattle.t800.specs.Bits.{reach, read_bits}
use Rattle.t800.specs.Segments.{width}
use Rattle.t800.specs.Reports.{report_words, record_words, record_width, body_bytes}
use Rattle.t800.specs.State.{Block, length_bits}
use Rattle.t800.specs.ReadHeader.{HeaderRead, opens_segment, current_limit, current_passes, passes_taken}
use Rattle.lists.specs.Rows.{put_report, put_record}
use Rattle.t2_read_segments.specs.declared.Run.{Run}

-- the lent words, reports and records, where the bits stand, how many records there are and may be, the sum of their lengths modulo 2^64,
-- and the refusal, or 0
pub record Reading : Type 0 where
  pub words : List ℕ
  pub reports : List ℕ
  pub records : List ℕ
  pub bio : Bio
  pub count : ℕ
  pub room : ℕ
  pub bytes : ℕ
  pub refusal : ℕ

abbrev pub reading : List ℕ → List ℕ → List ℕ → Run → Reading
reading ws reports records r =
    record {
      words = ws;
      reports = reports;
      records = records;
      bio = r.bio;
      count = r.count;
      room = r.room;
      bytes = r.bytes;
      refusal = r.refusal;
    }

-- segments leave the reports as they are, whatever these hold
abbrev pub WithAnyReports : (List ℕ → Reading) → (List ℕ → Reading) → Type 0
WithAnyReports a b = (reports : List ℕ) → a reports ≡ b reports

-- ---- what the code does

-- refused, or with other words and bits, or with a report or a record put
abbrev pub stopped : ℕ → Reading → Reading
stopped why a =
    record {
      words = a.words;
      reports = a.reports;
      records = a.records;
      bio = a.bio;
      count = a.count;
      room = a.room;
      bytes = a.bytes;
      refusal = why;
    }

abbrev pub moved_on : List ℕ → Bio → Reading → Reading
moved_on ws b a =
    record {
      words = ws;
      reports = a.reports;
      records = a.records;
      bio = b;
      count = a.count;
      room = a.room;
      bytes = a.bytes;
      refusal = 0;
    }

abbrev pub reported : ℕ → ℕ → ℕ → ℕ → ℕ → Reading → Reading
reported i inclusion zero_planes planes passes a =
    record {
      words = a.words;
      reports = put_report a.reports i inclusion zero_planes planes passes;
      records = a.records;
      bio = a.bio;
      count = a.count;
      room = a.room;
      bytes = a.bytes;
      refusal = a.refusal;
    }

abbrev pub recorded : ℕ → ℕ → ℕ → ℕ → Reading → Reading
recorded i opens passes bytes a =
    record {
      words = a.words;
      reports = a.reports;
      records = put_record a.records a.count i opens passes bytes;
      bio = a.bio;
      count = a.count + 1;
      room = a.room;
      bytes = (a.bytes + bytes) % 2 ^ 64;
      refusal = a.refusal;
    }

-- one segment of block number i, with n passes
unfoldable pub next_segment : List ℕ → ℕ → Block → ℕ → Reading → Reading
next_segment src i k n a =
    let ws = a.words in
    let w = width (length_bits ws k.at) n in
    let len = read_bits src w a.bio in
    let after = set (slice_set ws (k.at + 2) (current_limit ws k)) (k.at + 3) (current_passes ws k + n) in
    let done = recorded i (cond (opens_segment ws k) 1 0) n len.value (moved_on after len.bio a) in
    cond (nat_lt 32 w) (stopped 9 a) (cond (nat_le a.room a.count) (stopped 13 a) done)

-- the segments of `left` more passes, if there are any; f bounds them
unfoldable pub next_segments : List ℕ → ℕ → Block → ℕ → ℕ → Reading → Reading
next_segments src i k zero left a = a
next_segments src i k (suc f) left a =
    let n = passes_taken a.words k left in
    let b = next_segment src i k n a in
    let more = next_segments src i k f (left - n) b in
    let some = cond (b.refusal == 0) more b in
    cond (nat_lt 0 left) some a

-- ---- what reading asks for

-- at most eight bits are held, and the place is in reach of the input
pub record BitsIn (src : List ℕ) (b : Bio) : Type 0 where
  pub few : b.ct ≤ 8
  pub place : b.bp ≤ length src + reach

-- what refusal 5 establishes of a block's words

-- the open segment isn't more than full
pub record SegmentFits (ws : List ℕ) (at : ℕ) : Type 0 where
  pub used : slice_index_or ws (at + 3) 0 ≤ slice_index ws (at + 2)
  pub limit : slice_index_or ws (at + 2) 0 ≤ 109

pub record BlockFits (ws : List ℕ) (at : ℕ) : Type 0 where
  pub passes : slice_index_or ws at 0 + 164 < 2 ^ 32
  pub bits : slice_index_or ws (at + 1) 0 ≤ 32
  pub segment : SegmentFits ws at

-- of n blocks, the first's words at `at`
abbrev pub BlocksFit : List ℕ → ℕ → ℕ → Type 0
BlocksFit ws at n = (i : ℕ) → i < n → BlockFits ws (at + 4 * i)

-- ---- what is held in lent lists

-- the reports and records of r over the lists as they were lent
abbrev pub held_by : List ℕ → List ℕ → HeaderRead → Reading
held_by reports records r =
    record {
      words = r.words;
      reports = overwrite reports (report_words r.reports);
      records = overwrite records (record_words r.records);
      bio = r.bio;
      count = length r.records;
      room = length records / record_width;
      bytes = body_bytes r.records % 2 ^ 64;
      refusal = r.refusal;
    }

-- a ended as r did: the refusal is the same, and where there is none everything that was read is held
pub record Follows (reports records : List ℕ) (a : Reading) (r : HeaderRead) : Type 0 where
  pub refuses : a.refusal ≡ r.refusal
  pub holds : r.refusal ≡ 0 → a ≡ held_by reports records r
