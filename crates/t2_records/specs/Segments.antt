-- Segment records stored from numbers, four to a record, each beginning where the one before it ends.
use Rattle.std.specs.Prelude.{ℕ, zero, suc, ◌+◌, ◌*◌, ◌/◌, ◌%◌, ◌^◌, cond, List, length, nat_lt, slice_index, slice_set}
use Rattle.t800.specs.declared.SegmentRecord.{SegmentRecord}
use Rattle.t800.specs.Reports.{record_width, no_record}

-- record i of the numbers, after this last one; past the end the numbers are 0
unfoldable pub segment_after : List ℕ → ℕ → SegmentRecord → SegmentRecord
segment_after ws i last =
    let at = i * record_width in
    let start = (last.start + last.bytes) % 2 ^ 64 in
    let there : SegmentRecord = record {
      block = slice_index ws at;
      opens = slice_index ws (at + 1);
      passes = slice_index ws (at + 2);
      bytes = slice_index ws (at + 3);
      start = start;
    } in
    cond (nat_lt i (length ws / record_width)) there (record { block = 0; opens = 0; passes = 0; bytes = 0; start = start })

-- the last of the first i records
unfoldable pub last_of : List ℕ → ℕ → SegmentRecord
last_of ws zero = no_record
last_of ws (suc i) = segment_after ws i (last_of ws i)

-- record i of the numbers, after the ones before it
abbrev pub record_at : List ℕ → ℕ → SegmentRecord
record_at ws i = segment_after ws i (last_of ws i)

-- records f 0, f 1, .. stored at the first n places, in order
unfoldable pub stored : (ℕ → SegmentRecord) → ℕ → List SegmentRecord → List SegmentRecord
stored f zero rs = rs
stored f (suc n) rs = slice_set (stored f n rs) n (f n)

abbrev pub filled : List ℕ → ℕ → List SegmentRecord → List SegmentRecord
filled ws = stored (record_at ws)
