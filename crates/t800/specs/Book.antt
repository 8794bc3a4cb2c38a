-- The book of the round trip (SCOPE S15): what a read owes for each accepted writing
-- call. It is fed the start's bands, block planes and style and each such call's pass counts and lengths, and knows neither trees nor
-- bits nor the reader's way of cutting segments.
use Rattle.std.specs.Prelude.{ℕ, zero, suc, ◌+◌, ◌-◌, ◌%◌, Bool, true, cond, ◌&&◌, ◌||◌, not, List, [], ◌∷◌, ◌++◌, take, drop, leb, eqb}
use Rattle.std.specs.Bool.{beq}
use Rattle.t800.specs.declared.Band.{Band}
use Rattle.t800.specs.declared.SegmentRecord.{SegmentRecord}
use Rattle.t800.specs.Base.{Words, Bytes, sum}
use Rattle.t800.specs.Segments.{term_all, bypass}
use Rattle.t800.specs.Reports.{BlockReport, absent}
use Rattle.t800.specs.State.{blocks_in}

-- Passes of a block are numbered from 0 over all layers. The first of a segment are: each one with style bit 0x04; with bit 0x01
-- those that 10, 2, 1, 2, 1 and so on begin at, 0, 10, 12, 13, 15, 16, ..; else 0, 109, 218, ..
unfoldable pub opens_at : (style pass : ℕ) → Bool
opens_at style pass =
    term_all style
    || cond (bypass style) (eqb pass 0 || leb 10 pass && not (eqb ((pass - 10) % 3) 1)) (eqb (pass % 109) 0)

-- a block in the book: its band's planes, its own, and its passes so far
pub record BlockEntry : Type 0 where
  pub band_planes : ℕ
  pub planes : ℕ
  pub passes : ℕ

-- so many blocks of one band
unfoldable pub new_entries : (count band_planes : ℕ) (planes : Words) → List BlockEntry
new_entries zero band_planes ps = []
new_entries (suc count) band_planes [] = []
new_entries (suc count) band_planes (p ∷ ps) =
    record { band_planes = band_planes; planes = p; passes = 0 } ∷ new_entries count band_planes ps

-- the book at the start
unfoldable pub new_book : List Band → (planes : Words) → List BlockEntry
new_book [] ps = []
new_book (b ∷ bs) ps = new_entries (blocks_in b) b.planes ps ++ new_book bs (drop (blocks_in b) ps)

-- the report of a block with so many passes in this call
unfoldable pub report_of : BlockEntry → (passes : ℕ) → BlockReport
report_of k passes =
    cond (eqb passes 0) absent
    (cond (eqb k.passes 0) (record { inclusion = 1; zero_planes = k.band_planes - k.planes; planes = k.planes; passes = passes })
    (record { inclusion = 2; zero_planes = 0; planes = 0; passes = passes }))

-- the records of one block's passes from this one on; `now` is the record being made, behind which the next one's bytes begin
unfoldable pub records_from : (style pass : ℕ) (now : SegmentRecord) (lengths : Words) → List SegmentRecord
records_from style pass now [] = now ∷ []
records_from style pass now (len ∷ lens) =
    let next = now ∷ records_from style (pass + 1)
    (record { block = now.block; opens = 1; passes = 1; bytes = len; start = now.start + now.bytes }) lens in
    let goes_on = records_from style (pass + 1)
    (record { block = now.block; opens = now.opens; passes = now.passes + 1; bytes = now.bytes + len; start = now.start }) lens in
    cond (opens_at style pass) next goes_on

-- the records of block number i, whose passes in this call are those from this one on and whose bytes begin behind `before` others
unfoldable pub records_of : (style i before pass : ℕ) (lengths : Words) → List SegmentRecord
records_of style i before pass [] = []
records_of style i before pass (len ∷ lens) =
    records_from style (pass + 1)
    (record { block = i; opens = cond (opens_at style pass) 1 0; passes = 1; bytes = len; start = before }) lens

-- what is owed for one call
pub record Entry : Type 0 where
  pub reports : List BlockReport
  pub records : List SegmentRecord

-- the blocks from number i on, with the counts and lengths that are left; the blocks before them have `before` bytes in this call
unfoldable pub entry_from : (style i before : ℕ) (book : List BlockEntry) (counts lengths : Words) → Entry
entry_from style i before [] cs lens = record { reports = []; records = [] }
entry_from style i before (k ∷ ks) [] lens = record { reports = []; records = [] }
entry_from style i before (k ∷ ks) (c ∷ cs) lens =
    let e = entry_from style (i + 1) (before + sum (take c lens)) ks cs (drop c lens) in
    record { reports = report_of k c ∷ e.reports; records = records_of style i before k.passes (take c lens) ++ e.records }

unfoldable pub entry : (style : ℕ) (book : List BlockEntry) (counts lengths : Words) → Entry
entry style book counts lengths = entry_from style 0 0 book counts lengths

-- then the counts are added
unfoldable pub add_counts : (book : List BlockEntry) (counts : Words) → List BlockEntry
add_counts [] cs = []
add_counts (k ∷ ks) [] = []
add_counts (k ∷ ks) (c ∷ cs) = record { band_planes = k.band_planes; planes = k.planes; passes = k.passes + c } ∷ add_counts ks cs

-- ---- the termination rule of the round trip: a pass that isn't its block's last in the layer is terminated exactly where a segment
-- of the style ends

-- the marks of one block's passes from this one on, all in one layer
unfoldable pub terminated_at : (style pass : ℕ) (marks : Bytes) → Bool
terminated_at style pass [] = true
terminated_at style pass (mark ∷ []) = true
terminated_at style pass (mark ∷ next ∷ marks) =
    beq (opens_at style (pass + 1)) (not (eqb mark 0)) && terminated_at style (pass + 1) (next ∷ marks)

unfoldable pub terminated_as_style : (style : ℕ) (book : List BlockEntry) (counts : Words) (marks : Bytes) → Bool
terminated_as_style style [] cs marks = true
terminated_as_style style (k ∷ ks) [] marks = true
terminated_as_style style (k ∷ ks) (c ∷ cs) marks =
    terminated_at style k.passes (take c marks) && terminated_as_style style ks cs (drop c marks)
