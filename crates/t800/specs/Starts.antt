-- Where the bytes of a packet's segments begin (SCOPE S7): what the starts in the records are, in every accepted read and in the book.
use Rattle.std.specs.Prelude.{◌≡◌, ℕ, ◌<◌, ◌^◌, List, ◌∷◌, ◌++◌, take}
use Rattle.t800.specs.declared.Markers.{Markers}
use Rattle.t800.specs.declared.SegmentRecord.{SegmentRecord}
use Rattle.t800.specs.Base.{Words, Bytes}
use Rattle.t800.specs.Reports.{body_bytes, as_records}
use Rattle.t800.specs.Packet.{ReadResult, read}
use Rattle.t800.specs.Book.{BlockEntry, entry}

-- each record's start is the sum of the lengths of the records before it
unfoldable pub StartsAreSums : List SegmentRecord → Type 0
StartsAreSums records =
    (before : List SegmentRecord) (r : SegmentRecord) (after : List SegmentRecord)
    → records ≡ before ++ r ∷ after
    → r.start ≡ body_bytes before

-- and all lengths together are fewer than 2^53 bytes
abbrev pub StartsFit : List SegmentRecord → Type 0
StartsFit records = StartsAreSums records × (body_bytes records < 2 ^ 53)

-- the records that a read told
abbrev pub records_told : ReadResult as_records → List SegmentRecord
records_told r = take r.answer.segments r.records

-- whatever the bytes
unfoldable pub StartsOfReads : Type 0
StartsOfReads =
    (state scratch : Words) (m : Markers) (src : Bytes) (reports : Words) (records : List SegmentRecord)
    → let r = read as_records state scratch m src reports records in
    r.answer.refusal ≡ 0
    → StartsFit (records_told r)

unfoldable pub StartsOfBook : Type 0
StartsOfBook = (style : ℕ) (book : List BlockEntry) (counts lengths : Words) → StartsAreSums (entry style book counts lengths).records
