-- What a read tells of a packet (SCOPE S7), and how it lies in the lent lists.
use Rattle.std.specs.Prelude.{◌≡◌, refl, ℕ, ◌+◌, ◌*◌, ◌/◌, List, [], ◌∷◌, length, replicate}
use Rattle.t800.specs.declared.SegmentRecord.{SegmentRecord}
use Rattle.t800.specs.Base.{Words, overwrite, wiped}

-- a block's report: 0 absent, 1 first time, 2 again; zero planes and block planes, both 0 unless it is 1; passes
pub record BlockReport : Type 0 where
  pub inclusion : ℕ
  pub zero_planes : ℕ
  pub planes : ℕ
  pub passes : ℕ

abbrev pub absent : BlockReport
absent = record { inclusion = 0; zero_planes = 0; planes = 0; passes = 0 }

-- the bytes of these segments in the packet's body
unfoldable pub body_bytes : List SegmentRecord → ℕ
body_bytes [] = 0
body_bytes (r ∷ rs) = r.bytes + body_bytes rs

-- ---- in lent lists

-- the words of one report, and of one record in a list of words, which has no place for the start
abbrev pub report_width : ℕ
report_width = 4

abbrev pub record_width : ℕ
record_width = 4

-- room for every record that a packet can have: 164 a block, 12,288 blocks
abbrev pub room_for_all : ℕ
room_for_all = 164 * 12288

-- one after another, the words of each in the order of its fields
unfoldable pub report_words : List BlockReport → Words
report_words [] = []
report_words (r ∷ rs) = r.inclusion ∷ r.zero_planes ∷ r.planes ∷ r.passes ∷ report_words rs

unfoldable pub record_words : List SegmentRecord → Words
record_words [] = []
record_words (r ∷ rs) = r.block ∷ r.opens ∷ r.passes ∷ r.bytes ∷ record_words rs

-- How a lent list holds records: for how many it has room, what it holds with these at its front and the others as they were, of which
-- none leave the list, and wiped.
pub record RecordForm : Type 1 where
  pub Lent : Type 0
  pub room : Lent → ℕ
  pub stored : Lent → List SegmentRecord → Lent
  pub none_stored : (lent : Lent) → stored lent [] ≡ lent
  pub cleared : Lent → Lent

pub none_over {ℓ} : {A : Type ℓ} (lent : List A) → overwrite lent [] ≡ lent
unfolding overwrite
none_over lent = refl

pub no_words_over : (lent : Words) → overwrite lent (record_words []) ≡ lent
unfolding overwrite record_words
no_words_over lent = refl

-- a record of zeros
abbrev pub no_record : SegmentRecord
no_record = record { block = 0; opens = 0; passes = 0; bytes = 0; start = 0 }

-- the records themselves, as the exported read gives them
abbrev pub as_records : RecordForm
as_records = record {
  Lent = List SegmentRecord;
  room = λ lent. length lent;
  stored = λ lent rs. overwrite lent rs;
  none_stored = none_over;
  cleared = λ lent. replicate (length lent) no_record;
}

-- words, four a record, as in the exported read's work list
abbrev pub as_words : RecordForm
as_words = record {
  Lent = Words;
  room = λ lent. length lent / record_width;
  stored = λ lent rs. overwrite lent (record_words rs);
  none_stored = no_words_over;
  cleared = λ lent. wiped lent;
}

-- the records as they are found, none lost for want of room; the lent list is to be empty
abbrev pub as_found : RecordForm
as_found = record {
  Lent = List SegmentRecord;
  room = λ _. room_for_all;
  stored = λ lent rs. overwrite lent rs;
  none_stored = none_over;
  cleared = λ _. [];
}
