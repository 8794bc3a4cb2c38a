-- The statement of demand 3 (SCOPE S15), over whole lists of calls of any interface that meets the definitions. Premises, for accepted
-- packets and their reads: the termination rule, records enough, and every other list of the length that is asked.
use Rattle.std.specs.Prelude.{◌≡◌, ℕ, ◌-◌, ◌*◌, ◌≤◌, ◌<◌, Bool, true, cond, ◌&&◌, List, [], ◌∷◌, ◌++◌, length, take, T, eqb}
use Rattle.t800.specs.declared.Markers.{Markers}
use Rattle.t800.specs.Base.{Words, Bytes, sum}
use Rattle.t800.specs.Reports.{report_width, report_words, RecordForm}
use Rattle.t800.specs.State.{writer, reader}
use Rattle.t800.specs.Ranges.{valid_state}
use Rattle.t800.specs.WriteHeader.{contributes}
use Rattle.t800.specs.Packet.{WriteResult, ReadResult}
use Rattle.t800.specs.Interface.{WriteCall, ReadCall, Interface}
use Rattle.t800.specs.Book.{BlockEntry, Entry, new_book, entry, add_counts, terminated_as_style}

-- ---- one packet

-- what is owed for an accepted packet: its bytes less the body, its marker settings, whether it is present, and the book's entry
pub record Owed : Type 0 where
  pub front : Bytes
  pub markers : Markers
  pub present : ℕ
  pub entry : Entry

-- of a writing call and what it left
abbrev pub owed_for : (style : ℕ) (book : List BlockEntry) → WriteCall → WriteResult → Owed
owed_for style book c r = record {
  front = take (r.answer.bytes - sum c.contribution.lengths) r.output;
  markers = c.markers;
  present = cond (contributes c.contribution) 1 0;
  entry = entry style book c.contribution.counts c.contribution.lengths;
}

-- the call c reads the packet o: with its marker settings, an input that begins with the packet less its body, lists of the length
-- that is asked, and records enough
pub record ReadsPacket (form : RecordForm) (state : Words) (o : Owed) (c : ReadCall form) : Type 0 where
  pub same_markers : c.markers ≡ o.markers
  pub begins : take (length o.front) c.input ≡ o.front
  pub scratch_length_lem : length c.scratch ≡ length state
  pub reports_length : length c.reports ≡ report_width * length o.entry.reports
  pub records_enough : length o.entry.records ≤ form.room c.records

-- the answer and the lists are the book's entry
pub record GivesEntry (form : RecordForm) (o : Owed) (c : ReadCall form) (r : ReadResult form) : Type 0 where
  pub accepts : r.answer.refusal ≡ 0
  pub present : r.answer.present ≡ o.present
  pub taken : r.answer.taken ≡ length o.front
  pub segments : r.answer.segments ≡ length o.entry.records
  pub sop_mark : r.answer.sop ≡ 0
  pub eph_mark : r.answer.eph ≡ 0
  pub past : r.answer.past ≡ 0
  pub reports : r.reports ≡ report_words o.entry.reports
  pub records : r.records ≡ form.stored c.records o.entry.records

-- the same call with more input
abbrev pub with_more : (form : RecordForm) → ReadCall form → (more : Bytes) → ReadCall form
with_more form c more = record
    { scratch = c.scratch; markers = c.markers; input = c.input ++ more; reports = c.reports; records = c.records }

-- ---- the writer's list: any calls with any arguments

pub data WriterMade (I : Interface) : Type 0 where
  measured : I.measures.Made → WriterMade I
  written : I.writes.Made → WriterMade I

-- for each packet owed, in order, any refused reads and then one read of it
pub data ReaderMade (I : Interface) : Type 0 where
  refused_made packet_made : I.reads.Made → ReaderMade I

module _ (I : Interface) where
  abbrev pub accepted : I.writes.Made → Bool
  accepted m = eqb (I.writes.left m).answer.refusal 0

  -- each call finds the state that the last one left
  unfoldable pub Follows : (state : Words) → List (WriterMade I) → Type 0
  Follows state [] = Unit {0}
  Follows state (measured m ∷ cs) = (I.measures.found m ≡ state) × Follows state cs
  Follows state (written m ∷ cs) = (I.writes.found m ≡ state) × Follows (I.writes.left m).state cs

  -- the state after a list of calls
  unfoldable pub state_after : (state : Words) → List (WriterMade I) → Words
  state_after state [] = state
  state_after state (measured m ∷ cs) = state_after state cs
  state_after state (written m ∷ cs) = state_after (I.writes.left m).state cs

  -- the book goes through the list; measuring and refused calls change nothing
  unfoldable pub owed : (style : ℕ) (book : List BlockEntry) → List (WriterMade I) → List Owed
  owed style book [] = []
  owed style book (measured m ∷ cs) = owed style book cs
  owed style book (written m ∷ cs) =
      let c = I.writes.args m in
      let yes = owed_for style book c (I.writes.left m) ∷ owed style (add_counts book c.contribution.counts) cs in
      let no = owed style book cs in
      cond (accepted m) yes no

  -- the termination rule, for each accepted call
  unfoldable pub all_terminated_as_style : (style : ℕ) (book : List BlockEntry) → List (WriterMade I) → Bool
  all_terminated_as_style style book [] = true
  all_terminated_as_style style book (measured m ∷ cs) = all_terminated_as_style style book cs
  all_terminated_as_style style book (written m ∷ cs) =
      let p = (I.writes.args m).contribution in
      let yes = terminated_as_style style book p.counts p.marks && all_terminated_as_style style (add_counts book p.counts) cs in
      let no = all_terminated_as_style style book cs in
      cond (accepted m) yes no

  -- ---- the reader's list

  -- From this state on, with these packets still owed: each read of a packet gives the book's entry, also with more input, and the state
  -- that the list leaves is in the ranges of refusal 5. The list may end before all packets are read.
  unfoldable pub ReadsAsOwed : (state : Words) → List Owed → List (ReaderMade I) → Type 0
  ReadsAsOwed state os [] = valid_state reader state (length state) ≡ true
  ReadsAsOwed state os (refused_made m ∷ rs) =
      I.reads.found m ≡ state → 0 < (I.reads.left m).answer.refusal → ReadsAsOwed (I.reads.left m).state os rs
  ReadsAsOwed state [] (packet_made m ∷ rs) = Unit {0}
  ReadsAsOwed state (o ∷ os) (packet_made m ∷ rs) =
      I.reads.found m ≡ state
      → I.reads.asked m ≡ true
      → ReadsPacket I.form state o (I.reads.args m)
      → (GivesEntry I.form o (I.reads.args m) (I.reads.left m))
      × ((more : Bytes) (n : I.reads.Made) → I.reads.found n ≡ state → I.reads.asked n ≡ true
      → I.reads.args n ≡ with_more I.form (I.reads.args m) more → GivesEntry I.form o (I.reads.args m) (I.reads.left n))
      × ReadsAsOwed (I.reads.left m).state os rs

  -- ---- the statements

  -- an accepted start
  abbrev pub Accepted : (role : ℕ) → (I.starts role).Made → Type 0
  Accepted role m = ((I.starts role).left m).answer ≡ 0

  -- its style and its book
  abbrev pub style_of : (I.starts writer).Made → ℕ
  style_of w = ((I.starts writer).args w).style

  abbrev pub book_of : (I.starts writer).Made → List BlockEntry
  book_of w = new_book (take ((I.starts writer).args w).count ((I.starts writer).args w).bands) ((I.starts writer).args w).planes

  -- DEMAND 3, for every accepted start of a writer and a reader with the same bands, up to their count, and style
  unfoldable pub RoundTrip : Type 0
  RoundTrip =
      (w : (I.starts writer).Made) (r : (I.starts reader).Made)
      → Accepted writer w
      → Accepted reader r
      → ((I.starts reader).args r).count ≡ ((I.starts writer).args w).count
      → take ((I.starts reader).args r).count ((I.starts reader).args r).bands
      ≡ take ((I.starts writer).args w).count ((I.starts writer).args w).bands
      → ((I.starts reader).args r).style ≡ ((I.starts writer).args w).style
      → (ws : List (WriterMade I))
      → Follows ((I.starts writer).left w).state ws
      → T (all_terminated_as_style (style_of w) (book_of w) ws)
      → (rs : List (ReaderMade I))
      → ReadsAsOwed ((I.starts reader).left r).state (owed (style_of w) (book_of w) ws) rs

  -- the writer's state stays in the ranges of refusal 5, whatever the marks
  unfoldable pub WriterInRange : Type 0
  WriterInRange =
      (w : (I.starts writer).Made)
      → Accepted writer w
      → (ws : List (WriterMade I))
      → Follows ((I.starts writer).left w).state ws
      → valid_state writer (state_after ((I.starts writer).left w).state ws) (length ((I.starts writer).found w)) ≡ true
