-- One layer written and read back: what the book owes for it (SCOPE S15).
use Rattle.std.specs.Prelude.{◌≡◌, ℕ, ◌*◌, ◌≤◌, cond, not, List, [], length, take, T, eqb}
use Rattle.t800.specs.declared.Band.{Band}
use Rattle.t800.specs.declared.Markers.{Markers}
use Rattle.t800.specs.declared.ReadAnswer.{ReadAnswer}
use Rattle.t800.specs.Base.{Words, Bytes}
use Rattle.t800.specs.State.{writer, reader}
use Rattle.t800.specs.Start.{StartResult, start}
use Rattle.t800.specs.Reports.{report_width, as_words}
use Rattle.t800.specs.WriteHeader.{Contribution}
use Rattle.t800.specs.Packet.{WriteResult, write, ReadResult, read_result, refused_answer, read}
use Rattle.t800.specs.Book.{BlockEntry, new_book, terminated_as_style}
use Rattle.t800.specs.Interface.{WriteCall, ReadCall}
use Rattle.t800.specs.RoundTrip.{Owed, owed_for, GivesEntry}

-- what a precinct is started with, and what its first layer brings
pub record FirstLayer : Type 0 where
  pub count : ℕ
  pub bands : List Band
  pub style : ℕ
  pub planes : Words
  pub contribution : Contribution
  pub body : Bytes
  pub markers : Markers
  pub number : ℕ

abbrev pub first_layer : (count : ℕ) (bands : List Band) (style : ℕ) (planes : Words) → Contribution → (body : Bytes) → Markers
    → (number : ℕ) → FirstLayer
first_layer count bands style planes p body m number =
    record { count = count; bands = bands; style = style; planes = planes; contribution = p; body = body; markers = m; number = number }

-- the lists lent for it
pub record Lent : Type 0 where
  pub writer : Words
  pub reader : Words
  pub scratch : Words
  pub output : Bytes
  pub reports : Words
  pub records : Words

abbrev pub lent : (w r scratch : Words) (output : Bytes) (reports records : Words) → Lent
lent w r scratch output reports records =
    record { writer = w; reader = r; scratch = scratch; output = output; reports = reports; records = records }

-- the writer's state before it
abbrev pub start_of : FirstLayer → Lent → Words
start_of l b = (start writer l.count l.bands l.style l.planes b.writer).state

abbrev pub write_of_layer : FirstLayer → Lent → WriteResult
write_of_layer l b = write (start_of l b) b.scratch l.contribution l.body l.markers l.number b.output

-- what the four calls leave
pub record LayerResult : Type 0 where
  pub answer : ReadAnswer
  pub writer : Words
  pub reader : Words
  pub scratch : Words
  pub output : Bytes
  pub reports : Words
  pub records : Words

abbrev pub layer_result : ReadAnswer → (w r scratch : Words) (output : Bytes) (reports records : Words) → LayerResult
layer_result answer w r scratch output reports records =
    record { answer = answer; writer = w; reader = r; scratch = scratch; output = output; reports = reports; records = records }

-- by the results of both starts, the write and the read: the first that is refused ends it, with its number
unfoldable pub layer_by : Lent → StartResult → StartResult → WriteResult → ReadResult as_words → LayerResult
layer_by b s t p q =
    cond (not (eqb s.answer 0))
    (layer_result (refused_answer s.answer) s.state b.reader b.scratch b.output b.reports b.records)
    (cond (not (eqb t.answer 0))
    (layer_result (refused_answer t.answer) s.state t.state b.scratch b.output b.reports b.records)
    (cond (not (eqb p.answer.refusal 0))
    (layer_result (refused_answer p.answer.refusal) p.state t.state p.scratch p.output b.reports b.records)
    (layer_result q.answer p.state q.state q.scratch p.output q.reports q.records)))

unfoldable pub write_and_read : FirstLayer → Lent → LayerResult
write_and_read l b =
    let s = start writer l.count l.bands l.style l.planes b.writer in
    let t = start reader l.count l.bands l.style [] b.reader in
    let p = write s.state b.scratch l.contribution l.body l.markers l.number b.output in
    layer_by b s t p (read as_words t.state p.scratch l.markers p.output b.reports b.records)

-- ---- the round trip of one layer

abbrev pub write_call_of : FirstLayer → Lent → WriteCall
write_call_of l b = record {
  scratch = b.scratch;
  contribution = l.contribution;
  body = l.body;
  markers = l.markers;
  number = l.number;
  output = b.output;
}

abbrev pub book_of : FirstLayer → List BlockEntry
book_of l = new_book (take l.count l.bands) l.planes

-- the packet that is owed, and its read
abbrev pub owed_of : FirstLayer → Lent → Owed
owed_of l b = owed_for l.style (book_of l) (write_call_of l b) (write_of_layer l b)

abbrev pub read_call_of : FirstLayer → Lent → ReadCall as_words
read_call_of l b =
    let p = write_of_layer l b in
    record { scratch = p.scratch; markers = l.markers; input = p.output; reports = b.reports; records = b.records }

-- nothing refuses the starts and the packet, and the premises of the round trip hold
pub record Premises (l : FirstLayer) (b : Lent) : Type 0 where
  pub writer-starts : (start writer l.count l.bands l.style l.planes b.writer).answer ≡ 0
  pub reader-starts : (start reader l.count l.bands l.style [] b.reader).answer ≡ 0
  pub accepted : (write_of_layer l b).answer.refusal ≡ 0
  pub terminated : T (terminated_as_style l.style (book_of l) l.contribution.counts l.contribution.marks)
  pub reports_length : length b.reports ≡ report_width * length (owed_of l b).entry.reports
  pub records_enough : length (owed_of l b).entry.records ≤ as_words.room b.records

-- then what is left is the entry
unfoldable pub LayerReadBack : Type 0
LayerReadBack =
    (l : FirstLayer) (b : Lent)
    → Premises l b
    → let z = write_and_read l b in
    GivesEntry as_words (owed_of l b) (read_call_of l b) (read_result as_words z.reader z.scratch z.reports z.records z.answer)
