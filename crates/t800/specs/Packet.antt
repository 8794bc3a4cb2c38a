-- Measuring, writing and reading one packet (SCOPE S2, S4, S5 and S7): each is one
-- function from the arguments and what the lent lists hold at entry to the answer and what they hold at exit.
use Rattle.std.specs.Prelude.{ℕ, ◌+◌, ◌*◌, Bool, cond, ◌&&◌, ◌||◌, not, List, [], ◌∷◌, ◌++◌, length, set, ltb, eqb}
use Rattle.t800.specs.declared.Bio.{Bio}
use Rattle.t800.specs.declared.Markers.{Markers}
use Rattle.t800.specs.declared.MeasureAnswer.{MeasureAnswer}
use Rattle.t800.specs.declared.WriteAnswer.{WriteAnswer}
use Rattle.t800.specs.declared.ReadAnswer.{ReadAnswer}
use Rattle.t800.specs.Base.{Words, Bytes, any, sum, overwrite, wiped}
use Rattle.t800.specs.Refusals.{Check, check, first_of, list_refusal, state_refusal, layers_refusal, passes_refusal, length_refusal}
use Rattle.t800.specs.Refusals.{width_refusal, body_refusal, space_refusal, header_end_refusal, records_refusal}
use Rattle.t800.specs.Bits.{Decoded, bio_at, get_bit, pack, bytes_taken, bits_past}
use Rattle.t800.specs.State.{Block, not_yet_included, writer, reader, blocks, bands, layer}
use Rattle.t800.specs.Ranges.{valid_state_with}
use Rattle.t800.specs.Reports.{report_width, report_words, RecordForm}
use Rattle.t800.specs.WriteHeader.{Contribution, code_header, segment_too_long, field_too_wide}
use Rattle.t800.specs.ReadHeader.{HeaderRead, read_header}
use Rattle.t800.specs.MarkerSegments.{with_markers, MarkerRead, read_sop, read_eph}

-- ---- what is looked for first in measuring, writing and reading, with so many layers: 5, 6

abbrev pub state_checks_with : (layers role : ℕ) (state : Words) (scratch_length : ℕ) → List Check
state_checks_with layers role state scratch_length =
    check state_refusal (not (valid_state_with layers role state scratch_length)) ∷ check layers_refusal (eqb (layer state) layers) ∷ []

-- ---- measuring

-- pass counts not as many as the blocks, pass lengths or marks not as many as the counts add up to
unfoldable pub wrong_lists : Contribution → (num_blocks : ℕ) → Bool
wrong_lists p num_blocks =
    not (eqb (length p.counts) num_blocks)
    || not (eqb (length p.lengths) (sum p.counts))
    || not (eqb (length p.marks) (sum p.counts))

-- 8, 9
abbrev pub segment_checks : (state : Words) → List Block → Contribution → List Check
segment_checks state ks p =
    check length_refusal (segment_too_long p.counts p.lengths p.marks)
    ∷ check width_refusal (field_too_wide state ks p.counts p.lengths p.marks)
    ∷ []

-- 3, 7, 8, 9
abbrev pub contribution_checks : (state : Words) → Contribution → List Check
contribution_checks state p =
    let ks = blocks (bands state) in
    check list_refusal (wrong_lists p (length ks)) ∷ check passes_refusal (any (λ c. ltb 164 c) p.counts) ∷ segment_checks state ks p

abbrev pub measure_checks_with : (layers : ℕ) (state scratch : Words) → Contribution → List Check
measure_checks_with layers state scratch p = state_checks_with layers writer state (length scratch) ++ contribution_checks state p

unfoldable pub measure_refusal_with : (layers : ℕ) (state scratch : Words) → Contribution → ℕ
measure_refusal_with layers state scratch p = first_of (measure_checks_with layers state scratch p)

-- the packet less its body
unfoldable pub front : (state : Words) → Contribution → Markers → (number : ℕ) → Bytes
front state p m number = with_markers m number (pack (code_header p state).bits)

pub record MeasureResult : Type 0 where
  pub answer : MeasureAnswer
  pub scratch : Words

-- the packet number has no part in the length
unfoldable pub measure_with : (layers : ℕ) (state scratch : Words) → Contribution → Markers → MeasureResult
measure_with layers state scratch p m =
    let why = measure_refusal_with layers state scratch p in
    let done : MeasureResult = record {
      answer = record { refusal = 0; header = length (front state p m 0); body = sum p.lengths };
      scratch = (code_header p state).words;
    } in
    cond (eqb why 0) done (record { answer = record { refusal = why; header = 0; body = 0 }; scratch = scratch })

-- ---- writing

unfoldable pub packet : (state : Words) → Contribution → (body : Bytes) → Markers → (number : ℕ) → Bytes
packet state p body m number = front state p m number ++ body

-- then 10, 11
abbrev pub packet_checks : (state : Words) → Contribution → (body : Bytes) → Markers → (number : ℕ) (output : Bytes) → List Check
packet_checks state p body m number output =
    check body_refusal (not (eqb (length body) (sum p.lengths)))
    ∷ check space_refusal (ltb (length output) (length (packet state p body m number)))
    ∷ []

abbrev pub write_checks_with : (layers : ℕ) (state scratch : Words) → Contribution → (body : Bytes) → Markers → (number : ℕ) (output : Bytes)
    → List Check
write_checks_with layers state scratch p body m number output =
    measure_checks_with layers state scratch p ++ packet_checks state p body m number output

unfoldable pub write_refusal_with : (layers : ℕ) (state scratch : Words) → Contribution → (body : Bytes) → Markers → (number : ℕ)
    (output : Bytes) → ℕ
write_refusal_with layers state scratch p body m number output = first_of (write_checks_with layers state scratch p body m number output)

pub record WriteResult : Type 0 where
  pub answer : WriteAnswer
  pub state : Words
  pub scratch : Words
  pub output : Bytes

unfoldable pub write_with : (layers : ℕ) (state scratch : Words) → Contribution → (body : Bytes) → Markers → (number : ℕ) (output : Bytes)
    → WriteResult
write_with layers state scratch p body m number output =
    let why = write_refusal_with layers state scratch p body m number output in
    let made = packet state p body m number in
    let after = (code_header p state).words in
    let no : WriteAnswer = record { refusal = why; bytes = 0 } in
    let done : WriteResult =
    record { answer = record { refusal = 0; bytes = length made }; state = after; scratch = after; output = overwrite output made }
    in
    let no_space : WriteResult = record { answer = no; state = state; scratch = wiped scratch; output = wiped output } in
    let unchanged : WriteResult = record { answer = no; state = state; scratch = scratch; output = output } in
    cond (eqb why 0) done (cond (eqb why space_refusal) no_space unchanged)

-- ---- reading

-- before the input is looked at: 5, 6, 3
abbrev pub read_list_checks_with : (layers : ℕ) (state scratch reports : Words) → List Check
read_list_checks_with layers state scratch reports =
    state_checks_with layers reader state (length scratch)
    ++ check list_refusal (not (eqb (length reports) (report_width * length (blocks (bands state))))) ∷ []

unfoldable pub read_refusal_with : (layers : ℕ) (state scratch reports : Words) → ℕ
read_refusal_with layers state scratch reports = first_of (read_list_checks_with layers state scratch reports)

-- the bit after SOP says whether the packet is present
abbrev pub first_bit : Markers → (src : Bytes) → Decoded
first_bit m src = get_bit src (bio_at (read_sop m src).skip)

-- with so many records lent
abbrev pub header_of : (state : Words) → Markers → (src : Bytes) (room : ℕ) → HeaderRead
header_of state m src room = read_header src room state (first_bit m src).bio

-- Then of the header's bits, where the packet is present. A header gives at most one of these, which of them its bits say: 9 before 13 at
-- each segment as it comes, 12 after all blocks.
abbrev pub header_checks : (present : Bool) (why : ℕ) → List Check
header_checks present why =
    check width_refusal (present && eqb why width_refusal)
    ∷ check records_refusal (present && eqb why records_refusal)
    ∷ check header_end_refusal (present && eqb why header_end_refusal)
    ∷ []

abbrev pub read_checks_with : (layers : ℕ) (state scratch : Words) → Markers → (src : Bytes) (reports : Words) (room : ℕ) → List Check
read_checks_with layers state scratch m src reports room =
    read_list_checks_with layers state scratch reports
    ++ header_checks (not (eqb (first_bit m src).value 0)) (header_of state m src room).refusal

-- the records are lent in either form
pub record ReadResult (form : RecordForm) : Type 0 where
  pub answer : ReadAnswer
  pub state : Words
  pub scratch : Words
  pub reports : Words
  pub records : form.Lent

abbrev pub read_result : (form : RecordForm) (state scratch reports : Words) (records : form.Lent) (answer : ReadAnswer)
    → ReadResult form
read_result form state scratch reports records answer =
    record { answer = answer; state = state; scratch = scratch; reports = reports; records = records }

abbrev pub refused_answer : (why : ℕ) → ReadAnswer
refused_answer why = record { refusal = why; present = 0; taken = 0; segments = 0; sop = 0; eph = 0; past = 0 }

-- a first bit 0, the bits standing at b after it: the packet is absent, and only the next layer moves
unfoldable pub read_absent : (form : RecordForm) (state : Words) → Markers → (src : Bytes) (reports : Words) (records : form.Lent)
    (sop : MarkerRead) (b : Bio) → ReadResult form
read_absent form state m src reports records sop b =
    let at = bytes_taken src b in
    let eph = read_eph m src at in
    let past = bits_past src (bio_at sop.skip) b in
    let after = set state 3 (layer state + 1) in
    record {
      answer = record
          { refusal = 0; present = 0; taken = at + eph.skip; segments = 0; sop = sop.mark; eph = eph.mark; past = past };
      state = after;
      scratch = after;
      reports = wiped reports;
      records = records;
    }

-- a first bit 1, and the header read without a refusal
unfoldable pub read_present : (form : RecordForm) (state : Words) → Markers → (src : Bytes) (records : form.Lent) (sop : MarkerRead)
    → HeaderRead → ReadResult form
read_present form state m src records sop r =
    let at = bytes_taken src r.bio in
    let eph = read_eph m src at in
    let past = bits_past src (bio_at sop.skip) r.bio in
    let segments = length r.records in
    let after = set r.words 3 (layer state + 1) in
    record {
      answer = record
          { refusal = 0; present = 1; taken = at + eph.skip; segments = segments; sop = sop.mark; eph = eph.mark; past = past };
      state = after;
      scratch = after;
      reports = report_words r.reports;
      records = form.stored records r.records;
    }

unfoldable pub read_with : (layers : ℕ) (form : RecordForm) (state scratch : Words) → Markers → (src : Bytes) (reports : Words)
    (records : form.Lent) → ReadResult form
read_with layers form state scratch m src reports records =
    let why = read_refusal_with layers state scratch reports in
    let sop = read_sop m src in
    let first = first_bit m src in
    let r = header_of state m src (form.room records) in
    let absent = read_absent form state m src reports records sop first.bio in
    let present = read_present form state m src records sop r in
    let broken : ReadResult form =
    record {
      answer = refused_answer r.refusal;
      state = state;
      scratch = wiped scratch;
      reports = wiped reports;
      records = form.cleared records;
    } in
    let unchanged : ReadResult form =
    record { answer = refused_answer why; state = state; scratch = scratch; reports = reports; records = records } in
    cond (not (eqb why 0)) unchanged (cond (eqb first.value 0) absent (cond (eqb r.refusal 0) present broken))

-- ---- the calls, with all layers

abbrev pub state_checks : (role : ℕ) (state : Words) (scratch_length : ℕ) → List Check
state_checks = state_checks_with not_yet_included

abbrev pub measure_checks : (state scratch : Words) → Contribution → List Check
measure_checks = measure_checks_with not_yet_included

abbrev pub measure_refusal : (state scratch : Words) → Contribution → ℕ
measure_refusal = measure_refusal_with not_yet_included

abbrev pub measure : (state scratch : Words) → Contribution → Markers → MeasureResult
measure = measure_with not_yet_included

abbrev pub write_checks : (state scratch : Words) → Contribution → (body : Bytes) → Markers → (number : ℕ) (output : Bytes) → List Check
write_checks = write_checks_with not_yet_included

abbrev pub write_refusal : (state scratch : Words) → Contribution → (body : Bytes) → Markers → (number : ℕ) (output : Bytes) → ℕ
write_refusal = write_refusal_with not_yet_included

abbrev pub write : (state scratch : Words) → Contribution → (body : Bytes) → Markers → (number : ℕ) (output : Bytes) → WriteResult
write = write_with not_yet_included

abbrev pub read_list_checks : (state scratch reports : Words) → List Check
read_list_checks = read_list_checks_with not_yet_included

abbrev pub read_refusal : (state scratch reports : Words) → ℕ
read_refusal = read_refusal_with not_yet_included

abbrev pub read_checks : (state scratch : Words) → Markers → (src : Bytes) (reports : Words) (room : ℕ) → List Check
read_checks = read_checks_with not_yet_included

abbrev pub read : (form : RecordForm) (state scratch : Words) → Markers → (src : Bytes) (reports : Words) (records : form.Lent)
    → ReadResult form
read = read_with not_yet_included
