-- The exported calls (include/tonkelvi.h): those of Start and Packet with the lists that the interface adds. These are `bands`, nine
-- words; `answer`, as many words as the call answers; and the work list of a read into structs. `bands` and `answer` are looked at first:
-- with another length the call gives 3 and changes no list.
use Rattle.std.specs.Prelude.{ℕ, ◌+◌, ◌*◌, Bool, true, cond, ◌||◌, List, [], ◌∷◌, ◌++◌, length, get_or, take, replicate, eqb}
use Rattle.t800.specs.declared.Band.{Band}
use Rattle.t800.specs.declared.Markers.{Markers}
use Rattle.t800.specs.declared.ReadAnswer.{ReadAnswer}
use Rattle.t800.specs.declared.ReadGatheredAnswer.{ReadGatheredAnswer}
use Rattle.t800.specs.declared.SegmentRecord.{SegmentRecord}
use Rattle.t800.specs.Base.{Words, Bytes}
use Rattle.t800.specs.Refusals.{check, first_of, list_refusal, state_refusal}
use Rattle.t800.specs.State.{writer, reader, role, layer, bands, blocks, state_length}
use Rattle.t800.specs.Ranges.{bad_shape, valid_state}
use Rattle.t800.specs.Start.{StartResult, start}
use Rattle.t800.specs.Reports.{record_width, as_records, as_words}
use Rattle.t800.specs.WriteHeader.{Contribution}
use Rattle.t800.specs.Packet.{state_checks, MeasureResult, measure, WriteResult, write, ReadResult, read, read_result, refused_answer}
use Rattle.t800.specs.Layer.{LayerCall, LayerResult, write_layer}
use Rattle.t800.specs.Gathered.{read_gathered, GatherResult, gather, SpreadResult, spread}

-- ---- starts

-- band i: across, down, planes
unfoldable pub band_in : (words : Words) (i : ℕ) → Band
band_in words i = record { across = get_or words (3 * i) 0; down = get_or words (3 * i + 1) 0; planes = get_or words (3 * i + 2) 0 }

abbrev pub bands_in : (words : Words) → List Band
bands_in words = band_in words 0 ∷ band_in words 1 ∷ band_in words 2 ∷ []

-- the length that a start asks of its state; 0 where it gives 1, or 3 for `bands`
unfoldable pub state_length_of : (count : ℕ) (bands : Words) → ℕ
state_length_of count bands =
    let used = take count (bands_in bands) in
    cond (eqb (length bands) 9) (cond (bad_shape count used) 0 (state_length used)) 0

unfoldable pub start_call : (role : ℕ) (count : ℕ) (bands : Words) (style : ℕ) (planes state : Words) → StartResult
start_call role count bands style planes state =
    cond (eqb (length bands) 9) (start role count (bands_in bands) style planes state) (record { answer = list_refusal; state = state })

-- ---- measuring

-- The number that a call gives, and what its lists hold at exit: here and below.
pub record MeasureExit : Type 0 where
  pub refusal : ℕ
  pub scratch : Words
  pub answer : Words

abbrev pub measure_exit : (result : MeasureResult) → MeasureExit
measure_exit r = record { refusal = r.answer.refusal; scratch = r.scratch; answer = r.answer.header ∷ r.answer.body ∷ [] }

unfoldable pub measure_call : (state scratch : Words) (brought : Contribution) (markers : Markers) (answer : Words)
    → MeasureExit
measure_call state scratch brought markers answer =
    cond (eqb (length answer) 2) (measure_exit (measure state scratch brought markers))
    (record { refusal = list_refusal; scratch = scratch; answer = answer })

-- ---- writing

pub record WriteExit : Type 0 where
  pub refusal : ℕ
  pub state : Words
  pub scratch : Words
  pub output : Bytes
  pub answer : Words

abbrev pub write_exit : (result : WriteResult) → WriteExit
write_exit r = record {
  refusal = r.answer.refusal;
  state = r.state;
  scratch = r.scratch;
  output = r.output;
  answer = r.answer.bytes ∷ [];
}

unfoldable pub write_call : (state scratch : Words) (brought : Contribution) (body : Bytes) (markers : Markers)
    (number : ℕ) (output : Bytes) (answer : Words) → WriteExit
write_call state scratch brought body markers number output answer =
    cond (eqb (length answer) 1) (write_exit (write state scratch brought body markers number output))
    (record { refusal = list_refusal; state = state; scratch = scratch; output = output; answer = answer })

-- ---- writing a layer

pub record LayerExit : Type 0 where
  pub refusal : ℕ
  pub states : Words
  pub scratch : Words
  pub output : Bytes
  pub answer : Words

abbrev pub layer_exit : (result : LayerResult) → LayerExit
layer_exit r = record {
  refusal = r.answer.refusal;
  states = r.states;
  scratch = r.scratch;
  output = r.output;
  answer = r.answer.place ∷ r.answer.bytes ∷ [];
}

unfoldable pub write_layer_call : (states : Words) (call : LayerCall) (answer : Words) → LayerExit
write_layer_call states call answer =
    cond (eqb (length answer) 2) (layer_exit (write_layer states call))
    (record { refusal = list_refusal; states = states; scratch = call.scratch; output = call.output; answer = answer })

-- ---- reading

pub record ReadExit : Type 0 where
  pub refusal : ℕ
  pub state : Words
  pub scratch : Words
  pub reports : Words
  pub work : Words
  pub records : List SegmentRecord
  pub answer : Words

abbrev pub read_words : (answer : ReadAnswer) → Words
read_words a = a.present ∷ a.taken ∷ a.segments ∷ a.sop ∷ a.eph ∷ a.past ∷ []

abbrev pub read_exit : (result : ReadResult as_records) (work : Words) → ReadExit
read_exit r work = record {
  refusal = r.answer.refusal;
  state = r.state;
  scratch = r.scratch;
  reports = r.reports;
  work = work;
  records = r.records;
  answer = read_words r.answer;
}

-- 3 for a work list that is not four words a struct, where neither 5 nor 6 comes before it
unfoldable pub work_refusal : (state scratch : Words) → ℕ
work_refusal state scratch = first_of (state_checks reader state (length scratch) ++ check list_refusal true ∷ [])

-- Packet's `read` into the structs. The work list holds what the same read leaves in it.
unfoldable pub read_call : (state scratch : Words) (markers : Markers) (input : Bytes) (reports work : Words)
    (records : List SegmentRecord) (answer : Words) → ReadExit
read_call state scratch markers input reports work records answer =
    let done = read_exit (read as_records state scratch markers input reports records)
    (read as_words state scratch markers input reports work).records in
    let wrong_work = read_exit (read_result as_records state scratch reports records (refused_answer (work_refusal state scratch))) work in
    let wrong_answer : ReadExit = record {
      refusal = list_refusal;
      state = state;
      scratch = scratch;
      reports = reports;
      work = work;
      records = records;
      answer = answer;
    } in
    cond (eqb (length answer) 6) (cond (eqb (length work) (record_width * length records)) done wrong_work) wrong_answer

-- ---- reading from gathered headers

abbrev pub gathered_words : (answer : ReadGatheredAnswer) → Words
gathered_words a = a.present ∷ a.headers ∷ a.taken ∷ a.segments ∷ a.sop ∷ a.eph ∷ a.past ∷ []

-- as `read_call`
unfoldable pub read_gathered_call : (state scratch : Words) (markers : Markers) (headers input : Bytes) (reports work : Words)
    (records : List SegmentRecord) (answer : Words) → ReadExit
read_gathered_call state scratch markers headers input reports work records answer =
    let r = read_gathered as_records state scratch markers headers input reports records in
    let done : ReadExit = record {
      refusal = r.answer.refusal;
      state = r.state;
      scratch = r.scratch;
      reports = r.reports;
      work = (read_gathered as_words state scratch markers headers input reports work).records;
      records = r.records;
      answer = gathered_words r.answer;
    } in
    let untouched : (why : ℕ) (words : Words) → ReadExit = λ why words. record {
      refusal = why;
      state = state;
      scratch = scratch;
      reports = reports;
      work = work;
      records = records;
      answer = words;
    } in
    let wrong_work = untouched (work_refusal state scratch) (replicate 7 0) in
    cond (eqb (length answer) 7) (cond (eqb (length work) (record_width * length records)) done wrong_work) (untouched list_refusal answer)

-- ---- headers gathered in front, and back

pub record GatherExit : Type 0 where
  pub refusal : ℕ
  pub scratch : Words
  pub headers : Bytes
  pub bodies : Bytes
  pub answer : Words

abbrev pub gather_exit : (result : GatherResult) → GatherExit
gather_exit r = record {
  refusal = r.answer.refusal;
  scratch = r.scratch;
  headers = r.headers;
  bodies = r.bodies;
  answer = r.answer.headers ∷ r.answer.bodies ∷ [];
}

unfoldable pub gather_call : (row : Bytes) (states scratch places : Words) (markers : Markers) (headers bodies : Bytes) (answer : Words)
    → GatherExit
gather_call row states scratch places markers headers bodies answer =
    cond (eqb (length answer) 2) (gather_exit (gather row states scratch places markers headers bodies))
    (record { refusal = list_refusal; scratch = scratch; headers = headers; bodies = bodies; answer = answer })

pub record SpreadExit : Type 0 where
  pub refusal : ℕ
  pub scratch : Words
  pub row : Bytes
  pub answer : Words

abbrev pub spread_exit : (result : SpreadResult) → SpreadExit
spread_exit r = record { refusal = r.answer.refusal; scratch = r.scratch; row = r.row; answer = r.answer.bytes ∷ [] }

unfoldable pub spread_call : (headers bodies : Bytes) (states scratch places : Words) (markers : Markers) (row : Bytes) (answer : Words)
    → SpreadExit
spread_call headers bodies states scratch places markers row answer =
    cond (eqb (length answer) 1) (spread_exit (spread headers bodies states scratch places markers row))
    (record { refusal = list_refusal; scratch = scratch; row = row; answer = answer })

-- ---- what a state is

pub record DescribeExit : Type 0 where
  pub refusal : ℕ
  pub answer : Words

-- a writer's or a reader's, in the ranges of refusal 5
unfoldable pub any_state : (state : Words) → Bool
any_state state = valid_state writer state (length state) || valid_state reader state (length state)

-- role, next layer, number of blocks
unfoldable pub describe_call : (state : Words) (answer : Words) → DescribeExit
describe_call state answer =
    let told : DescribeExit = record { refusal = 0; answer = role state ∷ layer state ∷ length (blocks (bands state)) ∷ [] } in
    let out_of_range : DescribeExit = record { refusal = state_refusal; answer = 0 ∷ 0 ∷ 0 ∷ [] } in
    cond (eqb (length answer) 3) (cond (any_state state) told out_of_range) (record { refusal = list_refusal; answer = answer })
