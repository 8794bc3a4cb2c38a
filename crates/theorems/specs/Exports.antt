-- The exported calls (t800's Exports.antt) as an interface: calls that were made, each with its contract's equation in crate tonkelvi, and
-- what they are in t800's terms. Answers are the words of the lent list, where it has the length asked.
use Rattle.std.specs.Prelude.{◌≡◌, Bool, cond, ◌&&◌, List, ℕ, ◌*◌, length, get_or, take, eqb}
use Rattle.t800.specs.declared.Markers.{Markers}
use Rattle.t800.specs.declared.LayerAnswer.{LayerAnswer}
use Rattle.t800.specs.declared.SegmentRecord.{SegmentRecord}
use Rattle.t800.specs.Base.{Words, Bytes}
use Rattle.t800.specs.Refusals.{list_refusal}
use Rattle.t800.specs.Start.{StartResult}
use Rattle.t800.specs.Reports.{record_width, as_records}
use Rattle.t800.specs.Packet.{MeasureResult, WriteResult, ReadResult, read_result, refused_answer}
use Rattle.t800.specs.Exports.{bands_in, start_call, MeasureExit, measure_call, WriteExit, write_call, LayerExit, write_layer_call, ReadExit}
use Rattle.t800.specs.Exports.{work_refusal, read_call}
use Rattle.t800.specs.Interface.{StartCall, WriteCall, ReadCall}
use Rattle.t800.specs.Layer.{LayerCall, LayerResult}
use Rattle.t800.specs.Starts.{StartsFit}

-- ---- starts

pub record StartMade (role : ℕ) : Type 0 where
  pub count : ℕ
  pub bands : Words
  pub style : ℕ
  pub planes : Words
  pub lent : Words
  pub left : StartResult
  pub met : left ≡ start_call role count bands style planes lent

abbrev pub start_asked : {role : ℕ} → StartMade role → Bool
start_asked m = eqb (length m.bands) 9

abbrev pub start_args : {role : ℕ} → StartMade role → StartCall
start_args m = record { count = m.count; bands = bands_in m.bands; style = m.style; planes = m.planes }

-- ---- measuring and writing

pub record MeasureMade : Type 0 where
  pub state : Words
  pub call : WriteCall
  pub answer : Words
  pub left : MeasureExit
  pub met : left ≡ measure_call state call.scratch call.contribution call.markers answer

abbrev pub measure_asked : MeasureMade → Bool
measure_asked m = eqb (length m.answer) 2

abbrev pub measure_left : MeasureMade → MeasureResult
measure_left m =
    let a = m.left.answer in
    let told : MeasureResult = record {
      answer = record { refusal = m.left.refusal; header = get_or a 0 0; body = get_or a 1 0 };
      scratch = m.left.scratch;
    } in
    let untold : MeasureResult = record {
      answer = record { refusal = m.left.refusal; header = 0; body = 0 };
      scratch = m.left.scratch;
    } in
    cond (measure_asked m) told untold

pub record WriteMade : Type 0 where
  pub state : Words
  pub call : WriteCall
  pub answer : Words
  pub left : WriteExit
  pub met : left
      ≡ write_call state call.scratch call.contribution call.body call.markers call.number call.output answer

abbrev pub write_asked : WriteMade → Bool
write_asked m = eqb (length m.answer) 1

abbrev pub write_left : WriteMade → WriteResult
write_left m =
    let bytes = cond (write_asked m) (get_or m.left.answer 0 0) 0 in
    record {
      answer = record { refusal = m.left.refusal; bytes = bytes };
      state = m.left.state;
      scratch = m.left.scratch;
      output = m.left.output;
    }

-- ---- writing a layer

pub record LayerMade : Type 0 where
  pub states : Words
  pub call : LayerCall
  pub answer : Words
  pub left : LayerExit
  pub met : left ≡ write_layer_call states call answer

abbrev pub layer_asked : LayerMade → Bool
layer_asked m = eqb (length m.answer) 2

abbrev pub layer_left : LayerMade → LayerResult
layer_left m =
    let a = m.left.answer in
    let told : LayerAnswer = record { refusal = m.left.refusal; place = get_or a 0 0; bytes = get_or a 1 0 } in
    let untold : LayerAnswer = record { refusal = m.left.refusal; place = 0; bytes = 0 } in
    record {
      answer = cond (layer_asked m) told untold;
      states = m.left.states;
      scratch = m.left.scratch;
      output = m.left.output;
    }

-- ---- reading into structs

pub record ReadMade : Type 0 where
  pub state : Words
  pub scratch : Words
  pub markers : Markers
  pub input : Bytes
  pub reports : Words
  pub work : Words
  pub records : List SegmentRecord
  pub answer : Words
  pub left : ReadExit
  pub met : left ≡ read_call state scratch markers input reports work records answer

abbrev pub read_asked : ReadMade → Bool
read_asked m = eqb (length m.answer) 6 && eqb (length m.work) (record_width * length m.records)

abbrev pub read_args : ReadMade → ReadCall as_records
read_args m = record { scratch = m.scratch; markers = m.markers; input = m.input; reports = m.reports; records = m.records }

abbrev pub read_left : ReadMade → ReadResult as_records
read_left m =
    let a = m.left.answer in
    let told : ReadResult as_records =
    read_result as_records m.left.state m.left.scratch m.left.reports m.left.records (record {
      refusal = m.left.refusal;
      present = get_or a 0 0;
      taken = get_or a 1 0;
      segments = get_or a 2 0;
      sop = get_or a 3 0;
      eph = get_or a 4 0;
      past = get_or a 5 0;
    }) in
    let untold : ReadResult as_records =
    read_result as_records m.left.state m.left.scratch m.left.reports m.left.records (refused_answer m.left.refusal) in
    cond (eqb (length m.answer) 6) told untold

-- 3 for `answer`; for `work` 5, 6 or 3
abbrev pub read_otherwise : ReadMade → ℕ
read_otherwise m = cond (eqb (length m.answer) 6) (work_refusal m.state m.scratch) list_refusal

-- ---- where segments start

-- the records told, as many as the answer's word says
abbrev pub read_told : ReadExit → List SegmentRecord
read_told left = take (get_or left.answer 2 0) left.records

-- in every accepted read, whatever the input
unfoldable pub StartsOfExports : Type 0
StartsOfExports = (m : ReadMade) → m.left.refusal ≡ 0 → StartsFit (read_told m.left)
