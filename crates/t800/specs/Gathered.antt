-- A tile-part's packet headers gathered in front (SCOPE S22): a packet read from gathered headers, the move of the headers of a row of
-- packets into PPT marker segments, and the move back. SOP remains with the body, and EPH travels with the header.
use Rattle.std.specs.Prelude.{ℕ, zero, suc, ◌+◌, ◌-◌, ◌*◌, Bool, false, cond, ◌||◌, not, length, get_or, set, take, drop, replicate, ltb, leb, eqb}
use mathlib.Core.List.{List, [], ◌∷◌, ◌++◌, flat_map}
use Rattle.t800.specs.declared.Markers.{Markers}
use Rattle.t800.specs.declared.WriteAnswer.{WriteAnswer}
use Rattle.t800.specs.declared.ReadAnswer.{ReadAnswer}
use Rattle.t800.specs.declared.ReadGatheredAnswer.{ReadGatheredAnswer}
use Rattle.t800.specs.declared.GatherAnswer.{GatherAnswer}
use Rattle.t800.specs.Base.{Words, Bytes, any, overwrite, wiped}
use Rattle.t800.specs.Refusals.{check, first_of, state_refusal, body_refusal, space_refusal, segments_refusal}
use Rattle.t800.specs.State.{reader, bands, blocks, state_length}
use Rattle.t800.specs.Ranges.{valid_state}
use Rattle.t800.specs.Reports.{report_width, body_bytes, RecordForm, as_found}
use Rattle.t800.specs.MarkerSegments.{read_sop}
use Rattle.t800.specs.Packet.{read}
use Rattle.t800.specs.PackedHeaders.{most_segments, packed, segments_for, unpacked}

-- ---- reading from gathered headers

pub record GatheredResult (form : RecordForm) : Type 0 where
  pub answer : ReadGatheredAnswer
  pub state : Words
  pub scratch : Words
  pub reports : Words
  pub records : form.Lent

-- what a read of the headers tells, with SOP looked for in front of src
abbrev pub told_beside : Markers → (src : Bytes) → ReadAnswer → ReadGatheredAnswer
told_beside m src a =
    let sop = read_sop m src in
    record {
      refusal = a.refusal;
      present = a.present;
      headers = a.taken;
      taken = cond (eqb a.refusal 0) sop.skip 0;
      segments = a.segments;
      sop = cond (eqb a.refusal 0) sop.mark 0;
      eph = a.eph;
      past = a.past;
    }

abbrev pub without_sop : Markers → Markers
without_sop m = record { sop = false; eph = m.eph }

abbrev pub gathered_result : (form : RecordForm) (state scratch reports : Words) (records : form.Lent) (answer : ReadGatheredAnswer)
    → GatheredResult form
gathered_result form state scratch reports records answer =
    record { answer = answer; state = state; scratch = scratch; reports = reports; records = records }

-- header and EPH as from a stream without SOP
unfoldable pub read_gathered : (form : RecordForm) (state scratch : Words) → Markers → (headers src : Bytes) (reports : Words)
    (records : form.Lent) → GatheredResult form
read_gathered form state scratch m headers src reports records =
    let r = read form state scratch (without_sop m) headers reports records in
    gathered_result form r.state r.scratch r.reports r.records (told_beside m src r.answer)

-- ---- states behind one another

-- each as long as its bands ask, and the last one what is left
unfoldable pub states_from : (bound : ℕ) (words : Words) → List Words
states_from zero words = []
states_from (suc bound) words =
    let n = state_length (bands words) in
    let later = states_from bound (drop n words) in
    cond (eqb (length words) 0) [] (take n words ∷ later)

unfoldable pub states_in : (words : Words) → List Words
states_in words = states_from (length words) words

-- 5: a state out of range, cut short or with words left over, a scratch of another length, or a place without a state
unfoldable pub bad_states : (states : Words) (scratch_length : ℕ) (places : Words) → Bool
bad_states states scratch_length places =
    let ss = states_in states in
    not (eqb scratch_length (length states))
    || any (λ s. not (valid_state reader s (length s))) ss
    || any (λ place. leb (length ss) place) places

-- the state at a place
abbrev pub state_at : List Words → (place : ℕ) → Words
state_at ss place = get_or ss place []

-- ---- one packet of a move

-- the reader's refusal or 0, the state after the packet, and how many bytes its parts have: SOP, the header with EPH, the body
pub record Parts : Type 0 where
  pub refusal : ℕ
  pub state : Words
  pub sop : ℕ
  pub header : ℕ
  pub body : ℕ

-- reports enough for the reader's own list check
abbrev pub reports_for : (state : Words) → Words
reports_for state = replicate (report_width * length (blocks (bands state))) 0

-- in front of a row of packets
unfoldable pub parts_in_row : (state : Words) → Markers → (row : Bytes) → Parts
parts_in_row state m row =
    let r = read as_found state state m row (reports_for state) [] in
    let sop = (read_sop m row).skip in
    record {
      refusal = r.answer.refusal;
      state = r.state;
      sop = sop;
      header = r.answer.taken - sop;
      body = body_bytes r.records;
    }

-- in front of gathered headers, and of the bodies that they were taken from
unfoldable pub parts_gathered : (state : Words) → Markers → (headers bodies : Bytes) → Parts
parts_gathered state m headers bodies =
    let r = read_gathered as_found state state m headers bodies (reports_for state) [] in
    record {
      refusal = r.answer.refusal;
      state = r.state;
      sop = r.answer.taken;
      header = r.answer.headers;
      body = body_bytes r.records;
    }

-- ---- gathering

-- the refusal or 0, the states as they are by now, what is left of the row, and the header bytes and the other bytes so far
pub record Gathering : Type 0 where
  pub refusal : ℕ
  pub states : List Words
  pub row : Bytes
  pub headers : Bytes
  pub bodies : Bytes

-- one packet, with so many bytes of output for segments and bodies: the reader's number, 10, 15, 11
unfoldable pub gather_packet : Markers → (headers_room bodies_room place : ℕ) → Gathering → Gathering
gather_packet m headers_room bodies_room place g =
    let p = parts_in_row (state_at g.states place) m g.row in
    let headers = g.headers ++ take p.header (drop p.sop g.row) in
    let bodies = g.bodies ++ take p.sop g.row ++ take p.body (drop (p.sop + p.header) g.row) in
    record {
      refusal = first_of
          (check p.refusal (not (eqb p.refusal 0))
          ∷ check body_refusal (ltb (length g.row) (p.sop + p.header + p.body))
          ∷ check segments_refusal (ltb most_segments (segments_for (length headers)))
          ∷ check space_refusal (ltb headers_room (length (packed headers)) || ltb bodies_room (length bodies))
          ∷ []);
      states = set g.states place p.state;
      row = drop (p.sop + p.header + p.body) g.row;
      headers = headers;
      bodies = bodies;
    }

-- one packet a place, until one is refused
unfoldable pub gather_packets : Markers → (headers_room bodies_room : ℕ) (places : Words) → Gathering → Gathering
gather_packets m headers_room bodies_room [] g = g
gather_packets m headers_room bodies_room (place ∷ places) g =
    let a = gather_packet m headers_room bodies_room place g in
    let later = gather_packets m headers_room bodies_room places a in
    cond (eqb a.refusal 0) later a

pub record GatherResult : Type 0 where
  pub answer : GatherAnswer
  pub scratch : Words
  pub headers : Bytes
  pub bodies : Bytes

-- 5 before any packet; 10 for what is left of the row
unfoldable pub gather : (row : Bytes) (states scratch places : Words) → Markers → (headers bodies : Bytes) → GatherResult
gather row states scratch places m headers bodies =
    let g = gather_packets m (length headers) (length bodies) places
    (record { refusal = 0; states = states_in states; row = row; headers = []; bodies = [] }) in
    let why = first_of
    (check state_refusal (bad_states states (length scratch) places)
    ∷ check g.refusal (not (eqb g.refusal 0))
    ∷ check body_refusal (not (eqb (length g.row) 0))
    ∷ []) in
    let made = packed g.headers in
    let done : GatherResult =
    record {
      answer = record { refusal = 0; headers = length made; bodies = length g.bodies };
      scratch = flat_map (λ s. s) g.states;
      headers = overwrite headers made;
      bodies = overwrite bodies g.bodies;
    } in
    let refused : GatherResult =
    record {
      answer = record { refusal = why; headers = 0; bodies = 0 };
      scratch = wiped scratch;
      headers = wiped headers;
      bodies = wiped bodies;
    } in
    cond (eqb why 0) done refused

-- ---- and back

-- the refusal or 0, the states as they are by now, what is left of header bytes and bodies, and the row so far
pub record Spreading : Type 0 where
  pub refusal : ℕ
  pub states : List Words
  pub headers : Bytes
  pub bodies : Bytes
  pub row : Bytes

-- one packet, with so many bytes of output for the row: the reader's number, 10, 11
unfoldable pub spread_packet : Markers → (row_room place : ℕ) → Spreading → Spreading
spread_packet m row_room place s =
    let p = parts_gathered (state_at s.states place) m s.headers s.bodies in
    let row = s.row ++ take p.sop s.bodies ++ take p.header s.headers ++ take p.body (drop p.sop s.bodies) in
    record {
      refusal = first_of
          (check p.refusal (not (eqb p.refusal 0))
          ∷ check body_refusal (ltb (length s.bodies) (p.sop + p.body))
          ∷ check space_refusal (ltb row_room (length row))
          ∷ []);
      states = set s.states place p.state;
      headers = drop p.header s.headers;
      bodies = drop (p.sop + p.body) s.bodies;
      row = row;
    }

unfoldable pub spread_packets : Markers → (row_room : ℕ) (places : Words) → Spreading → Spreading
spread_packets m row_room [] s = s
spread_packets m row_room (place ∷ places) s =
    let a = spread_packet m row_room place s in
    let later = spread_packets m row_room places a in
    cond (eqb a.refusal 0) later a

pub record SpreadResult : Type 0 where
  pub answer : WriteAnswer
  pub scratch : Words
  pub row : Bytes

-- 16 before all else, then 5 before any packet; 10 for header or body bytes that are left
unfoldable pub spread : (headers bodies : Bytes) (states scratch places : Words) → Markers → (row : Bytes) → SpreadResult
spread headers bodies states scratch places m row =
    let u = unpacked headers in
    let s = spread_packets m (length row) places
    (record { refusal = 0; states = states_in states; headers = u.bytes; bodies = bodies; row = [] }) in
    let why = first_of
    (check u.refusal (not (eqb u.refusal 0))
    ∷ check state_refusal (bad_states states (length scratch) places)
    ∷ check s.refusal (not (eqb s.refusal 0))
    ∷ check body_refusal (not (eqb (length s.headers + length s.bodies) 0))
    ∷ []) in
    let done : SpreadResult =
    record {
      answer = record { refusal = 0; bytes = length s.row };
      scratch = flat_map (λ t. t) s.states;
      row = overwrite row s.row;
    } in
    let refused : SpreadResult =
    record { answer = record { refusal = why; bytes = 0 }; scratch = wiped scratch; row = wiped row } in
    cond (eqb why 0) done refused
