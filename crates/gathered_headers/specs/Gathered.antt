-- Headers gathered in front (request No. 7): what reading from gathered headers tells, what the move and the move back restore, and what a
-- refused call leaves.
use Rattle.std.specs.Prelude.{◌≡◌, ◌≢◌, Bool, true, ◌&&◌, List, [], ◌∷◌, ℕ, ◌+◌, ◌-◌, ◌≤◌, length, set, take, drop, T, eqb}
use Rattle.t800.specs.declared.Markers.{Markers}
use Rattle.t800.specs.Base.{Words, Bytes, overwrite, wiped}
use Rattle.t800.specs.Reports.{RecordForm, as_found, body_bytes}
use Rattle.t800.specs.MarkerSegments.{read_sop}
use Rattle.t800.specs.Packet.{ReadResult, read}
use Rattle.t800.specs.PackedHeaders.{most_segments, segments_for, packed, unpacked}
use Rattle.t800.specs.Gathered.{GatheredResult, read_gathered, state_at, reports_for, states_in}
use Rattle.t800.specs.Gathered.{gather, spread}

-- ---- one packet

-- What a read of the stream tells, as a read from gathered headers tells it: all but the bytes taken, of which so many are in the gathered
-- headers and so many beside the bodies.
abbrev pub told_gathered : (form : RecordForm) → ReadResult form → (headers taken : ℕ) → GatheredResult form
told_gathered form r headers taken =
    let a = r.answer in
    record {
      answer = record {
        refusal = a.refusal;
        present = a.present;
        headers = headers;
        taken = taken;
        segments = a.segments;
        sop = a.sop;
        eph = a.eph;
        past = a.past;
      };
      state = r.state;
      scratch = r.scratch;
      reports = r.reports;
      records = r.records;
    }

-- Of every accepted read with each chosen marker in place: where the gathered headers begin with the packet's header, and go on behind it
-- only where the header took no bit past the row's end, and src begins with its SOP.
unfoldable pub SameReading : Type 1
SameReading =
    (form : RecordForm) (state scratch : Words) (m : Markers) (row headers src : Bytes) (reports : Words) (records : form.Lent)
    → let r = read form state scratch m row reports records in
    let sop = (read_sop m row).skip in
    let header = r.answer.taken - sop in
    r.answer.refusal ≡ 0
    → r.answer.sop ≡ 0
    → r.answer.eph ≡ 0
    → take header headers ≡ take header (drop sop row)
    → (r.answer.past ≢ 0 → length headers ≡ header)
    → take sop src ≡ take sop row
    → read_gathered form state scratch m headers src reports records ≡ told_gathered form r header sop

-- ---- rows of packets

-- a packet as the moves read it, from the row and from gathered headers
abbrev pub row_read : (state : Words) → Markers → (row : Bytes) → ReadResult as_found
row_read state m row = read as_found state state m row (reports_for state) []

abbrev pub gathered_read : (state : Words) → Markers → (headers bodies : Bytes) → GatheredResult as_found
gathered_read state m headers bodies = read_gathered as_found state state m headers bodies (reports_for state) []

-- every chosen marker is in place in the row's packets, one a place
unfoldable pub in_place : Markers → (places : Words) (states : List Words) (row : Bytes) → Bool
in_place m [] ss row = true
in_place m (place ∷ places) ss row =
    let r = row_read (state_at ss place) m row in
    let next = drop (r.answer.taken + body_bytes r.records) row in
    eqb r.answer.sop 0 && eqb r.answer.eph 0 && in_place m places (set ss place r.state) next

-- the same of packets whose headers are gathered, and no header takes a bit past their end
unfoldable pub in_place_gathered : Markers → (places : Words) (states : List Words) (headers bodies : Bytes) → Bool
in_place_gathered m [] ss headers bodies = true
in_place_gathered m (place ∷ places) ss headers bodies =
    let r = gathered_read (state_at ss place) m headers bodies in
    let a = r.answer in
    let later = in_place_gathered m places (set ss place r.state) (drop a.headers headers)
    (drop (a.taken + body_bytes r.records) bodies) in
    eqb a.sop 0 && eqb a.eph 0 && eqb a.past 0 && later

-- moving and moving back restores each byte, and ends with the same states
unfoldable pub ThereAndBack : Type 0
ThereAndBack =
    (row : Bytes) (states scratch places : Words) (m : Markers) (headers bodies : Bytes)
    → let g = gather row states scratch places m headers bodies in
    g.answer.refusal ≡ 0
    → T (in_place m places (states_in states) row)
    → (work lent : List ℕ)
    → length work ≡ length states
    → length row ≤ length lent
    → spread (take g.answer.headers g.headers) (take g.answer.bodies g.bodies) states work places m lent
    ≡ record { answer = record { refusal = 0; bytes = length row }; scratch = g.scratch; row = overwrite lent row }

-- and moving back and moving again, where the segments are filled as a move fills them
unfoldable pub BackAndThere : Type 0
BackAndThere =
    (headers bodies : Bytes) (states scratch places : Words) (m : Markers) (row : Bytes)
    → let s = spread headers bodies states scratch places m row in
    let plain = (unpacked headers).bytes in
    s.answer.refusal ≡ 0
    → headers ≡ packed plain
    → segments_for (length plain) ≤ most_segments
    → T (in_place_gathered m places (states_in states) plain bodies)
    → (work lent_headers lent_bodies : List ℕ)
    → length work ≡ length states
    → length headers ≤ length lent_headers
    → length bodies ≤ length lent_bodies
    → gather (take s.answer.bytes s.row) states work places m lent_headers lent_bodies
    ≡ record {
      answer = record { refusal = 0; headers = length headers; bodies = length bodies };
      scratch = s.scratch;
      headers = overwrite lent_headers headers;
      bodies = overwrite lent_bodies bodies;
    }

-- ---- refusals

-- a refused move wipes outputs and scratch, and 13 is never given; on the way back 15 isn't either
unfoldable pub GatherRefuses : Type 0
GatherRefuses =
    (row : Bytes) (states scratch places : Words) (m : Markers) (headers bodies : Bytes)
    → let g = gather row states scratch places m headers bodies in
    (g.answer.refusal ≢ 13)
    × (g.answer.refusal ≤ 15)
    × (g.answer.refusal ≢ 0
    → g ≡ record {
      answer = record { refusal = g.answer.refusal; headers = 0; bodies = 0 };
      scratch = wiped scratch;
      headers = wiped headers;
      bodies = wiped bodies;
    })

unfoldable pub SpreadRefuses : Type 0
SpreadRefuses =
    (headers bodies : Bytes) (states scratch places : Words) (m : Markers) (row : Bytes)
    → let s = spread headers bodies states scratch places m row in
    (s.answer.refusal ≢ 13)
    × (s.answer.refusal ≢ 15)
    × (s.answer.refusal ≤ 16)
    × (s.answer.refusal ≢ 0
    → s ≡ record { answer = record { refusal = s.answer.refusal; bytes = 0 }; scratch = wiped scratch; row = wiped row })
