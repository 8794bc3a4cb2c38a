-- What is stated of headers gathered in front (gathered_headers/specs), of exported calls that were made, each with its contract's equation.
use Rattle.std.specs.Prelude.{◌≡◌, ◌≢◌, List, [], ◌∷◌, ℕ, ◌-◌, ◌≤◌, length, get_or, take, drop, T}
use Rattle.t800.specs.declared.Markers.{Markers}
use Rattle.t800.specs.declared.SegmentRecord.{SegmentRecord}
use Rattle.t800.specs.Base.{Words, Bytes, overwrite, wiped}
use Rattle.t800.specs.MarkerSegments.{read_sop}
use Rattle.t800.specs.PackedHeaders.{most_segments, segments_for, packed, unpacked}
use Rattle.t800.specs.Gathered.{states_in}
use Rattle.t800.specs.Exports.{ReadExit, read_gathered_call, GatherExit, gather_call, SpreadExit, spread_call}
use Rattle.gathered_headers.specs.Gathered.{in_place, in_place_gathered}
use Rattle.theorems.specs.Exports.{ReadMade}

-- ---- reading

pub record GatheredMade : Type 0 where
  pub state : Words
  pub scratch : Words
  pub markers : Markers
  pub headers : Bytes
  pub input : Bytes
  pub reports : Words
  pub work : Words
  pub records : List SegmentRecord
  pub answer : Words
  pub left : ReadExit
  pub met : left ≡ read_gathered_call state scratch markers headers input reports work records answer

-- n is given what the read m of a stream is given, but its header apart
pub record Gathers (m : ReadMade) (n : GatheredMade) : Type 0 where
  pub same_state : n.state ≡ m.state
  pub same_scratch : n.scratch ≡ m.scratch
  pub same_markers : n.markers ≡ m.markers
  pub same_reports : n.reports ≡ m.reports
  pub same_work : n.work ≡ m.work
  pub same_records : n.records ≡ m.records
  pub seven_words : length n.answer ≡ 7

-- bytes of its SOP, and of its header with EPH
abbrev pub sop_of : ReadMade → ℕ
sop_of m = (read_sop m.markers m.input).skip

abbrev pub header_of : ReadMade → ℕ
header_of m = get_or m.left.answer 1 0 - sop_of m

-- all that both tell alike, and the bytes taken
pub record ToldAlike (m : ReadMade) (n : GatheredMade) : Type 0 where
  pub accepts : n.left.refusal ≡ 0
  pub state : n.left.state ≡ m.left.state
  pub scratch : n.left.scratch ≡ m.left.scratch
  pub reports : n.left.reports ≡ m.left.reports
  pub records : n.left.records ≡ m.left.records
  pub answer : let a = m.left.answer in
      n.left.answer
      ≡ get_or a 0 0 ∷ header_of m ∷ sop_of m ∷ get_or a 2 0 ∷ get_or a 3 0 ∷ get_or a 4 0 ∷ get_or a 5 0 ∷ []

unfoldable pub SameReadingOfExports : Type 0
SameReadingOfExports =
    (m : ReadMade) (n : GatheredMade)
    → Gathers m n
    → m.left.refusal ≡ 0
    → get_or m.left.answer 3 0 ≡ 0
    → get_or m.left.answer 4 0 ≡ 0
    → take (header_of m) n.headers ≡ take (header_of m) (drop (sop_of m) m.input)
    → (get_or m.left.answer 5 0 ≢ 0 → length n.headers ≡ header_of m)
    → take (sop_of m) n.input ≡ take (sop_of m) m.input
    → ToldAlike m n

-- ---- the moves

pub record GatherMade : Type 0 where
  pub row : Bytes
  pub states : Words
  pub scratch : Words
  pub places : Words
  pub markers : Markers
  pub headers : Bytes
  pub bodies : Bytes
  pub answer : Words
  pub left : GatherExit
  pub met : left ≡ gather_call row states scratch places markers headers bodies answer

pub record SpreadMade : Type 0 where
  pub headers : Bytes
  pub bodies : Bytes
  pub states : Words
  pub scratch : Words
  pub places : Words
  pub markers : Markers
  pub row : Bytes
  pub answer : Words
  pub left : SpreadExit
  pub met : left ≡ spread_call headers bodies states scratch places markers row answer

-- the same precincts, places and marker settings
pub record SamePackets (g : GatherMade) (s : SpreadMade) : Type 0 where
  pub same_states : s.states ≡ g.states
  pub same_places : s.places ≡ g.places
  pub same_markers : s.markers ≡ g.markers

-- what g put, moved back by s with a scratch as long as the states, and room
unfoldable pub ThereAndBackOfExports : Type 0
ThereAndBackOfExports =
    (g : GatherMade) (s : SpreadMade)
    → SamePackets g s
    → g.left.refusal ≡ 0
    → T (in_place g.markers g.places (states_in g.states) g.row)
    → s.headers ≡ take (get_or g.left.answer 0 0) g.left.headers
    → s.bodies ≡ take (get_or g.left.answer 1 0) g.left.bodies
    → length s.scratch ≡ length s.states
    → length g.row ≤ length s.row
    → length s.answer ≡ 1
    → s.left
    ≡ record { refusal = 0; scratch = g.left.scratch; row = overwrite s.row g.row; answer = length g.row ∷ [] }

-- what s put, moved again by g
unfoldable pub BackAndThereOfExports : Type 0
BackAndThereOfExports =
    (s : SpreadMade) (g : GatherMade)
    → let plain = (unpacked s.headers).bytes in
    SamePackets g s
    → s.left.refusal ≡ 0
    → s.headers ≡ packed plain
    → segments_for (length plain) ≤ most_segments
    → T (in_place_gathered s.markers s.places (states_in s.states) plain s.bodies)
    → g.row ≡ take (get_or s.left.answer 0 0) s.left.row
    → length g.scratch ≡ length g.states
    → length s.headers ≤ length g.headers
    → length s.bodies ≤ length g.bodies
    → length g.answer ≡ 2
    → g.left
    ≡ record {
      refusal = 0;
      scratch = s.left.scratch;
      headers = overwrite g.headers s.headers;
      bodies = overwrite g.bodies s.bodies;
      answer = length s.headers ∷ length s.bodies ∷ [];
    }

-- refused with an answer list as it is asked, outputs and scratch are wiped, and the answer is zeros
unfoldable pub GatherRefusesOfExports : Type 0
GatherRefusesOfExports =
    (g : GatherMade)
    → length g.answer ≡ 2
    → g.left.refusal ≢ 0
    → g.left
    ≡ record {
      refusal = g.left.refusal;
      scratch = wiped g.scratch;
      headers = wiped g.headers;
      bodies = wiped g.bodies;
      answer = 0 ∷ 0 ∷ [];
    }

unfoldable pub SpreadRefusesOfExports : Type 0
SpreadRefusesOfExports =
    (s : SpreadMade)
    → length s.answer ≡ 1
    → s.left.refusal ≢ 0
    → s.left ≡ record { refusal = s.left.refusal; scratch = wiped s.scratch; row = wiped s.row; answer = 0 ∷ [] }
