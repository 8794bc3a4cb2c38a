-- The packets of a row gathered, in the code's lists and counts.
use Rattle.std.specs.Prelude.{Result, IfOk, ◌≡◌, ℕ, ◌+◌, ◌-◌, ◌*◌, ◌≤◌, length, take, drop}
use mathlib.Core.List.{List, [], ◌++◌, flat_map}
use Rattle.std.proofs.lemmas.List.Edits.{sets}
use Rattle.t800.specs.declared.Markers.{Markers}
use Rattle.t800.specs.declared.Refusal.{Refusal}
use Rattle.t800.specs.Base.{Words, Bytes}
use Rattle.t800.specs.PackedHeaders.{most_bytes, most_segments}
use Rattle.t800.specs.Gathered.{Gathering, states_in, gather_packets}
use Rattle.tcd_states.specs.declared.Found.{Found}
use Rattle.tcd_states.specs.States.{start_of, AllValid, words_at}
use Rattle.t2_pack_headers.specs.Packing.{packed_length, put_header}
use Rattle.t2_skip_packet.specs.Parts.{number_in}
use Rattle.t2_gather_packet.specs.declared.Moved.{Moved}
use Rattle.t2_gather_packet.specs.Moving.{GathersPacket}

-- ---- one packet

-- as GathersPacket has it, with its state in these words of the scratch
pub record GathersAt (row : Bytes) (m : Markers) (f : Found) (ws : Words) (hs bs : Bytes) (g : Moved) (ws' : Words) (hs' bs' : Bytes)
    (o : Result Moved Refusal) : Type 0 where
  pub after : Words
  pub packet : GathersPacket row m (words_at f ws) hs bs g after hs' bs' o
  pub replaced : ws' ≡ take f.start ws ++ (after ++ drop (f.start + f.words - f.start) (drop f.start ws))

-- ---- all packets

-- gs so far, from the states ss, row, and the lists hs and bs: in the scratch ws and the lists hs' and bs', with the counts g
pub record Stands (ss : List Words) (row hs bs : Bytes) (gs : Gathering) (ws : Words) (hs' bs' : Bytes) (g : Moved) : Type 0 where
  pub states_are : ws ≡ flat_map (λ s. s) gs.states
  pub all_valid : AllValid gs.states
  pub as_many : length gs.states ≡ length ss
  pub same_starts : (place : ℕ) → start_of gs.states place ≡ start_of ss place
  pub row_left : drop g.taken row ≡ gs.row
  pub in_row : g.taken ≤ length row
  pub headers-put : hs' ≡ put_header hs 0 gs.headers
  pub header_bytes_lem : g.headers ≡ length gs.headers
  pub few_headers : g.headers ≤ most_segments * most_bytes
  pub headers_room : packed_length g.headers ≤ length hs
  pub bodies_put : bs' ≡ sets bs 0 gs.bodies
  pub body_bytes : g.bodies ≡ length gs.bodies
  pub bodies_room : g.bodies ≤ length bs

abbrev pub from_start : (row : Bytes) (states : Words) → Gathering
from_start row states = record { refusal = 0; states = states_in states; row = row; headers = []; bodies = [] }

abbrev pub all_gathered : (row : Bytes) → Markers → (states places : Words) (hs bs : Bytes) → Gathering
all_gathered row m states places hs bs = gather_packets m (length hs) (length bs) places (from_start row states)

pub record GathersPackets (row : Bytes) (m : Markers) (states places : Words) (hs bs : Bytes) (ws : Words) (hs' bs' : Bytes)
    (o : Result Moved Refusal) : Type 0 where
  pub refuses : number_in o ≡ (all_gathered row m states places hs bs).refusal
  pub stands : IfOk o (λ g. Stands (states_in states) row hs bs (all_gathered row m states places hs bs) ws hs' bs' g)
