-- Gathered headers moved back packet by packet, in the code's lists and counts.
use Rattle.std.specs.Prelude.{Result, IfOk, ◌≡◌, ℕ, ◌+◌, ◌-◌, ◌≤◌, length, take, drop}
use mathlib.Core.List.{List, [], ◌++◌, flat_map}
use Rattle.std.proofs.lemmas.List.Edits.{sets}
use Rattle.t800.specs.declared.Markers.{Markers}
use Rattle.t800.specs.declared.Refusal.{Refusal}
use Rattle.t800.specs.Base.{Words, Bytes}
use Rattle.t800.specs.PackedHeaders.{unpacked}
use Rattle.t800.specs.Gathered.{states_in, Spreading, spread_packets}
use Rattle.tcd_states.specs.declared.Found.{Found}
use Rattle.tcd_states.specs.States.{start_of, AllValid, words_at}
use Rattle.t2_skip_packet.specs.Parts.{number_in}
use Rattle.t2_spread_packet.specs.declared.Moved.{Moved}
use Rattle.t2_spread_packet.specs.Moving.{StandsAt, SpreadsPacket}

-- ---- one packet

-- as SpreadsPacket has it, with its state in these words of the scratch
pub record SpreadsAt (segments bodies : Bytes) (m : Markers) (f : Found) (ws : Words) (rs : Bytes) (g : Moved) (ws' : Words)
    (window rs' : Bytes) (o : Result Moved Refusal) : Type 0 where
  pub after : Words
  pub packet : SpreadsPacket segments bodies m (words_at f ws) rs g after window rs' o
  pub replaced : ws' ≡ take f.start ws ++ (after ++ drop (f.start + f.words - f.start) (drop f.start ws))

-- ---- all packets

-- sp so far, from the states ss, the segments, bodies and the list rs: in the scratch ws and the list rs', with the window and the counts g
pub record Stands (ss : List Words) (segments bodies rs : Bytes) (sp : Spreading) (ws : Words) (window rs' : Bytes) (g : Moved)
    : Type 0 where
  pub states_are : ws ≡ flat_map (λ s. s) sp.states
  pub all_valid : AllValid sp.states
  pub as_many : length sp.states ≡ length ss
  pub same_starts : (place : ℕ) → start_of sp.states place ≡ start_of ss place
  pub headers-left : drop g.headers (unpacked segments).bytes ≡ sp.headers
  pub bodies_left : drop g.bodies bodies ≡ sp.bodies
  pub in_bodies : g.bodies ≤ length bodies
  pub row_put : rs' ≡ sets rs 0 sp.row
  pub row_bytes : g.row ≡ length sp.row
  pub row_room : g.row ≤ length rs
  pub headers-at : StandsAt segments window g

abbrev pub first_moved : Moved
first_moved = record { headers = 0; bodies = 0; row = 0; base = 0; segment = record { at = 0; before = 0 } }

abbrev pub from_start : (segments bodies : Bytes) (states : Words) → Spreading
from_start segments bodies states =
    record { refusal = 0; states = states_in states; headers = (unpacked segments).bytes; bodies = bodies; row = [] }

abbrev pub all_spread : (segments bodies : Bytes) → Markers → (states places : Words) (rs : Bytes) → Spreading
all_spread segments bodies m states places rs = spread_packets m (length rs) places (from_start segments bodies states)

pub record SpreadsPackets (segments bodies : Bytes) (m : Markers) (states places : Words) (rs : Bytes) (ws : Words) (rs' : Bytes)
    (o : Result Moved Refusal) : Type 0 where
  pub window : Bytes
  pub refuses : number_in o ≡ (all_spread segments bodies m states places rs).refusal
  pub stands : IfOk o (λ g. Stands (states_in states) segments bodies rs (all_spread segments bodies m states places rs) ws window rs' g)
