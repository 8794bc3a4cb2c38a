-- One block, by computing: the premises of the statements can be met. Behind a packet without passes the state is another than of packets
-- all coded block by block, and the first header with passes behind it is another than without it.
use mathlib.Core.Path.{◌≡◌, refl, ap}
use mathlib.Core.Logic.{◌≢◌}
use mathlib.Core.Bool.{true, false}
use mathlib.Core.List.{List, [], ◌∷◌}
use Prim.Native.Nat.{ℕ}
use native.Mathlib.Omega.{arith}
use lib.ListN.{get_or, replicate}
use Rattle.t800.specs.declared.Band.{Band}
use Rattle.t800.specs.declared.Markers.{Markers}
use Rattle.t800.specs.Base.{any}
use Rattle.t800.specs.Bits.{pack}
use Rattle.t800.specs.WriteHeader.{Contribution, contribution, contributes}
use Rattle.t800.specs.Packet.{WriteResult, write}
use Rattle.t800.proofs.Table.{row_holds}
use Rattle.empty_packets.specs.WithoutPasses.{written_as_one_byte}
use Rattle.empty_packets.specs.LaterPackets.{Accepted, headers, state_behind, state_behind_present, block_bits_from, block_bits}
use Rattle.empty_packets.specs.LaterPackets.{SameButInclusionTrees, Started, started_state, ChangesAtMost}
use Rattle.empty_packets.proofs.WithoutPasses.{written_without_passes}
use Rattle.empty_packets.proofs.AsIfPresent.{state_as_if_present, header_as_if_present}
use Rattle.empty_packets.proofs.InsertionAnywhere.{insertion_changes_at_most}

-- one band of one block and 5 planes, style 0
abbrev given : List Band
given = record { across = 1; down = 1; planes = 5 } ∷ []

abbrev lent : List ℕ
lent = replicate 23 0

abbrev state : List ℕ
state = started_state 1 given 0 (5 ∷ []) lent

started : Started 1 given 0 (5 ∷ []) lent
unfolding row_holds
started = refl

-- no passes, one of 5 bytes, and one of 3
abbrev none : Contribution
none = contribution (0 ∷ []) [] []

abbrev first : Contribution
first = contribution (1 ∷ []) (5 ∷ []) (0 ∷ [])

abbrev second : Contribution
second = contribution (1 ∷ []) (3 ∷ []) (0 ∷ [])

accepted_with : Accepted state (none ∷ first ∷ second ∷ [])
unfolding row_holds Accepted
accepted_with = (refl, (refl, (refl, tt)))

first_contributes : (contributes none ≡ false) × (contributes first ≡ true)
unfolding contributes any
first_contributes = (refl, refl)

-- ---- the packet itself, with both markers and number 1, in ten bytes of output

abbrev both : Markers
both = record { sop = true; eph = true }

abbrev output : List ℕ
output = replicate 10 7

written : WriteResult
written = write state lent none [] both 1 output

written_accepted : written.answer.refusal ≡ 0
unfolding written row_holds
written_accepted = refl

as_one_byte : written ≡ written_as_one_byte state both 1 output
unfolding written
as_one_byte = written_without_passes state lent none [] both 1 output first_contributes.0 written_accepted

bytes_computed : written.output ≡ 0xff ∷ 0x91 ∷ 0x00 ∷ 0x04 ∷ 0x00 ∷ 0x01 ∷ 0x00 ∷ 0xff ∷ 0x92 ∷ 7 ∷ []
unfolding written row_holds
bytes_computed = refl

-- ---- the state behind a packet

same_state : state_behind state (none ∷ first ∷ []) ≡ state_behind_present state (none ∷ first ∷ [])
unfolding Accepted
same_state =
    state_as_if_present 1 given 0 (5 ∷ []) lent started (none ∷ []) first (accepted_with.0, (accepted_with.1.0, tt))
    first_contributes.1

-- layer 2, the inclusion node told with value 1, the zero-plane node with value 0, the block with one pass and 3 length bits
state_computed : (state_behind state (none ∷ first ∷ []) ≡ state_behind_present state (none ∷ first ∷ []))
    × (state_behind state (none ∷ first ∷ [])
    ≡ 1 ∷ 1 ∷ 0 ∷ 2 ∷ 1 ∷ 1 ∷ 5 ∷ 0 ∷ 0 ∷ 0 ∷ 0 ∷ 0 ∷ 0 ∷ 1 ∷ 1 ∷ 1 ∷ 0 ∷ 0 ∷ 1 ∷ 1 ∷ 3 ∷ 0 ∷ 0 ∷ [])
unfolding state_behind state_behind_present row_holds
state_computed = (refl, refl)

-- the low of the inclusion tree's only node stays 0 by the rule, and is 1 if the packet is coded block by block
states_differ : state_behind state (none ∷ []) ≢ state_behind_present state (none ∷ [])
unfolding state_behind state_behind_present row_holds
states_differ e = let z : ◌≡◌ {A = ℕ} 0 1 = ap (λ (ws : List ℕ). get_or ws 14 0) e in absurd (omega arith)

-- ---- the header behind it

same_header : SameButInclusionTrees first (state_behind state (none ∷ [])) (state_behind_present state (none ∷ []))
unfolding Accepted
same_header =
    header_as_if_present 1 given 0 (5 ∷ []) lent started (none ∷ []) first (accepted_with.0, (accepted_with.1.0, tt))

-- one bit more of the inclusion tree; then zero planes, pass count, increment and length
header_computed : (block_bits first (state_behind state (none ∷ []))
    ≡ record { inclusion_tree = 0 ∷ 1 ∷ []; others = 1 ∷ 0 ∷ 0 ∷ 1 ∷ 0 ∷ 1 ∷ [] } ∷ [])
    × (block_bits first (state_behind_present state (none ∷ []))
    ≡ record { inclusion_tree = 1 ∷ []; others = 1 ∷ 0 ∷ 0 ∷ 1 ∷ 0 ∷ 1 ∷ [] } ∷ [])
unfolding state_behind state_behind_present block_bits block_bits_from row_holds
header_computed = (refl, refl)

-- ---- a packet put in

changes : ChangesAtMost state none [] first (second ∷ [])
unfolding any state_behind
changes =
    insertion_changes_at_most 1 given 0 (5 ∷ []) lent started [] none [] first (second ∷ []) accepted_with
    first_contributes.0 refl first_contributes.1

headers-without : headers state (first ∷ second ∷ []) ≡ (1 ∷ 1 ∷ 1 ∷ 0 ∷ 0 ∷ 1 ∷ 0 ∷ 1 ∷ []) ∷ (1 ∷ 1 ∷ 0 ∷ 0 ∷ 0 ∷ 1 ∷ 1 ∷ []) ∷ []
unfolding row_holds headers
headers-without = refl

headers-with : headers state (none ∷ first ∷ second ∷ [])
    ≡ (0 ∷ []) ∷ (1 ∷ 0 ∷ 1 ∷ 1 ∷ 0 ∷ 0 ∷ 1 ∷ 0 ∷ 1 ∷ []) ∷ (1 ∷ 1 ∷ 0 ∷ 0 ∷ 0 ∷ 1 ∷ 1 ∷ []) ∷ []
unfolding row_holds headers
headers-with = refl

-- the first header with passes is E5, and B2 80 behind the packet without passes
as_bytes : (pack (1 ∷ 1 ∷ 1 ∷ 0 ∷ 0 ∷ 1 ∷ 0 ∷ 1 ∷ []) ≡ 0xe5 ∷ []) × (pack (1 ∷ 0 ∷ 1 ∷ 1 ∷ 0 ∷ 0 ∷ 1 ∷ 0 ∷ 1 ∷ []) ≡ 0xb2 ∷ 0x80 ∷ [])
unfolding row_holds
as_bytes = (refl, refl)
