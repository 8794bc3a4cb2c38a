-- A refused move: its numbers, and what it leaves.
use mathlib.Core.Path.{refl}
use mathlib.Core.Logic.{◌≢◌}
use mathlib.Core.Bool.{not, ◌||◌}
use mathlib.Core.List.{List, [], ◌∷◌, ◌++◌}
use Prim.Native.Nat.{ℕ, zero, suc, ◌+◌, ◌≤◌}
use native.Mathlib.Omega.{arith}
use lib.ListN.{length, take, drop}
use lib.Dec.{eqb, ltb}
use Rattle.t800.specs.declared.Markers.{Markers}
use Rattle.t800.specs.Base.{wiped}
use Rattle.t800.specs.Reports.{as_found}
use Rattle.t800.specs.Refusals.{Check, check, first_of, state_refusal, body_refusal, space_refusal, segments_refusal}
use Rattle.t800.specs.PackedHeaders.{most_segments, segments_for, packed, Unpacked, bad_segment, unpacked_from, unpacked}
use Rattle.t800.specs.Gathered.{Parts, states_in, bad_states}
use Rattle.t800.specs.Gathered.{read_gathered, state_at, reports_for, parts_in_row, parts_gathered, Gathering, gather_packet, gather_packets}
use Rattle.t800.specs.Gathered.{Spreading, spread_packet, spread_packets, GatherResult, gather, SpreadResult, spread}
use Rattle.t800_laws.proofs.Laws.Tests.{either}
use Rattle.gathered_headers.specs.Gathered.{GatherRefuses, SpreadRefuses}
use Rattle.gathered_headers.proofs.Pieces.{first_of_lem, answers, refuses}
use Rattle.gathered_headers.proofs.RoomEnough.{read-up_to}
use Rattle.gathered_headers.proofs.SameReading.{eph_alone}
use Rattle.gathered_headers.proofs.WholeMoves.{gathered, gather_done, spread_from, spread_done}

-- ---- one packet's number

row_up_to : (state : List ℕ) (m : Markers) (row : List ℕ) → (parts_in_row state m row).refusal ≤ 12
unfolding parts_in_row
row_up_to state m row = read-up_to as_found state state m row (reports_for state) [] (omega arith)

gathered_up_to : (state : List ℕ) (m : Markers) (headers bodies : List ℕ) → (parts_gathered state m headers bodies).refusal ≤ 12
unfolding parts_gathered read_gathered
gathered_up_to state m headers bodies = read-up_to as_found state state (eph_alone m) headers (reports_for state) [] (omega arith)

-- ---- the move

abbrev OfGather : ℕ → Type 0
OfGather n = (n ≢ 13) × (n ≤ 15)

packet-number : (m : Markers) (a b place : ℕ) (g : Gathering) → OfGather (gather_packet m a b place g).refusal
unfolding gather_packet
packet-number m a b place g =
    let p : Parts = parts_in_row (state_at g.states place) m g.row in
    let up_to_lem = row_up_to (state_at g.states place) m g.row in
    let headers : List ℕ = g.headers ++ take p.header (drop p.sop g.row) in
    let bodies : List ℕ = g.bodies ++ take p.sop g.row ++ take p.body (drop (p.sop + p.header) g.row) in
    first_of_lem OfGather
    (check p.refusal (not (eqb p.refusal 0))
    ∷ check body_refusal (ltb (length g.row) (p.sop + p.header + p.body))
    ∷ check segments_refusal (ltb most_segments (segments_for (length headers)))
    ∷ check space_refusal (ltb a (length (packed headers)) || ltb b (length bodies))
    ∷ [])
    (omega arith) (omega arith, (omega arith, (omega arith, (omega arith, tt))))

packets-number : (m : Markers) (a b : ℕ) (places : List ℕ) (g : Gathering) → OfGather g.refusal
    → OfGather (gather_packets m a b places g).refusal
unfolding gather_packets
packets-number m a b [] g h = h
packets-number m a b (place ∷ places) g h =
    let one = packet-number m a b place g in
    let after : Gathering = gather_packet m a b place g in
    either (λ (x : Gathering). OfGather x.refusal) (eqb after.refusal 0) _ _ (packets-number m a b places after one) one

pub gather-refuses : GatherRefuses
unfolding GatherRefuses gather
gather-refuses row states scratch places m headers bodies =
    let last : Gathering = gathered row states scratch places m headers bodies in
    let checks : List Check =
    check state_refusal (bad_states states (length scratch) places)
    ∷ check last.refusal (not (eqb last.refusal 0))
    ∷ check body_refusal (not (eqb (length last.row) 0))
    ∷ [] in
    let packets : OfGather last.refusal = packets-number m (length headers) (length bodies) places
    (record { refusal = 0; states = states_in states; row = row; headers = []; bodies = [] }) (omega arith) in
    let number : OfGather (first_of checks) = first_of_lem OfGather checks (omega arith) (omega arith, (packets, (omega arith, tt))) in
    let answer : GatherResult → ℕ = λ g. g.answer.refusal in
    let done : GatherResult = gather_done row states scratch places m headers bodies last in
    let refused : ℕ → GatherResult = λ n. record
    { answer = record { refusal = n; headers = 0; bodies = 0 }; scratch = wiped scratch; headers = wiped headers; bodies = wiped bodies } in
    let told = answers answer (first_of checks) done refused refl refl OfGather (omega arith) number in
    (told.0, told.1, refuses answer (first_of checks) done refused refl refl)

-- ---- the move back

abbrev OfSpread : ℕ → Type 0
OfSpread n = (n ≢ 13) × (n ≢ 15) × (n ≤ 16)

spread-packet_number : (m : Markers) (a place : ℕ) (s : Spreading) → OfSpread (spread_packet m a place s).refusal
unfolding spread_packet
spread-packet_number m a place s =
    let p : Parts = parts_gathered (state_at s.states place) m s.headers s.bodies in
    let up_to_lem = gathered_up_to (state_at s.states place) m s.headers s.bodies in
    let row : List ℕ = s.row ++ take p.sop s.bodies ++ take p.header s.headers ++ take p.body (drop p.sop s.bodies) in
    first_of_lem OfSpread
    (check p.refusal (not (eqb p.refusal 0))
    ∷ check body_refusal (ltb (length s.bodies) (p.sop + p.body))
    ∷ check space_refusal (ltb a (length row))
    ∷ [])
    (omega arith) (omega arith, (omega arith, (omega arith, tt)))

spread-packets_number : (m : Markers) (a : ℕ) (places : List ℕ) (s : Spreading) → OfSpread s.refusal
    → OfSpread (spread_packets m a places s).refusal
unfolding spread_packets
spread-packets_number m a [] s h = h
spread-packets_number m a (place ∷ places) s h =
    let one = spread-packet_number m a place s in
    let after : Spreading = spread_packet m a place s in
    either (λ (x : Spreading). OfSpread x.refusal) (eqb after.refusal 0) _ _ (spread-packets_number m a places after one) one

unpacked-number : (bound index : ℕ) (segments : List ℕ) → OfSpread (unpacked_from bound index segments).refusal
unfolding unpacked_from
unpacked-number zero index segments = omega arith
unpacked-number (suc bound) index segments =
    let P : Unpacked → Type 0 = λ u. OfSpread u.refusal in
    either P (eqb (length segments) 0) _ _ (omega arith)
    (either P (bad_segment index segments) _ _ (omega arith) (unpacked-number bound (index + 1) _))

pub spread-refuses : SpreadRefuses
unfolding SpreadRefuses spread unpacked
spread-refuses headers bodies states scratch places m row =
    let u : Unpacked = unpacked headers in
    let last : Spreading = spread_from headers bodies states scratch places m row u.bytes in
    let checks : List Check =
    check u.refusal (not (eqb u.refusal 0))
    ∷ check state_refusal (bad_states states (length scratch) places)
    ∷ check last.refusal (not (eqb last.refusal 0))
    ∷ check body_refusal (not (eqb (length last.headers + length last.bodies) 0))
    ∷ [] in
    let packets : OfSpread last.refusal = spread-packets_number m (length row) places
    (record { refusal = 0; states = states_in states; headers = u.bytes; bodies = bodies; row = [] }) (omega arith) in
    let packed-so = unpacked-number (length headers) 0 headers in
    let number : OfSpread (first_of checks) =
    first_of_lem OfSpread checks (omega arith) (packed-so, (omega arith, (packets, (omega arith, tt)))) in
    let answer : SpreadResult → ℕ = λ s. s.answer.refusal in
    let done : SpreadResult = spread_done headers bodies states scratch places m row last in
    let refused : ℕ → SpreadResult = λ n. record
    { answer = record { refusal = n; bytes = 0 }; scratch = wiped scratch; row = wiped row } in
    let told = answers answer (first_of checks) done refused refl refl OfSpread (omega arith) number in
    (told.0, told.1, told.2, refuses answer (first_of checks) done refused refl refl)
