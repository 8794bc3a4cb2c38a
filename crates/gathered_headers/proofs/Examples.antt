-- By computing: without each of their premises the statements would be false, and they can be met.
use mathlib.Core.Path.{◌≡◌, refl}
use mathlib.Core.Bool.{Bool, true, false}
use mathlib.Core.List.{List, [], ◌∷◌, ◌++◌}
use Prim.Native.Nat.{ℕ, ◌≤◌}
use native.Mathlib.Omega.{arith}
use lib.ListN.{length, take, drop, replicate}
use Rattle.t800.specs.declared.Markers.{Markers}
use Rattle.t800.specs.Base.{overwrite}
use Rattle.t800.specs.State.{reader}
use Rattle.t800.specs.Start.{start}
use Rattle.t800.specs.PackedHeaders.{ppt_segment, packed_from, packed, segments_for, bad_segment, unpacked_from, unpacked}
use Rattle.t800.specs.Gathered.{read_gathered, states_from, states_in, bad_states, parts_in_row, parts_gathered, gather_packet, gather_packets}
use Rattle.t800.specs.Gathered.{GatherResult, gather, spread_packet, spread_packets, SpreadResult, spread}
use Rattle.t800.proofs.Table.{row_holds}
use Rattle.gathered_headers.specs.Gathered.{row_read, gathered_read, in_place, in_place_gathered, ThereAndBack, BackAndThere}
use Rattle.gathered_headers.proofs.ThereAndBack.{there_and_back}
use Rattle.gathered_headers.proofs.BackAndThere.{back_and_there}

-- one precinct of one band with one block, of which nothing has been read
abbrev state : List ℕ
state = (start reader 1 (record { across = 1; down = 1; planes = 5 } ∷ []) 0 [] (replicate 23 3)).state

abbrev marked : (sop eph : Bool) → Markers
marked sop eph = record { sop = sop; eph = eph }

-- the markers SOP and EPH
abbrev sop : List ℕ
sop = 0xff ∷ 0x91 ∷ 0 ∷ 4 ∷ 0 ∷ 0 ∷ []

abbrev eph : List ℕ
eph = 0xff ∷ 0x92 ∷ []

-- a move of its packets, one a place, and a move back, with bytes lent for each output
unfoldable there : Markers → (places row : List ℕ) → GatherResult
unfolding row_holds ppt_segment packed_from packed segments_for states_from states_in bad_states parts_in_row gather_packet gather_packets gather
there m places row = gather row state (replicate 23 3) places m (replicate 20 7) (replicate 20 7)

unfoldable back : Markers → (places headers bodies : List ℕ) → SpreadResult
unfolding row_holds bad_segment unpacked_from unpacked read_gathered states_from states_in bad_states parts_gathered spread_packet spread_packets
    spread
back m places headers bodies = spread headers bodies state (replicate 23 3) places m (replicate 23 7)

-- ---- one packet

-- 00 without EPH; gathered, with an EPH behind it
eph_needed : ((row_read state (marked false true) (0 ∷ [])).answer
    ≡ record { refusal = 0; present = 0; taken = 1; segments = 0; sop = 0; eph = 1; past = 0 })
    × ((gathered_read state (marked false true) (0 ∷ eph) []).answer
    ≡ record { refusal = 0; present = 0; headers = 3; taken = 0; segments = 0; sop = 0; eph = 0; past = 0 })
unfolding row_holds read_gathered
eph_needed = (refl, refl)

-- 00 without SOP; with an SOP in front of the bodies
sop_needed : ((row_read state (marked true false) (0 ∷ [])).answer
    ≡ record { refusal = 0; present = 0; taken = 1; segments = 0; sop = 1; eph = 0; past = 0 })
    × ((gathered_read state (marked true false) (0 ∷ []) sop).answer
    ≡ record { refusal = 0; present = 0; headers = 1; taken = 6; segments = 0; sop = 0; eph = 0; past = 0 })
unfolding row_holds read_gathered
sop_needed = (refl, refl)

-- no bytes, a bit past their end; gathered, with E5 behind
past_needed : ((row_read state (marked false false) []).answer
    ≡ record { refusal = 0; present = 0; taken = 0; segments = 0; sop = 0; eph = 0; past = 1 })
    × ((gathered_read state (marked false false) (0xe5 ∷ []) []).answer
    ≡ record { refusal = 0; present = 1; headers = 1; taken = 0; segments = 1; sop = 0; eph = 0; past = 0 })
unfolding row_holds read_gathered
past_needed = (refl, refl)

-- ---- a row: each marker in place

-- a packet without SOP, and one of SOP alone: 00, SOP
abbrev out_of_place : List ℕ
out_of_place = 0 ∷ sop

abbrev moved : GatherResult
moved = there (marked true false) (0 ∷ 0 ∷ []) out_of_place

-- moved in front and back, SOP stands before the 00
place_needed : (moved.answer ≡ record { refusal = 0; headers = 6; bodies = 6 })
    × (take 6 moved.headers ≡ 0xff ∷ 0x61 ∷ 0 ∷ 4 ∷ 0 ∷ 0 ∷ [])
    × (take 6 moved.bodies ≡ sop)
    × ((back (marked true false) (0 ∷ 0 ∷ []) (take 6 moved.headers) (take 6 moved.bodies)).answer ≡ record { refusal = 0; bytes = 7 })
    × (take 7 (back (marked true false) (0 ∷ 0 ∷ []) (take 6 moved.headers) (take 6 moved.bodies)).row ≡ sop ++ 0 ∷ [])
unfolding there back
place_needed = (refl, refl, refl, refl, refl)

-- ---- gathered headers: no bit past their end

-- E9: two bits of the body's length are past the end, and the length is 4
abbrev cut_short : List ℕ
cut_short = 0xff ∷ 0x61 ∷ 0 ∷ 4 ∷ 0 ∷ 0xe9 ∷ []

abbrev body : List ℕ
body = 0xff ∷ 1 ∷ 2 ∷ 3 ∷ []

-- moved back, these bits are the body's: the length is 7
inside_needed : ((back (marked false false) (0 ∷ []) cut_short body).answer ≡ record { refusal = 0; bytes = 5 })
    × (take 5 (back (marked false false) (0 ∷ []) cut_short body).row ≡ 0xe9 ∷ body)
    × ((there (marked false false) (0 ∷ []) (0xe9 ∷ body)).answer ≡ record { refusal = 10; headers = 0; bodies = 0 })
unfolding there back
inside_needed = (refl, refl, refl)

-- ---- all premises met

-- a packet of five bytes with both markers, and an absent one: SOP, E5, EPH, body; SOP, 00, EPH
abbrev five : List ℕ
five = 1 ∷ 2 ∷ 3 ∷ 4 ∷ 5 ∷ []

abbrev in_order : List ℕ
in_order = sop ++ (0xe5 ∷ []) ++ eph ++ five ++ sop ++ (0 ∷ []) ++ eph

abbrev twice : List ℕ
twice = 0 ∷ 0 ∷ []

comes_back : (work lent : List ℕ) → length work ≡ 23 → 23 ≤ length lent
    → let g = there (marked true true) twice in_order in
    spread (take g.answer.headers g.headers) (take g.answer.bodies g.bodies) state work twice (marked true true) lent
    ≡ record { answer = record { refusal = 0; bytes = 23 }; scratch = g.scratch; row = overwrite lent in_order }
unfolding there in_place ThereAndBack
comes_back work lent h l =
    there_and_back in_order state (replicate 23 3) twice (marked true true) (replicate 20 7) (replicate 20 7) refl tt work lent h l

-- their headers in one segment, and SOP, body, SOP
abbrev one_segment : List ℕ
one_segment = (0xff ∷ 0x61 ∷ 0 ∷ 9 ∷ 0 ∷ 0xe5 ∷ []) ++ eph ++ (0 ∷ []) ++ eph

abbrev bodies : List ℕ
bodies = sop ++ five ++ sop

gathered_again : (work lent_headers lent_bodies : List ℕ) → length work ≡ 23 → 11 ≤ length lent_headers → 17 ≤ length lent_bodies
    → let s = back (marked true true) twice one_segment bodies in
    gather (take s.answer.bytes s.row) state work twice (marked true true) lent_headers lent_bodies
    ≡ record {
      answer = record { refusal = 0; headers = 11; bodies = 17 };
      scratch = s.scratch;
      headers = overwrite lent_headers one_segment;
      bodies = overwrite lent_bodies bodies;
    }
unfolding there back in_place_gathered BackAndThere
gathered_again work lent_headers lent_bodies h l k =
    back_and_there one_segment bodies state (replicate 23 3) twice (marked true true) (replicate 23 7) refl refl (omega arith) tt work
    lent_headers lent_bodies h l k

-- ---- filled segments

-- a byte more than one segment holds: a filled one, and one with a single byte
filled : (take 5 (packed (replicate 65533 7)) ≡ 0xff ∷ 0x61 ∷ 0xff ∷ 0xff ∷ 0 ∷ [])
    × (drop 65537 (packed (replicate 65533 7)) ≡ 0xff ∷ 0x61 ∷ 0 ∷ 4 ∷ 1 ∷ 7 ∷ [])
unfolding ppt_segment packed_from packed
filled = (refl, refl)
