-- The packets of a row, one after another.
use Prim.Native.Nat.{ℕ, ◌+◌, ◌-◌, ◌*◌, ◌<◌, ◌≤◌}
use mathlib.Core.Path.{◌≡◌, refl, sym, ap, ◌∙◌, subst}
use mathlib.Core.Logic.{◌≢◌}
use mathlib.Core.Bool.{true, false}
use native.Mathlib.Omega.{arith}
use lib.ListN.{length, get_or, take, drop, length-drop}
use lib.Seq.{take_all}
use Rattle.std.proofs.Common.{Ok, Err}
use Rattle.t800.specs.declared.Markers.{Markers}
use Rattle.t800.specs.declared.Refusal.{Refusal}
use Rattle.t800.specs.Base.{Words, Bytes}
use Rattle.t800.specs.State.{reader}
use Rattle.t800.specs.Ranges.{valid_state}
use Rattle.t800.specs.PackedHeaders.{most_bytes, most_segments}
use Rattle.t800.specs.Gathered.{state_at, states_in, bad_states, Gathering, gather_packet, gather_packets}
use Rattle.tcd_states.specs.declared.Found.{Found}
use Rattle.tcd_states.specs.States.{start_of, words_at}
use Rattle.tcd_states.proofs.Laws.Valid.{states_fit_lem}
use Rattle.t2_skip_packet.proofs.Laws.Numbers.{refusal_counts}
use Rattle.t2_gather_packet.specs.declared.Moved.{Moved}
use Rattle.t2_gather_row.specs.Standing.{GathersAt, Stands, from_start, all_gathered, GathersPackets}
use Rattle.t2_gather_row.proofs.Laws.Packets.{state_in_scratch, state_in_range, bodies_as_long, number_is, stands_next}
use Rattle.t2_gather_row.proofs.Laws.Packets.{packets-end, packets-turn, none_left, stands_first}

-- the packets of the first i places are moved
pub record Underway (row : Bytes) (m : Markers) (states places : Words) (hs bs : Bytes) (i : ℕ) (ws : Words) (hs₁ bs₁ : Bytes) (g : Moved)
    : Type 0 where
  pub so_far : Gathering
  pub stands : Stands (states_in states) row hs bs so_far ws hs₁ bs₁ g
  pub rest : gather_packets m (length hs) (length bs) (drop i places) so_far ≡ all_gathered row m states places hs bs
  pub accepted_so_far : so_far.refusal ≡ 0

module _ (row : Bytes) (m : Markers) (states places : Words) (hs bs : Bytes) (n : ℕ) (good : bad_states states n places ≡ false) where
  pub first_one : (ws : Words) → ws ≡ states
      → Underway row m states places hs bs 0 ws hs bs (record { taken = 0; headers = 0; bodies = 0 })
  first_one ws e =
      record {
        so_far = from_start row states;
        stands = stands_first row states hs bs ws _ (states_fit_lem states n places good).all_valid e refl refl refl;
        rest = refl;
        accepted_so_far = refl;
      }

  module _ (i : ℕ) (ws : Words) (hs₁ bs₁ : Bytes) (g : Moved) (u : Underway row m states places hs bs i ws hs₁ bs₁ g) where
    pub last_one : length places ≤ i → GathersPackets row m states places hs bs ws hs₁ bs₁ (Ok g)
    last_one h =
        let all = sym (none_left m (length hs) (length bs) places i h u.so_far) ∙ u.rest in
        record {
          refuses = sym u.accepted_so_far ∙ ap (λ (x : Gathering). x.refusal) all;
          stands = subst (λ (x : Gathering). Stands (states_in states) row hs bs x ws hs₁ bs₁ g) all u.stands;
        }

    module _ (h : i < length places) where
      abbrev place : ℕ
      place = get_or places i 0

      pub place_there : place < length (states_in states)
      place_there = (states_fit_lem states n places good).place_in i h

      module _ (f : Found) (found : (f.start ≡ start_of (states_in states) place) × (f.words ≡ length (state_at (states_in states) place)))
        where
          pub state_ready : (f.start + f.words ≤ length ws)
              × (valid_state reader (words_at f ws) (length (words_at f ws)) ≡ true)
              × (g.taken ≤ length row)
              × (g.headers ≤ most_segments * most_bytes)
              × (g.bodies ≤ length bs₁)
          state_ready =
              let s = u.stands in (
                state_in_scratch (states_in states) row hs bs u.so_far ws hs₁ bs₁ g s place place_there f found.0 found.1,
                state_in_range (states_in states) row hs bs u.so_far ws hs₁ bs₁ g s place place_there f found.0 found.1,
                s.in_row,
                s.few_headers,
                omega (arith, s.bodies_room, bodies_as_long (states_in states) row hs bs u.so_far ws hs₁ bs₁ g s),
              )

          module _ (ws' : Words) (hs' bs' : Bytes) where
            pub ended : (why : Refusal) → GathersAt (drop g.taken row) m f ws hs₁ bs₁ g ws' hs' bs' (Err why)
                → GathersPackets row m states places hs bs ws' hs' bs' (Err why)
            ended why p =
                let number =
                number_is (states_in states) row hs bs u.so_far ws hs₁ bs₁ g u.stands place place_there f found.0 found.1
                m ws' hs' bs' (Err why) p in
                let ne = refusal_counts why in
                let all = sym (packets-end m (length hs) (length bs) places i h u.so_far (λ z. ne (number ∙ z))) ∙ u.rest in
                record { refuses = number ∙ ap (λ (x : Gathering). x.refusal) all; stands = tt }

            pub next_one : (o : Moved) → GathersAt (drop g.taken row) m f ws hs₁ bs₁ g ws' hs' bs' (Ok o)
                → Underway row m states places hs bs (i + 1) ws' hs' bs' o
            next_one o p =
                let none = sym (number_is (states_in states) row hs bs u.so_far ws hs₁ bs₁ g u.stands place place_there f found.0
                found.1 m ws' hs' bs' (Ok o) p) in
                record {
                  so_far = gather_packet m (length hs) (length bs) place u.so_far;
                  stands = stands_next (states_in states) row hs bs u.so_far ws hs₁ bs₁ g u.stands place place_there f
                      found.0 found.1 m ws' hs' bs' (Ok o) p o refl;
                  rest = sym (packets-turn m (length hs) (length bs) places i h u.so_far none) ∙ u.rest;
                  accepted_so_far = none;
                }

-- what is left of a row, lent
pub lent-rest : (row : Bytes) (at : ℕ) → at ≤ length row → take (length row - at) (drop at row) ≡ drop at row
lent-rest row at h = take_all (length row - at) (drop at row) (omega (arith, length-drop at row))
