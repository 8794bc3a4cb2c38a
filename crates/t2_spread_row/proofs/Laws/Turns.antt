-- The packets, one after another.
use mathlib.Core.Path.{◌≡◌, refl, sym, ap, ◌∙◌, subst}
use mathlib.Core.Logic.{◌≢◌}
use mathlib.Core.Bool.{true, false}
use Prim.Native.Nat.{ℕ, ◌+◌, ◌-◌, ◌<◌, ◌≤◌}
use native.Mathlib.Omega.{arith}
use lib.ListN.{length, get_or, take, drop, length-drop}
use lib.Seq.{take_all}
use Rattle.std.proofs.Common.{Ok, Err}
use Rattle.t800.specs.declared.Markers.{Markers}
use Rattle.t800.specs.declared.Refusal.{Refusal}
use Rattle.t800.specs.Base.{Words, Bytes}
use Rattle.t800.specs.State.{reader}
use Rattle.t800.specs.Ranges.{valid_state}
use Rattle.t800.specs.Gathered.{state_at, states_in, bad_states, Spreading, spread_packet, spread_packets}
use Rattle.tcd_states.specs.declared.Found.{Found}
use Rattle.tcd_states.specs.States.{start_of, words_at}
use Rattle.tcd_states.proofs.Laws.Valid.{states_fit_lem}
use Rattle.t2_skip_windows.specs.Windows.{WindowOn}
use Rattle.t2_skip_packet.proofs.Laws.Numbers.{refusal_counts}
use Rattle.t2_spread_packet.specs.declared.Moved.{Moved}
use Rattle.t2_spread_packet.specs.Moving.{StandsAt}
use Rattle.t2_spread_row.specs.Standing.{SpreadsAt, Stands, first_moved, from_start, all_spread, SpreadsPackets}
use Rattle.t2_spread_row.proofs.Laws.Packets.{state_in_scratch, state_in_range, row_as_long, number_is, stands_next}
use Rattle.t2_spread_row.proofs.Laws.Packets.{packets-end, packets-turn, none_left, stands_first}

-- the packets of the first i places are moved
pub record Underway (segments bodies : Bytes) (m : Markers) (states places : Words) (rs : Bytes) (i : ℕ) (ws : Words) (window rs₁ : Bytes)
    (g : Moved) : Type 0 where
  pub so_far : Spreading
  pub stands : Stands (states_in states) segments bodies rs so_far ws window rs₁ g
  pub rest : spread_packets m (length rs) (drop i places) so_far ≡ all_spread segments bodies m states places rs
  pub accepted_so_far : so_far.refusal ≡ 0

module _ (segments bodies : Bytes) (m : Markers) (states places : Words) (rs : Bytes) (n : ℕ)
    (good : bad_states states n places ≡ false) where
  pub first_one : (ws : Words) (window : Bytes) → ws ≡ states → WindowOn segments window 0
      → Underway segments bodies m states places rs 0 ws window rs first_moved
  first_one ws window e w =
      record {
        so_far = from_start segments bodies states;
        stands = stands_first segments bodies states rs ws window (states_fit_lem states n places good).all_valid e w;
        rest = refl;
        accepted_so_far = refl;
      }

  module _ (i : ℕ) (ws : Words) (window rs₁ : Bytes) (g : Moved) (u : Underway segments bodies m states places rs i ws window rs₁ g) where
    pub last_one : length places ≤ i → SpreadsPackets segments bodies m states places rs ws rs₁ (Ok g)
    last_one h =
        let all = sym (none_left m (length rs) places i h u.so_far) ∙ u.rest in
        record {
          window = window;
          refuses = sym u.accepted_so_far ∙ ap (λ (x : Spreading). x.refusal) all;
          stands = subst (λ (x : Spreading). Stands (states_in states) segments bodies rs x ws window rs₁ g) all u.stands;
        }

    module _ (h : i < length places) where
      abbrev place : ℕ
      place = get_or places i 0

      pub place_there : place < length (states_in states)
      place_there = (states_fit_lem states n places good).place_in i h

      module _ (f : Found) (found : (f.start ≡ start_of (states_in states) place) × (f.words ≡ length (state_at (states_in states) place)))
        where
          pub record Ready : Type 0 where
            pub inside : f.start + f.words ≤ length ws
            pub valid : valid_state reader (words_at f ws) (length (words_at f ws)) ≡ true
            pub headers-at : StandsAt segments window g
            pub in_bodies : g.bodies ≤ length bodies
            pub in_row : g.row ≤ length rs₁

          pub state_ready : Ready
          state_ready =
              let s = u.stands in
              record {
                inside = state_in_scratch (states_in states) segments bodies rs u.so_far ws window rs₁ g s place place_there f
                    found.0 found.1;
                valid = state_in_range (states_in states) segments bodies rs u.so_far ws window rs₁ g s place place_there f
                    found.0 found.1;
                headers-at = s.headers-at;
                in_bodies = s.in_bodies;
                in_row = omega (arith, s.row_room, row_as_long (states_in states) segments bodies rs u.so_far ws window rs₁ g s);
              }

          module _ (ws' : Words) (window' rs' : Bytes) where
            pub ended : (why : Refusal) → SpreadsAt segments (drop g.bodies bodies) m f ws rs₁ g ws' window' rs' (Err why)
                → SpreadsPackets segments bodies m states places rs ws' rs' (Err why)
            ended why p =
                let number =
                number_is (states_in states) segments bodies rs u.so_far ws window rs₁ g u.stands place place_there f
                found.0 found.1 m ws' window' rs' (Err why) p in
                let ne = refusal_counts why in
                let all = sym (packets-end m (length rs) places i h u.so_far (λ z. ne (number ∙ z))) ∙ u.rest in
                record { window = window'; refuses = number ∙ ap (λ (x : Spreading). x.refusal) all; stands = tt }

            pub next_one : (o : Moved) → SpreadsAt segments (drop g.bodies bodies) m f ws rs₁ g ws' window' rs' (Ok o)
                → Underway segments bodies m states places rs (i + 1) ws' window' rs' o
            next_one o p =
                let none = sym (number_is (states_in states) segments bodies rs u.so_far ws window rs₁ g u.stands place place_there f
                found.0 found.1 m ws' window' rs' (Ok o) p) in
                record {
                  so_far = spread_packet m (length rs) place u.so_far;
                  stands = stands_next (states_in states) segments bodies rs u.so_far ws window rs₁ g u.stands place place_there f
                      found.0 found.1 m ws' window' rs' (Ok o) p o refl;
                  rest = sym (packets-turn m (length rs) places i h u.so_far none) ∙ u.rest;
                  accepted_so_far = none;
                }

-- what is left of a list, lent
pub lent-rest : (l : Bytes) (at : ℕ) → at ≤ length l → take (length l - at) (drop at l) ≡ drop at l
lent-rest l at h = take_all (length l - at) (drop at l) (omega (arith, length-drop at l))
