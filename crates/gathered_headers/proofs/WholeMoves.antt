-- A whole move that isn't refused: what it says of its packets, and what it leaves.
use mathlib.Core.Path.{◌≡◌, refl, sym, ap, ◌∙◌}
use mathlib.Core.Bool.{false, not, ◌||◌}
use mathlib.Core.List.{List, [], flat_map}
use Prim.Native.Nat.{ℕ, ◌+◌}
use native.Mathlib.Omega.{arith}
use lib.ListN.{length, take}
use lib.Seq.{take-append_seam}
use lib.Dec.{eqb}
use borrow.Author.Tests.{eqb-true, not-false}
use Rattle.t800.specs.declared.Markers.{Markers}
use Rattle.t800.specs.Base.{any, overwrite}
use Rattle.t800.specs.Refusals.{body_refusal, state_refusal}
use Rattle.t800.specs.State.{reader}
use Rattle.t800.specs.Ranges.{valid_state}
use Rattle.t800.specs.PackedHeaders.{packed, unpacked, Unpacked}
use Rattle.t800.specs.Gathered.{Gathering, gather_packets, Spreading, spread_packets, states_in, bad_states, GatherResult, gather}
use Rattle.t800.specs.Gathered.{SpreadResult, spread}
use Rattle.t800_laws.proofs.Laws.Tests.{not_refused, or_left}
use Rattle.gathered_headers.proofs.Pieces.{none_refused, not_why}

-- ---- states

-- a scratch of another length would be refused
pub scratch_long : (states : List ℕ) (n : ℕ) (places : List ℕ) → bad_states states n places ≡ false → n ≡ length states
unfolding bad_states
scratch_long states n places e =
    let ss : List (List ℕ) = states_in states in
    let two = or_left (not (eqb n (length states)) || any (λ s. not (valid_state reader s (length s))) ss) _ e in
    eqb-true n (length states) (not-false (eqb n (length states)) (or_left (not (eqb n (length states))) _ two))

pub other_scratch : (states : List ℕ) (n k : ℕ) (places : List ℕ) → bad_states states n places ≡ false → k ≡ length states
    → bad_states states k places ≡ false
other_scratch states n k places e h =
    ap (λ (j : ℕ). bad_states states j places) (h ∙ sym (scratch_long states n places e)) ∙ e

-- ---- lent lists

pub front_of : (lent xs : List ℕ) → take (length xs) (overwrite lent xs) ≡ xs
unfolding overwrite
front_of lent xs = take-append_seam xs _

-- ---- gathering

module _ (row states scratch places : List ℕ) (m : Markers) (headers bodies : List ℕ) where
  abbrev pub gathered : Gathering
  gathered = gather_packets m (length headers) (length bodies) places
      (record { refusal = 0; states = states_in states; row = row; headers = []; bodies = [] })

  abbrev pub gather_done : Gathering → GatherResult
  gather_done g =
      let made = packed g.headers in
      record {
        answer = record { refusal = 0; headers = length made; bodies = length g.bodies };
        scratch = flat_map (λ s. s) g.states;
        headers = overwrite headers made;
        bodies = overwrite bodies g.bodies;
      }

  pub record Gathers : Type 0 where
    pub good_states : bad_states states (length scratch) places ≡ false
    pub packets : gathered.refusal ≡ 0
    pub all_of_row : length gathered.row ≡ 0
    pub left : gather row states scratch places m headers bodies ≡ gather_done gathered

  pub gathers : (gather row states scratch places m headers bodies).answer.refusal ≡ 0 → Gathers
  unfolding gather
  gathers e =
      let done = not_why (λ (g : GatherResult). g.answer.refusal) _ (gather_done gathered) _ refl e in
      let one = not_refused (bad_states states (length scratch) places) state_refusal _ (omega arith) done.0 in
      let two = none_refused gathered.refusal _ one.1 in
      let three = not_refused (not (eqb (length gathered.row) 0)) body_refusal _ (omega arith) two.1 in
      record {
        good_states = one.0;
        packets = two.0;
        all_of_row = eqb-true (length gathered.row) 0 (not-false (eqb (length gathered.row) 0) three.0);
        left = done.1;
      }

  pub gathers_as : (g : Gathering) → bad_states states (length scratch) places ≡ false → gathered ≡ g → g.refusal ≡ 0 → g.row ≡ []
      → gather row states scratch places m headers bodies ≡ gather_done g
  unfolding gather
  gathers_as g good p ok none = rw (good, p, ok, none)

-- ---- and back

module _ (headers bodies states scratch places : List ℕ) (m : Markers) (row : List ℕ) where
  abbrev pub spread_from : List ℕ → Spreading
  spread_from plain = spread_packets m (length row) places
      (record { refusal = 0; states = states_in states; headers = plain; bodies = bodies; row = [] })

  abbrev pub spread_done : Spreading → SpreadResult
  spread_done s = record {
    answer = record { refusal = 0; bytes = length s.row };
    scratch = flat_map (λ t. t) s.states;
    row = overwrite row s.row;
  }

  pub record Spreads : Type 0 where
    pub unpacks : (unpacked headers).refusal ≡ 0
    pub good_states : bad_states states (length scratch) places ≡ false
    pub packets : (spread_from (unpacked headers).bytes).refusal ≡ 0
    pub all_of_both : length (spread_from (unpacked headers).bytes).headers + length (spread_from (unpacked headers).bytes).bodies ≡ 0
    pub left : spread headers bodies states scratch places m row ≡ spread_done (spread_from (unpacked headers).bytes)

  pub spreads : (spread headers bodies states scratch places m row).answer.refusal ≡ 0 → Spreads
  unfolding spread
  spreads e =
      let u : Unpacked = unpacked headers in
      let s : Spreading = spread_from u.bytes in
      let n : ℕ = length s.headers + length s.bodies in
      let done = not_why (λ (x : SpreadResult). x.answer.refusal) _ (spread_done s) _ refl e in
      let zero = none_refused u.refusal _ done.0 in
      let one = not_refused (bad_states states (length scratch) places) state_refusal _ (omega arith) zero.1 in
      let two = none_refused s.refusal _ one.1 in
      let three = not_refused (not (eqb n 0)) body_refusal _ (omega arith) two.1 in
      record {
        unpacks = zero.0;
        good_states = one.0;
        packets = two.0;
        all_of_both = eqb-true n 0 (not-false (eqb n 0) three.0);
        left = done.1;
      }

  pub spreads_as : (plain : List ℕ) (s : Spreading) → unpacked headers ≡ record { refusal = 0; bytes = plain }
      → bad_states states (length scratch) places ≡ false → spread_from plain ≡ s → s.refusal ≡ 0 → s.headers ≡ [] → s.bodies ≡ []
      → spread headers bodies states scratch places m row ≡ spread_done s
  unfolding spread
  spreads_as plain s u good p ok hs bs = rw (u, good, p, ok, hs, bs)
