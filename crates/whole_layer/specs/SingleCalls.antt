-- A whole layer or none of it (request No. 6): which call is refused and with what, and that an accepted one equals its single calls, made
-- one after another.
use Rattle.std.specs.Prelude.{◌≡◌, ◌≢◌, true, ℕ, ◌≤◌, ◌<◌, length, take, drop, eqb}
use mathlib.Core.List.{List, [], ◌∷◌, ◌++◌, map, flat_map}
use Rattle.t800.specs.declared.Markers.{Markers}
use Rattle.t800.specs.declared.LayerAnswer.{LayerAnswer}
use Rattle.t800.specs.Base.{Words, Bytes, any, sum}
use Rattle.t800.specs.Refusals.{first_of}
use Rattle.t800.specs.State.{writer, blocks, bands, state_length}
use Rattle.t800.specs.Packet.{state_checks, wrong_lists}
use Rattle.t800.specs.Interface.{measure_of, Calls, Interface}
use Rattle.t800.specs.Layer.{LayerCall, LayerResult, Single, wrote, singles_of, layer_untouched, none_of_it, write_layer}

abbrev pub UpTo16 : LayerCall → Type 0
UpTo16 c = (1 ≤ length c.numbers) × (length c.numbers ≤ 16)

abbrev pub refused_at : (why place : ℕ) → LayerAnswer
refused_at why place = record { refusal = why; place = place; bytes = 0 }

abbrev pub AllAccepted : List Single → Type 0
AllAccepted [] = Unit {0}
AllAccepted (s ∷ ss) = ((wrote s).answer.refusal ≡ 0) × AllAccepted ss

-- ---- single calls, one after another

-- all of them accepted, and each lent the output behind the packets of those before it
unfoldable pub InOrder : (output : Bytes) → List Single → Type 0
InOrder output [] = Unit {0}
InOrder output (s ∷ ss) =
    (s.call.output ≡ output) × ((wrote s).answer.refusal ≡ 0) × InOrder (drop (wrote s).answer.bytes (wrote s).output) ss

-- what they leave of that output
unfoldable pub output_after : (output : Bytes) → List Single → Bytes
output_after output [] = output
output_after output (s ∷ ss) =
    take (wrote s).answer.bytes (wrote s).output ++ output_after (drop (wrote s).answer.bytes (wrote s).output) ss

-- and all that they answer and leave, behind one another
abbrev pub left_in_order : (output : Bytes) → List Single → LayerResult
left_in_order output ss = record {
  answer = record { refusal = 0; place = 0; bytes = sum (map (λ s. (wrote s).answer.bytes) ss) };
  states = flat_map (λ s. (wrote s).state) ss;
  scratch = flat_map (λ s. (wrote s).scratch) ss;
  output = output_after output ss;
}

abbrev pub AllWith : Markers → List Single → Type 0
AllWith m [] = Unit {0}
AllWith m (s ∷ ss) = (s.call.markers ≡ m) × AllWith m ss

-- the lists that they are given, behind one another, are the layer call's: nothing is left over, nothing cut
pub record Joined (states : Words) (c : LayerCall) (ss : List Single) : Type 0 where
  pub states_joined : flat_map (λ s. s.state) ss ≡ states
  pub scratch_joined : flat_map (λ s. s.call.scratch) ss ≡ c.scratch
  pub counts_joined : flat_map (λ s. s.call.contribution.counts) ss ≡ c.contribution.counts
  pub lengths_joined : flat_map (λ s. s.call.contribution.lengths) ss ≡ c.contribution.lengths
  pub marks_joined : flat_map (λ s. s.call.contribution.marks) ss ≡ c.contribution.marks
  pub bodies_joined : flat_map (λ s. s.call.body) ss ≡ c.bodies
  pub numbers_joined : map (λ s. s.call.number) ss ≡ c.numbers
  pub same_markers : AllWith c.markers ss

-- ---- the request, of a call with these states and arguments that gave r

-- 1 to 16 precincts and a scratch as long as the states: then each precinct is looked at in turn
abbrev pub LooksAtEach : (states : Words) → LayerCall → Type 0
LooksAtEach states c = UpTo16 c × (length c.scratch ≡ length states)

-- s is the call of the precinct at place `length before`, and none before it is refused
abbrev pub Next : (states : Words) → LayerCall → (before : List Single) (s : Single) (later : List Single) → Type 0
Next states c before s later = (singles_of states c ≡ before ++ s ∷ later) × AllAccepted before

pub record WholeOrNone (states : Words) (c : LayerCall) (r : LayerResult) : Type 0 where
  pub too_many : 16 < length c.numbers → r ≡ layer_untouched states c 14
  -- whatever the other lists are
  pub empty_list : c.numbers ≡ [] → r ≡ layer_untouched states c 0
  pub wrong_scratch_lem : UpTo16 c → length c.scratch ≢ length states → r ≡ none_of_it states c (refused_at 5 0)
  -- the first refusal decides
  pub first_refused_lem : LooksAtEach states c → (before later : List Single) (s : Single) → Next states c before s later
      → (wrote s).answer.refusal ≢ 0 → r ≡ none_of_it states c (refused_at (wrote s).answer.refusal (length before))
  pub none_refused : LooksAtEach states c → AllAccepted (singles_of states c) → r.answer.refusal ≡ 0
  -- with a state that is cut short or, the last one's, has words left over
  pub wrong_words : LooksAtEach states c → (before later : List Single) (s : Single) → Next states c before s later
      → length s.state ≢ state_length (bands s.state) → r ≡ none_of_it states c (refused_at 5 (length before))
  -- with counts, lengths or marks cut short or left over, where neither 5 nor 6 comes before it
  pub wrong_entries : LooksAtEach states c → (before later : List Single) (s : Single) → Next states c before s later
      → first_of (state_checks writer s.state (length s.call.scratch)) ≡ 0
      → wrong_lists s.call.contribution (length (blocks (bands s.state))) ≡ true
      → r ≡ none_of_it states c (refused_at 3 (length before))
  -- with a body cut short or left over, where measuring refuses nothing
  pub wrong_body : LooksAtEach states c → (before later : List Single) (s : Single) → Next states c before s later
      → (measure_of s.state s.call).answer.refusal ≡ 0 → length s.call.body ≢ sum s.call.contribution.lengths
      → r ≡ none_of_it states c (refused_at 10 (length before))
  -- the calls are given all of the layer call's lists, also where one is refused
  pub shared_out : c.numbers ≢ [] → Joined states c (singles_of states c)
  -- an accepted layer is single calls in order
  pub as_single_calls : c.numbers ≢ [] → r.answer.refusal ≡ 0 → let ss = singles_of states c in
      InOrder c.output ss × (r ≡ left_in_order c.output ss)
  -- and any 1 to 16 single calls in order are an accepted layer
  pub from_single_calls : UpTo16 c → (ss : List Single) → Joined states c ss → InOrder c.output ss → r ≡ left_in_order c.output ss
  -- bytes of the output behind those that it answers stay
  pub bytes_behind : r.answer.refusal ≡ 0 → drop r.answer.bytes r.output ≡ drop r.answer.bytes c.output
  -- demand 1: the numbers; all of them leave the states, and all but 14 wipe output and scratch
  pub number : any (eqb r.answer.refusal) (0 ∷ 3 ∷ 5 ∷ 6 ∷ 7 ∷ 8 ∷ 9 ∷ 10 ∷ 11 ∷ 14 ∷ []) ≡ true
  pub fourteen : r.answer.refusal ≡ 14 → 16 < length c.numbers
  pub other_number : r.answer.refusal ≢ 0 → r.answer.refusal ≢ 14
      → r ≡ none_of_it states c (refused_at r.answer.refusal r.answer.place)

unfoldable pub WholeLayer : Type 0
WholeLayer = (states : Words) (c : LayerCall) → WholeOrNone states c (write_layer states c)

-- ---- the same of every interface with a layer call

pub record LayerInterface : Type 1 where
  pub single : Interface
  pub layers : Calls LayerCall LayerResult write_layer layer_untouched

-- where its own lists have the length asked; and a refused call leaves the states
unfoldable pub WholeLayerOf : LayerInterface → Type 0
WholeLayerOf J =
    (m : J.layers.Made)
    → (J.layers.asked m ≡ true → WholeOrNone (J.layers.found m) (J.layers.args m) (J.layers.left m))
    × ((J.layers.left m).answer.refusal ≢ 0 → (J.layers.left m).states ≡ J.layers.found m)
