-- One layer of up to 16 precincts, written whole or not at all (SCOPE S21). Their states lie behind one another in one list, and so do
-- counts, lengths, marks and bodies; the packets follow one another in the output, in the list's order.
use Rattle.std.specs.Prelude.{ℕ, ◌+◌, cond, length, take, drop, ltb, eqb}
use mathlib.Core.List.{List, [], ◌∷◌, flat_map}
use Rattle.t800.specs.declared.Markers.{Markers}
use Rattle.t800.specs.declared.LayerAnswer.{LayerAnswer}
use Rattle.t800.specs.Base.{Words, Bytes, sum, overwrite, wiped}
use Rattle.t800.specs.Refusals.{state_refusal, precincts_refusal}
use Rattle.t800.specs.State.{blocks, bands, state_length}
use Rattle.t800.specs.WriteHeader.{Contribution, contribution}
use Rattle.t800.specs.Packet.{packet, WriteResult}
use Rattle.t800.specs.Interface.{WriteCall, write_of}

-- what is given beside the states: one packet number a precinct, and marker settings for all of them
pub record LayerCall : Type 0 where
  pub scratch : Words
  pub contribution : Contribution
  pub bodies : Bytes
  pub markers : Markers
  pub numbers : Words
  pub output : Bytes

-- ---- each precinct's part of the lists

-- what is left of each list for the precincts from one on; of the output what the packets before leave
pub record Rest : Type 0 where
  pub states : Words
  pub scratch : Words
  pub contribution : Contribution
  pub bodies : Bytes
  pub output : Bytes

-- how much of them the precinct in front asks: words of the state and as many of scratch, blocks, passes, body bytes
pub record Asks : Type 0 where
  pub words : ℕ
  pub blocks : ℕ
  pub passes : ℕ
  pub bytes : ℕ

unfoldable pub asks : Rest → Asks
asks l =
    let bs = bands l.states in
    let n = length (blocks bs) in
    let passes = sum (take n l.contribution.counts) in
    record { words = state_length bs; blocks = n; passes = passes; bytes = sum (take passes l.contribution.lengths) }

-- its part, where others follow it: as much as it asks, or what is there
unfoldable pub in_front : Rest → Rest
in_front l =
    let a = asks l in
    let p = l.contribution in
    record {
      states = take a.words l.states;
      scratch = take a.words l.scratch;
      contribution = contribution (take a.blocks p.counts) (take a.passes p.lengths) (take a.passes p.marks);
      bodies = take a.bytes l.bodies;
      output = l.output;
    }

-- what is left behind it, where its packet has so many bytes
unfoldable pub behind : Rest → (bytes : ℕ) → Rest
behind l bytes =
    let a = asks l in
    let p = l.contribution in
    record {
      states = drop a.words l.states;
      scratch = drop a.words l.scratch;
      contribution = contribution (drop a.blocks p.counts) (drop a.passes p.lengths) (drop a.passes p.marks);
      bodies = drop a.bytes l.bodies;
      output = drop bytes l.output;
    }

-- ---- the single calls

-- a writing call, and the state that it is made on
pub record Single : Type 0 where
  pub state : Words
  pub call : WriteCall

-- with all of these lists
abbrev pub single : Markers → (number : ℕ) → Rest → Single
single m number l = record {
  state = l.states;
  call = record {
    scratch = l.scratch;
    contribution = l.contribution;
    body = l.bodies;
    markers = m;
    number = number;
    output = l.output;
  };
}

-- what it leaves, and its packet
abbrev pub wrote : Single → WriteResult
wrote s = write_of s.state s.call

abbrev pub packet_of : Single → Bytes
packet_of s = packet s.state s.call.contribution s.call.body s.call.markers s.call.number

-- One a packet number, in order. Each precinct has its part of every list, and the last one all that is left.
unfoldable pub singles : Markers → (numbers : Words) → Rest → List Single
singles m [] l = []
singles m (number ∷ []) l = single m number l ∷ []
singles m (number ∷ next ∷ numbers) l =
    let first = single m number (in_front l) in
    first ∷ singles m (next ∷ numbers) (behind l (length (packet_of first)))

-- ---- the layer

-- the packets behind one another
abbrev pub packets : List Single → Bytes
packets ss = flat_map packet_of ss

-- the first refusal and its place, counted from this one on; or none, and the bytes of all packets
unfoldable pub first_refused : (place : ℕ) → List Single → (bytes : ℕ) → LayerAnswer
first_refused place [] bytes = record { refusal = 0; place = 0; bytes = bytes }
first_refused place (s ∷ ss) bytes =
    let why = (wrote s).answer.refusal in
    let later = first_refused (place + 1) ss bytes in
    cond (eqb why 0) later (record { refusal = why; place = place; bytes = 0 })

pub record LayerResult : Type 0 where
  pub answer : LayerAnswer
  pub states : Words
  pub scratch : Words
  pub output : Bytes

-- the single calls of a layer
abbrev pub singles_of : (states : Words) → LayerCall → List Single
singles_of states c =
    singles c.markers c.numbers
    (record { states = states; scratch = c.scratch; contribution = c.contribution; bodies = c.bodies; output = c.output })

-- no list changed
abbrev pub layer_untouched : (states : Words) → LayerCall → (why : ℕ) → LayerResult
layer_untouched states c why =
    record { answer = record { refusal = why; place = 0; bytes = 0 }; states = states; scratch = c.scratch; output = c.output }

-- none of it: output and scratch wiped
abbrev pub none_of_it : (states : Words) → LayerCall → LayerAnswer → LayerResult
none_of_it states c answer = record { answer = answer; states = states; scratch = wiped c.scratch; output = wiped c.output }

-- the whole of it: what the single calls leave, behind one another
abbrev pub whole_of_it : LayerCall → List Single → LayerAnswer → LayerResult
whole_of_it c ss answer = record {
  answer = answer;
  states = flat_map (λ s. (wrote s).state) ss;
  scratch = flat_map (λ s. (wrote s).scratch) ss;
  output = overwrite c.output (packets ss);
}

-- 14 before all else; an empty list looks at no other one; then the scratch's length, and each precinct's call in full, in order
unfoldable pub write_layer : (states : Words) → LayerCall → LayerResult
write_layer states c =
    let ss = singles_of states c in
    let answer = first_refused 0 ss (length (packets ss)) in
    let precinct_by_precinct = cond (eqb answer.refusal 0) (whole_of_it c ss answer) (none_of_it states c answer) in
    let wrong_scratch = none_of_it states c (record { refusal = state_refusal; place = 0; bytes = 0 }) in
    let some = cond (eqb (length c.scratch) (length states)) precinct_by_precinct wrong_scratch in
    cond (ltb 16 (length c.numbers)) (layer_untouched states c precincts_refusal)
    (cond (eqb (length c.numbers) 0) (layer_untouched states c 0) some)
