-- Demand 3 of several precincts (request No. 6): writing calls and layer calls in any order, on precincts numbered from 0. It is stated of
-- each precinct by itself and in the terms of RoundTrip.antt; of the others nothing is asked but an accepted start.
use Rattle.std.specs.Prelude.{◌≡◌, ◌≢◌, Bool, true, cond, ◌&&◌, ℕ, ◌<◌, length, get_or, set, take, drop, T, eqb}
use mathlib.Core.List.{List, [], ◌∷◌, ◌++◌, map, flat_map}
use Rattle.t800.specs.Base.{Words, Bytes}
use Rattle.t800.specs.State.{writer, reader}
use Rattle.t800.specs.Ranges.{valid_state}
use Rattle.t800.specs.Packet.{WriteResult}
use Rattle.t800.specs.Book.{BlockEntry, add_counts, terminated_as_style}
use Rattle.t800.specs.Interface.{WriteCall}
use Rattle.t800.specs.RoundTrip.{Owed, owed_for, ReaderMade, Accepted, style_of, book_of, ReadsAsOwed}
use Rattle.t800.specs.Layer.{Single, wrote, singles_of}
use Rattle.whole_layer.specs.SingleCalls.{LayerInterface}

-- ---- states of the precincts

abbrev pub state_of : (states : List Words) (precinct : ℕ) → Words
state_of states k = get_or states k []

-- each of these precincts gets its part of the words, as long as the state that it has
unfoldable pub put_back : (states : List Words) (precincts : List ℕ) (words : Words) → List Words
put_back states [] words = states
put_back states (k ∷ ks) words =
    let n = length (state_of states k) in
    put_back (set states k (take n words)) ks (drop n words)

-- they exist, where there are so many
abbrev pub AllBelow : (count : ℕ) (precincts : List ℕ) → Type 0
AllBelow count [] = Unit {0}
AllBelow count (k ∷ ks) = (k < count) × AllBelow count ks

-- no precinct twice
abbrev pub NotAmong : ℕ → List ℕ → Type 0
NotAmong k [] = Unit {0}
NotAmong k (i ∷ is) = (k ≢ i) × NotAmong k is

abbrev pub Distinct : List ℕ → Type 0
Distinct [] = Unit {0}
Distinct (k ∷ ks) = NotAmong k ks × Distinct ks

-- ---- packets

-- a packet that was written: its writing call, and what was left of it
pub record Written : Type 0 where
  pub call : WriteCall
  pub left : WriteResult

-- those of a layer, whose single calls are these: each has its part of what the layer call left
unfoldable pub written_in : List Single → (states scratch : Words) (output : Bytes) → List Written
written_in [] states scratch output = []
written_in (s ∷ ss) states scratch output =
    let n = length s.state in
    let bytes = (wrote s).answer.bytes in
    record {
      call = s.call;
      left = record {
        answer = record { refusal = 0; bytes = bytes };
        state = take n states;
        scratch = take n scratch;
        output = take bytes output;
      };
    }
    ∷ written_in ss (drop n states) (drop n scratch) (drop bytes output)

-- the one of precinct k, if it is among these precincts
unfoldable pub written_of : (k : ℕ) (precincts : List ℕ) → List Written → List Written
written_of k [] ps = []
written_of k (i ∷ is) [] = []
written_of k (i ∷ is) (p ∷ ps) = let later = written_of k is ps in cond (eqb i k) (p ∷ []) later

-- what is owed for packets of one precinct, in order
unfoldable pub owed_for_all : (style : ℕ) (book : List BlockEntry) → List Written → List Owed
owed_for_all style book [] = []
owed_for_all style book (p ∷ ps) =
    owed_for style book p.call p.left ∷ owed_for_all style (add_counts book p.call.contribution.counts) ps

-- the termination rule
unfoldable pub all_terminated : (style : ℕ) (book : List BlockEntry) → List Written → Bool
all_terminated style book [] = true
all_terminated style book (p ∷ ps) =
    let c = p.call.contribution in
    terminated_as_style style book c.counts c.marks && all_terminated style (add_counts book c.counts) ps

-- ---- the writers' list

-- a call, and the precincts that it is made on
pub data SeveralMade (J : LayerInterface) : Type 0 where
  measured_at : ℕ → J.single.measures.Made → SeveralMade J
  written_at : ℕ → J.single.writes.Made → SeveralMade J
  layered : List ℕ → J.layers.Made → SeveralMade J

module _ (J : LayerInterface) where
  -- it finds these precincts' states; a layer call finds them behind one another and has a packet number for each
  unfoldable pub Finds : (states : List Words) → SeveralMade J → Type 0
  Finds states (measured_at k m) = (k < length states) × (J.single.measures.found m ≡ state_of states k)
  Finds states (written_at k m) = (k < length states) × (J.single.writes.found m ≡ state_of states k)
  Finds states (layered ks m) =
      AllBelow (length states) ks
      × Distinct ks
      × (length (J.layers.args m).numbers ≡ length ks)
      × (J.layers.found m ≡ flat_map (state_of states) ks)

  -- the states that it leaves
  unfoldable pub after : (states : List Words) → SeveralMade J → List Words
  after states (measured_at k m) = states
  after states (written_at k m) = set states k (J.single.writes.left m).state
  after states (layered ks m) = put_back states ks (J.layers.left m).states

  -- each call finds the states that the last one left
  unfoldable pub Follows : (states : List Words) → List (SeveralMade J) → Type 0
  Follows states [] = Unit {0}
  Follows states (c ∷ cs) = Finds states c × Follows (after states c) cs

  unfoldable pub states_after : (states : List Words) → List (SeveralMade J) → List Words
  states_after states [] = states
  states_after states (c ∷ cs) = states_after (after states c) cs

  -- the packet that a call wrote for precinct k; none where it is refused, measures, or is made on others
  unfoldable pub packet_for : (k : ℕ) → SeveralMade J → List Written
  packet_for k (measured_at i m) = []
  packet_for k (written_at i m) =
      let r = J.single.writes.left m in
      cond (eqb i k && eqb r.answer.refusal 0) (record { call = J.single.writes.args m; left = r } ∷ []) []
  packet_for k (layered ks m) =
      let r = J.layers.left m in
      let ss = singles_of (J.layers.found m) (J.layers.args m) in
      let all = written_in ss r.states r.scratch r.output in
      cond (eqb r.answer.refusal 0) (written_of k ks all) []

  abbrev pub packets_for : (k : ℕ) → List (SeveralMade J) → List Written
  packets_for k cs = flat_map (packet_for k) cs

  -- ---- the statements

  -- accepted starts of writers, one a precinct
  abbrev pub AllStarted : List (J.single.starts writer).Made → Type 0
  AllStarted [] = Unit {0}
  AllStarted (w ∷ ws) = Accepted J.single writer w × AllStarted ws

  abbrev pub start_states : List (J.single.starts writer).Made → List Words
  start_states ws = map (λ w. ((J.single.starts writer).left w).state) ws

  -- DEMAND 3: of the precinct whose start is w, and every reader's start with the same bands, up to their count, and style
  unfoldable pub SeveralRoundTrip : Type 0
  SeveralRoundTrip =
      let I = J.single in
      (earlier later : List (I.starts writer).Made) (w : (I.starts writer).Made) (r : (I.starts reader).Made)
      → AllStarted (earlier ++ w ∷ later)
      → Accepted I reader r
      → ((I.starts reader).args r).count ≡ ((I.starts writer).args w).count
      → take ((I.starts reader).args r).count ((I.starts reader).args r).bands
      ≡ take ((I.starts writer).args w).count ((I.starts writer).args w).bands
      → ((I.starts reader).args r).style ≡ ((I.starts writer).args w).style
      → (cs : List (SeveralMade J))
      → Follows (start_states (earlier ++ w ∷ later)) cs
      → let ps = packets_for (length earlier) cs in
      T (all_terminated (style_of I w) (book_of I w) ps)
      → (rs : List (ReaderMade I))
      → ReadsAsOwed I ((I.starts reader).left r).state (owed_for_all (style_of I w) (book_of I w) ps) rs

  -- and every precinct's state stays in the ranges of refusal 5, whatever the marks
  unfoldable pub SeveralInRange : Type 0
  SeveralInRange =
      (ws : List (J.single.starts writer).Made)
      → AllStarted ws
      → (cs : List (SeveralMade J))
      → Follows (start_states ws) cs
      → (k : ℕ)
      → k < length ws
      → let state = state_of (states_after (start_states ws) cs) k in
      valid_state writer state (length state) ≡ true
