-- The round trip of several precincts: each precinct's part of the calls is a list of writing calls of its own.
use mathlib.Core.Path.{◌≡◌, refl, sym, ap, ap₂, ◌∙◌, subst}
use mathlib.Core.Bool.{Bool, true, ◌&&◌}
use mathlib.Core.List.{List, [], ◌∷◌, ◌++◌, flat_map}
use Prim.Native.Nat.{ℕ, zero, suc, ◌<◌}
use native.Mathlib.Nat.{le_of_suc-le-suc}
use native.Mathlib.Omega.{arith}
use lib.ListN.{length, length-map}
use lib.Dec.{T}
use borrow.Author.Tests.{eq-eqb}
use Rattle.t800.specs.State.{writer, reader}
use Rattle.t800.specs.Ranges.{valid_state}
use Rattle.t800.specs.Book.{BlockEntry, add_counts, terminated_as_style}
use Rattle.t800.specs.Interface.{WriteCall, write_of, Interface}
use Rattle.t800.specs.RoundTrip as made
use Rattle.t800.specs.RoundTrip.{Owed, Accepted, style_of, book_of}
use Rattle.tcd_laws.proofs.Laws.ValidStates.{valid_state_lem}
use Rattle.round_trip.proofs.Trip.Lists.{WriterCall, writing, state_after, owed, owed_for, all_terminated_as_style}
use Rattle.round_trip.proofs.Trip.Calls.{owed_accepted, terminated_accepted}
use Rattle.round_trip.proofs.Trip.Interfaces.{calls-read, calls-stay_in_range}
use Rattle.whole_layer.specs.SingleCalls.{LayerInterface}
use Rattle.whole_layer.specs.Several.{state_of, Written, owed_for_all, all_terminated, SeveralMade, Follows, after}
use Rattle.whole_layer.specs.Several.{states_after, packets_for, AllStarted, start_states, SeveralRoundTrip, SeveralInRange}
use Rattle.whole_layer.proofs.Cuts.{Complete}
use Rattle.whole_layer.proofs.Steps.{Step, nothing, packet, step, step_complete, after_length}

-- ---- one precinct's own calls

-- from the state `first` on: they owe what these packets do, and leave `last`
record Own (first : List ℕ) (ps : List Written) (last : List ℕ) : Type 0 where
  calls : List WriterCall
  owed_is : (style : ℕ) (book : List BlockEntry) → owed_for_all style book ps ≡ owed style first book calls
  terminated_is : (style : ℕ) (book : List BlockEntry) → all_terminated style book ps ≡ all_terminated_as_style style first book calls
  state_is : last ≡ state_after first calls

no_calls : (first : List ℕ) → Own first [] first
unfolding owed_for_all owed all_terminated all_terminated_as_style state_after
no_calls first =
    record { calls = []; owed_is = λ style book. refl; terminated_is = λ style book. refl; state_is = refl }

one_more : (first next : List ℕ) (qs ps : List Written) (last : List ℕ) → Step first next qs → Own next ps last
    → Own first (qs ++ ps) last
unfolding owed_for_all owed_for all_terminated state_after
one_more first next qs ps last (nothing e) o = subst (λ (z : List ℕ). Own z ps last) e o
one_more first next qs ps last (packet p z same e) o =
    let c : WriteCall = p.call in
    let rest : Own (write_of first c).state ps last = subst (λ (z : List ℕ). Own z ps last) e o in
    let a = eq-eqb _ 0 z in
    record {
      calls = writing c ∷ rest.calls;
      owed_is = λ style book. let later : List BlockEntry = add_counts book c.contribution.counts in
          ap₂ (λ (x : Owed) (xs : List Owed). x ∷ xs) (same style book) (rest.owed_is style later)
          ∙ sym (owed_accepted style first book c rest.calls a);
      terminated_is = λ style book. let p : Bool = terminated_as_style style book c.contribution.counts c.contribution.marks in
          ap (λ (b : Bool). p && b) (rest.terminated_is style (add_counts book c.contribution.counts))
          ∙ sym (terminated_accepted style first book c rest.calls a);
      state_is = rest.state_is;
    }

abbrev AllComplete : List (List ℕ) → Type 0
AllComplete states = (k : ℕ) → k < length states → Complete (state_of states k)

module _ (J : LayerInterface) where
  own : (states : List (List ℕ)) (cs : List (SeveralMade J)) → Follows J states cs → AllComplete states → (k : ℕ)
      → Own (state_of states k) (packets_for J k cs) (state_of (states_after J states cs) k)
  unfolding Follows states_after flat_map
  own states [] f h k = no_calls (state_of states k)
  own states (c ∷ cs) f h k =
      let next : List (List ℕ) = after J states c in
      let h' : AllComplete next = λ i l. step_complete (state_of states i) (state_of next i) _ (step J states i c f.0 h)
      (h i (subst (λ (n : ℕ). i < n) (after_length J states c) l)) in
      one_more (state_of states k) (state_of next k) _ (packets_for J k cs) _ (step J states k c f.0 h) (own next cs f.1 h' k)

  -- ---- starts

  abbrev I : Interface
  I = J.single

  -- the start of precinct k
  record StartOf (ws : List (I.starts writer).Made) (k : ℕ) : Type 0 where
    made : (I.starts writer).Made
    accepts : Accepted I writer made
    state_is : state_of (start_states J ws) k ≡ ((I.starts writer).left made).state

  start-of : (ws : List (I.starts writer).Made) → AllStarted J ws → (k : ℕ) → k < length ws → StartOf ws k
  start-of [] a k l = absurd (omega (arith, l))
  start-of (w ∷ ws) a zero l = record { made = w; accepts = a.0; state_is = refl }
  start-of (w ∷ ws) a (suc k) l =
      let s = start-of ws a.1 k (le_of_suc-le-suc l) in
      record { made = s.made; accepts = s.accepts; state_is = s.state_is }

  start-complete : (w : (I.starts writer).Made) → Accepted I writer w → Complete ((I.starts writer).left w).state
  unfolding state_after
  start-complete w e = (valid_state_lem writer _ _ (calls-stay_in_range I w e [])).length-is

  starts_complete : (ws : List (I.starts writer).Made) → AllStarted J ws → AllComplete (start_states J ws)
  starts_complete ws a k l =
      let s = start-of ws a k (subst (λ (n : ℕ). k < n) (length-map ws _) l) in
      subst Complete (sym s.state_is) (start-complete s.made s.accepts)

  state_at_lem : (earlier later : List (I.starts writer).Made) (w : (I.starts writer).Made)
      → state_of (start_states J (earlier ++ w ∷ later)) (length earlier) ≡ ((I.starts writer).left w).state
  state_at_lem [] later w = refl
  state_at_lem (x ∷ xs) later w = state_at_lem xs later w

  accepted_at : (earlier later : List (I.starts writer).Made) (w : (I.starts writer).Made) → AllStarted J (earlier ++ w ∷ later)
      → Accepted I writer w
  accepted_at [] later w a = a.0
  accepted_at (x ∷ xs) later w a = accepted_at xs later w a.1

-- DEMAND 3
pub several_round_trip : (J : LayerInterface) → SeveralRoundTrip J
unfolding SeveralRoundTrip
several_round_trip J earlier later w r a er counts bands styles cs f t rs =
    let ws = earlier ++ w ∷ later in
    let k : ℕ = length earlier in
    let first : List ℕ = ((J.single.starts writer).left w).state in
    let o : Own first (packets_for J k cs) _ =
    subst (λ (z : List ℕ). Own z (packets_for J k cs) (state_of (states_after J (start_states J ws) cs) k)) (state_at_lem J earlier later w)
    (own J (start_states J ws) cs f (starts_complete J ws a) k) in
    let style : ℕ = style_of J.single w in
    let book : List BlockEntry = book_of J.single w in
    subst (λ (os : List Owed). made.ReadsAsOwed J.single ((J.single.starts reader).left r).state os rs) (sym (o.owed_is style book))
    (calls-read J.single w r (accepted_at J earlier later w a) er counts bands styles o.calls
    (subst T (o.terminated_is style book) t) rs)

pub several_in_range : (J : LayerInterface) → SeveralInRange J
unfolding SeveralInRange
several_in_range J ws a cs f k l =
    let s = start-of J ws a k l in
    let o = own J (start_states J ws) cs f (starts_complete J ws a) k in
    let last : List ℕ = state_of (states_after J (start_states J ws) cs) k in
    let n : ℕ = length ((J.single.starts writer).found s.made) in
    let v : valid_state writer last n ≡ true =
    subst (λ (z : List ℕ). valid_state writer z n ≡ true)
    (sym (o.state_is ∙ ap (λ (z : List ℕ). state_after z o.calls) s.state_is))
    (calls-stay_in_range J.single s.made s.accepts o.calls) in
    subst (λ (m : ℕ). valid_state writer last m ≡ true) (valid_state_lem writer last n v).scratch_is v
