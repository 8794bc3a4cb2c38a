-- What one precinct sees of a call on several: either nothing, or one accepted writing call of its own.
use mathlib.Core.Path.{◌≡◌, refl, sym, ap, ap₂, ◌∙◌, subst}
use mathlib.Core.Logic.{◌≢◌}
use mathlib.Core.Bool.{Bool, cond, ◌&&◌}
use mathlib.Core.List.{List, [], ◌∷◌, ◌++◌, flat_map, append_assoc}
use Prim.Native.Nat.{ℕ, ◌-◌, ◌≤◌, ◌<◌}
use native.Mathlib.Omega.{arith}
use lib.ListN.{length, set, take, drop, length-set, length-map}
use lib.Seq.{take-append_seam, drop-append_seam, take-append-le, get_or-set_same, get_or-set_other, set-get_or}
use lib.Dec.{eqb}
use borrow.Author.Tests.{eq-eqb, ne_eqb, eqb-false}
use Rattle.t800.specs.Base.{sum, overwrite}
use Rattle.t800.specs.State.{bands, state_length}
use Rattle.t800.specs.Packet.{WriteResult}
use Rattle.t800.specs.Book.{BlockEntry, entry}
use Rattle.t800.specs.WriteHeader.{contributes}
use Rattle.t800.specs.Interface.{WriteCall, write_of}
use Rattle.t800.specs.RoundTrip.{owed_for}
use Rattle.t800.specs.Layer.{LayerCall, LayerResult, Single, wrote, packet_of, packets, singles_of, write_layer}
use Rattle.t800_laws.proofs.Laws.Tests.{if-true, if-false, on-eq}
use Rattle.t800_laws.proofs.Laws.Checks.{on_bool}
use Rattle.round_trip.proofs.Trip.Calls.{refused-keeps}
use Rattle.round_trip.proofs.Trip.Interfaces.{on-write}
use Rattle.whole_layer.specs.SingleCalls.{AllAccepted, LayerInterface}
use Rattle.whole_layer.specs.Several.{state_of, put_back, AllBelow, NotAmong, Distinct, Written, written_in, written_of}
use Rattle.whole_layer.specs.Several.{SeveralMade, measured_at, written_at, layered, Finds, after, packet_for}
use Rattle.whole_layer.proofs.Refusals.{known-accepted, accepted_here}
use Rattle.whole_layer.proofs.Cuts.{Complete, bands-in_front, Fits, fits, state_kept, stays_complete}
use Rattle.whole_layer.proofs.SingleCalls.{bytes_are, output-is, shared_out, refused-layer}

-- ---- one precinct's part of a call

-- it left `after` where `before` was, and wrote these packets for the precinct
pub data Step (before after : List ℕ) : List Written → Type 0 where
  nothing : after ≡ before → Step before after []
  packet : (p : Written) → (write_of before p.call).answer.refusal ≡ 0
      → ((style : ℕ) (book : List BlockEntry) → owed_for style book p.call p.left
      ≡ owed_for style book p.call (write_of before p.call))
      → after ≡ (write_of before p.call).state → Step before after (p ∷ [])

pub step_complete : (before after : List ℕ) (ps : List Written) → Step before after ps → Complete before → Complete after
step_complete before after ps (nothing e) h = subst Complete (sym e) h
step_complete before after ps (packet p z o e) h =
    let s : Single = record { state = before; call = p.call } in
    subst Complete (sym e) (stays_complete s (fits s z))

-- ---- lists of states

set_same : (states : List (List ℕ)) (i k : ℕ) (ws : List ℕ) → i < length states → i ≡ k → state_of (set states i ws) k ≡ ws
set_same states i k ws h e = ap (state_of (set states i ws)) (sym e) ∙ get_or-set_same states i ws [] h

pub put_back_length : (states : List (List ℕ)) (ks : List ℕ) (words : List ℕ) → length (put_back states ks words) ≡ length states
unfolding put_back
put_back_length states [] words = refl
put_back_length states (k ∷ ks) words = put_back_length _ ks _ ∙ length-set states k _

-- the states that were there put back
put_same : (states : List (List ℕ)) (ks : List ℕ) → put_back states ks (flat_map (state_of states) ks) ≡ states
unfolding put_back flat_map
put_same states [] = refl
put_same states (k ∷ ks) =
    let here : List ℕ = state_of states k in
    let later : List ℕ = flat_map (state_of states) ks in
    (λ i. put_back (set states k (take-append_seam here later i)) ks (drop-append_seam here later i))
    ∙ ap (λ (z : List (List ℕ)). put_back z ks later) (set-get_or states k [])
    ∙ put_same states ks

others_stay : (k : ℕ) (states : List (List ℕ)) (ks : List ℕ) (words : List ℕ) → NotAmong k ks
    → state_of (put_back states ks words) k ≡ state_of states k
unfolding put_back
others_stay k states [] words h = refl
others_stay k states (i ∷ is) words h =
    let n : ℕ = length (state_of states i) in
    others_stay k (set states i (take n words)) is (drop n words) h.1 ∙ get_or-set_other states i k (take n words) [] h.0

-- ---- single calls made on these precincts

abbrev MadeOn : (states : List (List ℕ)) → List ℕ → List Single → Type 0
MadeOn states [] [] = Unit {0}
MadeOn states [] (s ∷ ss) = ⊥
MadeOn states (k ∷ ks) [] = ⊥
MadeOn states (k ∷ ks) (s ∷ ss) = (s.state ≡ state_of states k) × ((wrote s).answer.refusal ≡ 0) × MadeOn states ks ss

-- the states of the precincts and those of accepted calls, each behind one another, are the same words: so each is the same
made_on : (states : List (List ℕ)) (ks : List ℕ) (ss : List Single) → AllBelow (length states) ks
    → ((k : ℕ) → k < length states → Complete (state_of states k))
    → AllAccepted ss → length ss ≡ length ks → flat_map (λ s. s.state) ss ≡ flat_map (state_of states) ks → MadeOn states ks ss
unfolding flat_map
made_on states [] [] b h a l e = tt
made_on states [] (s ∷ ss) b h a l e = absurd (omega (arith, l))
made_on states (k ∷ ks) [] b h a l e = absurd (omega (arith, l))
made_on states (k ∷ ks) (s ∷ ss) b h a l e =
    let us : List ℕ = s.state in
    let vs : List ℕ = state_of states k in
    let us' : List ℕ = flat_map (λ s. s.state) ss in
    let vs' : List ℕ = flat_map (state_of states) ks in
    let cu : Complete us = (fits s a.0).complete in
    let cv : Complete vs = h k b.0 in
    let n : length us ≡ length vs =
    cu
    ∙ ap state_length (sym (bands-in_front us us' cu) ∙ ap bands e ∙ bands-in_front vs vs' cv)
    ∙ sym cv in (
      sym (take-append_seam us us') ∙ ap₂ (λ (m : ℕ) (z : List ℕ). take m z) n e ∙ take-append_seam vs vs',
      a.0,
      made_on states ks ss b.1 h a.1 (omega (arith, l))
          (sym (drop-append_seam us us') ∙ ap₂ (λ (m : ℕ) (z : List ℕ). drop m z) n e ∙ drop-append_seam vs vs'),
    )

still_made_on : (states : List (List ℕ)) (i : ℕ) (ws : List ℕ) (ks : List ℕ) (ss : List Single) → NotAmong i ks → MadeOn states ks ss
    → MadeOn (set states i ws) ks ss
still_made_on states i ws [] [] n m = tt
still_made_on states i ws [] (s ∷ ss) n m = m
still_made_on states i ws (k ∷ ks) [] n m = m
still_made_on states i ws (k ∷ ks) (s ∷ ss) n m = (
  m.0 ∙ sym (get_or-set_other states i k ws [] (λ e. n.0 (sym e))),
  m.1,
  still_made_on states i ws ks ss n.1 m.2,
)

all-below : (m n : ℕ) (ks : List ℕ) → m ≡ n → AllBelow m ks → AllBelow n ks
all-below m n ks e b = subst (λ (z : ℕ). AllBelow z ks) e b

-- ---- an accepted layer

-- the packet that the layer call left at its place is the single call's
same_owed : (s : Single) (e : (wrote s).answer.refusal ≡ 0) (output more : List ℕ) → output ≡ packet_of s ++ more
    → (left : WriteResult) → left.answer.bytes ≡ (wrote s).answer.bytes → left.output ≡ take (wrote s).answer.bytes output
    → (style : ℕ) (book : List BlockEntry) → owed_for style book s.call left ≡ owed_for style book s.call (wrote s)
same_owed s e output more o left b l style book =
    let n : ℕ = length (packet_of s) in
    let k : ℕ = n - sum s.call.contribution.lengths in
    let few : k ≤ n = omega arith in
    let is_packet : left.output ≡ packet_of s =
    l ∙ ap₂ (λ (m : ℕ) (z : List ℕ). take m z) (bytes_are s e) o ∙ take-append_seam (packet_of s) more in
    let front : take (left.answer.bytes - sum s.call.contribution.lengths) left.output
    ≡ take ((wrote s).answer.bytes - sum s.call.contribution.lengths) (wrote s).output =
    ap₂ (λ (m : ℕ) (z : List ℕ). take (m - sum s.call.contribution.lengths) z) (b ∙ bytes_are s e) is_packet
    ∙ sym (take-append-le k (packet_of s) (drop n s.call.output) few)
    ∙ sym (ap₂ (λ (m : ℕ) (z : List ℕ). take (m - sum s.call.contribution.lengths) z) (bytes_are s e) (output-is s e)) in
    ap (λ (z : List ℕ). record {
      front = z;
      markers = s.call.markers;
      present = cond (contributes s.call.contribution) 1 0;
      entry = entry style book s.call.contribution.counts s.call.contribution.lengths;
    }) front

module _ (k : ℕ) where
  -- us and vs stand for the states and scratch that the packets are said to have left, which are not owed
  layer-step : (states : List (List ℕ)) (ks : List ℕ) (ss : List Single) (words us vs output more : List ℕ) → AllBelow (length states) ks
      → Distinct ks → MadeOn states ks ss → words ≡ flat_map (λ s. (wrote s).state) ss → output ≡ packets ss ++ more
      → Step (state_of states k) (state_of (put_back states ks words) k) (written_of k ks (written_in ss us vs output))
  unfolding put_back written_of written_in flat_map
  layer-step states [] [] words us vs output more b d m w o = nothing refl
  layer-step states [] (s ∷ ss) words us vs output more b d m w o = absurd m
  layer-step states (i ∷ is) [] words us vs output more b d m w o = absurd m
  layer-step states (i ∷ is) (s ∷ ss) words us vs output more b d m w o =
      let f : Fits s = fits s m.1 in
      let n : ℕ = length (state_of states i) in
      let later : List ℕ = flat_map (λ s. (wrote s).state) ss in
      let long : n ≡ length (wrote s).state = ap length (sym m.0) ∙ sym (state_kept s f) in
      let part : take n words ≡ (wrote s).state =
      ap₂ (λ (x : ℕ) (z : List ℕ). take x z) long w ∙ take-append_seam (wrote s).state later in
      let rest : drop n words ≡ later =
      ap₂ (λ (x : ℕ) (z : List ℕ). drop x z) long w ∙ drop-append_seam (wrote s).state later in
      let states' : List (List ℕ) = set states i (take n words) in
      let us' : List ℕ = drop (length s.state) us in
      let vs' : List ℕ = drop (length s.state) vs in
      let output' : List ℕ = drop (wrote s).answer.bytes output in
      let o₁ : output ≡ packet_of s ++ (packets ss ++ more) = o ∙ append_assoc (packet_of s) (packets ss) more in
      let p : Written = record {
        call = s.call;
        left = record {
          answer = record { refusal = 0; bytes = (wrote s).answer.bytes };
          state = take (length s.state) us;
          scratch = take (length s.state) vs;
          output = take (wrote s).answer.bytes output;
        };
      } in
      let left : List ℕ = state_of (put_back states' is (drop n words)) k in
      on-eq i k
      (λ e. let same : s.state ≡ state_of states k = m.0 ∙ ap (state_of states) e in
      subst (Step (state_of states k) left) (sym (if-true (eqb i k) _ _ (eq-eqb i k e)))
      (packet p
      (subst (λ (z : List ℕ). (write_of z s.call).answer.refusal ≡ 0) same m.1)
      (λ style book. same_owed s m.1 output (packets ss ++ more) o₁ p.left refl refl style book
      ∙ ap (λ (z : List ℕ). owed_for style book s.call (write_of z s.call)) same)
      (others_stay k states' is (drop n words) (subst (λ (z : ℕ). NotAmong z is) e d.0)
      ∙ set_same states i k (take n words) b.0 e ∙ part ∙ ap (λ (z : List ℕ). (write_of z s.call).state) same)))
      (λ e. subst (Step (state_of states k) left) (sym (if-false (eqb i k) _ _ (ne_eqb i k e)))
      (subst (λ (z : List ℕ). Step z left (written_of k is (written_in ss us' vs' output')))
      (get_or-set_other states i k (take n words) [] (λ q. e (sym q)))
      (layer-step states' is ss (drop n words) us' vs' output' more
      (all-below (length states) (length states') is (sym (length-set states i (take n words))) b.1) d.1
      (still_made_on states i (take n words) is ss d.0 m.2) rest
      (ap₂ (λ (x : ℕ) (z : List ℕ). drop x z) (bytes_are s m.1) o₁ ∙ drop-append_seam (packet_of s) (packets ss ++ more)))))

-- ---- each call

module _ (J : LayerInterface) (states : List (List ℕ)) (k : ℕ) where
  -- a layer call that was accepted is the definition's
  module _ (m : J.layers.Made) (z : (J.layers.left m).answer.refusal ≡ 0) where
    layer-meets : J.layers.left m ≡ write_layer (J.layers.found m) (J.layers.args m)
    layer-meets =
        on_bool (J.layers.asked m) (λ a. J.layers.meets m a)
        (λ a. absurd (let n = (J.layers.numbered m).0 in
        let e : J.layers.otherwise m ≡ 0 = sym (ap (λ (r : LayerResult). r.answer.refusal) (J.layers.refuses m a)) ∙ z in
        omega (arith, n, e)))

    accepted_layer : (ks : List ℕ) → Finds J states (layered ks m)
        → ((i : ℕ) → i < length states → Complete (state_of states i))
        → Step (state_of states k) (state_of (after J states (layered ks m)) k)
        (written_of k ks (written_in (singles_of (J.layers.found m) (J.layers.args m)) (J.layers.left m).states
        (J.layers.left m).scratch (J.layers.left m).output))
    unfolding Finds after overwrite put_back written_of
    accepted_layer [] f h = nothing refl
    accepted_layer (i ∷ is) f h =
        let found : List ℕ = J.layers.found m in
        let c : LayerCall = J.layers.args m in
        let r : LayerResult = J.layers.left m in
        let ss : List Single = singles_of found c in
        let n : c.numbers ≢ [] = λ e. let l : 0 ≡ length (i ∷ is) = ap length (sym e) ∙ f.2 in absurd (omega (arith, l)) in
        let a : (write_layer found c).answer.refusal ≡ 0 =
        sym (ap (λ (x : LayerResult). x.answer.refusal) layer-meets) ∙ z in
        let known = known-accepted found c n a in
        let whole = layer-meets ∙ accepted_here found c known.0 known.1 known.2 in
        let joined = shared_out found c n in
        layer-step k states (i ∷ is) ss r.states r.states r.scratch r.output (drop (length (packets ss)) c.output)
        f.0 f.1
        (made_on states (i ∷ is) ss f.0 h known.2
        (sym (length-map ss (λ s. s.call.number)) ∙ ap length joined.numbers_joined ∙ f.2) (joined.states_joined ∙ f.3))
        (ap (λ (x : LayerResult). x.states) whole) (ap (λ (x : LayerResult). x.output) whole)

  -- a writing call that was accepted is the definition's, and a refused one leaves the state
  accepted_write : (m : J.single.writes.Made) → (J.single.writes.left m).answer.refusal ≡ 0
      → J.single.writes.left m ≡ write_of (J.single.writes.found m) (J.single.writes.args m)
  accepted_write m z =
      on-write J.single (J.single.writes.found m) m refl (λ g. g.left) (λ q. absurd (eqb-false _ 0 q.refused z))

  refused-write : (m : J.single.writes.Made) → (J.single.writes.left m).answer.refusal ≢ 0
      → (J.single.writes.left m).state ≡ J.single.writes.found m
  refused-write m n =
      on-write J.single (J.single.writes.found m) m refl
      (λ g. ap (λ (r : WriteResult). r.state) g.left
      ∙ refused-keeps (J.single.writes.found m) (J.single.writes.args m)
      (ne_eqb _ 0 (λ z. n (ap (λ (r : WriteResult). r.answer.refusal) g.left ∙ z))))
      (λ q. q.state)

  pub step : (c : SeveralMade J) → Finds J states c → ((i : ℕ) → i < length states → Complete (state_of states i))
      → Step (state_of states k) (state_of (after J states c) k) (packet_for J k c)
  unfolding Finds after packet_for
  step (measured_at i m) f h = nothing refl
  step (written_at i m) f h =
      let c : WriteCall = J.single.writes.args m in
      let r : WriteResult = J.single.writes.left m in
      let why : ℕ = r.answer.refusal in
      let p : Written = record { call = c; left = r } in
      let S : List Written → Type 0 = Step (state_of states k) (state_of (set states i r.state) k) in
      on-eq i k
      (λ e. on-eq why 0
      (λ z. let is : r ≡ write_of (state_of states k) c =
      accepted_write m z ∙ ap (λ (x : List ℕ). write_of x c) (f.1 ∙ ap (state_of states) e) in
      subst S (sym (if-true (eqb i k && eqb why 0) (p ∷ []) [] (ap₂ (λ (a b : Bool). a && b) (eq-eqb i k e) (eq-eqb why 0 z))))
      (packet p (sym (ap (λ (x : WriteResult). x.answer.refusal) is) ∙ z) (λ style book. ap (owed_for style book c) is)
      (set_same states i k r.state f.0 e ∙ ap (λ (x : WriteResult). x.state) is)))
      (λ n. subst S (sym (if-false (eqb i k && eqb why 0) (p ∷ []) [] (ap₂ (λ (a b : Bool). a && b) (eq-eqb i k e) (ne_eqb why 0 n))))
      (nothing (set_same states i k r.state f.0 e ∙ refused-write m n ∙ f.1 ∙ ap (state_of states) e))))
      (λ e. subst S (sym (if-false (eqb i k && eqb why 0) (p ∷ []) [] (ap (λ (a : Bool). a && eqb why 0) (ne_eqb i k e))))
      (nothing (get_or-set_other states i k r.state [] (λ q. e (sym q)))))
  step (layered ks m) f h =
      let r : LayerResult = J.layers.left m in
      let why : ℕ = r.answer.refusal in
      let all : List Written = written_in (singles_of (J.layers.found m) (J.layers.args m)) r.states r.scratch r.output in
      let S : List Written → Type 0 = Step (state_of states k) (state_of (put_back states ks r.states) k) in
      on-eq why 0
      (λ z. subst S (sym (if-true (eqb why 0) (written_of k ks all) [] (eq-eqb why 0 z))) (accepted_layer m z ks f h))
      (λ n. subst S (sym (if-false (eqb why 0) (written_of k ks all) [] (ne_eqb why 0 n)))
      (nothing (ap (λ (x : List ℕ). state_of (put_back states ks x) k) (refused-layer J m n ∙ f.3)
      ∙ ap (λ (x : List (List ℕ)). state_of x k) (put_same states ks))))

pub after_length : (J : LayerInterface) (states : List (List ℕ)) (c : SeveralMade J) → length (after J states c) ≡ length states
unfolding after
after_length J states (measured_at i m) = refl
after_length J states (written_at i m) = length-set states i (J.single.writes.left m).state
after_length J states (layered ks m) = put_back_length states ks (J.layers.left m).states
