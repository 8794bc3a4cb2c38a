-- A layer call equals its single calls, made one after another.
use mathlib.Core.Path.{◌≡◌, refl, sym, ap, ap₂, ◌∙◌, subst}
use mathlib.Core.Logic.{◌≢◌}
use mathlib.Core.List.{List, [], ◌∷◌, ◌++◌, map, flat_map, append-nil, append_assoc}
use Prim.Native.Nat.{ℕ, ◌+◌}
use native.Mathlib.Omega.{arith}
use lib.ListN.{length, take, drop, length-append, take-append-drop}
use lib.Seq.{take-append_seam, drop-append_seam, drop-drop}
use Rattle.t800.specs.declared.Markers.{Markers}
use Rattle.t800.specs.Base.{sum, overwrite}
use Rattle.t800.specs.Packet.{WriteResult}
use Rattle.t800.specs.WriteHeader.{contribution}
use Rattle.t800.specs.Layer.{LayerCall, LayerResult, Rest, asks, in_front, behind, Single, single, wrote, packet_of, singles, packets}
use Rattle.t800.specs.Layer.{singles_of, whole_of_it, write_layer}
use Rattle.t800_laws.proofs.Laws.Tests.{on-eq}
use Rattle.t800_laws.proofs.Laws.Checks.{on_bool}
use Rattle.whole_layer.specs.SingleCalls.{UpTo16, AllAccepted, InOrder, output_after, left_in_order, AllWith, Joined}
use Rattle.whole_layer.specs.SingleCalls.{WholeOrNone, WholeLayer, LayerInterface, WholeLayerOf}
use Rattle.whole_layer.proofs.Refusals.{too_many_here, none_here, wrong_scratch_here, refused-here, accepted_here, known-accepted}
use Rattle.whole_layer.proofs.Refusals.{numbers_here, refused-layer_keeps, wrong_words_here, wrong_entries_here, wrong_body_here}
use Rattle.whole_layer.proofs.Cuts.{Fits, fits, rest_of, in_front_lem, left_behind}

-- ---- the output of an accepted call

module _ (s : Single) (e : (wrote s).answer.refusal ≡ 0) where
  pub bytes_are : (wrote s).answer.bytes ≡ length (packet_of s)
  bytes_are = ap (λ (r : WriteResult). r.answer.bytes) (fits s e).left

  pub output-is : (wrote s).output ≡ packet_of s ++ drop (length (packet_of s)) s.call.output
  unfolding overwrite
  output-is = ap (λ (r : WriteResult). r.output) (fits s e).left

  packet-first : take (wrote s).answer.bytes (wrote s).output ≡ packet_of s
  packet-first =
      ap₂ (λ (n : ℕ) (z : List ℕ). take n z) bytes_are output-is
      ∙ take-append_seam (packet_of s) (drop (length (packet_of s)) s.call.output)

  then_the_rest : drop (wrote s).answer.bytes (wrote s).output ≡ drop (length (packet_of s)) s.call.output
  then_the_rest =
      ap₂ (λ (n : ℕ) (z : List ℕ). drop n z) bytes_are output-is
      ∙ drop-append_seam (packet_of s) (drop (length (packet_of s)) s.call.output)

-- ---- the layer's single calls have its lists among them

abbrev call_of : Markers → List ℕ → Rest → LayerCall
call_of m numbers l = record {
  scratch = l.scratch;
  contribution = l.contribution;
  bodies = l.bodies;
  markers = m;
  numbers = numbers;
  output = l.output;
}

joined : (m : Markers) (number : ℕ) (numbers : List ℕ) (l : Rest)
    → Joined l.states (call_of m (number ∷ numbers) l) (singles m (number ∷ numbers) l)
unfolding singles in_front behind flat_map
joined m number [] l =
    record {
      states_joined = append-nil l.states;
      scratch_joined = append-nil l.scratch;
      counts_joined = append-nil l.contribution.counts;
      lengths_joined = append-nil l.contribution.lengths;
      marks_joined = append-nil l.contribution.marks;
      bodies_joined = append-nil l.bodies;
      numbers_joined = refl;
      same_markers = (refl, tt);
    }
joined m number (next ∷ numbers) l =
    let a = asks l in
    let p = l.contribution in
    let j = joined m next numbers (behind l (length (packet_of (single m number (in_front l))))) in
    record {
      states_joined = ap (λ (z : List ℕ). take a.words l.states ++ z) j.states_joined
          ∙ take-append-drop a.words l.states;
      scratch_joined = ap (λ (z : List ℕ). take a.words l.scratch ++ z) j.scratch_joined
          ∙ take-append-drop a.words l.scratch;
      counts_joined = ap (λ (z : List ℕ). take a.blocks p.counts ++ z) j.counts_joined
          ∙ take-append-drop a.blocks p.counts;
      lengths_joined = ap (λ (z : List ℕ). take a.passes p.lengths ++ z) j.lengths_joined
          ∙ take-append-drop a.passes p.lengths;
      marks_joined = ap (λ (z : List ℕ). take a.passes p.marks ++ z) j.marks_joined
          ∙ take-append-drop a.passes p.marks;
      bodies_joined = ap (λ (z : List ℕ). take a.bytes l.bodies ++ z) j.bodies_joined
          ∙ take-append-drop a.bytes l.bodies;
      numbers_joined = ap (λ (z : List ℕ). number ∷ z) j.numbers_joined;
      same_markers = (refl, j.same_markers);
    }

in_order : (m : Markers) (number : ℕ) (numbers : List ℕ) (l : Rest) → AllAccepted (singles m (number ∷ numbers) l)
    → InOrder l.output (singles m (number ∷ numbers) l)
unfolding singles in_front behind InOrder
in_order m number [] l h = (refl, h.0, tt)
in_order m number (next ∷ numbers) l h =
    let first : Single = single m number (in_front l) in
    let l' : Rest = behind l (length (packet_of first)) in (
      refl,
      h.0,
      subst (λ (out : List ℕ). InOrder out (singles m (next ∷ numbers) l')) (sym (then_the_rest first h.0))
          (in_order m next numbers l' h.1),
    )

-- ---- what they leave

bytes_add_up : (ss : List Single) → AllAccepted ss → length (packets ss) ≡ sum (map (λ s. (wrote s).answer.bytes) ss)
unfolding flat_map sum
bytes_add_up [] h = refl
bytes_add_up (s ∷ ss) h =
    length-append (packet_of s) (packets ss) ∙ ap₂ (λ (m n : ℕ). m + n) (sym (bytes_are s h.0)) (bytes_add_up ss h.1)

output-left : (output : List ℕ) (ss : List Single) → InOrder output ss → overwrite output (packets ss) ≡ output_after output ss
unfolding InOrder output_after overwrite flat_map
output-left output [] h = refl
output-left output (s ∷ ss) h =
    let here : List ℕ = packet_of s in
    let later : List ℕ = packets ss in
    let out : List ℕ = drop (wrote s).answer.bytes (wrote s).output in
    let rest : out ≡ drop (length here) output =
    then_the_rest s h.1 ∙ ap (λ (z : List ℕ). drop (length here) z) h.0 in
    let behind-all : drop (length (here ++ later)) output ≡ drop (length later) out =
    ap (λ (n : ℕ). drop n output) (length-append here later)
    ∙ sym (drop-drop (length later) (length here) output)
    ∙ ap (λ (z : List ℕ). drop (length later) z) (sym rest) in
    append_assoc here later (drop (length (here ++ later)) output)
    ∙ ap (λ (z : List ℕ). here ++ (later ++ z)) behind-all
    ∙ ap (λ (z : List ℕ). here ++ z) (output-left out ss h.2)
    ∙ ap (λ (z : List ℕ). z ++ output_after out ss) (sym (packet-first s h.1))

all_in_order : (output : List ℕ) (ss : List Single) → InOrder output ss → AllAccepted ss
unfolding InOrder
all_in_order output [] h = tt
all_in_order output (s ∷ ss) h = (h.1, all_in_order (drop (wrote s).answer.bytes (wrote s).output) ss h.2)

whole_is : (c : LayerCall) (ss : List Single) → InOrder c.output ss
    → whole_of_it c ss (record { refusal = 0; place = 0; bytes = length (packets ss) }) ≡ left_in_order c.output ss
whole_is c ss h =
    λ i. record {
      answer = record { refusal = 0; place = 0; bytes = bytes_add_up ss (all_in_order c.output ss h) i };
      states = flat_map (λ s. (wrote s).state) ss;
      scratch = flat_map (λ s. (wrote s).scratch) ss;
      output = output-left c.output ss h i;
    }

module _ (states : List ℕ) (c : LayerCall) (n : c.numbers ≢ []) where
  abbrev all : Rest
  all = record { states = states; scratch = c.scratch; contribution = c.contribution; bodies = c.bodies; output = c.output }

  pub shared_out : Joined states c (singles_of states c)
  shared_out = some c.numbers n
    where
      some : (numbers : List ℕ) → numbers ≢ [] → Joined states (call_of c.markers numbers all) (singles c.markers numbers all)
      some [] h = absurd (h refl)
      some (number ∷ numbers) h = joined c.markers number numbers all

  layer-as_single_calls : (write_layer states c).answer.refusal ≡ 0
      → InOrder c.output (singles_of states c) × (write_layer states c ≡ left_in_order c.output (singles_of states c))
  layer-as_single_calls z =
      let k = known-accepted states c n z in
      let o = some c.numbers n k.2 in
      (o, accepted_here states c k.0 k.1 k.2 ∙ whole_is c (singles_of states c) o)
    where
      some : (numbers : List ℕ) → numbers ≢ [] → AllAccepted (singles c.markers numbers all)
          → InOrder c.output (singles c.markers numbers all)
      some [] h a = absurd (h refl)
      some (number ∷ numbers) h a = in_order c.markers number numbers all a

-- ---- single calls whose lists are put together

abbrev together : (output : List ℕ) → List Single → Rest
together output ss = record {
  states = flat_map (λ s. s.state) ss;
  scratch = flat_map (λ s. s.call.scratch) ss;
  contribution = contribution (flat_map (λ s. s.call.contribution.counts) ss)
      (flat_map (λ s. s.call.contribution.lengths) ss) (flat_map (λ s. s.call.contribution.marks) ss);
  bodies = flat_map (λ s. s.call.body) ss;
  output = output;
}

cut_again : (m : Markers) (s : Single) (ss : List Single) (output : List ℕ) → AllWith m (s ∷ ss) → InOrder output (s ∷ ss)
    → singles m (map (λ s. s.call.number) (s ∷ ss)) (together output (s ∷ ss)) ≡ s ∷ ss
unfolding singles InOrder flat_map
cut_again m s [] output w h =
    λ i. record {
      state = append-nil s.state i;
      call = record {
        scratch = append-nil s.call.scratch i;
        contribution = contribution (append-nil s.call.contribution.counts i) (append-nil s.call.contribution.lengths i)
            (append-nil s.call.contribution.marks i);
        body = append-nil s.call.body i;
        markers = sym w.0 i;
        number = s.call.number;
        output = sym h.0 i;
      };
    }
    ∷ []
cut_again m s (t ∷ ss) output w h =
    let n : ℕ = s.call.number in
    let ns : List ℕ = map (λ s. s.call.number) (t ∷ ss) in
    let f : Fits s = fits s h.1 in
    let later : Rest = together output (t ∷ ss) in
    let by : Rest → Single → List Single = λ l x. x ∷ singles m ns (behind l (length (packet_of x))) in
    let first : single m n (in_front (together output (s ∷ t ∷ ss))) ≡ s =
    ap (λ (out : List ℕ). single m n (in_front (together out (s ∷ t ∷ ss)))) (sym h.0)
    ∙ ap (single m n) (in_front_lem s f later)
    ∙ ap (λ (z : Markers). single z n (rest_of s)) (sym w.0) in
    let rest : behind (together output (s ∷ t ∷ ss)) (length (packet_of s))
    ≡ together (drop (wrote s).answer.bytes (wrote s).output) (t ∷ ss) =
    ap (λ (out : List ℕ). behind (together out (s ∷ t ∷ ss)) (length (packet_of s))) (sym h.0)
    ∙ left_behind s f later (length (packet_of s))
    ∙ ap (λ (out : List ℕ). together out (t ∷ ss)) (sym (then_the_rest s h.1)) in
    ap (by (together output (s ∷ t ∷ ss))) first
    ∙ ap (λ (l : Rest). s ∷ singles m ns l) rest
    ∙ ap (λ (z : List Single). s ∷ z) (cut_again m t ss (drop (wrote s).answer.bytes (wrote s).output) w.1 h.2)

scratch_as_long : (ss : List Single) → AllAccepted ss
    → length (flat_map (λ s. s.call.scratch) ss) ≡ length (flat_map (λ s. s.state) ss)
unfolding flat_map
scratch_as_long [] h = refl
scratch_as_long (s ∷ ss) h =
    length-append s.call.scratch _
    ∙ ap₂ (λ (m n : ℕ). m + n) (fits s h.0).scratch (scratch_as_long ss h.1)
    ∙ sym (length-append s.state _)

single-calls_as_layer : (states : List ℕ) (c : LayerCall) → UpTo16 c → (ss : List Single) → Joined states c ss → InOrder c.output ss
    → write_layer states c ≡ left_in_order c.output ss
single-calls_as_layer states c u [] j h = absurd (let n = ap length j.numbers_joined in omega (arith, u.0, n))
single-calls_as_layer states c u (s ∷ ss) j h =
    let all = all_in_order c.output (s ∷ ss) h in
    let is : singles_of states c ≡ s ∷ ss =
    (λ i. singles c.markers (sym j.numbers_joined i) (record {
      states = sym j.states_joined i;
      scratch = sym j.scratch_joined i;
      contribution = contribution (sym j.counts_joined i) (sym j.lengths_joined i) (sym j.marks_joined i);
      bodies = sym j.bodies_joined i;
      output = c.output;
    }))
    ∙ cut_again c.markers s ss c.output j.same_markers h in
    let long : length c.scratch ≡ length states =
    ap length (sym j.scratch_joined) ∙ scratch_as_long (s ∷ ss) all ∙ ap length j.states_joined in
    accepted_here states c u long (subst AllAccepted (sym is) all)
    ∙ ap (λ (z : List Single). whole_of_it c z (record { refusal = 0; place = 0; bytes = length (packets z) })) is
    ∙ whole_is c (s ∷ ss) h

-- ---- the request

behind-stays : (states : List ℕ) (c : LayerCall) → (write_layer states c).answer.refusal ≡ 0
    → drop (write_layer states c).answer.bytes (write_layer states c).output ≡ drop (write_layer states c).answer.bytes c.output
unfolding overwrite
behind-stays states c z =
    let P : LayerResult → Type 0 = λ r. drop r.answer.bytes r.output ≡ drop r.answer.bytes c.output in
    let made : List ℕ = packets (singles_of states c) in
    on-eq (length c.numbers) 0 (λ e. subst P (sym (none_here states c e)) refl)
    (λ n. let k = known-accepted states c (λ e. n (ap length e)) z in
    subst P (sym (accepted_here states c k.0 k.1 k.2)) (drop-append_seam made (drop (length made) c.output)))

pub whole_layer_lem : WholeLayer
unfolding WholeLayer
whole_layer_lem states c =
    let n = numbers_here states c in
    record {
      too_many = too_many_here states c;
      empty_list = λ e. none_here states c (ap length e);
      wrong_scratch_lem = wrong_scratch_here states c;
      first_refused_lem = refused-here states c;
      none_refused = λ l a. ap (λ (r : LayerResult). r.answer.refusal) (accepted_here states c l.0 l.1 a);
      wrong_words = wrong_words_here states c;
      wrong_entries = wrong_entries_here states c;
      wrong_body = wrong_body_here states c;
      shared_out = shared_out states c;
      as_single_calls = layer-as_single_calls states c;
      from_single_calls = single-calls_as_layer states c;
      bytes_behind = behind-stays states c;
      number = n.number;
      fourteen = n.fourteen;
      other_number = n.other_number;
    }

pub refused-layer : (J : LayerInterface) (m : J.layers.Made) → (J.layers.left m).answer.refusal ≢ 0
    → (J.layers.left m).states ≡ J.layers.found m
refused-layer J m n =
    on_bool (J.layers.asked m)
    (λ a. let e = J.layers.meets m a in
    ap (λ (r : LayerResult). r.states) e
    ∙ refused-layer_keeps (J.layers.found m) (J.layers.args m)
    (λ z. n (ap (λ (r : LayerResult). r.answer.refusal) e ∙ z)))
    (λ a. ap (λ (r : LayerResult). r.states) (J.layers.refuses m a))

pub whole_layer_of : (J : LayerInterface) → WholeLayerOf J
unfolding WholeLayerOf WholeLayer
whole_layer_of J m = (
  (λ a. subst (WholeOrNone (J.layers.found m) (J.layers.args m)) (sym (J.layers.meets m a))
      (whole_layer_lem (J.layers.found m) (J.layers.args m))),
  refused-layer J m,
)
