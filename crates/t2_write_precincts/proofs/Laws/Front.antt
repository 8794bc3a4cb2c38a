-- The precinct in front, once it is accepted: each list has what it asks.
use mathlib.Core.Path.{◌≡◌, sym, ap, ◌∙◌}
use mathlib.Core.List.{List, ◌++◌}
use Prim.Native.Nat.{ℕ, ◌+◌, ◌≤◌}
use native.Mathlib.Omega.{arith}
use lib.ListN.{length, set, take, drop, length-take, length-drop, length-append}
use borrow.Author.Tests.{le-ltb}
use Rattle.t800.specs.declared.Band.{Band}
use Rattle.t800.specs.declared.Markers.{Markers}
use Rattle.t800.specs.Base.{sum}
use Rattle.t800.specs.TagTree.{Coded}
use Rattle.t800.specs.State.{layer, bands, blocks, state_length}
use Rattle.t800.specs.WriteHeader.{code_absent}
use Rattle.t800.specs.Packet.{WriteResult}
use Rattle.t800.specs.Layer.{Rest, Asks, asks, in_front, Single, single, wrote, packet_of}
use Rattle.t800_laws.proofs.Laws.Layout.{end_after}
use Rattle.t800_laws.proofs.Laws.Contributes.{absent-header, contributes-by_sum}
use Rattle.tcd_laws.proofs.Laws.FirstWords.{bands-in_front}
use Rattle.whole_layer.proofs.Cuts.{Fits, fits, state_kept}
use Rattle.whole_layer.proofs.SingleCalls.{bytes_are, output-is}
use Rattle.t2_layer_parts.specs.declared.Front.{Front}
use Rattle.t2_layer_parts.specs.Front.{Written}

-- an accepted call leaves the same in state and scratch
pub left_same : (s : Single) → (wrote s).answer.refusal ≡ 0 → (wrote s).state ≡ (wrote s).scratch
left_same s e = let k = (fits s e).left in ap (λ (r : WriteResult). r.state) k ∙ sym (ap (λ (r : WriteResult). r.scratch) k)

-- without passes only the next layer moves
pub layer-alone : (s : Single) → (wrote s).answer.refusal ≡ 0 → length s.call.contribution.lengths ≡ 0
    → (wrote s).scratch ≡ set s.state 3 (layer s.state + 1)
unfolding code_absent
layer-alone s e z =
    let k = fits s e in
    ap (λ (r : WriteResult). r.scratch) k.left
    ∙ ap (λ (c : Coded). c.words)
    (absent-header s.call.contribution s.state
    (contributes-by_sum s.call.contribution ∙ le-ltb 0 (sum s.call.contribution.counts) (omega (arith, z, k.lengths))))

abbrev pub words_of : Single → ℕ
words_of s = length s.state

abbrev pub passes_of : Single → ℕ
passes_of s = length s.call.contribution.lengths

module _ (l : Rest) (m : Markers) (number : ℕ) (f : Front) (packet : ℕ) (vs os : List ℕ)
    (w : Written l m number f packet vs os) where
  abbrev first : Single
  first = single m number (in_front l)

  pub accepted : (wrote first).answer.refusal ≡ 0
  accepted = sym w.accepted

  fit : Fits first
  fit = fits first accepted

  -- ---- what is asked of the lists is there

  thirteen : 13 ≤ (asks l).words
  unfolding asks state_length
  thirteen = end_after 13 (bands l.states)

  same_bands : bands first.state ≡ bands l.states
  unfolding in_front
  same_bands = bands-in_front l.states (asks l).words thirteen

  pub words_asked : f.words ≡ (asks l).words
  words_asked = ap (λ (a : Asks). a.words) w.sizes

  pub blocks-asked : f.blocks ≡ (asks l).blocks
  blocks-asked = ap (λ (a : Asks). a.blocks) w.sizes

  pub passes_asked : f.passes ≡ (asks l).passes
  passes_asked = ap (λ (a : Asks). a.passes) w.sizes

  pub bytes_asked : f.bytes ≡ (asks l).bytes
  bytes_asked = ap (λ (a : Asks). a.bytes) w.sizes

  pub states_there : f.words ≤ length l.states
  unfolding in_front asks
  states_there =
      omega (
        arith,
        words_asked,
        fit.complete ∙ ap state_length same_bands,
        length-take (state_length (bands l.states)) l.states,
      )

  pub counts_there : f.blocks ≤ length l.contribution.counts
  unfolding in_front asks
  counts_there =
      omega (
        arith,
        blocks-asked,
        fit.counts ∙ ap (λ (bs : List Band). length (blocks bs)) same_bands,
        length-take (length (blocks (bands l.states))) l.contribution.counts,
      )

  pub lengths_there : f.passes ≤ length l.contribution.lengths
  unfolding in_front asks
  lengths_there = omega (arith, passes_asked, fit.lengths, length-take (asks l).passes l.contribution.lengths)

  pub marks_there : f.passes ≤ length l.contribution.marks
  unfolding in_front asks
  marks_there = omega (arith, passes_asked, fit.marks, length-take (asks l).passes l.contribution.marks)

  pub bodies_there : f.bytes ≤ length l.bodies
  unfolding in_front asks
  bodies_there = omega (arith, bytes_asked, fit.body, length-take (asks l).bytes l.bodies)

  -- ---- the packet in the output

  pub end_is : packet ≡ length (packet_of first)
  end_is = w.bytes ∙ bytes_are first accepted

  pub output-then : os ≡ packet_of first ++ drop (length (packet_of first)) l.output
  unfolding in_front
  output-then = w.output ∙ output-is first accepted

  pub room_there : length os ≡ length l.output → packet ≤ length l.output
  room_there e =
      omega (
        arith,
        end_is,
        e,
        ap length output-then ∙ length-append (packet_of first) (drop (length (packet_of first)) l.output),
        length-drop (length (packet_of first)) l.output,
      )

  -- ---- its state after the packet

  pub state_cut : take f.words l.states ≡ first.state
  unfolding in_front
  state_cut = ap (λ (n : ℕ). take n l.states) words_asked

  pub words_are : f.words ≡ words_of first
  unfolding in_front asks
  words_are = omega (arith, words_asked, states_there, length-take (asks l).words l.states)

  pub passes_are : f.passes ≡ passes_of first
  unfolding in_front asks
  passes_are = omega (arith, passes_asked, fit.lengths)

  pub scratch_length_lem : length (wrote first).scratch ≡ f.words
  scratch_length_lem = ap length (sym (left_same first accepted)) ∙ state_kept first fit ∙ sym words_are
