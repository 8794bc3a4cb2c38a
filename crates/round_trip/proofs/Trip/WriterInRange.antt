-- A writer's state stays in the ranges of refusal 5: after an accepted start and any list of calls, whatever the marks, so that no
-- later call is
-- refused with 5.
use mathlib.Core.Path.{◌≡◌, refl, sym, ap, ◌∙◌, subst}
use mathlib.Core.Logic.{◌≢◌}
use mathlib.Core.Bool.{Bool, true, false}
use mathlib.Core.List.{List, [], ◌∷◌}
use Prim.Native.Nat.{ℕ, ◌+◌, ◌≤◌, ◌<◌}
use native.Mathlib.Nat.{le_trans, le_of_eq}
use native.Mathlib.Omega.{arith}
use lib.ListN.{length, set, take}
use Rattle.t800.specs.declared.Band.{Band}
use Rattle.t800.specs.TagTree.{Coded}
use Rattle.t800.specs.State.{Block, not_yet_included, blocks, bands, layer, state_length, end_of, writer}
use Rattle.t800.specs.Ranges.{valid_state}
use Rattle.t800.specs.Start.{start}
use Rattle.t800.specs.WriteHeader.{Contribution, set_new_blocks, contributes, code_present, code_absent, code_header}
use Rattle.t800.specs.Interface.{WriteCall, write_of}
use Rattle.round_trip.proofs.Trip.Lists.{WriterCall, measuring, writing, accepted, state_after}
use Rattle.t800_laws.proofs.Laws.Layout.{inclusion, Layout, layout_of, blocks-placed, end_after}
use Rattle.t800_laws.proofs.Laws.FirstWords.{FirstWords, next_layer}
use Rattle.round_trip.proofs.Trip.Changes.{nodes-only, first_stays, blocks-coded}
use Rattle.round_trip.proofs.Trip.SetLeaves.{new_blocks_set}
use Rattle.round_trip.proofs.Trip.WriterState.{WriterState, later, Acceptable, header_blocks, layer-in_range, layer-word}
use Rattle.round_trip.proofs.Trip.ValidStates.{Startable, writer-valid}
use Rattle.round_trip.proofs.Trip.Calls.{Accepted, is_accepted, refused-keeps}
use Rattle.t800_laws.proofs.Laws.Checks.{on_bool}
use Rattle.t800_laws.proofs.Laws.Contributes.{present_header, absent-header}
use Rattle.t800_laws.proofs.Laws.Accepted.{start-accepted, few_bands}
use Rattle.round_trip.proofs.Trip.Start.{started_writer, started_first_words, startable}

-- with bands bs, style s and next layer t
pub record WriterInvariant (bs : List Band) (s t : ℕ) (ws : List ℕ) : Type 0 where
  pub startable : Startable bs s
  pub state : WriterState (layout_of bs) t ws
  pub first_words_lem : FirstWords 1 bs s t ws
  pub layers : t ≤ not_yet_included

pub writer-after_start : (n : ℕ) (given : List Band) (s : ℕ) (planes lent : List ℕ) → (start writer n given s planes lent).answer ≡ 0
    → WriterInvariant (take n given) s 0 (start writer n given s planes lent).state
unfolding writer
writer-after_start n given s planes lent e =
    let bs : List Band = take n given in
    let w = start-accepted writer n given s planes lent e in
    subst (WriterInvariant bs s 0) (sym w.state)
    (record {
      startable = startable writer n given s planes lent w;
      state = started_writer bs s planes;
      first_words_lem = started_first_words bs s planes (few_bands n given w.shape);
      layers = omega arith;
    })

-- ---- an accepted call

pub present_coded : (c : Contribution) (ws : List ℕ) (t : ℕ) (ks : List Block) → layer ws ≡ t → blocks (bands ws) ≡ ks
    → contributes c ≡ true
    → code_header c ws ≡ record { bits = 1 ∷ (header_blocks t ks c ws).bits; words = set (header_blocks t ks c ws).words 3 (t + 1) }
unfolding code_present
present_coded c ws t ks l k n = present_header c ws n ∙ (rw (l, k))

absent-coded : (c : Contribution) (ws : List ℕ) (t : ℕ) → layer ws ≡ t → contributes c ≡ false
    → code_header c ws ≡ record { bits = 0 ∷ []; words = set ws 3 (t + 1) }
unfolding code_absent
absent-coded c ws t l n = absent-header c ws n ∙ (rw l)

below : (t : ℕ) → t ≤ not_yet_included → t ≢ not_yet_included → t < not_yet_included
below t h e = omega arith

module _ (bs : List Band) (s t : ℕ) (ws : List ℕ) (w : WriteCall) (y : WriterInvariant bs s t ws) (a : accepted ws w ≡ true) where
  abbrev c : Contribution
  c = w.contribution

  abbrev ks : List Block
  ks = blocks bs

  abbrev vs : List ℕ
  vs = (header_blocks t ks c ws).words

  call : Accepted ws w
  call = is_accepted ws w a

  pub blocks-are : blocks (bands ws) ≡ ks
  blocks-are = ap blocks y.first_words_lem.bands-are

  pub layer-left : t < not_yet_included
  layer-left = below t y.layers (λ e. call.layer-left (y.first_words_lem.layer-is ∙ e))

  pub acceptable : Acceptable ws ks c
  acceptable = subst (λ (z : List Block). Acceptable ws z c) blocks-are call.acceptable

  pub state_present : contributes c ≡ true → (write_of ws w).state ≡ set vs 3 (t + 1)
  state_present n = call.state ∙ ap (λ (x : Coded). x.words) (present_coded c ws t ks y.first_words_lem.layer-is blocks-are n)

  pub state_absent : contributes c ≡ false → (write_of ws w).state ≡ set ws 3 (t + 1)
  state_absent n = call.state ∙ ap (λ (x : Coded). x.words) (absent-coded c ws t y.first_words_lem.layer-is n)

  writer-after_absent : contributes c ≡ false → WriterInvariant bs s (t + 1) (write_of ws w).state
  writer-after_absent n =
      let L : Layout = layout_of bs in
      let l : 13 ≤ length ws = le_trans (end_after 13 bs) (le_of_eq (sym y.state.long)) in
      subst (WriterInvariant bs s (t + 1)) (sym (state_absent n))
      (record {
        startable = y.startable;
        state = layer-word L (t + 1) (t + 1) ws (later L t ws y.state);
        first_words_lem = next_layer 1 bs s t (t + 1) ws ws l (λ j h. refl) y.first_words_lem;
        layers = omega (arith, layer-left);
      })

  writer-after_present : contributes c ≡ true → WriterInvariant bs s (t + 1) (write_of ws w).state
  writer-after_present n =
      let L : Layout = layout_of bs in
      let f = blocks-placed bs in
      let us : List ℕ = set_new_blocks t ks c.counts ws in
      let o = (new_blocks_set L t ks c.counts ws f y.state.long (λ x n. (y.state.nodes inclusion x n).low-in)).0.only in
      let coded = blocks-coded L t ks c.counts c.lengths c.marks us f (o.long ∙ y.state.long) in
      let W = layer-in_range L t ks c ws f y.state acceptable in
      let l : 13 ≤ length vs = le_trans (end_after 13 bs) (le_of_eq (sym W.long)) in
      subst (WriterInvariant bs s (t + 1)) (sym (state_present n))
      (record {
        startable = y.startable;
        state = layer-word L (t + 1) (t + 1) vs W;
        first_words_lem = next_layer 1 bs s t (t + 1) ws vs l
            (λ j h. coded.first j h ∙ first_stays L ws us (nodes-only L inclusion ws us o) j h) y.first_words_lem;
        layers = omega (arith, layer-left);
      })

  pub writer-after : WriterInvariant bs s (t + 1) (write_of ws w).state
  writer-after = on_bool (contributes c) writer-after_present writer-after_absent

-- ---- any list of calls

after_call : (bs : List Band) (s t : ℕ) (ws : List ℕ) (c : WriteCall) → WriterInvariant bs s t ws → (u : ℕ)
    × WriterInvariant bs s u (write_of ws c).state
after_call bs s t ws c y = go (accepted ws c) refl
  where
    go : (b : Bool) → accepted ws c ≡ b → (u : ℕ) × WriterInvariant bs s u (write_of ws c).state
    go true a = (t + 1, writer-after bs s t ws c y a)
    go false a = (t, subst (WriterInvariant bs s t) (sym (refused-keeps ws c a)) y)

after_calls : (bs : List Band) (s t : ℕ) (ws : List ℕ) (cs : List WriterCall) → WriterInvariant bs s t ws → (u : ℕ)
    × WriterInvariant bs s u (state_after ws cs)
unfolding state_after
after_calls bs s t ws [] y = (t, y)
after_calls bs s t ws (measuring c ∷ cs) y = after_calls bs s t ws cs y
after_calls bs s t ws (writing c ∷ cs) y = let q = after_call bs s t ws c y in after_calls bs s q.0 (write_of ws c).state cs q.1

length-is : (bs : List Band) → state_length bs ≡ end_of 13 bs
unfolding state_length
length-is bs = refl

pub calls-in_range : (n : ℕ) (given : List Band) (style : ℕ) (planes lent : List ℕ)
    → (start writer n given style planes lent).answer ≡ 0
    → (ws : List WriterCall)
    → valid_state writer (state_after (start writer n given style planes lent).state ws) (length lent) ≡ true
calls-in_range n given style planes lent e ws =
    let bs : List Band = take n given in
    let y = after_calls bs style 0 (start writer n given style planes lent).state ws (writer-after_start n given style planes lent e) in
    let l : length lent ≡ end_of 13 bs = (start-accepted writer n given style planes lent e).lent_length ∙ length-is bs in
    writer-valid bs style y.0 _ (length lent) y.1.first_words_lem y.1.startable y.1.layers y.1.state
    (l ∙ sym y.1.state.long)
