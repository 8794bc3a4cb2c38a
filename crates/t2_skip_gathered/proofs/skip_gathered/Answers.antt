use mathlib.Core.Path.{◌≡◌, refl, sym, ap, ◌∙◌, subst}
use mathlib.Core.Logic.{◌≢◌}
use Prim.Native.Nat.{ℕ, ◌+◌, ◌^◌, ◌≤◌, ◌<◌}
use mir.Syntax.{w32}
use mir.Val.{Fits}
use native.Mathlib.Omega.{arith}
use lib.ListN.{length, drop, length-set}
use borrow.Author.Tests.{not-true, not-false}
use Rattle.t800.specs.PackedHeaders.{unpacked}
use Rattle.t800.specs.State.{reader}
use Rattle.tcd_laws.proofs.Laws.ValidStates.{valid_state_lem, thirteen_words}
use Rattle.t2_read_marks.specs.Marks.{marker_read}
use Rattle.t2_unpack_headers.proofs.Laws.Windows.{window_length}
use Rattle.t2_skip_packet.specs.Parts.{SkipsPacket}
use Rattle.t2_skip_windows.specs.Windows.{window_bytes, WindowOn}
use Rattle.t2_skip_gathered.specs.declared.SkippedGathered.{SkippedGathered}
use Rattle.t2_skip_gathered.proofs.Laws.Arrivals.{end_near}
use Rattle.t2_skip_gathered.proofs.Laws.FewBytes.{few_bytes}
use Rattle.t2_skip_gathered.proofs.Laws.Whole.{layers_gathered, blocks-refused, number_up_to, end_refused, all_gathered_lem}
use Rattle.t2_skip_gathered.proofs.skip_gathered.Goals as goal

-- of variables: at a need `omega` reads all that its `c` holds

word_3 : (n : ℕ) → 13 ≤ n → 3 < n
word_3 n h = omega arith

layer_below : (layer : ℕ) → layer ≤ 65535 → layer ≢ 65535 → layer < 65535
layer_below layer h n = omega arith

layer_fits : (layer : ℕ) → layer ≤ 65535 → Fits w32 (layer + 1)
layer_fits layer h = omega arith

at-below : (at plain n : ℕ) → at ≤ plain → plain ≡ n → n ≤ 16776192 → at < 2 ^ 63
at-below at plain n h e k = omega arith

plain_fits : (plain n : ℕ) → plain ≡ n → n ≤ 16776192 → plain + 5 < 2 ^ 64
plain_fits plain n e k = omega arith

pub bounds-words-3 : goal.bounds-words-3
bounds-words-3 c =
    let s = c in
    let ws = s.args.words.now in
    word_3 (length ws) (thirteen_words ws (length ws) (valid_state_lem reader ws (length ws) s.requires.0))

pub returns-then-layer-eq-NOT_YET_INCLUDED : goal.returns-then-layer-eq-NOT_YET_INCLUDED
returns-then-layer-eq-NOT_YET_INCLUDED c =
    let a = c.args in
    let bytes = (unpacked a.segments.now).bytes in
    (layers_gathered a.words.now a.m bytes a.bodies.now a.at c.requires.0 a.words.now c.if-layer-eq-NOT_YET_INCLUDED.true, c.requires.1)

pub skip_header-o-requires : goal.skip_header-o-requires
skip_header-o-requires c =
    let s = c in
    let a = s.args in
    let ws = a.words.now in
    let few = few_bytes a.segments.now
    (λ i. (c.shared_slice_known-1.given i).fits) s.requires.1.right in (
      s.requires.0,
      layer_below _ (valid_state_lem reader ws (length ws) s.requires.0).layer-up_to c.if-layer-eq-NOT_YET_INCLUDED.false,
      s.requires.1,
      at-below _ _ _ s.requires.3 s.requires.2 few,
    )

pub refusal_of-requires : goal.refusal_of-requires
refusal_of-requires c =
    let a = c.args in
    let bytes = (unpacked a.segments.now).bytes in
    let k = c.skip_header-o in
    number_up_to a.words.now a.m bytes a.bodies.now a.at c.requires.0 c.if-layer-eq-NOT_YET_INCLUDED.false k.new.words k.result
    k.ensures.arrives

pub returns-in-Some : goal.returns-in-Some
returns-in-Some c =
    let a = c.args in
    let bytes = (unpacked a.segments.now).bytes in
    let k = c.skip_header-o in (
      blocks-refused a.words.now a.m bytes a.bodies.now a.at c.requires.0 c.if-layer-eq-NOT_YET_INCLUDED.false k.new.words k.result
          k.ensures.arrives c.in-Some.why c.in-Some.ensures k.new.words,
      k.ensures.window_on,
    )

pub header_end-requires : goal.header_end-requires
header_end-requires c =
    let a = c.args in
    let bytes = (unpacked a.segments.now).bytes in
    let k = c.skip_header-o in
    let o = k.result in
    let few = few_bytes a.segments.now (λ i. (c.shared_slice_known-1.given i).fits) c.requires.1.right in
    let all = c.requires.2 in
    let inside = c.requires.3 in
    let near = end_near a.at k.new.words o _ k.ensures.arrives (sym c.in_default.ensures) (at-below _ _ _ inside all few) in (
      ap length k.ensures.window_on.holds ∙ window_length bytes o.base window_bytes,
      k.ensures.enough (sym c.in_default.ensures),
      inside,
      near.0,
      near.1,
      plain_fits _ _ all few,
    )

pub returns-in_default-header_end : goal.returns-in_default-header_end
returns-in_default-header_end c =
    let a = c.args in
    let bytes = (unpacked a.segments.now).bytes in
    let k = c.skip_header-o in (
      end_refused a.words.now a.m bytes a.bodies.now a.at c.requires.0 c.if-layer-eq-NOT_YET_INCLUDED.false k.new.words k.result
          k.ensures.arrives (sym c.in_default.ensures) (c.in_default-header_end.ensures bytes k.ensures.window_on.holds c.requires.2)
          k.new.words,
      k.ensures.window_on,
    )

pub overflow_add-words : goal.overflow_add-words
overflow_add-words c =
    let s = c in
    let ws = s.args.words.now in
    layer_fits _ (valid_state_lem reader ws (length ws) s.requires.0).layer-up_to

pub bounds-words-3-2 : goal.bounds-words-3-2
bounds-words-3-2 c =
    let s = c in
    let ws = s.args.words.now in
    subst (λ (n : ℕ). 3 < n) (sym c.words-1.given)
    (word_3 (length ws) (thirteen_words ws (length ws) (valid_state_lem reader ws (length ws) s.requires.0)))

pub returns : goal.returns
returns c =
    let a = c.args in
    let bytes = (unpacked a.segments.now).bytes in
    let k = c.skip_header-o in (
      all_gathered_lem a.words.now a.m bytes a.bodies.now a.at c.requires.0 c.if-layer-eq-NOT_YET_INCLUDED.false k.new.words k.result
          k.ensures.arrives (sym c.in_default.ensures) c.in-Some-header_end.header
          (c.in-Some-header_end.ensures bytes k.ensures.window_on.holds c.requires.2) _ (marker_read c.read_marker-sop.result) refl
          c.read_marker-sop.ensures,
      k.ensures.window_on,
    )

pub shape_of-words : goal.shape_of-words
shape_of-words c = simp length-set c.skip_header-o.auto.words

pub shape_of-window : goal.shape_of-window
shape_of-window c = c.skip_header-o.auto.window
