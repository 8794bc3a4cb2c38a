use lib.ListN.{length, get_or}
use mathlib.Core.Bool.{true, false}
use mathlib.Core.List.{List}
use mathlib.Core.Path.{◌∙◌, ap, refl, sym}
use native.Mathlib.Omega.{arith}
use Rattle.t800.specs.State.{writer, blocks}
use Rattle.t800.specs.declared.Band.{Band}
use Rattle.tcd_laws.proofs.Laws.ValidStates.{blocks-of_valid}
use Rattle.t2_widths.specs.Widths.{segments_refusal}
use Rattle.t800.specs.WriteHeader.{contribution}
use Rattle.t800_laws.proofs.Laws.Lists.{lists_right}
use Rattle.t2_refusals.proofs.Laws.RefusalParts.{passes_left, wrong_by_lengths, contribution-parts}
use Rattle.t2_refusal_laws.proofs.Laws.WriterState.{first_words_lem, bands-are, sides_are, length-is}
use Rattle.t2_refusal_laws.proofs.Laws.NotRefused.{passes_up_to}
use Rattle.t2_refusals.proofs.contribution_refusal.Goals as goal

pub bands_of-bands-requires : goal.bands_of-bands-requires
bands_of-bands-requires c = let s = c in
    first_words_lem s.args.state.now (length s.args.state.now) s.requires.0

pub bounds-state-1 : goal.bounds-state-1
bounds-state-1 c =
    let s = c in
    omega (arith, first_words_lem s.args.state.now (length s.args.state.now) s.requires.0)

pub overflow_cast-n : goal.overflow_cast-n
overflow_cast-n c = omega (arith, c.shared_slice_known-5-1.given 1)

pub num_blocks-blocks-requires : goal.num_blocks-blocks-requires
num_blocks-blocks-requires c =
    let s = c in
    let v = c.bands_of-bands in
    sides_are s.args.state.now (length s.args.state.now) s.requires.0 (get_or s.args.state.now 1 0) v.result refl v.ensures

pub returns-then-wrong_lists : goal.returns-then-wrong_lists
returns-then-wrong_lists c =
    let s = c in
    let ws = s.args.state.now in
    let p = contribution s.args.counts.now s.args.lengths.now s.args.marks.now in
    let v = c.bands_of-bands in
    let b = bands-are ws (length ws) s.requires.0 (get_or ws 1 0) v.result refl v.ensures in
    let w = c.wrong_lists.ensures ∙ wrong_by_lengths ws (length ws) s.requires.0 p _ s.args.passes
    (c.num_blocks-blocks.ensures ∙ ap (λ (z : List Band). length (blocks z)) b) s.requires.1 in
    contribution-parts ws p true _ _ (sym c.if-wrong_lists.true ∙ w) refl refl

pub returns-then-any_over : goal.returns-then-any_over
returns-then-any_over c =
    let s = c in
    let ws = s.args.state.now in
    let p = contribution s.args.counts.now s.args.lengths.now s.args.marks.now in
    let v = c.bands_of-bands in
    let b = bands-are ws (length ws) s.requires.0 (get_or ws 1 0) v.result refl v.ensures in
    let w = c.wrong_lists.ensures ∙ wrong_by_lengths ws (length ws) s.requires.0 p _ s.args.passes
    (c.num_blocks-blocks.ensures ∙ ap (λ (z : List Band). length (blocks z)) b) s.requires.1 in
    contribution-parts ws p false true _ (sym c.if-wrong_lists.false ∙ w) (sym c.if-any_over.true ∙ c.any_over.ensures) refl

pub segments_refusal-requires : goal.segments_refusal-requires
segments_refusal-requires c =
    let s = c in
    let ws = s.args.state.now in
    let p = contribution s.args.counts.now s.args.lengths.now s.args.marks.now in
    let v = c.bands_of-bands in
    let b = bands-are ws (length ws) s.requires.0 (get_or ws 1 0) v.result refl v.ensures in
    let w = c.wrong_lists.ensures ∙ wrong_by_lengths ws (length ws) s.requires.0 p _ s.args.passes
    (c.num_blocks-blocks.ensures ∙ ap (λ (z : List Band). length (blocks z)) b) s.requires.1 in
    let right = sym w ∙ c.if-wrong_lists.false in
    let few = sym c.any_over.ensures ∙ c.if-any_over.false in
    let k = sides_are ws (length ws) s.requires.0 (get_or ws 1 0) v.result refl v.ensures in
    let r = lists_right p _ right in (
      k.0,
      k.1,
      length-is ws (length ws) s.requires.0 (get_or ws 1 0) v.result refl v.ensures,
      r.0 ∙ ap (λ (z : List Band). length (blocks z)) (sym b),
      passes_left p _ right,
      omega (arith, r.0, r.1, passes_up_to s.args.counts.now few, blocks-of_valid writer ws (length ws) s.requires.0),
      few,
    )

pub returns : goal.returns
returns c =
    let s = c in
    let ws = s.args.state.now in
    let p = contribution s.args.counts.now s.args.lengths.now s.args.marks.now in
    let v = c.bands_of-bands in
    let b = bands-are ws (length ws) s.requires.0 (get_or ws 1 0) v.result refl v.ensures in
    let w = c.wrong_lists.ensures ∙ wrong_by_lengths ws (length ws) s.requires.0 p _ s.args.passes
    (c.num_blocks-blocks.ensures ∙ ap (λ (z : List Band). length (blocks z)) b) s.requires.1 in
    contribution-parts ws p false false _ (sym c.if-wrong_lists.false ∙ w) (sym c.if-any_over.false ∙ c.any_over.ensures)
    (c.segments_refusal.ensures
    ∙ ap (λ (z : List Band). segments_refusal ws (blocks z) s.args.counts.now s.args.lengths.now s.args.marks.now) b)
