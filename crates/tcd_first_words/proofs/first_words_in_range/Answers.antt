use borrow.Author.Tests.{le-leb, lt-leb}
use mathlib.Core.Bool.{false, true}
use mathlib.Core.Path.{◌∙◌, ap, refl, sym}
use native.Mathlib.Omega.{arith}
use Rattle.t800.specs.Ranges.{bad_style, band_too_deep}
use Rattle.t800.specs.State.{layer, not_yet_included}
use Rattle.tcd_laws.proofs.Laws.FirstWords.{first_bands, first_words_parts, shape_known, unused_zero}
use Rattle.tcd_first_words.proofs.first_words_in_range.Goals as goal

pub returns-then-not-shape_in_range : goal.returns-then-not-shape_in_range
returns-then-not-shape_in_range c = let s = c.args in
    first_words_parts s.role s.state.now false _ _ _ _
    (sym c.if-not-shape_in_range.true ∙ c.shape_in_range.ensures) refl refl refl refl

pub returns-then-is_refused : goal.returns-then-is_refused
returns-then-is_refused c =
    let styled = c in
    let shaped = styled in
    let s = shaped.args in
    let shape = sym styled.if-not-shape_in_range.false ∙ shaped.shape_in_range.ensures in
    let style' = sym c.if-is_refused.true ∙ styled.is_refused.ensures ∙ ap bad_style styled.word.ensures in
    first_words_parts s.role s.state.now true true _ _ _ shape style' refl refl refl

pub returns-then-word-gt-NOT_YET_INCLUDED : goal.returns-then-word-gt-NOT_YET_INCLUDED
returns-then-word-gt-NOT_YET_INCLUDED c =
    let layered = c in
    let styled = layered in
    let shaped = styled in
    let s = shaped.args in
    let shape = sym styled.if-not-shape_in_range.false ∙ shaped.shape_in_range.ensures in
    let style' = sym layered.if-is_refused.false ∙ styled.is_refused.ensures ∙ ap bad_style styled.word.ensures in
    let layer' = sym (lt-leb (layer s.state.now) not_yet_included (omega (arith, layered.word-2.ensures))) in
    first_words_parts s.role s.state.now true false false _ _ shape style' layer' refl refl

pub band_too_deep-requires : goal.band_too_deep-requires
band_too_deep-requires c =
    let s = c.args in
    let k = shape_known s.role s.state.now
    (sym c.shape_in_range.ensures
    ∙ c.if-not-shape_in_range.false) in
    omega (arith, c.word-n.ensures, k.1)

pub returns-then-band_too_deep : goal.returns-then-band_too_deep
returns-then-band_too_deep c =
    let deep = c in
    let layered = deep in
    let styled = layered in
    let shaped = styled in
    let s = shaped in
    let ws = s.args.state.now in
    let shape = sym styled.if-not-shape_in_range.false ∙ shaped.shape_in_range.ensures in
    let style' = sym layered.if-is_refused.false ∙ styled.is_refused.ensures ∙ ap bad_style styled.word.ensures in
    let layer' = sym (le-leb (layer ws) not_yet_included (omega (arith, layered.word-2.ensures))) in
    let depth = sym c.if-band_too_deep.true ∙ deep.band_too_deep.ensures
    ∙ ap band_too_deep (first_bands ws _ _ deep.word-n.ensures s.requires) in
    first_words_parts s.args.role ws true false true true _ shape style' layer' depth refl

pub returns : goal.returns
returns c =
    let deep = c in
    let layered = deep in
    let styled = layered in
    let shaped = styled in
    let s = shaped in
    let ws = s.args.state.now in
    let shape = sym styled.if-not-shape_in_range.false ∙ shaped.shape_in_range.ensures in
    let style' = sym layered.if-is_refused.false ∙ styled.is_refused.ensures ∙ ap bad_style styled.word.ensures in
    let layer' = sym (le-leb (layer ws) not_yet_included (omega (arith, layered.word-2.ensures))) in
    let depth = sym c.if-band_too_deep.false ∙ deep.band_too_deep.ensures
    ∙ ap band_too_deep (first_bands ws _ _ deep.word-n.ensures s.requires) in
    first_words_parts s.args.role ws true false true false _ shape style' layer' depth
    (c.unused_bands_zero.ensures ∙ unused_zero ws _ deep.word-n.ensures)
