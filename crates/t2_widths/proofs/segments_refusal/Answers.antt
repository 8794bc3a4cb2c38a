use borrow.Author.Tests.{eqb-true}
use lib.ListN.{take}
use mathlib.Core.Bool.{true, false}
use mathlib.Core.Path.{◌∙◌, refl, sym}
use Rattle.t800.specs.State.{blocks}
use Rattle.t2_widths.proofs.Laws.Refusal.{none_refused, few_not_refused, refusal_parts}
use Rattle.t2_widths.proofs.segments_refusal.Goals as goal

pub returns-then-is_empty : goal.returns-then-is_empty
returns-then-is_empty c =
    let a = c.args in
    none_refused a.state.now (blocks (take a.n a.bands)) a.counts.now a.lengths.now a.marks.now
    (eqb-true _ 0 (sym c.is_empty.ensures ∙ c.if-is_empty.true))

pub returns-then-surely_narrow : goal.returns-then-surely_narrow
returns-then-surely_narrow c =
    let s = c in
    few_not_refused s.args.state.now (take s.args.n s.args.bands) s.args.counts.now s.args.lengths.now
    s.args.marks.now (sym c.surely_narrow.ensures ∙ c.if-surely_narrow.true) s.requires.6

pub returns-then-segment_too_long : goal.returns-then-segment_too_long
returns-then-segment_too_long c =
    let s = c in
    refusal_parts s.args.state.now (blocks (take s.args.n s.args.bands)) s.args.counts.now s.args.lengths.now
    s.args.marks.now true _ (sym c.if-segment_too_long.true ∙ c.segment_too_long.ensures) refl

pub field_too_wide-requires : goal.field_too_wide-requires
field_too_wide-requires c =
    let s = c in
    (s.requires.0, s.requires.1, s.requires.2, s.requires.3, s.requires.4, sym c.segment_too_long.ensures ∙ c.if-segment_too_long.false)

pub returns-then-field_too_wide : goal.returns-then-field_too_wide
returns-then-field_too_wide c =
    let s = c in
    refusal_parts s.args.state.now (blocks (take s.args.n s.args.bands)) s.args.counts.now s.args.lengths.now
    s.args.marks.now false true (sym c.if-segment_too_long.false ∙ c.segment_too_long.ensures)
    (sym c.if-field_too_wide.true ∙ c.field_too_wide.ensures)

pub returns : goal.returns
returns c =
    let s = c in
    refusal_parts s.args.state.now (blocks (take s.args.n s.args.bands)) s.args.counts.now s.args.lengths.now
    s.args.marks.now false false (sym c.if-segment_too_long.false ∙ c.segment_too_long.ensures)
    (sym c.if-field_too_wide.false ∙ c.field_too_wide.ensures)
