use Prim.Native.Nat.{◌+◌, ◌≤◌}
use borrow.Author.Rules.{rules}
use lib.ListN.{get_or, length}
use mathlib.Core.Bool.{true, false}
use mathlib.Core.Path.{◌∙◌, refl, sym}
use mir.Syntax.{w32}
use mir.Val.{Fits}
use native.Mathlib.Omega.{arith}
use Rattle.t800_laws.proofs.Laws.Sums.{sum-turn}
use Rattle.t2_widths.proofs.Laws.Lists.{part_lists}
use Rattle.t2_widths.proofs.Laws.BlocksLeft.{long_turn, long_end}
use Rattle.t2_widths.proofs.segment_too_long.Goals as goal
use Rattle.t2_widths.proofs.segment_too_long.Goals.{In-loop-count}

-- the block's passes lie in the list
passes_there : (c : In-loop-count)
    → c.loop-count.from + get_or c.args.counts.now c.loop-count.count-index 0 ≤ length c.args.lengths.now
passes_there c =
    let l = c.loop-count in
    omega (arith, sum-turn c.args.counts.now l.count-index c.loop-count-test.true, l.invariant.0, c.requires.0)

pub loop-count-init : goal.loop-count-init
loop-count-init c = (omega arith, refl)

pub slice_bounds-any_segment_too_long-end : goal.slice_bounds-any_segment_too_long-end
slice_bounds-any_segment_too_long-end c = passes_there (goal.at.slice_bounds-any_segment_too_long-end c).In-loop-count

pub any_segment_too_long-requires : goal.any_segment_too_long-requires
any_segment_too_long-requires c =
    let a = c.args in
    let l = c.loop-count in
    let f : Fits w32 (get_or a.counts.now l.count-index 0) = search rules in
    part_lists a.lengths.now a.marks.now l.from (l.from + get_or a.counts.now l.count-index 0) _ refl
    (passes_there (goal.at.any_segment_too_long-requires c).In-loop-count) c.requires.1 (omega (arith, f))

pub returns-then-any_segment_too_long : goal.returns-then-any_segment_too_long
returns-then-any_segment_too_long c =
    let a = c.args in
    let l = c.loop-count in
    sym (long_turn a.counts.now a.lengths.now a.marks.now l.count-index l.from
    (l.from + get_or a.counts.now l.count-index 0) true c.loop-count-test.true refl
    (sym c.if-any_segment_too_long.true ∙ c.any_segment_too_long.ensures)) ∙ l.invariant.1

pub loop-count-preserved : goal.loop-count-preserved
loop-count-preserved c =
    let a = c.args in
    let l = c.loop-count in (
      omega (arith, sum-turn a.counts.now l.count-index c.loop-count-test.true, l.invariant.0),
      sym (long_turn a.counts.now a.lengths.now a.marks.now l.count-index l.from
          (l.from + get_or a.counts.now l.count-index 0) false c.loop-count-test.true refl
          (sym c.if-any_segment_too_long.false ∙ c.any_segment_too_long.ensures)) ∙ l.invariant.1,
    )

pub returns : goal.returns
returns c =
    let l = c.loop-count in
    sym (long_end c.args.counts.now c.args.lengths.now c.args.marks.now l.count-index l.from c.loop-count-test.false)
    ∙ l.invariant.1
