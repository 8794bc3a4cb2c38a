use Prim.Native.Nat.{◌+◌, ◌*◌, ◌≤◌, ◌<◌, ℕ}
use borrow.Author.Rules.{rules}
use lib.ListN.{length, drop, get_or}
use mathlib.Core.Bool.{true, false}
use mathlib.Core.List.{List}
use mathlib.Core.Path.{◌≡◌, ◌∙◌, refl, sym}
use mir.Syntax.{w32}
use mir.Val.{Fits}
use native.Mathlib.Omega.{arith}
use Rattle.t800.specs.Base.{sum}
use Rattle.t2_widths.specs.Widths.{PassesLeft}
use Rattle.t800_laws.proofs.Laws.Sums.{sum-turn}
use Rattle.t2_widths.proofs.Laws.Lists.{part_lists}
use Rattle.t2_widths.proofs.Laws.BlocksLeft.{none_long_here, wide_turn, wide_end}
use Rattle.t2_widths.proofs.blocks_too_wide.Goals as goal
use Rattle.t2_widths.proofs.blocks_too_wide.Goals.{In-loop-i}

-- block i's count and passes lie in the lists

abbrev Inside : List ℕ → List ℕ → List ℕ → ℕ → ℕ → Type 0
Inside cs ls ms i from = (i < length cs) × (from + get_or cs i 0 ≤ length ls) × (from + get_or cs i 0 ≤ length ms)

inside : (cs ls ms : List ℕ) (i from : ℕ) → i < length cs → from + sum (drop i cs) ≡ sum cs → PassesLeft cs ls ms → Inside cs ls ms i from
inside cs ls ms i from h f p = let q = sum-turn cs i h in (h, omega (arith, q, p.0), omega (arith, q, p.0, p.1))

here : (c : In-loop-i) → Inside c.args.counts.now c.args.lengths.now c.args.marks.now c.loop-i.i c.loop-i.from
here c =
    let a = c.args in
    inside a.counts.now a.lengths.now a.marks.now c.loop-i.i c.loop-i.from
    (omega (arith, c.loop-i-test.true, c.requires.1)) c.loop-i.invariant.0 c.requires.2

up_to : (a : ℕ) → Fits w32 a → a ≤ 4294967295
up_to a f = omega arith

passes_left : (cs : List ℕ) (i from : ℕ) → i < length cs → from + sum (drop i cs) ≡ sum cs
    → from + get_or cs i 0 + sum (drop (i + 1) cs) ≡ sum cs
passes_left cs i from h e = let q = sum-turn cs i h in omega arith

next_block : (at i : ℕ) → at + 4 * (i + 1) ≡ at + 4 * i + 4
next_block at i = omega arith

pub slice_bounds-block_too_wide-end : goal.slice_bounds-block_too_wide-end
slice_bounds-block_too_wide-end c = (here (goal.at.slice_bounds-block_too_wide-end c).In-loop-i).1

pub block_too_wide-requires : goal.block_too_wide-requires
block_too_wide-requires c =
    let a = c.args in
    let l = c.loop-i in
    let h = here (goal.at.block_too_wide-requires c).In-loop-i in
    let f : Fits w32 (get_or a.counts.now l.i 0) = search rules in (
      part_lists a.lengths.now a.marks.now l.from (l.from + get_or a.counts.now l.i 0) _ refl h.1 c.requires.2.1 (up_to _ f),
      (none_long_here a.counts.now a.lengths.now a.marks.now l.i l.from (l.from + get_or a.counts.now l.i 0) h.0 refl
          l.invariant.1).0,
    )

pub returns-then-block_too_wide : goal.returns-then-block_too_wide
returns-then-block_too_wide c =
    let a = c.args in
    let l = c.loop-i in
    sym (wide_turn a.state.now a.counts.now a.lengths.now a.marks.now a.n l.i (a.at + 4 * l.i) l.from
    (l.from + get_or a.counts.now l.i 0) true c.loop-i-test.true c.requires.1 refl
    (sym c.if-block_too_wide.true ∙ c.block_too_wide.ensures)) ∙ l.invariant.2

pub loop-i-preserved : goal.loop-i-preserved
loop-i-preserved c =
    let a = c.args in
    let l = c.loop-i in
    let h = here (goal.at.loop-i-preserved c).In-loop-i in (
      passes_left a.counts.now l.i l.from h.0 l.invariant.0,
      (none_long_here a.counts.now a.lengths.now a.marks.now l.i l.from (l.from + get_or a.counts.now l.i 0) h.0 refl
          l.invariant.1).1,
      rw (next_block a.at l.i)
          (sym (wide_turn a.state.now a.counts.now a.lengths.now a.marks.now a.n l.i (a.at + 4 * l.i) l.from
          (l.from + get_or a.counts.now l.i 0) false c.loop-i-test.true c.requires.1 refl
          (sym c.if-block_too_wide.false ∙ c.block_too_wide.ensures)) ∙ l.invariant.2),
    )

pub returns : goal.returns
returns c =
    let a = c.args in
    let l = c.loop-i in
    sym (wide_end a.state.now a.counts.now a.lengths.now a.marks.now a.n l.i (a.at + 4 * l.i) l.from c.loop-i-test.false)
    ∙ l.invariant.2
