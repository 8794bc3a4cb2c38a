use Prim.Native.Nat.{ℕ, ◌+◌}
use mathlib.Core.Path.{sym, subst}
use lib.ListN.{drop}
use native.Mathlib.Omega.{arith}
use Rattle.t800.specs.PackedHeaders.{unpacked}
use Rattle.t2_unpack_headers.specs.Cursors.{CursorAt}
use Rattle.t2_unpack_headers.proofs.Laws.Cursors.{FirstOf, first_of_lem, next_cursor}
use Rattle.t2_unpack_headers.proofs.seek.Goals as goal
use Rattle.t2_unpack_headers.proofs.seek.Goals.{In-loop-at}

first : (c : In-loop-at)
    → let l = c.loop-at in
    let segments = c.args.segments.now in
    FirstOf segments l.at (drop l.before (unpacked segments).bytes)
first c =
    let l = c.loop-at in
    let segments = c.args.segments.now in
    first_of_lem segments l.at (drop l.before (unpacked segments).bytes) l.invariant.0.here c.loop-at-test.true

pub held_at-held-requires : goal.held_at-held-requires
held_at-held-requires c = omega (arith, (first c).field, (first c).size)

pub overflow_add-next : goal.overflow_add-next
overflow_add-next c = omega (arith, (first (goal.at.overflow_add-next c).In-loop-at).size, c.held_at-held.ensures, c.loop-at.invariant.0.fewer)

pub returns-then-from-next : goal.returns-then-from-next
returns-then-from-next c =
    let l = c.loop-at in
    record { cursor = l.invariant.0; before = l.invariant.1; inside = λ _. omega (arith, c.if-from-next.true, c.held_at-held.ensures) }

pub overflow_add-at : goal.overflow_add-at
overflow_add-at c = omega (arith, (first (goal.at.overflow_add-at c).In-loop-at).size, c.held_at-held.ensures)

pub overflow_add-at-in-loop-at : goal.overflow_add-at-in-loop-at
overflow_add-at-in-loop-at c = omega (arith, (first (goal.at.overflow_add-at-in-loop-at c).In-loop-at).size, c.held_at-held.ensures)

pub loop-at-smaller : goal.loop-at-smaller
loop-at-smaller c = omega (arith, c.loop-at-test.true)

pub loop-at-preserved : goal.loop-at-preserved
loop-at-preserved c =
    let l = c.loop-at in
    let segments = c.args.segments.now in (
      subst (λ (k : ℕ). CursorAt segments (record { at = l.at + (5 + k); before = l.before + k })) (sym c.held_at-held.ensures)
          (next_cursor segments l.at l.before l.invariant.0 c.loop-at-test.true),
      c.if-from-next.false,
    )

pub returns : goal.returns
returns c =
    let l = c.loop-at in
    record { cursor = l.invariant.0; before = l.invariant.1; inside = λ h. absurd (omega (arith, h, c.loop-at-test.false)) }

pub loop-at-init : goal.loop-at-init
loop-at-init c = c.requires
