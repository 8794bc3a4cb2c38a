use Prim.Native.Nat.{ℕ, ◌+◌, ◌-◌, ◌≤◌, min}
use mathlib.Core.Path.{◌≡◌, ◌∙◌, ap, sym, refl, subst}
use mathlib.Core.List.{◌++◌}
use lib.ListN.{length, take, replicate}
use native.Mathlib.Omega.{arith}
use Rattle.t800.specs.PackedHeaders.{unpacked}
use Rattle.t2_unpack_headers.specs.Segments.{held_at}
use Rattle.t2_unpack_headers.specs.Windows.{window_of}
use Rattle.t2_unpack_headers.proofs.Laws.Cursors.{FirstOf, first_of_lem}
use Rattle.t2_unpack_headers.proofs.Laws.Copies.{Copying, copying_first, copying_next, piece_fits, nothing_left, all_done}
use Rattle.t2_unpack_headers.proofs.copy_pieces.Goals as goal
use Rattle.t2_unpack_headers.proofs.copy_pieces.Goals.{Else-segments-at, After-min-n}

first : (c : Else-segments-at)
    → let l = c.loop-done in
    let segments = c.args.segments.now in
    FirstOf segments l.at l.invariant.2.bytes
first c =
    let l = c.loop-done in
    first_of_lem c.args.segments.now l.at l.invariant.2.bytes l.invariant.2.here c.if-segments-at.false

-- how many bytes are copied

piece : (c : After-min-n)
    → let l = c.loop-done in
    let segments = c.args.segments.now in
    c.min-n.result ≡ min (held_at segments l.at - l.skip) (length l.to - l.done)
piece c =
    let l = c.loop-done in
    c.min-n.ensures ∙ ap (λ (k : ℕ). min (k - l.skip) (length l.to - l.done)) c.held_at-held.ensures

fits : (c : After-min-n)
    → let l = c.loop-done in
    let segments = c.args.segments.now in
    (l.at + 5 + l.skip + c.min-n.result ≤ length segments) × (l.done + c.min-n.result ≤ length l.to)
fits c =
    let l = c.loop-done in
    let segments = c.args.segments.now in
    piece_fits segments l.at l.skip l.to l.done _ l.invariant.2 c.if-segments-at.false c.min-n.result (piece c)
    l.invariant.0

pub loop-done-init : goal.loop-done-init
loop-done-init c =
    let s = c.args in
    (omega arith, refl, copying_first s.segments.now s.to.now s.place s.before s.from c.requires)

pub returns-then-segments-at : goal.returns-then-segments-at
returns-then-segments-at c =
    let l = c.loop-done in
    let s = c.args in
    let window = window_of (unpacked s.segments.now).bytes s.from (length s.to.now) in
    record {
      within = omega (arith, l.invariant.0, l.invariant.1);
      all = subst (λ (k : ℕ). take l.done l.to ++ replicate (k - l.done) 0 ≡ window) l.invariant.1
          (nothing_left s.segments.now l.at l.skip l.to l.done window l.invariant.2 c.if-segments-at.true);
    }

pub held_at-held-requires : goal.held_at-held-requires
held_at-held-requires c = omega (arith, (first c).field, (first c).size)

pub overflow_sub-held : goal.overflow_sub-held
overflow_sub-held c = omega (arith, c.loop-done.invariant.2.skips c.if-segments-at.false, c.held_at-held.ensures)

pub overflow_add-done : goal.overflow_add-done
overflow_add-done c =
    let b = c in
    omega (arith, (fits (goal.at.overflow_add-done c).After-min-n).1, b.loop-done.invariant.1)

pub overflow_add-at : goal.overflow_add-at
overflow_add-at c =
    let b = c in
    omega (arith, (first (goal.at.overflow_add-at c).Else-segments-at).size, b.held_at-held.ensures)

pub overflow_add-at-in-loop-done : goal.overflow_add-at-in-loop-done
overflow_add-at-in-loop-done c =
    let b = c in
    omega (arith, (first (goal.at.overflow_add-at-in-loop-done c).Else-segments-at).size, b.held_at-held.ensures)

pub loop-done-smaller : goal.loop-done-smaller
loop-done-smaller c = omega (arith, c.if-segments-at.false)

pub loop-done-preserved : goal.loop-done-preserved
loop-done-preserved c =
    let b = c in
    let l = b.loop-done in
    let s = b.args in
    let p = c.copy_piece in
    let window = window_of (unpacked s.segments.now).bytes s.from (length s.to.now) in
    let next = copying_next s.segments.now l.at l.skip l.to l.done window l.invariant.2 b.if-segments-at.false
    b.min-n.result (piece (goal.at.loop-done-preserved c).After-min-n) l.invariant.0 p.new.to p.ensures in (
      omega (arith, (fits (goal.at.loop-done-preserved c).After-min-n).1, p.auto.to),
      p.auto.to ∙ l.invariant.1,
      subst (λ (k : ℕ). Copying s.segments.now (l.at + (5 + k)) 0 p.new.to (l.done + b.min-n.result) window)
          (sym b.held_at-held.ensures) next,
    )

pub returns : goal.returns
returns c =
    let l = c.loop-done in
    let s = c.args in
    let window = window_of (unpacked s.segments.now).bytes s.from (length s.to.now) in
    record {
      within = omega (arith, l.invariant.0, l.invariant.1);
      all = subst (λ (k : ℕ). take l.done l.to ++ replicate (k - l.done) 0 ≡ window) l.invariant.1
          (all_done s.segments.now l.at l.skip l.to l.done window l.invariant.2 c.loop-done-test.false);
    }

pub overflow_sub-skip : goal.overflow_sub-skip
overflow_sub-skip c = c.requires.before

pub shape_of-to-then-segments-at : goal.shape_of-to-then-segments-at
shape_of-to-then-segments-at c = c.loop-done.invariant.1

pub overflow_sub-to : goal.overflow_sub-to
overflow_sub-to c = c.loop-done.invariant.0

pub overflow_add-first : goal.overflow_add-first
overflow_add-first c = omega (arith, (fits c).0)

pub overflow_add-first-in-loop-done : goal.overflow_add-first-in-loop-done
overflow_add-first-in-loop-done c = omega (arith, (fits c).0)

pub copy_piece-requires : goal.copy_piece-requires
copy_piece-requires c = omega (arith, fits (goal.at.copy_piece-requires c).After-min-n)

pub shape_of-to : goal.shape_of-to
shape_of-to c = c.loop-done.invariant.1
