use borrow.Author.Tests.{eq-eqb, ne_eqb}
use mathlib.Core.Path.{◌∙◌, refl}
use native.Mathlib.Omega.{arith}
use Rattle.t2_segments.specs.Segments.{first_segment}
use Rattle.t2_segments.proofs.Laws.Segments.{pass_stays, pass_is_last, no_pass_left}
use Rattle.t2_segments.proofs.segment_at.Goals as goal

pub loop-i-init : goal.loop-i-init
unfolding first_segment
loop-i-init c = (omega arith, omega arith, refl)

pub overflow_add-bytes : goal.overflow_add-bytes
overflow_add-bytes c = omega (arith, c.from-bytes.ensures)

pub returns-then-marks-i-ne0 : goal.returns-then-marks-i-ne0
returns-then-marks-i-ne0 c =
    let s = c in
    let l = c.loop-i in
    rw c.from-bytes.ensures (pass_is_last s.args.lengths.now s.args.marks.now l.i l.passes l.bytes (omega arith) s.requires.0.0
    (ne_eqb _ _ c.if-marks-i-ne0.true) ∙ l.invariant.2)

pub loop-i-preserved : goal.loop-i-preserved
loop-i-preserved c =
    let s = c in
    let l = c.loop-i in (
      omega arith,
      omega (arith, c.from-bytes.ensures),
      rw c.from-bytes.ensures (pass_stays s.args.lengths.now s.args.marks.now l.i l.passes l.bytes (omega arith) s.requires.0.0
          (eq-eqb _ _ c.if-marks-i-ne0.false) ∙ l.invariant.2),
    )

pub returns : goal.returns
returns c =
    let s = c in
    let l = c.loop-i in
    no_pass_left s.args.lengths.now s.args.marks.now l.i l.passes l.bytes (omega arith) ∙ l.invariant.2
