use mathlib.Core.Path.{◌≡◌, sym, ap, ◌∙◌, subst}
use mathlib.Core.Bool.{false}
use mathlib.Core.List.{List}
use native.Mathlib.Omega.{arith}
use Rattle.t800.specs.Segments.{Segment}
use Rattle.bio_bytes.specs.Writing.{output}
use Rattle.t2_segments.specs.Segments.{block_too_wide}
use Rattle.t2_segments.proofs.Laws.Segments.{first_not_long}
use Rattle.t2_write_lengths.specs.Lengths.{put_lengths}
use Rattle.t2_write_lengths.proofs.Laws.OneSegment.{one_segment_lem}
use Rattle.t2_write_lengths.proofs.put_lengths.Goals as goal

pub put_one_length-requires : goal.put_one_length-requires
put_one_length-requires c =
    let s = c in
    let e = one_segment_lem s.args.lengths.now s.args.marks.now _ _ (sym s.requires.4.marked)
    (omega (arith, s.requires.2, s.requires.3)) c.segment_at-first.ensures (c.if-first-count.true ∙ s.requires.3) in (
      s.requires.0,
      s.requires.1,
      s.requires.2,
      omega (arith, s.requires.3, s.requires.4.few),
      s.requires.5,
      (first_not_long _ _ _ e s.requires.4.short).0,
      subst (λ (ss : List Segment). block_too_wide s.args.before ss ≡ false) e s.requires.6,
    )

pub returns-then-first-count : goal.returns-then-first-count
returns-then-first-count c =
    let s = c in
    c.put_one_length.ensures
    ∙ ap (put_lengths (output s.args.out.now s.args.b) s.args.before s.args.count)
    (sym (one_segment_lem s.args.lengths.now s.args.marks.now _ _ (sym s.requires.4.marked)
    (omega (arith, s.requires.2, s.requires.3)) c.segment_at-first.ensures
    (c.if-first-count.true ∙ s.requires.3)))
