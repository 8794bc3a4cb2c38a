use mathlib.Core.Path.{refl, sym, ap, ◌∙◌, subst}
use Prim.Native.Nat.{◌+◌, ◌-◌, ◌≤◌}
use native.Mathlib.Omega.{arith}
use Rattle.t800.specs.declared.Bio.{Bio}
use Rattle.t800.specs.TagTree.{read_node}
use Rattle.bio_read.proofs.Laws.ReadChunks.{byte_in-ct}
use Rattle.tgt_read.specs.Reading.{seen}
use Rattle.tgt_read.proofs.Laws.Seeking.{runs_on_is, not_on, seek_turn, seek_end, seek_one_lem}
use Rattle.tgt_read.proofs.seek_chunks.Goals as goal

pub loop-from-init : goal.loop-from-init
loop-from-init c = let s = c in (s.requires.0, s.requires.1, refl)

pub runs_on-requires : goal.runs_on-requires
runs_on-requires c = c.loop-from.invariant.0

pub overflow_add-from : goal.overflow_add-from
overflow_add-from c = let l = c.loop-from in
    let on = runs_on_is l.bio l.more (sym c.runs_on.ensures ∙ c.loop-from-test.true) in
    omega (arith, on.0, l.invariant.1)

pub overflow_sub-more : goal.overflow_sub-more
overflow_sub-more c = let l = c.loop-from in
    let on = runs_on_is l.bio l.more (sym c.runs_on.ensures ∙ c.loop-from-test.true) in
    omega (arith, on.0)

pub loop-from-smaller : goal.loop-from-smaller
loop-from-smaller c = let l = c.loop-from in
    let on = runs_on_is l.bio l.more
    (sym c.runs_on.ensures ∙ c.loop-from-test.true) in
    let r = byte_in-ct c.args.src.now l.bio in
    omega (arith, on.0, l.invariant.0, r.0, ap (λ (b : Bio). b.ct) c.opj_bio_bytein-bio.ensures)

pub loop-from-preserved : goal.loop-from-preserved
loop-from-preserved c = let s = c in
    let src = s.args.src.now in
    let l = c.loop-from in
    let on = runs_on_is l.bio l.more
    (sym c.runs_on.ensures ∙ c.loop-from-test.true) in
    let r = byte_in-ct src l.bio in
    let e = c.opj_bio_bytein-bio.ensures in (
      subst (λ (b : Bio). b.ct ≤ 8) (sym e) r.1,
      omega (arith, on.0, l.invariant.1),
      ap (read_node src (l.more - l.bio.ct) s.args.value (l.from + l.bio.ct)) e
          ∙ seek_turn src l.bio l.more s.args.value l.from l.invariant.1 on.0 on.1 ∙ l.invariant.2,
    )

pub leading_zeros-z-requires : goal.leading_zeros-z-requires
leading_zeros-z-requires c = c.loop-from.invariant.0

pub after_bits-after-requires : goal.after_bits-after-requires
after_bits-after-requires c = omega (arith, c.leading_zeros-z.ensures.at_most, c.if-more-z.true)

pub overflow_add-result : goal.overflow_add-result
overflow_add-result c = omega (arith, c.loop-from.invariant.1)

pub returns-then-more-z : goal.returns-then-more-z
returns-then-more-z c = let s = c in
    let l = c.loop-from in
    ap (seen s.args.value (l.from + l.more)) c.after_bits-after.ensures
    ∙ sym (seek_end s.args.src.now l.bio l.more s.args.value l.from c.leading_zeros-z.result
    l.invariant.1 c.leading_zeros-z.ensures c.if-more-z.true)
    ∙ l.invariant.2

pub overflow_add-reached : goal.overflow_add-reached
overflow_add-reached c = omega (arith, c.loop-from.invariant.1, c.if-more-z.false)

pub overflow_add-z : goal.overflow_add-z
overflow_add-z c = omega (arith, c.leading_zeros-z.ensures.at_most, c.loop-from.invariant.0)

pub after_bits-after-requires-2 : goal.after_bits-after-requires-2
after_bits-after-requires-2 c = let l = c.loop-from in
    let z = c.leading_zeros-z in
    omega (
      arith,
      not_on l.bio l.more z.result
          (sym c.runs_on.ensures ∙ c.loop-from-test.false) z.ensures c.if-more-z.false,
    )

pub returns : goal.returns
returns c = let s = c in
    let l = c.loop-from in
    let z = c.leading_zeros-z in
    let g = not_on l.bio l.more z.result
    (sym c.runs_on.ensures ∙ c.loop-from-test.false) z.ensures
    c.if-more-z.false in
    ap (seen (l.from + z.result) (l.from + z.result)) c.after_bits-after-2.ensures
    ∙ sym (seek_one_lem s.args.src.now l.bio l.more s.args.value l.from z.result l.invariant.1 z.ensures
    c.if-more-z.false g)
    ∙ l.invariant.2
