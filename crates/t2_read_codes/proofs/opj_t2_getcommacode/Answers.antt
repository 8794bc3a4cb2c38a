use mathlib.Core.Path.{◌≡◌, sym, ap, ◌∙◌, subst}
use Prim.Native.Nat.{ℕ, ◌+◌, ◌-◌, ◌≤◌, ◌<◌}
use native.Mathlib.Omega.{arith}
use Rattle.t800.specs.Bits.{Decoded}
use Rattle.t800.specs.Segments.{read_ones}
use Rattle.bio_read.proofs.Laws.ReadChunks.{get_bit-ct}
use Rattle.t2_read_codes.specs.CommaCode.{ones_limit, read_comma_limited}
use Rattle.t2_read_codes.proofs.Laws.CommaCode.{ones_end, ones_on}
use Rattle.t2_read_codes.proofs.opj_t2_getcommacode.Goals as goal

pub loop-value-init : goal.loop-value-init
unfolding read_comma_limited ones_limit
loop-value-init c =
    let all : c.ones_limit-limit.result - 0 ≡ c.ones_limit-limit.result = omega arith in
    (c.requires, ap (λ (f : ℕ). read_ones c.args.src.now f 0 c.args.b) (all ∙ c.ones_limit-limit.ensures))

pub returns-then-r-eq0 : goal.returns-then-r-eq0
returns-then-r-eq0 c =
    let l = c.loop-value in
    let e = c.bit_in-r.ensures in
    let more : 0 < c.ones_limit-limit.result - l.value = omega (arith, c.loop-value-test.true) in
    ap (λ (d : Decoded). record { value = l.value; bio = d.bio }) e
    ∙ sym (ones_end c.args.src.now (c.ones_limit-limit.result - l.value) l.value
    l.bio more (sym (ap (λ (d : Decoded). d.value) e) ∙ c.if-r-eq0.true))
    ∙ l.invariant.1

pub loop-value-preserved : goal.loop-value-preserved
loop-value-preserved c =
    let l = c.loop-value in
    let src = c.args.src.now in
    let limit = c.ones_limit-limit.result in
    let e = c.bit_in-r.ensures in
    let more : 0 < limit - l.value = omega (arith, c.loop-value-test.true) in
    let one : limit - (l.value + 1) ≡ limit - l.value - 1 = omega arith in (
      subst (λ (d : Decoded). d.bio.ct ≤ 8) (sym e) (get_bit-ct src l.bio l.invariant.0),
      (λ j. read_ones src (one j) (l.value + 1) (e j).bio)
          ∙ sym (ones_on src (limit - l.value) l.value l.bio more
          (λ z. c.if-r-eq0.false (ap (λ (d : Decoded). d.value) e ∙ z)))
          ∙ l.invariant.1,
    )

pub returns : goal.returns
unfolding read_ones
returns c =
    let l = c.loop-value in
    let e : l.value ≡ c.ones_limit-limit.result = omega (arith, c.loop-value-test.false, l.auto.value-end) in
    let z : c.ones_limit-limit.result - l.value ≡ 0 = omega arith in
    rw (← e) (rw z at l.invariant.1)
