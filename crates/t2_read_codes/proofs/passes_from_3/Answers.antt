use mathlib.Core.Path.{ap, ◌∙◌}
use native.Mathlib.Omega.{arith}
use Rattle.t800.specs.Bits.{Decoded}
use Rattle.bio_read.specs.Reading.{decoded}
use Rattle.t800_laws.proofs.Laws.ReadValues.{read_bits-below}
use Rattle.bio_read.proofs.Laws.ReadChunks.{read_bits-ct}
use Rattle.t2_read_codes.proofs.Laws.PassCount.{ct_kept, from_3, from_6, from_37}
use Rattle.t2_read_codes.proofs.passes_from_3.Goals as goal

pub plus-requires : goal.plus-requires
plus-requires c = omega (arith, c.if-two-le2.true)

pub returns-then-two-le2 : goal.returns-then-two-le2
returns-then-two-le2 c =
    let two = c.opj_bio_read-two in
    let a = c.args in
    c.plus.ensures ∙ from_3 a.src.now a.b (decoded two.result) two.ensures (omega (arith, c.if-two-le2.true))

pub opj_bio_read-five-requires : goal.opj_bio_read-five-requires
opj_bio_read-five-requires c =
    let s = c in
    (ct_kept _ _ c.opj_bio_read-two.ensures (read_bits-ct s.args.src.now 2 s.args.b s.requires), omega arith)

pub plus-requires-then-five-le30 : goal.plus-requires-then-five-le30
plus-requires-then-five-le30 c = omega (arith, c.if-five-le30.true)

pub returns-then-five-le30 : goal.returns-then-five-le30
returns-then-five-le30 c =
    let five = c.opj_bio_read-five in
    let two = c.opj_bio_read-two in
    let a = c.args in
    c.plus-then-five-le30.ensures
    ∙ from_6 a.src.now a.b (decoded two.result) two.ensures c.if-two-le2.false
    (decoded five.result) five.ensures (omega (arith, c.if-five-le30.true))

pub opj_bio_read-requires : goal.opj_bio_read-requires
opj_bio_read-requires c =
    let two = c.opj_bio_read-two in
    let s = c in
    let src = s.args.src.now in
    let h = ct_kept _ _ two.ensures (read_bits-ct src 2 s.args.b s.requires) in
    (ct_kept _ _ c.opj_bio_read-five.ensures (read_bits-ct src 5 two.result.bio h), omega arith)

pub plus-requires-2 : goal.plus-requires-2
plus-requires-2 c =
    let l = read_bits-below c.args.src.now 7
    c.opj_bio_read-five.result.bio in
    omega (arith, ap (λ (d : Decoded). d.value) c.opj_bio_read.ensures)

pub returns : goal.returns
returns c =
    let seven = c.opj_bio_read in
    let five = c.opj_bio_read-five in
    let two = c.opj_bio_read-two in
    let a = c.args in
    c.plus-2.ensures
    ∙ from_37 a.src.now a.b (decoded two.result) two.ensures c.if-two-le2.false
    (decoded five.result) five.ensures c.if-five-le30.false (decoded seven.result) seven.ensures
