use mathlib.Core.Path.{◌∙◌}
use Rattle.bio_read.specs.Reading.{decoded}
use Rattle.bio_read.proofs.Laws.ReadChunks.{get_bit-ct}
use Rattle.t2_read_codes.proofs.Laws.PassCount.{ct_kept, passes_1, passes_2, passes_more}
use Rattle.t2_read_codes.proofs.opj_t2_getnumpasses.Goals as goal

pub returns-then-first-eq0 : goal.returns-then-first-eq0
returns-then-first-eq0 c =
    let first = c.bit_in-first in
    let a = c.args in
    passes_1 a.src.now a.b (decoded first.result) first.ensures c.if-first-eq0.true

pub bit_in-second-requires : goal.bit_in-second-requires
bit_in-second-requires c =
    let s = c in
    ct_kept _ _ c.bit_in-first.ensures (get_bit-ct s.args.src.now s.args.b s.requires)

pub returns-then-second-eq0 : goal.returns-then-second-eq0
returns-then-second-eq0 c =
    let second = c.bit_in-second in
    let first = c.bit_in-first in
    let a = c.args in
    passes_2 a.src.now a.b (decoded first.result) first.ensures c.if-first-eq0.false
    (decoded second.result) second.ensures c.if-second-eq0.true

pub passes_from_3-requires : goal.passes_from_3-requires
passes_from_3-requires c =
    let first = c.bit_in-first in
    let s = c in
    let src = s.args.src.now in
    let h = ct_kept _ _ first.ensures (get_bit-ct src s.args.b s.requires) in
    ct_kept _ _ c.bit_in-second.ensures (get_bit-ct src first.result.bio h)

pub returns : goal.returns
returns c =
    let second = c.bit_in-second in
    let first = c.bit_in-first in
    let a = c.args in
    c.passes_from_3.ensures
    ∙ passes_more a.src.now a.b (decoded first.result) first.ensures c.if-first-eq0.false
    (decoded second.result) second.ensures c.if-second-eq0.false
