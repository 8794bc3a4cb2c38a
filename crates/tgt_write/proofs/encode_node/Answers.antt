use mathlib.Core.Path.{sym, ap, ◌∙◌}
use Prim.Native.Nat.{ℕ}
use Rattle.bio_bytes.specs.Writing.{output}
use Rattle.tgt_write.specs.Coding.{code_from}
use Rattle.tgt_write.proofs.Laws.Coding.{code_past}
use Rattle.tgt_write.proofs.encode_node.Goals as goal

pub returns-then-threshold-from : goal.returns-then-threshold-from
returns-then-threshold-from c =
    let s = c in
    let ws = s.args.words.now in
    let o = output s.args.out.now s.args.b in
    sym (code_past s.args.threshold s.args.at c.opj_uint_max-from.result ws o c.if-threshold-from.true)
    ∙ ap (λ (f : ℕ). code_from s.args.threshold s.args.at f ws o) c.opj_uint_max-from.ensures

pub returns : goal.returns
returns c =
    let s = c in
    c.encode_above.ensures
    ∙ ap (λ (f : ℕ). code_from s.args.threshold s.args.at f s.args.words.now (output s.args.out.now s.args.b))
    c.opj_uint_max-from.ensures
