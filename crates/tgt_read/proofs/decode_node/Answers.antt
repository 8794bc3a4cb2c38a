use mathlib.Core.Path.{ap, ◌∙◌, subst}
use Prim.Native.Nat.{ℕ, ◌+◌, ◌-◌, ◌≤◌}
use native.Mathlib.Omega.{arith}
use lib.Seq.{lt-length-set}
use Rattle.t800.specs.TagTree.{value, read_node}
use Rattle.tgt_read.specs.Reading.{node_read}
use Rattle.tgt_read.proofs.Laws.Reading.{read-nothing, read-sought}
use Rattle.tgt_read.proofs.decode_node.Goals as goal

pub returns-then-limit-from : goal.returns-then-limit-from
returns-then-limit-from c = let s = c in
    let f = c.opj_uint_max-from in
    read-nothing s.args.src.now s.args.threshold s.args.at s.args.low s.args.words.now s.args.b
    f.result f.ensures (subst (λ (m : ℕ). m ≤ f.result) c.opj_uint_min-limit.ensures c.if-limit-from.true)

pub seek-r-requires : goal.seek-r-requires
seek-r-requires c = let s = c in
    (s.requires.0, omega (arith, c.opj_uint_min-limit.ensures, c.if-limit-from.false))

pub bounds-words-at-4 : goal.bounds-words-at-4
bounds-words-at-4 c = let s = c in
    lt-length-set s.args.words.now s.args.at c.seek-r.result.value {i = s.args.at + 1} (omega (arith, s.requires.1))

pub returns : goal.returns
returns c = let s = c in
    let f = c.opj_uint_max-from in
    let v = value s.args.words.now s.args.at in
    read-sought s.args.src.now s.args.threshold s.args.at s.args.low s.args.words.now s.args.b f.result
    (node_read c.seek-r.result) f.ensures
    (c.seek-r.ensures
    ∙ ap (λ (m : ℕ). read_node s.args.src.now (m - f.result) v f.result s.args.b)
    c.opj_uint_min-limit.ensures)
