use mathlib.Core.Path.{◌≡◌, sym, ap, ◌∙◌, subst}
use mathlib.Core.List.{List, []}
use Prim.Native.Nat.{ℕ, ◌+◌, ◌/◌, ◌^◌, ◌≤◌, ◌<◌}
use native.Mathlib.Omega.{arith}
use lib.ListN.{get_or, set, take, drop, drop_of_length-le}
use lib.Seq.{length-take-le}
use Rattle.t800.specs.TagTree.{set_value}
use Rattle.tgt.specs.Path.{nodes_over}
use Rattle.tgt.proofs.Laws.Path.{node_up}
use Rattle.tgt_set.proofs.Laws.Setting.{set_stop, set_on}
use Rattle.tgt_set.proofs.opj_tgt_setvalue.Goals as goal

pub returns-then-words-at : goal.returns-then-words-at
returns-then-words-at c = let s = c in
    let l = c.loop-i in
    let row = s.args.row.now in
    let up = node_up row s.args.depth s.args.x l.i s.requires.long c.loop-i-test.true in
    sym (set_stop s.args.base _ _ s.args.value l.words
    (subst (λ (a : ℕ). get_or l.words a 0 ≤ s.args.value) c.first_word-at.ensures c.if-words-at.true))
    ∙ ap (λ (ns : List ℕ). set_value s.args.base ns s.args.value l.words) (sym up)
    ∙ l.invariant

pub loop-i-preserved : goal.loop-i-preserved
loop-i-preserved c = let s = c in
    let l = c.loop-i in
    let row = s.args.row.now in
    let at = c.first_word-at.ensures in
    let up = node_up row s.args.depth s.args.x l.i s.requires.long c.loop-i-test.true in
    ap (λ (a : ℕ). set_value s.args.base
    (nodes_over (drop (l.i + 1) (take s.args.depth row)) (s.args.x / 2 ^ (l.i + 1))) s.args.value
    (set l.words a s.args.value)) at
    ∙ sym (set_on s.args.base _ _ s.args.value l.words
    (subst (λ (a : ℕ). s.args.value < get_or l.words a 0) at c.if-words-at.false))
    ∙ ap (λ (ns : List ℕ). set_value s.args.base ns s.args.value l.words) (sym up)
    ∙ l.invariant

pub returns : goal.returns
unfolding nodes_over set_value
returns c = let s = c in
    let l = c.loop-i in
    let k = length-take-le s.args.depth s.args.row.now s.requires.long in
    let none : drop l.i (take s.args.depth s.args.row.now)
    ≡ [] = drop_of_length-le (take s.args.depth s.args.row.now) {i = l.i} (omega arith) in
    rw none at l.invariant
