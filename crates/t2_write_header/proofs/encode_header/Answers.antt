use mathlib.Core.Path.{sym, ◌∙◌}
use borrow.Author.Tests.{eqb-true, eqb-false}
use lib.ListN.{length}
use Rattle.t800.specs.WriteHeader.{contribution}
use Rattle.t2_refusal_laws.proofs.Laws.NotRefused.{not_refused_for}
use Rattle.t2_refusal_laws.proofs.Laws.WriterState.{first_words_lem}
use Rattle.t2_write_header.proofs.Laws.Header.{layer-left, without_passes, with_passes}
use Rattle.t2_write_header.proofs.encode_header.Goals as goal

pub encode_absent-requires : goal.encode_absent-requires
encode_absent-requires c =
    let s = c in
    let a = s.args in
    let ws = a.words.now in
    let r = not_refused_for ws (length ws) (contribution a.counts.now a.lengths.now a.marks.now) s.requires.0 in
    (first_words_lem ws (length ws) r.valid, layer-left ws (length ws) _ r, s.requires.1)

pub returns-then-is_empty : goal.returns-then-is_empty
returns-then-is_empty c =
    let s = c in
    let a = s.args in
    let ws = a.words.now in
    let p = contribution a.counts.now a.lengths.now a.marks.now in
    let r = not_refused_for ws (length ws) p s.requires.0 in
    c.encode_absent.ensures
    ∙ without_passes ws (length ws) p r (eqb-true _ 0 (sym c.is_empty.ensures ∙ c.if-is_empty.true))
    a.start a.out.now

pub returns : goal.returns
returns c =
    let s = c in
    let a = s.args in
    let ws = a.words.now in
    let p = contribution a.counts.now a.lengths.now a.marks.now in
    let r = not_refused_for ws (length ws) p s.requires.0 in
    c.encode_present.ensures
    ∙ with_passes ws (length ws) p r (eqb-false _ 0 (sym c.is_empty.ensures ∙ c.if-is_empty.false))
    a.start a.out.now
