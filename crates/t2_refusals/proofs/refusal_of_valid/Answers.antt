use borrow.Author.Tests.{eq-eqb, ne_eqb}
use lib.ListN.{length}
use mathlib.Core.Bool.{true, false}
use mathlib.Core.Path.{refl, sym}
use native.Mathlib.Omega.{arith}
use Rattle.t800.specs.WriteHeader.{contribution}
use Rattle.t2_refusals.proofs.Laws.RefusalParts.{measure-parts}
use Rattle.t2_refusal_laws.proofs.Laws.WriterState.{first_words_lem}
use Rattle.t2_refusals.proofs.refusal_of_valid.Goals as goal

pub bounds-state-3 : goal.bounds-state-3
bounds-state-3 c = let s = c in omega (
  arith,
  first_words_lem s.args.state.now (length s.args.state.now) s.requires.0,
)

pub returns-then-state-eq-NOT_YET_INCLUDED : goal.returns-then-state-eq-NOT_YET_INCLUDED
returns-then-state-eq-NOT_YET_INCLUDED c =
    let s = c in
    let a = s.args in
    measure-parts a.state.now (length a.state.now) (contribution a.counts.now a.lengths.now a.marks.now) true true _
    (sym s.requires.0) (sym (eq-eqb _ _ c.if-state-eq-NOT_YET_INCLUDED.true)) refl

pub returns : goal.returns
returns c =
    let s = c in
    let a = s.args in
    measure-parts a.state.now (length a.state.now) (contribution a.counts.now a.lengths.now a.marks.now) true false _
    (sym s.requires.0) (sym (ne_eqb _ _ c.if-state-eq-NOT_YET_INCLUDED.false)) c.contribution_refusal.ensures
