use mathlib.Core.Path.{◌∙◌}
use native.Mathlib.Omega.{arith}
use lib.ListN.{length}
use borrow.Author.Tests.{eq-eqb, ne_eqb, lt-ltb, le-ltb}
use Rattle.t800.specs.WriteHeader.{is_new}
use Rattle.tcd_places.proofs.Laws.Before.{path_wider}
use Rattle.t2_write_new_rows.specs.Setting.{set_next}
use Rattle.t2_write_new_rows.proofs.set_next.Goals as goal

pub returns-then-words-at-ne0 : goal.returns-then-words-at-ne0
unfolding set_next is_new
returns-then-words-at-ne0 c = simp (ne_eqb _ _ c.if-words-at-ne0.true)

pub returns-then-count-eq0 : goal.returns-then-count-eq0
unfolding set_next is_new
returns-then-count-eq0 c = let z = c.if-count-eq0.true in
    simp (eq-eqb _ _ c.if-words-at-ne0.false, le-ltb 0 c.args.count (omega arith))

pub opj_tgt_setvalue-requires : goal.opj_tgt_setvalue-requires
opj_tgt_setvalue-requires c = let s = c in
    path_wider s.args.p.at (length s.args.words.now) _ _ _ _ (omega (arith, s.requires.inside)) s.requires.incl

pub returns : goal.returns
unfolding set_next is_new
returns c = let z = c.if-count-eq0.false in c.opj_tgt_setvalue.ensures
    ∙ simp (
      eq-eqb _ _ c.if-words-at-ne0.false,
      lt-ltb 0 c.args.count (omega arith),
    )
