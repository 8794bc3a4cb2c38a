use Rattle.std.proofs.Common.{◌∙◌, eq-eqb, ne_eqb, sym, true, false, refl}
use Rattle.tcd_laws.proofs.Laws.FirstWords.{shape_parts}
use Rattle.tcd_first_words.proofs.shape_in_range.Goals as goal

pub returns-then-word-role : goal.returns-then-word-role
returns-then-word-role c =
    shape_parts c.args.role c.args.state.now _ _ true _ c.word-then-word-role.ensures c.requires
    (sym (eq-eqb _ _ (sym c.word.ensures ∙ c.if-word-role.true))) c.bad_shape.ensures

pub returns-else-word-role : goal.returns-else-word-role
returns-else-word-role c =
    rw (ne_eqb _ _ c.if-word-role.false)
    (shape_parts c.args.role c.args.state.now _ _ false _ refl c.requires
    (sym (ne_eqb _ _ (λ e. c.if-word-role.false (c.word.ensures ∙ e)))) refl)
