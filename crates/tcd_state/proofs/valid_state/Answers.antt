use mathlib.Core.Path.{◌∙◌, sym}
use borrow.Author.Tests.{ne_eqb}
use Rattle.tcd_state.specs.Front.{words_in_front}
use Rattle.tcd_state.proofs.Laws.Front.{some_words, none_in_front, words_behind, some_in_front}
use Rattle.tcd_state.proofs.valid_state.Goals as goal

pub returns-in_default : goal.returns-in_default
returns-in_default c =
    let a = c.args in
    none_in_front a.role a.state.now a.scratch_len (sym c.in_default.is ∙ c.state_in_front.ensures)

pub returns-then-words-state : goal.returns-then-words-state
returns-then-words-state c =
    let a = c.args in
    some_in_front a.role a.state.now a.scratch_len _ c.in-Some.ensures c.if-words-state.true

pub returns-else-words-state : goal.returns-else-words-state
returns-else-words-state c =
    let a = c.args in
    let w = some_words (words_in_front a.role a.state.now) c.in-Some.ensures in
    ne_eqb _ _ c.if-words-state.false ∙ words_behind a.role a.state.now a.scratch_len (λ e. absurd (c.if-words-state.false (w.0 ∙ e)))
